-- The point is the least of the root, and it is tested.
use Rattle.std.proofs.Common.{◌≡◌, ◌∙◌, ap, subst, to_z, of_z, arith}
use Rattle.std.proofs.lemmas.Int.{ints}
use Rattle.row_kit.specs.Point.{IsLawful, worth_of}
use Rattle.row_relax.specs.Settle.{only_point}
use Rattle.plan_told.proofs.Least.{least-none, least-some}
use Rattle.plan_told.proofs.given.least_found.Goals as goal
use mir.Syntax.{w128}

pub returns-then-not-is_lawful : goal.returns-then-not-is_lawful
returns-then-not-is_lawful c =
    let program = c.args.program.now in
    let is = c.as_slice-2.ensures ∙ c.in_ok-point.ensures ∙ ap only_point c.as_slice.ensures in
    least-none program c.as_slice-2.result.now c.is_lawful.result is c.is_lawful.ensures.1 c.if-not-is_lawful.true

pub returns : goal.returns
returns c =
    let program = c.args.program.now in
    let is : c.in_ok-point.point ≡ only_point program.root = c.in_ok-point.ensures ∙ ap only_point c.as_slice.ensures in
    let lawful : IsLawful program c.in_ok-point.point = subst (IsLawful program) c.as_slice-2.ensures (c.is_lawful.ensures.0 c.if-not-is_lawful.false) in
    let exact : to_z w128 (of_z w128 c.worth-value.result) ≡ c.worth-value.result = omega (arith, ints, c.worth-value.type_inv) in
    least-some program c.in_ok-point.point (to_z w128 (of_z w128 c.worth-value.result)) is lawful (exact ∙ c.worth-value.ensures.worth ∙ ap (worth_of program) c.as_slice-3.ensures)
