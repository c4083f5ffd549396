-- Whether the point is lawful decides.
use Rattle.std.proofs.lemmas.Int.{ints}
use Rattle.std.proofs.Common.{to_z, of_z, ◌≡◌, ◌∙◌, Bool, true, List, ℕ, ap, sym, arith}
use Rattle.std.proofs.lemmas.Bool.{cond-true, cond-false}
use Rattle.row_kit.specs.declared.program.Program.{Program}
use Rattle.row_kit.specs.Point.{IsLawful, worth_of}
use Rattle.proof_tree.specs.declared.capped.Capped.TheVariants.{AtMost, NoPoint}
use Rattle.range_prop.proofs.Multiples.{same_test}
use Rattle.row_relax.specs.laws.Lawful.{lawful_true, true_lawful}
use Rattle.row_relax.specs.Settle.{is_lawful}
use Rattle.row_relax.proofs.settling.cap_at.Goals as goal
use mir.Syntax.{w128}

lawful_decides : (b : Bool) (program : Program) (p : List ℕ) → (b ≡ true → IsLawful program p) → (IsLawful program p → b ≡ true) → b ≡ is_lawful program p
lawful_decides b program p to from' = same_test b (is_lawful program p) (λ e. lawful_true program p (to e)) (λ e. from' (true_lawful program p e))

pub returns-then-lawful : goal.returns-then-lawful
returns-then-lawful c =
    let program = c.args.program.now in
    let point = c.args.point.now in
    let lawful = sym (lawful_decides c.args.lawful program point c.requires.0 c.requires.1) ∙ c.if-lawful.true in
    let exact : to_z w128 (of_z w128 c.worth.result) ≡ c.worth.result = omega (arith, ints, c.worth.type_inv) in
    ap AtMost (exact ∙ c.worth.ensures.worth) ∙ sym (cond-true (is_lawful program point) (AtMost (worth_of program point)) NoPoint lawful)

pub returns-else-lawful : goal.returns-else-lawful
returns-else-lawful c =
    let program = c.args.program.now in
    let point = c.args.point.now in
    let lawful = sym (lawful_decides c.args.lawful program point c.requires.0 c.requires.1) ∙ c.if-lawful.false in
    sym (cond-false (is_lawful program point) (AtMost (worth_of program point)) NoPoint lawful)
