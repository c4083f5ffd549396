-- The cap holds, since the total bounds scale times each value.
use Rattle.std.proofs.Common.{◌≡◌, ◌^◌, to_z, of_z, sym, subst, arith}
use Rattle.std.proofs.lemmas.Int.{ints}
use Rattle.row_kit.specs.Area.{present}
use Rattle.dual_bound.specs.Total.{BoundsScaled}
use Rattle.dual_bound.specs.Cap.{IsSmallCap}
use Rattle.dual_bound.proofs.Small.{cap_small}
use Rattle.dual_bound.proofs.Caps.{cap_holds}
use Rattle.dual_bound.proofs.capping.cap.Goals as goal
use mir.Syntax.{w128}

pub returns-in-Some-clause-small : goal.returns-in-Some-clause-small
returns-in-Some-clause-small c =
    let scale = c.args.cert.now.scale in
    let t = c.in-Some.total in
    let same : to_z w128 (of_z w128 t) ≡ t = omega (arith, ints, c.in-Some.ensures.small) in
    subst (IsSmallCap (10 ^ 30)) (sym c.scaled.ensures.cap) (cap_small scale (10 ^ 30) (to_z w128 (of_z w128 t)) (omega (arith, ints, same, c.in-Some.ensures.small)))

pub returns-in-Some-clause-holds : goal.returns-in-Some-clause-holds
returns-in-Some-clause-holds c =
    let program = c.args.program.now in
    let ds = present c.args.area.now in
    let scale = c.args.cert.now.scale in
    let t = c.in-Some.total in
    let same : to_z w128 (of_z w128 t) ≡ t = omega (arith, ints, c.in-Some.ensures.small) in
    cap_holds program ds scale (to_z w128 (of_z w128 t)) c.scaled.result c.scaled.ensures.cap c.scaled.ensures.floor (subst (BoundsScaled program ds scale) (sym same) c.in-Some.ensures.duality)
