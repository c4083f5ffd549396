-- The product is exact, and compares as the floor that counts.
use Rattle.std.proofs.Common.{◌≡◌, ◌∙◌, ◌+◌, ◌*◌, ◌≤◌, ◌^◌, ℤ, ap, sym, pos, ◌+ℤ◌, ◌*ℤ◌, unsigned_abs, to_z, of_z, arith}
use Rattle.std.specs.Prelude.{int_le}
use Rattle.std.proofs.lemmas.Int.{ints}
use Rattle.dual_bound.proofs.Nearness.{exact, near_same}
use Rattle.dual_bound.proofs.Small.{times_abs}
use Rattle.dual_bound.proofs.trimming.scaled_next.Goals as goal
use mir.Syntax.{w128}

pub returns-clause-same : goal.returns-clause-same
returns-clause-same c = λ x h.
    let n = c.near.result in
    let scale = c.args.scale in
    let from : to_z w128 (of_z w128 c.from.result) ≡ pos scale = omega (arith, ints, c.from.ensures, c.requires) in
    let more : to_z w128 (of_z w128 (to_z w128 (of_z w128 n) +ℤ pos 1)) ≡ n +ℤ pos 1 = omega (arith, ints, c.near.ensures.small) in
    let next : unsigned_abs (n +ℤ pos 1) ≤ 2 ^ 106 + 1 = omega (arith, ints, c.near.ensures.small) in
    let small : unsigned_abs (pos scale *ℤ (n +ℤ pos 1)) ≤ 1048576 * (2 ^ 106 + 1) = times_abs scale 1048576 (2 ^ 106 + 1) (n +ℤ pos 1) c.requires next in
    let product =
    ap (λ (y : ℤ). to_z w128 (of_z w128 (y *ℤ to_z w128 (of_z w128 (to_z w128 (of_z w128 n) +ℤ pos 1))))) from
    ∙ ap (λ (y : ℤ). to_z w128 (of_z w128 (pos scale *ℤ y))) more
    ∙ exact (pos scale *ℤ (n +ℤ pos 1)) (omega (arith, small)) in
    near_same scale c.args.floor.now n x c.near.ensures.above c.near.ensures.below c.near.ensures.same h ∙ sym (ap (λ (y : ℤ). int_le y x) product)
