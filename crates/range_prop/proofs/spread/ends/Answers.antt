-- The entry counts most at the low end where its part for each unit is negative.
use Rattle.std.proofs.Common.{◌≡◌, ◌∙◌, ◌≤ℤ◌, pos, ◌+ℤ◌, ◌*ℤ◌, ℤ, to_z, of_z, sym, subst, arith}
use Rattle.std.proofs.lemmas.Int.{ints}
use Rattle.row_kit.specs.Row.{counted}
use Rattle.row_kit.proofs.Values.{part_above}
use Rattle.range_prop.proofs.spread.ends.Goals as goal
use mir.Syntax.{w128}

pub returns-then-entry-lt0-clause-most : goal.returns-then-entry-lt0-clause-most
returns-then-entry-lt0-clause-most c = λ v h k.
    let e = c.args.entry.now in
    let exact : to_z w128 (of_z w128 c.at_value-first.result) ≡ c.at_value-first.result = omega (arith, ints, c.at_value-first.ensures.small) in
    let down : e.per ≤ℤ pos 0 = grind (arith, ints) in
    let here : counted e v ≡ e.fixed +ℤ (e.per *ℤ pos v) = part_above e.fixed e.per v (omega arith) in
    let first : counted e c.args.lo ≡ e.fixed +ℤ (e.per *ℤ pos c.args.lo) = part_above e.fixed e.per c.args.lo c.requires.positive in
    let most : counted e v ≤ℤ counted e c.args.lo = grind (arith, ints) in
    subst (λ (x : ℤ). counted e v ≤ℤ x) (sym (exact ∙ c.at_value-first.ensures.value)) most
