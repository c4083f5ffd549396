-- The comparison is that of the two products.
use Rattle.std.proofs.Common.{ℤ, ◌≡◌, ◌∙◌, pos, ◌*ℤ◌, ◌≤ℤ◌, IsTrue, to_z, of_z, ap, arith}
use Rattle.std.proofs.lemmas.Int.{ints}
use Rattle.derived_rows.specs.Line.{line_at, parts_term}
use Rattle.derived_rows.proofs.parts.Parts.is_below.Goals as goal
use lib.Signed.{le_z}
use mir.Syntax.{w128}

decided : (x y a b : ℤ) → x ≡ a → y ≡ b → (IsTrue (le_z x y) → a ≤ℤ b) × (a ≤ℤ b → IsTrue (le_z x y))
decided x y a b p q = (λ t. grind (arith, ints), λ h. grind (arith, ints))

pub returns : goal.returns
returns c =
    let derived = c.args.derived.now in
    let own : to_z w128 (of_z w128 c.at.result) ≡ line_at c.args.self.now.own c.args.value = omega (arith, ints, c.at.ensures.value, c.at.ensures.small) in
    let term : to_z w128 (of_z w128 c.term.result) ≡ parts_term derived c.args.self.now c.args.value = omega (arith, ints, c.term.ensures.value, c.term.ensures.small) in
    let left : to_z w128 (of_z w128 c.times.result) ≡ c.times.result = omega (arith, ints, c.times.ensures.small) in
    let right : to_z w128 (of_z w128 c.times-2.result) ≡ c.times-2.result = omega (arith, ints, c.times-2.ensures.small) in
    decided _ _ _ _
    (left ∙ c.times.ensures.value ∙ ap (λ (x : ℤ). pos derived.down *ℤ x) own)
    (right ∙ c.times-2.ensures.value ∙ ap (λ (x : ℤ). pos derived.up *ℤ x) term)
