-- Lines by their numbers.
use Rattle.std.proofs.Common.{◌≡◌, ℤ, List, [], ◌∷◌, length, refl, arith}
use Rattle.derivation_lines.proofs.Lines.{z_at}

-- seven numbers by their places
pub seven_is : (xs : List ℤ) (a b c d e f g : ℤ) → length xs ≡ 7 → a ≡ z_at xs 0 → b ≡ z_at xs 1 → c ≡ z_at xs 2 → d ≡ z_at xs 3 → e ≡ z_at xs 4 → f ≡ z_at xs 5 → g ≡ z_at xs 6 → a ∷ b ∷ c ∷ d ∷ e ∷ f ∷ g ∷ [] ≡ xs
seven_is [] a b c d e f g long is0 is1 is2 is3 is4 is5 is6 = absurd (omega arith)
seven_is (x0 ∷ []) a b c d e f g long is0 is1 is2 is3 is4 is5 is6 = absurd (omega arith)
seven_is (x0 ∷ x1 ∷ []) a b c d e f g long is0 is1 is2 is3 is4 is5 is6 = absurd (omega arith)
seven_is (x0 ∷ x1 ∷ x2 ∷ []) a b c d e f g long is0 is1 is2 is3 is4 is5 is6 = absurd (omega arith)
seven_is (x0 ∷ x1 ∷ x2 ∷ x3 ∷ []) a b c d e f g long is0 is1 is2 is3 is4 is5 is6 = absurd (omega arith)
seven_is (x0 ∷ x1 ∷ x2 ∷ x3 ∷ x4 ∷ []) a b c d e f g long is0 is1 is2 is3 is4 is5 is6 = absurd (omega arith)
seven_is (x0 ∷ x1 ∷ x2 ∷ x3 ∷ x4 ∷ x5 ∷ []) a b c d e f g long is0 is1 is2 is3 is4 is5 is6 = absurd (omega arith)
seven_is (x0 ∷ x1 ∷ x2 ∷ x3 ∷ x4 ∷ x5 ∷ x6 ∷ []) a b c d e f g long is0 is1 is2 is3 is4 is5 is6 = rw (is0, is1, is2, is3, is4, is5, is6) refl
seven_is (x0 ∷ x1 ∷ x2 ∷ x3 ∷ x4 ∷ x5 ∷ x6 ∷ x7 ∷ xs) a b c d e f g long is0 is1 is2 is3 is4 is5 is6 = absurd (omega arith)
