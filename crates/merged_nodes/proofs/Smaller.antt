-- The order of caps, in which ends are compared.
use Rattle.std.proofs.Common.{◌≡◌, Bool, true, false, refl, arith}
use Rattle.std.specs.Prelude.{ℤ, int_lt}
use Rattle.std.proofs.lemmas.Bool.{false≢true, true≢false}
use Rattle.std.proofs.lemmas.Int.{ints}
use Rattle.proof_tree.specs.declared.capped.Capped.{Capped}
use Rattle.proof_tree.specs.declared.capped.Capped.TheVariants.{AtMost, NoPoint, Bad}
use Rattle.merged_nodes.specs.Merged.{is_smaller}

less-itself : (a : ℤ) → int_lt a a ≡ false
less-itself a = at (int_lt a a) refl
  where
    at : (less : Bool) → int_lt a a ≡ less → less ≡ false
    at true is = grind (arith, ints)
    at false is = refl

-- c is not less than a, and b is: so c is not less than b, and b is less than c
less-still : (a b c : ℤ) → int_lt c a ≡ false → int_lt b a ≡ true → int_lt c b ≡ false
less-still a b c not less = at (int_lt c b) refl
  where
    at : (own : Bool) → int_lt c b ≡ own → own ≡ false
    at true is = grind (arith, ints)
    at false is = refl

less-then : (a b c : ℤ) → int_lt c a ≡ false → int_lt b a ≡ true → int_lt b c ≡ true
less-then a b c not less = at (int_lt b c) refl
  where
    at : (own : Bool) → int_lt b c ≡ own → own ≡ true
    at true is = refl
    at false is = grind (arith, ints)

-- no cap is smaller than itself
pub smaller-itself : (cap : Capped) → is_smaller cap cap ≡ false
smaller-itself NoPoint = refl
smaller-itself (AtMost a) = less-itself a
smaller-itself Bad = refl

-- what is no smaller than a cap is no smaller than a smaller one
pub smaller-still : (a b c : Capped) → is_smaller c a ≡ false → is_smaller b a ≡ true → is_smaller c b ≡ false
smaller-still a b Bad not less = refl
smaller-still NoPoint NoPoint NoPoint not less = refl
smaller-still NoPoint (AtMost b) NoPoint not less = absurd (false≢true less)
smaller-still NoPoint Bad NoPoint not less = absurd (false≢true less)
smaller-still (AtMost a) b NoPoint not less = absurd (true≢false not)
smaller-still Bad b NoPoint not less = absurd (true≢false not)
smaller-still a NoPoint (AtMost c) not less = refl
smaller-still a Bad (AtMost c) not less = absurd (false≢true less)
smaller-still NoPoint (AtMost b) (AtMost c) not less = absurd (false≢true less)
smaller-still (AtMost a) (AtMost b) (AtMost c) not less = less-still a b c not less
smaller-still Bad (AtMost b) (AtMost c) not less = absurd (true≢false not)

-- and a smaller one is smaller than it
pub smaller-then : (a b c : Capped) → is_smaller c a ≡ false → is_smaller b a ≡ true → is_smaller b c ≡ true
smaller-then NoPoint NoPoint c not less = absurd (false≢true less)
smaller-then NoPoint (AtMost b) c not less = absurd (false≢true less)
smaller-then a Bad c not less = absurd (false≢true less)
smaller-then (AtMost a) b NoPoint not less = absurd (true≢false not)
smaller-then Bad b NoPoint not less = absurd (true≢false not)
smaller-then (AtMost a) NoPoint (AtMost c) not less = refl
smaller-then (AtMost a) NoPoint Bad not less = refl
smaller-then Bad NoPoint (AtMost c) not less = absurd (true≢false not)
smaller-then Bad NoPoint Bad not less = refl
smaller-then (AtMost a) (AtMost b) (AtMost c) not less = less-then a b c not less
smaller-then (AtMost a) (AtMost b) Bad not less = refl
smaller-then Bad (AtMost b) (AtMost c) not less = absurd (true≢false not)
smaller-then Bad (AtMost b) Bad not less = refl
