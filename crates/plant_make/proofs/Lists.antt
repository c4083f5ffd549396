-- Names at their places, and items one after the other.
use Rattle.std.proofs.Common.{◌≡◌, ◌≢◌, ℕ, zero, suc, ◌+◌, ◌<◌, Bool, true, false, List, [], ◌∷◌, ◌++◌, map, length, get_or, All, AllPairs, Some, append_assoc, length-append, refl, sym, ap, ◌∙◌, inl, inr, arith, add-zero, subst}
use Rattle.std.specs.List.{position_from, list_any, AllByRecursion}
use Rattle.std.specs.Str.{bytes_eq}
use Rattle.std.proofs.lemmas.Bool.{cases_Bool}
use Rattle.std.proofs.lemmas.Slice.Eq.{bytes_eq-Decides}
use Rattle.plant_text.specs.Tests.{Test, rows_tests, numbered_tests}
use Rattle.plant_text.specs.Names.{first_places}
use Rattle.plant_text.proofs.Faults.{passes, nothing}
use Rattle.plant_make.proofs.Passing.{Pass}

text_itself : (x : List ℕ) → bytes_eq x x ≡ true
text_itself x = (bytes_eq-Decides x x).1 refl

texts_differ : (x y : List ℕ) → x ≢ y → bytes_eq x y ≡ false
texts_differ x y differ = elim (cases_Bool (bytes_eq x y)) [ inl e ↦ absurd (differ ((bytes_eq-Decides x y).0 e)) | inr e ↦ e ]

module _ {X : Type 0} (name_of : X → List ℕ) where
  named_from : (xs : List X) (i k : ℕ) (d : X) → AllPairs (λ a b. name_of a ≢ name_of b) xs → k < length xs → position_from (bytes_eq (name_of (get_or xs k d))) i (map name_of xs) ≡ Some (i + k)
  named_from [] i k d apart within = absurd (omega arith)
  named_from (x ∷ xs) i zero d apart within = rw (text_itself (name_of x), add-zero) refl
  named_from (x ∷ xs) i (suc k) d apart within =
      let differ : bytes_eq (name_of (get_or xs k d)) (name_of x) ≡ false = texts_differ _ _ (λ same. apart 0 (suc k) d (omega arith) within (sym same)) in
      let count : (i + 1) + k ≡ i + suc k = omega arith in
      rw differ (named_from xs (i + 1) k d (λ a b e less most. apart (suc a) (suc b) e (omega arith) (omega arith)) (omega arith) ∙ ap Some count)

  -- the name of an item is declared at its place
  pub named_at : (xs : List X) (k : ℕ) (d : X) → AllPairs (λ a b. name_of a ≢ name_of b) xs → k < length xs → first_places (map name_of xs) (name_of (get_or xs k d)) ≡ Some k
  named_at xs k d apart within = let count : 0 + k ≡ k = omega arith in named_from xs 0 k d apart within ∙ ap Some count

-- the item comes right after these in the list
pub record IsNext {Y : Type 0} (whole earlier : List Y) (y : Y) : Type 0 where
  pub within : length earlier < length whole
  pub is : (d : Y) → get_or whole (length earlier) d ≡ y
  pub before : (k : ℕ) (d : Y) → k < length earlier → get_or earlier k d ≡ get_or whole k d

get_or-front : {Y : Type 0} (earlier rest : List Y) (k : ℕ) (d : Y) → k < length earlier → get_or earlier k d ≡ get_or (earlier ++ rest) k d
get_or-front [] rest k d within = absurd (omega arith)
get_or-front (y ∷ ys) rest zero d within = refl
get_or-front (y ∷ ys) rest (suc k) d within = get_or-front ys rest k d (omega arith)

get_or-middle : {Y : Type 0} (earlier rest : List Y) (y d : Y) → get_or (earlier ++ y ∷ rest) (length earlier) d ≡ y
get_or-middle [] rest y d = refl
get_or-middle (x ∷ xs) rest y d = get_or-middle xs rest y d

next_in : {Y : Type 0} (earlier rest : List Y) (y : Y) → IsNext (earlier ++ y ∷ rest) earlier y
next_in earlier rest y = record {
  within = omega (arith, length-append earlier (y ∷ rest));
  is = λ d. get_or-middle earlier rest y d;
  before = λ k d within. get_or-front earlier (y ∷ rest) k d within;
}

module _ {X Y : Type 0} (tests : List Y → X → List Test) (value : X → Y) (made : Y → X) (whole : List Y)
    (each : (earlier : List Y) (y : Y) → IsNext whole earlier y → Pass (tests earlier (made y)) × (value (made y) ≡ y)) where
  rows_from : (earlier rest : List Y) → earlier ++ rest ≡ whole → Pass (rows_tests tests value earlier (map made rest)) × (map value (map made rest) ≡ rest)
  rows_from earlier [] is = (nothing, refl)
  rows_from earlier (y ∷ rest) is =
      let here = each earlier y (subst (λ (ys : List Y). IsNext ys earlier y) is (next_in earlier rest y)) in
      let more = rows_from (earlier ++ y ∷ []) rest (append_assoc earlier (y ∷ []) rest ∙ is) in
      (passes (tests earlier (made y)) _ here.0 (rw here.1 more.0), rw (here.1, more.1) refl)

  -- printed items pass their tests, and are read as they were
  pub rows_read : Pass (rows_tests tests value [] (map made whole)) × (map value (map made whole) ≡ whole)
  rows_read = rows_from [] whole refl

module _ {X Y : Type 0} (tests : ℕ → X → List Test) (made : Y → X) (whole : List Y)
    (each : (earlier : List Y) (y : Y) → IsNext whole earlier y → (number : ℕ) → Pass (tests number (made y))) where
  numbered_from : (earlier rest : List Y) (number : ℕ) → earlier ++ rest ≡ whole → Pass (numbered_tests tests number (map made rest))
  numbered_from earlier [] number is = nothing
  numbered_from earlier (y ∷ rest) number is =
      let here = each earlier y (subst (λ (ys : List Y). IsNext ys earlier y) is (next_in earlier rest y)) number in
      let more = numbered_from (earlier ++ y ∷ []) rest (number + 1) (append_assoc earlier (y ∷ []) rest ∙ is) in
      passes (tests number (made y)) _ here more

  -- and the tests that each has by its number
  pub numbered_read : Pass (numbered_tests tests 0 (map made whole))
  numbered_read = numbered_from [] whole 0 refl

-- what holds of each item, holds of the next one
pub at_next : {Y : Type 0} (P : Y → Type 0) (whole earlier : List Y) (y : Y) → All P whole → IsNext whole earlier y → P y
at_next P whole earlier y all next = subst P (next.is y) (all (length earlier) y next.within)

-- what follows from each of some facts
pub all_so : {X : Type 0} (P Q : X → Type 0) → ((x : X) → P x → Q x) → (xs : List X) → AllByRecursion P xs → AllByRecursion Q xs
all_so P Q so [] all = tt
all_so P Q so (x ∷ xs) all = (so x all.0, all_so P Q so xs all.1)

-- two steps that come to one
pub map_same : {X Y Z : Type 0} (f : Y → Z) (g : X → Y) (h : X → Z) → ((x : X) → f (g x) ≡ h x) → (xs : List X) → map f (map g xs) ≡ map h xs
map_same f g h same [] = refl
map_same f g h same (x ∷ xs) = rw (same x, map_same f g h same xs) refl

-- no item passes
pub none_any : {X : Type 0} (p : X → Bool) (xs : List X) → ((k : ℕ) (d : X) → k < length xs → p (get_or xs k d) ≡ false) → list_any p xs ≡ false
none_any p [] none = refl
none_any p (x ∷ xs) none =
    let here : p x ≡ false = none 0 x (omega arith) in
    rw here (none_any p xs (λ k d within. none (suc k) d (omega arith)))
