-- The first places of names, one name more at a time.
use Rattle.std.proofs.Common.{◌≡◌, ℕ, ◌+◌, ◌<◌, ◌≤◌, suc, Bool, true, false, cond, List, [], ◌∷◌, ◌++◌, length, Option, Some, None, refl, sym, ap, ◌∙◌, inl, inr, arith, add-zero, zero-add, map, take, get_or}
use Rattle.std.proofs.Math.Path.{fun_ext}
use Rattle.std.specs.Option.{option_or}
use Rattle.std.specs.List.{position_from}
use Rattle.std.specs.Str.{bytes_eq}
use Rattle.std.proofs.lemmas.Bool.{cases_Bool}
use Rattle.std.proofs.lemmas.Slice.Eq.{bytes_eq-Decides}
use Rattle.toml.specs.Data.{Data}
use Rattle.plant_text.specs.Fields.{Places, items_of}
use Rattle.toml.specs.declared.value.Value.{Value}
use Rattle.toml.specs.View.{view}
use Rattle.std.proofs.lemmas.List.{map_more, map_push, take-map, length-map, length-take, take_all}
use Rattle.plant_text.specs.Names.{name_in, first_places, with_name, Notes}

-- the first place in a list with one more at its end
pub position_from-push : {X : Type 0} (p : X → Bool) (i : ℕ) (xs : List X) (x : X) → position_from p i (xs ++ x ∷ []) ≡ option_or (position_from p i xs) (cond (p x) (Some (i + length xs)) None)
position_from-push p i [] x = rw add-zero
position_from-push p i (y ∷ ys) x =
    elim (cases_Bool (p y)) [
      | inl e ↦ rw e
      | inr e ↦ let n : (i + 1) + length ys ≡ i + suc (length ys) = omega arith in rw e (position_from-push p (i + 1) ys x ∙ rw n)
    ]

same_text : (x y : List ℕ) → bytes_eq x y ≡ true → x ≡ y
same_text x y e = (bytes_eq-Decides x y).0 e

text_itself : (x : List ℕ) → bytes_eq x x ≡ true
text_itself x = (bytes_eq-Decides x x).1 refl

bytes_eq-comm : (x y : List ℕ) → bytes_eq x y ≡ bytes_eq y x
bytes_eq-comm x y =
    elim (cases_Bool (bytes_eq x y)) [
      | inl e ↦ let same : x ≡ y = same_text x y e in rw same
      | inr e ↦ elim (cases_Bool (bytes_eq y x)) [
        | inl f ↦ let same : y ≡ x = same_text y x f in rw same
        | inr f ↦ e ∙ sym f
      ]
    ]

option_or_none : {X : Type 0} (o : Option X) → option_or o None ≡ o
option_or_none None = refl
option_or_none (Some x) = refl

-- the first places with one more name at the end of the list
places-push : (names : List (List ℕ)) (name other : List ℕ) → first_places (names ++ name ∷ []) other ≡ option_or (first_places names other) (cond (bytes_eq other name) (Some (length names)) None)
places-push names name other = position_from-push (bytes_eq other) 0 names name ∙ rw zero-add

first_places-push : (names : List (List ℕ)) (name other : List ℕ) (found : Option ℕ) → first_places names name ≡ found → (same : Bool) → bytes_eq name other ≡ same
    → first_places (names ++ name ∷ []) other ≡ with_name (first_places names) name (length names) other
first_places-push names name other None e false s =
    let differ : bytes_eq other name ≡ false = bytes_eq-comm other name ∙ s in
    places-push names name other ∙ rw (differ, e, s) (option_or_none (first_places names other))
first_places-push names name other None e true s =
    let same : other ≡ name = sym (same_text name other s) in
    rw same (places-push names name name ∙ rw (e, text_itself name) refl)
first_places-push names name other (Some k) e true s =
    let same : other ≡ name = sym (same_text name other s) in
    rw same (places-push names name name ∙ rw e refl)
first_places-push names name other (Some k) e false s =
    let differ : bytes_eq other name ≡ false = bytes_eq-comm other name ∙ s in
    places-push names name other ∙ rw (differ, e) (option_or_none (first_places names other))

pub notes_first : (names : List (List ℕ)) (name other : List ℕ) → first_places (names ++ name ∷ []) other ≡ with_name (first_places names) name (length names) other
notes_first names name other = first_places-push names name other (first_places names name) refl (bytes_eq name other) refl

-- the names of one more item
pub names_more : (items : List Value) (i : ℕ) (d : Value) → i < length items → map name_in (map view (take (i + 1) items)) ≡ map name_in (map view (take i items)) ++ name_in (view (get_or items i d)) ∷ []
names_more items i d lt = ap (map name_in) (map_more view items i d lt) ∙ map_push name_in (map view (take i items)) (view (get_or items i d))

-- a step of numbering names
pub goes_on : (items : List Value) (i : ℕ) (d : Value) (old new : Places) → i < length items → ((name : List ℕ) → old name ≡ first_places (map name_in (map view (take i items))) name)
    → Notes old (name_in (view (get_or items i d))) i new → (name : List ℕ) → new name ≡ first_places (map name_in (map view (take (i + 1) items))) name
goes_on items i d old new lt so_far step name =
    let names = map name_in (map view (take i items)) in
    let count : length names ≡ i = simp (length-map, length-take) (omega arith) in
    let was : old ≡ first_places names = fun_ext so_far in
    rw (names_more items i d lt) (step name ∙ rw was (sym (notes_first names (name_in (view (get_or items i d))) name ∙ rw count)))

-- at the end each name is numbered
pub same_places : (items : List Value) (i : ℕ) (places : Places) → length items ≤ i → ((name : List ℕ) → places name ≡ first_places (map name_in (map view (take i items))) name)
    → places ≡ first_places (map name_in (map view items))
same_places items i places le so_far = fun_ext (λ name. so_far name ∙ ap (λ (xs : List Value). first_places (map name_in (map view xs)) name) (take_all i items le))

-- the names of the first items of an array
pub names_there : (items : List Value) (d : Data) (most : ℕ) → items_of d ≡ map view items → map name_in (map view (take most items)) ≡ map name_in (take most (items_of d))
names_there items d most e = rw e (ap (map name_in) (sym (take-map view most items)))
