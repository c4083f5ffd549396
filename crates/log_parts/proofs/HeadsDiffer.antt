-- Where the heads of two logs differ.
use Rattle.std.proofs.Common.{◌≡◌, ◌≢◌, ◌∙◌, ℕ, suc, ◌+◌, ◌-◌, ◌<◌, ◌≤◌, List, [], ◌∷◌, ◌++◌, append-nil, length, length-append, map, flat_map, take, drop, get_or, Some, refl, sym, ap, ap₂, inl, inr, arith}
use Rattle.std.proofs.Math.Seq.{split_at}
use Rattle.std.proofs.lemmas.List.{get_or_append_left, get_or-append_right, get_or-map, length-drop, length-map, length-take-le, take-append-drop, take_all, take_more_same}
use Rattle.std.proofs.lemmas.Option.{slice_get-get_or}
use Rattle.std.specs.Prelude.{⊤, slice_get, slice_index_or}
use Rattle.std.specs.List.{range_with_len}
use Rattle.std.proofs.lemmas.Bool.{cases_lt}
use Rattle.std.proofs.lemmas.Grind.{flat_map-append}
use Rattle.std.proofs.lemmas.List.FromFn.{length-range_with_len}
use Rattle.sum_slots.specs.declared.sum.Sum.{Sum}
use Rattle.sum_lines.specs.Head.{begins_on, lines_of}
use Rattle.derivations.specs.declared.derivation.Derivation.{Derivation}
use Rattle.derivation_lines.specs.Tail.{begins_on as derivations_begin_on, derivation_lines}
use Rattle.log_parts.specs.declared.heads.Declared.{Declared}
use Rattle.log_parts.specs.Heads.{Item, OfSum, OfUnit, Derived, behind_sums, items_of, lines_behind, lines_on}
use Rattle.log_parts.specs.OtherHeads.{AreOther}

-- ---- lists that differ

-- items at one place that are the same
some_same : {X : Type 0} (x y : X) → Some x ≡ Some y → x ≡ y
some_same x y is = cc

-- lists that are the same up to a place, and not there
pub first_other : {X : Type 0} (given own : List X) (lines : List ℕ) (place line : ℕ) → place < length given → place < length own → take place given ≡ take place own → slice_get given place ≢ slice_get own place
    → line ≡ slice_index_or lines place 0 → AreOther given own lines line
first_other {X = X} [] own lines place line within within_own same apart at = absurd (omega (arith, within))
first_other {X = X} (x ∷ given) [] lines place line within within_own same apart at = absurd (omega (arith, within_own))
first_other {X = X} (x ∷ given) (y ∷ own) lines place line within within_own same apart at =
    let all = x ∷ given in
    let all_own = y ∷ own in
    let long : length (take place all) ≡ place = length-take-le place all (omega (arith, within)) in
    inl (record {
      same = take place all;
      item = get_or all place x;
      later = drop (suc place) all;
      other = get_or all_own place y;
      others = drop (suc place) all_own;
      listed = split_at all place x within;
      listed_own = split_at all_own place y within_own ∙ ap (λ (before : List X). before ++ (get_or all_own place y ∷ drop (suc place) all_own)) (sym same);
      differs = λ is. apart (slice_get-get_or all place x within ∙ ap Some (sym is) ∙ sym (slice_get-get_or all_own place y within_own));
      begins = at ∙ ap (λ (n : ℕ). slice_index_or lines n 0) (sym long);
    })

-- lists that are the same up to a place, and there, are so up to the next
pub same_more : {X : Type 0} (given own : List X) (place : ℕ) → place < length given → place < length own → take place given ≡ take place own → slice_get given place ≡ slice_get own place → take (place + 1) given ≡ take (place + 1) own
same_more [] own place within within_own same here = absurd (omega (arith, within))
same_more (x ∷ given) own place within within_own same here =
    take_more_same (x ∷ given) own place x within within_own same
    (some_same (get_or (x ∷ given) place x) (get_or own place x) (sym (slice_get-get_or (x ∷ given) place x within) ∙ here ∙ slice_get-get_or own place x within_own))

-- a list that is not empty
some_left : {X : Type 0} (xs : List X) → 0 < length xs → xs ≢ []
some_left [] less is = omega (arith, less)
some_left (x ∷ xs) less is = cc

-- of lists that are the same as far as the shorter goes, one is a first part of the other
pub more_own : {X : Type 0} (given own : List X) (lines : List ℕ) (few : ℕ) → few ≡ length given → length given < length own → take few given ≡ take few own → AreOther given own lines 1
more_own {X = X} given own lines few all less same =
    let before : given ≡ take (length given) own = sym (take_all (length given) given (omega arith)) ∙ ap (λ (n : ℕ). take n given) (sym all) ∙ same ∙ ap (λ (n : ℕ). take n own) all in
    inr (record {
      rest = drop (length given) own;
      some = some_left (drop (length given) own) (omega (arith, less, length-drop (length given) own));
      first = inl (sym (take-append-drop (length given) own) ∙ ap (λ (xs : List X). xs ++ drop (length given) own) (sym before));
      at = refl;
    })

pub more_given : {X : Type 0} (given own : List X) (lines : List ℕ) (few : ℕ) → few ≡ length own → length own < length given → take few given ≡ take few own → AreOther given own lines 1
more_given {X = X} given own lines few all less same =
    let before : own ≡ take (length own) given = sym (take_all (length own) own (omega arith)) ∙ ap (λ (n : ℕ). take n own) (sym all) ∙ sym same ∙ ap (λ (n : ℕ). take n given) all in
    inr (record {
      rest = drop (length own) given;
      some = some_left (drop (length own) given) (omega (arith, less, length-drop (length own) given));
      first = inr (sym (take-append-drop (length own) given) ∙ ap (λ (xs : List X). xs ++ drop (length own) given) (sym before));
      at = refl;
    })

-- a list is not itself and more
not_more : {X : Type 0} (xs rest : List X) → xs ≡ xs ++ rest → rest ≢ [] → ⊥
not_more xs [] is some = some refl
not_more xs (x ∷ rest) is some = omega (arith, ap length is, length-append xs (x ∷ rest))

same_next : {X : Type 0} (same later others : List X) (item other : X) → same ++ item ∷ later ≡ same ++ other ∷ others → other ≡ item
same_next [] later others item other is = cc
same_next (x ∷ same) later others item other is = same_next same later others item other (let rest : same ++ item ∷ later ≡ same ++ other ∷ others = cc in rest)

-- a list does not differ from itself
pub no_other : {X : Type 0} (given own : List X) (lines : List ℕ) (line : ℕ) → given ≡ own → AreOther given own lines line → ⊥
no_other given own lines line same (inl other) = other.differs (same_next other.same other.later other.others other.item other.other (sym other.listed ∙ same ∙ other.listed_own))
no_other given own lines line same (inr other) =
    elim other.first [
      | inl more ↦ not_more given other.rest (same ∙ more) other.some
      | inr more ↦ not_more own other.rest (sym same ∙ more) other.some
    ]

-- ---- what heads declare

-- one line for each sum
sums_long : (first : ℕ) (sums : List Sum) → length (begins_on first sums) ≡ length sums
sums_long first [] = refl
sums_long first (sum ∷ sums) = ap suc (sums_long (first + (1 + length sum.terms)) sums)

-- and one for each derivation
derivations_long : (first : ℕ) (derivations : List Derivation) → length (derivations_begin_on first derivations) ≡ length derivations
derivations_long first [] = refl
derivations_long first (derivation ∷ later) = ap suc (derivations_long (first + length (derivation_lines derivation)) later)

-- as many items behind the sums as setups and derivations
behind_long : (declared : Declared) → length (behind_sums declared) ≡ length declared.units + length declared.derivations
behind_long declared =
    let all = length-append (map OfUnit declared.units) (map Derived declared.derivations) in
    let one = length-map declared.units OfUnit in
    let other = length-map declared.derivations Derived in
    omega (arith, all, one, other)

-- and with the sums
pub items_long : (declared : Declared) → length (items_of declared) ≡ length declared.sums + (length declared.units + length declared.derivations)
items_long declared =
    let all = length-append (map OfSum declared.sums) (behind_sums declared) in
    let one = length-map declared.sums OfSum in
    omega (arith, all, one, behind_long declared)

-- and as many lines
lines_behind_long : (first : ℕ) (declared : Declared) → length (lines_behind first declared) ≡ length declared.units + length declared.derivations
lines_behind_long first declared =
    let units = range_with_len first (length declared.units) in
    let second = derivations_begin_on (first + length declared.units) declared.derivations in
    omega (arith, length-append units second, length-range_with_len first (length declared.units), derivations_long (first + length declared.units) declared.derivations)

pub lines_long : (declared : Declared) → length (lines_on declared) ≡ length (items_of declared)
lines_long declared =
    let second = lines_behind (2 + length (lines_of declared.sums)) declared in
    omega (arith, length-append (begins_on 2 declared.sums) second, sums_long 2 declared.sums, lines_behind_long (2 + length (lines_of declared.sums)) declared, items_long declared)

-- ---- the item at a place

-- items that are made of others, and more behind them
module _ {X Y : Type 0} (make : X → Y) (xs : List X) (more : List Y) where
  -- the first are those
  pub at_first : (place : ℕ) (x : X) → place < length xs → slice_get (map make xs ++ more) place ≡ Some (make (get_or xs place x))
  at_first place x low =
      let first = map make xs in
      let within : place < length first = omega (arith, low, length-map xs make) in
      let all : place < length (first ++ more) = omega (arith, within, length-append first more) in
      slice_get-get_or (first ++ more) place (make x) all
      ∙ ap Some (get_or_append_left first more (make x) place within ∙ get_or-map make xs place x (make x) low)

  -- and behind them stand the others
  pub at_rest : (place : ℕ) → length xs ≤ place → place < length (map make xs ++ more) → slice_get (map make xs ++ more) place ≡ slice_get more (place - length xs)
  at_rest place high all = by more refl
    where
      first : List Y
      first = map make xs

      long : length first ≡ length xs
      long = length-map xs make

      within : place - length xs < length more
      within = omega (arith, all, high, length-append first more, long)

      by : (ys : List Y) → ys ≡ more → slice_get (first ++ more) place ≡ slice_get more (place - length xs)
      by [] none = absurd (omega (arith, within, ap length none))
      by (y ∷ ys) some =
          slice_get-get_or (first ++ more) place y all ∙ ap Some (get_or-append_right first more (length xs) place y long high) ∙ sym (slice_get-get_or more (place - length xs) y within)

-- the item that stands at a place of a list
pub one_at : {X : Type 0} (xs : List X) (place : ℕ) → place < length xs → (x : X) × (slice_get xs place ≡ Some x)
one_at xs place within = let d = some_of xs place within in (get_or xs place d, slice_get-get_or xs place d within)
  where
    some_of : {X : Type 0} (xs : List X) (place : ℕ) → place < length xs → X
    some_of [] place within = absurd (omega (arith, within))
    some_of (x ∷ xs) place within = x

-- a sum stands in front
pub has_sum : (declared : Declared) (place : ℕ) → place < length declared.sums → (sum : Sum) × (slice_get (items_of declared) place ≡ Some (OfSum sum))
has_sum declared place low = let found = one_at declared.sums place low in (get_or declared.sums place found.0, at_first OfSum declared.sums (behind_sums declared) place found.0 low)

-- behind the sums no sum stands
abbrev IsNoSum : Item → Type 0
IsNoSum (OfSum sum) = ⊥
IsNoSum (OfUnit unit) = ⊤
IsNoSum (Derived derivation) = ⊤

pub has_unit : (declared : Declared) (place : ℕ) → place < length declared.units → (unit : ℕ) × (slice_get (behind_sums declared) place ≡ Some (OfUnit unit))
has_unit declared place low = (get_or declared.units place 0, at_first OfUnit declared.units (map Derived declared.derivations) place 0 low)

pub has_derivation : (declared : Declared) (place : ℕ) → length declared.units ≤ place → place < length (behind_sums declared) → (derivation : Derivation) × (slice_get (behind_sums declared) place ≡ Some (Derived derivation))
has_derivation declared place high all =
    let within : place - length declared.units < length declared.derivations = omega (arith, all, high, behind_long declared) in
    let found = one_at declared.derivations (place - length declared.units) within in (
      found.0,
      at_rest OfUnit declared.units (map Derived declared.derivations) place high all ∙ mapped declared.derivations (place - length declared.units) found.0 within found.1,
    )
  where
    mapped : (ds : List Derivation) (place : ℕ) (d : Derivation) → place < length ds → slice_get ds place ≡ Some d → slice_get (map Derived ds) place ≡ Some (Derived d)
    mapped ds place d within is =
        slice_get-get_or (map Derived ds) place (Derived d) (omega (arith, within, length-map ds Derived)) ∙ ap Some (get_or-map Derived ds place d (Derived d) within)
        ∙ ap (λ (x : Derivation). Some (Derived x)) (some_same (get_or ds place d) d (sym (slice_get-get_or ds place d within) ∙ is))

no_sum-behind : (declared : Declared) (place : ℕ) → place < length (behind_sums declared) → (item : Item) × (IsNoSum item × (slice_get (behind_sums declared) place ≡ Some item))
no_sum-behind declared place all = elim (cases_lt place (length declared.units)) [
  | inl low ↦ (let found = has_unit declared place low in (OfUnit found.0, (tt, found.1)))
  | inr high ↦ (let found = has_derivation declared place high all in (Derived found.0, (tt, found.1)))
]

-- so a sum is not what stands there
pub sum_apart : (declared : Declared) (place : ℕ) (sum : Sum) → place < length (behind_sums declared) → slice_get (behind_sums declared) place ≢ Some (OfSum sum)
sum_apart declared place sum all is = let found = no_sum-behind declared place all in by found.0 found.1.0 (some_same found.0 (OfSum sum) (sym found.1.1 ∙ is))
  where
    by : (item : Item) → IsNoSum item → item ≡ OfSum sum → ⊥
    by (OfSum other) none same = none
    by (OfUnit unit) none same = cc
    by (Derived derivation) none same = cc

-- what stands behind the sums
pub item_behind : (declared : Declared) (place : ℕ) → length declared.sums ≤ place → place < length (items_of declared) → slice_get (items_of declared) place ≡ slice_get (behind_sums declared) (place - length declared.sums)
item_behind declared place high all = at_rest OfSum declared.sums (behind_sums declared) place high all

-- and within it
pub within_behind : (declared : Declared) (place : ℕ) → length declared.sums ≤ place → place < length (items_of declared) → place - length declared.sums < length (behind_sums declared)
within_behind declared place high all = omega (arith, high, all, items_long declared, behind_long declared)

-- the sum, the unit or the derivation that was found at a place
pub at_sum : (declared : Declared) (place : ℕ) (sum : Sum) → place < length declared.sums → sum ≡ slice_index_or declared.sums place sum → slice_get (items_of declared) place ≡ Some (OfSum sum)
at_sum declared place sum low is = at_first OfSum declared.sums (behind_sums declared) place sum low ∙ ap (λ (x : Sum). Some (OfSum x)) (sym is)

pub at_unit : (declared : Declared) (place unit : ℕ) → place < length declared.units → unit ≡ slice_index_or declared.units place unit → slice_get (behind_sums declared) place ≡ Some (OfUnit unit)
at_unit declared place unit low is = at_first OfUnit declared.units (map Derived declared.derivations) place unit low ∙ ap (λ (x : ℕ). Some (OfUnit x)) (sym is)

pub at_derivation : (declared : Declared) (place count : ℕ) (derivation : Derivation) → count ≡ length declared.units → count ≤ place → place < length (behind_sums declared) → derivation ≡ slice_index_or declared.derivations (place - count) derivation
    → slice_get (behind_sums declared) place ≡ Some (Derived derivation)
at_derivation declared place count derivation long high all is =
    let found = has_derivation declared place (omega (arith, long, high)) all in
    let within : place - length declared.units < length declared.derivations = omega (arith, all, high, long, behind_long declared) in
    at_rest OfUnit declared.units (map Derived declared.derivations) place (omega (arith, long, high)) all
    ∙ slice_get-get_or (map Derived declared.derivations) (place - length declared.units) (Derived derivation) (omega (arith, within, length-map declared.derivations Derived))
    ∙ ap Some (get_or-map Derived declared.derivations (place - length declared.units) derivation (Derived derivation) within)
    ∙ ap (λ (n : ℕ). Some (Derived (get_or declared.derivations (place - n) derivation))) (sym long)
    ∙ ap (λ (d : Derivation). Some (Derived d)) (sym is)

-- a unit is no derivation
pub units_apart : (unit : ℕ) (derivation : Derivation) → Some (OfUnit unit) ≢ Some (Derived derivation)
units_apart unit derivation is = cc

pub units_apart_back : (unit : ℕ) (derivation : Derivation) → Some (Derived derivation) ≢ Some (OfUnit unit)
units_apart_back unit derivation is = cc

pub same_sum : (one other : Sum) → Some (OfSum one) ≡ Some (OfSum other) → one ≡ other
same_sum one other is = cc

pub same_unit : (one other : ℕ) → Some (OfUnit one) ≡ Some (OfUnit other) → one ≡ other
same_unit one other is = cc

pub same_derivation : (one other : Derivation) → Some (Derived one) ≡ Some (Derived other) → one ≡ other
same_derivation one other is = cc

-- ---- the same items are of the same head

-- what an item is
abbrev sum_in : Item → List Sum
sum_in (OfSum sum) = sum ∷ []
sum_in (OfUnit unit) = []
sum_in (Derived derivation) = []

abbrev unit_in : Item → List ℕ
unit_in (OfSum sum) = []
unit_in (OfUnit unit) = unit ∷ []
unit_in (Derived derivation) = []

abbrev derivation_in : Item → List Derivation
derivation_in (OfSum sum) = []
derivation_in (OfUnit unit) = []
derivation_in (Derived derivation) = derivation ∷ []

-- what is found among items that are all of another kind, and among those of this kind
none_in : {X Y Z : Type 0} (take_of : Y → List Z) (make : X → Y) (xs : List X) → ((x : X) → take_of (make x) ≡ []) → flat_map take_of (map make xs) ≡ []
none_in take_of make [] none = refl
none_in take_of make (x ∷ xs) none = ap₂ (λ one rest. one ++ rest) (none x) (none_in take_of make xs none)

all_in : {X Y : Type 0} (take_of : Y → List X) (make : X → Y) (xs : List X) → ((x : X) → take_of (make x) ≡ x ∷ []) → flat_map take_of (map make xs) ≡ xs
all_in take_of make [] each = refl
all_in take_of make (x ∷ xs) each = ap₂ (λ one rest. one ++ rest) (each x) (all_in take_of make xs each)

-- so the sums, the setups and the derivations are found in the items
sums_in : (declared : Declared) → flat_map sum_in (items_of declared) ≡ declared.sums
sums_in declared =
    flat_map-append sum_in (map OfSum declared.sums) (behind_sums declared)
    ∙ ap₂ (λ (one other : List Sum). one ++ other) (all_in sum_in OfSum declared.sums (λ sum. refl))
    (flat_map-append sum_in (map OfUnit declared.units) (map Derived declared.derivations)
    ∙ ap₂ (λ (one other : List Sum). one ++ other) (none_in sum_in OfUnit declared.units (λ unit. refl)) (none_in sum_in Derived declared.derivations (λ derivation. refl)))
    ∙ append-nil declared.sums

units_in : (declared : Declared) → flat_map unit_in (items_of declared) ≡ declared.units
units_in declared =
    flat_map-append unit_in (map OfSum declared.sums) (behind_sums declared)
    ∙ ap₂ (λ (one other : List ℕ). one ++ other) (none_in unit_in OfSum declared.sums (λ sum. refl))
    (flat_map-append unit_in (map OfUnit declared.units) (map Derived declared.derivations)
    ∙ ap₂ (λ (one other : List ℕ). one ++ other) (all_in unit_in OfUnit declared.units (λ unit. refl)) (none_in unit_in Derived declared.derivations (λ derivation. refl))
    ∙ append-nil declared.units)

derivations_in : (declared : Declared) → flat_map derivation_in (items_of declared) ≡ declared.derivations
derivations_in declared =
    flat_map-append derivation_in (map OfSum declared.sums) (behind_sums declared)
    ∙ ap₂ (λ (one other : List Derivation). one ++ other) (none_in derivation_in OfSum declared.sums (λ sum. refl))
    (flat_map-append derivation_in (map OfUnit declared.units) (map Derived declared.derivations)
    ∙ ap₂ (λ (one other : List Derivation). one ++ other) (none_in derivation_in OfUnit declared.units (λ unit. refl)) (all_in derivation_in Derived declared.derivations (λ derivation. refl)))

pub declared_one : (one other : Declared) → items_of one ≡ items_of other → one ≡ other
declared_one one other is =
    let sums : one.sums ≡ other.sums = sym (sums_in one) ∙ ap (flat_map sum_in) is ∙ sums_in other in
    let units : one.units ≡ other.units = sym (units_in one) ∙ ap (flat_map unit_in) is ∙ units_in other in
    let derivations : one.derivations ≡ other.derivations = sym (derivations_in one) ∙ ap (flat_map derivation_in) is ∙ derivations_in other in
    λ i. record { sums = sums i; units = units i; derivations = derivations i }

-- items that are the same as far as either goes are the same
pub all_same : (one other : Declared) (few : ℕ) → few ≡ length (items_of one) → few ≡ length (items_of other) → take few (items_of one) ≡ take few (items_of other) → one ≡ other
all_same one other few all all_other same =
    declared_one one other (sym (take_all few (items_of one) (omega (arith, all))) ∙ same ∙ take_all few (items_of other) (omega (arith, all_other)))
