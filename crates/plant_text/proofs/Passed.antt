-- What tests that pass say of the values that they test.
use Rattle.std.proofs.Common.{◌≡◌, ℤ, pos, negsuc, ℕ, ◌+◌, ◌<◌, ◌≤◌, ◌≤ℤ◌, int_le, Bool, true, false, not, List, [], ◌∷◌, ◌++◌, map, length, get_or, AllPairs, Option, Some, None, is_none, option_map, unwrap_or, unsigned_abs, IsTrue, append_assoc, refl, sym, ◌∙◌, inl, inr, arith}
use Rattle.std.specs.Option.{option_or}
use Rattle.std.specs.List.{AllByRecursion}
use Rattle.std.proofs.lemmas.Bool.{and_parts, eqb-true, leb-true}
use Rattle.std.proofs.lemmas.Int.{ints}
use Rattle.std.proofs.lemmas.List.{append-nil, length-map}
use Rattle.std.proofs.lemmas.List.Quantifiers.{all_pairs_push}
use Rattle.toml.specs.Data.{Data}
use Rattle.stn_model.specs.Sound.{Within, is_name}
use Rattle.stn_model.specs.Labels.{SoundLabel, SoundColour}
use Rattle.plant_text.specs.declared.fault.PlantFault.{PlantFault}
use Rattle.plant_text.specs.declared.fault.Place.{Place}
use Rattle.plant_text.specs.declared.fault.KeyName.{KeyName}
use Rattle.plant_text.specs.declared.find.Key.{Key}
use Rattle.plant_text.specs.Tests.{Test, first_fault, rows_tests, numbered_tests}
use Rattle.plant_text.specs.Fields.{Kind, declares, refers, label, colour, count, money, time, numbers, amounts, Places, is_within, is_between, is_before, natural, count_of, integer_of, text_of, items_of, numbers_of, amounts_of, place_of, count_tests, money_tests, list_tests, kind_tests, value_tests}
use Rattle.plant_text.proofs.Faults.{faults_append}

-- no test of the list holds
abbrev pub Pass : List Test → Type 0
Pass tests = first_fault tests ≡ None

-- the first test does not hold, nor do the others
pub first_pass : (b : Bool) (f : PlantFault) (tests : List Test) → Pass ((b, f) ∷ tests) → (b ≡ false) × Pass tests
unfolding first_fault
first_pass true f tests e = absurd cc
first_pass false f tests e = (refl, e)

neither : (x y : Option PlantFault) → option_or x y ≡ None → (x ≡ None) × (y ≡ None)
neither None y e = (refl, e)
neither (Some f) y e = absurd cc

-- both parts of a list pass
pub both_pass : (front back : List Test) → Pass (front ++ back) → Pass front × Pass back
both_pass front back e = neither (first_fault front) (first_fault back) (sym (faults_append front back) ∙ e)

pub not_false : (b : Bool) → not b ≡ false → b ≡ true
not_false true e = refl
not_false false e = absurd cc

pub is_there : {X : Type 0} (o : Option X) → is_none o ≡ false → (x : X) × (o ≡ Some x)
is_there None e = absurd cc
is_there (Some x) e = (x, refl)

within_from : (low high : ℕ) (z : ℤ) → is_within low high z ≡ true → Within low high (natural z)
within_from low high (pos n) e = let p = and_parts _ _ e in (leb-true _ _ p.0, leb-true _ _ p.1)
within_from low high (negsuc n) e = absurd cc

count_passes : (place : Place) (word : KeyName) (low high : ℕ) (d : Data) → Pass (count_tests place word low high d) → Within low high (count_of d)
count_passes place word low high d e =
    let a = first_pass _ _ _ e in
    let b = first_pass _ _ _ a.1 in
    within_from low high (integer_of d) (not_false _ b.0)

-- an absent key that passes is not required
pub absent : (place : Place) (key : Key) (kind : Kind) → key.required ≡ true → Pass (value_tests place key kind None) → ⊥
unfolding value_tests
absent place key kind required e = let a = first_pass _ _ _ e in cc

-- a number that has to be there is within its range
pub count_needed : (place : Place) (key : Key) (low high : ℕ) (o : Option Data) → key.required ≡ true → Pass (value_tests place key (count low high) o) → Within low high (unwrap_or (option_map count_of o) 0)
unfolding value_tests kind_tests
count_needed place key low high None required e = absurd (absent place key (count low high) required e)
count_needed place key low high (Some d) required e = count_passes place key.name low high d e

-- a number that may be absent is at most its bound
pub count_most : (place : Place) (key : Key) (high : ℕ) (o : Option Data) → Pass (value_tests place key (count 0 high) o) → unwrap_or (option_map count_of o) 0 ≤ high
unfolding value_tests kind_tests
count_most place key high None e = omega arith
count_most place key high (Some d) e = (count_passes place key.name 0 high d e).1

money_passes : (place : Place) (word : KeyName) (most : ℕ) (d : Data) → Pass (money_tests place word most d) → unsigned_abs (integer_of d) ≤ most
money_passes place word most d e =
    let a = first_pass _ _ _ e in
    let b = first_pass _ _ _ a.1 in
    leb-true _ _ (not_false _ b.0)

-- an amount of money is at most its bound
pub money_most : (place : Place) (key : Key) (most : ℕ) (o : Option Data) → Pass (value_tests place key (money most) o) → unsigned_abs (unwrap_or (option_map integer_of o) (pos 0)) ≤ most
unfolding value_tests kind_tests
money_most place key most None e = omega arith
money_most place key most (Some d) e = money_passes place key.name most d e

-- a time between two others, which stand before and after 0
pub record InSpan (low high z : ℤ) : Type 0 where
  pub early : low ≤ℤ z
  pub late : z ≤ℤ high

between : (low high z : ℤ) → is_between low high z ≡ true → InSpan low high z
between low high z e = let p = and_parts (int_le low z) (int_le z high) e in record { early = grind (arith, ints, p.0); late = grind (arith, ints, p.1) }

-- a time that may be absent is within its range
pub time_within : (place : Place) (key : Key) (alone : Bool) (low high : ℤ) (o : Option Data) → low ≤ℤ pos 0 → pos 0 ≤ℤ high → Pass (value_tests place key (time alone low high) o)
    → InSpan low high (unwrap_or (option_map integer_of o) (pos 0))
unfolding value_tests kind_tests
time_within place key alone low high None before after e = record { early = before; late = after }
time_within place key alone low high (Some d) before after e =
    let a = first_pass _ _ _ e in
    let b = first_pass _ _ _ a.1 in
    between low high (integer_of d) (not_false _ b.0)

-- a declared name is a name, and no earlier item has it
pub name_declared : (place : Place) (key : Key) (places : Places) (number : ℕ) (o : Option Data) → key.required ≡ true → Pass (value_tests place key (declares places number) o)
    → IsTrue (is_name (unwrap_or (option_map text_of o) [])) × (is_before (places (unwrap_or (option_map text_of o) [])) number ≡ false)
unfolding value_tests kind_tests
name_declared place key places number None required e = absurd (absent place key (declares places number) required e)
name_declared place key places number (Some d) required e =
    let a = first_pass _ _ _ e in
    let b = first_pass _ _ _ a.1 in
    let c = first_pass _ _ _ b.1 in
    (not_false _ b.0, c.0)

-- a label that may be absent is one where it is there, and so with a colour
pub label_sound : (place : Place) (key : Key) (o : Option Data) → Pass (value_tests place key label o) → SoundLabel (unwrap_or (option_map text_of o) [])
unfolding value_tests kind_tests
label_sound place key None e = inl refl
label_sound place key (Some d) e =
    let a = first_pass _ _ _ e in
    let b = first_pass _ _ _ a.1 in
    inr (not_false _ b.0)

pub colour_sound : (place : Place) (key : Key) (o : Option Data) → Pass (value_tests place key colour o) → SoundColour (unwrap_or (option_map text_of o) [])
unfolding value_tests kind_tests
colour_sound place key None e = inl refl
colour_sound place key (Some d) e =
    let a = first_pass _ _ _ e in
    let b = first_pass _ _ _ a.1 in
    inr (not_false _ b.0)

-- a row whose value says nothing more
pub tested : (place : Place) (key : Key) (kind : Kind) (o : Option Data) → Pass (value_tests place key kind o) → Unit {0}
tested place key kind o e = tt

-- the places are below a bound
abbrev pub Below : ℕ → Places → Type 0
Below bound places = (name : List ℕ) (k : ℕ) → places name ≡ Some k → k < bound

-- a reference is to a thing that is there
pub refers_below : (place : Place) (key : Key) (places : Places) (bound : ℕ) (o : Option Data) → key.required ≡ true → Below bound places → Pass (value_tests place key (refers places) o)
    → unwrap_or (option_map (place_of places) o) 0 < bound
unfolding value_tests kind_tests
refers_below place key places bound None required below e = absurd (absent place key (refers places) required e)
refers_below place key places bound (Some d) required below e =
    let a = first_pass _ _ _ e in
    let b = first_pass _ _ _ a.1 in
    let k = is_there (places (text_of d)) b.0 in
    rw k.1 (below (text_of d) k.0 k.1)

-- each item of a list that passes has what its tests say
pub rows_all : {X Y : Type 0} (tests : List Y → X → List Test) (value : X → Y) (P : Y → Type 0) → ((earlier : List Y) (x : X) → Pass (tests earlier x) → P (value x))
    → (earlier : List Y) (xs : List X) → Pass (rows_tests tests value earlier xs) → AllByRecursion P (map value xs)
rows_all tests value P each earlier [] e = tt
rows_all tests value P each earlier (x ∷ xs) e =
    let both = both_pass (tests earlier x) (rows_tests tests value (earlier ++ value x ∷ []) xs) e in
    (each earlier x both.0, rows_all tests value P each (earlier ++ value x ∷ []) xs both.1)

-- the same where each item passes two tests, the second by its number
pub rows_both : {X Y : Type 0} (tests : List Y → X → List Test) (more : ℕ → X → List Test) (value : X → Y) (P : Y → Type 0) → ((earlier : List Y) (number : ℕ) (x : X) → Pass (tests earlier x) → Pass (more number x) → P (value x))
    → (earlier : List Y) (number : ℕ) (xs : List X) → Pass (rows_tests tests value earlier xs) → Pass (numbered_tests more number xs) → AllByRecursion P (map value xs)
rows_both tests more value P each earlier number [] e f = tt
rows_both tests more value P each earlier number (x ∷ xs) e f =
    let first = both_pass (tests earlier x) (rows_tests tests value (earlier ++ value x ∷ []) xs) e in
    let second = both_pass (more number x) (numbered_tests more (number + 1) xs) f in
    (each earlier number x first.0 second.0, rows_both tests more value P each (earlier ++ value x ∷ []) (number + 1) xs first.1 second.1)

-- items that pass one by one, after those before them, pass in pairs
pub rows_pairs : {X Y : Type 0} (tests : List Y → X → List Test) (value : X → Y) (R : Y → Y → Type 0)
    → ((earlier : List Y) (x : X) → Pass (tests earlier x) → (k : ℕ) (d : Y) → k < length earlier → R (get_or earlier k d) (value x))
    → (earlier : List Y) (xs : List X) → AllPairs R earlier → Pass (rows_tests tests value earlier xs) → AllPairs R (earlier ++ map value xs)
rows_pairs tests value R each earlier [] apart e = rw append-nil apart
rows_pairs tests value R each earlier (x ∷ xs) apart e =
    let both = both_pass (tests earlier x) (rows_tests tests value (earlier ++ value x ∷ []) xs) e in
    let more = all_pairs_push R earlier (value x) apart (each earlier x both.0) in
    rw append_assoc at (rows_pairs tests value R each (earlier ++ value x ∷ []) xs more both.1)

-- a list that passes is not forbidden, and has as many values as it has to, each of which passes
list_passes : {X : Type 0} (Good : X → Type 0) (place : Place) (word : KeyName) (forbidden : Bool) (many : ℕ) (each : Data → List Test) (value : Data → X) → ((x : Data) → Pass (each x) → Good (value x))
    → (d : Data) → Pass (list_tests place word forbidden many each value d) → (forbidden ≡ false) × (length (map value (items_of d)) ≡ many) × AllByRecursion Good (map value (items_of d))
list_passes {X} Good place word forbidden many each value good d e =
    let a = first_pass _ _ _ e in
    let b = first_pass _ _ _ a.1 in
    let c = first_pass _ _ _ b.1 in
    (b.0, length-map (items_of d) value ∙ eqb-true _ _ (not_false _ c.0), rows_all (λ (earlier : List X) (x : Data). each x) value Good (λ earlier x h. good x h) [] (items_of d) c.1)

-- numbers of a list are as many as they have to be, and at most their bound
pub record AreNumbers (size bound : ℕ) (ns : List ℕ) : Type 0 where
  pub many : length ns ≡ size
  pub most : AllByRecursion (λ n. n ≤ bound) ns

numbers_passes : (place : Place) (word : KeyName) (forbidden : Bool) (many most : ℕ) (d : Data) → Pass (kind_tests place word (numbers forbidden many most) d) → AreNumbers many most (numbers_of d)
unfolding kind_tests
numbers_passes place word forbidden many most d e =
    let are = list_passes (λ n. n ≤ most) place word forbidden many (count_tests place word 0 most) count_of (λ x h. (count_passes place word 0 most x h).1) d e in
    record { many = are.1; most = are.2 }

-- numbers that have to be there
pub numbers_needed : (place : Place) (key : Key) (forbidden : Bool) (many most : ℕ) (o : Option Data) → key.required ≡ true → Pass (value_tests place key (numbers forbidden many most) o) → AreNumbers many most (unwrap_or (option_map numbers_of o) [])
unfolding value_tests
numbers_needed place key forbidden many most None required e = absurd (absent place key (numbers forbidden many most) required e)
numbers_needed place key forbidden many most (Some d) required e = numbers_passes place key.name forbidden many most d e

-- numbers that are there
pub numbers_there : (place : Place) (key : Key) (forbidden : Bool) (many most : ℕ) (d : Data) → Pass (value_tests place key (numbers forbidden many most) (Some d)) → AreNumbers many most (numbers_of d)
unfolding value_tests
numbers_there place key forbidden many most d e = numbers_passes place key.name forbidden many most d e

-- amounts that are there: no other key forbids them, they are as many as they have to be, and each is at most the bound
pub record AreAmounts (forbidden : Bool) (size bound : ℕ) (zs : List ℤ) : Type 0 where
  pub lone : forbidden ≡ false
  pub many : length zs ≡ size
  pub most : AllByRecursion (λ z. unsigned_abs z ≤ bound) zs

pub amounts_there : (place : Place) (key : Key) (forbidden : Bool) (many most : ℕ) (d : Data) → Pass (value_tests place key (amounts forbidden many most) (Some d)) → AreAmounts forbidden many most (amounts_of d)
unfolding value_tests kind_tests
amounts_there place key forbidden many most d e =
    let are = list_passes (λ z. unsigned_abs z ≤ most) place key.name forbidden many (money_tests place key.name most) integer_of (money_passes place key.name most) d e in
    record { lone = are.0; many = are.1; most = are.2 }
