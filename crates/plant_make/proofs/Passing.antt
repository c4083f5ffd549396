-- Values of the kinds that a field table asks for pass its tests.
use Rattle.std.proofs.Common.{◌≡◌, ℤ, pos, ℕ, ◌≤◌, nat_lt, ◌==◌, Bool, true, false, List, [], ◌∷◌, ◌++◌, map, length, Option, Some, None, option_map, unwrap_or, unsigned_abs, IsTrue, le-leb, eq-eqb, refl, ap, ◌∙◌, arith}
use Rattle.std.specs.List.{AllByRecursion}
use Rattle.std.proofs.lemmas.Bool.Decides.{nat_tests}
use Rattle.std.proofs.lemmas.List.{length-map}
use Rattle.toml.specs.Data.{Data, string, integer}
use Rattle.toml.specs.View.{items_of as packed}
use Rattle.stn_model.specs.Sound.{is_name}
use Rattle.fraction.specs.declared.fraction_of.Fraction.{Fraction}
use Rattle.fraction.specs.Fractions.{fraction_in}
use Rattle.plant_text.specs.declared.fault.PlantFault.{PlantFault}
use Rattle.plant_text.specs.declared.fault.Place.{Place}
use Rattle.plant_text.specs.declared.fault.KeyName.{KeyName}
use Rattle.plant_text.specs.declared.find.Key.{Key}
use Rattle.plant_text.specs.Tests.{Test, first_fault, rows_tests}
use Rattle.plant_text.specs.Fields.{list_of, items_of, numbers_of, amounts_of, count_of, integer_of, count_tests, money_tests, list_tests, kind_tests, value_tests, is_within, declares, refers, part, count, money, numbers, amounts, tables, Places}
use Rattle.plant_text.proofs.Faults.{passes, nothing}
use Rattle.plant_make.specs.Entries.{number, array_of, some_items}
use Rattle.plant_make.specs.Entries as made

-- no test of the list holds
abbrev pub Pass : List Test → Type 0
Pass tests = first_fault tests ≡ None

-- a list as items, and back
pub packed_back : (ds : List Data) → list_of (packed ds) ≡ ds
packed_back [] = refl
packed_back (d ∷ ds) = ap (λ (rest : List Data). d ∷ rest) (packed_back ds)

-- an array of values is read as what they were made of
values_back : {X : Type 0} (value : Data → X) (put : X → Data) → ((x : X) → value (put x) ≡ x) → (xs : List X) → map value (items_of (array_of (map put xs))) ≡ xs
values_back value put same xs = ap (map value) (packed_back (map put xs)) ∙ each xs
  where
    each : (ys : List _) → map value (map put ys) ≡ ys
    each [] = refl
    each (y ∷ ys) = rw (same y, each ys) refl

pub numbers_back : (ns : List ℕ) → numbers_of (made.numbers ns) ≡ ns
numbers_back ns = values_back count_of number (λ n. refl) ns

pub amounts_back : (xs : List ℤ) → amounts_of (array_of (map integer xs)) ≡ xs
amounts_back xs = values_back integer_of integer (λ x. refl) xs

within : (low high n : ℕ) → low ≤ n → n ≤ high → is_within low high (pos n) ≡ true
within low high n least most = rw (le-leb low n least, le-leb n high most) refl

pub absent_ok : (place : Place) (key : Key) (o : Option Data) (kind : _) → o ≡ None → key.required ≡ false → Pass (value_tests place key kind o)
unfolding value_tests first_fault
absent_ok place key o kind is required = rw (is, required) refl

count_passes : (place : Place) (word : KeyName) (low high n : ℕ) → low ≤ n → n ≤ high → Pass (count_tests place word low high (number n))
unfolding first_fault
count_passes place word low high n least most = rw (within low high n least most) refl

pub count_ok : (place : Place) (key : Key) (low high n : ℕ) (o : Option Data) → o ≡ Some (number n) → low ≤ n → n ≤ high → Pass (value_tests place key (count low high) o)
unfolding value_tests kind_tests
count_ok place key low high n o is least most = rw is (count_passes place key.name low high n least most)

money_passes : (place : Place) (word : KeyName) (most : ℕ) (z : ℤ) → unsigned_abs z ≤ most → Pass (money_tests place word most (integer z))
unfolding first_fault
money_passes place word most z small = rw (le-leb (unsigned_abs z) most small) refl

pub money_ok : (place : Place) (key : Key) (most : ℕ) (z : ℤ) (o : Option Data) → o ≡ Some (integer z) → unsigned_abs z ≤ most → Pass (value_tests place key (money most) o)
unfolding value_tests kind_tests
money_ok place key most z o is small = rw is (money_passes place key.name most z small)

not_below_itself : (k : ℕ) → nat_lt k k ≡ false
not_below_itself k = grind (arith, nat_tests)

pub name_ok : (place : Place) (key : Key) (places : Places) (k : ℕ) (name : List ℕ) (o : Option Data) → o ≡ Some (string name) → IsTrue (is_name name) → places name ≡ Some k → Pass (value_tests place key (declares places k) o)
unfolding value_tests kind_tests first_fault
name_ok place key places k name o is good first = rw (is, good, first, not_below_itself k) refl

pub refers_ok : (place : Place) (key : Key) (places : Places) (k : ℕ) (name : List ℕ) (o : Option Data) → o ≡ Some (string name) → places name ≡ Some k → Pass (value_tests place key (refers places) o)
unfolding value_tests kind_tests first_fault
refers_ok place key places k name o is there = rw (is, there) refl

pub part_ok : (place : Place) (key : Key) (text : List ℕ) (f : Fraction) (o : Option Data) → o ≡ Some (string text) → fraction_in text ≡ Some f → Pass (value_tests place key part o)
unfolding value_tests kind_tests first_fault
part_ok place key text f o is read = rw (is, read) refl

module _ {X : Type 0} (each : Data → List Test) (value : Data → X) (put : X → Data) (P : X → Type 0) (one : (x : X) → P x → Pass (each (put x))) where
  values_pass : (earlier xs : List X) → AllByRecursion P xs → Pass (rows_tests (λ (before : List X) (d : Data). each d) value earlier (map put xs))
  values_pass earlier [] are = nothing
  values_pass earlier (x ∷ xs) are = passes (each (put x)) _ (one x are.0) (values_pass (earlier ++ value (put x) ∷ []) xs are.1)

  -- an array of so many values passes its tests, where each value passes its own
  list_ok : (place : Place) (word : KeyName) (many : ℕ) (xs : List X) → length xs ≡ many → AllByRecursion P xs → Pass (list_tests place word false many each value (array_of (map put xs)))
  unfolding first_fault
  list_ok place word many xs long are =
      let counted : (length (map put xs) == many) ≡ true = eq-eqb _ _ (length-map xs put ∙ long) in
      rw (packed_back (map put xs), counted) (values_pass [] xs are)

pub numbers_ok : (place : Place) (key : Key) (forbidden : Bool) (many most : ℕ) (ns : List ℕ) (o : Option Data) → o ≡ Some (made.numbers ns) → forbidden ≡ false → length ns ≡ many → AllByRecursion (λ n. n ≤ most) ns
    → Pass (value_tests place key (numbers forbidden many most) o)
unfolding value_tests kind_tests
numbers_ok place key forbidden many most ns o is free long small =
    rw (is, free) (list_ok (count_tests place key.name 0 most) count_of number (λ n. n ≤ most) (λ n low. count_passes place key.name 0 most n (omega arith) low) place key.name many ns long small)

pub amounts_ok : (place : Place) (key : Key) (forbidden : Bool) (many most : ℕ) (xs : List ℤ) (o : Option Data) → o ≡ Some (array_of (map integer xs)) → forbidden ≡ false → length xs ≡ many → AllByRecursion (λ x. unsigned_abs x ≤ most) xs
    → Pass (value_tests place key (amounts forbidden many most) o)
unfolding value_tests kind_tests
amounts_ok place key forbidden many most xs o is free long small =
    rw (is, free) (list_ok (money_tests place key.name most) integer_of integer (λ x. unsigned_abs x ≤ most) (λ x low. money_passes place key.name most x low) place key.name many xs long small)

pub tables_ok : (place : Place) (key : Key) (most : ℕ) (below : List Data → List Test) (ds : List Data) (o : Option Data) → o ≡ Some (array_of ds) → length ds ≤ most → Pass (below ds) → Pass (value_tests place key (tables most below) o)
unfolding value_tests kind_tests first_fault
tables_ok place key most below ds o is few inside =
    let short : nat_lt most (length ds) ≡ false = grind (arith, nat_tests) in
    rw (is, packed_back ds, short) inside

pub maybe_tables_ok : (place : Place) (key : Key) (most : ℕ) (below : List Data → List Test) (ds : List Data) (o : Option Data) → o ≡ some_items ds → key.required ≡ false → length ds ≤ most → Pass (below ds) → Pass (value_tests place key (tables most below) o)
maybe_tables_ok place key most below [] o is required few inside = absent_ok place key o (tables most below) is required
maybe_tables_ok place key most below (d ∷ ds) o is required few inside = tables_ok place key most below (d ∷ ds) o is few inside

-- the items at a key that is left out where there are none
pub items_back : (ds : List Data) (o : Option Data) → o ≡ some_items ds → unwrap_or (option_map items_of o) [] ≡ ds
items_back [] o is = rw is refl
items_back (d ∷ ds) o is = rw is (packed_back (d ∷ ds))

-- an array that is not empty is there
pub some_there : (ds : List Data) → 1 ≤ length ds → some_items ds ≡ Some (array_of ds)
some_there [] some = absurd (omega arith)
some_there (d ∷ ds) some = refl

-- a test that does not hold, before others that pass
pub one_more : (b : Bool) (f : PlantFault) (tests : List Test) → b ≡ false → Pass tests → Pass ((b, f) ∷ tests)
unfolding first_fault
one_more b f tests is rest = rw is rest
