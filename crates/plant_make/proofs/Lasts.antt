-- The batch that held a unit last, as it is printed, is read as it was.
use Rattle.std.proofs.Common.{◌≡◌, ◌≤ℤ◌, ℕ, ℤ, pos, int_le, Bool, true, false, cond, Option, Some, None, option_map, unwrap_or, refl, sym, ◌∙◌, arith}
use Rattle.std.specs.Prelude.{IfSome}
use Rattle.std.specs.Ordering.{int_eq}
use Rattle.std.proofs.lemmas.Bool.{cases_Bool}
use Rattle.std.proofs.Common.{inl, inr}
use Rattle.std.proofs.lemmas.Bool.Decides.{Decides-int_eq}
use Rattle.std.proofs.lemmas.Int.{ints}
use Rattle.toml.specs.Data.{Data, integer}
use Rattle.stn_model.specs.declared.plant.Plant.{Plant}
use Rattle.stn_model.specs.declared.plant.Last.{Last}
use Rattle.stn_model.specs.Plant.{task_at}
use Rattle.plant_text.specs.declared.fault.Place.{Place}
use Rattle.plant_text.specs.declared.find.Key.{Key}
use Rattle.plant_text.specs.Tests.{first_fault}
use Rattle.plant_text.specs.Fields.{Places, mentions, time, is_between, integer_of, place_of, value_tests, kind_tests}
use Rattle.plant_text.specs.Tables.{is_stray}
use Rattle.plant_make.specs.Printed.{last_name, until_of}
use Rattle.plant_make.proofs.Passing.{Pass, absent_ok}

-- its task's name passes the test of its key
pub mention_ok : (place : Place) (key : Key) (plant : Plant) (last : Option Last) (o : Option Data) → o ≡ last_name plant last → key.required ≡ false → Pass (value_tests place key mentions o)
unfolding value_tests kind_tests first_fault
mention_ok place key plant None o is free = absent_ok place key o mentions is free
mention_ok place key plant (Some last) o is free = rw is refl

between : (low high z : ℤ) → low ≤ℤ z → z ≤ℤ high → is_between low high z ≡ true
between low high z early late =
    let first : int_le low z ≡ true = grind (arith, ints) in
    let second : int_le z high ≡ true = grind (arith, ints) in
    rw (first, second) refl

-- and its end that of the other, with which it stands
pub time_ok : (place : Place) (key : Key) (alone : Bool) (low high : ℤ) (last : Option Last) (o : Option Data) → o ≡ until_of last → key.required ≡ false
    → IfSome last (λ batch. (alone ≡ false) × (low ≤ℤ batch.until) × (batch.until ≤ℤ high)) → Pass (value_tests place key (time alone low high) o)
unfolding value_tests kind_tests first_fault
time_ok place key alone low high None o is free kept = absent_ok place key o (time alone low high) is free
time_ok place key alone low high (Some last) o is free kept =
    elim (cases_Bool (int_eq last.until (pos 0))) [
      | inl zero ↦ absent_ok place key o (time alone low high) (is ∙ rw zero refl) free
      | inr other ↦
          let there : o ≡ Some (integer last.until) = is ∙ rw other refl in
          rw (there, between low high last.until kept.1 kept.2, kept.0) refl
    ]

-- the end, where it is left out at 0
until_back : (z : ℤ) (o : Option Data) → o ≡ cond (int_eq z (pos 0)) None (Some (integer z)) → unwrap_or (option_map integer_of o) (pos 0) ≡ z
until_back z o is =
    elim (cases_Bool (int_eq z (pos 0))) [
      | inl zero ↦
          let there : o ≡ None = is ∙ rw zero refl in
          rw there (sym ((Decides-int_eq z (pos 0)).0 zero))
      | inr other ↦ let there : o ≡ Some (integer z) = is ∙ rw other refl in rw there refl
    ]

-- both are read as they were
pub last_back : (places : Places) (plant : Plant) (last : Option Last) (o p : Option Data) → o ≡ last_name plant last → p ≡ until_of last → IfSome last (λ batch. places (task_at plant batch.task).name ≡ Some batch.task)
    → option_map (λ (number : ℕ). let batch : Last = record { task = number; until = unwrap_or (option_map integer_of p) (pos 0) } in batch) (option_map (place_of places) o) ≡ last
last_back places plant None o p is_o is_p named = rw is_o refl
last_back places plant (Some last) o p is_o is_p named = rw (is_o, named, until_back last.until p is_p) refl

-- and the task is declared
pub declared : (places : Places) (plant : Plant) (last : Option Last) (o : Option Data) → o ≡ last_name plant last → IfSome last (λ batch. places (task_at plant batch.task).name ≡ Some batch.task) → is_stray places o ≡ false
declared places plant None o is named = rw is refl
declared places plant (Some last) o is named = rw (is, named) refl
