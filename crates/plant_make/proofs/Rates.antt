-- What a utility costs, printed as one rate or as a list, is read as it was.
use Rattle.std.proofs.Common.{◌≡◌, ◌≤◌, ◌⊎◌, ℕ, ℤ, pos, eqb, false, cond, List, [], ◌∷◌, length, Option, Some, None, is_some, option_map, unwrap_or, unsigned_abs, refl, sym, ◌∙◌, inl, inr, arith}
use Rattle.std.specs.List.{AllByRecursion}
use Rattle.std.proofs.lemmas.Bool.Decides.{nat_tests}
use Rattle.toml.specs.Data.{Data, integer}
use Rattle.plant_text.specs.declared.fault.Place.{Place}
use Rattle.plant_text.specs.declared.find.Key.{Key}
use Rattle.plant_text.specs.Fields.{money, amounts, integer_of, amounts_of, value_tests}
use Rattle.plant_make.specs.Entries.{some_amounts}
use Rattle.plant_make.proofs.Passing.{Pass, absent_ok, money_ok, amounts_ok, amounts_back}

-- where there are rates by period, no one rate is printed
no_lone : (x : ℤ) (xs : List ℤ) (rate : ℤ) → cond (eqb (length (x ∷ xs)) 0) (Some (integer rate)) None ≡ None
no_lone x xs rate =
    let some : eqb (length (x ∷ xs)) 0 ≡ false = grind (arith, nat_tests) in
    rw some refl

-- the rate and the rates pass the tests of their two keys, and are read as they were
pub rates_ok : (place : Place) (rate_key rates_key : Key) (o p : Option Data) (rate : ℤ) (rates : List ℤ) (many most : ℕ) → o ≡ cond (eqb (length rates) 0) (Some (integer rate)) None → p ≡ some_amounts rates
    → rate_key.required ≡ false → rates_key.required ≡ false → (rates ≡ []) ⊎ ((length rates ≡ many) × (rate ≡ pos 0)) → unsigned_abs rate ≤ most → AllByRecursion (λ x. unsigned_abs x ≤ most) rates
    → Pass (value_tests place rate_key (money most) o) × Pass (value_tests place rates_key (amounts (is_some o) many most) p)
    × (unwrap_or (option_map integer_of o) (pos 0) ≡ rate) × (unwrap_or (option_map amounts_of p) [] ≡ rates)
rates_ok place rate_key rates_key o p rate [] many most is_o is_p rate_free rates_free whole small each =
    (money_ok place rate_key most rate o is_o small, absent_ok place rates_key p (amounts (is_some o) many most) is_p rates_free, rw is_o refl, rw is_p refl)
rates_ok place rate_key rates_key o p rate (x ∷ xs) many most is_o is_p rate_free rates_free (inl none) small each = absurd cc
rates_ok place rate_key rates_key o p rate (x ∷ xs) many most is_o is_p rate_free rates_free (inr whole) small each =
    let absent : o ≡ None = is_o ∙ no_lone x xs rate in (
      absent_ok place rate_key o (money most) absent rate_free,
      amounts_ok place rates_key (is_some o) many most (x ∷ xs) p is_p (rw absent refl) whole.0 each,
      rw absent (sym whole.1),
      rw is_p (amounts_back (x ∷ xs)),
    )
