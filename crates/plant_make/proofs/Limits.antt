-- Limits that are printed as one number or as a list are read as they were.
use Rattle.std.proofs.Common.{◌≡◌, ℕ, ◌≤◌, ◌⊎◌, eqb, true, false, not, List, [], ◌∷◌, length, replicate, Option, Some, None, is_some, option_map, refl, sym, ap, ◌∙◌, inl, inr, arith}
use Rattle.std.specs.List.{AllByRecursion, list_all}
use Rattle.std.proofs.lemmas.Bool.{cases_Bool, and_parts, eqb-true}
use Rattle.toml.specs.Data.{Data}
use Rattle.plant_text.specs.declared.fault.Place.{Place}
use Rattle.plant_text.specs.declared.find.Key.{Key}
use Rattle.plant_text.specs.Fields.{count, count_of, numbers_of, value_tests}
use Rattle.plant_text.specs.Fields as fields
use Rattle.plant_text.specs.Tables.{limits_in}
use Rattle.plant_make.specs.Entries.{number, numbers}
use Rattle.plant_make.specs.Numbers.{lone, several}
use Rattle.plant_make.proofs.Passing.{Pass, absent_ok, count_ok, numbers_ok, numbers_back}

-- how limits are printed: not at all, as one number, or as several
data Form (ns : List ℕ) : Type 0 where
  none : ns ≡ [] → lone ns ≡ None → several ns ≡ None → Form ns
  one : (n : ℕ) (rest : List ℕ) → ns ≡ n ∷ rest → lone ns ≡ Some n → several ns ≡ None → ns ≡ replicate (length ns) n → Form ns
  many : (n : ℕ) (rest : List ℕ) → ns ≡ n ∷ rest → lone ns ≡ None → several ns ≡ Some ns → Form ns

all_same : (n : ℕ) (ns : List ℕ) → list_all (λ k. eqb k n) ns ≡ true → ns ≡ replicate (length ns) n
all_same n [] are = refl
all_same n (k ∷ ns) are =
    let parts = and_parts (eqb k n) (list_all (λ j. eqb j n) ns) are in
    let same : k ≡ n = eqb-true k n parts.0 in
    rw same (ap (λ (rest : List ℕ). n ∷ rest) (all_same n ns parts.1))

form_of : (ns : List ℕ) → Form ns
unfolding lone several
form_of [] = none refl refl refl
form_of (n ∷ ns) =
    elim (cases_Bool (list_all (λ k. eqb k n) (n ∷ ns))) [
      | inl e ↦ one n ns refl (rw e refl) (rw e refl) (all_same n (n ∷ ns) e)
      | inr e ↦ many n ns refl (rw e refl) (rw e refl)
    ]

first_small : (most n : ℕ) (ns rest : List ℕ) → ns ≡ n ∷ rest → AllByRecursion (λ k. k ≤ most) ns → n ≤ most
first_small most n [] rest is small = absurd cc
first_small most n (k ∷ ns) rest is small = let same : k ≡ n = cc in omega (arith, small.0)

is_long : (n size : ℕ) (ns rest : List ℕ) → ns ≡ n ∷ rest → (ns ≡ []) ⊎ (length ns ≡ size) → length ns ≡ size
is_long n size ns rest is (inl empty) = absurd cc
is_long n size ns rest is (inr long) = long

module _ (place : Place) (lone_key several_key : Key) (o p : Option Data) (ns : List ℕ) (size most : ℕ)
    (is_o : o ≡ option_map number (lone ns)) (is_p : p ≡ option_map numbers (several ns))
    (lone_free : o ≡ None → lone_key.required ≡ false) (several_free : several_key.required ≡ false)
    (long : (ns ≡ []) ⊎ (length ns ≡ size)) (small : AllByRecursion (λ n. n ≤ most) ns) where
  -- limits pass the tests of their two keys, and are read as they were
  pub limits_ok : Pass (value_tests place lone_key (count 0 most) o) × Pass (value_tests place several_key (fields.numbers (is_some o) size most) p)
      × (limits_in (option_map count_of o) (option_map numbers_of p) size ≡ ns)
  limits_ok =
      elim (form_of ns) [
        | none empty l s ↦
            let o_is : o ≡ None = is_o ∙ ap (option_map number) l in
            let p_is : p ≡ None = is_p ∙ ap (option_map numbers) s in
            (absent_ok place lone_key o (count 0 most) o_is (lone_free o_is), absent_ok place several_key p (fields.numbers (is_some o) size most) p_is several_free, rw (o_is, p_is, empty) refl)
        | one n rest is l s all ↦
            let o_is : o ≡ Some (number n) = is_o ∙ ap (option_map number) l in
            let p_is : p ≡ None = is_p ∙ ap (option_map numbers) s in (
              count_ok place lone_key 0 most n o o_is (omega arith) (first_small most n ns rest is small),
              absent_ok place several_key p (fields.numbers (is_some o) size most) p_is several_free,
              rw (o_is, p_is) (ap (λ (m : ℕ). replicate m n) (sym (is_long n size ns rest is long)) ∙ sym all),
            )
        | many n rest is l s ↦
            let o_is : o ≡ None = is_o ∙ ap (option_map number) l in
            let p_is : p ≡ Some (numbers ns) = is_p ∙ ap (option_map numbers) s in (
              absent_ok place lone_key o (count 0 most) o_is (lone_free o_is),
              numbers_ok place several_key (is_some o) size most ns p p_is (rw o_is refl) (is_long n size ns rest is long) small,
              rw (o_is, p_is) (numbers_back ns),
            )
      ]

-- limits that are there and not printed as one number are printed as several
pub always_some : (o p : Option Data) (ns : List ℕ) → o ≡ option_map number (lone ns) → p ≡ option_map numbers (several ns) → 1 ≤ length ns → o ≡ None → not (is_some p) ≡ false
always_some o p ns is_o is_p some absent =
    elim (form_of ns) [
      | none empty l s ↦ absurd (omega (arith, ap length empty))
      | one n rest is l s all ↦ let o_is : o ≡ Some (number n) = is_o ∙ ap (option_map number) l in absurd cc
      | many n rest is l s ↦ let p_is : p ≡ Some (numbers ns) = is_p ∙ ap (option_map numbers) s in rw p_is refl
    ]
