-- Reading items one after the other: what is left to read, after those that are read.
use Rattle.std.proofs.Common.{◌≡◌, ℕ, ◌+◌, ◌<◌, ◌≤◌, List, [], ◌∷◌, ◌++◌, length, map, take, drop, get_or, None, refl, sym, ap, ◌∙◌}
use Rattle.std.specs.Option.{option_or}
use Rattle.std.proofs.lemmas.List.{drop_more, drop_all, take_all, map_more, map_push}
use Rattle.plant_text.specs.declared.fault.PlantStop.{PlantStop}
use Rattle.plant_text.specs.declared.fault.PlantStop.TheVariants as stop
use Rattle.plant_text.specs.Tests.{Test, first_fault, Stops, rows_tests, numbered_tests}
use Rattle.plant_text.proofs.Faults.{faults_append}

-- the tests of the items that are left are the rest of all, after the values of those before them
pub record IsAt {V X Y : Type 0} (see : V → X) (tests : List Y → X → List Test) (value : X → Y) (vs : List V) (i : ℕ) (earlier : List Y) : Type 0 where
  pub faults : first_fault (rows_tests tests value earlier (map see (drop i vs))) ≡ first_fault (rows_tests tests value [] (map see vs))
  pub values : earlier ≡ map value (map see (take i vs))

module _ {V X Y : Type 0} (see : V → X) (tests : List Y → X → List Test) (value : X → Y) where
  drop_next : (vs : List V) (i : ℕ) (v : V) → i < length vs → v ≡ get_or vs i v → map see (drop i vs) ≡ see v ∷ map see (drop (i + 1) vs)
  drop_next vs i v lt is = rw (drop_more vs i v lt) (rw (← is) refl)

  -- the first fault of what is left, from the next item on
  next : (vs : List V) (i : ℕ) (v : V) (earlier : List Y) → i < length vs → v ≡ get_or vs i v → IsAt see tests value vs i earlier
      → option_or (first_fault (tests earlier (see v))) (first_fault (rows_tests tests value (earlier ++ value (see v) ∷ []) (map see (drop (i + 1) vs)))) ≡ first_fault (rows_tests tests value [] (map see vs))
  next vs i v earlier lt is at =
      sym (faults_append (tests earlier (see v)) (rows_tests tests value (earlier ++ value (see v) ∷ []) (map see (drop (i + 1) vs)))) ∙ (rw (drop_next vs i v lt is) at at.faults)

  -- a step of a loop over the items
  pub loop_on : (vs : List V) (i : ℕ) (v : V) (earlier : List Y) (y : Y) → i < length vs → v ≡ get_or vs i v
      → first_fault (tests earlier (see v)) ≡ None → y ≡ value (see v) → IsAt see tests value vs i earlier → IsAt see tests value vs (i + 1) (earlier ++ y ∷ [])
  loop_on vs i v earlier y lt is passes same at =
      record {
        faults = rw same (rw passes at (next vs i v earlier lt is at));
        values = rw (same, at.values) (sym (ap (map value) (map_more see vs i v lt) ∙ (map_push value (map see (take i vs)) (see (get_or vs i v)) ∙ rw (← is) refl)));
      }

  -- an exit of a loop over the items
  pub loop_err : (e : PlantStop) (vs : List V) (i : ℕ) (v : V) (earlier : List Y) → i < length vs → v ≡ get_or vs i v
      → Stops e (first_fault (tests earlier (see v))) → IsAt see tests value vs i earlier → Stops e (first_fault (rows_tests tests value [] (map see vs)))
  loop_err stop.Memory vs i v earlier lt is h at = tt
  loop_err (stop.Fault f) vs i v earlier lt is h at = sym (next vs i v earlier lt is at) ∙ rw h refl

  -- the end of a loop over the items
  pub loop_end : (vs : List V) (i : ℕ) (earlier : List Y) → length vs ≤ i → IsAt see tests value vs i earlier
      → (first_fault (rows_tests tests value [] (map see vs)) ≡ None) × (earlier ≡ map value (map see vs))
  unfolding first_fault
  loop_end vs i earlier le at =
      (sym at.faults ∙ rw (drop_all i vs le) refl, at.values ∙ rw (take_all i vs le) refl)

  -- the start of a loop over the items
  pub loop_start : (vs : List V) → IsAt see tests value vs 0 []
  loop_start vs = record { faults = refl; values = refl }

-- the tests of the items that are left, by their numbers, are the rest of all
abbrev pub IsNumbered : {V X : Type 0} → (V → X) → (ℕ → X → List Test) → List V → ℕ → Type 0
IsNumbered see tests vs i = first_fault (numbered_tests tests i (map see (drop i vs))) ≡ first_fault (numbered_tests tests 0 (map see vs))

module _ {V X : Type 0} (see : V → X) (tests : ℕ → X → List Test) (vs : List V) (i : ℕ) (v : V) (lt : i < length vs) (is : v ≡ get_or vs i v) (at : IsNumbered see tests vs i) where
  numbered_next : option_or (first_fault (tests i (see v))) (first_fault (numbered_tests tests (i + 1) (map see (drop (i + 1) vs)))) ≡ first_fault (numbered_tests tests 0 (map see vs))
  numbered_next =
      let left : map see (drop i vs) ≡ see v ∷ map see (drop (i + 1) vs) = rw (drop_more vs i v lt) (rw (← is) refl) in
      sym (faults_append (tests i (see v)) (numbered_tests tests (i + 1) (map see (drop (i + 1) vs)))) ∙ (rw left at at)

  -- a step of a loop over them
  pub numbered_on : first_fault (tests i (see v)) ≡ None → IsNumbered see tests vs (i + 1)
  numbered_on passes = rw passes at numbered_next

  -- an exit of it
  pub numbered_err : (e : PlantStop) → Stops e (first_fault (tests i (see v))) → Stops e (first_fault (numbered_tests tests 0 (map see vs)))
  numbered_err stop.Memory h = tt
  numbered_err (stop.Fault f) h = sym numbered_next ∙ rw h refl

-- and its end
pub numbered_end : {V X : Type 0} (see : V → X) (tests : ℕ → X → List Test) (vs : List V) (i : ℕ) → length vs ≤ i → IsNumbered see tests vs i → first_fault (numbered_tests tests 0 (map see vs)) ≡ None
unfolding first_fault
numbered_end see tests vs i le at = sym at ∙ rw (drop_all i vs le) refl
