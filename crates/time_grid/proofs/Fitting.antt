-- Starts that fit, and the slots that they are in.
use Rattle.std.proofs.Common.{◌≡◌, ℕ, ◌+◌, ◌<◌, ◌≤◌, Bool, true, false, Option, Some, None, IsSomeAnd, List, length, get_or, position, slice_get, find, sym, refl, ◌∙◌, arith, inl, inr, ap, ap₂, subst}
use Rattle.std.specs.List.{position_or_len}
use Rattle.std.proofs.lemmas.Option.{none-some, same_Some, slice_get_within, get_or_from_slice_get}
use Rattle.std.proofs.lemmas.List.{get_or_default}
use Rattle.std.proofs.lemmas.List.Sums.{passes_at_first, fails_before_first}
use Rattle.std.proofs.lemmas.List.Folds.{find_at}
use Rattle.std.proofs.lemmas.List.Quantifiers.{position-Some}
use Rattle.std.proofs.lemmas.Bool.{eqb-true, eq-eqb, lt-ltb, and_parts, and_from, cases_lt, true≢false}
use Rattle.stn_model.specs.declared.plant.Plant.{Plant}
use Rattle.stn_model.specs.declared.plant.Run.{Run}
use Rattle.stn_model.specs.declared.start.Start.{Start}
use Rattle.stn_model.specs.Plant.{task_at, duration_of, is_of, run_on, run_number, end_of, no_run, run_at}
use Rattle.stn_model.specs.Fits.{Fits}
use Rattle.stn_model.specs.Points.{has_slot, least_start}
use Rattle.stn_model.specs.Sound.{Sound, SoundRun}
use Rattle.stn_model.proofs.Fitting.{duration_pos, fit_parts, fits_from_parts}
use Rattle.time_grid.specs.Slots.{slots, is_slot, IsSlotOf}
use Rattle.time_grid.specs.PlanPoint.{is_in, IsPlaceOf}
use Rattle.time_grid.proofs.SlotList.{Contains-slots}

-- the first that passes is at the first place
record FoundAt {X : Type 0} (p : X → Bool) (xs : List X) (x : X) : Type 0 where
  place : ℕ
  within : place < length xs
  position_is : position p xs ≡ Some place
  is : (d : X) → get_or xs place d ≡ x
  holds : p x ≡ true

found_at : {X : Type 0} (p : X → Bool) (xs : List X) (x : X) → find p xs ≡ Some x → FoundAt p xs x
found_at p xs x e =
    let place = position_or_len p xs in
    let at : slice_get xs place ≡ Some x = sym (find_at p xs) ∙ e in
    let within : place < length xs = slice_get_within xs place x at in
    let here : get_or xs place x ≡ x = get_or_from_slice_get xs place x x at in
    record {
      place = place;
      within = within;
      position_is = rw (lt-ltb place (length xs) within);
      is = λ d. get_or_from_slice_get xs place x d at;
      holds = rw (← here) (passes_at_first p xs x within);
    }

some_and : {X : Type 0} (o : Option X) (P : X → Type 0) → IsSomeAnd o P → (x : X) × ((o ≡ Some x) × P x)
some_and None P h = absurd h
some_and (Some x) P h = (x, (refl, h))

-- where a start of a run fits in a period, so does the one with the run's least batch
pub least-fits : (plant : Plant) (start : Start) (run : Run) → Fits plant start → run_on plant start.task start.unit ≡ Some run →
    run.task ≡ start.task → run.unit ≡ start.unit → has_slot plant run start.period ≡ true
unfolding has_slot end_of
least-fits plant start run fits found task unit =
    let parts = fit_parts plant start fits in
    let size = subst (λ (o : Option Run). IsSomeAnd o (λ r. (r.min ≤ start.quanta) × (start.quanta ≤ r.max))) found parts.size in
    let found2 : run_on plant run.task run.unit ≡ Some run = ap₂ (run_on plant) task unit ∙ found in
    fits_from_parts plant (least_start run start.period) (record {
      size = subst (λ (o : Option Run). IsSomeAnd o (λ r. (r.min ≤ run.min) × (run.min ≤ r.max))) (sym found2) (omega arith, omega (arith, size.0, size.1));
      ends = rw task parts.ends;
      in_use = rw (task, unit) parts.in_use;
    })

-- a start that fits, and the run and the slot that it is of
pub record FitsAt (plant : Plant) (start : Start) : Type 0 where
  pub run : ℕ
  pub number : run_number plant start.task start.unit ≡ Some run
  pub slot : IsSlotOf plant (run, start.period)
  pub holds : is_in plant (run, start.period) start ≡ true
  pub least : (run_at plant run).min ≤ start.quanta
  pub most : start.quanta ≤ (run_at plant run).max

pub fits-at : (plant : Plant) (start : Start) → Sound plant → Fits plant start → FitsAt plant start
unfolding run_on run_number end_of
fits-at plant start sound fits =
    let parts_of = fit_parts plant start fits in
    let found = some_and (run_on plant start.task start.unit) (λ run. (run.min ≤ start.quanta) × (start.quanta ≤ run.max)) parts_of.size in
    let at = found_at (is_of start.task start.unit) plant.runs found.0 found.1.0 in
    let same : run_at plant at.place ≡ found.0 = at.is no_run in
    let of : is_of start.task start.unit (run_at plant at.place) ≡ true = rw same at.holds in
    let parts = and_parts _ _ of in
    let task : (run_at plant at.place).task ≡ start.task = eqb-true _ _ parts.0 in
    let unit : (run_at plant at.place).unit ≡ start.unit = eqb-true _ _ parts.1 in
    let is : SoundRun plant (run_at plant at.place) = sound.runs at.place no_run at.within in
    let there : start.task < length plant.tasks = rw task at is.task in
    let long = duration_pos plant start.task sound there in
    let ends : start.period + duration_of (task_at plant start.task) ≤ plant.periods = parts_of.ends in
    record {
      run = at.place;
      number = at.position_is;
      slot = record {
        run = at.within;
        period = omega (arith, long, ends);
        has = least-fits plant start (run_at plant at.place) fits (found.1.0 ∙ ap Some (sym same)) task unit;
      };
      holds = and_from _ _ (eq-eqb start.period start.period refl) of;
      least = rw same found.1.1.0;
      most = rw same found.1.1.1;
    }

-- a start that fits is in one of the slots
pub place-of-fits : (plant : Plant) (start : Start) → Sound plant → Fits plant start → (place : ℕ) × IsPlaceOf plant start place
place-of-fits plant start sound fits =
    let at = fits-at plant start sound fits in
    let there = Contains-slots plant (at.run, start.period) at.slot in
    let same : get_or (slots plant) there.0 (0, 0) ≡ (at.run, start.period) = get_or_default (slots plant) there.0 (0, 0) (at.run, start.period) there.1 ∙ there.2 in
    (there.0, record { within = there.1; holds = rw same at.holds })

-- the slot of a run and a period is in its place
pub place_is : (plant : Plant) (start : Start) (run place : ℕ) → Sound plant → Fits plant start → run_number plant start.task start.unit ≡ Some run →
    position (is_slot run start.period) (slots plant) ≡ Some place → IsPlaceOf plant start place
place_is plant start run place sound fits number found =
    let at = fits-at plant start sound fits in
    let same : at.run ≡ run = same_Some at.run run (sym at.number ∙ number) in
    let is = position-Some (is_slot run start.period) (slots plant) place (0, 0) found in
    let slot = get_or (slots plant) place (0, 0) in
    let parts = and_parts _ _ is.1 in
    let e : slot ≡ (at.run, start.period) = ap₂ (λ x y. (x, y)) (eqb-true _ _ parts.0 ∙ sym same) (eqb-true _ _ parts.1) in
    record { within = is.0; holds = rw e at.holds }

-- a start that fits has a slot
pub no_place : (plant : Plant) (start : Start) (run : ℕ) → Sound plant → Fits plant start → run_number plant start.task start.unit ≡ Some run →
    position (is_slot run start.period) (slots plant) ≡ None → ⊥
no_place plant start run sound fits number none =
    let at = fits-at plant start sound fits in
    let same : at.run ≡ run = same_Some at.run run (sym at.number ∙ number) in
    let there = Contains-slots plant (at.run, start.period) at.slot in
    let p = is_slot run start.period in
    elim (cases_lt (position_or_len p (slots plant)) (length (slots plant))) [
      | inl l ↦ none-some (position_or_len p (slots plant)) (sym none ∙ rw (lt-ltb (position_or_len p (slots plant)) (length (slots plant)) l))
      | inr l ↦
          let fails : p (get_or (slots plant) there.0 (at.run, start.period)) ≡ false = fails_before_first p (slots plant) there.0 (at.run, start.period) (omega (arith, there.1)) in
          let holds : p (at.run, start.period) ≡ true = and_from _ _ (eq-eqb _ _ same) (eq-eqb start.period start.period refl) in
          true≢false (sym holds ∙ rw there.2 at fails)
    ]
