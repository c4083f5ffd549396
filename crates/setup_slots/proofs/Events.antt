-- Each slot of a plan's setup stands once among those of the unit's.
use Rattle.std.proofs.Common.{◌≡◌, ℕ, ◌+◌, ◌<◌, ◌≤◌, ◌==◌, ◌&&◌, not, nat_le, Bool, true, false, List, [], ◌∷◌, length, refl, sym, ap, ◌∙◌, arith, inl, inr, subst}
use Rattle.std.specs.List.{All, Contains, list_any}
use Rattle.std.proofs.lemmas.Bool.{and_from, and_parts, cases_Bool, eq-eqb, eqb-true, le-leb}
use Rattle.std.proofs.lemmas.List.Elements.{All-cons, All-head, All-nil, All-tail}
use Rattle.std.proofs.lemmas.List.Folds.{list_any_at}
use Rattle.stn_model.specs.declared.plant.Plant.{Plant}
use Rattle.stn_model.specs.declared.start.Start.{Start}
use Rattle.stn_model.specs.Fits.{Fits}
use Rattle.stn_model.specs.Plant.{duration_of, end_of, gap_between, no_run, run_at, task_at}
use Rattle.stn_model.specs.Sound.{Sound}
use Rattle.time_grid.specs.Slots.{slots}
use Rattle.time_grid.proofs.Fitting.{fits-at}
use Rattle.time_grid.proofs.Lists.{Contains-map}
use Rattle.time_grid.proofs.SlotList.{Contains-slots}
use Rattle.setup_slots.specs.declared.setup.SetupSlot.TheVariants.{First, Change}
use Rattle.setup_slots.specs.declared.task_slot.TaskSlot.{TaskSlot}
use Rattle.setup_slots.specs.Image.{changes_along, setup_of}
use Rattle.setup_slots.specs.Slots.{has_slots, is_change, is_of, is_over, setup_slots, starts_in, task_slot, task_slots}
use Rattle.setup_slots.proofs.Exchange.{StandsOnce}
use Rattle.setup_slots.proofs.Once.{change-once, first-once, task-once}
use Rattle.setup_slots.proofs.Steps.{FollowAll, Follows, Step, changes-other, changes-same}

-- the slot of a start
record HasSlot (plant : Plant) (a : Start) : Type 0 where
  slot : TaskSlot
  there : Contains (task_slots plant) slot
  unit_is : slot.unit ≡ a.unit
  task_is : slot.task ≡ a.task
  period_is : slot.period ≡ a.period
  end_is : slot.end ≡ end_of plant a
  task_less : a.task < length plant.tasks

-- a start that fits has one
has_slot : (plant : Plant) (a : Start) → Sound plant → Fits plant a → HasSlot plant a
unfolding end_of
has_slot plant a sound fits =
    let at = fits-at plant a sound fits in
    let pair : ℕ × ℕ = (at.run, a.period) in
    let run = run_at plant at.run in
    let both = and_parts (a.period == a.period) (run.task == a.task && run.unit == a.unit) at.holds in
    let of = and_parts (run.task == a.task) (run.unit == a.unit) both.1 in
    let task : run.task ≡ a.task = eqb-true run.task a.task of.0 in
    let sound_run = sound.runs at.run no_run at.slot.run in
    record {
      slot = task_slot plant pair;
      there = Contains-map (task_slot plant) (slots plant) pair (Contains-slots plant pair at.slot);
      unit_is = eqb-true run.unit a.unit of.1;
      task_is = task;
      period_is = refl;
      end_is = ap (λ k. a.period + duration_of (task_at plant k)) task;
      task_less = omega (arith, sound_run.task, task);
    }

any_from : {X : Type 0} (p : X → Bool) (xs : List X) (x : X) → Contains xs x → p x ≡ true → list_any p xs ≡ true
any_from p xs x there t = list_any_at p xs there.0 x there.1 (ap p there.2 ∙ t)

-- so its task has slots on the unit, and there one in its period, and one that is over after its end and a gap
of_start : (plant : Plant) (unit : ℕ) (a : Start) (has : HasSlot plant a) → a.unit ≡ unit → is_of unit a.task has.slot ≡ true
of_start plant unit a has on = and_from (has.slot.unit == unit) (has.slot.task == a.task) (eq-eqb has.slot.unit unit (has.unit_is ∙ on)) (eq-eqb has.slot.task a.task has.task_is)

start_task : (plant : Plant) (unit : ℕ) (a : Start) → HasSlot plant a → a.unit ≡ unit → has_slots plant unit a.task ≡ true
start_task plant unit a has on = any_from (is_of unit a.task) (task_slots plant) has.slot has.there (of_start plant unit a has on)

start_there : (plant : Plant) (unit : ℕ) (a : Start) → HasSlot plant a → a.unit ≡ unit → list_any (starts_in unit a.task a.period) (task_slots plant) ≡ true
start_there plant unit a has on =
    any_from (starts_in unit a.task a.period) (task_slots plant) has.slot has.there
    (and_from (is_of unit a.task has.slot) (has.slot.period == a.period) (of_start plant unit a has on) (eq-eqb has.slot.period a.period has.period_is))

start_over : (plant : Plant) (unit gap period : ℕ) (a : Start) → HasSlot plant a → a.unit ≡ unit → end_of plant a + gap ≤ period → list_any (is_over unit a.task gap period) (task_slots plant) ≡ true
start_over plant unit gap period a has on over =
    let ends = has.end_is in
    any_from (is_over unit a.task gap period) (task_slots plant) has.slot has.there
    (and_from (is_of unit a.task has.slot) (nat_le (has.slot.end + gap) period) (of_start plant unit a has on) (le-leb (has.slot.end + gap) period (omega (arith, ends, over))))

-- a step to another task is a change
step_change : (plant : Plant) (unit : ℕ) (plan : List Start) (a b : Start) → HasSlot plant a → HasSlot plant b → a.unit ≡ unit → b.unit ≡ unit → Step plant unit plan a b → (a.task == b.task) ≡ false →
    is_change plant unit a.task b.task b.period ≡ true
step_change plant unit plan a b a_has b_has a_on b_on step other =
    and_from (not (a.task == b.task) && list_any (starts_in unit b.task b.period) (task_slots plant)) (list_any (is_over unit a.task (gap_between plant unit a.task b.task) b.period) (task_slots plant))
    (and_from (not (a.task == b.task)) (list_any (starts_in unit b.task b.period) (task_slots plant)) (ap not other) (start_there plant unit b b_has b_on))
    (start_over plant unit (gap_between plant unit a.task b.task) b.period a a_has a_on step.over)

-- what the starts on the unit keep
pub record AreOn (plant : Plant) (unit : ℕ) (starts : List Start) : Type 0 where
  pub fits : All (Fits plant) starts
  pub on : All (λ c. c.unit ≡ unit) starts
  pub within : All (λ c. c.period < plant.periods) starts

first_on : (plant : Plant) (unit : ℕ) (a : Start) (rest : List Start) → AreOn plant unit (a ∷ rest) → Fits plant a × (a.unit ≡ unit) × (a.period < plant.periods)
first_on plant unit a rest are = (All-head (Fits plant) a rest are.fits, All-head (λ c. c.unit ≡ unit) a rest are.on, All-head (λ c. c.period < plant.periods) a rest are.within)

later_on : (plant : Plant) (unit : ℕ) (a : Start) (rest : List Start) → AreOn plant unit (a ∷ rest) → AreOn plant unit rest
later_on plant unit a rest are = record {
  fits = All-tail (Fits plant) a rest are.fits;
  on = All-tail (λ c. c.unit ≡ unit) a rest are.on;
  within = All-tail (λ c. c.period < plant.periods) a rest are.within;
}

changes-once : (plant : Plant) (unit : ℕ) (plan : List Start) (a : Start) (rest : List Start) → Sound plant → AreOn plant unit (a ∷ rest) → Follows plant unit plan a rest →
    All (StandsOnce (setup_slots plant unit)) (changes_along a rest)
changes-once plant unit plan a [] sound are follows = All-nil (StandsOnce (setup_slots plant unit))
changes-once plant unit plan a (b ∷ rest) sound are follows =
    let P = StandsOnce (setup_slots plant unit) in
    let others = later_on plant unit a (b ∷ rest) are in
    let more = changes-once plant unit plan b rest sound others follows.1 in
    let a_is = first_on plant unit a (b ∷ rest) are in
    let b_is = first_on plant unit b rest others in
    let a_has = has_slot plant a sound a_is.0 in
    let b_has = has_slot plant b sound b_is.0 in
    elim (cases_Bool (a.task == b.task)) [
      | inl t ↦ subst (All P) (sym (changes-same a b rest t)) more
      | inr t ↦ subst (All P) (sym (changes-other a b rest t)) (All-cons P (Change a.task b.task b.period) (changes_along b rest)
          (change-once plant unit a.task b.task b.period
          (task-once plant unit a.task (start_task plant unit a a_has a_is.1) a_has.task_less)
          (task-once plant unit b.task (start_task plant unit b b_has b_is.1) b_has.task_less)
          (step_change plant unit plan a b a_has b_has a_is.1 b_is.1 follows.0 t) b_is.2) more)
    ]

-- each slot of the setup of starts stands once among the unit's
pub events-once : (plant : Plant) (unit : ℕ) (plan starts : List Start) → Sound plant → AreOn plant unit starts → FollowAll plant unit plan starts → All (StandsOnce (setup_slots plant unit)) (setup_of starts)
events-once plant unit plan [] sound are follows = All-nil (StandsOnce (setup_slots plant unit))
events-once plant unit plan (a ∷ rest) sound are follows =
    let a_is = first_on plant unit a rest are in
    let a_has = has_slot plant a sound a_is.0 in
    All-cons (StandsOnce (setup_slots plant unit)) (First a.task) (changes_along a rest)
    (first-once plant unit a.task (start_task plant unit a a_has a_is.1) a_has.task_less)
    (changes-once plant unit plan a rest sound are follows)
