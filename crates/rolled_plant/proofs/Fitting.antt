-- A start fits the rolled plant exactly where it fits the plant so many periods later.
use Rattle.std.proofs.Common.{◌≡◌, ℕ, suc, ◌+◌, ◌-◌, ◌<◌, ◌≤◌, Bool, true, eqb, leb, ltb, not, List, [], ◌∷◌, length, map, filter, refl, sym, ap, ap₂, ◌∙◌, inl, inr, arith, Option, Some, None}
use Rattle.std.specs.Prelude.{◌&&◌, ◌||◌, ◌==◌, IfSome, find}
use Rattle.std.specs.List.{list_all}
use Rattle.std.proofs.lemmas.Bool.{cases_lt, cond-true, cond-false, and_parts, or_right, eqb-true, le-leb, lt-leb, false≢true}
use Rattle.stn_model.specs.declared.plant.Plant.{Plant}
use Rattle.stn_model.specs.declared.plant.Outage.{Outage}
use Rattle.stn_model.specs.declared.plant.Run.{Run}
use Rattle.stn_model.specs.declared.start.Start.{Start}
use Rattle.stn_model.specs.Plant.{run_on, is_of, is_clear_of, is_in_use, end_of, duration_of, task_at}
use Rattle.stn_model.specs.Fits.{Fits, is_fit, has_size}
use Rattle.stn_model.specs.Sound.{Sound, SoundRun}
use Rattle.stn_model.proofs.Fitting.{found-All, duration_pos}
use Rattle.rolled_plant.specs.Kept.{later}
use Rattle.rolled_plant.specs.RolledPlant.{rolled_plant, sooner_outage, outages_from}
use Rattle.rolled_plant.proofs.Basics.{leb_agree}

-- ---- outages

early_outage : (period : ℕ) (outage : Outage) (outages : List Outage) → outage.to ≤ period → outages_from period (outage ∷ outages) ≡ outages_from period outages
early_outage period outage outages early =
    let rest = filter (λ (other : Outage). ltb period other.to) outages in
    ap (map (sooner_outage period)) (cond-false {A = List Outage} (ltb period outage.to) (outage ∷ rest) rest (lt-leb (suc period) outage.to (omega arith)))

late_outage : (period : ℕ) (outage : Outage) (outages : List Outage) → period < outage.to → outages_from period (outage ∷ outages) ≡ sooner_outage period outage ∷ outages_from period outages
late_outage period outage outages late =
    let rest = filter (λ (other : Outage). ltb period other.to) outages in
    ap (map (sooner_outage period)) (cond-true {A = List Outage} (ltb period outage.to) (outage ∷ rest) rest (le-leb (suc period) outage.to late))

-- a batch from the period on is clear of an outage that is over by then
clear_early : (period unit from to : ℕ) (outage : Outage) → outage.to ≤ period → is_clear_of unit (period + from) (period + to) outage ≡ true
clear_early period unit from to outage early =
    or_right (not (outage.unit == unit) || leb (period + to) outage.from) (leb outage.to (period + from)) (le-leb outage.to (period + from) (omega arith))

clear_late : (period unit from to : ℕ) (outage : Outage) → from < to → period < outage.to → is_clear_of unit from to (sooner_outage period outage) ≡ is_clear_of unit (period + from) (period + to) outage
clear_late period unit from to outage some late =
    ap₂ (λ (b c : Bool). not (outage.unit == unit) || b || c)
    (leb_agree to (outage.from - period) (period + to) outage.from (λ l. omega arith) (λ l. omega arith))
    (leb_agree (outage.to - period) from outage.to (period + from) (λ l. omega arith) (λ l. omega arith))

clear_of_all : (period unit from to : ℕ) (outages : List Outage) → from < to
    → list_all (is_clear_of unit from to) (outages_from period outages) ≡ list_all (is_clear_of unit (period + from) (period + to)) outages
clear_of_all period unit from to [] some = refl
clear_of_all period unit from to (outage ∷ outages) some =
    elim (cases_lt period outage.to) [
      | inl late ↦
          ap (list_all (is_clear_of unit from to)) (late_outage period outage outages late)
          ∙ ap₂ (λ (b c : Bool). b && c) (clear_late period unit from to outage some late) (clear_of_all period unit from to outages some)
      | inr early ↦
          ap (list_all (is_clear_of unit from to)) (early_outage period outage outages early)
          ∙ clear_of_all period unit from to outages some
          ∙ ap (λ (b : Bool). b && list_all (is_clear_of unit (period + from) (period + to)) outages) (sym (clear_early period unit from to outage early))
    ]

-- ---- starts

-- the task of a run that is found is there
task_of : (plant : Plant) (quanta task unit : ℕ) (found : Option Run) → IfSome found (λ run. SoundRun plant run × (is_of task unit run ≡ true)) → has_size quanta found ≡ true → task < length plant.tasks
task_of plant quanta task unit None is size = absurd (false≢true size)
task_of plant quanta task unit (Some run) is size =
    let both = and_parts (eqb run.task task) (eqb run.unit unit) is.1 in
    let same : run.task ≡ task = eqb-true run.task task both.0 in
    let there = is.0.task in
    omega arith

-- a batch of which there is a run ends later than it begins
some_duration : (plant : Plant) (x : Start) → Sound plant → has_size x.quanta (run_on plant x.task x.unit) ≡ true → 1 ≤ duration_of (task_at plant x.task)
unfolding run_on
some_duration plant x sound size =
    duration_pos plant x.task sound
    (task_of plant x.quanta x.task x.unit (find (is_of x.task x.unit) plant.runs) (found-All (SoundRun plant) (is_of x.task x.unit) plant.runs sound.runs) size)

-- the three tests of a start on the two plants agree where it has a run
fit_tests : (plant : Plant) (before : List Start) (period : ℕ) (x : Start) → period < plant.periods → 1 ≤ duration_of (task_at plant x.task)
    → is_fit (rolled_plant plant before period) x ≡ is_fit plant (later period x)
unfolding is_fit run_on end_of is_in_use rolled_plant
fit_tests plant before period x within some =
    let ending : ℕ = x.period + duration_of (task_at plant x.task) in
    let there : ℕ = period + x.period + duration_of (task_at plant x.task) in
    let same : period + ending ≡ there = omega arith in
    let ends : leb ending (plant.periods - period) ≡ leb there plant.periods = leb_agree ending (plant.periods - period) there plant.periods (λ l. omega arith) (λ l. omega arith) in
    let clear : list_all (is_clear_of x.unit x.period ending) (outages_from period plant.outages) ≡ list_all (is_clear_of x.unit (period + x.period) there) plant.outages =
    clear_of_all period x.unit x.period ending plant.outages (omega arith) ∙ ap (λ (n : ℕ). list_all (is_clear_of x.unit (period + x.period) n) plant.outages) same in
    ap₂ (λ (b c : Bool). has_size x.quanta (find (is_of x.task x.unit) plant.runs) && b && c) ends clear

-- a start that fits has a run, and a batch of its size
size_there : (plant : Plant) (x : Start) → is_fit plant x ≡ true → has_size x.quanta (run_on plant x.task x.unit) ≡ true
unfolding is_fit
size_there plant x fits = (and_parts _ _ (and_parts _ _ fits).0).0

size_here : (plant : Plant) (before : List Start) (period : ℕ) (x : Start) → is_fit (rolled_plant plant before period) x ≡ true → has_size x.quanta (run_on plant x.task x.unit) ≡ true
unfolding is_fit run_on rolled_plant
size_here plant before period x fits = (and_parts _ _ (and_parts _ _ fits).0).0

pub fits_there : (plant : Plant) (before : List Start) (period : ℕ) (x : Start) → Sound plant → period < plant.periods → Fits (rolled_plant plant before period) x → Fits plant (later period x)
fits_there plant before period x sound within fits =
    sym (fit_tests plant before period x within (some_duration plant x sound (size_here plant before period x fits))) ∙ fits

pub fits_here : (plant : Plant) (before : List Start) (period : ℕ) (x : Start) → Sound plant → period < plant.periods → Fits plant (later period x) → Fits (rolled_plant plant before period) x
fits_here plant before period x sound within fits =
    fit_tests plant before period x within (some_duration plant x sound (size_there plant (later period x) fits)) ∙ fits
