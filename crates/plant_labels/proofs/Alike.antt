-- What plants share that are the same but for labels, colours and calendars.
use Rattle.std.proofs.Common.{◌≡◌, ℕ, List, length, map, get_or, sym, ap, ◌∙◌}
use Rattle.std.proofs.Math.ListN.{get_or-map}
use Rattle.std.proofs.lemmas.List.{length-map}
use Rattle.stn_model.specs.declared.plant.Plant.{Plant}
use Rattle.stn_model.specs.Plant.{task_at, state_at, utility_at, unit_at, no_task, no_state, no_utility, no_unit}
use Rattle.plant_labels.specs.Bare.{bare, bare_state, bare_utility, bare_unit, bare_task}

-- they are the same without labels, colours and calendars
pub record AreAlike (a b : Plant) : Type 0 where
  pub periods : a.periods ≡ b.periods
  pub states : map bare_state a.states ≡ map bare_state b.states
  pub utilities : map bare_utility a.utilities ≡ map bare_utility b.utilities
  pub units : map bare_unit a.units ≡ map bare_unit b.units
  pub tasks : map bare_task a.tasks ≡ map bare_task b.tasks
  pub runs : a.runs ≡ b.runs
  pub gaps : a.gaps ≡ b.gaps
  pub receipts : a.receipts ≡ b.receipts
  pub deliveries : a.deliveries ≡ b.deliveries
  pub outages : a.outages ≡ b.outages

pub alike : (a b : Plant) → bare a ≡ bare b → AreAlike a b
unfolding bare
alike a b same = record {
  periods = ap (λ (plant : Plant). plant.periods) same;
  states = ap (λ (plant : Plant). plant.states) same;
  utilities = ap (λ (plant : Plant). plant.utilities) same;
  units = ap (λ (plant : Plant). plant.units) same;
  tasks = ap (λ (plant : Plant). plant.tasks) same;
  runs = ap (λ (plant : Plant). plant.runs) same;
  gaps = ap (λ (plant : Plant). plant.gaps) same;
  receipts = ap (λ (plant : Plant). plant.receipts) same;
  deliveries = ap (λ (plant : Plant). plant.deliveries) same;
  outages = ap (λ (plant : Plant). plant.outages) same;
}

-- lists that show the same have items that show the same at each place
same_at : {X : Type 0} (f : X → X) (xs ys : List X) (i : ℕ) (d : X) → map f xs ≡ map f ys → f (get_or xs i d) ≡ f (get_or ys i d)
same_at f xs ys i d same = sym (get_or-map f xs i d) ∙ ap (λ zs. get_or zs i (f d)) same ∙ get_or-map f ys i d

-- and are of one length
same_length : {X : Type 0} (f : X → X) (xs ys : List X) → map f xs ≡ map f ys → length xs ≡ length ys
same_length f xs ys same = sym (length-map xs f) ∙ ap length same ∙ length-map ys f

pub states_length : (a b : Plant) → AreAlike a b → length a.states ≡ length b.states
states_length a b same = same_length bare_state a.states b.states same.states

pub utilities_length : (a b : Plant) → AreAlike a b → length a.utilities ≡ length b.utilities
utilities_length a b same = same_length bare_utility a.utilities b.utilities same.utilities

pub state_same : (a b : Plant) → AreAlike a b → (i : ℕ) → bare_state (state_at a i) ≡ bare_state (state_at b i)
state_same a b same i = same_at bare_state a.states b.states i no_state same.states

pub utility_same : (a b : Plant) → AreAlike a b → (i : ℕ) → bare_utility (utility_at a i) ≡ bare_utility (utility_at b i)
utility_same a b same i = same_at bare_utility a.utilities b.utilities i no_utility same.utilities

pub unit_same : (a b : Plant) → AreAlike a b → (i : ℕ) → bare_unit (unit_at a i) ≡ bare_unit (unit_at b i)
unit_same a b same i = same_at bare_unit a.units b.units i no_unit same.units

pub task_same : (a b : Plant) → AreAlike a b → (i : ℕ) → bare_task (task_at a i) ≡ bare_task (task_at b i)
task_same a b same i = same_at bare_task a.tasks b.tasks i no_task same.tasks
