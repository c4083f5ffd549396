-- Batches on plants that are alike: they fit, end and wait for one another alike.
use Rattle.std.proofs.Common.{◌≡◌, ℕ, ◌+◌, ◌&&◌, nat_le, Option, Some, None, pos, ◌+ℤ◌, refl, ap, ◌∙◌}
use Rattle.std.proofs.Math.Path.{ap₂}
use Rattle.stn_model.specs.declared.plant.Plant.{Plant}
use Rattle.stn_model.specs.declared.plant.Task.{Task}
use Rattle.stn_model.specs.declared.plant.StnUnit.{StnUnit}
use Rattle.stn_model.specs.declared.plant.Last.{Last}
use Rattle.stn_model.specs.declared.plant.Output.{Output}
use Rattle.stn_model.specs.declared.start.Start.{Start}
use Rattle.stn_model.specs.Sums.{greatest_by}
use Rattle.stn_model.specs.Plant.{unit_at, duration_of, end_of, run_on, is_in_use, gap_between, cost_between, ready_after, ready_at, cost_after, first_cost, from_begin}
use Rattle.stn_model.specs.Fits.{has_size, is_fit}
use Rattle.plant_labels.proofs.Alike.{AreAlike, task_same, unit_same}

pub end_same : (a b : Plant) → AreAlike a b → (start : Start) → end_of a start ≡ end_of b start
unfolding end_of duration_of
end_same a b same start =
    ap (λ (task : Task). start.period + greatest_by (λ (output : Output). output.delay) task.outputs) (task_same a b same start.task)

pub run_same : (a b : Plant) → AreAlike a b → (task unit : ℕ) → run_on a task unit ≡ run_on b task unit
unfolding run_on
run_same a b same task unit = rw same.runs refl

in_use_same : (a b : Plant) → AreAlike a b → (unit from to : ℕ) → is_in_use a unit from to ≡ is_in_use b unit from to
unfolding is_in_use
in_use_same a b same unit from to = rw same.outages refl

pub fit_same : (a b : Plant) → AreAlike a b → (start : Start) → is_fit a start ≡ is_fit b start
unfolding is_fit
fit_same a b same start =
    ap₂ ◌&&◌
    (ap₂ ◌&&◌
    (ap (has_size start.quanta) (run_same a b same start.task start.unit))
    (ap₂ nat_le (end_same a b same start) same.periods))
    (in_use_same a b same start.unit start.period (end_of a start)
    ∙ ap (is_in_use b start.unit start.period) (end_same a b same start))

pub gap_same : (a b : Plant) → AreAlike a b → (unit from to : ℕ) → gap_between a unit from to ≡ gap_between b unit from to
unfolding gap_between
gap_same a b same unit from to = rw same.gaps refl

pub cost_same : (a b : Plant) → AreAlike a b → (unit from to : ℕ) → cost_between a unit from to ≡ cost_between b unit from to
unfolding cost_between
cost_same a b same unit from to = rw same.gaps refl

ready_after_same : (a b : Plant) → AreAlike a b → (unit task : ℕ) (last : Option Last) → ready_after a unit task last ≡ ready_after b unit task last
ready_after_same a b same unit task None = refl
ready_after_same a b same unit task (Some last) = ap (λ (gap : ℕ). from_begin (last.until +ℤ pos gap)) (gap_same a b same unit last.task task)

pub ready_same : (a b : Plant) → AreAlike a b → (unit task : ℕ) → ready_at a unit task ≡ ready_at b unit task
unfolding ready_at
ready_same a b same unit task =
    ap (λ (one : StnUnit). ready_after a unit task one.last) (unit_same a b same unit)
    ∙ ready_after_same a b same unit task (unit_at b unit).last

cost_after_same : (a b : Plant) → AreAlike a b → (unit task : ℕ) (last : Option Last) → cost_after a unit task last ≡ cost_after b unit task last
cost_after_same a b same unit task None = refl
cost_after_same a b same unit task (Some last) = cost_same a b same unit last.task task

pub first_cost_same : (a b : Plant) → AreAlike a b → (unit task : ℕ) → first_cost a unit task ≡ first_cost b unit task
unfolding first_cost
first_cost_same a b same unit task =
    ap (λ (one : StnUnit). cost_after a unit task one.last) (unit_same a b same unit)
    ∙ cost_after_same a b same unit task (unit_at b unit).last
