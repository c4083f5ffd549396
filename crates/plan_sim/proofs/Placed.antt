-- What is known of the task of a start, where it is there, and where it is not.
use Rattle.std.proofs.Common.{◌≡◌, ℕ, ◌+◌, ◌*◌, ◌^◌, ◌<◌, ◌≤◌, List, length, arith, sum_by, ap}
use Rattle.std.specs.Prelude.{All}
use Rattle.std.proofs.lemmas.List.{get_or_past}
use Rattle.stn_model.specs.declared.plant.Plant.{Plant}
use Rattle.stn_model.specs.declared.plant.Task.{Task}
use Rattle.stn_model.specs.declared.start.Start.{Start}
use Rattle.stn_model.specs.Plant.{end_of, task_at, no_task}
use Rattle.stn_model.specs.Stock.{given, taken, given_by, taken_by}
use Rattle.stn_model.specs.Sound.{Sound, SoundTask}
use Rattle.plan_sim.specs.Moves.{HasRow}
use Rattle.plan_sim.proofs.Tables.{rows_apart}

-- a row that is there in a table with this many rows
pub row_there : (cells : List ℕ) (rows width row : ℕ) → length cells ≡ rows * width → row < rows → HasRow cells width row
row_there cells rows width row size h = omega (arith, size, rows_apart row rows width h)

module _ (plant : Plant) (start : Start) (sound : Sound plant) (there : start.task < length plant.tasks) where
  pub task_sound : SoundTask plant (task_at plant start.task)
  task_sound = sound.tasks start.task no_task there

  pub outputs_few : length (task_at plant start.task).outputs ≤ 8
  outputs_few = task_sound.outputs.1

  pub outputs_rows : (cells : List ℕ) → length cells ≡ length plant.states * (plant.periods + 1) → All (λ output. HasRow cells (plant.periods + 1) output.state) (task_at plant start.task).outputs
  outputs_rows cells size k d h = row_there cells (length plant.states) (plant.periods + 1) _ size (task_sound.output k d h).state

  pub inputs_few : length (task_at plant start.task).inputs ≤ 8
  inputs_few = task_sound.inputs.1

  pub inputs_rows : (cells : List ℕ) → length cells ≡ length plant.states * (plant.periods + 1) → All (λ input. HasRow cells (plant.periods + 1) input.state) (task_at plant start.task).inputs
  inputs_rows cells size k d h = row_there cells (length plant.states) (plant.periods + 1) _ size (task_sound.input k d h).state

  pub draws_few : length (task_at plant start.task).draws ≤ 8
  draws_few = task_sound.draws

  pub draws_rows : (cells : List ℕ) → length cells ≡ length plant.utilities * plant.periods → All (λ draw. HasRow cells plant.periods draw.utility) (task_at plant start.task).draws
  draws_rows cells size k d h = row_there cells (length plant.utilities) plant.periods _ size (task_sound.draw k d h).utility

  pub draws_fixed : All (λ draw. All (λ amount. amount ≤ 2 ^ 20) draw.fixed) (task_at plant start.task).draws
  draws_fixed k d h j e l = omega (arith, (task_sound.draw k d h).fixed_small j e l)

  pub draws_each : All (λ draw. All (λ amount. amount ≤ 2 ^ 20) draw.each) (task_at plant start.task).draws
  draws_each k d h j e l = omega (arith, (task_sound.draw k d h).each_small j e l)

-- a batch does not end before it begins
pub ends_no_earlier : (plant : Plant) (start : Start) → start.period ≤ end_of plant start
unfolding end_of
ends_no_earlier plant start = omega arith

module _ (plant : Plant) (start : Start) (out : length plant.tasks ≤ start.task) where
  -- a task that is not there takes and gives nothing
  pub no_task_is : task_at plant start.task ≡ no_task
  no_task_is = get_or_past plant.tasks start.task no_task out

  pub nothing_given : (state time : ℕ) → given plant state time start ≡ 0
  unfolding given
  nothing_given state time = ap (λ (t : Task). sum_by (given_by state time start) t.outputs) no_task_is

  pub nothing_taken : (state time : ℕ) → taken plant state time start ≡ 0
  unfolding taken
  nothing_taken state time = ap (λ (t : Task). sum_by (taken_by state time start) t.inputs) no_task_is
