-- What two plants that differ in other things share.
use Rattle.std.proofs.Common.{◌≡◌, ℕ, List, length, get_or, arith, All}
use Rattle.stn_model.specs.declared.plant.Plant.{Plant}
use Rattle.stn_model.specs.declared.plant.Task.{Task}
use Rattle.stn_model.specs.declared.plant.Input.{Input}
use Rattle.stn_model.specs.declared.plant.Output.{Output}
use Rattle.stn_model.specs.declared.plant.Draw.{Draw}
use Rattle.stn_model.specs.declared.plant.Run.{Run}
use Rattle.stn_model.specs.declared.plant.Gap.{Gap}
use Rattle.stn_model.specs.Plant.{duration_of}
use Rattle.stn_model.specs.Sound.{SoundInput, SoundOutput, SoundDraw, SoundTask, SoundRun, SoundGap}

-- what follows of each item holds of all
pub All-each : {X : Type 0} (P Q : X → Type 0) (xs : List X) → ((x : X) → P x → Q x) → All P xs → All Q xs
All-each P Q xs follows all = λ k d within. follows (get_or xs k d) (all k d within)

-- two plants have as many states, utilities and units, and the same tasks
pub record AreAlike (a b : Plant) : Type 0 where
  pub states : length a.states ≡ length b.states
  pub utilities : length a.utilities ≡ length b.utilities
  pub units : length a.units ≡ length b.units
  pub tasks : a.tasks ≡ b.tasks

input_sound : (a b : Plant) (quantum : ℕ) (input : Input) → AreAlike a b → SoundInput b quantum input → SoundInput a quantum input
input_sound a b quantum input same sound = record { state = omega (arith, same.states, sound.state); part = sound.part }

output_sound : (a b : Plant) (quantum : ℕ) (output : Output) → AreAlike a b → SoundOutput b quantum output → SoundOutput a quantum output
output_sound a b quantum output same sound = record { state = omega (arith, same.states, sound.state); part = sound.part; delay = sound.delay }

draw_sound : (a b : Plant) (duration : ℕ) (draw : Draw) → AreAlike a b → SoundDraw b duration draw → SoundDraw a duration draw
draw_sound a b duration draw same sound = record {
  utility = omega (arith, same.utilities, sound.utility);
  fixed = sound.fixed;
  each = sound.each;
  fixed_small = sound.fixed_small;
  each_small = sound.each_small;
}

-- what is sound in a plant is sound in one that is alike
pub task_sound : (a b : Plant) (task : Task) → AreAlike a b → SoundTask b task → SoundTask a task
task_sound a b task same sound = record {
  name = sound.name;
  label = sound.label;
  colour = sound.colour;
  quantum = sound.quantum;
  inputs = sound.inputs;
  outputs = sound.outputs;
  draws = sound.draws;
  input = All-each (SoundInput b task.quantum) (SoundInput a task.quantum) task.inputs (λ input. input_sound a b task.quantum input same) sound.input;
  output = All-each (SoundOutput b task.quantum) (SoundOutput a task.quantum) task.outputs (λ output. output_sound a b task.quantum output same) sound.output;
  draw = All-each (SoundDraw b (duration_of task)) (SoundDraw a (duration_of task)) task.draws (λ draw. draw_sound a b (duration_of task) draw same) sound.draw;
  taken = sound.taken;
  given = sound.given;
}

pub run_sound : (a b : Plant) (run : Run) → AreAlike a b → SoundRun b run → SoundRun a run
run_sound a b run same sound = record { task = rw same.tasks sound.task; unit = omega (arith, same.units, sound.unit); least = sound.least; range = sound.range; most = sound.most; cost = sound.cost }

pub gap_sound : (a b : Plant) (gap : Gap) → AreAlike a b → SoundGap b gap → SoundGap a gap
gap_sound a b gap same sound = record { unit = omega (arith, same.units, sound.unit); from = rw same.tasks sound.from; to = rw same.tasks sound.to; periods = sound.periods; cost = sound.cost }
