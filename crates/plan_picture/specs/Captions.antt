-- What things are called in a picture: by their labels, and by their names where they have none.
use Rattle.std.specs.Prelude.{ℕ, List}
use Rattle.stn_model.specs.declared.plant.Plant.{Plant}
use Rattle.stn_model.specs.Plant.{task_at, unit_at, state_at, utility_at}
use Rattle.stn_model.specs.Labels.{called}

-- what a task is called
abbrev pub task_caption : Plant → ℕ → List ℕ
task_caption plant task = called (task_at plant task).label (task_at plant task).name

-- what a unit is called
abbrev pub unit_caption : Plant → ℕ → List ℕ
unit_caption plant unit = called (unit_at plant unit).label (unit_at plant unit).name

-- what a state is called
abbrev pub state_caption : Plant → ℕ → List ℕ
state_caption plant state = called (state_at plant state).label (state_at plant state).name

-- what a utility is called
abbrev pub utility_caption : Plant → ℕ → List ℕ
utility_caption plant utility = called (utility_at plant utility).label (utility_at plant utility).name
