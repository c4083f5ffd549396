-- The lines in which a plan is written.
use Rattle.std.specs.Prelude.{ℕ, ◌<◌, List, [], ◌∷◌, ◌++◌, length, decimal, flat_map, slice_index_or}
use Rattle.std.specs.List.{join_with_byte}
use Rattle.stn_model.specs.declared.plant.Plant.{Plant}
use Rattle.stn_model.specs.declared.start.Start.{Start}
use Rattle.stn_model.specs.Plant.{unit_names, task_names}

-- the unit and the task of the start are in the plant
pub record IsNamed (plant : Plant) (start : Start) : Type 0 where
  pub unit : start.unit < length plant.units
  pub task : start.task < length plant.tasks

-- the words of a start: its period, the names of its unit and its task, and its quanta
unfoldable pub start_words : Plant → Start → List (List ℕ)
start_words plant start =
    decimal start.period ∷ slice_index_or (unit_names plant) start.unit [] ∷ slice_index_or (task_names plant) start.task [] ∷ decimal start.quanta ∷ []

-- the line of a start: its words with a blank (32) between each two, and a line feed (10)
unfoldable pub plan_line : Plant → Start → List ℕ
plan_line plant start = join_with_byte 32 (start_words plant start) ++ 10 ∷ []

-- the lines of a plan, in the order of its starts
unfoldable pub plan_lines : Plant → List Start → List ℕ
plan_lines plant plan = flat_map (plan_line plant) plan
