-- A part of the choices of a plant: its program, with a root that holds fewer values.
use Rattle.std.specs.Prelude.{◌≡◌, ℕ, List}
use Rattle.std.specs.List.{All, AllZip}
use Rattle.stn_model.specs.declared.plant.Plant.{Plant}
use Rattle.stn_model.specs.declared.start.Start.{Start}
use Rattle.stn_model.specs.Feasible.{Feasible}
use Rattle.time_grid.specs.PlanPoint.{plan_point, point_starts}
use Rattle.time_grid.specs.Slots.{slots}
use Rattle.row_kit.specs.declared.domain.Domain.{Domain}
use Rattle.row_kit.specs.declared.program.Program.{Program}
use Rattle.row_kit.specs.Domain.{Holds, IsOpen}
use Rattle.row_kit.specs.Point.{LiesIn}
use Rattle.row_set.specs.PlantProgram.{IsMadeOf, IsProgramOf}

-- the plan of a group of values: a start in each slot whose value is not 0
unfoldable pub plan_of_values : Plant → List ℕ → List Start
plan_of_values plant point = point_starts plant (slots plant) point

-- a domain holds only values of another
abbrev pub IsWithin : Domain → Domain → Type 0
IsWithin small large = (value : ℕ) → Holds small value → Holds large value

-- a program is another but for its root
pub record IsButRoot (whole part : Program) : Type 0 where
  pub rows : part.rows ≡ whole.rows
  pub profit : part.profit ≡ whole.profit
  pub base : part.base ≡ whole.base
  pub tags : part.tags ≡ whole.tags
  pub changes : part.changes ≡ whole.changes

-- The program is that of a plant but for its root, of which each domain has a value, and only values of the
-- plant's own domain of the slot.
pub record IsPartOf (plant : Plant) (part : Program) : Type 0 where
  pub whole : Program
  pub made : IsMadeOf plant whole
  pub means : IsProgramOf plant whole
  pub but_root : IsButRoot whole part
  pub within : AllZip IsWithin part.root whole.root
  pub each_open : All IsOpen part.root

-- a plan is admitted to a part where it is feasible and its point lies in the part's root
pub record IsAdmitted (plant : Plant) (part : Program) (plan : List Start) : Type 0 where
  pub feasible : Feasible plant plan
  pub lies : LiesIn part.root (plan_point plant plan)
