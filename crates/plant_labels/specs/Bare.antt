-- That no plan depends on labels, colours and the calendar of a plant.
use Rattle.std.specs.Prelude.{◌≡◌, ◌↔◌, None, List, [], map}
use Rattle.stn_model.specs.declared.plant.Plant.{Plant}
use Rattle.stn_model.specs.declared.plant.State.{State}
use Rattle.stn_model.specs.declared.plant.Utility.{Utility}
use Rattle.stn_model.specs.declared.plant.StnUnit.{StnUnit}
use Rattle.stn_model.specs.declared.plant.Task.{Task}
use Rattle.stn_model.specs.declared.start.Start.{Start}
use Rattle.stn_model.specs.Feasible.{Feasible}
use Rattle.stn_model.specs.Profit.{profit}

-- the things of a plant without labels and colours
abbrev pub bare_state : State → State
bare_state state = record state { label = [] }

abbrev pub bare_utility : Utility → Utility
bare_utility utility = record utility { label = [] }

abbrev pub bare_unit : StnUnit → StnUnit
bare_unit unit = record unit { label = [] }

abbrev pub bare_task : Task → Task
bare_task task = record task { label = []; colour = [] }

-- the plant without labels, colours and a calendar
unfoldable pub bare : Plant → Plant
bare plant = record plant {
  calendar = None;
  states = map bare_state plant.states;
  utilities = map bare_utility plant.utilities;
  units = map bare_unit plant.units;
  tasks = map bare_task plant.tasks;
}

-- a plan is feasible on the one plant exactly where it is on the other, and earns the same
pub record AreOneTo (a b : Plant) (plan : List Start) : Type 0 where
  pub feasible : Feasible a plan ↔ Feasible b plan
  pub earns : profit a plan ≡ profit b plan

-- Plants that are the same but for labels, colours and calendars have the same plans, which earn the same.
abbrev pub LabelLaw : Type 0
LabelLaw = (a b : Plant) → bare a ≡ bare b → (plan : List Start) → AreOneTo a b plan
