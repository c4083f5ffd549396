-- That plans have images in the larger program.
use Rattle.std.specs.Prelude.{◌≡◌, ℕ, ◌≤◌, List, ◌++◌, length, take, ℤ, pos, ◌-ℤ◌, ◌≤ℤ◌}
use Rattle.std.specs.List.Sorted.{IsStrictlyIncreasing}
use Rattle.stn_model.specs.declared.plant.Plant.{Plant}
use Rattle.stn_model.specs.declared.start.Start.{Start}
use Rattle.stn_model.specs.Feasible.{Feasible}
use Rattle.stn_model.specs.Profit.{change_costs, profit}
use Rattle.stn_model.specs.Sound.{Sound}
use Rattle.time_grid.specs.PlanPoint.{plan_point}
use Rattle.time_grid.specs.Slots.{slots}
use Rattle.row_kit.specs.declared.program.Program.{Program}
use Rattle.row_kit.specs.Point.{IsLawful, value_of}
use Rattle.row_set.specs.PlantProgram.{IsMadeOf}
use Rattle.setup_slots.specs.Image.{setup_image, unit_costs}
use Rattle.setup_slots.specs.Larger.{HasPlantSlots, IsWithSetups}
use Rattle.setup_slots.specs.Several.{AreSetUp, costs_on, set_up}

-- a point begins with that of the plan
abbrev pub BeginsWith : Plant → List Start → List ℕ → Type 0
BeginsWith plant plan point = take (length (slots plant)) point ≡ plan_point plant plan

-- A point followed by the image of the plan in the unit's setup lies in the larger root and keeps every row, and its value is at least
-- that of the point less what the plan's changeovers on the unit cost.
pub record HasSetupImage (plant : Plant) (unit : ℕ) (plan : List Start) (program larger : Program) (point : List ℕ) : Type 0 where
  pub lawful : IsLawful larger (point ++ setup_image plant unit plan)
  pub value : (value_of program point -ℤ pos (unit_costs plant unit plan)) ≤ℤ value_of larger (point ++ setup_image plant unit plan)

-- each lawful point that begins with the point of a feasible plan has an image in the program with a unit's setup
abbrev pub SetupsHaveImages : Type 0
SetupsHaveImages =
    (plant : Plant) (unit : ℕ) (program larger : Program) (plan : List Start) (point : List ℕ) → Sound plant → HasPlantSlots plant program → IsWithSetups plant unit program larger
    → Feasible plant plan → BeginsWith plant plan point → IsLawful program point → HasSetupImage plant unit plan program larger point

-- the changeovers on one unit cost at most what all do
abbrev pub UnitCostsLess : Type 0
UnitCostsLess = (plant : Plant) (unit : ℕ) (plan : List Start) → unit_costs plant unit plan ≤ change_costs plant plan

-- A point followed by the images of the plan in the setups of units lies in the larger root and keeps every row, and its value is at
-- least that of the point less what the plan's changeovers on these units cost.
pub record HasSetupImages (plant : Plant) (units : List ℕ) (plan : List Start) (program larger : Program) (point : List ℕ) : Type 0 where
  pub lawful : IsLawful larger (set_up plant units plan point)
  pub value : (value_of program point -ℤ pos (costs_on plant units plan)) ≤ℤ value_of larger (set_up plant units plan point)

-- each lawful point that begins with the point of a feasible plan has an image in the program with the setups of units
abbrev pub SeveralHaveImages : Type 0
SeveralHaveImages =
    (plant : Plant) (units : List ℕ) (program larger : Program) (plan : List Start) (point : List ℕ) → Sound plant → HasPlantSlots plant program → AreSetUp plant units program larger
    → Feasible plant plan → BeginsWith plant plan point → IsLawful program point → HasSetupImages plant units plan program larger point

-- the changeovers on different units cost at most what all do
abbrev pub SeveralCostLess : Type 0
SeveralCostLess = (plant : Plant) (units : List ℕ) (plan : List Start) → IsStrictlyIncreasing units → costs_on plant units plan ≤ change_costs plant plan

-- a point lies in the root of a program and keeps every row, and its value is at least what is earned
pub record IsWorth (program : Program) (earned : ℤ) (point : List ℕ) : Type 0 where
  pub lawful : IsLawful program point
  pub value : earned ≤ℤ value_of program point

-- each feasible plan has an image in the plant's program with a unit's setup: the plan's point, followed by its image in the setup, whose value is at least the plan's profit
abbrev pub PlansHaveImages : Type 0
PlansHaveImages =
    (plant : Plant) (unit : ℕ) (program larger : Program) (plan : List Start) → Sound plant → IsMadeOf plant program → IsWithSetups plant unit program larger → Feasible plant plan
    → IsWorth larger (profit plant plan) (plan_point plant plan ++ setup_image plant unit plan)
