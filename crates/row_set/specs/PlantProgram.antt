-- The program of a plant: of which parts it is made, and what its points mean.
use Rattle.std.specs.Prelude.{◌≡◌, ◌↔◌, ℕ, nat_lt, Bool, true, List, [], ◌++◌, map, filter, pos, ◌≤ℤ◌}
use Rattle.stn_model.specs.declared.plant.Plant.{Plant}
use Rattle.stn_model.specs.declared.plant.Gap.{Gap}
use Rattle.stn_model.specs.declared.start.Start.{Start}
use Rattle.stn_model.specs.Feasible.{Feasible}
use Rattle.stn_model.specs.Profit.{profit}
use Rattle.stn_model.specs.Plant.{first_cost, run_at}
use Rattle.time_grid.specs.Slots.{slots}
use Rattle.time_grid.specs.PlanPoint.{HasPoint, plan_point, IsPlanOf}
use Rattle.row_kit.specs.declared.domain.Domain.{Domain}
use Rattle.row_kit.specs.declared.program.Program.{Program}
use Rattle.row_kit.specs.declared.row.Row.{Row}
use Rattle.row_kit.specs.declared.row.Tag.{Tag}
use Rattle.row_kit.specs.declared.row.Change.{Change}
use Rattle.row_kit.specs.Row.{entries_from}
use Rattle.row_kit.specs.Point.{IsLawful, value_of, worth_of}
use Rattle.balance_rows.specs.StockRows.{stock_rows}
use Rattle.utility_rows.specs.LoadRows.{load_rows}
use Rattle.unit_rows.specs.Busy.{busy_rows}
use Rattle.unit_rows.specs.Gaps.{gap_rows}
use Rattle.unit_rows.specs.Firsts.{first_rows}
use Rattle.row_set.specs.ProfitParts.{profit_part}

-- the rows of a plant: the busy rows, those of stocks, low and high, those of loads, the gap rows, and the first rows
unfoldable pub plant_rows : Plant → List Row
plant_rows plant = busy_rows plant ++ (stock_rows plant ++ (load_rows plant ++ (gap_rows plant ++ first_rows plant)))

-- what a slot may have: no start, or one of a size of its run
abbrev pub slot_domain : Plant → ℕ × ℕ → Domain
slot_domain plant slot = record { zero = true; lo = (run_at plant slot.0).min; hi = (run_at plant slot.0).max }

-- what the slots of a plant may have
abbrev pub plant_root : Plant → List Domain
plant_root plant = map (slot_domain plant) (slots plant)

-- a slot lies in its unit's lane, at its period, is of its task's kind, and opens the lane at the cost of a first batch of it
abbrev pub slot_tag : Plant → ℕ × ℕ → Tag
slot_tag plant slot = record {
  lane = (run_at plant slot.0).unit;
  place = slot.1;
  kind = (run_at plant slot.0).task;
  opening = first_cost plant (run_at plant slot.0).unit (run_at plant slot.0).task;
}

-- what a gap's changeover costs
abbrev pub gap_change : Gap → Change
gap_change gap = record { lane = gap.unit; from = gap.from; to = gap.to; cost = pos gap.cost }

-- the gap's changeover costs something
abbrev pub has_cost : Gap → Bool
has_cost gap = nat_lt 0 gap.cost

-- the changes of a plant: of each gap whose changeover costs something
unfoldable pub plant_changes : Plant → List Change
plant_changes plant = map gap_change (filter has_cost plant.gaps)

-- the program is made of the plant's parts; its base is the profit of doing nothing
pub record IsMadeOf (plant : Plant) (program : Program) : Type 0 where
  pub rows_are : program.rows ≡ plant_rows plant
  pub profit_is : program.profit ≡ entries_from 0 (map (profit_part plant) (slots plant))
  pub base_is : program.base ≡ profit plant []
  pub root_is : program.root ≡ plant_root plant
  pub tags_are : program.tags ≡ map (slot_tag plant) (slots plant)
  pub changes_are : program.changes ≡ plant_changes plant

-- The program says of points what the plant says of plans. A list of starts is feasible exactly where it
-- has a point and the point is lawful; the worth of a list's point is the list's profit; the worth of a
-- point is never above its value; each lawful point is the point of a feasible list, and of its own plan.
pub record IsProgramOf (plant : Plant) (program : Program) : Type 0 where
  pub feasible : (plan : List Start) → Feasible plant plan ↔ (HasPoint plant plan × IsLawful program (plan_point plant plan))
  pub worth : (plan : List Start) → HasPoint plant plan → worth_of program (plan_point plant plan) ≡ profit plant plan
  pub most : (point : List ℕ) → worth_of program point ≤ℤ value_of program point
  pub some : (point : List ℕ) → IsLawful program point → (plan : List Start) × (Feasible plant plan × (plan_point plant plan ≡ point))
  pub plans : (point : List ℕ) (plan : List Start) → IsLawful program point → IsPlanOf plant point plan → HasPoint plant plan × (plan_point plant plan ≡ point)
