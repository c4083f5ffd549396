-- The first load that is not kept. Only clauses of private functions cite it.
use Rattle.std.specs.Prelude.{ℕ, ◌<◌, List, length}
use Rattle.stn_model.specs.declared.plant.Plant.{Plant}
use Rattle.stn_model.specs.declared.violation.Violation.{Violation}
use Rattle.stn_model.specs.declared.violation.Violation.TheVariants.{Load}
use Rattle.plan_sim.specs.Faults.{UseKept, UsesKept}

-- the load of the utility in the period is the first in the table that is not kept
pub record IsFirstLoadAt (plant : Plant) (loads : List ℕ) (utility period : ℕ) : Type 0 where
  pub there : utility < length plant.utilities
  pub within : period < plant.periods
  pub fault : ¬ UseKept plant loads utility period
  pub before : (time : ℕ) → time < period → UsesKept plant loads (length plant.utilities) time
  pub earlier : UsesKept plant loads utility period

-- the violation is of the first load in the table that is not kept
abbrev pub IsFirstLoad : Plant → List ℕ → Violation → Type 0
IsFirstLoad plant loads (Load utility period) = IsFirstLoadAt plant loads utility period
IsFirstLoad plant loads other = ⊥
