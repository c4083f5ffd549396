-- What a table of stocks and a table of loads break.
use Rattle.std.specs.Prelude.{ℕ, ℤ, pos, ◌+◌, ◌*◌, ◌<◌, ◌≤◌, ◌≤ℤ◌, IfSome, List, length, slice_get, slice_index, slice_index_or}
use Rattle.stn_model.specs.declared.plant.Plant.{Plant}
use Rattle.stn_model.specs.Plant.{state_at, utility_at}
use Rattle.plan_sim.specs.declared.faults.Fault.{Fault}
use Rattle.plan_sim.specs.declared.faults.Fault.TheVariants.{Level, Use}

-- the stock of a state at a time, in a table of stocks
abbrev pub level : Plant → List ℤ → ℕ → ℕ → ℤ
level plant stocks state time = slice_index_or stocks (state * (plant.periods + 1) + time) (pos 0)

-- the load of a utility in a period, in a table of loads
abbrev pub used : Plant → List ℕ → ℕ → ℕ → ℕ
used plant loads utility period = slice_index loads (utility * plant.periods + period)

-- the stock in the table lies within the state's limits
pub record LevelKept (plant : Plant) (stocks : List ℤ) (state time : ℕ) : Type 0 where
  pub low : pos 0 ≤ℤ level plant stocks state time
  pub high : IfSome (slice_get (state_at plant state).limits time) (λ limit. level plant stocks state time ≤ℤ pos limit)

-- the load in the table is at most the utility's limit
abbrev pub UseKept : Plant → List ℕ → ℕ → ℕ → Type 0
UseKept plant loads utility period = used plant loads utility period ≤ slice_index (utility_at plant utility).limits period

-- the stocks of the first n states are kept at a time
abbrev pub LevelsKept : Plant → List ℤ → ℕ → ℕ → Type 0
LevelsKept plant stocks n time = (state : ℕ) → state < n → LevelKept plant stocks state time

-- the loads of the first n utilities are kept in a period
abbrev pub UsesKept : Plant → List ℕ → ℕ → ℕ → Type 0
UsesKept plant loads n period = (utility : ℕ) → utility < n → UseKept plant loads utility period

-- the loads of all utilities are kept in every period
abbrev pub AreUsesKept : Plant → List ℕ → Type 0
AreUsesKept plant loads = (period : ℕ) → period < plant.periods → UsesKept plant loads (length plant.utilities) period

-- stocks and loads are kept at all times before this one
pub record KeptBefore (plant : Plant) (stocks : List ℤ) (loads : List ℕ) (time : ℕ) : Type 0 where
  pub levels : (t : ℕ) → t < time → LevelsKept plant stocks (length plant.states) t
  pub uses : (p : ℕ) → p < time → p < plant.periods → UsesKept plant loads (length plant.utilities) p

-- the stock of the state is the first that is not kept
pub record IsFirstLevel (plant : Plant) (stocks : List ℤ) (loads : List ℕ) (state time : ℕ) : Type 0 where
  pub there : state < length plant.states
  pub within : time ≤ plant.periods
  pub fault : ¬ LevelKept plant stocks state time
  pub before : KeptBefore plant stocks loads time
  pub earlier : LevelsKept plant stocks state time

-- the load of the utility is the first that is not kept, after the stocks of its time
pub record IsFirstUse (plant : Plant) (stocks : List ℤ) (loads : List ℕ) (utility period : ℕ) : Type 0 where
  pub there : utility < length plant.utilities
  pub within : period < plant.periods
  pub fault : ¬ UseKept plant loads utility period
  pub before : KeptBefore plant stocks loads period
  pub levels : LevelsKept plant stocks (length plant.states) period
  pub earlier : UsesKept plant loads utility period

-- the fault is the first of the tables
abbrev pub IsFirstFault : Plant → List ℤ → List ℕ → Fault → Type 0
IsFirstFault plant stocks loads (Level state time) = IsFirstLevel plant stocks loads state time
IsFirstFault plant stocks loads (Use utility period) = IsFirstUse plant stocks loads utility period
