-- What the stocks and loads of two tables are worth and cost, in money.
use Rattle.std.specs.Prelude.{ℕ, ℤ, pos, ◌*ℤ◌, List, length}
use Rattle.stn_model.specs.declared.plant.Plant.{Plant}
use Rattle.stn_model.specs.Plant.{state_at, utility_at, rate_in}
use Rattle.stn_model.specs.Sums.{total_below}
use Rattle.plan_sim.specs.Faults.{level, used}

-- what the stocks at the horizon are worth
abbrev pub levels_worth : Plant → List ℤ → ℤ
levels_worth plant stocks = total_below (λ state. (state_at plant state).price *ℤ level plant stocks state plant.periods) (length plant.states)

-- what it costs to hold the stock of a state, over the times before the horizon
abbrev pub level_cost : Plant → List ℤ → ℕ → ℤ
level_cost plant stocks state = total_below (λ time. (state_at plant state).holding *ℤ level plant stocks state time) plant.periods

-- what it costs to hold all stocks
abbrev pub levels_held : Plant → List ℤ → ℤ
levels_held plant stocks = total_below (level_cost plant stocks) (length plant.states)

-- what a utility costs, over all periods
abbrev pub use_cost : Plant → List ℕ → ℕ → ℤ
use_cost plant loads utility = total_below (λ period. rate_in (utility_at plant utility) period *ℤ pos (used plant loads utility period)) plant.periods

-- what all utilities cost
abbrev pub uses_cost : Plant → List ℕ → ℤ
uses_cost plant loads = total_below (use_cost plant loads) (length plant.utilities)
