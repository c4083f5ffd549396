-- What a plan earns, in money.
use Rattle.std.specs.Prelude.{ℕ, ℤ, pos, ◌+◌, ◌*ℤ◌, ◌-ℤ◌, ◌+ℤ◌, if◌then◌else◌, Option, Some, None, List, length, sum_by}
use Rattle.stn_model.specs.declared.plant.Plant.{Plant}
use Rattle.stn_model.specs.declared.plant.Run.{Run}
use Rattle.stn_model.specs.declared.start.Start.{Start}
use Rattle.stn_model.specs.Plant.{state_at, utility_at, rate_in, run_on, cost_between, first_cost}
use Rattle.stn_model.specs.Batches.{is_first, is_next}
use Rattle.stn_model.specs.Stock.{stock}
use Rattle.stn_model.specs.Load.{load}
use Rattle.stn_model.specs.Sums.{total, total_below}

-- what the end stocks are worth
unfoldable pub end_value : Plant → List Start → ℤ
end_value plant plan = total_below (λ state. (state_at plant state).price *ℤ stock plant plan state plant.periods) (length plant.states)

-- what the customers pay
unfoldable pub payments : Plant → ℤ
payments plant = total (λ delivery. delivery.payment) plant.deliveries

-- what holding stock costs, over the times before the horizon
unfoldable pub holding_cost : Plant → List Start → ℤ
holding_cost plant plan = total_below (λ state. total_below (λ time. (state_at plant state).holding *ℤ stock plant plan state time) plant.periods) (length plant.states)

-- what the utilities cost
unfoldable pub utility_cost : Plant → List Start → ℤ
utility_cost plant plan = total_below (λ utility. total_below (λ period. rate_in (utility_at plant utility) period *ℤ pos (load plant plan utility period)) plant.periods) (length plant.utilities)

-- the cost of a run that may be there
abbrev pub cost_of : Option Run → ℤ
cost_of None = pos 0
cost_of (Some run) = run.cost

-- what the starts cost: each the cost of its run
unfoldable pub start_cost : Plant → List Start → ℤ
start_cost plant plan = total (λ start. cost_of (run_on plant start.task start.unit)) plan

-- what a changeover from a to b costs, where b is a next start on a's unit
unfoldable pub changeover : Plant → List Start → Start → Start → ℕ
changeover plant plan a b = if is_next plan a b then cost_between plant a.unit a.task b.task else 0

-- what the changeover to b costs from the batch that held its unit last, where b comes first on it
unfoldable pub first_change : Plant → List Start → Start → ℕ
first_change plant plan b = if is_first plan b then first_cost plant b.unit b.task else 0

-- what the changeovers cost: those between batches, and those to first ones
unfoldable pub change_costs : Plant → List Start → ℕ
change_costs plant plan = sum_by (λ a. sum_by (changeover plant plan a) plan) plan + sum_by (first_change plant plan) plan

-- the profit: end stocks and payments, less the costs of holding, utilities, starts and changeovers
unfoldable pub profit : Plant → List Start → ℤ
profit plant plan =
    ((((end_value plant plan +ℤ payments plant) -ℤ holding_cost plant plan) -ℤ utility_cost plant plan) -ℤ start_cost plant plan) -ℤ pos (change_costs plant plan)
