-- What a start in a slot earns: a fixed part, and a part for each quantum.
use Rattle.std.specs.Prelude.{ℕ, ℤ, pos, ◌+◌, ◌-◌, ◌-ℤ◌, ◌*ℤ◌, List, length, slice_index}
use Rattle.stn_model.specs.declared.plant.Plant.{Plant}
use Rattle.stn_model.specs.declared.plant.Input.{Input}
use Rattle.stn_model.specs.declared.plant.Output.{Output}
use Rattle.stn_model.specs.declared.plant.Draw.{Draw}
use Rattle.stn_model.specs.Plant.{state_at, utility_at, rate_in, task_at, run_at}
use Rattle.stn_model.specs.Sums.{total, total_below}

-- what a mass unit that is in stock of the state from a time on is worth: its price, less what it costs to hold it until the horizon
unfoldable pub worth_from : Plant → ℕ → ℕ → ℤ
worth_from plant state time = (state_at plant state).price -ℤ ((state_at plant state).holding *ℤ pos (plant.periods - time))

-- what an output is worth for each quantum of a batch that starts in the period
abbrev pub output_worth : Plant → ℕ → Output → ℤ
output_worth plant period output = pos output.amount *ℤ worth_from plant output.state (period + output.delay)

-- what an input is worth for each quantum of a batch that starts in the period
abbrev pub input_worth : Plant → ℕ → Input → ℤ
input_worth plant period input = pos input.amount *ℤ worth_from plant input.state period

-- what amounts of a utility cost that are drawn in a row of periods from one on
unfoldable pub cost_from : Plant → ℕ → ℕ → List ℕ → ℤ
cost_from plant utility period amounts = total_below (λ k. rate_in (utility_at plant utility) (period + k) *ℤ pos (slice_index amounts k)) (length amounts)

-- what a draw of a batch that starts in the period costs, whatever its size
abbrev pub fixed_cost : Plant → ℕ → Draw → ℤ
fixed_cost plant period draw = cost_from plant draw.utility period draw.fixed

-- what a draw of a batch that starts in the period costs for each quantum
abbrev pub each_cost : Plant → ℕ → Draw → ℤ
each_cost plant period draw = cost_from plant draw.utility period draw.each

-- what a start in the slot earns, whatever its size: less the run's cost, less the draws
unfoldable pub fixed_profit : Plant → ℕ × ℕ → ℤ
fixed_profit plant slot = (pos 0 -ℤ (run_at plant slot.0).cost) -ℤ total (fixed_cost plant slot.1) (task_at plant (run_at plant slot.0).task).draws

-- what a start in the slot earns for each quantum: its outputs, less its inputs, less the draws
unfoldable pub each_profit : Plant → ℕ × ℕ → ℤ
each_profit plant slot =
    (total (output_worth plant slot.1) (task_at plant (run_at plant slot.0).task).outputs -ℤ total (input_worth plant slot.1) (task_at plant (run_at plant slot.0).task).inputs)
    -ℤ total (each_cost plant slot.1) (task_at plant (run_at plant slot.0).task).draws

-- what a slot counts in the profit, fixed and for each quantum
abbrev pub profit_part : Plant → ℕ × ℕ → ℤ × ℤ
profit_part plant slot = (fixed_profit plant slot, each_profit plant slot)
