-- What is in stock of a state at a time, in mass units.
use Rattle.std.specs.Prelude.{ℕ, ℤ, pos, ◌+◌, ◌*◌, ◌==◌, ◌&&◌, nat_le, if◌then◌else◌, List, sum_by}
use Rattle.std.specs.Prelude.{◌-ℤ◌}
use Rattle.stn_model.specs.declared.plant.Plant.{Plant}
use Rattle.stn_model.specs.declared.plant.Input.{Input}
use Rattle.stn_model.specs.declared.plant.Output.{Output}
use Rattle.stn_model.specs.declared.plant.Receipt.{Receipt}
use Rattle.stn_model.specs.declared.plant.Delivery.{Delivery}
use Rattle.stn_model.specs.declared.start.Start.{Start}
use Rattle.stn_model.specs.Plant.{state_at, task_at}

-- what a receipt has brought to the state by a time
abbrev pub brought : ℕ → ℕ → Receipt → ℕ
brought state time receipt = if receipt.state == state && nat_le receipt.time time then receipt.amount else 0

-- what has come into the state from outside by a time
unfoldable pub received : Plant → ℕ → ℕ → ℕ
received plant state time = sum_by (brought state time) plant.receipts

-- what a delivery has carried off from the state by a time
abbrev pub carried_off : ℕ → ℕ → Delivery → ℕ
carried_off state time delivery = if delivery.state == state && nat_le delivery.time time then delivery.amount else 0

-- what has gone out of the state to customers by a time
unfoldable pub delivered : Plant → ℕ → ℕ → ℕ
delivered plant state time = sum_by (carried_off state time) plant.deliveries

-- what a batch has taken from the state by a time by one of its inputs: it leaves its state at the start
abbrev pub taken_by : ℕ → ℕ → Start → Input → ℕ
taken_by state time start input = if input.state == state && nat_le start.period time then start.quanta * input.amount else 0

-- what a batch has taken from the state by a time
unfoldable pub taken : Plant → ℕ → ℕ → Start → ℕ
taken plant state time start = sum_by (taken_by state time start) (task_at plant start.task).inputs

-- what a batch has given to the state by a time by one of its outputs: it comes after its delay
abbrev pub given_by : ℕ → ℕ → Start → Output → ℕ
given_by state time start output = if output.state == state && nat_le (start.period + output.delay) time then start.quanta * output.amount else 0

-- what a batch has given to the state by a time
unfoldable pub given : Plant → ℕ → ℕ → Start → ℕ
given plant state time start = sum_by (given_by state time start) (task_at plant start.task).outputs

-- all that has come into the state by a time, with what was there
unfoldable pub inflow : Plant → List Start → ℕ → ℕ → ℕ
inflow plant plan state time = (state_at plant state).initial + received plant state time + sum_by (given plant state time) plan

-- all that has gone out of the state by a time
unfoldable pub outflow : Plant → List Start → ℕ → ℕ → ℕ
outflow plant plan state time = delivered plant state time + sum_by (taken plant state time) plan

-- the stock of the state at a time: what came in less what went out; it may be negative
unfoldable pub stock : Plant → List Start → ℕ → ℕ → ℤ
stock plant plan state time = pos (inflow plant plan state time) -ℤ pos (outflow plant plan state time)
