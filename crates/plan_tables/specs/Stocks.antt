-- The table of the stocks: a line for each state and time.
use Rattle.std.specs.Prelude.{ℕ, ℤ, ◌+◌, ◌==◌, ◌&&◌, if◌then◌else◌, Option, None, Some, List, [], ◌++◌, length, flat_map, sum_by, slice_get, codes, decimal}
use Rattle.std.specs.List.{range_with_len}
use Rattle.std.specs.Fmt.{signed_decimal}
use Rattle.stn_model.specs.declared.plant.Plant.{Plant}
use Rattle.stn_model.specs.declared.plant.Receipt.{Receipt}
use Rattle.stn_model.specs.declared.plant.Delivery.{Delivery}
use Rattle.stn_model.specs.declared.start.Start.{Start}
use Rattle.stn_model.specs.Plant.{state_at}
use Rattle.stn_model.specs.Stock.{stock}

-- what a receipt brings to the state at a time
abbrev pub brought_at : ℕ → ℕ → Receipt → ℕ
brought_at state time receipt = if receipt.state == state && receipt.time == time then receipt.amount else 0

-- what comes into the state from outside at a time
unfoldable pub received_at : Plant → ℕ → ℕ → ℕ
received_at plant state time = sum_by (brought_at state time) plant.receipts

-- what a delivery carries off from the state at a time
abbrev pub carried_at : ℕ → ℕ → Delivery → ℕ
carried_at state time delivery = if delivery.state == state && delivery.time == time then delivery.amount else 0

-- what goes out of the state to customers at a time
unfoldable pub delivered_at : Plant → ℕ → ℕ → ℕ
delivered_at plant state time = sum_by (carried_at state time) plant.deliveries

-- a limit, and nothing where there is none
abbrev pub limit_cell : Option ℕ → List ℕ
limit_cell None = []
limit_cell (Some limit) = decimal limit

-- the numbers of a state at a time up to its limit, after its name
unfoldable pub level_cells : ℕ → ℤ → List ℕ
level_cells time level = codes "," ++ (decimal time ++ (codes "," ++ (signed_decimal level ++ codes ",")))

-- the numbers of a state at a time after its limit
unfoldable pub moved_cells : ℕ → ℕ → List ℕ
moved_cells receipt delivery = codes "," ++ (decimal receipt ++ (codes "," ++ (decimal delivery ++ codes "\n")))

-- the cells of a state at a time from its limit on
unfoldable pub limit_cells : Plant → ℕ → ℕ → List ℕ
limit_cells plant state time =
    limit_cell (slice_get (state_at plant state).limits time) ++ moved_cells (received_at plant state time) (delivered_at plant state time)

-- the line of a state at a time
unfoldable pub stock_line : Plant → List Start → ℕ → ℕ → List ℕ
stock_line plant plan state time =
    (state_at plant state).name ++ (level_cells time (stock plant plan state time) ++ limit_cells plant state time)

-- the lines of a state, at the times from 0 to the horizon
abbrev pub state_lines : Plant → List Start → ℕ → List ℕ
state_lines plant plan state = flat_map (stock_line plant plan state) (range_with_len 0 (plant.periods + 1))

-- the head line of the stocks
unfoldable pub stocks_head : List ℕ
stocks_head = codes "state,time,stock,limit,receipt,delivery\n"

-- the table of the stocks
abbrev pub stocks_text : Plant → List Start → List ℕ
stocks_text plant plan = stocks_head ++ flat_map (state_lines plant plan) (range_with_len 0 (length plant.states))
