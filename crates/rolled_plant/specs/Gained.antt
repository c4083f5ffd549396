-- What a state gains, as its stocks and deliveries show it.
use Rattle.std.specs.Prelude.{ℕ, ℤ, pos, zero, suc, ◌+ℤ◌, List}
use Rattle.stn_model.specs.declared.plant.Plant.{Plant}
use Rattle.stn_model.specs.declared.start.Start.{Start}
use Rattle.stn_model.specs.Plant.{state_at}
use Rattle.stn_model.specs.Stock.{stock, delivered}

-- the stock of the state at a time, and what has been delivered from it by then
abbrev pub gained_by : Plant → List Start → ℕ → ℕ → ℤ
gained_by plant plan state time = stock plant plan state time +ℤ pos (delivered plant state time)

-- the same before a time: at first what was there
abbrev pub gained_before : Plant → List Start → ℕ → ℕ → ℤ
gained_before plant plan state zero = pos (state_at plant state).initial
gained_before plant plan state (suc time) = gained_by plant plan state time
