-- What comes into the states from a period on, as receipts of a plant that begins there.
use Rattle.std.specs.Prelude.{ℕ, suc, ◌+◌, ◌-◌, ◌/◌, ◌%◌, ◌==◌, ◌≤◌, if◌then◌else◌, List, [], ◌∷◌, ◌++◌, length, replicate}
use Rattle.stn_model.specs.declared.plant.Plant.{Plant}
use Rattle.stn_model.specs.declared.plant.Receipt.{Receipt}
use Rattle.stn_model.specs.declared.start.Start.{Start}
use Rattle.stn_model.specs.Stock.{inflow}
use Rattle.rolled_plant.specs.Lists.{listed_below}
use Rattle.rolled_plant.specs.Begin.{inflow_before, stock_before}

-- what comes into the state at a time: all that has come by it, less what had come before it
unfoldable pub arriving_at : Plant → List Start → ℕ → ℕ → ℕ
arriving_at plant plan state time = inflow plant plan state time - inflow_before plant plan state time

-- what comes into the state so many periods after one: what arrives then, and at once what of the stock is above 10^9
unfoldable pub coming : Plant → List Start → ℕ → ℕ → ℕ → ℕ
coming plant plan period state time =
    arriving_at plant plan state (period + time) + (if time == 0 then stock_before plant plan state period - 1000000000 else 0)

-- a receipt
abbrev pub one_receipt : ℕ → ℕ → ℕ → Receipt
one_receipt state time amount = record { state = state; time = time; amount = amount }

-- a receipt of an amount, and none of nothing
abbrev pub some_receipt : ℕ → ℕ → ℕ → List Receipt
some_receipt state time amount = if amount == 0 then [] else one_receipt state time amount ∷ []

-- an amount as receipts: as many of 10^9 as it has, and one of the rest
unfoldable pub receipts_of : ℕ → ℕ → ℕ → List Receipt
receipts_of state time amount =
    replicate (amount / 1000000000) (one_receipt state time 1000000000) ++ some_receipt state time (amount % 1000000000)

-- the receipts at a time, by state
unfoldable pub receipts_at : Plant → List Start → ℕ → ℕ → List Receipt
receipts_at plant plan period time = listed_below (λ state. receipts_of state time (coming plant plan period state time)) (length plant.states)

-- the receipts from the period on, by time and state
unfoldable pub receipts_from : Plant → List Start → ℕ → List Receipt
receipts_from plant plan period = listed_below (receipts_at plant plan period) (suc (plant.periods - period))

-- there are no more of them than a plant has at most
abbrev pub AreFew : Plant → List Start → ℕ → Type 0
AreFew plant plan period = length (receipts_from plant plan period) ≤ 900
