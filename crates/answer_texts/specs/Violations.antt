-- The text on everything that a plan breaks.
use Rattle.std.specs.Prelude.{ℕ, ◌+◌, List, [], ◌∷◌, ◌++◌, length, codes, decimal}
use Rattle.std.specs.List.{flat_map}
use Rattle.stn_model.specs.declared.plant.Plant.{Plant}
use Rattle.stn_model.specs.declared.start.Start.{Start}
use Rattle.stn_model.specs.Plant.{state_at, utility_at}
use Rattle.plan_violations.specs.declared.breach.Misfit.{Misfit}
use Rattle.plan_violations.specs.declared.breach.Misfit.TheVariants.{Run, Size, Horizon, Outage}
use Rattle.plan_violations.specs.declared.breach.Breach.{Breach}
use Rattle.plan_violations.specs.declared.breach.Breach.TheVariants.{Unfit, Busy, Early, Gap, StockLow, StockHigh, Load}
use Rattle.plan_violations.specs.Breaches.{breaches}

-- the word for why a start does not fit
abbrev pub misfit_word : Misfit → List ℕ
misfit_word Run = codes "run"
misfit_word Size = codes "size"
misfit_word Horizon = codes "horizon"
misfit_word Outage = codes "outage"

-- a line on two places of a plan, which are counted from 1
abbrev pub two_places : List ℕ → ℕ → ℕ → List ℕ
two_places what first second = what ++ (decimal (first + 1) ++ (codes " " ++ (decimal (second + 1) ++ codes "\n")))

-- a line on a place of a plan, and an amount
abbrev pub place_by : List ℕ → ℕ → ℕ → List ℕ
place_by what place amount = what ++ (decimal (place + 1) ++ (codes " by " ++ (decimal amount ++ codes "\n")))

-- a line on two places of a plan, and an amount
abbrev pub pair_by : List ℕ → ℕ → ℕ → ℕ → List ℕ
pair_by what first second amount =
    what ++ (decimal (first + 1) ++ (codes " " ++ (decimal (second + 1) ++ (codes " by " ++ (decimal amount ++ codes "\n")))))

-- a line on a name, a time or period, and an amount
abbrev pub named_by : List ℕ → List ℕ → ℕ → ℕ → List ℕ
named_by what name number amount =
    what ++ (name ++ (codes " " ++ (decimal number ++ (codes " by " ++ (decimal amount ++ codes "\n")))))

-- the line on one thing that a plan breaks: places count from 1, states and utilities go by name, and 0 stands for the batch before the plan
unfoldable pub breach_line : Plant → Breach → List ℕ
breach_line plant (Unfit place cause) = codes "unfit " ++ (decimal (place + 1) ++ (codes " " ++ (misfit_word cause ++ codes "\n")))
breach_line plant (Busy first second) = two_places (codes "busy ") first second
breach_line plant (Early place early) = place_by (codes "gap 0 ") place early
breach_line plant (Gap first second early) = pair_by (codes "gap ") first second early
breach_line plant (StockLow state time short) = named_by (codes "stock-low ") (state_at plant state).name time short
breach_line plant (StockHigh state time over) = named_by (codes "stock-high ") (state_at plant state).name time over
breach_line plant (Load utility period over) = named_by (codes "load ") (utility_at plant utility).name period over

-- the text on what a plan breaks: how much it is, and a line for each
unfoldable pub violations_text : Plant → List Start → List ℕ
violations_text plant plan =
    (codes "violations " ++ (decimal (length (breaches plant plan)) ++ codes "\n")) ++ flat_map (breach_line plant) (breaches plant plan)
