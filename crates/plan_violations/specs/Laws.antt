-- How the list of what a plan breaks agrees with what a simulation answers.
use Rattle.std.specs.Prelude.{List, [], ◌∷◌}
use Rattle.stn_model.specs.declared.plant.Plant.{Plant}
use Rattle.stn_model.specs.declared.start.Start.{Start}
use Rattle.stn_model.specs.declared.violation.Violation.{Violation}
use Rattle.stn_model.specs.declared.violation.Violation.TheVariants as first
use Rattle.stn_model.specs.Violations.{BreaksFirst}
use Rattle.plan_violations.specs.declared.breach.Breach.{Breach}
use Rattle.plan_violations.specs.declared.breach.Breach.TheVariants.{Unfit, Busy, Early, Gap, StockLow, StockHigh, Load}

-- the violation without its cause or amount, as a simulation names it
abbrev pub violation_of : Breach → Violation
violation_of (Unfit place cause) = first.Unfit place
violation_of (Busy one other) = first.Busy one other
violation_of (Early place early) = first.Early place
violation_of (Gap one other early) = first.Gap one other
violation_of (StockLow state time short) = first.StockLow state time
violation_of (StockHigh state time over) = first.StockHigh state time
violation_of (Load utility period over) = first.Load utility period

-- the list is empty, or begins with what the plan breaks first
abbrev pub BeginsWithFirst : Plant → List Start → List Breach → Type 0
BeginsWithFirst plant plan [] = Unit {0}
BeginsWithFirst plant plan (breach ∷ others) = BreaksFirst plant plan (violation_of breach)
