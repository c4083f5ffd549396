-- What phi keeps, and that derived rows hold.
use Rattle.derived_rows.proofs.Held.{held, rounds_down}
use Rattle.derived_rows.proofs.law.derived_rows_hold.Goals as goal

pub returns-clause-rounds : goal.returns-clause-rounds
returns-clause-rounds c = rounds_down

pub returns-clause-holds : goal.returns-clause-holds
returns-clause-holds c = held
