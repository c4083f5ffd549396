-- The tables of a plan: a head line and the lines of what it is about, as CSV.
use Rattle.std.specs.Prelude.{ℕ, List}
use Rattle.stn_model.specs.declared.plant.Plant.{Plant}
use Rattle.stn_model.specs.declared.start.Start.{Start}
use Rattle.plan_tables.specs.declared.kind.TableKind.{TableKind}
use Rattle.plan_tables.specs.declared.kind.TableKind.TheVariants.{Batches, Stocks, Loads, Units, Deliveries}
use Rattle.plan_tables.specs.Batches.{batches_text}
use Rattle.plan_tables.specs.Stocks.{stocks_text}
use Rattle.plan_tables.specs.Loads.{loads_text}
use Rattle.plan_tables.specs.Units.{units_text}
use Rattle.plan_tables.specs.Deliveries.{deliveries_text}

-- the text of a table
abbrev pub table_text : TableKind → Plant → List Start → List ℕ
table_text Batches plant plan = batches_text plant plan
table_text Stocks plant plan = stocks_text plant plan
table_text Loads plant plan = loads_text plant plan
table_text Units plant plan = units_text plant plan
table_text Deliveries plant plan = deliveries_text plant plan
