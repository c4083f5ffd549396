-- The plant from a period on, where the starts before it have been carried out.
use Rattle.std.specs.Prelude.{ℕ, ◌-◌, nat_le, nat_lt, min, true, Option, List, map, filter, drop, option_map}
use Rattle.stn_model.specs.declared.plant.Plant.{Plant}
use Rattle.stn_model.specs.declared.plant.State.{State}
use Rattle.stn_model.specs.declared.plant.Utility.{Utility}
use Rattle.stn_model.specs.declared.plant.StnUnit.{StnUnit}
use Rattle.stn_model.specs.declared.plant.Delivery.{Delivery}
use Rattle.stn_model.specs.declared.plant.Outage.{Outage}
use Rattle.stn_model.specs.declared.plant.Calendar.{Calendar}
use Rattle.stn_model.specs.declared.start.Start.{Start}
use Rattle.stn_model.specs.Load.{load}
use Rattle.plant_labels.specs.Clock.{calendar_from}
use Rattle.rolled_plant.specs.Lists.{map_from}
use Rattle.rolled_plant.specs.Begin.{stock_before, last_behind, last_seen}
use Rattle.rolled_plant.specs.Receipts.{receipts_from}

-- the state with the stock before the period, 10^9 of it at most, and the limits from there on
abbrev pub rolled_state : Plant → List Start → ℕ → ℕ → State → State
rolled_state plant plan period number state = record state {
  initial = min (stock_before plant plan number period) 1000000000;
  limits = drop period state.limits;
}

-- the utility with its limits and rates from the period on, the limits less what the starts draw
abbrev pub rolled_utility : Plant → List Start → ℕ → ℕ → Utility → Utility
rolled_utility plant plan period number utility = record utility {
  limits = map_from (λ time limit. limit - load plant plan number time) period (drop period utility.limits);
  rates = drop period utility.rates;
}

-- the unit with the batch that holds it last after the starts
abbrev pub rolled_unit : Plant → List Start → ℕ → ℕ → StnUnit → StnUnit
rolled_unit plant plan period number unit = record unit { last = option_map (last_seen period) (last_behind plant plan number) }

-- the delivery with its time counted from the period
abbrev pub sooner_delivery : ℕ → Delivery → Delivery
sooner_delivery period delivery = record delivery { time = delivery.time - period }

-- the deliveries from the period on
abbrev pub deliveries_from : ℕ → List Delivery → List Delivery
deliveries_from period deliveries = map (sooner_delivery period) (filter (λ delivery. nat_le period delivery.time) deliveries)

-- what of the outage is left from the period on
abbrev pub sooner_outage : ℕ → Outage → Outage
sooner_outage period outage = record outage { from = outage.from - period; to = outage.to - period }

-- the outages that go on after the period or begin later
abbrev pub outages_from : ℕ → List Outage → List Outage
outages_from period outages = map (sooner_outage period) (filter (λ outage. nat_lt period outage.to) outages)

-- the calendar from the period on, where there is one
abbrev pub rolled_calendar : ℕ → Option Calendar → Option Calendar
rolled_calendar period calendar = option_map (calendar_from period) calendar

-- The plant from the period on, where these starts before it have been carried out: with the stocks that they left, what comes and
-- goes from then on, what they leave of the utilities, and the batches that hold the units last. Its calendar begins at the period. It
-- is of version 3 of plant files.
unfoldable pub rolled_plant : Plant → List Start → ℕ → Plant
rolled_plant plant before period = record plant {
  large = true;
  periods = plant.periods - period;
  calendar = rolled_calendar period plant.calendar;
  states = map_from (rolled_state plant before period) 0 plant.states;
  utilities = map_from (rolled_utility plant before period) 0 plant.utilities;
  units = map_from (rolled_unit plant before period) 0 plant.units;
  receipts = receipts_from plant before period;
  deliveries = deliveries_from period plant.deliveries;
  outages = outages_from period plant.outages;
}
