-- The plant within a shorter horizon.
use Rattle.std.specs.Prelude.{ℕ, pos, ◌+◌, nat_le, nat_lt, min, List, map, filter, take, option_map}
use Rattle.std.specs.Int.{int_min}
use Rattle.stn_model.specs.declared.plant.Plant.{Plant}
use Rattle.stn_model.specs.declared.plant.State.{State}
use Rattle.stn_model.specs.declared.plant.Utility.{Utility}
use Rattle.stn_model.specs.declared.plant.StnUnit.{StnUnit}
use Rattle.stn_model.specs.declared.plant.Last.{Last}
use Rattle.stn_model.specs.declared.plant.Receipt.{Receipt}
use Rattle.stn_model.specs.declared.plant.Delivery.{Delivery}
use Rattle.stn_model.specs.declared.plant.Outage.{Outage}

-- the state with its limits at the times up to the horizon
abbrev pub state_until : ℕ → State → State
state_until horizon state = record state { limits = take (horizon + 1) state.limits }

-- the utility with its limits and rates in the periods before the horizon
abbrev pub utility_until : ℕ → Utility → Utility
utility_until horizon utility = record utility { limits = take horizon utility.limits; rates = take horizon utility.rates }

-- the batch that held a unit last, which ends by the horizon
abbrev pub last_until : ℕ → Last → Last
last_until horizon last = record last { until = int_min last.until (pos horizon) }

-- the unit, whose last batch ends by the horizon
abbrev pub unit_until : ℕ → StnUnit → StnUnit
unit_until horizon unit = record unit { last = option_map (last_until horizon) unit.last }

-- the delivery at the horizon
abbrev pub delivered_at : ℕ → Delivery → Delivery
delivered_at horizon delivery = record delivery { time = horizon }

-- the outage, which ends by the horizon
abbrev pub outage_until : ℕ → Outage → Outage
outage_until horizon outage = record outage { to = min outage.to horizon }

-- the receipts that have come by the horizon
abbrev pub receipts_until : ℕ → List Receipt → List Receipt
receipts_until horizon receipts = filter (λ receipt. nat_le receipt.time horizon) receipts

-- the outages that begin before the horizon, each until then at most
abbrev pub outages_until : ℕ → List Outage → List Outage
outages_until horizon outages = map (outage_until horizon) (filter (λ outage. nat_lt outage.from horizon) outages)

-- The plant within a horizon: it ends there, all deliveries are due there, and what comes or holds later is left out.
unfoldable pub plant_at : Plant → ℕ → Plant
plant_at plant horizon = record plant {
  periods = horizon;
  states = map (state_until horizon) plant.states;
  utilities = map (utility_until horizon) plant.utilities;
  units = map (unit_until horizon) plant.units;
  receipts = receipts_until horizon plant.receipts;
  deliveries = map (delivered_at horizon) plant.deliveries;
  outages = outages_until horizon plant.outages;
}
