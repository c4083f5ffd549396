-- The plant with some of its deliveries alone is sound.
use Rattle.std.proofs.Common.{◌≡◌, Bool, List, length, refl, arith}
use Rattle.std.proofs.lemmas.Option.{IfSome_then}
use Rattle.stn_model.specs.declared.plant.Plant.{Plant}
use Rattle.stn_model.specs.declared.plant.StnUnit.{StnUnit}
use Rattle.stn_model.specs.declared.plant.Last.{Last}
use Rattle.stn_model.specs.declared.plant.Delivery.{Delivery}
use Rattle.stn_model.specs.Plant.{run_on, end_of, is_in_use, gap_between}
use Rattle.stn_model.specs.Fits.{is_fit}
use Rattle.stn_model.specs.Points.{has_slot, slots_of, slot_count, meets_gap, gap_pairs}
use Rattle.stn_model.specs.Sound.{Sound, SoundLast, SoundUnit, SoundTask, SoundRun, SoundGap, SoundReceipt, SoundDelivery, SoundOutage, SoundCounts, SmallCounts}
use Rattle.plant_copies.proofs.Alike.{All-each, AreAlike, task_sound, run_sound, gap_sound}
use Rattle.fewer_orders.specs.Alone.{alone, picked}
use Rattle.fewer_orders.proofs.Picked.{length-picked, All-picked}

same_slots : (plant : Plant) (kept : List Bool) → slot_count (alone plant kept) ≡ slot_count plant
unfolding alone slot_count slots_of has_slot is_fit run_on end_of is_in_use
same_slots plant kept = refl

same_pairs : (plant : Plant) (kept : List Bool) → gap_pairs (alone plant kept) ≡ gap_pairs plant
unfolding alone gap_pairs meets_gap gap_between has_slot is_fit run_on end_of is_in_use
same_pairs plant kept = refl

counts_sound : (plant : Plant) (kept : List Bool) → SoundCounts plant → SoundCounts (alone plant kept)
unfolding alone
counts_sound plant kept counts = record {
  periods = counts.periods;
  states = counts.states;
  utilities = counts.utilities;
  units = counts.units;
  tasks = counts.tasks;
  runs = counts.runs;
  gaps = counts.gaps;
  receipts = counts.receipts;
  deliveries = let few = counts.deliveries in omega (arith, length-picked kept plant.deliveries);
  outages = counts.outages;
  slots = let few = counts.slots in omega (arith, same_slots plant kept);
  gap_pairs = let few = counts.gap_pairs in omega (arith, same_pairs plant kept);
}

-- a plant that is small is small with fewer deliveries too
small_sound : (plant : Plant) (kept : List Bool) → SmallCounts plant → SmallCounts (alone plant kept)
unfolding alone
small_sound plant kept counts = record {
  states = counts.states;
  utilities = counts.utilities;
  units = counts.units;
  tasks = counts.tasks;
  runs = counts.runs;
  receipts = counts.receipts;
  deliveries = let few = counts.deliveries in omega (arith, length-picked kept plant.deliveries);
  outages = counts.outages;
  slots = let few = counts.slots in omega (arith, same_slots plant kept);
  gap_pairs = let few = counts.gap_pairs in omega (arith, same_pairs plant kept);
  rates = counts.rates;
  gaps = counts.gaps;
  lasts = counts.lasts;
  unlabelled = record {
    calendar = counts.unlabelled.calendar;
    states = counts.unlabelled.states;
    utilities = counts.unlabelled.utilities;
    units = counts.unlabelled.units;
    tasks = counts.unlabelled.tasks;
    colours = counts.unlabelled.colours;
  };
}

alike : (plant : Plant) (kept : List Bool) → AreAlike (alone plant kept) plant
unfolding alone
alike plant kept = record { states = refl; utilities = refl; units = refl; tasks = refl }

last_sound : (plant : Plant) (kept : List Bool) (last : Last) → SoundLast plant last → SoundLast (alone plant kept) last
unfolding alone
last_sound plant kept last sound = record { task = sound.task; early = sound.early; late = sound.late }

unit_sound : (plant : Plant) (kept : List Bool) (unit : StnUnit) → SoundUnit plant unit → SoundUnit (alone plant kept) unit
unit_sound plant kept unit sound = record { name = sound.name; label = sound.label; last = IfSome_then unit.last sound.last (last_sound plant kept) }

delivery_sound : (plant : Plant) (kept : List Bool) (delivery : Delivery) → SoundDelivery plant delivery → SoundDelivery (alone plant kept) delivery
unfolding alone
delivery_sound plant kept delivery sound = record { state = sound.state; time = sound.time; amount = sound.amount; payment = sound.payment }

-- the plant with some of its deliveries alone is sound
pub fewer_sound : (plant : Plant) (kept : List Bool) → length kept ≡ length plant.deliveries → Sound plant → Sound (alone plant kept)
unfolding alone
fewer_sound plant kept each sound =
    let fewer = alone plant kept in
    let same = alike plant kept in
    record {
      counts = counts_sound plant kept sound.counts;
      calendar = sound.calendar;
      small = λ is. small_sound plant kept (sound.small is);
      names = record { states = sound.names.states; utilities = sound.names.utilities; units = sound.names.units; tasks = sound.names.tasks; runs = sound.names.runs };
      states = sound.states;
      utilities = sound.utilities;
      units = All-each (SoundUnit plant) (SoundUnit fewer) plant.units (unit_sound plant kept) sound.units;
      tasks = All-each (SoundTask plant) (SoundTask fewer) plant.tasks (λ task. task_sound fewer plant task same) sound.tasks;
      runs = All-each (SoundRun plant) (SoundRun fewer) plant.runs (λ run. run_sound fewer plant run same) sound.runs;
      gaps = All-each (SoundGap plant) (SoundGap fewer) plant.gaps (λ gap. gap_sound fewer plant gap same) sound.gaps;
      receipts = All-each (SoundReceipt plant) (SoundReceipt fewer) plant.receipts (λ receipt known. record { state = known.state; time = known.time; amount = known.amount }) sound.receipts;
      deliveries = All-each (SoundDelivery plant) (SoundDelivery fewer) (picked kept plant.deliveries) (delivery_sound plant kept) (All-picked (SoundDelivery plant) kept plant.deliveries each sound.deliveries);
      outages = All-each (SoundOutage plant) (SoundOutage fewer) plant.outages (λ outage known. record { unit = known.unit; some = known.some; to = known.to }) sound.outages;
    }
