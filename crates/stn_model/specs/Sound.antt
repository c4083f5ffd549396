-- When the records of a plant make sense: each keeps its limits, names what is there, and fits the others.
use Rattle.std.specs.Prelude.{◌≡◌, ◌≢◌, ℕ, pos, negsuc, ◌*◌, ◌<◌, ◌≤◌, ◌≤ℤ◌, ◌⊎◌, ◌||◌, ◌&&◌, ◌==◌, nat_le, Bool, false, IsTrue, IfSome, None, List, [], ◌∷◌, length, All, AllPairs, sum_by, unsigned_abs, suc}
use Rattle.std.specs.List.{list_all}
use Rattle.std.specs.Char.{is_ascii_alphabetic, is_ascii_digit}
use Rattle.stn_model.specs.declared.plant.Plant.{Plant}
use Rattle.stn_model.specs.declared.plant.State.{State}
use Rattle.stn_model.specs.declared.plant.Utility.{Utility}
use Rattle.stn_model.specs.declared.plant.StnUnit.{StnUnit}
use Rattle.stn_model.specs.declared.plant.Last.{Last}
use Rattle.stn_model.specs.declared.plant.Task.{Task}
use Rattle.stn_model.specs.declared.plant.Input.{Input}
use Rattle.stn_model.specs.declared.plant.Output.{Output}
use Rattle.stn_model.specs.declared.plant.Draw.{Draw}
use Rattle.stn_model.specs.declared.plant.Run.{Run}
use Rattle.stn_model.specs.declared.plant.Gap.{Gap}
use Rattle.stn_model.specs.declared.plant.Receipt.{Receipt}
use Rattle.stn_model.specs.declared.plant.Delivery.{Delivery}
use Rattle.stn_model.specs.declared.plant.Outage.{Outage}
use Rattle.stn_model.specs.Plant.{duration_of}
use Rattle.stn_model.specs.Points.{slot_count, gap_pairs}
use Rattle.stn_model.specs.Labels.{SoundLabel, SoundColour, SoundCalendar, Unlabelled}

-- a number lies within a range, both ends included
abbrev pub Within : ℕ → ℕ → ℕ → Type 0
Within low high n = (low ≤ n) × (n ≤ high)

-- an ASCII letter or digit, or one of '_', '-' and '.'
abbrev pub is_name_byte : ℕ → Bool
is_name_byte byte = is_ascii_alphabetic byte || is_ascii_digit byte || byte == 95 || byte == 45 || byte == 46

-- a name: one to 32 such bytes, the first a letter
abbrev pub is_name : List ℕ → Bool
is_name [] = false
is_name (byte ∷ bytes) = is_ascii_alphabetic byte && list_all is_name_byte (byte ∷ bytes) && nat_le (length (byte ∷ bytes)) 32

-- an amount is a part of the quantum: over/under of it, with small numbers
abbrev pub IsPart : ℕ → ℕ → Type 0
IsPart quantum amount = (over : ℕ) × ((under : ℕ) × ((Within 1 under over) × (Within 1 10000 under) × (amount * under ≡ quantum * over)))

-- a state keeps its ranges, and has a limit for each time or none
pub record SoundState (periods : ℕ) (state : State) : Type 0 where
  pub name : IsTrue (is_name state.name)
  pub label : SoundLabel state.label
  pub initial : state.initial ≤ 1000000000
  pub limits : (state.limits ≡ []) ⊎ (length state.limits ≡ suc periods)
  pub limit : All (λ limit. limit ≤ 1000000000) state.limits
  pub price : unsigned_abs state.price ≤ 1000000
  pub holding : unsigned_abs state.holding ≤ 1000000

-- a utility keeps its ranges, has a limit for each period, and one rate, or in its place one for each period
pub record SoundUtility (periods : ℕ) (utility : Utility) : Type 0 where
  pub name : IsTrue (is_name utility.name)
  pub label : SoundLabel utility.label
  pub limits : length utility.limits ≡ periods
  pub limit : All (λ limit. limit ≤ 1000000000) utility.limits
  pub rate : unsigned_abs utility.rate ≤ 1000000
  pub rates : (utility.rates ≡ []) ⊎ ((length utility.rates ≡ periods) × (utility.rate ≡ pos 0))
  pub each_rate : All (λ rate. unsigned_abs rate ≤ 1000000) utility.rates

-- an input takes a part of the quantum from a state that is there
pub record SoundInput (plant : Plant) (quantum : ℕ) (input : Input) : Type 0 where
  pub state : input.state < length plant.states
  pub part : IsPart quantum input.amount

-- an output gives a part of the quantum to a state that is there, after a delay
pub record SoundOutput (plant : Plant) (quantum : ℕ) (output : Output) : Type 0 where
  pub state : output.state < length plant.states
  pub part : IsPart quantum output.amount
  pub delay : Within 1 96 output.delay

-- a draw is of a utility that is there, with two numbers for each period of the batch
pub record SoundDraw (plant : Plant) (duration : ℕ) (draw : Draw) : Type 0 where
  pub utility : draw.utility < length plant.utilities
  pub fixed : length draw.fixed ≡ duration
  pub each : length draw.each ≡ duration
  pub fixed_small : All (λ amount. amount ≤ 1000000) draw.fixed
  pub each_small : All (λ amount. amount ≤ 1000000) draw.each

-- a task has inputs and outputs, and the parts of each side make up the quantum
pub record SoundTask (plant : Plant) (task : Task) : Type 0 where
  pub name : IsTrue (is_name task.name)
  pub label : SoundLabel task.label
  pub colour : SoundColour task.colour
  pub quantum : Within 1 1000000 task.quantum
  pub inputs : Within 1 8 (length task.inputs)
  pub outputs : Within 1 8 (length task.outputs)
  pub draws : length task.draws ≤ 8
  pub input : All (SoundInput plant task.quantum) task.inputs
  pub output : All (SoundOutput plant task.quantum) task.outputs
  pub draw : All (SoundDraw plant (duration_of task)) task.draws
  pub taken : sum_by (λ input. input.amount) task.inputs ≡ task.quantum
  pub given : sum_by (λ output. output.amount) task.outputs ≡ task.quantum

-- a run is of a task and a unit that are there, with a least and a greatest batch
pub record SoundRun (plant : Plant) (run : Run) : Type 0 where
  pub task : run.task < length plant.tasks
  pub unit : run.unit < length plant.units
  pub least : 1 ≤ run.min
  pub range : run.min ≤ run.max
  pub most : run.max ≤ 255
  pub cost : unsigned_abs run.cost ≤ 1000000

-- the batch that held a unit last is of a task that is there, and ends from 336 periods before the begin to the horizon
pub record SoundLast (plant : Plant) (last : Last) : Type 0 where
  pub task : last.task < length plant.tasks
  pub early : negsuc 335 ≤ℤ last.until
  pub late : last.until ≤ℤ pos plant.periods

-- a unit has a name, and keeps the ranges of the batch that held it last
pub record SoundUnit (plant : Plant) (unit : StnUnit) : Type 0 where
  pub name : IsTrue (is_name unit.name)
  pub label : SoundLabel unit.label
  pub last : IfSome unit.last (SoundLast plant)

-- a gap is between tasks on a unit that are there
pub record SoundGap (plant : Plant) (gap : Gap) : Type 0 where
  pub unit : gap.unit < length plant.units
  pub from : gap.from < length plant.tasks
  pub to : gap.to < length plant.tasks
  pub periods : gap.periods ≤ 336
  pub cost : gap.cost ≤ 1000000

-- a receipt comes into a state that is there, by the horizon
pub record SoundReceipt (plant : Plant) (receipt : Receipt) : Type 0 where
  pub state : receipt.state < length plant.states
  pub time : receipt.time ≤ plant.periods
  pub amount : Within 1 1000000000 receipt.amount

-- a delivery goes out of a state that is there, by the horizon
pub record SoundDelivery (plant : Plant) (delivery : Delivery) : Type 0 where
  pub state : delivery.state < length plant.states
  pub time : delivery.time ≤ plant.periods
  pub amount : Within 1 1000000000 delivery.amount
  pub payment : unsigned_abs delivery.payment ≤ 1000000000

-- an outage is of a unit that is there, and not empty
pub record SoundOutage (plant : Plant) (outage : Outage) : Type 0 where
  pub unit : outage.unit < length plant.units
  pub some : outage.from < outage.to
  pub to : outage.to ≤ plant.periods

-- how many there are of each thing
pub record SoundCounts (plant : Plant) : Type 0 where
  pub periods : Within 1 336 plant.periods
  pub states : length plant.states ≤ 160
  pub utilities : length plant.utilities ≤ 64
  pub units : length plant.units ≤ 96
  pub tasks : length plant.tasks ≤ 160
  pub runs : length plant.runs ≤ 256
  pub gaps : length plant.gaps ≤ 4096
  pub receipts : length plant.receipts ≤ 900
  pub deliveries : length plant.deliveries ≤ 900
  pub outages : length plant.outages ≤ 4096
  pub slots : slot_count plant ≤ 4096
  pub gap_pairs : gap_pairs plant ≤ 32768

-- a plant that is not large has fewer of each thing, one rate for each utility, shorter gaps, no unit that a batch held before, and no labels
pub record SmallCounts (plant : Plant) : Type 0 where
  pub states : length plant.states ≤ 40
  pub utilities : length plant.utilities ≤ 8
  pub units : length plant.units ≤ 24
  pub tasks : length plant.tasks ≤ 40
  pub runs : length plant.runs ≤ 64
  pub receipts : length plant.receipts ≤ 256
  pub deliveries : length plant.deliveries ≤ 256
  pub outages : length plant.outages ≤ 256
  pub slots : slot_count plant ≤ 512
  pub gap_pairs : gap_pairs plant ≤ 8192
  pub rates : All (λ utility. utility.rates ≡ []) plant.utilities
  pub gaps : All (λ gap. gap.periods ≤ 96) plant.gaps
  pub lasts : All (λ unit. unit.last ≡ None) plant.units
  pub unlabelled : Unlabelled plant

-- the items of one table have names of their own, and no task stands twice on one unit
pub record SoundNames (plant : Plant) : Type 0 where
  pub states : AllPairs (λ a b. a.name ≢ b.name) plant.states
  pub utilities : AllPairs (λ a b. a.name ≢ b.name) plant.utilities
  pub units : AllPairs (λ a b. a.name ≢ b.name) plant.units
  pub tasks : AllPairs (λ a b. a.name ≢ b.name) plant.tasks
  pub runs : AllPairs (λ a b. a.task ≡ b.task → a.unit ≢ b.unit) plant.runs

-- a sound plant: what the reader of plant files gives, and what every other call asks for
pub record Sound (plant : Plant) : Type 0 where
  pub counts : SoundCounts plant
  pub calendar : IfSome plant.calendar SoundCalendar
  pub small : plant.large ≡ false → SmallCounts plant
  pub names : SoundNames plant
  pub states : All (SoundState plant.periods) plant.states
  pub utilities : All (SoundUtility plant.periods) plant.utilities
  pub units : All (SoundUnit plant) plant.units
  pub tasks : All (SoundTask plant) plant.tasks
  pub runs : All (SoundRun plant) plant.runs
  pub gaps : All (SoundGap plant) plant.gaps
  pub receipts : All (SoundReceipt plant) plant.receipts
  pub deliveries : All (SoundDelivery plant) plant.deliveries
  pub outages : All (SoundOutage plant) plant.outages
