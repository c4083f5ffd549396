-- The plants that are made of a seed: which numbers are taken, and what each one is taken for.
use Rattle.std.specs.Prelude.{ℕ, zero, suc, pos, ◌+◌, ◌*◌, ◌/◌, ◌%◌, ◌^◌, nat_le, false, None, if◌then◌else◌, List, [], ◌∷◌, ◌++◌, codes, replicate}
use Rattle.stn_model.specs.declared.plant.Plant.{Plant}
use Rattle.stn_model.specs.declared.plant.State.{State}
use Rattle.stn_model.specs.declared.plant.Utility.{Utility}
use Rattle.stn_model.specs.declared.plant.StnUnit.{StnUnit}
use Rattle.stn_model.specs.declared.plant.Task.{Task}
use Rattle.stn_model.specs.declared.plant.Run.{Run}
use Rattle.stn_model.specs.declared.plant.Gap.{Gap}

-- a number of 64 bits, and the one after it
unfoldable pub next : ℕ → ℕ
next x = (x * 6364136223846793005 + 1442695040888963407) % 2 ^ 64

-- the number of 64 bits after so many steps from the seed
unfoldable pub stepped : ℕ → ℕ → ℕ
stepped seed zero = seed
stepped seed (suc steps) = next (stepped seed steps)

-- the number below n that is taken at a place, where the places count from 0: each taking goes one step on
unfoldable pub number_at : ℕ → ℕ → ℕ → ℕ
number_at seed place n = (stepped seed (suc place) / 2 ^ 33) % n

-- the number below n that a chain takes; chains count from 0, and each takes 15 numbers
abbrev pub of_chain : ℕ → ℕ → ℕ → ℕ → ℕ
of_chain seed chain place n = number_at seed (15 * chain + place) n

-- a letter, and a digit that counts from 1
abbrev pub letter_name : ℕ → ℕ → List ℕ
letter_name letter item = letter ∷ (49 + item) ∷ []

-- what each of some items adds, one item after the other
abbrev pub chained : {X : Type 0} → (ℕ → List X) → ℕ → List X
chained add zero = []
chained add (suc items) = chained add items ++ add items

-- the horizon
abbrev pub made_periods : ℕ
made_periods = 12

-- the states of a chain: a feed (F), an intermediate (I) and a product (P)
unfoldable pub states_of : ℕ → ℕ → List State
states_of seed chain =
    record { name = letter_name 70 chain; label = []; initial = 100 + 10 * of_chain seed chain 0 11; limits = []; price = pos (1 + of_chain seed chain 1 3); holding = pos 0 }
    ∷ record { name = letter_name 73 chain; label = []; initial = 0; limits = replicate 13 (20 + 10 * of_chain seed chain 2 5); price = pos 0; holding = pos (of_chain seed chain 3 2) }
    ∷ record { name = letter_name 80 chain; label = []; initial = 0; limits = []; price = pos (10 + of_chain seed chain 4 11); holding = pos 0 } ∷ []

-- the task M of a chain makes the intermediate of the feed, and draws steam in each of its periods
abbrev pub first_task : ℕ → ℕ → Task
first_task seed chain =
    let long = 1 + of_chain seed chain 5 2 in
    record {
      name = letter_name 77 chain;
      label = [];
      colour = [];
      quantum = 5;
      inputs = record { state = 3 * chain; amount = 5 } ∷ [];
      outputs = record { state = 3 * chain + 1; amount = 5; delay = long } ∷ [];
      draws = record { utility = 0; fixed = replicate long 1; each = replicate long 1 } ∷ [];
    }

-- the task K makes the product of the intermediate, and gives a fifth of it back
abbrev pub second_task : ℕ → ℕ → Task
second_task seed chain = record {
  name = letter_name 75 chain;
  label = [];
  colour = [];
  quantum = 5;
  inputs = record { state = 3 * chain + 1; amount = 5 } ∷ [];
  outputs =
      record { state = 3 * chain + 2; amount = 4; delay = 1 + of_chain seed chain 6 2 }
      ∷ record { state = 3 * chain + 1; amount = 1; delay = 1 } ∷ [];
  draws = [];
}

-- the tasks of a chain
unfoldable pub tasks_of : ℕ → ℕ → List Task
tasks_of seed chain = first_task seed chain ∷ second_task seed chain ∷ []

-- the runs of a chain, one of each of its tasks
unfoldable pub runs_of : ℕ → ℕ → List Run
runs_of seed chain =
    record { task = 2 * chain; unit = of_chain seed chain 7 3; min = 1 + of_chain seed chain 8 2; max = 4 + of_chain seed chain 9 5; cost = pos (of_chain seed chain 10 4) }
    ∷ record { task = 2 * chain + 1; unit = of_chain seed chain 11 3; min = 1 + of_chain seed chain 12 2; max = 4 + of_chain seed chain 13 5; cost = pos (of_chain seed chain 14 4) } ∷ []

-- a unit
unfoldable pub units_of : ℕ → List StnUnit
units_of unit = record { name = letter_name 85 unit; label = []; last = None } ∷ []

-- the gaps on a unit: from the first chain's tasks to the second chain's
unfoldable pub gaps_of : ℕ → List Gap
gaps_of unit =
    record { unit = unit; from = 0; to = 2; periods = 1; cost = 0 }
    ∷ record { unit = unit; from = 1; to = 3; periods = 1; cost = 0 } ∷ []

-- the steam, which takes the number after those of all chains
unfoldable pub steam_of : ℕ → ℕ → Utility
steam_of seed chains = record { name = codes "steam"; label = []; limits = replicate made_periods (12 + number_at seed (15 * chains) 9); rate = pos 1; rates = [] }

-- a plant that has nothing but its horizon
abbrev pub bare_plant : Plant
bare_plant = record { large = false; periods = made_periods; calendar = None; states = []; utilities = []; units = []; tasks = []; runs = []; gaps = []; receipts = []; deliveries = []; outages = [] }

-- the plant of a seed with so many chains
unfoldable pub plant_made : ℕ → ℕ → Plant
plant_made seed chains = record {
  large = false;
  periods = made_periods;
  calendar = None;
  states = chained (states_of seed) chains;
  utilities = steam_of seed chains ∷ [];
  units = chained units_of 3;
  tasks = chained (tasks_of seed) chains;
  runs = chained (runs_of seed) chains;
  gaps = if nat_le 2 chains then chained gaps_of 3 else [];
  receipts = [];
  deliveries = [];
  outages = [];
}
