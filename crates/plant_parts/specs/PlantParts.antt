-- A plant cut into parts, by where batches start in its first slots.
use Rattle.std.specs.Prelude.{◌≡◌, ◌↔◌, ℕ, ◌-◌, ◌/◌, ◌%◌, ◌^◌, ◌<◌, ◌==◌, nat_lt, true, false, if◌then◌else◌, List, map, length, slice_index_or}
use Rattle.std.specs.List.{range_with_len}
use Rattle.stn_model.specs.declared.plant.Plant.{Plant}
use Rattle.stn_model.specs.declared.start.Start.{Start}
use Rattle.stn_model.specs.Feasible.{Feasible}
use Rattle.time_grid.specs.Slots.{slots}
use Rattle.time_grid.specs.PlanPoint.{quanta_in}
use Rattle.row_kit.specs.declared.domain.Domain.{Domain}
use Rattle.row_kit.specs.declared.program.Program.{Program}
use Rattle.row_kit.specs.Domain.{domain_at}
use Rattle.row_set.specs.Parts.{IsPartOf}
use Rattle.row_set.specs.PlantProgram.{slot_domain}

-- the binary digit of a part's number that stands for a slot: of so many levels the first slot's has the greatest weight
abbrev pub digit : ℕ → ℕ → ℕ → ℕ
digit levels part place = part / 2 ^ (levels - 1 - place) % 2

-- the domain of a slot in which no batch starts: 0 alone
abbrev pub kept_off : Domain
kept_off = record { zero = true; lo = 1; hi = 0 }

-- the domain of a slot in which a batch starts: its own values above 0
abbrev pub kept_on : Domain → Domain
kept_on own = record { zero = false; lo = own.lo; hi = own.hi }

-- what a slot may have in a part: where the part has a digit for it, no batch for 0 and a batch for 1; else what it may have anyhow
abbrev pub cut_domain : ℕ → ℕ → ℕ → Domain → Domain
cut_domain levels part place own =
    if nat_lt place levels then (if digit levels part place == 0 then kept_off else kept_on own) else own

-- the domains of slots, each as the part has it
unfoldable pub cut_root : ℕ → ℕ → List Domain → List Domain
cut_root levels part whole = map (λ place. cut_domain levels part place (domain_at whole place)) (range_with_len 0 (length whole))

-- the root of a part of a plant
abbrev pub part_root : Plant → ℕ → ℕ → List Domain
part_root plant levels part = cut_root levels part (map (slot_domain plant) (slots plant))

-- the program is that of a part of the plant
pub record IsPartProgram (plant : Plant) (levels part : ℕ) (program : Program) : Type 0 where
  pub is_part : IsPartOf plant program
  pub root : program.root ≡ part_root plant levels part

-- the plan starts a batch in the slot of this place
abbrev pub StartsIn : Plant → List Start → ℕ → Type 0
StartsIn plant plan place = 0 < quanta_in plant plan (slice_index_or (slots plant) place (0, 0))

-- a plan is of a part where it is feasible, and starts a batch in each of the first slots exactly where the part's digit is 1
pub record IsOfPart (plant : Plant) (levels part : ℕ) (plan : List Start) : Type 0 where
  pub feasible : Feasible plant plan
  pub digits : (place : ℕ) → place < levels → StartsIn plant plan place ↔ digit levels part place ≡ 1

-- some part has the plan
abbrev pub IsOfSomePart : Plant → ℕ → List Start → Type 0
IsOfSomePart plant levels plan = (part : ℕ) × ((part < 2 ^ levels) × IsOfPart plant levels part plan)
