-- Plans that keep the first starts of another.
use Rattle.std.specs.Prelude.{◌≡◌, ℕ, ◌==◌, nat_lt, Bool, true, false, if◌then◌else◌, List, filter, map, IsPermutation}
use Rattle.stn_model.specs.declared.plant.Plant.{Plant}
use Rattle.stn_model.specs.declared.start.Start.{Start}
use Rattle.stn_model.specs.Feasible.{Feasible}
use Rattle.time_grid.specs.Slots.{slots}
use Rattle.time_grid.specs.PlanPoint.{quanta_in, plan_point}
use Rattle.row_kit.specs.declared.domain.Domain.{Domain}
use Rattle.row_set.specs.PlantProgram.{slot_domain}

-- the start is in a period before this one
abbrev pub is_before : ℕ → Start → Bool
is_before period start = nat_lt start.period period

-- the starts of a plan before a period, in order: those that are kept of it
abbrev pub kept_starts : ℕ → List Start → List Start
kept_starts period plan = filter (is_before period) plan

-- a plan agrees with the kept starts: its starts before the period are those that are kept, each as often
abbrev pub Agrees : ℕ → List Start → List Start → Type 0
Agrees period kept plan = IsPermutation (kept_starts period plan) kept

-- the domain that holds one value
abbrev pub only : ℕ → Domain
only value = if value == 0 then record { zero = true; lo = 1; hi = 0 } else record { zero = false; lo = value; hi = value }

-- what a slot may have: before the period the quanta that are kept there alone, and else what it may have in the plant
abbrev pub frozen_domain : Plant → ℕ → List Start → ℕ × ℕ → Domain
frozen_domain plant period kept slot = if nat_lt slot.1 period then only (quanta_in plant kept slot) else slot_domain plant slot

-- the root where the starts before a period are kept
unfoldable pub frozen_root : Plant → ℕ → List Start → List Domain
frozen_root plant period kept = map (frozen_domain plant period kept) (slots plant)

-- a point is that of a feasible plan that agrees with the kept starts
abbrev pub IsAgreedPoint : Plant → ℕ → List Start → List ℕ → Type 0
IsAgreedPoint plant period kept point = (plan : List Start) × (Feasible plant plan × Agrees period kept plan × (plan_point plant plan ≡ point))
