-- The image of a plan in a unit's setup.
use Rattle.std.specs.Prelude.{ℕ, ◌+◌, ◌==◌, ◌&&◌, Bool, false, if◌then◌else◌, List, [], ◌∷◌, filter, map, count_by, sum_by}
use Rattle.std.specs.List.{flat_map, range_with_len}
use Rattle.stn_model.specs.declared.plant.Plant.{Plant}
use Rattle.stn_model.specs.declared.start.Start.{Start}
use Rattle.stn_model.specs.Profit.{changeover, first_change}
use Rattle.setup_slots.specs.declared.setup.SetupSlot.{SetupSlot}
use Rattle.setup_slots.specs.declared.setup.SetupSlot.TheVariants.{First, Change}
use Rattle.setup_slots.specs.Slots.{setup_slots}

-- the start is one on the unit, in the period
abbrev pub begins : ℕ → ℕ → Start → Bool
begins unit period start = start.unit == unit && start.period == period

-- the starts of a plan on the unit in the first periods, by period
unfoldable pub starts_before : ℕ → List Start → ℕ → List Start
starts_before unit plan periods = flat_map (λ period. filter (begins unit period) plan) (range_with_len 0 periods)

-- the changes from one start along those that follow: one where the next start is of another task
abbrev pub changes_along : Start → List Start → List SetupSlot
changes_along start [] = []
changes_along start (next ∷ rest) =
    if start.task == next.task then changes_along next rest else Change start.task next.task next.period ∷ changes_along next rest

-- the setup of starts one after another: the first task, and then the changes
abbrev pub setup_of : List Start → List SetupSlot
setup_of [] = []
setup_of (start ∷ rest) = First start.task ∷ changes_along start rest

-- two slots of setups are the same
abbrev pub is_same : SetupSlot → SetupSlot → Bool
is_same (First task) (First other) = task == other
is_same (First task) (Change from to period) = false
is_same (Change from to period) (First task) = false
is_same (Change from to period) (Change other_from other_to other_period) = from == other_from && to == other_to && period == other_period

-- the setup of a plan on the unit
abbrev pub plan_setup : Plant → ℕ → List Start → List SetupSlot
plan_setup plant unit plan = setup_of (starts_before unit plan plant.periods)

-- the image of a plan in a unit's setup: how often the plan's setup has each slot
unfoldable pub setup_image : Plant → ℕ → List Start → List ℕ
setup_image plant unit plan = map (λ slot. count_by (is_same slot) (plan_setup plant unit plan)) (setup_slots plant unit)

-- what the changeovers of a start cost: those from it, and where it comes first on its unit the one to it
abbrev pub start_changes : Plant → List Start → Start → ℕ
start_changes plant plan start = sum_by (changeover plant plan start) plan + first_change plant plan start

-- what a plan's changeovers on the unit cost
unfoldable pub unit_costs : Plant → ℕ → List Start → ℕ
unit_costs plant unit plan = sum_by (λ start. if start.unit == unit then start_changes plant plan start else 0) plan
