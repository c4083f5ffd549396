-- The loads of the rolled plant are those of the plant, less what the starts before draw.
use Rattle.std.proofs.Common.{◌≡◌, ℕ, ◌+◌, ◌-◌, ◌<◌, List, length, get_or, drop, ap, ◌∙◌, arith}
use Rattle.std.specs.Prelude.{slice_index}
use Rattle.std.proofs.lemmas.List.{get_or-drop, length-drop}
use Rattle.stn_model.specs.declared.plant.Plant.{Plant}
use Rattle.stn_model.specs.declared.plant.Utility.{Utility}
use Rattle.stn_model.specs.declared.start.Start.{Start}
use Rattle.stn_model.specs.Plant.{utility_at, no_utility, rate_in}
use Rattle.stn_model.specs.Load.{drawn, load}
use Rattle.stn_model.specs.Feasible.{LoadKept}
use Rattle.stn_model.specs.Sound.{Sound}
use Rattle.rolled_plant.specs.Kept.{joined, IsMendable}
use Rattle.rolled_plant.specs.RolledPlant.{rolled_plant, rolled_utility}
use Rattle.rolled_plant.proofs.Basics.{get_or-map_zero, get_or-map_from, length-map_from}
use Rattle.rolled_plant.proofs.Given.{sum_by-joined, sum_by-joined_none, drawn_later, drawn_none}

-- a utility of the rolled plant
pub utility_is : (plant : Plant) (before : List Start) (period utility : ℕ) → utility < length plant.utilities
    → utility_at (rolled_plant plant before period) utility ≡ rolled_utility plant before period utility (utility_at plant utility)
unfolding rolled_plant
utility_is plant before period utility there = get_or-map_zero (rolled_utility plant before period) plant.utilities utility no_utility no_utility there

-- there are as many
pub utilities_are : (plant : Plant) (before : List Start) (period : ℕ) → length (rolled_plant plant before period).utilities ≡ length plant.utilities
unfolding rolled_plant
utilities_are plant before period = length-map_from (rolled_utility plant before period) 0 plant.utilities

-- from the period on, the load is that of the starts before and that of the rolled plant
pub load_later : (plant : Plant) (before : List Start) (period : ℕ) (plan : List Start) (utility time : ℕ)
    → load plant (joined before period plan) utility (period + time) ≡ load plant before utility (period + time) + load (rolled_plant plant before period) plan utility time
unfolding load
load_later plant before period plan utility time =
    sum_by-joined (drawn plant utility (period + time)) (drawn (rolled_plant plant before period) utility time) before period plan (drawn_later plant before period utility time)

-- before it the load is that of the starts before alone
pub load_early : (plant : Plant) (before : List Start) (period : ℕ) (plan : List Start) (utility time : ℕ) → time < period
    → load plant (joined before period plan) utility time ≡ load plant before utility time
unfolding load
load_early plant before period plan utility time early =
    sum_by-joined_none (drawn plant utility time) before period plan (λ x. drawn_none plant period utility time x early)

-- what a unit of the utility costs in a period of the rolled plant
pub rate_later : (plant : Plant) (before : List Start) (period utility time : ℕ) → utility < length plant.utilities
    → rate_in (utility_at (rolled_plant plant before period) utility) time ≡ rate_in (utility_at plant utility) (period + time)
unfolding rate_in
rate_later plant before period utility time there =
    ap (λ (u : Utility). get_or u.rates time u.rate) (utility_is plant before period utility there)
    ∙ get_or-drop period (utility_at plant utility).rates time (utility_at plant utility).rate

-- the limit in a period of the rolled plant
pub load_limit : (plant : Plant) (before : List Start) (period utility time : ℕ) → Sound plant → utility < length plant.utilities → time < plant.periods - period
    → slice_index (utility_at (rolled_plant plant before period) utility).limits time ≡ slice_index (utility_at plant utility).limits (period + time) - load plant before utility (period + time)
load_limit plant before period utility time sound there within =
    let limits = (utility_at plant utility).limits in
    let long : length limits ≡ plant.periods = (sound.utilities utility no_utility there).limits in
    let inside : time < length (drop period limits) = omega (arith, length-drop period limits) in
    ap (λ (u : Utility). slice_index u.limits time) (utility_is plant before period utility there)
    ∙ get_or-map_from (λ (now limit : ℕ). limit - load plant before utility now) period (drop period limits) time 0 0 inside
    ∙ ap (λ (n : ℕ). n - load plant before utility (period + time)) (get_or-drop period limits time 0)

-- a load of the rolled plant is kept where the plant's is
pub load_here : (plant : Plant) (before : List Start) (period : ℕ) (plan : List Start) (utility time : ℕ) → Sound plant → utility < length plant.utilities → time < plant.periods - period
    → LoadKept plant (joined before period plan) utility (period + time) → LoadKept (rolled_plant plant before period) plan utility time
load_here plant before period plan utility time sound there within kept =
    let limit = load_limit plant before period utility time sound there within in
    let whole = load_later plant before period plan utility time in
    omega (arith, limit, whole, kept)

-- the plant's load is kept where that of the rolled plant is
pub load_there : (plant : Plant) (before : List Start) (period : ℕ) (plan : List Start) (utility time : ℕ) → Sound plant → IsMendable plant before period → utility < length plant.utilities → time < plant.periods - period
    → LoadKept (rolled_plant plant before period) plan utility time → LoadKept plant (joined before period plan) utility (period + time)
load_there plant before period plan utility time sound on there within kept =
    let limit = load_limit plant before period utility time sound there within in
    let whole = load_later plant before period plan utility time in
    let own = on.loads utility (period + time) there (omega arith) in
    omega (arith, limit, whole, kept, own)
