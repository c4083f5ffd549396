-- A plant with other limits of one state.
use Rattle.std.specs.Prelude.{ℕ, min, if◌then◌else◌, List, map, ℤ, pos, ◌+ℤ◌, ◌*ℤ◌, int_lt, unsigned_abs, slice_index_or, slice_set}
use Rattle.stn_model.specs.declared.plant.Plant.{Plant}
use Rattle.stn_model.specs.declared.plant.State.{State}
use Rattle.stn_model.specs.Plant.{no_state}

-- a limit that is raised by an amount: 0 where it falls below 0, and 1,000,000,000 where it rises above that
abbrev pub raised_limit : ℤ → ℕ → ℕ
raised_limit amount limit =
    if int_lt (pos limit +ℤ amount) (pos 0) then 0 else min (unsigned_abs (pos limit +ℤ amount)) 1000000000

-- a state with other limits
abbrev pub with_limits : State → List ℕ → State
with_limits state limits = record state { limits = limits }

-- states of which the one of this number has each limit raised
unfoldable pub raised_states : ℕ → ℤ → List State → List State
raised_states number amount states =
    let state = slice_index_or states number no_state
    in slice_set states number (with_limits state (map (raised_limit amount) state.limits))

-- a plant with other states
abbrev pub with_states : Plant → List State → Plant
with_states plant states = record plant { states = states }

-- the plant whose limits of this state are each raised by a multiple of a step
abbrev pub raised : Plant → ℕ → ℤ → ℕ → Plant
raised plant number step times = with_states plant (raised_states number (pos times *ℤ step) plant.states)
