-- When a start fits the plant.
use Rattle.std.specs.Prelude.{ℕ, ◌&&◌, nat_le, Bool, false, IsTrue, Option, Some, None}
use Rattle.stn_model.specs.declared.plant.Plant.{Plant}
use Rattle.stn_model.specs.declared.plant.Run.{Run}
use Rattle.stn_model.specs.declared.start.Start.{Start}
use Rattle.stn_model.specs.Plant.{run_on, end_of, is_in_use}

-- there is a run, and a batch of this size lies between its least and its greatest
abbrev pub has_size : ℕ → Option Run → Bool
has_size quanta None = false
has_size quanta (Some run) = nat_le run.min quanta && nat_le quanta run.max

-- A start fits, as a test: its unit can run its task, with a batch of this size, within the horizon and
-- while the unit is in use.
unfoldable pub is_fit : Plant → Start → Bool
is_fit plant start =
    has_size start.quanta (run_on plant start.task start.unit)
    && nat_le (end_of plant start) plant.periods
    && is_in_use plant start.unit start.period (end_of plant start)

-- the start fits
abbrev pub Fits : Plant → Start → Type 0
Fits plant start = IsTrue (is_fit plant start)
