-- What the running batches draw of a utility in a period.
use Rattle.std.specs.Prelude.{ℕ, ◌+◌, ◌-◌, ◌*◌, ◌==◌, ◌&&◌, nat_le, nat_lt, if◌then◌else◌, List, sum_by, slice_index}
use Rattle.stn_model.specs.declared.plant.Plant.{Plant}
use Rattle.stn_model.specs.declared.plant.Draw.{Draw}
use Rattle.stn_model.specs.declared.start.Start.{Start}
use Rattle.stn_model.specs.Plant.{task_at, end_of}

-- what a draw takes of the utility in the batch's period k: a fixed part, and a part for each quantum
abbrev pub drawn_in : ℕ → ℕ → ℕ → Draw → ℕ
drawn_in utility quanta k draw = if draw.utility == utility then slice_index draw.fixed k + quanta * slice_index draw.each k else 0

-- what a batch draws of the utility in a period: something only while it runs
unfoldable pub drawn : Plant → ℕ → ℕ → Start → ℕ
drawn plant utility period start =
    if nat_le start.period period && nat_lt period (end_of plant start)
    then sum_by (drawn_in utility start.quanta (period - start.period)) (task_at plant start.task).draws
    else 0

-- the load of the utility in a period: what all batches draw
unfoldable pub load : Plant → List Start → ℕ → ℕ → ℕ
load plant plan utility period = sum_by (drawn plant utility period) plan
