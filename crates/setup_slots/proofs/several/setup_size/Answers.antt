-- A setup has few slots and rows.
use Rattle.std.proofs.Common.{ℕ, List, length, ap, ap₂, ◌∙◌, arith}
use Rattle.setup_slots.specs.declared.setup.SetupSlot.{SetupSlot}
use Rattle.setup_slots.specs.Rows.{rows_among}
use Rattle.setup_slots.proofs.Counts.{rows-most, slots-most}
use Rattle.setup_slots.proofs.several.setup_size.Goals as goal

pub overflow_cast-slot_count : goal.overflow_cast-slot_count
overflow_cast-slot_count c = omega (arith, c.len-slot_count.ensures, ap length c.in_ok-setups.ensures, slots-most c.args.plant.now c.args.unit c.requires.sound)

pub overflow_cast-row_count : goal.overflow_cast-row_count
overflow_cast-row_count c =
    let is = c.in_ok-rows.ensures ∙ ap₂ (λ (ts : List ℕ) (ss : List SetupSlot). rows_among ts ss c.args.plant.now.periods) (c.deref-4.ensures.value ∙ c.in_ok-tasks.ensures) (c.deref-5.ensures.value ∙ c.in_ok-setups.ensures) in
    omega (arith, c.len-row_count.ensures, ap length is, rows-most c.args.plant.now c.args.unit c.requires.sound)
