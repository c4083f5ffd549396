-- The slot is one of the plant's, and its place takes what it counts.
use Rattle.std.proofs.Common.{◌≡◌, ◌<◌, ℤ, pos, length, get_or, ap, ap₂, ◌∙◌, arith, to_z, w64}
use Rattle.std.proofs.lemmas.Int.{ints}
use Rattle.time_grid.specs.Slots.{slots}
use Rattle.time_grid.proofs.SlotList.{grid-are}
use Rattle.row_kit.proofs.Gathered.{filled_more}
use Rattle.utility_rows.specs.LoadRows.{fixed_drawn, each_drawn, load_parts}
use Rattle.utility_rows.proofs.rows.fill.Goals as goal

pub fixed_drawn-fixed-requires-clause-run : goal.fixed_drawn-fixed-requires-clause-run
fixed_drawn-fixed-requires-clause-run c =
    (grid-are c.args.plant.now c.args.grid.now c.loop-slot.slot c.run_period-at.result c.requires.grid (omega arith) c.run_period-at.ensures).run

pub each_drawn-each-requires-clause-run : goal.each_drawn-each-requires-clause-run
each_drawn-each-requires-clause-run c =
    (grid-are c.args.plant.now c.args.grid.now c.loop-slot.slot c.run_period-at.result c.requires.grid (omega arith) c.run_period-at.ensures).run

pub loop-slot-preserved : goal.loop-slot-preserved
unfolding load_parts
loop-slot-preserved c =
    let plant = c.args.plant.now in
    let at = c.run_period-at.result in
    let within : c.loop-slot.slot < length (slots plant) = omega (arith, ap length c.requires.grid) in
    let within2 : c.loop-slot.slot < length c.loop-slot.parts = omega (arith, ap length c.requires.grid) in
    let slot : at ≡ get_or (slots plant) c.loop-slot.slot at = c.run_period-at.ensures ∙ ap (λ grid. get_or grid c.loop-slot.slot at) c.requires.grid in
    let fixed : to_z w64 c.fixed_drawn-fixed.result ≡ pos (fixed_drawn plant c.args.utility c.args.period at) = omega (arith, ints, c.fixed_drawn-fixed.ensures.value, c.fixed_drawn-fixed.ensures.small) in
    let each : to_z w64 c.each_drawn-each.result ≡ pos (each_drawn plant c.args.utility c.args.period at) = omega (arith, ints, c.each_drawn-each.ensures.value, c.each_drawn-each.ensures.small) in
    let pair : ℤ → ℤ → ℤ × ℤ = λ a b. (a, b) in
    filled_more (load_parts plant c.args.utility c.args.period) (slots plant) c.loop-slot.parts c.loop-slot.slot at (pair (to_z w64 c.fixed_drawn-fixed.result) (to_z w64 c.each_drawn-each.result)) within within2 c.loop-slot.invariant
    (ap₂ pair fixed each ∙ ap (load_parts plant c.args.utility c.args.period) slot)
