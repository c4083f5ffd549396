-- The slot is one of the plant's, and its place takes what it counts.
use Rattle.std.proofs.Common.{◌≡◌, ◌<◌, ℤ, pos, ◌-ℤ◌, length, get_or, ap, ◌∙◌, arith, to_z, of_z, w64}
use Rattle.std.proofs.lemmas.Int.{ints}
use Rattle.time_grid.specs.Slots.{slots}
use Rattle.time_grid.proofs.SlotList.{grid-are}
use Rattle.row_kit.proofs.Gathered.{filled_more}
use Rattle.balance_rows.specs.StockRows.{taken_in, given_in, high_parts}
use Rattle.balance_rows.proofs.rows.fill_high.Goals as goal

pub net_taken-net-requires-clause-run : goal.net_taken-net-requires-clause-run
net_taken-net-requires-clause-run c =
    (grid-are c.args.plant.now c.args.grid.now c.loop-slot.slot c.run_period.result c.requires.grid (omega arith) c.run_period.ensures).run

pub loop-slot-preserved : goal.loop-slot-preserved
unfolding high_parts
loop-slot-preserved c =
    let plant = c.args.plant.now in
    let within : c.loop-slot.slot < length (slots plant) = omega (arith, ap length c.requires.grid) in
    let within2 : c.loop-slot.slot < length c.loop-slot.parts = omega (arith, ap length c.requires.grid) in
    let slot : c.run_period.result ≡ get_or (slots plant) c.loop-slot.slot c.run_period.result = c.run_period.ensures ∙ ap (λ grid. get_or grid c.loop-slot.slot c.run_period.result) c.requires.grid in
    let net : to_z w64 (of_z w64 (pos 0 -ℤ to_z w64 (of_z w64 c.net_taken-net.result))) ≡ pos (given_in plant c.args.state c.args.time c.run_period.result) -ℤ pos (taken_in plant c.args.state c.args.time c.run_period.result) = omega (arith, ints, c.net_taken-net.ensures.value, c.net_taken-net.ensures.small) in
    let pair : ℤ → ℤ × ℤ = λ z. (pos 0, z) in
    filled_more (high_parts plant c.args.state c.args.time) (slots plant) c.loop-slot.parts c.loop-slot.slot c.run_period.result (pair (to_z w64 (of_z w64 (pos 0 -ℤ to_z w64 (of_z w64 c.net_taken-net.result))))) within within2 c.loop-slot.invariant
    (ap pair net ∙ ap (high_parts plant c.args.state c.args.time) slot)
