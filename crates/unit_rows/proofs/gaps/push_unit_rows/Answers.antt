-- One more slot, and all.
use Rattle.std.proofs.Common.{◌≡◌, ◌++◌, length, take, ap, ◌∙◌, arith}
use Rattle.std.proofs.lemmas.List.{take_all}
use Rattle.unit_rows.specs.Gaps.{rows_from, unit_gap_rows}
use Rattle.time_grid.proofs.SlotList.{grid-are}
use Rattle.unit_rows.proofs.Growing.{begins-again, on_err}
use Rattle.unit_rows.proofs.gaps.push_unit_rows.Goals as goal

pub is_on-requires : goal.is_on-requires
is_on-requires c = (grid-are c.args.plant.now c.args.grid.now c.loop-place.place c.run_period-slot.result c.requires.grid (omega arith) c.run_period-slot.ensures).run

pub push_rows_after-requires-clause-slot : goal.push_rows_after-requires-clause-slot
push_rows_after-requires-clause-slot c = grid-are c.args.plant.now c.args.grid.now c.loop-place.place c.run_period-slot.result c.requires.grid (omega arith) c.run_period-slot.ensures

pub returns-in_err-push_rows_after-clause-err : goal.returns-in_err-push_rows_after-clause-err
returns-in_err-push_rows_after-clause-err c =
    on_err c.from_residual.result (take (length c.args.into.now.items) c.push_rows_after.new.into.items ≡ c.args.into.now.items)
    (begins-again c.args.into.now.items _ c.loop-place.into.items c.push_rows_after.new.into.items c.loop-place.invariant c.in_err-push_rows_after.ensures.err)

pub returns-clause-ok : goal.returns-clause-ok
unfolding unit_gap_rows
returns-clause-ok c =
    c.loop-place.invariant
    ∙ ap (λ grid. c.args.into.now.items ++ rows_from c.args.plant.now c.args.unit grid) (take_all c.loop-place.place c.args.grid.now (omega arith) ∙ c.requires.grid)
