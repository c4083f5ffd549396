-- One more unit, and all.
use Rattle.std.proofs.Common.{◌≡◌, ◌+◌, ◌++◌, length, take, ap, ◌∙◌, arith}
use Rattle.std.specs.List.{flat_map, range_with_len}
use Rattle.unit_rows.specs.Firsts.{unit_first_rows, first_rows}
use Rattle.unit_rows.proofs.Growing.{begins-again, flat_map-range_next, added_next, on_err}
use Rattle.unit_rows.proofs.firsts.push_first_rows.Goals as goal

pub returns-in_err-push_unit_rows-clause-err : goal.returns-in_err-push_unit_rows-clause-err
returns-in_err-push_unit_rows-clause-err c =
    on_err c.from_residual-in_err-push_unit_rows.result (take (length c.args.into.now.items) c.push_unit_rows.new.into.items ≡ c.args.into.now.items)
    (begins-again c.args.into.now.items _ c.loop-unit.into.items c.push_unit_rows.new.into.items c.loop-unit.invariant c.in_err-push_unit_rows.ensures.err)

pub loop-unit-preserved : goal.loop-unit-preserved
loop-unit-preserved c =
    let rows = unit_first_rows c.args.plant.now in
    added_next c.args.into.now.items (flat_map rows (range_with_len 0 c.loop-unit.unit)) (rows c.loop-unit.unit) c.push_unit_rows.new.into.items c.loop-unit.into.items
    (flat_map rows (range_with_len 0 (c.loop-unit.unit + 1)))
    c.loop-unit.invariant c.in_ok-push_unit_rows.ensures.ok (flat_map-range_next rows c.loop-unit.unit)

pub returns-clause-ok : goal.returns-clause-ok
unfolding first_rows
returns-clause-ok c =
    let e : c.loop-unit.unit ≡ length c.args.plant.now.units = omega arith in
    c.loop-unit.invariant ∙ ap (λ n. c.args.into.now.items ++ flat_map (unit_first_rows c.args.plant.now) (range_with_len 0 n)) e
