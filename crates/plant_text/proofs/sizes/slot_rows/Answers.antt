use Rattle.std.proofs.Common.{◌<◌, ◌≤◌, List, [], length, get_or, pos, subst, arith}
use Rattle.std.proofs.lemmas.List.{length-set}
use Rattle.stn_model.specs.declared.plant.Run.{Run}
use Rattle.plant_text.specs.Sizes.{IsRow}
use Rattle.plant_text.proofs.SlotRows.{row_more}
use Rattle.plant_text.proofs.sizes.slot_rows.Goals as goal

pub loop-number-preserved : goal.loop-number-preserved
loop-number-preserved c =
    let runs = c.as_slice-run-items.result.now in
    let here : c.loop-number.number < length runs = omega arith in
    let few : length runs ≤ 256 = rw c.as_slice-run-items.ensures c.requires.runs in
    record {
      all = omega (arith, length-set c.loop-number.rows c.loop-number.number c.slot_row.result);
      each = row_more c.args.plant.now runs c.loop-number.rows c.loop-number.number (record { task = 0; unit = 0; min = 0; max = 0; cost = pos 0 }) c.slot_row.result here (omega arith) c.loop-number.invariant.each c.slot_row.ensures;
    }

pub returns : goal.returns
returns c =
    let same = c.as_slice-run-items.ensures in
    let few : length c.args.plant.now.runs ≤ 256 = c.requires.runs in
    let rows = c.loop-number.rows in
    record {
      all = omega arith;
      each = λ i run lt.
          let here : i < length c.as_slice-run-items.result.now = rw same lt in
          subst (λ (xs : List Run). IsRow c.args.plant.now (get_or xs i run) (get_or rows i [])) same (c.loop-number.invariant.each i run (omega arith));
    }
