-- The row of the parts.
use Rattle.std.proofs.Common.{◌≤◌, List, length, pos, ap, ◌∙◌, arith}
use Rattle.row_kit.specs.declared.row.Entry.{Entry}
use Rattle.row_kit.specs.Row.{entries_from}
use Rattle.unit_rows.specs.Firsts.{first_part, first_row}
use Rattle.unit_rows.proofs.Growing.{few_parts}
use Rattle.unit_rows.proofs.firsts.first_row.Goals as goal

pub entries_of-requires : goal.entries_of-requires
entries_of-requires c =
    let few : length c.in_ok-parts.parts.items ≤ 4096 = few_parts c.args.plant.now (first_part c.args.plant.now c.args.slot) c.in_ok-parts.parts.items c.requires.sound c.in_ok-parts.ensures in
    omega (arith, few, ap length c.deref.ensures.value)

pub returns : goal.returns
unfolding first_row
returns c = ap (λ (es : List Entry). record { entries = es; limit = pos 0 }) (c.in_ok-entries.ensures ∙ ap (entries_from 0) (c.deref.ensures.value ∙ c.in_ok-parts.ensures))
