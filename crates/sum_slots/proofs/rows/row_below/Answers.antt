-- Terms that are not turned round are the terms.
use Rattle.std.proofs.Common.{List, [], ◌∷◌, ◌++◌, ap, ap₂, ◌∙◌, arith, ℤ}
use Rattle.std.proofs.lemmas.Int.{ints}
use Rattle.std.proofs.lemmas.List.{map-id}
use Rattle.row_kit.specs.declared.row.Entry.{Entry}
use Rattle.row_kit.specs.declared.row.Row.{Row}
use Rattle.sum_slots.specs.Larger.{slot_entry}
use Rattle.sum_slots.proofs.rows.row_below.Goals as goal

abbrev row_of : List Entry → ℤ → Row
row_of entries limit = record { entries = entries; limit = limit }

pub returns : goal.returns
returns c =
    ap₂ row_of
    (c.in_ok-entries.ensures
    ∙ ap₂ (λ es e. es ++ e ∷ []) (map-id c.as_slice.result.now ∙ c.as_slice.ensures)
    (c.slot_entry.ensures ∙ ap (slot_entry c.args.slot) (omega (arith, ints, c.from-width.ensures, c.requires.width))))
    (omega (arith, ints, c.from.ensures, c.from-2.ensures, c.from-width.ensures, c.requires.width, c.requires.offset))
