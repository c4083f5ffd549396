use Rattle.std.proofs.Common.{◌≡◌, true, false, ◌≤◌, refl, sym, ap, ◌∙◌, arith, Some}
use Rattle.std.proofs.lemmas.Bool.{false≢true}
use Rattle.toml.specs.Data.{Members, members_depth, members_have_valid_dates}
use Rattle.toml.specs.View.{table_view}
use Rattle.plant_make.proofs.Dates.{document_plain}
use Rattle.plant_make.proofs.Depths.{document_low}
use Rattle.plant_make.proofs.Marks.{unmarked}
use Rattle.plant_make.proofs.print.text_of.Goals as goal

pub returns-in-Ok-clause-parsed : goal.returns-in-Ok-clause-parsed
returns-in-Ok-clause-parsed c =
    let low : members_depth (table_view c.in_ok-table.table) ≤ 80 = rw c.in_ok-table.ensures (omega (arith, document_low c.args.plant.now)) in
    c.in-Ok.ensures.reads_back low ∙ ap (λ (ms : Members). Some ms) c.in_ok-table.ensures

pub returns-in-Ok-clause-unmarked : goal.returns-in-Ok-clause-unmarked
returns-in-Ok-clause-unmarked c = unmarked false (table_view c.in_ok-table.table) _ c.in-Ok.ensures.text

-- a document whose dates can be printed is printed
pub unreachable-requires : goal.unreachable-requires
unreachable-requires c =
    let plain : members_have_valid_dates (table_view c.in_ok-table.table) ≡ true = rw c.in_ok-table.ensures (document_plain c.args.plant.now c.requires.calendar) in
    let invalid = c.in-Err-DateInvalid.ensures.dates.0 (rw c.in-Err-DateInvalid.field-0-is refl) in
    false≢true (sym invalid ∙ plain)
