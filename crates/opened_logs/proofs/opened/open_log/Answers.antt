-- The plant's own program, judged over the domains of its slots.
use Rattle.std.proofs.Common.{List, ◌∙◌, sym, subst}
use Rattle.std.specs.Prelude.{IfSome}
use Rattle.stn_edge.specs.Files.{file_of}
use Rattle.row_kit.specs.declared.domain.Domain.{Domain}
use Rattle.sum_slots.specs.Shown.{AreRanges}
use Rattle.valid_log.proofs.PlantRanges.{plant-ranges}
use Rattle.valid_log.proofs.Saying.{whole-is_part}
use Rattle.opened_logs.specs.Opened.{IsOpened, IsOpenedOver}
use Rattle.log_nodes.proofs.Readings.{ok_some_then}
use Rattle.opened_logs.proofs.Opening.{opened-plant}
use Rattle.opened_logs.proofs.opened.open_log.Goals as goal

pub open_over-requires-clause-part : goal.open_over-requires-clause-part
open_over-requires-clause-part g c = whole-is_part c.args.plant.now c.in_ok-program.program c.in_ok-program.ensures.made c.in_ok-program.ensures.means

pub open_over-requires-clause-ranges : goal.open_over-requires-clause-ranges
open_over-requires-clause-ranges g c =
    subst (λ (ds : List Domain). AreRanges c.in_ok-program.program ds) (sym (c.as_slice.ensures ∙ c.in_ok-judged.ensures)) (plant-ranges c.args.plant.now c.in_ok-program.program c.in_ok-program.ensures.made)

pub returns-clause-opened : goal.returns-clause-opened
returns-clause-opened g c =
    let plant = c.args.plant.now in
    let program = c.in_ok-program.program in
    let told = g.F.Shelf.files c.args.files.now in
    let name = c.args.name.now in
    let judged = c.as_slice.result.now in
    ok_some_then c.open_over.result (λ o. IfSome told (λ m. IsOpenedOver plant program judged (file_of m name) o)) (λ o. IfSome told (λ m. IsOpened plant (file_of m name) o))
    (λ o. opened-plant plant program judged told name o c.in_ok-program.ensures.made c.in_ok-program.ensures.means (c.as_slice.ensures ∙ c.in_ok-judged.ensures)) c.open_over.ensures.opened
