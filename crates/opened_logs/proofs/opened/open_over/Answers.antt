-- No head, or one behind whose sums this stands.
use Rattle.std.proofs.Common.{◌≡◌, ◌∙◌, refl, ap, sym, subst}
use Rattle.std.specs.Prelude.{Option, IfSome}
use Rattle.stn_edge.specs.Files.{FileMap, file_of}
use Rattle.log_lines.specs.declared.grammar.Limits.{Limits}
use Rattle.log_parts.specs.declared.heads.LogHead.{LogHead}
use Rattle.log_parts.specs.Heads.{lines_on}
use Rattle.log_parts.specs.laws.Checked.{no_head}
use Rattle.sum_lines.specs.Front.{IsFront}
use Rattle.opened_logs.specs.Opened.{IsOpenedHead, IsOpenedOver}
use Rattle.log_nodes.proofs.Readings.{ok_some_then}
use Rattle.opened_logs.proofs.Opening.{opened-headed, opened-plain}
use Rattle.opened_logs.proofs.opened.open_over.Goals as goal

pub returns-in-Plain-clause-opened : goal.returns-in-Plain-clause-opened
returns-in-Plain-clause-opened g c =
    let told = g.F.Shelf.files c.args.files.now in
    let stands = subst (λ (l : Limits). IfSome told (λ m. IsFront l (file_of m c.args.name.now) c.in_ok-read_head.field-0)) c.plant_limits-limits.ensures c.in_ok-read_head.ensures.front in
    opened-plain c.args.plant.now c.args.program c.args.judged.now told c.args.name.now c.in_ok-read_head.field-0 c.no_head.result c.in-Plain.is (c.no_head.ensures ∙ ap no_head c.plant_limits-limits.ensures) stands

pub returns-in-Plain-clause-lines : goal.returns-in-Plain-clause-lines
returns-in-Plain-clause-lines g c = subst (λ (own : LogHead). own.lines ≡ lines_on own.declared) (sym c.no_head.ensures) refl

pub returns-in-Headed-clause-opened : goal.returns-in-Headed-clause-opened
returns-in-Headed-clause-opened g c =
    let told = g.F.Shelf.files c.args.files.now in
    let name = c.args.name.now in
    let plant = c.args.plant.now in
    let program = c.args.program in
    let judged = c.args.judged.now in
    let head = c.in-Headed.head in
    let stands = subst (λ (l : Limits). IfSome told (λ m. IsFront l (file_of m name) c.in_ok-read_head.field-0)) c.plant_limits-limits.ensures c.in_ok-read_head.ensures.front in
    ok_some_then c.open_headed.result (λ o. IfSome (g.F.Shelf.files c.read_head.new.files) (λ m. IsOpenedHead plant program judged (file_of m name) head o)) (λ o. IfSome told (λ m. IsOpenedOver plant program judged (file_of m name) o))
    (λ o own. opened-headed plant program judged told name c.in_ok-read_head.field-0 head o c.in-Headed.is stands (subst (λ (files : Option FileMap). IfSome files (λ m. IsOpenedHead plant program judged (file_of m name) head o)) c.in_ok-read_head.ensures.frame.same own)) c.open_headed.ensures.opened
