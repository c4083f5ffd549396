-- No head, one with what stands behind it, or a bad one.
use Rattle.std.proofs.Common.{IfSome, ◌∙◌, ap, sym, subst}
use Rattle.stn_edge.specs.Files.{file_of}
use Rattle.row_relax.specs.Choices.{plain}
use Rattle.log_lines.specs.declared.grammar.Limits.{Limits}
use Rattle.sum_lines.specs.Front.{IsFront}
use Rattle.valid_log.specs.Verdict.{limits_of}
use Rattle.valid_log.proofs.LogFronts.{limits_same}
use Rattle.log_parts.specs.declared.heads.LogFront.TheVariants as head
use Rattle.log_parts.specs.declared.heads.LogHead.{LogHead}
use Rattle.log_parts.specs.laws.Checked.{IsFrontKept, no_head}
use Rattle.log_parts.proofs.Copies.{ok_if}
use Rattle.log_parts.proofs.Versions.{none_declared}
use Rattle.opened_logs.proofs.Fronts.{bad_read, headed_read, none_read}
use Rattle.joined_parts.proofs.heads.read_front.Goals as goal

pub returns-in-Plain-clause-front : goal.returns-in-Plain-clause-front
returns-in-Plain-clause-front g c =
    let program = c.args.program.now in
    let files = g.F.Shelf.files c.args.files.now in
    let same = c.limits_with-limits.ensures ∙ sym (limits_same program c.args.depth) in
    let stands = subst (λ (l : Limits). IfSome files (λ m. IsFront l (file_of m c.args.name.now) c.in_ok-read_head.field-0)) c.limits_with-limits.ensures c.in_ok-read_head.ensures.front in
    none_read c.args.plant.now program c.args.depth files c.args.name.now c.in_ok-read_head.field-0 c.no_head.result (c.no_head.ensures ∙ ap no_head same) c.in-Plain.is stands

pub returns-in-Plain-clause-kept : goal.returns-in-Plain-clause-kept
returns-in-Plain-clause-kept g c =
    let program = c.args.program.now in
    let limits = limits_of (plain program) c.args.depth in
    let same = c.limits_with-limits.ensures ∙ sym (limits_same program c.args.depth) in
    subst (λ (own : LogHead). IsFrontKept c.args.plant.now limits (head.Whole own)) (sym (c.no_head.ensures ∙ ap no_head same)) (none_declared c.args.plant.now limits)

pub returns-in-Headed-clause-front : goal.returns-in-Headed-clause-front
returns-in-Headed-clause-front g c =
    let program = c.args.program.now in
    let files = g.F.Shelf.files c.args.files.now in
    let now = g.F.Shelf.files c.read_head.new.files in
    let stands = subst (λ (l : Limits). IfSome files (λ m. IsFront l (file_of m c.args.name.now) c.in_ok-read_head.field-0)) c.limits_with-limits.ensures c.in_ok-read_head.ensures.front in
    ok_if c.read_headed.result c.read_headed.ensures.front
    (λ said has. headed_read c.args.plant.now program c.args.depth files now c.args.name.now c.in_ok-read_head.field-0 c.in-Headed.head said c.in_ok-read_head.ensures.frame.same c.in-Headed.is stands has)

pub returns-in-Bad-clause-front : goal.returns-in-Bad-clause-front
returns-in-Bad-clause-front g c =
    let files = g.F.Shelf.files c.args.files.now in
    let stands = subst (λ (l : Limits). IfSome files (λ m. IsFront l (file_of m c.args.name.now) c.in_ok-read_head.field-0)) c.limits_with-limits.ensures c.in_ok-read_head.ensures.front in
    bad_read c.args.plant.now c.args.program.now c.args.depth files c.args.name.now c.in_ok-read_head.field-0 c.in-Bad.defect c.in-Bad.is stands
