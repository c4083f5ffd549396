-- A right verdict, and the head of the log.
use Rattle.std.proofs.Common.{◌∙◌, Option, IfSome, subst}
use Rattle.opened_logs.specs.declared.opened.Opened.{Opened}
use Rattle.opened_logs.specs.Opened.{IsOpened}
use Rattle.stn_edge.specs.Files.{file_of}
use Rattle.merge_checks.proofs.LogsChecked.{log-valid}
use Rattle.merge_checks.proofs.checking.check_log.Goals as goal

pub returns-in-Some-clause-checked : goal.returns-in-Some-clause-checked
returns-in-Some-clause-checked g c =
    let told = g.F.Shelf.files c.args.files.now in
    let mid = g.F.Shelf.files c.check_stream.new.files in
    let name = c.as_str-file.result.now in
    let opened = subst (λ (o : Option Opened). IfSome o (λ it. IfSome mid (λ m. IsOpened c.args.plant.now (file_of m name) it))) c.in-Some.is c.in_ok-opened.ensures.opened in
    log-valid c.args.plant.now told mid name _ c.in_ok-claim.field-0 c.in-Yes.claim c.in-Some.opened (c.as_str-file.ensures.value ∙ c.in_ok-name.ensures) c.in_ok-claim.ensures.frame.same c.in-Yes.is c.in_ok-claim.ensures.checked opened
