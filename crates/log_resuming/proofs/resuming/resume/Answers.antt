-- The log is checked first.
use Rattle.std.proofs.Common.{Option, inl, subst, sym}
use Rattle.std.specs.Prelude.{IfOk, IfSome}
use Rattle.stn_edge.specs.Files.{FileMap, OthersStay, file_of}
use Rattle.valid_log.specs.declared.verdict.LogVerdict.{LogVerdict}
use Rattle.valid_log.specs.declared.verdict.LogVerdict.TheVariants.{Yes}
use Rattle.valid_log.specs.PlantLogs.{IsAnyChecked}
use Rattle.log_resuming.specs.Resumed.{IsResumingIn}
use Rattle.log_resuming.proofs.Judgements.{leaves-judged, refused-in}
use Rattle.log_resuming.proofs.resuming.resume.Goals as goal

pub go_on-requires-clause-valid : goal.go_on-requires-clause-valid
go_on-requires-clause-valid g c =
    let told = g.F.Shelf.files c.args.files.now in
    let checked = subst (λ (verdict : LogVerdict). IfSome told (λ m. IsAnyChecked c.args.plant.now (file_of m c.args.going.log.now) verdict)) c.in-Yes.is c.in_ok-claim.ensures.checked in
    subst (λ (files : Option FileMap). IfSome files (λ m. IsAnyChecked c.args.plant.now (file_of m c.args.going.log.now) (Yes c.in-Yes.claim))) (sym c.in_ok-claim.ensures.frame.same) checked

pub returns-in-Yes-clause-resumed : goal.returns-in-Yes-clause-resumed
returns-in-Yes-clause-resumed g c =
    let going = c.args.going in
    subst (λ (files : Option FileMap). IfOk c.go_on.result (IsResumingIn c.args.plant.now going.budget going.share going.log.now going.out.now files (g.F.Shelf.files c.go_on.new.files))) c.in_ok-claim.ensures.frame.same c.go_on.ensures.resumed

pub returns-in-Yes-clause-others : goal.returns-in-Yes-clause-others
returns-in-Yes-clause-others g c = subst (λ (files : Option FileMap). OthersStay c.args.going.out.now files (g.F.Shelf.files c.go_on.new.files)) c.in_ok-claim.ensures.frame.same c.go_on.ensures.frame.others

pub returns-in-Yes-clause-left : goal.returns-in-Yes-clause-left
returns-in-Yes-clause-left g c =
    let told = g.F.Shelf.files c.args.files.now in
    leaves-judged c.args.plant.now c.args.going.log.now c.in-Yes.claim told (g.F.Shelf.files c.go_on.new.files) (subst (λ (verdict : LogVerdict). IfSome told (λ m. IsAnyChecked c.args.plant.now (file_of m c.args.going.log.now) verdict)) c.in-Yes.is c.in_ok-claim.ensures.checked)

pub returns-in-No-clause-resumed : goal.returns-in-No-clause-resumed
returns-in-No-clause-resumed g c =
    let old = g.F.Shelf.files c.args.files.now in
    let name = c.args.going.log.now in
    refused-in c.args.plant.now name c.args.going.out.now c.args.going.budget c.args.going.share c.in-No.defect old (g.F.Shelf.files c.check_stream.new.files)
    (subst (λ (verdict : LogVerdict). IfSome old (λ m. IsAnyChecked c.args.plant.now (file_of m name) verdict)) c.in-No.is c.in_ok-claim.ensures.checked)

pub returns-in-No-clause-left : goal.returns-in-No-clause-left
returns-in-No-clause-left g c = inl c.in_ok-claim.ensures.frame.same

pub returns-in_err-claim-clause-left : goal.returns-in_err-claim-clause-left
returns-in_err-claim-clause-left g c = inl c.in_err-claim.ensures.frame.same
