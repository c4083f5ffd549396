-- The log is not valid now.
use Rattle.std.proofs.Common.{subst}
use Rattle.std.specs.Prelude.{IfSome}
use Rattle.stn_edge.specs.Files.{file_of}
use Rattle.valid_log.specs.declared.verdict.LogVerdict.{LogVerdict}
use Rattle.valid_log.specs.PlantLogs.{IsAnyChecked}
use Rattle.log_resuming.proofs.Judgements.{refused-in}
use Rattle.log_resuming.proofs.resuming.look_again.Goals as goal

pub returns-clause-resumed : goal.returns-clause-resumed
returns-clause-resumed g c = λ budget share.
    let old = g.F.Shelf.files c.args.files.now in
    let name = c.args.going.log.now in
    refused-in c.args.plant.now name c.args.going.out.now budget share c.in-No.defect old (g.F.Shelf.files c.check_stream.new.files)
    (subst (λ (verdict : LogVerdict). IfSome old (λ m. IsAnyChecked c.args.plant.now (file_of m name) verdict)) c.in-No.is c.in_ok-defect.ensures.checked)
