-- The first log that is refused now.
use Rattle.std.proofs.Common.{subst}
use Rattle.std.specs.Prelude.{IfSome}
use Rattle.log_parts.specs.PartLogs.{logs_of}
use Rattle.merge_checks.specs.declared.checked.Checked.{Checked}
use Rattle.merge_checks.specs.laws.Checked.{AreChecked}
use Rattle.log_merging.proofs.Mergings.{refused-told}
use Rattle.log_merging.proofs.merges.look_again.Goals as goal

pub returns-clause-merged : goal.returns-clause-merged
returns-clause-merged g c = λ out.
    let old = g.F.Shelf.files c.args.files.now in
    refused-told c.args.plant.now c.args.count c.args.stem.now out old (g.F.Shelf.files c.check_logs.new.files) c.in-Bad.number c.in-Bad.defect
    (subst (λ (said : Checked). IfSome old (λ m. AreChecked c.args.plant.now c.args.count (logs_of m c.args.stem.now) said)) c.in-Bad.is c.in_ok-number.ensures.checked)
