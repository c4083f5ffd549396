-- What the text says, and then the log.
use Rattle.std.proofs.Common.{◌∙◌}
use Rattle.std.proofs.lemmas.Result.{IfOk-weaker}
use Rattle.proof_log.specs.LogNames.{log_name}
use Rattle.conflict_commands.proofs.Checks.{kept_right, kept_says}
use Rattle.conflict_commands.proofs.checking.verdict_on.Goals as goal

pub returns-in-Ok-clause-right : goal.returns-in-Ok-clause-right
returns-in-Ok-clause-right g c =
    let named = c.as_str.ensures.value ∙ c.in_ok-name.ensures in
    let reads = rw named at c.in-Ok.ensures.reads in
    let checked = rw c.read_text.ensures.kept.same at c.check_kept.ensures.checked in
    IfOk-weaker c.check_kept.result _ _ (λ verdict is. kept_right c.args.plant.now (g.F.Shelf.files c.args.files.now) c.args.stem.now c.in-Ok.kept.items verdict reads is) checked

pub returns-in-Ok-clause-says : goal.returns-in-Ok-clause-says
returns-in-Ok-clause-says g c =
    IfOk-weaker c.check_kept.result _ _ (λ verdict is. kept_says c.args.plant.now (g.F.Shelf.files c.read_text.new.files) (log_name c.args.stem.now 1) c.in-Ok.kept.items verdict is) c.check_kept.ensures.checked
