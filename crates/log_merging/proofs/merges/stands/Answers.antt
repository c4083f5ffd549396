-- The verdict is yes with this claim.
use Rattle.std.proofs.Common.{subst}
use Rattle.std.specs.Prelude.{IfSome}
use Rattle.stn_edge.specs.Files.{file_of}
use Rattle.proof_log.specs.declared.claim.Claim.{Claim}
use Rattle.valid_log.specs.declared.verdict.LogVerdict.{LogVerdict}
use Rattle.valid_log.specs.declared.verdict.LogVerdict.TheVariants.{Yes}
use Rattle.valid_log.specs.Claims.{SaysOfPlans, YesSays}
use Rattle.valid_log.specs.PlantLogs.{IsAnyChecked}
use Rattle.log_merging.proofs.merges.stands.Goals as goal

pub returns-in-Yes-clause-valid : goal.returns-in-Yes-clause-valid
returns-in-Yes-clause-valid g c = λ same.
    let plant = c.args.plant.now in
    let out = c.args.out.now in
    let told = g.F.Shelf.files c.args.files.now in
    let checked = subst (λ (verdict : LogVerdict). IfSome told (λ m. IsAnyChecked plant (file_of m out) verdict)) c.in-Yes.is c.in_ok-own.ensures.checked in
    subst (λ (claim : Claim). IfSome told (λ m. IsAnyChecked plant (file_of m out) (Yes claim))) (c.is_same_claim.ensures same) checked

pub returns-in-Yes-clause-says : goal.returns-in-Yes-clause-says
returns-in-Yes-clause-says g c = λ same.
    let says = subst (YesSays c.args.plant.now) c.in-Yes.is c.in_ok-own.ensures.says in
    subst (SaysOfPlans c.args.plant.now) (c.is_same_claim.ensures same) says
