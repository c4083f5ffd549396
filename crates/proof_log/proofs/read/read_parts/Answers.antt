-- Each part is the next of the log that is built, or its end, or its first defect.
use Rattle.std.proofs.Common.{◌≡◌, Some, Result, Err, codes, ap, sym, ◌∙◌, subst}
use Rattle.std.specs.Result.{IsErrAnd}
use Rattle.stn_edge.specs.Files.{file_of}
use Rattle.log_lines.specs.TextDefect.{log_text_defect}
use Rattle.proof_log.specs.declared.read.LogStop.TheVariants.{Defect}
use Rattle.proof_log.specs.declared.read.Reached.TheVariants.{Part}
use Rattle.proof_log.specs.LogReading.{IsPartAfter, IsRead}
use Rattle.proof_log.specs.Reached.{HasReached}
use Rattle.proof_log.proofs.read.read_parts.Goals as goal

gives : {X E : Type 0} (r : Result X E) (given : E → Type 0) (stop : E) → IsErrAnd r given → r ≡ Err stop → given stop
gives r given stop holds is = subst (λ o. IsErrAnd o given) is holds

pub take_part-requires : goal.take_part-requires
take_part-requires c =
    let inv = c.parts.invariant.read in
    (Some c.parts.shelf.files, codes "log", c.args.limits, inv.0, c.next.new.self, c.in-Ok.ensures.part 2 0 c.args.limits inv.0 c.parts.claim inv.1, inv.2)

pub returns-in_err-more-in-Ok-clause-defect : goal.returns-in_err-more-in-Ok-clause-defect
returns-in_err-more-in-Ok-clause-defect c defect is =
    let inv = c.parts.invariant.read in
    let stop : c.take_part.result ≡ Err (Defect defect) = let given = gives _ _ (Defect defect) c.from_residual-in_err-more-in-Ok.ensures.1 is in c.in_err-more-in-Ok.was ∙ ap Err (sym given) in
    let part = subst (IsPartAfter (Some c.parts.shelf.files) (codes "log") 2 0 c.args.limits inv.0 c.parts.claim c.next.new.self) (c.take_part.ensures.defect defect stop) (c.in-Ok.ensures.part 2 0 c.args.limits inv.0 c.parts.claim inv.1) in
    subst (λ files. log_text_defect c.args.limits (file_of files (codes "log")) ≡ Some (defect.line, defect.kind)) c.parts.invariant.same part

pub returns-in-Log-clause-log : goal.returns-in-Log-clause-log
returns-in-Log-clause-log c =
    let inv = c.parts.invariant.read in
    let told = Some c.parts.shelf.files in
    let part = c.in-Ok.ensures.part 2 0 c.args.limits inv.0 c.parts.claim inv.1 in
    let reached = subst (HasReached told (codes "log") c.args.limits c.next.new.self) c.in-Log.is (c.in_ok-more-in-Ok.ensures.reached told (codes "log") c.args.limits inv.0 c.next.new.self part inv.2) in
    subst (λ files. IsRead c.args.limits (file_of files (codes "log")) c.in-Log.log) c.parts.invariant.same reached

pub parts-preserved : goal.parts-preserved
parts-preserved c =
    let inv = c.parts.invariant.read in
    let told = Some c.parts.shelf.files in
    let part = c.in-Ok.ensures.part 2 0 c.args.limits inv.0 c.parts.claim inv.1 in
    let reached = subst (HasReached told (codes "log") c.args.limits c.next.new.self) c.in-Part.is (c.in_ok-more-in-Ok.ensures.reached told (codes "log") c.args.limits inv.0 c.next.new.self part inv.2) in
    let same : c.next.new.files.files ≡ c.parts.shelf.files = let some = c.in-Ok.ensures.frame.same in cc in
    record {
      same = same ∙ c.parts.invariant.same;
      read = subst (λ files. HasReached (Some files) (codes "log") c.args.limits c.next.new.self (Part c.in-Part.more c.in-Part.made)) (sym same) reached;
    }
