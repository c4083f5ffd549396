-- The merged log is written, and has to suit the claims and to stand its check.
use Rattle.std.proofs.Common.{ℤ, Option, subst, sym}
use Rattle.std.specs.Prelude.{IfSome}
use Rattle.stn_edge.specs.Files.{FileMap, file_of}
use Rattle.proof_log.specs.declared.claim.Claim.{Claim}
use Rattle.valid_log.specs.declared.verdict.LogVerdict.TheVariants.{Yes}
use Rattle.valid_log.specs.PlantLogs.{IsAnyChecked}
use Rattle.opened_logs.specs.Claims.{IsNoMore, cap_of}
use Rattle.log_merging.specs.laws.Written.{HasWritten}
use Rattle.log_merging.proofs.merges.write_checked.Goals as goal

pub returns-then-branch-clause-checked : goal.returns-then-branch-clause-checked
returns-then-branch-clause-checked g c =
    let stem = c.args.stem.now in
    let out = c.args.out.now in
    let claim = c.in-Some.claim in
    let old = g.F.Shelf.files c.args.files.now in
    let mid = g.F.Shelf.files c.write_merged.new.files in
    let has = subst (λ (o : Option Claim). IfSome o (HasWritten c.args.work c.args.claimed.best stem out old mid)) c.in-Some.is c.in_ok-claim.ensures.written in
    let same = sym c.in_ok-stands.ensures.frame.same in
    record {
      written = subst (λ (told : Option FileMap). HasWritten c.args.work c.args.claimed.best stem out old told claim) same has;
      valid = subst (λ (told : Option FileMap). IfSome told (λ n. IsAnyChecked c.args.plant.now (file_of n out) (Yes claim))) same (c.in_ok-stands.ensures.valid c.if-branch.true);
      cap = subst (λ (o : Option ℤ). IsNoMore o (cap_of claim)) c.cap_of-greatest.ensures (c.suits.ensures.cap c.if-not-suits.false);
      not_open = c.suits.ensures.settled c.if-not-suits.false;
    }
