-- The logs are checked and merged; where one shows something else meanwhile, all are checked anew.
use Rattle.std.proofs.Common.{◌≡◌, ◌∙◌, ◌<◌, ℕ, Bool, List, Option, inr, length, subst, sym, arith}
use Rattle.std.specs.Prelude.{IfSome, IsTrue}
use Rattle.stn_edge.specs.Files.{FileMap, OthersStay, file_of}
use Rattle.proof_log.specs.declared.claim.Claim.{Claim}
use Rattle.proof_log.specs.LogNames.{log_name}
use Rattle.log_parts.specs.PartLogs.{logs_of}
use Rattle.merge_checks.specs.declared.checked.Checked.{Checked}
use Rattle.log_merging.specs.MergedLogs.{IsMergedLog, IsMergingIn, NamesRefused}
use Rattle.merge_checks.specs.laws.Checked.{AreChecked, AreCheckedTo, AreKnown, AreKnownTo}
use Rattle.log_merging.proofs.Mergings.{looked-again, mergeable, ok_then}
use Rattle.log_merging.proofs.merges.merge.Goals as goal

pub check_logs-requires : goal.check_logs-requires
check_logs-requires g c = record { can = record { sound = c.requires.sound; some = c.requires.some; most = c.requires.most; allowed = c.requires.may_read } }

pub merge_logs-requires-clause-few : goal.merge_logs-requires-clause-few
merge_logs-requires-clause-few g c =
    let known = subst (AreKnown c.args.count) c.in-All.is c.in_ok-logs.ensures.known in
    let fronts = known.fronts in
    (omega (arith, fronts, c.requires.some), omega (arith, fronts, c.requires.most))

pub merge_logs-requires-clause-known : goal.merge_logs-requires-clause-known
merge_logs-requires-clause-known g c =
    let known = subst (AreKnown c.args.count) c.in-All.is c.in_ok-logs.ensures.known in
    subst (λ (n : ℕ). AreKnownTo n c.in-All.logs) (sym known.fronts) known

pub merge_logs-requires-clause-may_read : goal.merge_logs-requires-clause-may_read
merge_logs-requires-clause-may_read g c = λ number lt.
    let known = subst (AreKnown c.args.count) c.in-All.is c.in_ok-logs.ensures.known in
    let fronts = known.fronts in
    subst (λ (may : List ℕ → Bool). IsTrue (may (log_name c.args.stem.now number))) (sym c.in_ok-logs.ensures.frame.readable) (c.requires.may_read number (omega (arith, lt, fronts)))

pub merge_logs-requires-clause-apart : goal.merge_logs-requires-clause-apart
merge_logs-requires-clause-apart g c = λ number lt.
    let known = subst (AreKnown c.args.count) c.in-All.is c.in_ok-logs.ensures.known in
    let fronts = known.fronts in
    c.requires.apart number (omega (arith, lt, fronts))

pub merge_logs-requires-clause-checked : goal.merge_logs-requires-clause-checked
merge_logs-requires-clause-checked g c =
    let old = g.F.Shelf.files c.args.files.now in
    let known = subst (AreKnown c.args.count) c.in-All.is c.in_ok-logs.ensures.known in
    let own = subst (λ (said : Checked). IfSome old (λ m. AreChecked c.args.plant.now c.args.count (logs_of m c.args.stem.now) said)) c.in-All.is c.in_ok-logs.ensures.checked in
    subst (λ (n : ℕ). IfSome (g.F.Shelf.files c.check_logs.new.files) (λ m. AreCheckedTo c.args.plant.now n (logs_of m c.args.stem.now) c.in-All.logs)) (sym known.fronts)
    (subst (λ (told : Option FileMap). IfSome told (λ m. AreCheckedTo c.args.plant.now c.args.count (logs_of m c.args.stem.now) c.in-All.logs)) (sym c.in_ok-logs.ensures.frame.same) own)

pub look_again-requires : goal.look_again-requires
look_again-requires g c = record {
  can = record {
    sound = c.requires.sound;
    some = c.requires.some;
    most = c.requires.most;
    allowed = subst (λ (may : List ℕ → Bool). (number : ℕ) → number < c.args.count → IsTrue (may (log_name c.args.stem.now number))) (sym (c.in_ok-claim.ensures.frame.readable ∙ c.in_ok-logs.ensures.frame.readable)) c.requires.may_read;
  };
}

pub returns-in_err-claim-clause-left : goal.returns-in_err-claim-clause-left
returns-in_err-claim-clause-left g c =
    let old = g.F.Shelf.files c.args.files.now in
    inr (mergeable c.args.plant.now c.args.count c.args.stem.now old c.in-All.logs
    (subst (λ (said : Checked). IfSome old (λ m. AreChecked c.args.plant.now c.args.count (logs_of m c.args.stem.now) said)) c.in-All.is c.in_ok-logs.ensures.checked))

pub returns-in_err-claim-clause-written : goal.returns-in_err-claim-clause-written
returns-in_err-claim-clause-written g c = λ fault.
    let old = g.F.Shelf.files c.args.files.now in
    mergeable c.args.plant.now c.args.count c.args.stem.now old c.in-All.logs
    (subst (λ (said : Checked). IfSome old (λ m. AreChecked c.args.plant.now c.args.count (logs_of m c.args.stem.now) said)) c.in-All.is c.in_ok-logs.ensures.checked)

pub returns-in-Some-clause-merged : goal.returns-in-Some-clause-merged
returns-in-Some-clause-merged g c =
    let plant = c.args.plant.now in
    let stem = c.args.stem.now in
    let out = c.args.out.now in
    let mid = g.F.Shelf.files c.check_logs.new.files in
    let new = g.F.Shelf.files c.merge_logs.new.files in
    let logs = c.in-All.logs in
    let claim = c.in-Some.claim in
    let known = subst (AreKnown c.args.count) c.in-All.is c.in_ok-logs.ensures.known in
    let has = subst (λ (o : Option Claim). IfSome o (λ own. IfSome mid (λ m. IfSome new (λ n. IsMergedLog plant (length logs.fronts.items) (logs_of m stem) own (file_of n out))))) c.in-Some.is c.in_ok-claim.ensures.merged in
    let all = subst (λ (count : ℕ). IfSome mid (λ m. IfSome new (λ n. IsMergedLog plant count (logs_of m stem) claim (file_of n out)))) known.fronts has in
    subst (λ (told : Option FileMap). IfSome told (λ m. IfSome new (λ n. IsMergedLog plant c.args.count (logs_of m stem) claim (file_of n out)))) c.in_ok-logs.ensures.frame.same all

pub returns-in-Some-clause-left : goal.returns-in-Some-clause-left
returns-in-Some-clause-left g c =
    let old = g.F.Shelf.files c.args.files.now in
    inr (mergeable c.args.plant.now c.args.count c.args.stem.now old c.in-All.logs
    (subst (λ (said : Checked). IfSome old (λ m. AreChecked c.args.plant.now c.args.count (logs_of m c.args.stem.now) said)) c.in-All.is c.in_ok-logs.ensures.checked))

pub returns-in-None-clause-merged : goal.returns-in-None-clause-merged
returns-in-None-clause-merged g c =
    let plant = c.args.plant.now in
    let count = c.args.count in
    let stem = c.args.stem.now in
    let out = c.args.out.now in
    let old = g.F.Shelf.files c.args.files.now in
    let mid = g.F.Shelf.files c.merge_logs.new.files in
    let new = g.F.Shelf.files c.look_again.new.files in
    let checked = subst (λ (said : Checked). IfSome old (λ m. AreChecked plant count (logs_of m stem) said)) c.in-All.is c.in_ok-logs.ensures.checked in
    let others = subst (λ (told : Option FileMap). OthersStay out told mid) c.in_ok-logs.ensures.frame.same c.in_ok-claim.ensures.frame.others in
    ok_then c.look_again.result (λ said. IsMergingIn plant count stem out old new said × (new ≡ old)) (IsMergingIn plant count stem out old new) (λ said is. is.0)
    (looked-again plant count stem out old mid new c.in-All.logs c.look_again.result c.requires.some c.requires.apart checked others c.look_again.ensures.frame.same c.look_again.ensures.no (c.look_again.ensures.merged out))

pub returns-in-None-clause-kept : goal.returns-in-None-clause-kept
returns-in-None-clause-kept g c =
    let plant = c.args.plant.now in
    let count = c.args.count in
    let stem = c.args.stem.now in
    let out = c.args.out.now in
    let old = g.F.Shelf.files c.args.files.now in
    let mid = g.F.Shelf.files c.merge_logs.new.files in
    let new = g.F.Shelf.files c.look_again.new.files in
    let checked = subst (λ (said : Checked). IfSome old (λ m. AreChecked plant count (logs_of m stem) said)) c.in-All.is c.in_ok-logs.ensures.checked in
    let others = subst (λ (told : Option FileMap). OthersStay out told mid) c.in_ok-logs.ensures.frame.same c.in_ok-claim.ensures.frame.others in
    ok_then c.look_again.result (λ said. IsMergingIn plant count stem out old new said × (new ≡ old)) (λ said. NamesRefused said → new ≡ old) (λ said is. λ refused. is.1)
    (looked-again plant count stem out old mid new c.in-All.logs c.look_again.result c.requires.some c.requires.apart checked others c.look_again.ensures.frame.same c.look_again.ensures.no (c.look_again.ensures.merged out))

pub returns-in-None-clause-left : goal.returns-in-None-clause-left
returns-in-None-clause-left g c =
    let old = g.F.Shelf.files c.args.files.now in
    inr (mergeable c.args.plant.now c.args.count c.args.stem.now old c.in-All.logs
    (subst (λ (said : Checked). IfSome old (λ m. AreChecked c.args.plant.now c.args.count (logs_of m c.args.stem.now) said)) c.in-All.is c.in_ok-logs.ensures.checked))
