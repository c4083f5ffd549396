-- Where the logs of all parts are valid they are joined.
use Rattle.std.proofs.Common.{◌∙◌, ◌≢◌, ℕ, ◌^◌, List, length, Option, IfSome, ap, sym, subst}
use Rattle.stn_edge.specs.Files.{FileMap, OthersStay}
use Rattle.proof_log.specs.LogNames.{log_name}
use Rattle.log_parts.specs.declared.checked.Checked.{Checked}
use Rattle.log_parts.specs.PartLogs.{logs_of}
use Rattle.log_parts.specs.Heads.{front_text, joined_version}
use Rattle.log_parts.specs.laws.Checked.{AllSay, AreChecked, AreNewest, HaveClaims, MayDeclare, head_limits, part_limits}
use Rattle.valid_log.specs.SumTexts.{larger_claim}
use Rattle.log_parts.specs.laws.Copying.{IsFit, HasLeft, HasWritten}
use Rattle.log_parts.proofs.Copies.{err_then, ok_if}
use Rattle.log_parts.proofs.PartsCopied.{powered}
use Rattle.log_parts.proofs.JoinAnswers.{ready, all_valid, joining_in, said_of_claim, kept_where_no, leaves_join}
use Rattle.joined_parts.proofs.joins.join.Goals as goal

pub write_joined-requires-clause-declared : goal.write_joined-requires-clause-declared
write_joined-requires-clause-declared g c =
    let plant = c.args.plant.now in
    let levels = c.args.levels in
    let declared = c.in-All.declared in
    let all = subst (AllSay plant levels) c.in-All.is c.in_ok-newest.ensures.says in
    let version = c.joined_version-version.ensures ∙ ap (joined_version c.in-All.newest) c.as_slice.ensures in
    subst (λ (v : ℕ). MayDeclare plant (head_limits plant levels) v declared) (sym version) all.may

pub write_joined-requires-clause-limits : goal.write_joined-requires-clause-limits
write_joined-requires-clause-limits g c =
    let all = subst (AllSay c.args.plant.now c.args.levels) c.in-All.is c.in_ok-newest.ensures.says in all.limits_are

pub write_joined-requires-clause-heads : goal.write_joined-requires-clause-heads
write_joined-requires-clause-heads g c =
    let all = subst (AllSay c.args.plant.now c.args.levels) c.in-All.is c.in_ok-newest.ensures.says in ap length c.as_slice-in-All.ensures.value ∙ all.all_heads

pub returns-in-All-clause-joined : goal.returns-in-All-clause-joined
returns-in-All-clause-joined g c =
    let plant = c.args.plant.now in
    let levels = c.args.levels in
    let stem = c.args.stem.now in
    let name = c.args.name.now in
    let old = g.F.Shelf.files c.args.files.now in
    let new = g.F.Shelf.files c.write_joined.new.files in
    let declared = c.in-All.declared in
    let newest = c.in-All.newest in
    let heads = c.as_slice-in-All.result.now in
    let claims = c.in-All.claims.items in
    let claim = c.joined-claim.result in
    let all = subst (AllSay plant levels) c.in-All.is c.in_ok-newest.ensures.says in
    let own = subst (λ (said : Checked). IfSome old (λ m. AreChecked plant levels (logs_of m stem) said)) c.in-All.is c.in_ok-newest.ensures.checked in
    let have = subst (λ (hs : List ℕ). IfSome old (λ m. HaveClaims plant levels (logs_of m stem) declared hs claims × AreNewest (logs_of m stem) (2 ^ levels) newest)) (sym c.as_slice-in-All.ensures.value) own in
    let same = c.in_ok-newest.ensures.frame.same in
    let version = c.joined_version-version.ensures ∙ ap (joined_version newest) c.as_slice.ensures in
    let can = ready plant levels stem declared newest heads claims claim old c.requires.sound c.requires.least c.requires.most c.requires.slots all.may all.all_claims have c.joined-claim.ensures.joined in
    ok_if c.write_joined.result c.write_joined.ensures.written
    (λ said written. joining_in plant levels stem name declared newest heads claim old new said can
    (subst (λ (v : ℕ). IsFit plant declared.sums claim → HasWritten (part_limits plant levels declared) levels stem heads name (front_text v declared) (larger_claim declared.sums claim) claim old new said) version
    (subst (λ (told : Option FileMap). IsFit plant declared.sums claim → HasWritten (part_limits plant levels declared) levels stem heads name (front_text c.joined_version-version.result declared) (larger_claim declared.sums claim) claim told new said) same written)))

pub returns-in-All-clause-says : goal.returns-in-All-clause-says
returns-in-All-clause-says g c =
    let plant = c.args.plant.now in
    let levels = c.args.levels in
    let claim = c.joined-claim.result in
    let all = subst (AllSay plant levels) c.in-All.is c.in_ok-newest.ensures.says in
    ok_if c.write_joined.result c.write_joined.ensures.claim (λ said is. said_of_claim plant claim said (c.joined-claim.ensures.says plant levels all.all_claims all.each) is)

pub returns-in-All-clause-kept : goal.returns-in-All-clause-kept
returns-in-All-clause-kept g c =
    let plant = c.args.plant.now in
    let levels = c.args.levels in
    let stem = c.args.stem.now in
    let name = c.args.name.now in
    let old = g.F.Shelf.files c.args.files.now in
    let new = g.F.Shelf.files c.write_joined.new.files in
    let declared = c.in-All.declared in
    let newest = c.in-All.newest in
    let heads = c.as_slice-in-All.result.now in
    let claims = c.in-All.claims.items in
    let claim = c.joined-claim.result in
    let all = subst (AllSay plant levels) c.in-All.is c.in_ok-newest.ensures.says in
    let own = subst (λ (said : Checked). IfSome old (λ m. AreChecked plant levels (logs_of m stem) said)) c.in-All.is c.in_ok-newest.ensures.checked in
    let have = subst (λ (hs : List ℕ). IfSome old (λ m. HaveClaims plant levels (logs_of m stem) declared hs claims × AreNewest (logs_of m stem) (2 ^ levels) newest)) (sym c.as_slice-in-All.ensures.value) own in
    let same = c.in_ok-newest.ensures.frame.same in
    let version = c.joined_version-version.ensures ∙ ap (joined_version newest) c.as_slice.ensures in
    let can = ready plant levels stem declared newest heads claims claim old c.requires.sound c.requires.least c.requires.most c.requires.slots all.may all.all_claims have c.joined-claim.ensures.joined in
    let apart : log_name stem 0 ≢ name = λ is. c.requires.apart 0 (powered levels) (sym is) in
    let stay : OthersStay name old new = subst (λ (told : Option FileMap). OthersStay name told new) same c.write_joined.ensures.others in
    ok_if c.write_joined.result c.write_joined.ensures.written
    (λ said written. kept_where_no plant levels stem name (log_name stem 0) declared newest heads claim old new said apart stay can
    (subst (λ (v : ℕ). IsFit plant declared.sums claim → HasWritten (part_limits plant levels declared) levels stem heads name (front_text v declared) (larger_claim declared.sums claim) claim old new said) version
    (subst (λ (told : Option FileMap). IsFit plant declared.sums claim → HasWritten (part_limits plant levels declared) levels stem heads name (front_text c.joined_version-version.result declared) (larger_claim declared.sums claim) claim told new said) same written)))

pub returns-in-All-clause-err : goal.returns-in-All-clause-err
returns-in-All-clause-err g c =
    let plant = c.args.plant.now in
    let levels = c.args.levels in
    let stem = c.args.stem.now in
    let name = c.args.name.now in
    let old = g.F.Shelf.files c.args.files.now in
    let new = g.F.Shelf.files c.write_joined.new.files in
    let declared = c.in-All.declared in
    let newest = c.in-All.newest in
    let heads = c.as_slice-in-All.result.now in
    let claims = c.in-All.claims.items in
    let claim = c.joined-claim.result in
    let all = subst (AllSay plant levels) c.in-All.is c.in_ok-newest.ensures.says in
    let own = subst (λ (said : Checked). IfSome old (λ m. AreChecked plant levels (logs_of m stem) said)) c.in-All.is c.in_ok-newest.ensures.checked in
    let have = subst (λ (hs : List ℕ). IfSome old (λ m. HaveClaims plant levels (logs_of m stem) declared hs claims × AreNewest (logs_of m stem) (2 ^ levels) newest)) (sym c.as_slice-in-All.ensures.value) own in
    let same = c.in_ok-newest.ensures.frame.same in
    let version = c.joined_version-version.ensures ∙ ap (joined_version newest) c.as_slice.ensures in
    let can = ready plant levels stem declared newest heads claims claim old c.requires.sound c.requires.least c.requires.most c.requires.slots all.may all.all_claims have c.joined-claim.ensures.joined in
    let apart : log_name stem 0 ≢ name = λ is. c.requires.apart 0 (powered levels) (sym is) in
    let stay : OthersStay name old new = subst (λ (told : Option FileMap). OthersStay name told new) same c.write_joined.ensures.others in
    err_then c.write_joined.result c.write_joined.ensures.err
    (λ left. leaves_join plant levels stem name (log_name stem 0) declared newest heads claim old new apart stay can
    (subst (λ (v : ℕ). HasLeft (part_limits plant levels declared) levels stem heads name (front_text v declared) (larger_claim declared.sums claim) old new) version
    (subst (λ (told : Option FileMap). HasLeft (part_limits plant levels declared) levels stem heads name (front_text c.joined_version-version.result declared) (larger_claim declared.sums claim) told new) same left)))

pub returns-in-All-clause-written : goal.returns-in-All-clause-written
returns-in-All-clause-written g c =
    let plant = c.args.plant.now in
    let levels = c.args.levels in
    let stem = c.args.stem.now in
    let old = g.F.Shelf.files c.args.files.now in
    let declared = c.in-All.declared in
    let newest = c.in-All.newest in
    let heads = c.as_slice-in-All.result.now in
    let claims = c.in-All.claims.items in
    let all = subst (AllSay plant levels) c.in-All.is c.in_ok-newest.ensures.says in
    let own = subst (λ (said : Checked). IfSome old (λ m. AreChecked plant levels (logs_of m stem) said)) c.in-All.is c.in_ok-newest.ensures.checked in
    let have = subst (λ (hs : List ℕ). IfSome old (λ m. HaveClaims plant levels (logs_of m stem) declared hs claims × AreNewest (logs_of m stem) (2 ^ levels) newest)) (sym c.as_slice-in-All.ensures.value) own in
    λ fault. all_valid plant levels stem declared newest heads claims old all.all_claims have
