-- The log is valid, has the head of the other in version 4, and its proof goes on from that one's.
use Rattle.std.proofs.Common.{◌≡◌, ℕ, ◌∙◌, Option, subst}
use Rattle.std.specs.Prelude.{IfSome}
use Rattle.stn_edge.specs.Files.{FileMap, file_of}
use Rattle.stn_model.specs.Points.{depth_limit}
use Rattle.log_parts.specs.Heads.{lines_on}
use Rattle.valid_log.specs.declared.verdict.LogVerdict.{LogVerdict}
use Rattle.valid_log.specs.Claims.{YesSays}
use Rattle.valid_log.specs.PlantLogs.{IsAnyChecked}
use Rattle.opened_logs.specs.declared.opened.Opened.{Opened}
use Rattle.opened_logs.specs.Opened.{IsOpened}
use Rattle.log_resuming.specs.laws.Judged.{IsMeasured}
use Rattle.log_resuming.proofs.Judgements.{judges}
use Rattle.log_resuming.proofs.judging.judge.Goals as goal

pub declares_same-requires : goal.declares_same-requires
declares_same-requires g c = subst (λ (o : Option Opened). IfSome o (λ own. own.head.lines ≡ lines_on own.head.declared)) c.in-Some.is c.in_ok-out.ensures.lines

pub returns-in-Some-2-clause-says : goal.returns-in-Some-2-clause-says
returns-in-Some-2-clause-says g c = subst (YesSays c.args.plant.now) c.in-Yes.is c.in_ok-claim.ensures.says

pub returns-in-Some-2-clause-judged : goal.returns-in-Some-2-clause-judged
returns-in-Some-2-clause-judged g c =
    let told = g.F.Shelf.files c.args.files.now in
    let mid = g.F.Shelf.files c.check_stream.new.files in
    let now = g.F.Shelf.files c.open_log.new.files in
    let plant = c.args.plant.now in
    let name = c.args.going.log.now in
    let out = c.args.going.out.now in
    let log = c.args.opened.now in
    let own = c.in-Some.out in
    let same_mid = c.in_ok-claim.ensures.frame.same in
    let same_now = c.in_ok-out.ensures.frame.same ∙ same_mid in
    let checked = subst (λ (verdict : LogVerdict). IfSome told (λ m. IsAnyChecked plant (file_of m out) verdict)) c.in-Yes.is c.in_ok-claim.ensures.checked in
    let opened = subst (λ (files : Option FileMap). IfSome files (λ m. IsOpened plant (file_of m out) own)) same_mid (subst (λ (o : Option Opened). IfSome o (λ it. IfSome mid (λ m. IsOpened plant (file_of m out) it))) c.in-Some.is c.in_ok-out.ensures.opened) in
    let is = subst (λ (o : Option ℕ). IfSome o (λ n. IfSome now (λ m. IsMeasured c.depth_limit.result (file_of m name) (file_of m out) c.args.going.budget c.args.going.share log own.head c.args.old.now c.in-Yes.claim n))) c.in-Some-2.is c.in_ok-boxes.ensures.measured in
    let here = subst (λ (most : ℕ). IfSome now (λ m. IsMeasured most (file_of m name) (file_of m out) c.args.going.budget c.args.going.share log own.head c.args.old.now c.in-Yes.claim c.in-Some-2.boxes)) c.depth_limit.ensures is in
    let measured = subst (λ (files : Option FileMap). IfSome files (λ m. IsMeasured (depth_limit plant) (file_of m name) (file_of m out) c.args.going.budget c.args.going.share log own.head c.args.old.now c.in-Yes.claim c.in-Some-2.boxes)) same_now here in
    judges told plant name out c.args.going.budget c.args.going.share log own c.args.old.now c.in-Yes.claim c.in-Some-2.boxes checked opened (c.declares_same.ensures c.if-not-declares_same.false) c.if-head-ne-NEWEST.false measured
