-- The log is opened, the new one is written, and judged; where the old one shows something else meanwhile, its first defect is told.
use Rattle.std.proofs.Common.{Option, refl, sym, subst}
use Rattle.std.specs.Prelude.{IfOk, IfSome}
use Rattle.stn_edge.specs.Files.{FileMap, OthersStay, file_of}
use Rattle.valid_log.specs.Claims.{SaysOfPlans}
use Rattle.log_nodes.proofs.Frames.{both-reads, both-then}
use Rattle.log_resuming.specs.declared.judging.Judged.{Judged}
use Rattle.opened_logs.specs.declared.opened.Opened.{Opened}
use Rattle.opened_logs.specs.Opened.{IsOpened}
use Rattle.log_resuming.specs.Resumed.{IsResumingIn}
use Rattle.log_resuming.specs.laws.Judged.{Judges}
use Rattle.log_resuming.proofs.Judgements.{ok_if, resumed-in, resuming-stays}
use Rattle.log_resuming.proofs.resuming.go_on.Goals as goal

-- ---- it shows something else where it is opened

pub returns-in_default-clause-resumed : goal.returns-in_default-clause-resumed
returns-in_default-clause-resumed g c =
    let going = c.args.going in
    subst (λ (files : Option FileMap). IfOk c.look_again.result (IsResumingIn c.args.plant.now going.budget going.share going.log.now going.out.now files (g.F.Shelf.files c.look_again.new.files))) c.in_ok-opened.ensures.frame.same (c.look_again.ensures.resumed going.budget going.share)

pub returns-in_err-opened-clause-frame : goal.returns-in_err-opened-clause-frame
returns-in_err-opened-clause-frame g c = both-reads c.in_err-opened.ensures.frame

pub returns-in_default-clause-frame : goal.returns-in_default-clause-frame
returns-in_default-clause-frame g c = both-then refl (both-reads c.in_ok-opened.ensures.frame) (both-reads c.look_again.ensures.frame)

-- ---- it shows something else where the new one is written

pub returns-then-not-branch-clause-resumed : goal.returns-then-not-branch-clause-resumed
returns-then-not-branch-clause-resumed g c =
    let going = c.args.going in
    let plant = c.args.plant.now in
    let old = g.F.Shelf.files c.args.files.now in
    let mid = g.F.Shelf.files c.write_out.new.files in
    let new = g.F.Shelf.files c.look_again-then-not-branch.new.files in
    let wrote = subst (λ (files : Option FileMap). OthersStay going.out.now files mid) c.in_ok-opened.ensures.frame.same c.in_ok-write_out.ensures.frame.others in
    ok_if c.look_again-then-not-branch.result (IsResumingIn plant going.budget going.share going.log.now going.out.now mid new) (IsResumingIn plant going.budget going.share going.log.now going.out.now old new)
    (λ said is. resuming-stays plant going.budget going.share going.log.now going.out.now old mid new said wrote c.requires.apart is) (c.look_again-then-not-branch.ensures.resumed going.budget going.share)

pub returns-in_err-write_out-clause-frame : goal.returns-in_err-write_out-clause-frame
returns-in_err-write_out-clause-frame g c = both-then refl (both-reads c.in_ok-opened.ensures.frame) c.in_err-write_out.ensures.frame

pub returns-then-not-branch-clause-frame : goal.returns-then-not-branch-clause-frame
returns-then-not-branch-clause-frame g c = both-then refl (both-then refl (both-reads c.in_ok-opened.ensures.frame) c.in_ok-write_out.ensures.frame) (both-reads c.look_again-then-not-branch.ensures.frame)

-- ---- the new one is judged

pub returns-in-Some-2-clause-resumed : goal.returns-in-Some-2-clause-resumed
returns-in-Some-2-clause-resumed g c =
    let going = c.args.going in
    let plant = c.args.plant.now in
    let name = going.log.now in
    let out = going.out.now in
    let old = g.F.Shelf.files c.args.files.now in
    let mid = g.F.Shelf.files c.write_out.new.files in
    let new = g.F.Shelf.files c.judge.new.files in
    let log = c.in-Some.opened in
    let opened = subst (λ (o : Option Opened). IfSome o (λ it. IfSome old (λ m. IsOpened plant (file_of m name) it))) c.in-Some.is c.in_ok-opened.ensures.opened in
    let same = sym c.in_ok-claim.ensures.frame.same in
    let wrote = subst (λ (files : Option FileMap). OthersStay out files mid) c.in_ok-opened.ensures.frame.same c.in_ok-write_out.ensures.frame.others in
    let later = subst (OthersStay out old) same wrote in
    let judged = subst (λ (o : Option Judged). IfSome o (λ j. IfSome mid (λ m. Judges plant (file_of m name) (file_of m out) going.budget going.share log c.args.claim.now j.claim j.boxes))) c.in-Some-2.is c.in_ok-claim.ensures.judged in
    let now = subst (λ (files : Option FileMap). IfSome files (λ m. Judges plant (file_of m name) (file_of m out) going.budget going.share log c.args.claim.now c.in-Some-2.field-0.claim c.in-Some-2.field-0.boxes)) same judged in
    resumed-in plant name out going.budget going.share log c.args.claim.now c.in-Some-2.field-0.claim c.in-Some-2.field-0.boxes old new later c.requires.apart c.requires.valid opened now

pub returns-in-Some-2-clause-says : goal.returns-in-Some-2-clause-says
returns-in-Some-2-clause-says g c = subst (λ (o : Option Judged). IfSome o (λ j. SaysOfPlans c.args.plant.now j.claim)) c.in-Some-2.is c.in_ok-claim.ensures.says

pub returns-in-Some-2-clause-frame : goal.returns-in-Some-2-clause-frame
returns-in-Some-2-clause-frame g c = both-then refl (both-then refl (both-reads c.in_ok-opened.ensures.frame) c.in_ok-write_out.ensures.frame) (both-reads c.in_ok-claim.ensures.frame)

pub returns-clause-frame : goal.returns-clause-frame
returns-clause-frame g c = both-then refl (both-then refl (both-reads c.in_ok-opened.ensures.frame) c.in_ok-write_out.ensures.frame) (both-reads c.in_ok-claim.ensures.frame)

pub returns-in_err-claim-clause-frame : goal.returns-in_err-claim-clause-frame
returns-in_err-claim-clause-frame g c = both-then refl (both-then refl (both-reads c.in_ok-opened.ensures.frame) c.in_ok-write_out.ensures.frame) (both-reads c.in_err-claim.ensures.frame)
