-- The check takes the part that was read, or its answer is that on the log.
use Rattle.std.proofs.Common.{[], None, refl, ◌∙◌, subst, IfSome, arith}
use Rattle.stn_edge.specs.Files.{file_of}
use Rattle.row_kit.specs.declared.program.Program.{Program}
use Rattle.proof_log.specs.Behind.{behind}
use Rattle.row_relax.specs.Choices.{choices_of}
use Rattle.row_relax.specs.View.{view_of}
use Rattle.proof_log.specs.LogReading.{HasRead, IsPartAfter}
use Rattle.valid_log.specs.declared.verdict.LogVerdict.TheVariants.{No}
use Rattle.valid_log.specs.Verdict.{IsVerdict, limits_of}
use Rattle.log_check.specs.Course.{IsEndVerdict}
use Rattle.log_check.proofs.Judging.{bad_verdict}
use Rattle.log_check.proofs.Taking.{begun, item_may, item_taken, claim_taken, end_over, end_claimed, taken_verdict, taken_holds}
use Rattle.log_check.proofs.checking.check_behind.Goals as goal
use Rattle.log_check.proofs.checking.check_behind.Goals.{in-Item+in_ok-take-in-Item, in-Claim}

pub parts-init : goal.parts-init
parts-init g c = record {
  same = refl;
  readable = refl;
  writable = refl;
  no_write = refl;
  later = omega arith;
  taken = begun c.args.rows.now c.args.depth (g.F.Shelf.files c.args.files.now) c.args.name.now c.args.version c.args.head c.in_ok-reader.reader c.in_ok-checker.checker 0
      (subst (λ l. HasRead (g.F.Shelf.files c.args.files.now) c.args.name.now c.args.version c.args.head l [] None c.in_ok-reader.reader) c.limits_of.ensures (c.in_ok-reader.ensures (g.F.Shelf.files c.args.files.now) c.args.name.now))
      c.in_ok-checker.ensures.fits c.in_ok-checker.ensures.area c.in_ok-checker.ensures.course c.in_ok-checker.ensures.first c.in_ok-checker.ensures.splits c.in_ok-checker.ensures.expected c.in_ok-checker.ensures.rooms c.in_ok-checker.ensures.ends;
}

pub take-requires-clause-may : goal.take-requires-clause-may
take-requires-clause-may g c =
    let taken = c.parts.invariant.taken in
    let limits = limits_of c.args.rows.now c.args.depth in
    item_may taken c.next.new.self c.in_ok-line.field-0 (c.in_ok-line.ensures.part c.args.version c.args.head limits taken.items c.parts.claimed taken.read) c.in-Item.line c.in-Item.item c.in-Item.is

pub verdict-requires-clause-ended : goal.verdict-requires-clause-ended
verdict-requires-clause-ended g c =
    let taken = c.parts.invariant.taken in
    let limits = limits_of c.args.rows.now c.args.depth in
    rw c.course.ensures
    (end_over taken c.next.new.self c.in_ok-line.field-0 (c.in_ok-line.ensures.part c.args.version c.args.head limits taken.items c.parts.claimed taken.read) c.in-End.version c.in-End.is)

pub verdict-requires-clause-claimed : goal.verdict-requires-clause-claimed
verdict-requires-clause-claimed g c =
    let taken = c.parts.invariant.taken in
    let limits = limits_of c.args.rows.now c.args.depth in
    end_claimed taken c.next.new.self c.in_ok-line.field-0 (c.in_ok-line.ensures.part c.args.version c.args.head limits taken.items c.parts.claimed taken.read) c.in-End.version c.in-End.is

pub returns-in-End-clause-verdict : goal.returns-in-End-clause-verdict
returns-in-End-clause-verdict g c =
    let taken = c.parts.invariant.taken in
    let rows = c.args.rows.now in
    let limits = limits_of rows c.args.depth in
    let judged = subst (λ (p : Program). IfSome c.parts.claimed (λ claim. IsEndVerdict p c.course.result c.parts.began claim c.verdict.result)) c.choices_of.ensures c.verdict.ensures in
    subst (λ t. IfSome t (λ m. IsVerdict rows c.args.depth (behind c.args.version c.args.head (file_of m c.args.name.now)) c.verdict.result)) c.parts.invariant.same
    (taken_verdict taken c.next.new.self c.in_ok-line.field-0 (c.in_ok-line.ensures.part c.args.version c.args.head limits taken.items c.parts.claimed taken.read) c.in-End.version c.in-End.is c.verdict.result
    (subst (λ o. IfSome c.parts.claimed (λ claim. IsEndVerdict (choices_of rows) o c.parts.began claim c.verdict.result)) c.course.ensures judged))

pub returns-in-End-clause-holds : goal.returns-in-End-clause-holds
returns-in-End-clause-holds g c =
    let taken = c.parts.invariant.taken in
    let rows = c.args.rows.now in
    let limits = limits_of rows c.args.depth in
    let judged = subst (λ (p : Program). IfSome c.parts.claimed (λ claim. IsEndVerdict p c.course.result c.parts.began claim c.verdict.result)) c.choices_of.ensures c.verdict.ensures in
    taken_holds taken c.next.new.self c.in_ok-line.field-0 (c.in_ok-line.ensures.part c.args.version c.args.head limits taken.items c.parts.claimed taken.read) c.in-End.version c.in-End.is c.verdict.result
    (subst (λ o. IfSome c.parts.claimed (λ claim. IsEndVerdict (choices_of rows) o c.parts.began claim c.verdict.result)) c.course.ensures judged)

pub returns-in-Bad-clause-verdict : goal.returns-in-Bad-clause-verdict
returns-in-Bad-clause-verdict g c =
    let inv = c.parts.invariant in
    let taken = inv.taken in
    let rows = c.args.rows.now in
    let limits = limits_of rows c.args.depth in
    let told = g.F.Shelf.files c.parts.files in
    subst (λ t. IfSome t (λ m. IsVerdict rows c.args.depth (behind c.args.version c.args.head (file_of m c.args.name.now)) (No c.in-Bad.defect))) inv.same
    (bad_verdict told c.args.name.now c.args.version c.args.head rows c.args.depth c.in-Bad.defect
    (subst (IsPartAfter told c.args.name.now c.args.version c.args.head limits taken.items c.parts.claimed c.next.new.self) c.in-Bad.is (c.in_ok-line.ensures.part c.args.version c.args.head limits taken.items c.parts.claimed taken.read)))

pub parts-preserved : goal.parts-preserved
parts-preserved g c =
    let inv = c.parts.invariant in
    let taken = inv.taken in
    let still = c.in_ok-line.ensures.frame.same in
    let rows = c.args.rows.now in
    let limits = limits_of rows c.args.depth in
    let told = g.F.Shelf.files c.parts.files in
    let name = c.args.name.now in
    let part = c.in_ok-line.ensures.part c.args.version c.args.head limits taken.items c.parts.claimed taken.read in
    record {
      same = still ∙ inv.same;
      readable = c.in_ok-line.ensures.frame.readable ∙ inv.readable;
      writable = c.in_ok-line.ensures.frame.writable ∙ inv.writable;
      no_write = c.in_ok-line.ensures.frame.no_write ∙ inv.no_write;
      later = omega (arith, inv.later, c.in_ok-line.ensures.frame.later);
      taken = elim c.match-branch-4.branch [
        | in-Item+in_ok-take-in-Item w ↦
            rw w.checker-is (rw w.began-is (rw w.claimed-is (rw still
            (item_taken taken c.next.new.self c.in_ok-line.field-0 part
            w.in-Item.line w.in-Item.item w.take.new.self w.in-Item.is w.take.ensures.fits w.in_ok-take-in-Item.ensures.ready
            (λ at stand. w.in_ok-take-in-Item.ensures.stands (view_of rows.program.root) taken.items at stand)
            w.take.ensures.rooms w.take.ensures.ends))))
        | in-Claim w ↦
            rw w.checker-is (rw w.began-is (rw w.claimed-is (rw still
            (claim_taken taken c.next.new.self c.in_ok-line.field-0 part
            w.in-Claim.line w.in-Claim.claim w.in-Claim.is))))
      ];
    }
