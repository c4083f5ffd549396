-- One more valid log with the head of the first, or the first that is refused.
use Rattle.std.proofs.Common.{◌≡◌, ◌∙◌, ℕ, IfSome, arith, refl, subst}
use Rattle.log_parts.specs.PartLogs.{logs_of}
use Rattle.merge_checks.specs.laws.Checked.{AreCheckedTo, AreKnownTo, IsKnownCheck}
use Rattle.merge_checks.proofs.LogsChecked.{more-checked, more-known, one-bad, one-other, same-head}
use Rattle.merge_checks.proofs.checking.check_others.Goals as goal

pub other_head-requires : goal.other_head-requires
other_head-requires g c = subst IsKnownCheck c.in-Valid.is c.in_ok-opened.ensures.lines

pub returns-in-Some-clause-checked : goal.returns-in-Some-clause-checked
returns-in-Some-clause-checked g c =
    let inv = c.loop-number.invariant in
    one-other c.args.plant.now (g.F.Shelf.files c.args.files.now) (g.F.Shelf.files c.loop-number.files) (λ m. logs_of m c.args.stem.now) c.args.count c.loop-number.number c.loop-number.logs c.in_ok-opened.field-0
    c.in-Valid.opened c.in-Valid.claim c.in-Some.defect inv.frame.same c.loop-number.auto.number c.loop-number-test.true c.in-Valid.is c.in-Some.ensures inv.checked c.in_ok-opened.ensures.checked

pub returns-in-Bad-clause-checked : goal.returns-in-Bad-clause-checked
returns-in-Bad-clause-checked g c =
    let inv = c.loop-number.invariant in
    one-bad c.args.plant.now (g.F.Shelf.files c.args.files.now) (g.F.Shelf.files c.loop-number.files) (λ m. logs_of m c.args.stem.now) c.args.count c.loop-number.number c.loop-number.logs c.in_ok-opened.field-0
    c.in-Bad.defect inv.frame.same c.loop-number-test.true c.in-Bad.is inv.checked c.in_ok-opened.ensures.checked

pub loop-number-preserved : goal.loop-number-preserved
loop-number-preserved g c =
    let inv = c.loop-number.invariant in
    let said = c.in_ok-opened.ensures in
    let pushed = c.in_ok-push_log-in-Valid.ensures in
    let old = c.loop-number.logs in
    let new = c.push_log.new.logs in
    let same = same-head old.first.head.declared c.in-Valid.opened.head.declared c.other_head.result c.in_default.not-Some c.other_head.ensures in
    record {
      checked = more-checked old c.in-Valid.opened.head c.in-Valid.claim new c.loop-number.number inv.known pushed c.args.plant.now (g.F.Shelf.files c.args.files.now) (g.F.Shelf.files c.loop-number.files) (λ m. logs_of m c.args.stem.now)
          c.in_ok-opened.field-0 c.in-Valid.opened inv.frame.same c.in-Valid.is refl same inv.checked said.checked;
      known = more-known old c.in-Valid.opened.head c.in-Valid.claim new c.loop-number.number inv.known pushed;
      frame = record {
        same = said.frame.same ∙ inv.frame.same;
        readable = said.frame.readable ∙ inv.frame.readable;
        writable = said.frame.writable ∙ inv.frame.writable;
        later = omega (arith, said.frame.later, inv.frame.later);
        no_write = said.frame.no_write ∙ inv.frame.no_write;
      };
    }

pub returns-clause-checked : goal.returns-clause-checked
returns-clause-checked g c =
    let last : c.loop-number.number ≡ c.args.count = omega (arith, c.loop-number-test.false, c.requires.can.some) in
    subst (λ (n : ℕ). IfSome (g.F.Shelf.files c.args.files.now) (λ m. AreCheckedTo c.args.plant.now n (logs_of m c.args.stem.now) c.loop-number.logs)) last c.loop-number.invariant.checked

pub returns-clause-known : goal.returns-clause-known
returns-clause-known g c =
    let last : c.loop-number.number ≡ c.args.count = omega (arith, c.loop-number-test.false, c.requires.can.some) in
    subst (λ (n : ℕ). AreKnownTo n c.loop-number.logs) last c.loop-number.invariant.known
