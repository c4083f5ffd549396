use Rattle.std.proofs.Common.{◌≡◌, ◌++◌, ◌+◌, ℕ, List, Option, IfSome, Err, Ok, ap, sym, subst, ◌∙◌, arith, drop}
use Rattle.stn_edge.specs.Files.{FileMap, file_of}
use Rattle.sum_lines.specs.declared.halt.Halt.TheVariants as halt
use Rattle.derivation_lines.specs.declared.line.TailLine.{TailLine}
use Rattle.derivation_lines.specs.Front.{IsBadAt, IsTailed, MayBegin, NoneFirst}
use Rattle.derivations.specs.Growth.{rows_of}
use Rattle.derivation_lines.specs.Tail.{AreDerivationsKept, IsDerivationKept, IsTailKept, begins_on, derivation_lines, lines_of}
use Rattle.derivation_lines.specs.laws.Walk.{HasPassed, rest_after}
use Rattle.derivation_lines.proofs.TailsRead.{bad_tail, begins_next, few_more, line_later, lines_of-more, more_kept, rows_of-more, tail_kept, tail_told}
use Rattle.derivation_lines.proofs.tail_reading.read_tail.Goals as goal

pub derivations-smaller : goal.derivations-smaller
derivations-smaller g c =
    let i = c.derivations.invariant in
    let files = g.F.Shelf.files c.args.files.now in
    let name = c.args.name.now in
    let start = c.args.head.now.bytes in
    let number = 1 + c.args.head.now.count in
    let ds = c.derivations.derivations in
    let d = c.in-Ok-Some.derivation in
    let goes = subst (λ f. IfSome f (λ e. (s n : ℕ) (ls : List TailLine) → HasPassed (g.F.Shelf.files c.derivations.files) name s n ls c.derivations.walk → HasPassed (g.F.Shelf.files c.derivations.files) name s n (ls ++ derivation_lines e) c.next_derivation.new.walk))
    c.in-Ok-Some.field-0-is c.in-Ok-Some.ensures.goes in
    let there = subst (λ (f : Option FileMap). HasPassed f name start number (lines_of ds) c.derivations.walk) (sym i.same) i.passed in
    let later = line_later (g.F.Shelf.files c.derivations.files) name start number ds d c.derivations.walk c.next_derivation.new.walk there (goes start number (lines_of ds) there) in
    let small = c.next_derivation.ensures.line in
    omega (arith, later, small)

pub derivations-preserved : goal.derivations-preserved
derivations-preserved g c =
    let i = c.derivations.invariant in
    let files = g.F.Shelf.files c.args.files.now in
    let name = c.args.name.now in
    let limits = c.args.limits.now in
    let start = c.args.head.now.bytes in
    let number = 1 + c.args.head.now.count in
    let ds = c.derivations.derivations in
    let d = c.in-Ok-Some.derivation in
    let is = c.in_ok-push-in-Ok-Some.ensures.ok in
    let kept = subst (λ f. IfSome f (IsDerivationKept limits c.derivations.before)) c.in-Ok-Some.field-0-is c.in-Ok-Some.ensures.derivation in
    let goes = subst (λ f. IfSome f (λ e. (s n : ℕ) (ls : List TailLine) → HasPassed (g.F.Shelf.files c.derivations.files) name s n ls c.derivations.walk → HasPassed (g.F.Shelf.files c.derivations.files) name s n (ls ++ derivation_lines e) c.next_derivation.new.walk))
    c.in-Ok-Some.field-0-is c.in-Ok-Some.ensures.goes in
    let there = subst (λ (f : Option FileMap). HasPassed f name start number (lines_of ds) c.derivations.walk) (sym i.same) i.passed in
    let here = subst (λ (f : Option FileMap). HasPassed f name start number (lines_of ds ++ derivation_lines d) c.next_derivation.new.walk) i.same (goes start number (lines_of ds) there) in
    let count = c.rows_in-before.ensures in
    record {
      same = cc;
      readable = cc;
      writable = cc;
      no_write = cc;
      later = omega arith;
      few = omega (arith, few_more limits c.derivations.before d i.few kept, count);
      before = omega (arith, i.before, count, rows_of-more ds d) ∙ ap rows_of (sym is);
      kept = subst (AreDerivationsKept limits) (sym is) (more_kept limits c.derivations.before ds d i.kept i.before kept);
      begins = begins_next number c.derivations.lines c.push-in-Ok-Some.new.self ds d c.derivations.walk.line i.begins c.in_ok-push-in-Ok-Some-2.ensures.ok i.passed.line ∙ ap (begins_on number) (sym is);
      passed = subst (λ es. HasPassed files name start number (lines_of es) c.next_derivation.new.walk) (sym is) (subst (λ ls. HasPassed files name start number ls c.next_derivation.new.walk) (sym (lines_of-more ds d)) here);
    }

pub returns-in-Ok-None-clause-kept : goal.returns-in-Ok-None-clause-kept
returns-in-Ok-None-clause-kept g c =
    let i = c.derivations.invariant in
    let made = c.tail_with.ensures in
    subst (IsTailKept c.args.limits.now c.args.head.now) (sym made.is)
    (tail_kept (g.F.Shelf.files c.args.files.now) c.args.name.now c.args.limits.now c.args.head.now c.derivations.derivations c.derivations.lines c.derivations.walk i.kept i.begins i.passed made.small)

pub returns-in-Ok-None-clause-tail : goal.returns-in-Ok-None-clause-tail
returns-in-Ok-None-clause-tail g c =
    let i = c.derivations.invariant in
    let made = c.tail_with.ensures in
    let files = g.F.Shelf.files c.args.files.now in
    let name = c.args.name.now in
    let limits = c.args.limits.now in
    let head = c.args.head.now in
    let ds = c.derivations.derivations in
    let there = subst (λ (f : Option FileMap). HasPassed f name head.bytes (1 + head.count) (lines_of ds) c.derivations.walk) (sym i.same) i.passed in
    let ends = subst (λ (f : Option FileMap). IfSome f (λ m. NoneFirst (MayBegin limits.slots) (rest_after head.bytes (lines_of ds) (file_of m name)))) i.same (c.in-Ok-None.ensures.ends (ap Ok c.in-Ok-None.field-0-is) head.bytes (1 + head.count) (lines_of ds) there) in
    subst (λ tail. IfSome files (λ m. IsTailed limits head (file_of m name) tail)) (sym made.is)
    (tail_told files name limits head ds c.derivations.lines c.derivations.walk (tail_kept files name limits head ds c.derivations.lines c.derivations.walk i.kept i.begins i.passed made.small) i.passed ends)

pub returns-in-Err-clause-bad : goal.returns-in-Err-clause-bad
returns-in-Err-clause-bad g c defect is =
    let i = c.derivations.invariant in
    let files = g.F.Shelf.files c.args.files.now in
    let name = c.args.name.now in
    let limits = c.args.limits.now in
    let head = c.args.head.now in
    let ds = c.derivations.derivations in
    let own : c.in-Err.halt ≡ halt.Bad defect = cc in
    let there = subst (λ (f : Option FileMap). HasPassed f name head.bytes (1 + head.count) (lines_of ds) c.derivations.walk) (sym i.same) i.passed in
    let bad = c.in-Err.ensures.bad defect (ap Err own) head.bytes (1 + head.count) (lines_of ds) there in
    bad_tail files name limits head ds c.derivations.before defect i.kept i.before
    (subst (λ (f : Option FileMap). IfSome f (λ m. IsBadAt limits c.derivations.before (1 + head.count) (lines_of ds) (drop head.bytes (file_of m name)) defect)) i.same bad)
