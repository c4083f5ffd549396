use Rattle.std.proofs.Common.{◌≡◌, ◌++◌, List, ap, sym, subst, Err, IfSome, Option, arith, ◌∙◌, Ok, refl}
use Rattle.stn_edge.specs.Files.{FileMap, file_of}
use Rattle.sum_lines.specs.Front.{IsBadAt, IsHeaded, MayOpen, NoneFirst}
use Rattle.sum_lines.specs.Head.{AreKept, IsKeptHead, begins_on, lines_of, sum_lines}
use Rattle.sum_lines.specs.declared.halt.Halt.TheVariants as halt
use Rattle.sum_lines.specs.declared.line.HeadLine.{HeadLine}
use Rattle.sum_lines.specs.laws.Sums.{IsSumKept}
use Rattle.sum_lines.specs.laws.Walk.{HasPassed, rest_after}
use Rattle.sum_lines.proofs.SumLines.{bad_head, begins_next, head_kept, head_told, more_kept, none_kept, passed_sum}
use Rattle.sum_lines.proofs.sums.read_sums.Goals as goal

pub sums-init : goal.sums-init
sums-init g c = record {
  same = refl;
  readable = refl;
  writable = refl;
  no_write = refl;
  later = omega arith;
  kept = subst (AreKept c.args.version c.args.limits.now) (sym c.new-sums.ensures) (none_kept c.args.version c.args.limits.now);
  begins = c.new-lines.ensures ∙ ap (begins_on 2) (sym c.new-sums.ensures);
  passed = subst (λ ss. HasPassed (g.F.Shelf.files c.args.files.now) c.args.name.now c.args.version (lines_of ss) c.args.walk.now) (sym c.new-sums.ensures) c.requires.passed;
}

pub sums-preserved : goal.sums-preserved
sums-preserved g c =
    let i = c.sums.invariant in
    let files = g.F.Shelf.files c.args.files.now in
    let name = c.args.name.now in
    let limits = c.args.limits.now in
    let sums = c.sums.sums in
    let sum = c.in-Ok-Some.sum in
    let is = c.in_ok-push-in-Ok-Some.ensures.ok in
    let kept = subst (λ f. IfSome f (IsSumKept c.args.version limits c.len.result)) c.in-Ok-Some.field-0-is c.in-Ok-Some.ensures.sum in
    let goes = subst (λ f. IfSome f (λ s. (ls : List HeadLine) → HasPassed (g.F.Shelf.files c.sums.files) name c.args.version ls c.sums.walk → HasPassed (g.F.Shelf.files c.sums.files) name c.args.version (ls ++ sum_lines s) c.next_sum.new.walk)) c.in-Ok-Some.field-0-is c.in-Ok-Some.ensures.goes in
    let there = subst (λ (f : Option FileMap). HasPassed f name c.args.version (lines_of sums) c.sums.walk) (sym i.same) i.passed in
    let here = subst (λ (f : Option FileMap). HasPassed f name c.args.version (lines_of sums ++ sum_lines sum) c.next_sum.new.walk) i.same (goes (lines_of sums) there) in
    record {
      same = cc;
      readable = cc;
      writable = cc;
      no_write = cc;
      later = omega arith;
      kept = subst (AreKept c.args.version limits) (sym is) (more_kept c.args.version limits sums sum i.kept (subst (λ n. IsSumKept c.args.version limits n sum) c.len.ensures kept));
      begins = begins_next c.sums.lines c.push-in-Ok-Some.new.self sums sum c.sums.walk.line i.begins c.in_ok-push-in-Ok-Some-2.ensures.ok i.passed.line ∙ ap (begins_on 2) (sym is);
      passed = subst (λ ss. HasPassed files name c.args.version (lines_of ss) c.next_sum.new.walk) (sym is) (passed_sum files name c.args.version sums sum c.next_sum.new.walk here);
    }

pub returns-in-Ok-None-clause-kept : goal.returns-in-Ok-None-clause-kept
returns-in-Ok-None-clause-kept g c =
    let i = c.sums.invariant in
    let made = c.head_with.ensures in
    subst (IsKeptHead c.args.limits.now) (sym made.is) (head_kept (g.F.Shelf.files c.args.files.now) c.args.name.now c.args.version c.args.limits.now c.sums.sums c.sums.lines c.sums.walk c.requires.version i.kept i.begins i.passed made.small)

pub returns-in-Ok-None-clause-head : goal.returns-in-Ok-None-clause-head
returns-in-Ok-None-clause-head g c =
    let i = c.sums.invariant in
    let made = c.head_with.ensures in
    let files = g.F.Shelf.files c.args.files.now in
    let name = c.args.name.now in
    let limits = c.args.limits.now in
    let there = subst (λ (f : Option FileMap). HasPassed f name c.args.version (lines_of c.sums.sums) c.sums.walk) (sym i.same) i.passed in
    let ends = subst (λ (f : Option FileMap). IfSome f (λ m. NoneFirst (MayOpen limits.slots) (rest_after c.args.version (lines_of c.sums.sums) (file_of m name)))) i.same (c.in-Ok-None.ensures.ends (ap Ok c.in-Ok-None.field-0-is) (lines_of c.sums.sums) there) in
    subst (λ head. IfSome files (λ m. IsHeaded limits (file_of m name) head)) (sym made.is)
    (head_told files name c.args.version limits c.sums.sums c.sums.lines c.sums.walk (head_kept files name c.args.version limits c.sums.sums c.sums.lines c.sums.walk c.requires.version i.kept i.begins i.passed made.small) i.passed ends)

pub returns-in-Err-clause-bad : goal.returns-in-Err-clause-bad
returns-in-Err-clause-bad g c defect is =
    let i = c.sums.invariant in
    let files = g.F.Shelf.files c.args.files.now in
    let name = c.args.name.now in
    let own : c.in-Err.halt ≡ halt.Bad defect = cc in
    let there = subst (λ (f : Option FileMap). HasPassed f name c.args.version (lines_of c.sums.sums) c.sums.walk) (sym i.same) i.passed in
    let bad = c.in-Err.ensures.bad defect (ap Err own) (lines_of c.sums.sums) there in
    bad_head files name c.args.version c.args.limits.now c.sums.sums c.len.result defect c.requires.version i.kept c.len.ensures (subst (λ (f : Option FileMap). IfSome f (λ m. IsBadAt c.args.version c.args.limits.now c.len.result (lines_of c.sums.sums) (file_of m name) defect)) i.same bad)
