use Rattle.std.proofs.Common.{◌≡◌, [], ◌∷◌, ◌++◌, ap, sym, subst, Err, IfSome, Option}
use Rattle.log_lines.specs.declared.defect.Defect.{Defect}
use Rattle.stn_edge.specs.Files.{FileMap, file_of}
use Rattle.sum_lines.specs.Front.{IsBadAt}
use Rattle.sum_lines.specs.Head.{opening_line}
use Rattle.sum_lines.specs.declared.halt.Halt.TheVariants as halt
use Rattle.sum_lines.specs.laws.Walk.{HasBadTerms, HasPassed, HasSeen}
use Rattle.sum_lines.proofs.SumLines.{none_opens, opening_bad, terms_bad}
use Rattle.sum_lines.proofs.sums.next_sum.Goals as goal

pub returns-in-Nothing-clause-ends : goal.returns-in-Nothing-clause-ends
returns-in-Nothing-clause-ends g c is lines passed =
    none_opens (g.F.Shelf.files c.args.files.now) c.args.name.now c.args.version lines c.next.new.self c.in_ok-seen.seen c.args.limits.now.slots (c.in_ok-seen.ensures.seen c.args.version lines passed) c.in-Nothing.ensures

pub returns-in-Bad-clause-bad : goal.returns-in-Bad-clause-bad
returns-in-Bad-clause-bad g c defect is lines passed =
    let files = g.F.Shelf.files c.args.files.now in
    let name = c.args.name.now in
    let made : Defect = record { line = c.args.walk.now.line; kind = c.in-Bad.kind } in
    let same : made ≡ defect = cc in
    let opened = c.in-Bad.ensures in
    let has = subst (HasSeen files name c.args.version lines c.next.new.self) opened.1 (c.in_ok-seen.ensures.seen c.args.version lines passed) in
    subst (λ d. IfSome files (λ m. IsBadAt c.args.version c.args.limits.now c.args.before lines (file_of m name) d)) same
    (opening_bad files name c.args.version c.args.limits.now c.args.before lines c.args.walk.now c.next.new.self opened.0 c.in-Bad.kind passed has opened.2 opened.3)

pub returns-in-Err-clause-bad : goal.returns-in-Err-clause-bad
returns-in-Err-clause-bad g c defect is lines passed =
    let files = g.F.Shelf.files c.args.files.now in
    let name = c.args.name.now in
    let own : c.in-Err.halt ≡ halt.Bad defect = cc in
    let opened = c.in-Sum.ensures in
    let has = subst (HasSeen files name c.args.version lines c.next.new.self) opened.0 (c.in_ok-seen.ensures.seen c.args.version lines passed) in
    let all = lines ++ opening_line c.in-Sum.sum c.in-Sum.count ∷ [] in
    let there = subst (λ (f : Option FileMap). HasPassed f name c.args.version all c.next.new.self) (sym c.next.ensures.frame.same) has.1 in
    let bad = c.in-Err.ensures.bad defect (ap Err own) c.args.version all there in
    terms_bad files name c.args.version c.args.limits.now c.args.before lines c.in-Sum.sum c.in-Sum.count defect (subst (λ (f : Option FileMap). HasBadTerms f name c.args.version c.args.limits.now.slots c.in-Sum.count all defect) c.next.ensures.frame.same bad) opened.1 opened.2
