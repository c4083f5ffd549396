use Rattle.std.proofs.Common.{MatchOption, subst}
use Rattle.proof_log.specs.LogReading.{HasRead, IsPartAfter}
use Rattle.proof_log.proofs.log_reader.LogReader.next.Goals as goal

pub returns-in-Some-clause-part : goal.returns-in-Some-clause-part
returns-in-Some-clause-part g c version head limits items claim is =
    let told = g.F.Shelf.files c.lines.files in
    let name = c.args.name.now in
    let new = c.step.new.self in
    let read = c.lines.invariant.reads version head limits items claim is in
    let part = subst (λ o. MatchOption o (HasRead told name version head limits items claim new) (IsPartAfter told name version head limits items claim new)) c.in-Some.is (c.in_ok-part.ensures.part version head limits items claim read) in
    subst (λ t. IsPartAfter t name version head limits items claim new c.in-Some.part) c.lines.invariant.same part

pub step-requires-clause-open : goal.step-requires-clause-open
step-requires-clause-open g c =
    let had = c.requires.open in
    (had.0, had.1, had.2, had.3, had.4, c.lines.invariant.reads had.0 had.1 had.2 had.3 had.4 had.5)
