-- The claim, and then the end.
use Rattle.std.proofs.Common.{None, Option, Some, subst, sym}
use Rattle.stn_edge.specs.Files.{FileMap}
use Rattle.proof_log.specs.LogReading.{HasRead, IsPartAfter}
use Rattle.log_nodes.proofs.Readings.{ends-clean}
use Rattle.log_nodes.proofs.ends.read_end.Goals as goal

pub next-requires-clause-open : goal.next-requires-clause-open
next-requires-clause-open g c = let on = c.requires.reading in (on.0, on.1.0, on.1.1.0, on.1.1.1.0, None, on.1.1.1.1)

pub next-requires-2-clause-open : goal.next-requires-2-clause-open
next-requires-2-clause-open g c =
    let name = c.args.name.now in
    let on = c.requires.reading in
    let reader = c.next.new.self in
    let claim = c.is_claim.ensures c.if-not-is_claim.false in
    let part = subst (IsPartAfter (g.F.Shelf.files c.args.files.now) name on.0 on.1.0 on.1.1.0 on.1.1.1.0 None reader) claim.2 (c.in_ok-claim.ensures.part on.0 on.1.0 on.1.1.0 on.1.1.1.0 None on.1.1.1.1) in
    (on.0, on.1.0, on.1.1.0, on.1.1.1.0, Some claim.1, subst (λ (told : Option FileMap). HasRead told name on.0 on.1.0 on.1.1.0 on.1.1.1.0 (Some claim.1) reader) (sym c.in_ok-claim.ensures.frame.same) part.3)

pub returns-clause-end : goal.returns-clause-end
returns-clause-end g c = λ whole.
    let told = g.F.Shelf.files c.args.files.now in
    let now = g.F.Shelf.files c.next.new.files in
    let name = c.args.name.now in
    let first = c.is_claim.ensures c.if-not-is_claim.false in
    let last = c.is_end.ensures whole in
    ends-clean told now name c.args.reader.now c.next.new.self c.next-2.new.self first.0 last.0 first.1 c.in_ok-claim.ensures.frame.same
    (λ version head limits items claim read. subst (IsPartAfter told name version head limits items claim c.next.new.self) first.2 (c.in_ok-claim.ensures.part version head limits items claim read))
    (λ version head limits items claim read. subst (IsPartAfter now name version head limits items claim c.next-2.new.self) last.1 (c.in_ok-end.ensures.part version head limits items claim read))
