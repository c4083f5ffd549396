-- One slot more is trimmed, by its domain before.
use Rattle.std.proofs.Common.{◌<◌, length, ap, arith, ◌+ℤ◌}
use Rattle.row_kit.specs.declared.domain.Domain.{Domain}
use Rattle.row_kit.specs.Area.{present}
use Rattle.row_kit.specs.Domain.{domain_at, values_of}
use Rattle.dual_bound.specs.Line.{line_at, slot_line}
use Rattle.dual_bound.specs.Total.{greatest}
use Rattle.dual_bound.specs.Trimmed.{passing}
use Rattle.dual_bound.specs.laws.Reach.{must_reach, reaches}
use Rattle.dual_bound.proofs.Trims.{trimmed_all, trimmed_more}
use Rattle.dual_bound.proofs.trimming.trim_slots.Goals as goal

pub loop-slot-preserved : goal.loop-slot-preserved
loop-slot-preserved c =
    let old = c.args.area.now in
    let now' = c.loop-slot.area in
    let slot = c.loop-slot.slot in
    let spare = c.args.spare.now in
    let line = slot_line c.args.lines.now slot in
    let test = must_reach c.args.lines.now spare (present old) in
    let d = passing (reaches line (spare +ℤ greatest (line_at line) (values_of (domain_at (present now') slot)))) (domain_at (present now') slot) in
    let lt : slot < length (present old) = omega (arith, c.loop-slot-test.true, c.loop-slot.auto.slot-end, c.slot_count-slot-end.ensures.count) in
    let same = c.loop-slot.invariant.rest slot (omega arith) in
    let e = ap (λ (x : Domain). passing (reaches line (spare +ℤ greatest (line_at line) (values_of x))) (domain_at (present now') slot)) same in
    trimmed_more test old now' c.trim_slot.new.area slot d lt c.loop-slot.invariant e c.trim_slot.ensures.marks c.trim_slot.ensures.fewer

pub returns-clause-left : goal.returns-clause-left
returns-clause-left c =
    let old = c.args.area.now in
    trimmed_all (must_reach c.args.lines.now c.args.spare.now (present old)) old c.loop-slot.area c.loop-slot.slot
    (omega (arith, c.loop-slot-test.false, c.loop-slot.auto.slot-end, c.slot_count-slot-end.ensures.count)) c.loop-slot.invariant
