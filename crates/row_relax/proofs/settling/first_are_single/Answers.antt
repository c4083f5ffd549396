-- The slot of this round has one value too.
use Rattle.std.proofs.Common.{◌∙◌, sym, subst, arith}
use Rattle.row_kit.specs.Area.{present}
use Rattle.row_kit.specs.Domain.{IsSingle}
use Rattle.row_relax.proofs.OnlyPoints.{single_more}
use Rattle.row_relax.proofs.settling.first_are_single.Goals as goal

pub loop-slot-preserved : goal.loop-slot-preserved
loop-slot-preserved c =
    single_more (present c.args.area.now) c.loop-slot.slot (omega (arith, c.loop-slot-test.true, c.requires)) c.loop-slot.invariant
    (subst IsSingle c.domain.ensures.value (sym c.count.ensures.count ∙ c.if-count-ne1.false))
