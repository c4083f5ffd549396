use Rattle.std.proofs.Common.{subst}
use Rattle.proof_log.specs.Writer.{Took, Broke}
use Rattle.proof_log.proofs.Writing.{Took-then, Took-broke, items_more}
use Rattle.proof_log.proofs.writer.LogWriterNodeTakerRows.put.Goals as goal

pub returns-in-Ok-clause-took : goal.returns-in-Ok-clause-took
returns-in-Ok-clause-took g c =
    λ taker outside items before.
    subst (Took _ _) (items_more items c.args.item.now) (Took-then _ _ _ _ _ before c.in-Ok.ensures.took)

pub returns-in-Err-Failed-clause-broke : goal.returns-in-Err-Failed-clause-broke
returns-in-Err-Failed-clause-broke g c =
    λ taker outside items before.
    subst (Broke _ _) (items_more items c.args.item.now) (Took-broke _ _ _ _ _ before c.in-Err-Failed.ensures.broke)

pub returns-in-Err-Memory-clause-broke : goal.returns-in-Err-Memory-clause-broke
returns-in-Err-Memory-clause-broke g c =
    λ taker outside items before.
    subst (Broke _ _) (items_more items c.args.item.now) (Took-broke _ _ _ _ _ before c.in-Err-Memory.ensures.broke)
