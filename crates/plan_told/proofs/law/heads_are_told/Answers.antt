-- The law of what is told.
use Rattle.plan_told.proofs.ToldByHead.{told-by_head}
use Rattle.plan_told.proofs.law.heads_are_told.Goals as goal

pub returns : goal.returns
returns c = told-by_head
