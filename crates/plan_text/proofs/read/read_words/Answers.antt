use Rattle.std.proofs.Common.{rules}
use Rattle.plan_text.specs.PlanText.{start_of}
use Rattle.plan_text.proofs.read.read_words.Goals as goal

pub returns-then-is_empty : goal.returns-then-is_empty
unfolding start_of
returns-then-is_empty c = search rules

pub returns-then-is_empty-2 : goal.returns-then-is_empty-2
unfolding start_of
returns-then-is_empty-2 c = search rules

pub returns-in-Some-Some : goal.returns-in-Some-Some
unfolding start_of
returns-in-Some-Some c = search rules

pub returns-in_default : goal.returns-in_default
unfolding start_of
returns-in_default c = search rules

pub returns-in_default-2 : goal.returns-in_default-2
unfolding start_of
returns-in_default-2 c = search rules
