use Rattle.std.proofs.Common.{rules}
use Rattle.plan_text.specs.PlanText.{after_line}
use Rattle.plan_text.proofs.read.take_line.Goals as goal

pub returns-then-is_comment : goal.returns-then-is_comment
unfolding after_line
returns-then-is_comment c = search rules

pub returns-then-len-most_starts : goal.returns-then-len-most_starts
unfolding after_line
returns-then-len-most_starts c = search rules

pub returns-in_ok-push-in-Ok : goal.returns-in_ok-push-in-Ok
unfolding after_line
returns-in_ok-push-in-Ok c = search rules

pub returns-in-Err : goal.returns-in-Err
unfolding after_line
returns-in-Err c = search rules
