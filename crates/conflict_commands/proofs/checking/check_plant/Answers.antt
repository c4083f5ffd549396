-- The answer of a verdict.
use Rattle.conflict_commands.proofs.checking.check_plant.Goals as goal

pub returns-clause-answer : goal.returns-clause-answer
returns-clause-answer g c = record {
  verdict = c.in_ok-verdict.verdict;
  right = c.in_ok-verdict.ensures.right;
  says = c.in_ok-verdict.ensures.says;
  status_is = c.in_ok-checked.ensures.0;
  text_is = c.in_ok-checked.ensures.1;
}
