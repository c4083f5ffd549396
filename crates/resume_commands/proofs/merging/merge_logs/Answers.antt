-- What merging came to is told.
use Rattle.resume_commands.proofs.MergeLemmas.{merge-status}
use Rattle.resume_commands.proofs.merging.merge_logs.Goals as goal

pub returns-in_ok-told-in-Ok-clause-answer : goal.returns-in_ok-told-in-Ok-clause-answer
returns-in_ok-told-in-Ok-clause-answer g c = record {
  said = c.in-Ok.said;
  right = c.in-Ok.ensures.merged;
  says = c.in-Ok.ensures.says;
  kept = c.in-Ok.ensures.kept;
  status_is = c.in_ok-told-in-Ok.ensures.0;
  text_is = c.in_ok-told-in-Ok.ensures.1;
}

pub returns-in_ok-told-in-Ok-clause-refused : goal.returns-in_ok-told-in-Ok-clause-refused
returns-in_ok-told-in-Ok-clause-refused g c = λ none. absurd (merge-status c.in-Ok.said _ c.in_ok-told-in-Ok.ensures.0 none)
