-- What going on came to is told.
use Rattle.resume_commands.proofs.Telling.{told-status}
use Rattle.resume_commands.proofs.resuming.resume_plant.Goals as goal

pub tell-requires-clause-says : goal.tell-requires-clause-says
tell-requires-clause-says g c = c.in-Ok.ensures.says

pub returns-in_ok-tell-in-Ok-clause-answer : goal.returns-in_ok-tell-in-Ok-clause-answer
returns-in_ok-tell-in-Ok-clause-answer g c = record {
  share = c.share_of.result;
  share_is = c.share_of.ensures;
  said = c.in-Ok.said;
  right = c.in-Ok.ensures.resumed;
  says = c.in-Ok.ensures.says;
  tells = c.in_ok-tell-in-Ok.ensures;
}

pub returns-in_ok-tell-in-Ok-clause-refused : goal.returns-in_ok-tell-in-Ok-clause-refused
returns-in_ok-tell-in-Ok-clause-refused g c = λ none. absurd (told-status c.args.plant.now c.in-Ok.said _ _ c.in_ok-tell-in-Ok.ensures none)
