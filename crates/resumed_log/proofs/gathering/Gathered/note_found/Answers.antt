-- The point is offered.
use Rattle.std.proofs.lemmas.Result.{on_ok_weaker}
use Rattle.resumed_log.proofs.gathering.Gathered.note_found.Goals as goal

pub returns-in-Some : goal.returns-in-Some
returns-in-Some c = λ most rows can. on_ok_weaker c.offer.result (λ keeps. keeps most rows can) c.offer.ensures
