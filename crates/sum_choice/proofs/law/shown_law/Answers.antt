-- What the range of a declared sum shows.
use Rattle.sum_choice.proofs.SumBounds.{shown_law}
use Rattle.sum_choice.proofs.law.shown_law.Goals as goal

pub returns : goal.returns
returns c = shown_law
