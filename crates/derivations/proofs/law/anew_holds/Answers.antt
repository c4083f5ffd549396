-- Derivations that are looked at anew hold.
use Rattle.derivations.proofs.Again.{anew-holds, shown-stand}
use Rattle.derivations.proofs.law.anew_holds.Goals as goal

pub returns : goal.returns
returns c = record { hold = anew-holds; shown = shown-stand }
