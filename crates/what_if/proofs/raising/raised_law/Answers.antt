-- By the parts of a sound plant.
use Rattle.what_if.proofs.RaisedSound.{raised-none, raised-sound}
use Rattle.what_if.proofs.raising.raised_law.Goals as goal

pub returns : goal.returns
returns c = record { sound = raised-sound; none = raised-none }
