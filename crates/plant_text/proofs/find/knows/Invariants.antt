use Rattle.std.proofs.Common.{◌≡◌, drop}
use Rattle.plant_text.specs.Fields.{is_known}
use Rattle.plant_text.proofs.find.knows.Given as goal

abbrev pub invariant-loop-key : goal.invariant-loop-key
invariant-loop-key l = is_known (drop l.key-index l.keys) l.word ≡ is_known l.keys l.word
