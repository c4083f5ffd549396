use Rattle.std.proofs.Common.{◌≡◌, ◌++◌, take}
use Rattle.setup_lines.specs.Line.{setups_text}
use Rattle.setup_lines.proofs.printing.put_all.Given as goal

abbrev pub invariant-loop-unit : goal.invariant-loop-unit
invariant-loop-unit l = l.text.items ≡ l.initial.text.items ++ setups_text (take l.unit-index l.units)
