use Rattle.std.proofs.Common.{◌≡◌, ◌++◌, take}
use Rattle.std.specs.List.{flat_map}
use Rattle.answer_texts.specs.Violations.{breach_line}
use Rattle.answer_texts.proofs.violations.add_lines.Given as goal

abbrev pub invariant-loop-breach : goal.invariant-loop-breach
invariant-loop-breach l = l.text.items ≡ l.initial.text.items ++ flat_map (breach_line l.plant) (take l.breach-index l.found)
