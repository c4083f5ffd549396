use Rattle.std.proofs.Common.{◌≡◌, ◌+◌, ◌≤◌, length}
use Rattle.plan_text.specs.PlanText.{text_lines, plan_of_lines}
use Rattle.plan_text.proofs.Reading.{read_on}
use Rattle.plan_text.proofs.read.read_lines.Given as goal

abbrev pub invariant-loop-rest : goal.invariant-loop-rest
invariant-loop-rest l = record {
  goes_on : plan_of_lines l.plant (text_lines l.text) ≡ read_on l.plant l.number l.plan (text_lines l.rest);
  counted : l.number + length l.rest ≤ length l.text;
}

abbrev pub decreases-loop-rest : goal.decreases-loop-rest
decreases-loop-rest l = length l.rest
