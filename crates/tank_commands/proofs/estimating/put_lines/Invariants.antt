-- The plant has other states alone, and a line for each plant so far has been put.
use Rattle.std.proofs.Common.{◌≡◌, ℕ, List, ◌++◌}
use Rattle.proof_tree.specs.Tree.{tree_of}
use Rattle.what_if.specs.Raised.{raised, with_states}
use Rattle.tank_commands.specs.Estimating.{AreLines, IsTankLine}
use Rattle.tank_commands.proofs.estimating.put_lines.Given as goal

abbrev pub invariant-loop-times : goal.invariant-loop-times
invariant-loop-times l = record {
  same : l.raised ≡ with_states l.fn.plant l.raised.states;
  lines : (lines : List ℕ) × ((l.text.items ≡ l.initial.text.items ++ lines)
      × AreLines (λ times. IsTankLine (raised l.fn.plant l.number l.steps.step times) l.log.head (tree_of l.log.tree) l.plan times) l.times lines);
}
