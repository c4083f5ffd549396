use Rattle.std.proofs.Common.{◌≡◌, ◌++◌, map, take, flat_map}
use Rattle.proof_tree.specs.declared.item.Item.TheVariants.{Cut}
use Rattle.proof_log.specs.Log.{lines_text, item_lines}
use Rattle.proof_log.proofs.nodes.put_cuts.Given as goal

abbrev pub invariant-loop-cut : goal.invariant-loop-cut
invariant-loop-cut l = l.into.items ≡ l.initial.into.items ++ lines_text (flat_map item_lines (map Cut (take l.cut-index l.cuts)))
