-- A node was read, and what stands below it is left to read.
use Rattle.std.proofs.Common.{◌∙◌, ◌+◌, ℕ, Option, IfSome, ap, subst}
use Rattle.log_nodes.specs.declared.node.Node.{Node}
use Rattle.log_nodes.specs.Reading.{ReadsOn}
use Rattle.log_nodes.specs.laws.Nodes.{node_items}
use Rattle.log_nodes.proofs.skipping.skip_node.Goals as goal

pub returns-clause-skipped : goal.returns-clause-skipped
returns-clause-skipped g c = record {
  node = c.in-Some.node;
  read = subst (λ (o : Option Node). IfSome o (λ n. ReadsOn (g.F.Shelf.files c.args.files.now) c.args.name.now c.args.reader.now (node_items n) c.read_node.new.reader)) c.in-Some.is c.in_ok-node.ensures.read;
  left = c.in_ok-put_parts.ensures;
  sum = c.in-Some-sum_of.ensures ∙ ap (λ (n : ℕ). c.args.boxes + n) c.boxes_at.ensures;
}
