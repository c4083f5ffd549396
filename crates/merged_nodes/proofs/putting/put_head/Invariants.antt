-- The node and its cuts so far were put.
use Rattle.std.proofs.Common.{◌≡◌, ◌∷◌, map, take}
use Rattle.store_frames.specs.Frames.{WritesOne}
use Rattle.proof_tree.specs.declared.item.Item.TheVariants.{Cut, Node}
use Rattle.log_parts.specs.laws.Copying.{name_of}
use Rattle.merged_nodes.specs.laws.Puts.{PutsItems}
use Rattle.merged_nodes.proofs.putting.put_head.Given as goal

abbrev pub invariant-loop-cut : goal.invariant-loop-cut
invariant-loop-cut g l = record {
  put : PutsItems l.fn.writer (g.F.Shelf.files l.fn.files) l.writer (g.F.Shelf.files l.files) (Node ∷ map Cut (take l.cut-index l.cuts));
  named : name_of l.writer ≡ name_of l.fn.writer;
  frame : WritesOne g.F.Shelf (name_of l.fn.writer) l.fn.files l.files;
}
