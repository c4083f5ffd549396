-- The rows so far are listed.
use Rattle.std.proofs.Common.{◌≡◌, length}
use Rattle.range_prop.specs.Index.{AreListed}
use Rattle.range_prop.proofs.index.RowIndex.new.Given as goal

abbrev pub invariant-loop-number : goal.invariant-loop-number
invariant-loop-number l = record {
  count : length l.slots.items ≡ length l.program.root;
  listed : AreListed l.program.rows l.number l.slots.items;
}
