use Rattle.std.proofs.Common.{◌≡◌, ◌≤◌, ◌+◌, ◌*◌, drop}
use Rattle.plan_picture.specs.Columns.{columns}
use Rattle.plan_picture.proofs.columns.columns.Given as goal

abbrev pub invariant-loop-byte : goal.invariant-loop-byte
invariant-loop-byte l = record {
  value : l.count + columns (drop l.byte-index l.words) ≡ columns l.words;
  small : l.count ≤ 2 * l.byte-index;
}
