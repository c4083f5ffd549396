-- The greatest so far and the greatest of the rest give the greatest.
use Rattle.std.proofs.Common.{◌≡◌, ◌≤◌, max, drop}
use Rattle.row_kit.specs.Change.{listed_cost}
use Rattle.row_kit.proofs.changeover.listed_cost.Given as goal

abbrev pub invariant-loop-change : goal.invariant-loop-change
invariant-loop-change l = record {
  whole : max l.most (listed_cost (drop l.change-index l.changes) l.from.lane l.from.kind l.to.kind) ≡ listed_cost l.changes l.from.lane l.from.kind l.to.kind;
  small : l.most ≤ 1000000;
}
