-- The items that were read were built, and the claim is the one that was read.
use Rattle.std.proofs.Common.{◌≡◌, List, Some, codes}
use Rattle.proof_tree.specs.Built.{IsBuilt}
use Rattle.row_relax.specs.RowProofs.{RowItem}
use Rattle.proof_log.specs.LogReading.{HasRead}
use Rattle.proof_log.proofs.read.read_parts.Given as goal

abbrev pub invariant-parts : goal.invariant-parts
invariant-parts l = record {
  same : l.shelf.files ≡ l.initial.shelf.files;
  read : (items : List RowItem) × HasRead (Some l.shelf.files) (codes "log") 2 0 l.fn.limits items l.claim l.reader × IsBuilt items l.built;
}
