-- Items that a writer takes one after another. Only clauses of what merges cite it.
use Rattle.std.specs.Prelude.{◌+◌, ℕ, List, ◌++◌, Option}
use Rattle.stn_edge.specs.Files.{FileMap}
use Rattle.proof_log.specs.declared.writer.LogWriter.{LogWriter}
use Rattle.row_relax.specs.RowProofs.{RowItem}
use Rattle.log_parts.specs.laws.Copying.{HasItems}

-- whatever items a writer had, it has these behind them now
abbrev pub PutsItems : LogWriter → Option FileMap → LogWriter → Option FileMap → List RowItem → Type 0
PutsItems writer old later new added = (front : List ℕ) (items : List RowItem) → HasItems front writer old items → HasItems front later new (items ++ added)
