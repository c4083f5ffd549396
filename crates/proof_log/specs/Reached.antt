-- How far the reading of a log has come.
use Rattle.std.specs.Prelude.{ℕ, List, Option, IfSome}
use Rattle.stn_edge.specs.Files.{FileMap, file_of}
use Rattle.proof_tree.specs.Built.{IsBuilt}
use Rattle.log_lines.specs.declared.grammar.Limits.{Limits}
use Rattle.proof_log.specs.declared.log_reader.LogReader.{LogReader}
use Rattle.proof_log.specs.declared.read.Reached.{Reached}
use Rattle.proof_log.specs.declared.read.Reached.TheVariants.{Part, Log as LogReached}
use Rattle.row_relax.specs.RowProofs.{RowItem}
use Rattle.proof_log.specs.LogReading.{HasRead, IsRead}

-- what a reader has read was built of its items, with its claim; or the whole log was read
abbrev pub HasReached : Option FileMap → List ℕ → Limits → LogReader → Reached → Type 0
HasReached told name limits reader (Part built claim) = (items : List RowItem) × HasRead told name 2 0 limits items claim reader × IsBuilt items built
HasReached told name limits reader (LogReached log) = IfSome told (λ m. IsRead limits (file_of m name) log)
