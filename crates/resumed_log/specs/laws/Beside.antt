-- What is written beside the other files. Only clauses of private functions cite it.
use Rattle.std.specs.Prelude.{List, ℕ, string_bytes, refl}
use Rattle.proof_log.specs.Writer.{KeepsOthers, Writing}
use Rattle.resumed_log.specs.declared.new_log.Out.{Out}

-- where nothing was written, all other files are as before
pub kept-none : (at : Writing) → KeepsOthers at at
kept-none at = record { name = refl; others = λ other apart. refl; reads = refl; may_read = refl; may_write = refl }

-- the name of the file that is written
abbrev pub out_name : Out → List ℕ
out_name out = string_bytes out.writer.name
