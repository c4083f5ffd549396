use Rattle.std.proofs.Common.{arith, pos, sym, None}
use Rattle.derivation_lines.proofs.PartLines.{last_row_at}
use Rattle.derivation_lines.proofs.pieces.last_row.Goals as goal

pub returns-in-len1-up : goal.returns-in-len1-up
returns-in-len1-up c = sym (last_row_at None c.args.factors.now (record { row = 0; by = pos 0 }) (omega arith))
