use Rattle.std.proofs.Common.{arith, pos, sym, None}
use Rattle.derivation_lines.proofs.PartLines.{last_slot_at}
use Rattle.derivation_lines.proofs.pieces.last_slot.Goals as goal

pub returns-in-len1-up : goal.returns-in-len1-up
returns-in-len1-up c = sym (last_slot_at None c.args.entries.now (record { slot = 0; fixed = pos 0; per = pos 0 }) (omega arith))
