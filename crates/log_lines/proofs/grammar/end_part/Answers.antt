use Rattle.std.proofs.Common.{arith, ◌∙◌}
use Rattle.log_lines.proofs.Sides.{turned_at}
use Rattle.log_lines.proofs.grammar.end_part.Goals as goal

pub returns-clause-sides : goal.returns-clause-sides
returns-clause-sides c = turned_at c.drop_rights.new.sides.items c.len-last.result (omega arith) (grind arith) c.drop_rights.ensures.left ∙ c.drop_rights.ensures.same
