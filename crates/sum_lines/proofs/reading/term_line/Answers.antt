use Rattle.std.specs.Prelude.{codes}
use Rattle.sum_lines.proofs.LineWords.{rest_read, term_none}
use Rattle.sum_lines.proofs.reading.term_line.Goals as goal

pub returns-in-Some : goal.returns-in-Some
returns-in-Some c = rest_read (codes "term") c.args.rest.now _ c.term_with.result c.in-Some.ensures c.term_with.ensures

pub returns-in-None : goal.returns-in-None
returns-in-None c = term_none c.args.rest.now c.in-None.ensures
