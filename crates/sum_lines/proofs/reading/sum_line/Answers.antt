use Rattle.std.specs.Prelude.{codes}
use Rattle.sum_lines.proofs.LineWords.{rest_read, sum_none}
use Rattle.sum_lines.proofs.reading.sum_line.Goals as goal

pub returns-in-Some : goal.returns-in-Some
returns-in-Some c = rest_read (codes "sum") c.args.rest.now _ c.sum_with.result c.in-Some.ensures c.sum_with.ensures

pub returns-in-None : goal.returns-in-None
returns-in-None c = sum_none c.args.rest.now c.in-None.ensures
