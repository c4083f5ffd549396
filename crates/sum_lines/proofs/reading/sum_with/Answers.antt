use Rattle.sum_lines.proofs.LineWords.{no_rows}
use Rattle.sum_lines.proofs.reading.sum_with.Goals as goal

pub returns-in-None-read_rows : goal.returns-in-None-read_rows
returns-in-None-read_rows c = no_rows c.args.width.now c.args.offset.now c.args.low.now c.args.high.now c.args.count.now c.in-None-read_rows.ensures
