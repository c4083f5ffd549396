use Rattle.sum_lines.proofs.LineWords.{no_counts, no_parts}
use Rattle.sum_lines.proofs.NumberWords.{zero_word}
use Rattle.sum_lines.proofs.reading.term_with.Goals as goal

pub returns-then-per-eq0 : goal.returns-then-per-eq0
returns-then-per-eq0 c =
    let read = c.in-Some-read_parts.ensures in
    no_counts c.args.slot.now c.args.fixed.now c.args.per.now (zero_word c.args.fixed.now c.in-Some-read_parts.fixed read.0 c.if-fixed-eq0.true read.2) (zero_word c.args.per.now c.in-Some-read_parts.per read.1 c.if-per-eq0.true read.3)

pub returns-in-None-read_parts : goal.returns-in-None-read_parts
returns-in-None-read_parts c = no_parts c.args.slot.now c.args.fixed.now c.args.per.now c.in-None-read_parts.ensures
