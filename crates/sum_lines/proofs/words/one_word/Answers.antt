use Rattle.std.proofs.Common.{arith}
use Rattle.sum_lines.proofs.WordTexts.{words_none, words_one, words_longer}
use Rattle.sum_lines.proofs.words.one_word.Goals as goal

pub returns-then-is_empty : goal.returns-then-is_empty
returns-then-is_empty c = words_one c.args.text.now c.in-Some.word.now c.in-Some.rest.now c.in-Some.ensures (grind arith)

pub returns-else-is_empty : goal.returns-else-is_empty
returns-else-is_empty c = words_longer c.args.text.now c.in-Some.word.now c.in-Some.rest.now c.in-Some.ensures (grind arith)

pub returns-in-None : goal.returns-in-None
returns-in-None c = words_none 1 c.args.text.now (omega arith) c.in-None.ensures
