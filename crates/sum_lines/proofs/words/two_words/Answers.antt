use Rattle.std.proofs.Common.{[], ◌∷◌, arith}
use Rattle.sum_lines.proofs.WordTexts.{words_none, words_stop, words_more}
use Rattle.sum_lines.proofs.words.two_words.Goals as goal

pub returns-in-Some-one_word : goal.returns-in-Some-one_word
returns-in-Some-one_word c = words_more c.args.text.now c.in-Some.first.now c.in-Some.rest.now (c.in-Some-one_word.second.now ∷ []) c.in-Some.ensures c.in-Some-one_word.ensures

pub returns-in-None-one_word : goal.returns-in-None-one_word
returns-in-None-one_word c = words_stop 1 c.args.text.now c.in-Some.first.now c.in-Some.rest.now c.in-Some.ensures c.in-None-one_word.ensures

pub returns-in-None : goal.returns-in-None
returns-in-None c = words_none 2 c.args.text.now (omega arith) c.in-None.ensures
