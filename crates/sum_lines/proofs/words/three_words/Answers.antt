use Rattle.std.proofs.Common.{[], ◌∷◌, arith}
use Rattle.sum_lines.proofs.WordTexts.{words_none, words_stop, words_more}
use Rattle.sum_lines.proofs.words.three_words.Goals as goal

pub returns-in-Some-two_words : goal.returns-in-Some-two_words
returns-in-Some-two_words c = words_more c.args.text.now c.in-Some.first.now c.in-Some.rest.now (c.in-Some-two_words.second.now ∷ c.in-Some-two_words.third.now ∷ []) c.in-Some.ensures c.in-Some-two_words.ensures

pub returns-in-None-two_words : goal.returns-in-None-two_words
returns-in-None-two_words c = words_stop 2 c.args.text.now c.in-Some.first.now c.in-Some.rest.now c.in-Some.ensures c.in-None-two_words.ensures

pub returns-in-None : goal.returns-in-None
returns-in-None c = words_none 3 c.args.text.now (omega arith) c.in-None.ensures
