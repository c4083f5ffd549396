use Rattle.std.proofs.Common.{[], ◌∷◌, arith}
use Rattle.sum_lines.proofs.WordTexts.{words_none, words_stop, words_more}
use Rattle.sum_lines.proofs.words.four_words.Goals as goal

pub returns-in-Some-three_words : goal.returns-in-Some-three_words
returns-in-Some-three_words c = words_more c.args.text.now c.in-Some.first.now c.in-Some.rest.now (c.in-Some-three_words.second.now ∷ c.in-Some-three_words.third.now ∷ c.in-Some-three_words.fourth.now ∷ []) c.in-Some.ensures c.in-Some-three_words.ensures

pub returns-in-None-three_words : goal.returns-in-None-three_words
returns-in-None-three_words c = words_stop 3 c.args.text.now c.in-Some.first.now c.in-Some.rest.now c.in-Some.ensures c.in-None-three_words.ensures

pub returns-in-None : goal.returns-in-None
returns-in-None c = words_none 4 c.args.text.now (omega arith) c.in-None.ensures
