use Rattle.std.proofs.Common.{[], ◌∷◌, arith}
use Rattle.sum_lines.proofs.WordTexts.{words_none, words_stop, words_more}
use Rattle.sum_lines.proofs.words.five_words.Goals as goal

pub returns-in-Some-four_words : goal.returns-in-Some-four_words
returns-in-Some-four_words c = words_more c.args.text.now c.in-Some.first.now c.in-Some.rest.now (c.in-Some-four_words.second.now ∷ c.in-Some-four_words.third.now ∷ c.in-Some-four_words.fourth.now ∷ c.in-Some-four_words.fifth.now ∷ []) c.in-Some.ensures c.in-Some-four_words.ensures

pub returns-in-None-four_words : goal.returns-in-None-four_words
returns-in-None-four_words c = words_stop 4 c.args.text.now c.in-Some.first.now c.in-Some.rest.now c.in-Some.ensures c.in-None-four_words.ensures

pub returns-in-None : goal.returns-in-None
returns-in-None c = words_none 5 c.args.text.now (omega arith) c.in-None.ensures
