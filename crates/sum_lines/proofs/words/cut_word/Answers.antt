use Rattle.std.proofs.Common.{sym, ◌∙◌}
use Rattle.log_lines.proofs.NumberTexts.{cut_there, cut_nowhere}
use Rattle.sum_lines.proofs.words.cut_word.Goals as goal

pub returns-in-Some : goal.returns-in-Some
returns-in-Some c = rw (c.split_at.ensures.front, c.split_at.ensures.back) (cut_there c.args.text.now c.in-Some.place (sym c.blank_place.ensures ∙ c.in-Some.is))

pub returns-in-None : goal.returns-in-None
returns-in-None c = cut_nowhere c.args.text.now (sym c.blank_place.ensures ∙ c.in-None.is)
