use Rattle.std.proofs.Common.{false, [], ◌∷◌, pos}
use Rattle.log_lines.proofs.NumberTexts.{reads_none, reads_stop, reads_more}
use Rattle.log_lines.proofs.numbers.three.Goals as goal

pub returns-in-Some-pair : goal.returns-in-Some-pair
returns-in-Some-pair c = reads_more (false ∷ false ∷ []) (pos c.in-Some-pair.second ∷ pos c.in-Some-pair.third ∷ []) c.in-Some.ensures c.in-Some-pair.ensures

pub returns-in-None-pair : goal.returns-in-None-pair
returns-in-None-pair c = reads_stop (false ∷ false ∷ []) c.in-Some.ensures c.in-None-pair.ensures

pub returns-in-None : goal.returns-in-None
returns-in-None c = reads_none false (false ∷ false ∷ []) c.args.text.now c.in-None.ensures
