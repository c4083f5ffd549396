use Rattle.std.proofs.Common.{false, [], ◌∷◌, pos}
use Rattle.log_lines.proofs.NumberTexts.{reads_none, reads_stop, reads_more}
use Rattle.log_lines.proofs.numbers.four.Goals as goal

pub returns-in-Some-three : goal.returns-in-Some-three
returns-in-Some-three c = reads_more (false ∷ false ∷ false ∷ []) (pos c.in-Some-three.second ∷ pos c.in-Some-three.third ∷ pos c.in-Some-three.fourth ∷ []) c.in-Some.ensures c.in-Some-three.ensures

pub returns-in-None-three : goal.returns-in-None-three
returns-in-None-three c = reads_stop (false ∷ false ∷ false ∷ []) c.in-Some.ensures c.in-None-three.ensures

pub returns-in-None : goal.returns-in-None
returns-in-None c = reads_none false (false ∷ false ∷ false ∷ []) c.args.text.now c.in-None.ensures
