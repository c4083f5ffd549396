use Rattle.std.proofs.Common.{true, false, [], ◌∷◌, pos}
use Rattle.log_lines.proofs.NumberTexts.{reads_none, reads_stop, reads_more, wide_same}
use Rattle.log_lines.proofs.numbers.signed_pair.Goals as goal

pub returns-in-Some-natural : goal.returns-in-Some-natural
returns-in-Some-natural c = rw (wide_same c.in-Some.number c.in-Some.ensures.short) (reads_more (false ∷ []) (pos c.in-Some-natural.last ∷ []) c.in-Some.ensures c.in-Some-natural.ensures)

pub returns-in-None-natural : goal.returns-in-None-natural
returns-in-None-natural c = reads_stop (false ∷ []) c.in-Some.ensures c.in-None-natural.ensures

pub returns-in-None : goal.returns-in-None
returns-in-None c = reads_none true (false ∷ []) c.args.text.now c.in-None.ensures
