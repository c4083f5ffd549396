use Rattle.std.proofs.Common.{true, false, [], ◌∷◌, pos}
use Rattle.log_lines.proofs.NumberTexts.{reads_none, reads_stop, reads_more, wide_same}
use Rattle.log_lines.proofs.numbers.signed_three.Goals as goal

pub returns-in-Some-signed_pair : goal.returns-in-Some-signed_pair
returns-in-Some-signed_pair c = rw (wide_same c.in-Some.number c.in-Some.ensures.short, wide_same c.in-Some-signed_pair.second c.in-Some-signed_pair.ensures.0.0) (reads_more (true ∷ false ∷ []) (c.in-Some-signed_pair.second ∷ pos c.in-Some-signed_pair.last ∷ []) c.in-Some.ensures c.in-Some-signed_pair.ensures)

pub returns-in-None-signed_pair : goal.returns-in-None-signed_pair
returns-in-None-signed_pair c = reads_stop (true ∷ false ∷ []) c.in-Some.ensures c.in-None-signed_pair.ensures

pub returns-in-None : goal.returns-in-None
returns-in-None c = reads_none true (true ∷ false ∷ []) c.args.text.now c.in-None.ensures
