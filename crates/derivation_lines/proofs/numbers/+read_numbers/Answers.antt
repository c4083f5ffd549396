use Rattle.std.proofs.Common.{arith, ap, ◌∙◌, ◌++◌, ◌∷◌, []}
use Rattle.log_lines.proofs.NumberTexts.{wide_same}
use Rattle.derivation_lines.proofs.NumberLists.{reads_all, reads_more_ok, reads_no_number, reads_no_word}
use Rattle.derivation_lines.proofs.numbers.+read_numbers.Goals as goal

pub returns-then-is_empty : goal.returns-then-is_empty
returns-then-is_empty t c = reads_all c.args.text.now c.args.numbers.now.items (grind arith)

pub returns-in_ok-push-in-Some-read_signed : goal.returns-in_ok-push-in-Some-read_signed
returns-in_ok-push-in-Some-read_signed t c =
    reads_more_ok c.args.text.now c.in-Some.word.now c.in-Some.rest.now c.in-Some-read_signed.number c.args.numbers.now.items c.push.new.self.items c.read_numbers.new.numbers.items c.read_numbers.result c.in-Some.ensures c.in-Some-read_signed.ensures.0
    c.in-Some-read_signed.ensures.1 (c.in_ok-push-in-Some-read_signed.ensures.items ∙ ap (λ z. c.args.numbers.now.items ++ z ∷ []) (wide_same c.in-Some-read_signed.number (omega (arith, c.in-Some-read_signed.ensures.0)))) c.read_numbers.ensures

pub returns-in-None-read_signed : goal.returns-in-None-read_signed
returns-in-None-read_signed t c =
    reads_no_number c.args.text.now c.in-Some.word.now c.in-Some.rest.now c.args.numbers.now.items c.args.numbers.now.items c.in-Some.ensures c.in-None-read_signed.ensures

pub returns-in-None : goal.returns-in-None
returns-in-None t c = reads_no_word c.args.text.now c.args.numbers.now.items c.args.numbers.now.items (grind arith) c.in-None.ensures
