use Rattle.std.proofs.Common.{[], subst}
use Rattle.derivation_lines.specs.laws.Reading.{ReadsNumbers}
use Rattle.derivation_lines.proofs.Lines.{text_none, text_numbers}
use Rattle.derivation_lines.proofs.reading.read_tail_line.Goals as goal

pub returns-then-branch : goal.returns-then-branch
returns-then-branch c =
    let rest = c.cut_word.result.1.now in
    let new = c.read_numbers.new.numbers.items in
    let has = subst (λ old. ReadsNumbers rest old new c.in_ok-read_numbers.field-0) c.new-numbers.ensures.items c.in_ok-read_numbers.ensures in
    text_numbers c.args.bytes.now c.cut_word.result.0.now rest new c.line_of.result c.cut_word.ensures (subst (ReadsNumbers rest [] new) c.if-branch.true has) (rw c.as_slice.ensures.value at c.line_of.ensures)

pub returns : goal.returns
returns c =
    let rest = c.cut_word.result.1.now in
    let new = c.read_numbers.new.numbers.items in
    text_none c.args.bytes.now c.cut_word.result.0.now rest c.new-numbers.result.items new c.cut_word.ensures (subst (ReadsNumbers rest c.new-numbers.result.items new) c.if-branch.false c.in_ok-read_numbers.ensures)
