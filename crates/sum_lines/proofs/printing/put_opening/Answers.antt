use Rattle.std.proofs.Common.{decimal, length}
use Rattle.std.specs.Prelude.{codes}
use Rattle.std.specs.Fmt.{signed_decimal}
use Rattle.sum_lines.specs.Line.{head_line_text, row_word}
use Rattle.sum_lines.proofs.LineTexts.{put_five}
use Rattle.sum_lines.proofs.printing.put_opening.Goals as goal

pub returns : goal.returns
unfolding head_line_text
returns c =
    let s = c.args.sum.now in
    put_five c.args.text.now.items (codes "sum") (decimal s.width) (signed_decimal s.offset) (row_word s.low) (row_word s.high) (decimal (length s.terms)) _ _ _ _ _ _ _ c.in_ok-extend_from_slice.ensures.items c.in_ok-put_natural.ensures c.in_ok-put_signed.ensures
    c.in_ok-put_row.ensures c.in_ok-put_row-2.ensures (rw c.len.ensures at c.in_ok-put_natural-2.ensures) c.in_ok-extend_from_slice-2.ensures.items
