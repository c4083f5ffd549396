use Rattle.std.proofs.Common.{decimal}
use Rattle.std.specs.Prelude.{codes}
use Rattle.std.specs.Fmt.{signed_decimal}
use Rattle.sum_lines.specs.Line.{head_line_text}
use Rattle.sum_lines.proofs.LineTexts.{put_three}
use Rattle.sum_lines.proofs.printing.put_term.Goals as goal

pub returns : goal.returns
unfolding head_line_text
returns c =
    let t = c.args.term.now in
    put_three c.args.text.now.items (codes "term") (decimal t.slot) (signed_decimal t.fixed) (signed_decimal t.per) _ _ _ _ _ c.in_ok-extend_from_slice.ensures.items c.in_ok-put_natural.ensures c.in_ok-put_signed.ensures c.in_ok-put_signed-2.ensures c.in_ok-extend_from_slice-2.ensures.items
