use Rattle.std.proofs.Common.{length, map}
use Rattle.sum_lines.specs.Head.{opening_line, term_line}
use Rattle.sum_lines.proofs.LineTexts.{put_two}
use Rattle.sum_lines.proofs.printing.put_sum.Goals as goal

pub returns : goal.returns
returns c =
    let s = c.args.sum.now in
    put_two c.args.text.now.items c.put_opening.new.text.items c.put_terms.new.text.items (opening_line s (length s.terms)) (map term_line s.terms) c.in_ok-put_opening.ensures (rw c.as_slice.ensures at c.in_ok-put_terms.ensures)
