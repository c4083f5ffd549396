use Rattle.setup_lines.proofs.Lines.{put_parts}
use Rattle.setup_lines.proofs.printing.put_line.Goals as goal

pub returns : goal.returns
returns c = put_parts c.args.text.now.items _ _ _ c.args.unit c.in_ok-extend_from_slice.ensures.items c.in_ok-put_number.ensures.ok c.in_ok-extend_from_slice-2.ensures.items
