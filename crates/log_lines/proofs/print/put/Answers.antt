use Rattle.log_lines.proofs.NumberTexts.{put_parts}
use Rattle.log_lines.proofs.print.put.Goals as goal

pub returns : goal.returns
returns c =
    put_parts c.args.text.now.items c.args.name.now c.args.signed.now c.args.naturals.now c.extend_from_slice.new.self.items c.put_signed.new.text.items c.put_naturals.new.text.items
    c.in_ok-extend_from_slice.ensures.items c.in_ok-put_signed.ensures c.in_ok-put_naturals.ensures
