use Rattle.std.proofs.Common.{decimal}
use Rattle.std.specs.Fmt.{signed_decimal}
use Rattle.derivation_lines.proofs.LineTexts.{put_two_words}
use Rattle.derivation_lines.proofs.printing.put_named.Goals as goal

pub returns : goal.returns
returns c =
    put_two_words c.args.text.now.items c.args.name.now (decimal c.args.number) (signed_decimal c.args.shift.now) _ _ _ _ c.in_ok-extend_from_slice.ensures.items c.in_ok-put_natural.ensures c.in_ok-put_signed.ensures c.in_ok-extend_from_slice-2.ensures.items
