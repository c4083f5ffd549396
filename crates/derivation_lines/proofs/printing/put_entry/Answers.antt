use Rattle.std.proofs.Common.{decimal, pos, refl, [], ◌∷◌}
use Rattle.std.specs.Prelude.{codes}
use Rattle.std.specs.Fmt.{signed_decimal}
use Rattle.derivation_lines.specs.Tail.{entry_line}
use Rattle.derivation_lines.proofs.LineTexts.{put_named_line}
use Rattle.sum_lines.proofs.LineTexts.{put_three}
use Rattle.derivation_lines.proofs.printing.put_entry.Goals as goal

pub returns : goal.returns
returns c =
    let t = c.args.entry.now in
    put_named_line c.args.text.now.items c.extend_from_slice-2.new.self.items (codes "entry") (pos t.slot ∷ t.fixed ∷ t.per ∷ []) (entry_line t)
    (put_three c.args.text.now.items (codes "entry") (decimal t.slot) (signed_decimal t.fixed) (signed_decimal t.per) _ _ _ _ _ c.in_ok-extend_from_slice.ensures.items c.in_ok-put_natural.ensures c.in_ok-put_signed.ensures c.in_ok-put_signed-2.ensures
    c.in_ok-extend_from_slice-2.ensures.items) refl refl
