use Rattle.std.proofs.Common.{decimal, pos, refl, [], ◌∷◌}
use Rattle.std.specs.Prelude.{codes}
use Rattle.std.specs.Fmt.{signed_decimal}
use Rattle.derivation_lines.specs.Tail.{factor_line}
use Rattle.derivation_lines.proofs.LineTexts.{put_named_line, put_two_words}
use Rattle.derivation_lines.proofs.printing.put_factor.Goals as goal

pub returns : goal.returns
returns c =
    let t = c.args.factor.now in
    put_named_line c.args.text.now.items c.extend_from_slice-2.new.self.items (codes "by") (pos t.row ∷ t.by ∷ []) (factor_line t)
    (put_two_words c.args.text.now.items (codes "by") (decimal t.row) (signed_decimal t.by) _ _ _ _ c.in_ok-extend_from_slice.ensures.items c.in_ok-put_natural.ensures c.in_ok-put_signed.ensures c.in_ok-extend_from_slice-2.ensures.items) refl refl
