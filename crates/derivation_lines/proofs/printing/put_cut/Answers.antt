use Rattle.std.proofs.Common.{decimal, pos, refl, [], ◌∷◌}
use Rattle.std.specs.Prelude.{codes}
use Rattle.derivation_lines.specs.Tail.{cut_line}
use Rattle.derivation_lines.proofs.LineTexts.{put_named_line, put_two_words}
use Rattle.derivation_lines.proofs.printing.put_cut.Goals as goal

pub returns : goal.returns
returns c =
    let t = c.args.cut.now in
    put_named_line c.args.text.now.items c.extend_from_slice-2.new.self.items (codes "cut") (pos t.row ∷ pos t.slot ∷ []) (cut_line t)
    (put_two_words c.args.text.now.items (codes "cut") (decimal t.row) (decimal t.slot) _ _ _ _ c.in_ok-extend_from_slice.ensures.items c.in_ok-put_natural.ensures c.in_ok-put_natural-2.ensures c.in_ok-extend_from_slice-2.ensures.items) refl refl
