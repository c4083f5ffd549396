use Rattle.std.proofs.Common.{decimal, pos, refl, [], ◌∷◌, length}
use Rattle.std.specs.Prelude.{codes}
use Rattle.derivation_lines.specs.Tail.{counts_of, row_line}
use Rattle.derivation_lines.proofs.LineTexts.{put_named_line, put_seven_words}
use Rattle.derivation_lines.proofs.printing.put_row.Goals as goal

pub returns : goal.returns
returns c =
    let t = c.args.derived.now in
    put_named_line c.args.text.now.items c.extend_from_slice-2.new.self.items (codes "row") (pos t.divisor ∷ pos t.rest ∷ pos t.up ∷ pos t.down ∷ pos (length t.factors) ∷ pos (length t.groups) ∷ pos (length t.entries) ∷ []) (row_line t (counts_of t))
    (put_seven_words c.args.text.now.items (codes "row") (decimal t.divisor) (decimal t.rest) (decimal t.up) (decimal t.down) (decimal (length t.factors)) (decimal (length t.groups)) (decimal (length t.entries)) _ _ _ _ _ _ _ _ _
    c.in_ok-extend_from_slice.ensures.items c.in_ok-put_natural.ensures c.in_ok-put_natural-2.ensures c.in_ok-put_natural-3.ensures c.in_ok-put_natural-4.ensures (rw c.len.ensures at c.in_ok-put_natural-5.ensures) (rw c.len-2.ensures at c.in_ok-put_natural-6.ensures)
    (rw c.len-3.ensures at c.in_ok-put_natural-7.ensures) c.in_ok-extend_from_slice-2.ensures.items) refl refl
