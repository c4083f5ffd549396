use Rattle.std.proofs.Common.{pos, refl, [], ◌∷◌}
use Rattle.derivation_lines.specs.Tail.{group_line}
use Rattle.derivation_lines.proofs.LineTexts.{put_named_line}
use Rattle.derivation_lines.proofs.printing.put_group.Goals as goal

pub returns-in_ok-put_named-in-One : goal.returns-in_ok-put_named-in-One
returns-in_ok-put_named-in-One c =
    let t = c.args.group.now in
    put_named_line c.args.text.now.items c.put_named.new.text.items c.as_slice.result.now (pos c.in-One.slot ∷ t.shift ∷ []) (group_line t) c.in_ok-put_named-in-One.ensures (rw (c.in-One.is, c.as_slice.ensures) refl) (rw c.in-One.is refl)

pub returns-in_ok-put_named-in-OfRow : goal.returns-in_ok-put_named-in-OfRow
returns-in_ok-put_named-in-OfRow c =
    let t = c.args.group.now in
    put_named_line c.args.text.now.items c.put_named-in-OfRow.new.text.items c.as_slice-in-OfRow.result.now (pos c.in-OfRow.row ∷ t.shift ∷ []) (group_line t) c.in_ok-put_named-in-OfRow.ensures (rw (c.in-OfRow.is, c.as_slice-in-OfRow.ensures) refl)
    (rw c.in-OfRow.is refl)
