-- The row of the parts.
use Rattle.std.proofs.Common.{◌≡◌, List, length, ap, ap₂, ◌∙◌, arith, ℤ, to_z, of_z}
use mir.Syntax.{w128}
use Rattle.std.proofs.lemmas.Int.{ints}
use Rattle.row_kit.specs.declared.row.Entry.{Entry}
use Rattle.row_kit.specs.Row.{entries_from}
use Rattle.setup_slots.specs.Rows.{most_of, row_over}
use Rattle.setup_slots.proofs.Bounds.{limit_small, row_parts-length}
use Rattle.setup_slots.proofs.parts.row_over.Goals as goal

pub entries_of-requires : goal.entries_of-requires
entries_of-requires c =
    let parts = ap length (c.deref.ensures.value ∙ c.in_ok-parts.ensures) in
    let long = row_parts-length c.args.slots.now c.args.setups.now c.args.unit c.args.first c.args.row.now c.requires.later in
    let few = c.requires.few in
    omega (arith, parts, long, few)

pub returns : goal.returns
unfolding row_over
returns c =
    let small = limit_small c.args.row.now in
    let is = c.most_of.ensures in
    let limit : to_z w128 (of_z w128 c.most_of.result) ≡ most_of c.args.row.now = omega (arith, ints, small, is) in
    ap₂ (λ (es : List Entry) (most : ℤ). record { entries = es; limit = most }) (c.in_ok-entries.ensures ∙ ap (entries_from 0) (c.deref.ensures.value ∙ c.in_ok-parts.ensures)) limit
