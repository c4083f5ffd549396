-- One family after another.
use Rattle.std.proofs.Common.{◌++◌, ◌∷◌, [], ap, ◌∙◌, append_assoc}
use Rattle.std.specs.List.{flat_map}
use Rattle.setup_slots.specs.declared.setup.SetupRow.TheVariants.{Single}
use Rattle.setup_slots.specs.Rows.{begun_rows, held_rows, rows_among}
use Rattle.setup_slots.proofs.rows.setup_rows.Goals as goal

pub returns : goal.returns
unfolding rows_among
returns c =
    let held = flat_map (held_rows c.args.periods) c.args.tasks.now in
    let begun = flat_map (begun_rows c.args.setups.now c.args.periods) c.args.tasks.now in
    c.in_ok-push_begun.ensures
    ∙ ap (λ xs. xs ++ begun) (c.in_ok-push_held.ensures ∙ ap (λ xs. xs ++ held) (c.in_ok-push.ensures.items ∙ ap (λ xs. xs ++ Single ∷ []) c.new-rows.ensures.items))
    ∙ append_assoc (Single ∷ []) held begun
