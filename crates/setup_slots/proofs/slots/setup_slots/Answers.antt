-- First tasks, and then changes.
use Rattle.std.proofs.Common.{◌++◌, map, ap, ◌∙◌}
use Rattle.setup_slots.specs.declared.setup.SetupSlot.TheVariants.{First}
use Rattle.setup_slots.specs.Slots.{changes_among, setup_slots}
use Rattle.setup_slots.proofs.slots.setup_slots.Goals as goal

pub returns : goal.returns
unfolding setup_slots
returns c =
    c.in_ok-push_changes_among.ensures
    ∙ ap (λ xs. xs ++ changes_among c.args.plant.now c.args.unit c.args.tasks.now) (c.in_ok-push_firsts.ensures ∙ ap (λ xs. xs ++ map First c.args.tasks.now) c.new-setups.ensures.items)
    ∙ ap (λ ts. map First ts ++ changes_among c.args.plant.now c.args.unit ts) c.requires.tasks
