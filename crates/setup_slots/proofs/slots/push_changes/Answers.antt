-- One more period, and all.
use Rattle.std.proofs.Common.{◌≡◌, ◌++◌, filter, map, sym, ap, ◌∙◌, arith}
use Rattle.std.specs.List.{range_with_len}
use Rattle.setup_slots.specs.declared.setup.SetupSlot.TheVariants.{Change}
use Rattle.setup_slots.specs.Slots.{changes_between, is_change}
use Rattle.setup_slots.proofs.Growing.{fails-more, passes-more}
use Rattle.setup_slots.proofs.slots.push_changes.Goals as goal
use Rattle.setup_slots.proofs.slots.push_changes.Goals.{then-is_change+in_ok-push, else-is_change}

pub loop-period-preserved : goal.loop-period-preserved
loop-period-preserved c =
    let p = is_change c.args.plant.now c.args.unit c.args.from c.args.to in
    elim c.if-is_change.branch [
      | then-is_change+in_ok-push w ↦ ap (λ v. v.items) w.setups-is
          ∙ passes-more (Change c.args.from c.args.to) p c.loop-period.period c.args.setups.now.items c.loop-period.setups.items w.push.new.self.items
          (sym c.is_change.ensures ∙ w.if-is_change.true) c.loop-period.invariant w.in_ok-push.ensures.items
      | else-is_change w ↦ ap (λ v. v.items) w.setups-is
          ∙ fails-more (Change c.args.from c.args.to) p c.loop-period.period c.args.setups.now.items c.loop-period.setups.items (sym c.is_change.ensures ∙ w.if-is_change.false) c.loop-period.invariant
    ]

pub returns : goal.returns
unfolding changes_between
returns c =
    let e : c.loop-period.period ≡ c.args.plant.now.periods = omega arith in
    c.loop-period.invariant
    ∙ ap (λ n. c.args.setups.now.items ++ map (Change c.args.from c.args.to) (filter (is_change c.args.plant.now c.args.unit c.args.from c.args.to) (range_with_len 0 n))) e
