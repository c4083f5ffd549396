-- One more period.
use Rattle.std.proofs.Common.{ℕ, Bool, sym, ap, ◌∙◌, append-nil}
use Rattle.std.specs.List.{list_any}
use Rattle.setup_slots.specs.declared.setup.SetupRow.TheVariants.{Begun}
use Rattle.setup_slots.specs.Rows.{begun_rows, is_change_to}
use Rattle.setup_slots.proofs.Growing.{fails-more, passes-more}
use Rattle.setup_slots.proofs.rows.push_begun_of.Goals as goal
use Rattle.setup_slots.proofs.rows.push_begun_of.Goals.{then-has_change_to+in_ok-push, else-has_change_to}

pub loop-period-init : goal.loop-period-init
unfolding begun_rows
loop-period-init c = sym (append-nil c.args.rows.now.items)

pub loop-period-preserved : goal.loop-period-preserved
unfolding begun_rows
loop-period-preserved c =
    let test : ℕ → Bool = λ period. list_any (is_change_to c.args.task period) c.args.setups.now in
    elim c.if-has_change_to.branch [
      | then-has_change_to+in_ok-push w ↦ ap (λ v. v.items) w.rows-is
          ∙ passes-more (Begun c.args.task) test c.loop-period.period c.args.rows.now.items c.loop-period.rows.items w.push.new.self.items
          (sym c.has_change_to.ensures ∙ w.if-has_change_to.true) c.loop-period.invariant w.in_ok-push.ensures.items
      | else-has_change_to w ↦ ap (λ v. v.items) w.rows-is
          ∙ fails-more (Begun c.args.task) test c.loop-period.period c.args.rows.now.items c.loop-period.rows.items (sym c.has_change_to.ensures ∙ w.if-has_change_to.false) c.loop-period.invariant
    ]
