-- One more delivery is kept, or left out.
use Rattle.std.proofs.Common.{◌<◌, length, pos, arith, sym, ◌∙◌}
use Rattle.std.proofs.lemmas.Grind.{common_steps}
use Rattle.stn_model.specs.declared.plant.Delivery.{Delivery}
use Rattle.fewer_orders.proofs.Picked.{picked-kept, picked-left}
use Rattle.fewer_orders.proofs.orders.picked.Goals as goal
use Rattle.fewer_orders.proofs.orders.picked.Goals.{then-kept-place+in_ok-push, else-kept-place}

pub loop-place-preserved : goal.loop-place-preserved
loop-place-preserved c =
    let within : c.loop-place.place < length c.args.deliveries.now = omega arith in
    elim c.if-kept-place.branch [
      | then-kept-place+in_ok-push w ↦
          let none : Delivery = record { state = 0; time = 0; amount = 0; payment = pos 0 } in
          let more = picked-kept c.args.kept.now c.args.deliveries.now c.loop-place.place none c.requires within w.if-kept-place.true in
          grind (arith, common_steps, more)
      | else-kept-place w ↦
          let more = picked-left c.args.kept.now c.args.deliveries.now c.loop-place.place c.requires within w.if-kept-place.false in
          w.list-is ∙ c.loop-place.invariant ∙ sym more
    ]
