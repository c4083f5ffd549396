-- One more line of a delivery.
use Rattle.std.proofs.Common.{◌<◌, length, sym, subst, arith}
use Rattle.std.proofs.lemmas.Grind.{common_steps}
use Rattle.stn_model.specs.declared.plant.Delivery.{Delivery}
use Rattle.order_text.proofs.Orders.{lines_next}
use Rattle.order_text.proofs.printing.push_orders.Goals as goal

pub push_order-requires : goal.push_order-requires
push_order-requires c =
    let known = c.requires.sound.deliveries c.loop-place.place c.get-delivery.result.now (omega arith) in
    subst (λ (d : Delivery). d.state < length c.args.plant.now.states) (sym c.get-delivery.ensures) known.state

pub loop-place-preserved : goal.loop-place-preserved
loop-place-preserved c = grind (arith, common_steps, lines_next)
