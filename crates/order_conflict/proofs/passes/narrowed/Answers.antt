-- Passes leave what no plan meets, and the last one leaves right marks.
use Rattle.std.proofs.Common.{◌≡◌, ap, sym, subst, ◌∙◌}
use Rattle.std.proofs.lemmas.Bool.{false≢true}
use Rattle.std.proofs.lemmas.List.{length-map}
use Rattle.stn_model.specs.declared.plant.Plant.{Plant}
use Rattle.stn_model.specs.declared.plant.Delivery.{Delivery}
use Rattle.stn_model.specs.Best.{NoPlan}
use Rattle.order_text.specs.declared.mark.Mark.{Mark}
use Rattle.order_text.specs.declared.mark.Mark.TheVariants.{Open}
use Rattle.std.proofs.Common.{length}
use Rattle.order_conflict.specs.Conflict.{left_plant}
use Rattle.order_conflict.proofs.Passing.{all_left, passed_whole}
use Rattle.order_conflict.proofs.passes.narrowed.Goals as goal

pub loop-changed-init : goal.loop-changed-init
loop-changed-init g c =
    let plant = c.args.plant.now in
    let all = c.in_ok-marks.ensures in
    record {
      each = ap length all ∙ length-map plant.deliveries (λ (d : Delivery). Open);
      none = subst (λ (p : Plant). NoPlan p) (sym (ap (left_plant plant) all ∙ all_left plant)) c.requires.none;
      right = λ e. absurd (false≢true (sym e));
    }

pub loop-changed-preserved : goal.loop-changed-preserved
loop-changed-preserved g c =
    let passed = c.in_ok-changed.ensures in
    record {
      each = passed.each ∙ c.loop-changed.invariant.each;
      none = passed.none;
      right = λ e. passed_whole c.args.plant.now c.args.budget c.loop-changed.marks.items c.pass.new.marks.items c.loop-changed.invariant.each (rw e at passed);
    }
