-- One stock more stands at its time, and is no greater than a stock can be.
use Rattle.std.proofs.Common.{◌≤◌, ◌^◌, ◌∷◌, [], ◌++◌, ◌≡◌, ℕ, ℤ, unsigned_abs, length, subst, sym, ap, ◌∙◌, arith}
use mir.Syntax.{w128}
use Rattle.std.specs.List.{All}
use Rattle.std.proofs.lemmas.Int.{to_z-of_z, fits_signed_from_abs}
use Rattle.std.proofs.lemmas.List.{length_push}
use Rattle.std.proofs.lemmas.List.Elements.{All-push}
use Rattle.stn_model.specs.Stock.{stock}
use Rattle.plan_picture.proofs.Ranges.{items_next}
use Rattle.plan_picture.proofs.levels.stocks_of.Goals as goal

pub loop-time-preserved : goal.loop-time-preserved
loop-time-preserved c =
    let old = c.loop-time.levels.items in
    let new = c.stock_at.result in
    let at = c.stock_at.ensures in
    let fits = fits_signed_from_abs w128 new (omega (arith, at.small)) in
    let items : c.push.new.self.items ≡ old ++ new ∷ [] = rw (to_z-of_z w128 new fits) at c.in_ok-push.ensures.items in
    record {
      value =
          items_next (λ (time : ℕ). stock c.args.plant.now c.args.plan.now c.args.state time) old c.push.new.self.items c.loop-time.time c.loop-time.invariant.value
          (items ∙ ap (λ (level : ℤ). old ++ level ∷ []) at.value);
      small =
          subst (All (λ (level : ℤ). unsigned_abs level ≤ 2 ^ 88)) (sym items)
          (All-push (λ (level : ℤ). unsigned_abs level ≤ 2 ^ 88) old new c.loop-time.invariant.small at.small);
      len = omega (arith, ap length items, length_push old new, c.loop-time.invariant.len);
    }
