-- One more slot, and all.
use Rattle.std.proofs.Common.{◌≡◌, ◌<◌, ℕ, List, length, get_or, refl, ap, ◌∙◌, arith}
use Rattle.std.proofs.lemmas.List.{take_at}
use Rattle.time_grid.specs.Slots.{slots}
use Rattle.time_grid.specs.PlanPoint.{plan_point}
use Rattle.unit_rows.proofs.Growing.{map_next, map_done}
use Rattle.frozen_plan.specs.Frozen.{frozen_domain, frozen_root}
use Rattle.frozen_plan.proofs.Building.{domain-made}
use Rattle.frozen_plan.proofs.freezing.frozen_root.Goals as goal

pub loop-place-preserved : goal.loop-place-preserved
loop-place-preserved c =
    let same = ap length c.requires.grid in
    let there : c.loop-place.place < length (slots c.args.plant.now) = omega (arith, same) in
    let long : length c.point_of.new.into ≡ c.in_ok-point.point.len = omega arith in
    let point_is : c.as_slice-values.result.now ≡ plan_point c.args.plant.now c.args.kept.now =
    c.as_slice-values.ensures.value ∙ take_at c.point_of.new.into _ c.in_ok-point.point.len long ∙ c.if-not-point_of.ensures.point in
    let slot_is : c.run_period-slot.result ≡ get_or (slots c.args.plant.now) c.loop-place.place c.run_period-slot.result =
    c.run_period-slot.ensures ∙ ap (λ (grid : List (ℕ × ℕ)). get_or grid c.loop-place.place c.run_period-slot.result) c.requires.grid in
    map_next (frozen_domain c.args.plant.now c.args.period c.args.kept.now) (slots c.args.plant.now) c.loop-place.root.items c.push.new.self.items c.loop-place.place c.run_period-slot.result c.frozen_domain.result
    there slot_is
    (domain-made c.args.plant.now c.args.period c.args.kept.now c.args.whole.now c.as_slice-values.result.now c.loop-place.place c.run_period-slot.result c.get-own.result.now c.frozen_domain.result
    c.requires.whole point_is there slot_is c.get-own.ensures c.frozen_domain.ensures)
    c.in_ok-push.ensures.items c.loop-place.invariant

pub returns-clause-root : goal.returns-clause-root
unfolding frozen_root
returns-clause-root c =
    let same = ap length c.requires.grid in
    c.from_vec.ensures
    ∙ map_done (frozen_domain c.args.plant.now c.args.period c.args.kept.now) (slots c.args.plant.now) (slots c.args.plant.now) c.loop-place.root.items c.loop-place.place (omega (arith, same)) refl c.loop-place.invariant
