-- One more domain, and all.
use Rattle.std.proofs.Common.{◌≡◌, ◌<◌, ◌∙◌, length, arith}
use Rattle.plant_parts.proofs.Cutting.{cut-next, cut-all}
use Rattle.plant_parts.proofs.parting.cut_root.Goals as goal

pub loop-place-preserved : goal.loop-place-preserved
loop-place-preserved c =
    let there : c.loop-place.place < length c.args.whole.now = omega arith in
    cut-next c.args.levels c.args.part c.args.whole.now c.loop-place.root.items c.push.new.self.items c.loop-place.place c.get-own.result.now c.cut_domain.result
    there c.get-own.ensures c.cut_domain.ensures c.in_ok-push.ensures.items c.loop-place.invariant

pub returns : goal.returns
returns c =
    let all : c.loop-place.place ≡ length c.args.whole.now = omega arith in
    c.from_vec.ensures ∙ cut-all c.args.levels c.args.part c.args.whole.now c.loop-place.root.items c.loop-place.place all c.loop-place.invariant
