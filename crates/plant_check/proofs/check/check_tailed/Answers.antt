-- The answer behind the head is the answer on the file.
use Rattle.std.proofs.Common.{subst, arith}
use Rattle.plant_check.specs.Heads.{IsJudged}
use Rattle.plant_check.proofs.HeadJudged.{few_derived, held_small}
use Rattle.plant_check.proofs.ShownVerdicts.{shown_says, shown_verdict}
use Rattle.plant_check.proofs.check.check_tailed.Goals as goal

pub limits_behind-limits-requires-clause-rows : goal.limits_behind-limits-requires-clause-rows
limits_behind-limits-requires-clause-rows g c = (held_small c.args.part.plant.now c.args.part.program c.args.part.depth c.args.setups.now c.requires.held).rows

pub limits_behind-limits-requires-clause-derived : goal.limits_behind-limits-requires-clause-derived
limits_behind-limits-requires-clause-derived g c = omega (arith, few_derived c.args.part.plant.now c.args.part.program c.args.part.depth c.args.setups.now c.args.tail.now c.requires.held c.requires.tailed)

pub returns-in_ok-own-in-Ok-clause-verdict : goal.returns-in_ok-own-in-Ok-clause-verdict
returns-in_ok-own-in-Ok-clause-verdict g c =
    let plant = c.args.part.plant.now in
    let setups = c.args.setups.now in
    let tail = c.args.tail.now in
    shown_verdict plant c.args.part.program c.args.judged.now c.args.part.depth setups tail c.in-Ok.rows (g.F.Shelf.files c.args.files.now) c.args.name.now c.in_ok-own-in-Ok.own c.len-slots.result c.given_verdict.result
    c.len-slots.ensures (subst (IsJudged plant c.args.part.program c.args.judged.now setups tail) c.in-Ok.is c.in_ok-rows.ensures) c.in_ok-own-in-Ok.ensures.verdict c.given_verdict.ensures.verdict

pub returns-in_ok-own-in-Ok-clause-says : goal.returns-in_ok-own-in-Ok-clause-says
returns-in_ok-own-in-Ok-clause-says g c =
    let plant = c.args.part.plant.now in
    let setups = c.args.setups.now in
    let tail = c.args.tail.now in
    shown_says plant c.args.part.program c.args.judged.now c.args.part.depth setups tail c.in-Ok.rows c.in_ok-own-in-Ok.own c.len-slots.result c.given_verdict.result c.len-slots.ensures c.requires.over.sound c.requires.over.part
    c.requires.over.ranges c.requires.held (subst (IsJudged plant c.args.part.program c.args.judged.now setups tail) c.in-Ok.is c.in_ok-rows.ensures) c.in_ok-own-in-Ok.ensures.holds c.given_verdict.ensures.verdict

pub returns-in-Err-clause-says : goal.returns-in-Err-clause-says
returns-in-Err-clause-says g c = c.check_text.ensures.says c.args.part.plant.now c.args.part.program
