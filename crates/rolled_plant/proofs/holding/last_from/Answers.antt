use Rattle.std.proofs.Common.{arith, rules, ◌∙◌, ap}
use Rattle.std.proofs.lemmas.Int.{to_z-of_z}
use mir.Val.{SFits, to_z, of_z}
use mir.Syntax.{w32}
use Rattle.rolled_plant.specs.Begin.{seen_from}
use Rattle.rolled_plant.proofs.Held.{latest_ends, held_seen}
use Rattle.rolled_plant.proofs.holding.last_from.Goals as goal

pub until-requires : goal.until-requires
until-requires c =
    let ends = latest_ends c.args.plant.now c.args.before.now c.args.unit c.in-Some.start c.requires.fit c.in-Some.ensures in
    omega (arith, ends, c.requires.sound.counts.periods)

pub returns-in-Some : goal.returns-in-Some
returns-in-Some c =
    let fits : SFits w32 c.seen_from.result = search rules in
    let before : SFits w32 c.until.result = search rules in
    let time = to_z-of_z w32 c.until.result before ∙ c.until.ensures in
    let seen = to_z-of_z w32 c.seen_from.result fits ∙ c.seen_from.ensures ∙ ap (seen_from c.args.period) time in
    held_seen c.args.plant.now c.args.before.now c.args.period c.args.unit c.in-Some.start (to_z w32 (of_z w32 c.seen_from.result)) c.in-Some.ensures seen
