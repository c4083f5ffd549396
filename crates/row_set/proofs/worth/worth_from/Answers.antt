-- The price, less what the holding costs.
use Rattle.std.proofs.Common.{◌≡◌, ◌∙◌}
use Rattle.std.proofs.lemmas.List.{get_or_default}
use Rattle.stn_model.specs.Plant.{no_state, state_at}
use Rattle.row_set.proofs.Small.{worth-is}
use Rattle.row_set.proofs.worth.worth_from.Goals as goal

pub returns-clause-value : goal.returns-clause-value
returns-clause-value c =
    let state : c.get-the_state.result.now ≡ state_at c.args.plant.now c.args.state = c.get-the_state.ensures ∙ get_or_default _ _ _ no_state c.requires.state in
    (worth-is c.args.plant.now c.get-the_state.result.now c.args.state c.args.time c.held.result c.requires.sound c.requires.state state c.held.ensures.value c.held.ensures.small).0

pub returns-clause-small : goal.returns-clause-small
returns-clause-small c =
    let state : c.get-the_state.result.now ≡ state_at c.args.plant.now c.args.state = c.get-the_state.ensures ∙ get_or_default _ _ _ no_state c.requires.state in
    (worth-is c.args.plant.now c.get-the_state.result.now c.args.state c.args.time c.held.result c.requires.sound c.requires.state state c.held.ensures.value c.held.ensures.small).1
