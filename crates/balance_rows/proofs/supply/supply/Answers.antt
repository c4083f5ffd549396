-- The state is there, and the sums are those of the definition.
use Rattle.std.proofs.Common.{ap, ◌∙◌, arith}
use Rattle.std.proofs.lemmas.Int.{ints}
use Rattle.std.proofs.lemmas.List.{get_or_default}
use Rattle.stn_model.specs.Plant.{no_state}
use Rattle.balance_rows.specs.StockRows.{supply}
use Rattle.balance_rows.proofs.supply.supply.Goals as goal

pub returns-clause-value : goal.returns-clause-value
unfolding supply
returns-clause-value c =
    let plant = c.args.plant.now in
    let at = ap (λ s. s.initial) (c.get.ensures ∙ get_or_default plant.states c.args.state c.get.result.now no_state c.requires.state) in
    let small = (c.requires.sound.states c.args.state no_state c.requires.state).initial in
    omega (arith, ints, at, small, c.received_by.ensures.value, c.delivered_by.ensures.value, c.received_by.ensures.small, c.delivered_by.ensures.small)
