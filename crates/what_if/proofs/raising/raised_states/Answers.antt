-- The states before the one, that one with raised limits, and those after it.
use Rattle.std.proofs.Common.{arith}
use Rattle.std.proofs.lemmas.Grind.{common_steps}
use Rattle.what_if.proofs.RaisedStates.{raised_states-parts}
use Rattle.what_if.proofs.raising.raised_states.Goals as goal

pub returns : goal.returns
returns c =
    let state = c.index-states-number.result in
    let own = c.in_ok-with_limits.field-0 in
    raised_states-parts c.args.number c.args.amount c.args.states.now state state c.in_ok-limits.limits c.push_copies.new.copies c.push.new.self c.push_copies-2.new.copies own
    c.requires (grind (arith, common_steps)) (grind (arith, common_steps)) (grind (arith, common_steps)) (grind (arith, common_steps)) (grind (arith, common_steps)) (grind (arith, common_steps))
