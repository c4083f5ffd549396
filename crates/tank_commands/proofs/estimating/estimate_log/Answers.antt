-- A name that is not that of a state with limits is refused, whatever the log is.
use Rattle.std.proofs.Common.{arith}
use Rattle.std.proofs.lemmas.Grind.{common_steps}
use Rattle.std.specs.Option.{option_map}
use Rattle.stn_edge.specs.Files.{file_of}
use Rattle.tank_commands.proofs.TankAnswers.{refused_answer}
use Rattle.tank_commands.proofs.estimating.estimate_log.Goals as goal

pub returns-in_ok-refused_state-in-None-clause-answer : goal.returns-in_ok-refused_state-in-None-clause-answer
returns-in_ok-refused_state-in-None-clause-answer g c =
    let reply = c.in_ok-refused_state-in-None.field-0 in
    refused_answer (option_map (λ m. file_of m c.args.log.now) (g.F.Shelf.files c.args.files.now)) c.args.state.now c.args.steps.step c.args.steps.count c.args.plant reply.status reply.text.items (grind (arith, common_steps)) c.in_ok-refused_state-in-None.ensures
