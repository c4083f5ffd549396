-- A log that is too long is answered so, whatever its bytes are; else the answer is that on its bytes.
use Rattle.std.proofs.Common.{Err, ap}
use Rattle.tank_commands.specs.Estimating.{OnTank}
use Rattle.tank_commands.proofs.TankAnswers.{read_answer, too_long_answer}
use Rattle.tank_commands.proofs.estimating.estimate_tank.Goals as goal

pub returns-in-Err-TooLong-clause-answer : goal.returns-in-Err-TooLong-clause-answer
returns-in-Err-TooLong-clause-answer g c =
    let reply = c.in_ok-long_log-in-Err-TooLong.field-0 in
    too_long_answer (g.F.Shelf.files c.args.files.now) c.args.log.now c.args.plant c.args.number c.args.steps.step c.args.steps.count reply.status reply.text.items (c.in-Err-TooLong.ensures.too_long (ap Err c.in-Err-TooLong.field-0-is)) c.in_ok-long_log-in-Err-TooLong.ensures

pub returns-in-Ok-clause-answer : goal.returns-in-Ok-clause-answer
returns-in-Ok-clause-answer g c =
    let reply = c.in_ok-estimate_bytes-in-Ok.field-0 in
    let slice = c.as_slice.ensures.value in
    read_answer (g.F.Shelf.files c.args.files.now) c.args.log.now c.in-Ok.bytes.items (λ bytes. OnTank c.args.plant c.args.number c.args.steps.step c.args.steps.count bytes reply.status reply.text.items)
    c.in-Ok.ensures.whole (rw slice at c.in_ok-estimate_bytes-in-Ok.ensures)
