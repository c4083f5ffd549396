-- The derivations behind the setups of a head.
use Rattle.std.proofs.Common.{IfSome, ◌≡◌, subst}
use Rattle.stn_model.specs.Points.{depth_limit}
use Rattle.stn_edge.specs.Files.{file_of}
use Rattle.log_parts.specs.laws.Checked.{head_with}
use Rattle.valid_log.specs.Heads.{IsWithHead}
use Rattle.plant_check.specs.Heads.{IsFrontHeld}
use Rattle.plant_check.proofs.HeadJudged.{held_small}
use Rattle.opened_logs.specs.Opened.{IsOpenedSetUp}
use Rattle.log_nodes.proofs.Readings.{ok_some_both}
use Rattle.opened_logs.proofs.Opening.{opened-tailed}
use Rattle.opened_logs.proofs.opened.open_set_up.Goals as goal

pub read_tail-requires-clause-rows : goal.read_tail-requires-clause-rows
read_tail-requires-clause-rows g c = (held_small c.args.plant.now c.args.program (depth_limit c.args.plant.now) c.args.setups c.requires.held).rows

pub open_tailed-requires-clause-tailed : goal.open_tailed-requires-clause-tailed
open_tailed-requires-clause-tailed g c = subst (IsFrontHeld c.args.setups.limits c.args.setups.head) c.in-Whole.is c.in_ok-tail.ensures.held

pub returns-in-Whole-clause-opened : goal.returns-in-Whole-clause-opened
returns-in-Whole-clause-opened g c =
    let plant = c.args.plant.now in
    let program = c.args.program in
    let judged = c.args.judged.now in
    let told = g.F.Shelf.files c.args.files.now in
    let name = c.args.name.now in
    let setups = c.args.setups in
    let tail = c.in-Whole.tail in
    ok_some_both c.open_tailed.result (λ o. IsWithHead plant setups.head.version program judged setups.head.sums setups.units tail.derivations o.rows) (λ o. o.head ≡ head_with setups tail) (λ o. IfSome told (λ m. IsOpenedSetUp plant program judged (file_of m name) setups o))
    (λ o over is. opened-tailed plant program judged told name setups c.in_ok-tail.field-0 tail o c.in-Whole.is c.in_ok-tail.ensures.follows is over) c.open_tailed.ensures.over c.open_tailed.ensures.head
