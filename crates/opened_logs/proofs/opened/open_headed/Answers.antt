-- The setups behind the sums of a head.
use Rattle.std.proofs.Common.{IfSome, ◌∙◌, ap, subst}
use Rattle.stn_model.specs.Points.{depth_limit}
use Rattle.stn_edge.specs.Files.{file_of}
use Rattle.log_lines.specs.declared.grammar.Limits.{Limits}
use Rattle.valid_log.specs.Heads.{AreSetups, limits_with, setup_sizes}
use Rattle.plant_check.specs.Heads.{AreSetupsHeld, IsSetupsHeld}
use Rattle.plant_check.proofs.HeadJudged.{held_of}
use Rattle.opened_logs.proofs.Fronts.{setups_counted}
use Rattle.opened_logs.specs.Opened.{IsOpenedHead, IsOpenedSetUp}
use Rattle.log_nodes.proofs.Readings.{ok_some_then}
use Rattle.opened_logs.proofs.Opening.{opened-set_up}
use Rattle.opened_logs.proofs.opened.open_headed.Goals as goal

pub open_set_up-requires-clause-held : goal.open_set_up-requires-clause-held
open_set_up-requires-clause-held g c =
    let program = c.args.program in
    let sizes = setup_sizes c.args.plant.now in
    let own = c.args.head in
    let limits = c.plant_limits-limits.ensures ∙ ap (limits_with program (depth_limit c.args.plant.now)) c.len.ensures in
    let held = subst (AreSetupsHeld c.plant_limits-limits.result sizes own) c.in-Whole.is c.in_ok-setups.ensures.held in
    held_of c.args.plant.now program (depth_limit c.args.plant.now) own c.in-Whole.setups c.requires.kept (subst (λ (l : Limits). IsSetupsHeld l sizes own c.in-Whole.setups) limits held)

pub open_set_up-requires-clause-counted : goal.open_set_up-requires-clause-counted
open_set_up-requires-clause-counted g c =
    let sizes = setup_sizes c.args.plant.now in
    let held = subst (AreSetupsHeld c.plant_limits-limits.result sizes c.args.head) c.in-Whole.is c.in_ok-setups.ensures.held in
    setups_counted _ c.plant_limits-limits.result sizes c.args.head c.in-Whole.setups c.requires.kept held

pub returns-in-Whole-clause-opened : goal.returns-in-Whole-clause-opened
returns-in-Whole-clause-opened g c =
    let plant = c.args.plant.now in
    let program = c.args.program in
    let judged = c.args.judged.now in
    let name = c.args.name.now in
    let told = g.F.Shelf.files c.args.files.now in
    let now = g.F.Shelf.files c.read_setups.new.files in
    let limits = c.plant_limits-limits.ensures ∙ ap (limits_with program (depth_limit c.args.plant.now)) c.len.ensures in
    let stands = subst (λ (l : Limits). IfSome told (λ m. AreSetups l (setup_sizes plant) c.args.head (file_of m name) c.in_ok-setups.field-0)) limits c.in_ok-setups.ensures.stands in
    ok_some_then c.open_set_up.result (λ o. IfSome now (λ m. IsOpenedSetUp plant program judged (file_of m name) c.in-Whole.setups o)) (λ o. IfSome told (λ m. IsOpenedHead plant program judged (file_of m name) c.args.head o))
    (λ o has. opened-set_up plant program judged told now name c.args.head c.in_ok-setups.field-0 c.in-Whole.setups o c.in_ok-setups.ensures.frame.same c.in-Whole.is stands has) c.open_set_up.ensures.opened
