-- What stands behind the sums of a head, or its defect.
use Rattle.std.proofs.Common.{IfSome, ◌∙◌, ap, subst}
use Rattle.stn_edge.specs.Files.{file_of}
use Rattle.log_lines.specs.declared.grammar.Limits.{Limits}
use Rattle.sum_lines.specs.Head.{IsKeptHead}
use Rattle.valid_log.specs.Heads.{AreSetups, limits_with, setup_sizes}
use Rattle.valid_log.proofs.LogFronts.{limits_same}
use Rattle.plant_check.specs.Heads.{AreSetupsHeld, IsSetupsHeld}
use Rattle.plant_check.proofs.HeadJudged.{held_of}
use Rattle.log_parts.proofs.Copies.{ok_if}
use Rattle.opened_logs.proofs.Fronts.{bad_setups, setups_counted, setups_read}
use Rattle.joined_parts.proofs.heads.read_headed.Goals as goal

pub read_behind-requires-clause-held : goal.read_behind-requires-clause-held
read_behind-requires-clause-held g c =
    let program = c.args.program.now in
    let sizes = setup_sizes c.args.plant.now in
    let own = c.args.head in
    let limits = c.limits_with-limits.ensures ∙ ap (limits_with program c.args.depth) c.len.ensures in
    let held = subst (AreSetupsHeld c.limits_with-limits.result sizes own) c.in-Whole.is c.in_ok-setups.ensures.held in
    held_of c.args.plant.now program c.args.depth own c.in-Whole.setups (subst (λ (l : Limits). IsKeptHead l own) (limits_same program c.args.depth) c.requires.kept)
    (subst (λ (l : Limits). IsSetupsHeld l sizes own c.in-Whole.setups) limits held)

pub read_behind-requires-clause-counted : goal.read_behind-requires-clause-counted
read_behind-requires-clause-counted g c =
    let sizes = setup_sizes c.args.plant.now in
    let held = subst (AreSetupsHeld c.limits_with-limits.result sizes c.args.head) c.in-Whole.is c.in_ok-setups.ensures.held in
    setups_counted _ c.limits_with-limits.result sizes c.args.head c.in-Whole.setups c.requires.kept held

pub returns-in-Whole-clause-front : goal.returns-in-Whole-clause-front
returns-in-Whole-clause-front g c =
    let plant = c.args.plant.now in
    let program = c.args.program.now in
    let name = c.args.name.now in
    let files = g.F.Shelf.files c.args.files.now in
    let now = g.F.Shelf.files c.read_setups.new.files in
    let limits = c.limits_with-limits.ensures ∙ ap (limits_with program c.args.depth) c.len.ensures in
    let stands = subst (λ (l : Limits). IfSome files (λ m. AreSetups l (setup_sizes plant) c.args.head (file_of m name) c.in_ok-setups.field-0)) limits c.in_ok-setups.ensures.stands in
    ok_if c.read_behind.result c.read_behind.ensures.front
    (λ said has. setups_read plant program c.args.depth files now name c.args.head c.in_ok-setups.field-0 c.in-Whole.setups said c.in_ok-setups.ensures.frame.same c.in-Whole.is stands has)

pub returns-in-Bad-clause-front : goal.returns-in-Bad-clause-front
returns-in-Bad-clause-front g c =
    let plant = c.args.plant.now in
    let program = c.args.program.now in
    let files = g.F.Shelf.files c.args.files.now in
    let limits = c.limits_with-limits.ensures ∙ ap (limits_with program c.args.depth) c.len.ensures in
    let stands = subst (λ (l : Limits). IfSome files (λ m. AreSetups l (setup_sizes plant) c.args.head (file_of m c.args.name.now) c.in_ok-setups.field-0)) limits c.in_ok-setups.ensures.stands in
    bad_setups plant program c.args.depth files c.args.name.now c.args.head c.in_ok-setups.field-0 c.in-Bad.defect c.in-Bad.is stands
