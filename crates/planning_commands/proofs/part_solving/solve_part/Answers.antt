-- An answer of planning a part has the status of no refusal.
use Rattle.std.proofs.Common.{◌≡◌, Option, inr, sym, subst}
use Rattle.std.proofs.lemmas.Result.{IfOk-weaker}
use Rattle.stn_edge.specs.Files.{FileMap}
use Rattle.sum_slots.specs.Shown.{AreRanges}
use Rattle.valid_log.proofs.PlantRanges.{part-ranges}
use Rattle.plan_told.specs.Proofs.{bytes_in}
use Rattle.planning_commands.proofs.PartLemmas.{part_solved, part_written}
use Rattle.planning_commands.proofs.part_solving.solve_part.Goals as goal

pub plan_part-requires-clause-ranges : goal.plan_part-requires-clause-ranges
plan_part-requires-clause-ranges g c = subst (AreRanges c.in_ok-rows.rows.program) (sym c.in_ok-judged.ensures) (part-ranges c.args.plant.now c.in_ok-rows.rows.program c.in_ok-rows.ensures.part)

pub returns-clause-answer : goal.returns-clause-answer
returns-clause-answer g c =
    let root = c.in_ok-judged.ensures in
    let part = c.args.part in
    let made = c.in_ok-rows.ensures in
    let enough = c.in_ok-has_slots.ensures.0 c.if-not-branch.false in
    IfOk-weaker c.plan_part.result _ _ (λ _ solved. inr (enough, solved))
    (part_solved c.args.plant.now part.levels.number part.number c.args.budget.boxes (bytes_in c.args.log.now (g.F.Shelf.files c.plan_part.new.files)) c.in_ok-rows.rows.program c.plan_part.result
    enough made.part made.root made.exact (rw root at c.plan_part.ensures.answer))

pub returns-clause-refused : goal.returns-clause-refused
returns-clause-refused g c =
    let root = c.in_ok-judged.ensures in
    let part = c.args.part in
    let made = c.in_ok-rows.ensures in
    let enough = c.in_ok-has_slots.ensures.0 c.if-not-branch.false in
    let new = g.F.Shelf.files c.plan_part.new.files in
    let log = bytes_in c.args.log.now new in
    part_written c.args.plant.now part.levels.number part.number c.args.budget.boxes log (◌≡◌ {A = Option FileMap} new (g.F.Shelf.files c.args.files.now)) c.plan_part.result
    (part_solved c.args.plant.now part.levels.number part.number c.args.budget.boxes log c.in_ok-rows.rows.program c.plan_part.result enough made.part made.root made.exact (rw root at c.plan_part.ensures.answer))

pub returns-clause-begun : goal.returns-clause-begun
returns-clause-begun g c = λ _. c.in_ok-has_slots.ensures.0 c.if-not-branch.false

pub returns-clause-left : goal.returns-clause-left
returns-clause-left g c =
    let root = c.in_ok-judged.ensures in
    let made = c.in_ok-rows.ensures in
    inr (c.in_ok-has_slots.ensures.0 c.if-not-branch.false, (c.in_ok-rows.rows.program, (record { is_part = made.part; root = made.root }, (rw root at c.plan_part.ensures.left))))
