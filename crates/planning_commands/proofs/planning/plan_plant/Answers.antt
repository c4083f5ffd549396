-- The program of a plant is a part of its choices, and its outcomes are those of the plant.
use Rattle.std.proofs.lemmas.Result.{IfOk-weaker}
use Rattle.row_set.specs.PlantProgram.{plant_root}
use Rattle.sum_slots.specs.Shown.{AreRanges}
use Rattle.valid_log.proofs.PlantRanges.{plant-ranges}
use Rattle.plan_told.specs.Proofs.{HasPlantProof, HasProof}
use Rattle.plan_told.proofs.WholePlant.{whole-is_part}
use Rattle.command_words.specs.Words.{named_log}
use Rattle.command_replies.specs.declared.reply.Reply.{Reply}
use Rattle.answer_texts.specs.Changed.{counted_since}
use Rattle.answer_texts.specs.Planning.{Planned}
use Rattle.planning_commands.specs.Improving.{IsGivenOutcome}
use Rattle.planning_commands.specs.NamedLog.{told_log}
use Rattle.planning_commands.specs.Replanning.{IsBegunOutcome, LeavesPartLog}
use Rattle.planning_commands.specs.Solving.{LeavesPlant}
use Rattle.std.proofs.Common.{ℕ, List, sym, subst}
use Rattle.planning_commands.proofs.NamedLemmas.{left-as}
use Rattle.planning_commands.proofs.PlannedLemmas.{given-outcome, leaves-plant, plant-proof, planned-as}
use Rattle.planning_commands.proofs.planning.plan_plant.Goals as goal

pub plan_part-requires-clause-part : goal.plan_part-requires-clause-part
plan_part-requires-clause-part g c = whole-is_part c.args.plant.now c.in_ok-program.program c.in_ok-program.ensures.made c.in_ok-program.ensures.means

pub plan_part-requires-clause-ranges : goal.plan_part-requires-clause-ranges
plan_part-requires-clause-ranges g c = subst (AreRanges c.in_ok-program.program) (sym c.in_ok-judged.ensures) (plant-ranges c.args.plant.now c.in_ok-program.program c.in_ok-program.ensures.made)

pub returns-clause-answer : goal.returns-clause-answer
returns-clause-answer g c =
    let root = c.in_ok-judged.ensures in
    let plant = c.args.plant.now in
    let program = c.in_ok-program.program in
    let start = c.args.start.now in
    let budget = c.args.budget.boxes in
    let made = c.in_ok-program.ensures.made in
    let means = c.in_ok-program.ensures.means in
    let log = told_log (named_log c.args.log) (g.F.Shelf.files c.plan_part.new.files) in
    IfOk-weaker c.plan_part.result _ _
    (λ (reply : Reply) (is : Planned plant (counted_since c.args.since start) (IsBegunOutcome plant program start budget) (HasProof plant program (plant_root plant) 0 log) reply.status reply.text.items).
    planned-as plant (counted_since c.args.since start) (IsBegunOutcome plant program start budget) (IsGivenOutcome plant start budget) (HasProof plant program (plant_root plant) 0 log) (HasPlantProof plant log) reply.status reply.text.items
    (λ outcome begun. given-outcome plant program made means start budget outcome c.requires.sound begun) (λ outcome has. plant-proof plant program made means log outcome has) is)
    (rw root at c.plan_part.ensures.answer)

pub returns-clause-left : goal.returns-clause-left
returns-clause-left g c =
    let root = c.in_ok-judged.ensures in
    let plant = c.args.plant.now in
    let program = c.in_ok-program.program in
    let old = g.F.Shelf.files c.args.files.now in
    let new = g.F.Shelf.files c.plan_part.new.files in
    left-as (named_log c.args.log) (λ (name : List ℕ). LeavesPartLog plant program (plant_root plant) 0 name old new) (λ (name : List ℕ). LeavesPlant plant name old new) old new
    (λ name left. leaves-plant plant program c.in_ok-program.ensures.made c.in_ok-program.ensures.means name old new left) (rw root at c.plan_part.ensures.left)
