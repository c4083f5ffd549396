use Rattle.std.proofs.Common.{◌≡◌, ◌⊎◌, ℕ, List, Some, None, inr, arith}
use Rattle.std.proofs.lemmas.Result.{IfOk-weaker}
use Rattle.stn_model.specs.Feasible.{Feasible}
use Rattle.plan_told.specs.Proofs.{HasPlantProof}
use Rattle.command_words.specs.Words.{named_log}
use Rattle.command_words.specs.declared.uses.PlanUse.TheVariants.{Simulate}
use Rattle.command_replies.specs.declared.reply.Reply.{Reply}
use Rattle.answer_texts.specs.Changed.{counted_since}
use Rattle.answer_texts.specs.Planning.{Planned}
use Rattle.answer_texts.proofs.StatusLemmas.{simulated-feasible}
use Rattle.planning_commands.specs.Improving.{IsGivenOutcome, IsImproved}
use Rattle.planning_commands.specs.NamedLog.{told_log}
use Rattle.planning_commands.specs.PlanningOn.{CanGoOn, LeavesOn}
use Rattle.planning_commands.specs.Solving.{LeavesPlant}
use Rattle.planning_commands.proofs.NamedLemmas.{left-as}
use Rattle.planning_commands.proofs.PlannedLemmas.{planned-as}
use Rattle.planning_commands.proofs.improving.improve.Goals as goal

pub returns-then-simulated-eq0-clause-answer : goal.returns-then-simulated-eq0-clause-answer
returns-then-simulated-eq0-clause-answer g c =
    let plant = c.args.plant.now in
    let plan = c.args.plan.now in
    let budget = c.args.budget.boxes in
    let log = told_log (named_log c.args.log) (g.F.Shelf.files c.plan_plant.new.files) in
    let zero : c.in_ok-simulated.simulated.status ≡ 0 = grind arith in
    let feasible : Feasible plant plan = simulated-feasible Simulate plant plan c.in_ok-simulated.simulated.status c.in_ok-simulated.simulated.text.items c.in_ok-simulated.ensures zero in
    IfOk-weaker c.plan_plant.result _ _
    (λ (reply : Reply) (is : Planned plant (counted_since (Some 0) plan) (IsGivenOutcome plant plan budget) (HasPlantProof plant log) reply.status reply.text.items). inr (record {
      feasible = feasible;
      planned = planned-as plant (counted_since (Some 0) plan) (IsGivenOutcome plant plan budget) (IsImproved plant plan budget) (HasPlantProof plant log) (HasPlantProof plant log) reply.status reply.text.items
          (λ outcome given. record { right = given.right; earns = given.begun feasible }) (λ outcome has. has) is;
    }))
    c.plan_plant.ensures.answer

pub returns-then-simulated-eq0-clause-left : goal.returns-then-simulated-eq0-clause-left
returns-then-simulated-eq0-clause-left g c =
    let plant = c.args.plant.now in
    let plan = c.args.plan.now in
    let old = g.F.Shelf.files c.args.files.now in
    let new = g.F.Shelf.files c.plan_plant.new.files in
    let zero : c.in_ok-simulated.simulated.status ≡ 0 = grind arith in
    let feasible : Feasible plant plan = simulated-feasible Simulate plant plan c.in_ok-simulated.simulated.status c.in_ok-simulated.simulated.text.items c.in_ok-simulated.ensures zero in
    left-as (named_log c.args.log) (λ (name : List ℕ). LeavesPlant plant name old new)
    (λ (name : List ℕ). (new ≡ old) ⊎ (CanGoOn None plant plan × LeavesOn None plant plan name old new)) old new (λ name left. inr (feasible, left)) c.plan_plant.ensures.left
