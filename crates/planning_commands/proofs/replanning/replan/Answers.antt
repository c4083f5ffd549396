use Rattle.std.proofs.Common.{◌≡◌, ◌⊎◌, ℕ, List, Option, Some, inl, inr, refl, sym, ◌∙◌, subst}
use Rattle.stn_edge.specs.Files.{FileMap}
use Rattle.frozen_plan.specs.Frozen.{kept_starts}
use Rattle.command_words.specs.Words.{named_log}
use Rattle.sum_slots.specs.Shown.{AreRanges}
use Rattle.sum_slots.proofs.Ranges.{own-ranges}
use Rattle.answer_texts.proofs.KeptLemmas.{broken_open}
use Rattle.planning_commands.specs.NamedLog.{told_log}
use Rattle.planning_commands.specs.PlanningOn.{CanGoOn, LeavesOn}
use Rattle.planning_commands.specs.Replanning.{LeavesPartLog, SolvedOver}
use Rattle.planning_commands.proofs.NamedLemmas.{left-as}
use Rattle.planning_commands.proofs.ReplanLemmas.{replanned_open}
use Rattle.planning_commands.proofs.replanning.replan.Goals as goal

pub plan_part-requires-clause-ranges : goal.plan_part-requires-clause-ranges
plan_part-requires-clause-ranges g c = subst (AreRanges c.in-Open.rows.program) (sym (c.in_ok-judged-in-Open.ensures ∙ c.as_slice.ensures)) (own-ranges c.in-Open.rows.program)

pub returns-in_ok-judged-in-Open-clause-answer : goal.returns-in_ok-judged-in-Open-clause-answer
returns-in_ok-judged-in-Open-clause-answer g c =
    let root = c.in_ok-judged-in-Open.ensures ∙ c.as_slice.ensures in
    let found = c.in-Open.is in
    replanned_open c.args.plant.now c.args.period c.args.plan.now c.args.budget.boxes (told_log (named_log c.args.log) (g.F.Shelf.files c.plan_part.new.files))
    (◌≡◌ {A = Option FileMap} (g.F.Shelf.files c.plan_part.new.files) (g.F.Shelf.files c.args.files.now)) c.in-Open.rows.program c.plan_part.result (rw found at c.in_ok-rows.ensures) (rw root at c.plan_part.ensures.answer)

pub returns-in_ok-judged-in-Open-clause-left : goal.returns-in_ok-judged-in-Open-clause-left
returns-in_ok-judged-in-Open-clause-left g c =
    let root = c.in_ok-judged-in-Open.ensures ∙ c.as_slice.ensures in
    let found = c.in-Open.is in
    let is = rw found at c.in_ok-rows.ensures in
    let plant = c.args.plant.now in
    let plan = c.args.plan.now in
    let program = c.in-Open.rows.program in
    let old = g.F.Shelf.files c.args.files.now in
    let new = g.F.Shelf.files c.plan_part.new.files in
    left-as (named_log c.args.log) (λ (name : List ℕ). LeavesPartLog plant program program.root 0 name old new)
    (λ (name : List ℕ). (new ≡ old) ⊎ (CanGoOn (Some c.args.period) plant plan × LeavesOn (Some c.args.period) plant plan name old new)) old new
    (λ name left. inr (is.together, (program, (is, left)))) (rw root at c.plan_part.ensures.left)
