-- Planning a part of a plant: its answer, and the files of it.
use Rattle.std.proofs.Common.{◌≡◌, ℕ, zero, suc, ◌-◌, ◌<◌, ◌≤◌, List, [], None, length, map, sum_by, refl, inl, inr, arith, add-one, true, nat_lt}
use Rattle.std.specs.Prelude.{◌↔◌, ◌==◌, min, Option, Result, Ok, Err, IfOk}
use Rattle.std.specs.List.{range_with_len}
use Rattle.std.proofs.lemmas.List.{length-map}
use Rattle.std.proofs.lemmas.List.FromFn.{sum_by-map-range_with_len_more}
use Rattle.std.proofs.lemmas.Bool.{cases_Bool, cases_lt, lt-ltb}
use Rattle.stn_model.specs.declared.plant.Plant.{Plant}
use Rattle.stn_model.specs.declared.start.Start.{Start}
use Rattle.stn_model.specs.declared.answer.Outcome.{Outcome}
use Rattle.stn_model.specs.Points.{depth_limit}
use Rattle.stn_model.specs.Answers.{IsOutcomeOf}
use Rattle.time_grid.specs.Slots.{slots}
use Rattle.row_kit.specs.declared.domain.Domain.{Domain}
use Rattle.row_kit.specs.Domain.{domain_at}
use Rattle.row_kit.specs.declared.program.Program.{Program}
use Rattle.row_set.specs.Parts.{IsPartOf, IsAdmitted}
use Rattle.row_set.specs.PlantProgram.{plant_root, slot_domain}
use Rattle.branch_tree.specs.Searched.{spared}
use Rattle.plan_told.specs.Outcomes.{least_plan, whole_count}
use Rattle.plan_told.specs.Proofs.{HasProof, depth_over, claim_of}
use Rattle.plant_parts.specs.PlantParts.{digit, cut_domain, cut_root, part_root, IsOfPart}
use Rattle.command_replies.specs.declared.reply.Reply.{Reply}
use Rattle.answer_texts.specs.Changed.{counted_since}
use Rattle.answer_texts.specs.Planning.{Planned}
use Rattle.planning_commands.specs.PartSolving.{HasPartProof, PartSolved}
use Rattle.planning_commands.specs.Replanning.{IsBegunOutcome}
use Rattle.command_replies.specs.Answers.{IsUnwritten}
use Rattle.answer_texts.proofs.StatusLemmas.{solved-status}
use Rattle.valid_log.proofs.Deeper.{plant-deeper}
use Rattle.planning_commands.proofs.PlannedLemmas.{planned-as}
use Rattle.planning_commands.proofs.ReplanLemmas.{outcome-among}

-- ---- the depth of a part's logs

-- a sum of a list of a function's values is at least the number of its first ones that are 1
ones : {X : Type 0} (g : X → ℕ) (f : ℕ → X) (levels n : ℕ) → ((place : ℕ) → place < levels → g (f place) ≡ 1) → min levels n ≤ sum_by g (map f (range_with_len 0 n))
ones g f levels zero one = omega arith
ones g f levels (suc n) one =
    let before = ones g f levels n one in
    let more = rw add-one at (sum_by-map-range_with_len_more g f 0 n n (omega arith)) in
    elim (cases_lt n levels) [ inl within ↦ (let last = one n within in omega (arith, before, more, last)) | inr past ↦ omega (arith, before, more, past) ]

-- each of the first slots of a part lacks 0 or holds 0 alone
spared-cut : (levels part place : ℕ) (own : Domain) → place < levels → spared (cut_domain levels part place own) ≡ 1
spared-cut levels part place own within =
    let t : nat_lt place levels ≡ true = lt-ltb place levels within in
    rw t (elim (cases_Bool (digit levels part place == 0)) [ inl e ↦ rw e refl | inr e ↦ rw e refl ])

-- so many splits less one for each level may be open in the logs of a part
shallow-part : (plant : Plant) (levels part : ℕ) → levels ≤ length (slots plant) → depth_over (depth_limit plant) (part_root plant levels part) ≤ depth_limit plant - levels
unfolding cut_root
shallow-part plant levels part enough =
    let whole = map (slot_domain plant) (slots plant) in
    let long : length whole ≡ length (slots plant) = simp length-map in
    let count = ones spared (λ place. cut_domain levels part place (domain_at whole place)) levels (length whole) (λ place within. spared-cut levels part place (domain_at whole place) within) in
    omega (arith, count, long)

-- a proof over a part's program is one whose log is valid at the smaller depth
has-part-proof : (plant : Plant) (levels part : ℕ) (program : Program) (log : Option (List ℕ)) (outcome : Outcome) → levels ≤ length (slots plant) → program.root ≡ part_root plant levels part
    → HasProof plant program (plant_root plant) levels log outcome → HasPartProof plant levels program log outcome
has-part-proof plant levels part program log outcome enough root has = record {
  has = has;
  shallow = plant-deeper plant program (depth_over (depth_limit plant) program.root) (depth_limit plant - levels) has.text (claim_of plant outcome.answer)
      (rw root (shallow-part plant levels part enough)) has.proof.valid;
}

-- ---- the answer

-- an answer of planning over a part's program is one of planning the part
pub part_solved : {E : Type 0} (plant : Plant) (levels part budget : ℕ) (log : Option (List ℕ)) (program : Program) (r : Result Reply E) → levels ≤ length (slots plant)
    → IsPartOf plant program → program.root ≡ part_root plant levels part → ((plan : List Start) → IsAdmitted plant program plan ↔ IsOfPart plant levels part plan)
    → IfOk r (λ reply. Planned plant (counted_since None []) (IsBegunOutcome plant program [] budget) (HasProof plant program (plant_root plant) levels log) reply.status reply.text.items)
    → IfOk r (λ reply. PartSolved budget plant levels part log reply.status reply.text.items)
part_solved plant levels part budget log program (Ok reply) enough is_part root exact planned = (
  program,
  (
    record { is_part = is_part; root = root },
    planned-as plant (counted_since None []) (IsBegunOutcome plant program [] budget) (IsOutcomeOf plant (IsOfPart plant levels part) (least_plan plant program) (whole_count program) budget)
        (HasProof plant program (plant_root plant) levels log) (HasPartProof plant levels program log) reply.status reply.text.items
        (λ outcome begun. outcome-among plant (IsAdmitted plant program) (IsOfPart plant levels part) (λ plan. (exact plan).0) (λ plan. (exact plan).1) (least_plan plant program) (whole_count program) budget outcome begun.right)
        (λ outcome has. has-part-proof plant levels part program log outcome enough root has) planned,
  ),
)
part_solved plant levels part budget log program (Err e) enough is_part root exact planned = tt

-- the status of such an answer is that of no refusal
pub part_written : {E : Type 0} (plant : Plant) (levels part budget : ℕ) (log : Option (List ℕ)) (Unchanged : Type 0) (r : Result Reply E)
    → IfOk r (λ reply. PartSolved budget plant levels part log reply.status reply.text.items) → IfOk r (λ reply. IsUnwritten reply.status → Unchanged)
part_written plant levels part budget log Unchanged (Ok reply) is = λ none. absurd (solved-status is.1.1.outcome.answer reply.status is.1.1.status_is none)
part_written plant levels part budget log Unchanged (Err e) is = tt
