-- The whole of a plant's choices is a part of them, and its outcomes are those of the plant.
use Rattle.std.proofs.Common.{◌≡◌, ℕ, ◌-◌, ◌*◌, List, [], ◌∷◌, map, Option, Some, None, ℤ, refl, ap, ap₂, ◌∙◌, subst, arith}
use Rattle.std.specs.Prelude.{MatchOption}
use Rattle.std.specs.List.{All}
use Rattle.std.proofs.lemmas.List.Elements.{All-head, All-tail}
use Rattle.stn_model.specs.declared.plant.Plant.{Plant}
use Rattle.stn_model.specs.declared.start.Start.{Start}
use Rattle.stn_model.specs.declared.answer.Answer.{Answer}
use Rattle.stn_model.specs.declared.answer.Answer.TheVariants as answer
use Rattle.stn_model.specs.declared.answer.Outcome.{Outcome}
use Rattle.stn_model.specs.Answers.{IsAnswerOf, IsOutcome, IsOutcomeOf, NoneFound, EarnsBelow}
use Rattle.stn_model.specs.Feasible.{Feasible}
use Rattle.stn_model.specs.Plant.{no_run, run_at}
use Rattle.stn_model.specs.Points.{boxes}
use Rattle.stn_model.specs.Sound.{Sound, SoundRun}
use Rattle.stn_model.specs.Sums.{product_by}
use Rattle.time_grid.specs.PlanPoint.{point_starts}
use Rattle.time_grid.specs.Slots.{IsSlotOf, slot_choices, slots}
use Rattle.time_grid.proofs.SlotList.{product-slots, slots-are}
use Rattle.row_kit.specs.declared.domain.Domain.{Domain}
use Rattle.row_kit.specs.declared.program.Program.{Program}
use Rattle.row_kit.specs.Domain.{count_of}
use Rattle.row_kit.specs.Points.{points_of}
use Rattle.row_relax.specs.Settle.{only_point}
use Rattle.row_set.specs.Parts.{IsAdmitted, plan_of_values}
use Rattle.row_set.specs.PlantProgram.{IsMadeOf, IsProgramOf, slot_domain}
pub use Rattle.valid_log.proofs.Saying.{whole-is_part}
use Rattle.plan_told.specs.Outcomes.{IsPartOutcome, least_plan, whole_count}

-- the least values of a plant's slots start nothing
least_starts : (plant : Plant) (grid : List (ℕ × ℕ)) → point_starts plant grid (only_point (map (slot_domain plant) grid)) ≡ []
least_starts plant [] = refl
least_starts plant (slot ∷ grid) = least_starts plant grid

-- over the whole of a plant's choices the plan that does least starts nothing
least_none : (plant : Plant) (program : Program) → IsMadeOf plant program → least_plan plant program ≡ []
unfolding plan_of_values
least_none plant program made =
    ap (λ (ds : List Domain). point_starts plant (slots plant) (only_point ds)) made.root_is ∙ least_starts plant (slots plant)

points_choices : (plant : Plant) (grid : List (ℕ × ℕ)) → Sound plant → All (IsSlotOf plant) grid → points_of (map (slot_domain plant) grid) ≡ product_by (slot_choices plant) grid
points_choices plant [] sound are = refl
points_choices plant (slot ∷ grid) sound are =
    let run : SoundRun plant (run_at plant slot.0) = sound.runs slot.0 no_run (All-head (IsSlotOf plant) slot grid are).run in
    let first : count_of (slot_domain plant slot) ≡ slot_choices plant slot = omega (arith, run.range) in
    ap₂ (λ m n. m * n) first (points_choices plant grid sound (All-tail (IsSlotOf plant) slot grid are))

-- the whole count is that of the plant's boxes
count_whole : (plant : Plant) (program : Program) → Sound plant → IsMadeOf plant program → whole_count program ≡ boxes plant
unfolding boxes
count_whole plant program sound made =
    ap (λ n. 2 * n - 1) (ap points_of made.root_is ∙ points_choices plant (slots plant) sound (slots-are plant) ∙ product-slots plant)

found_same : (plant : Plant) (A B : List Start → Type 0) → ((plan : List Start) → A plan → B plan) → ((plan : List Start) → B plan → A plan) → (least : List Start) (found : Option (List Start)) (earned cap : ℤ)
    → MatchOption found (NoneFound A least earned) (λ best. EarnsBelow plant A best earned cap) → MatchOption found (NoneFound B least earned) (λ best. EarnsBelow plant B best earned cap)
found_same plant A B to from least None earned cap is = (is.0, λ admitted. is.1 (from least admitted))
found_same plant A B to from least (Some best) earned cap is = record { admitted = to best is.admitted; profit_is = is.profit_is; below = is.below }

-- what is right of some admitted plans is right where the same plans are admitted
answer_same : (plant : Plant) (A B : List Start → Type 0) → ((plan : List Start) → A plan → B plan) → ((plan : List Start) → B plan → A plan) → (least : List Start) (count budget used : ℕ) (said : Answer)
    → IsAnswerOf plant A least count budget used said → IsAnswerOf plant B least count budget used said
answer_same plant A B to from least count budget used (answer.Optimal plan earned) right =
    (record { admitted = to plan right.0.admitted; best = λ other admitted. right.0.best other (from other admitted) }, right.1)
answer_same plant A B to from least count budget used answer.Infeasible right = λ plan admitted. right plan (from plan admitted)
answer_same plant A B to from least count budget used (answer.BudgetSpent plan earned cap) right = record {
  exactly = right.exactly;
  fewer = right.fewer;
  found = found_same plant A B to from least plan earned cap right.found;
  floor = λ admitted. right.floor (from least admitted);
  capped = λ other admitted. right.capped other (from other admitted);
}

-- an outcome over the whole of a plant's choices is one of the plant
pub whole-outcome : (plant : Plant) (program : Program) (budget : ℕ) (outcome : Outcome) → Sound plant → IsMadeOf plant program → IsProgramOf plant program
    → IsPartOutcome plant program budget outcome → IsOutcome plant budget outcome
whole-outcome plant program budget outcome sound made means right =
    let admits = IsAdmitted plant program in
    let least = subst (λ (plan : List Start). IsOutcomeOf plant admits plan (whole_count program) budget outcome) (least_none plant program made) right in
    let all = subst (λ (n : ℕ). IsOutcomeOf plant admits [] n budget outcome) (count_whole plant program sound made) least in
    record {
      answer = answer_same plant admits (Feasible plant) (λ plan admitted. admitted.feasible)
          (λ plan feasible. record { feasible = feasible; lies = ((means.feasible plan).0 feasible).1.lies })
          [] (boxes plant) budget outcome.boxes outcome.answer all.answer;
      some = all.some;
      within = all.within;
      most = all.most;
    }
