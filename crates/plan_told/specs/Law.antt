-- That what is told of a search over the rows of a head is right.
use Rattle.std.specs.Prelude.{◌≡◌, ◌<◌, ◌≤◌, ℕ, Bool, List, length}
use Rattle.stn_model.specs.declared.plant.Plant.{Plant}
use Rattle.stn_model.specs.Points.{depth_limit}
use Rattle.stn_model.specs.Sound.{Sound}
use Rattle.row_kit.specs.declared.domain.Domain.{Domain}
use Rattle.row_kit.specs.declared.program.Program.{Program}
use Rattle.row_kit.specs.Point.{IsLawful}
use Rattle.row_kit.specs.Points.{points_of}
use Rattle.row_set.specs.Parts.{IsPartOf}
use Rattle.row_relax.specs.declared.rows.Rows.{Rows}
use Rattle.row_relax.specs.RowProofs.{RowTree}
use Rattle.branch_tree.specs.declared.ended.Ended.{Ended}
use Rattle.sum_slots.specs.declared.sum.Sum.{Sum}
use Rattle.sum_slots.specs.Shown.{AreRanges}
use Rattle.derivations.specs.declared.derivation.Derivation.{Derivation}
use Rattle.plan_told.specs.Claims.{IfPoint}
use Rattle.plan_told.specs.Ended.{IsEnding}
use Rattle.plan_told.specs.Given.{IsGivenEnded}
use Rattle.plan_told.specs.Heads.{CanHead}
use Rattle.plan_told.specs.Outcomes.{IsPartOutcome}
use Rattle.plan_told.specs.Proofs.{IsHeadedProofOf, claim_of}
use Rattle.plan_told.specs.Telling.{IsTold}
use Rattle.plan_told.specs.declared.telling.Told.{Told}

-- an outcome that is told is right, this is its proof over the rows with what a head declares, and the claim that is told is that of its answer
pub record IsToldByHead (plant : Plant) (part : Program) (judged : List Domain) (sums : List Sum) (units : List ℕ) (derivations : List Derivation) (budget : ℕ) (tree : RowTree) (told : Told) : Type 0 where
  pub outcome : IsPartOutcome plant part budget told.outcome
  pub proof : IsHeadedProofOf plant part judged sums units derivations told.outcome tree
  pub claim : told.claim ≡ claim_of plant told.outcome.answer
  -- the point that the claim names is lawful
  pub point : IfPoint told.claim (IsLawful part)

-- What is told of a search over the rows of a head of a part of a sound plant's choices is right, where the head is judged over domains in
-- which the part's points lie, and the part has more than 50,000 points, so that no budget reaches its whole count of boxes, whether
-- splits have floors or not. So is what is told where some slot of the rows' root has no value.
abbrev pub HeadsAreTold : Type 0
HeadsAreTold =
    (plant : Plant) (part : Program) (rows : Rows) (judged : List Domain) (sums : List Sum) (units : List ℕ) (derivations : List Derivation) (floors : Bool) (budget : ℕ) (tree : RowTree) (ended given : Ended) (told : Told)
    → Sound plant → IsPartOf plant part → AreRanges part judged → CanHead plant part judged sums units derivations rows → 50000 < points_of part.root → 1 ≤ budget → budget ≤ 100000
    → IsEnding (depth_limit plant) rows floors (length part.root) budget ended tree → IsGivenEnded part ended given → IsTold plant given told
    → IsToldByHead plant part judged sums units derivations budget tree told
