-- What is told of a search over the rows of a head, as of the part.
use Rattle.std.specs.Prelude.{◌≡◌, ◌≤◌, ℕ, true, List, [], ◌∷◌, ◌++◌, length, flat_map, Option, IfSome}
use Rattle.stn_model.specs.declared.plant.Plant.{Plant}
use Rattle.stn_model.specs.declared.answer.Outcome.{Outcome}
use Rattle.stn_model.specs.Points.{depth_limit}
use Rattle.stn_model.specs.Sound.{Sound}
use Rattle.time_grid.specs.Slots.{slots}
use Rattle.row_kit.specs.declared.domain.Domain.{Domain}
use Rattle.row_kit.specs.declared.found.Found.{Found}
use Rattle.row_kit.specs.declared.program.Program.{Program}
use Rattle.row_set.specs.Parts.{IsPartOf}
use Rattle.proof_tree.specs.Items.{tree_items}
use Rattle.row_relax.specs.Choices.{HaveImages, choices_of}
use Rattle.row_relax.specs.RowProofs.{RowTree}
use Rattle.branch_tree.specs.declared.ended.Ended.{Ended}
use Rattle.branch_tree.specs.Searched.{IsWorth}
use Rattle.log_lines.specs.declared.line.Line.TheVariants.{End}
use Rattle.proof_log.specs.Log.{claim_lines, item_lines, lines_text}
use Rattle.sum_slots.specs.declared.sum.Sum.{Sum}
use Rattle.sum_slots.specs.Shown.{AreRanges}
use Rattle.sum_choice.specs.Headed.{is_headed}
use Rattle.valid_log.specs.SumTexts.{larger_claim}
use Rattle.plan_told.specs.Claims.{HaveBytes, IfPoint}
use Rattle.plan_told.specs.Ended.{IsEnding}
use Rattle.plan_told.specs.Given.{given_end}
use Rattle.plan_told.specs.Telling.{IsTold}
use Rattle.plan_told.specs.declared.telling.Told.{Told}
use Rattle.head_choice.specs.declared.heading.Headed.{Headed}
use Rattle.logged_search.specs.Logging.{HasFewSplits}

-- what a search ended with can be told of a sound plant: its best point has a value for each slot
pub record CanTell (plant : Plant) (ended : Ended) : Type 0 where
  pub sound : Sound plant
  pub places : IfSome ended.best (λ found. length found.point ≡ length (slots plant))

-- this is what is told of a plant and the end of a search, with the claim as of the program with sums
pub record IsToldLarger (plant : Plant) (sums : List Sum) (ended : Ended) (larger : Told) : Type 0 where
  pub own : Told
  pub told : IsTold plant ended own
  pub outcome : larger.outcome ≡ own.outcome
  pub claim : larger.claim ≡ larger_claim sums own.claim

-- the end of a search over the rows of a head, as of the part, which has this least point
abbrev pub end_over : Headed → Option Found → Ended → Ended
end_over headed least ended = given_end headed.given least ended

-- a tree is a proof that a search over the rows of a head made, with floors, in which at most so many splits stand one below another
abbrev pub IsEndOver : ℕ → Headed → ℕ → Ended → RowTree → Type 0
IsEndOver most headed budget ended tree = IsEnding most headed.rows true headed.given budget ended tree

-- whatever a search over the rows of a head ends with, it can be told: its best point has a value for each slot of the plant, and the sums
-- have values at the point of the claim that are bytes
pub record CanBeTold (plant : Plant) (headed : Headed) (least : Option Found) (budget : ℕ) : Type 0 where
  pub places : (ended : Ended) (tree : RowTree) → IsEndOver (depth_limit plant) headed budget ended tree → IfSome (end_over headed least ended).best (λ found. length found.point ≡ length (slots plant))
  pub bytes : (ended : Ended) (tree : RowTree) (told : Told) → IsEndOver (depth_limit plant) headed budget ended tree → IsTold plant (end_over headed least ended) told → IfPoint told.claim (HaveBytes headed.sums)

-- with this budget the rows of a head can be searched for a sound plant, and what that ends with can be told
pub record CanPlanOver (plant : Plant) (headed : Headed) (least : Option Found) (budget : ℕ) : Type 0 where
  pub sound : Sound plant
  pub images : HaveImages headed.rows
  pub splits : HasFewSplits (depth_limit plant) headed.rows.program
  pub few : (1 ≤ budget) × (budget ≤ 100000)
  pub told : CanBeTold plant headed least budget

-- with this budget a part of a sound plant's choices, judged over these domains, can be planned behind a head: it has many points
pub record CanPlanHeaded (plant : Plant) (part : Program) (judged : List Domain) (budget : ℕ) : Type 0 where
  pub sound : Sound plant
  pub part_of : IsPartOf plant part
  pub ranges : AreRanges part judged
  pub many : is_headed part 0 ≡ true
  pub few : (1 ≤ budget) × (budget ≤ 100000)

-- the text of a log behind a head, of this proof and of what is told with the values of the sums
abbrev pub text_over : Headed → RowTree → Told → List ℕ
text_over headed tree told =
    headed.head.items ++ lines_text (flat_map item_lines (tree_items tree) ++ (claim_lines (larger_claim headed.sums told.claim) ++ End ∷ []))

-- an outcome is what is told of a search over the rows of a head that began with a point; where bytes are told, they are the text of its log
pub record IsToldOver (plant : Plant) (headed : Headed) (least : Option Found) (budget : ℕ) (point : List ℕ) (log : Option (List ℕ)) (outcome : Outcome) : Type 0 where
  pub ended : Ended
  pub tree : RowTree
  pub of : IsEndOver (depth_limit plant) headed budget ended tree
  pub begun : IsWorth (choices_of headed.rows) point ended.best
  pub told : Told
  pub tells : IsTold plant (end_over headed least ended) told
  pub outcome_is : outcome ≡ told.outcome
  pub text : IfSome log (λ bytes. bytes ≡ text_over headed tree told)
