-- The proof of an outcome, and the log that holds it.
use Rattle.std.specs.Prelude.{◌≡◌, ◌⊎◌, ℕ, Bool, true, false, ◌-◌, ⊤, List, [], ◌++◌, length, Option, Some, None, IfSome}
use Rattle.std.specs.List.{sum_by}
use Rattle.std.specs.Option.{option_map}
use Rattle.stn_edge.specs.Files.{FileMap, file_of}
use Rattle.stn_model.specs.declared.plant.Plant.{Plant}
use Rattle.stn_model.specs.declared.answer.Answer.{Answer}
use Rattle.stn_model.specs.declared.answer.Answer.TheVariants as answer
use Rattle.stn_model.specs.declared.answer.Outcome.{Outcome}
use Rattle.stn_model.specs.Points.{depth_limit}
use Rattle.time_grid.specs.PlanPoint.{plan_point}
use Rattle.row_kit.specs.declared.domain.Domain.{Domain}
use Rattle.row_kit.specs.declared.program.Program.{Program}
use Rattle.row_set.specs.PlantProgram.{IsMadeOf, IsProgramOf, plant_root}
use Rattle.proof_tree.specs.Items.{tree_items}
use Rattle.proof_tree.specs.Nodes.{counted}
use Rattle.proof_tree.specs.declared.capped.Capped.{Capped}
use Rattle.proof_tree.specs.declared.capped.Capped.TheVariants.{AtMost}
use Rattle.proof_tree.specs.Tree.{tree_cap}
use Rattle.row_relax.specs.declared.rows.Rows.{Rows}
use Rattle.row_relax.specs.Choices.{plain, steps_of}
use Rattle.row_relax.specs.RowProofs.{RowTree}
use Rattle.row_relax.specs.View.{view_of}
use Rattle.branch_tree.specs.Justified.{IsJustified}
use Rattle.branch_tree.specs.Searched.{HasOpenBox, IsWritable, spared}
use Rattle.proof_log.specs.declared.claim.Claim.{Claim}
use Rattle.proof_log.specs.declared.claim.Claim.TheVariants as claim
use Rattle.proof_log.specs.Log.{log_text}
use Rattle.valid_log.specs.declared.verdict.LogVerdict.TheVariants.{Yes}
use Rattle.sum_slots.specs.declared.sum.Sum.{Sum}
use Rattle.sum_choice.specs.Headed.{is_headed}
use Rattle.derivations.specs.declared.derivation.Derivation.{Derivation}
use Rattle.valid_log.specs.Heads.{IsWithHead}
use Rattle.valid_log.specs.AnyVersion.{IsAnyVerdict}
use Rattle.valid_log.specs.SumTexts.{larger_claim}
use Rattle.plan_told.specs.Heads.{headed_text}

-- the claim of an answer: its profit, its cap, and the point of its plan
abbrev pub claim_of : Plant → Answer → Claim
claim_of plant (answer.Optimal plan earned) = claim.Optimal earned (plan_point plant plan)
claim_of plant answer.Infeasible = claim.Infeasible
claim_of plant (answer.BudgetSpent None earned cap) = claim.Below cap
claim_of plant (answer.BudgetSpent (Some plan) earned cap) = claim.Between earned cap (plan_point plant plan)

-- how many splits may be open in a log over a root: the most, less one for each slot that lacks 0 or holds 0 alone
abbrev pub depth_over : ℕ → List Domain → ℕ
depth_over most root = most - sum_by spared root

-- where an answer says that the budget was spent
abbrev pub IfSpent : Answer → Type 0 → Type 0
IfSpent (answer.Optimal plan earned) P = ⊤
IfSpent answer.Infeasible P = ⊤
IfSpent (answer.BudgetSpent plan earned cap) P = P

-- where an answer says that the budget was spent, its CAP is exactly this cap
abbrev pub IsCapOf : Answer → Capped → Type 0
IsCapOf (answer.Optimal plan earned) capped = ⊤
IsCapOf answer.Infeasible capped = ⊤
IsCapOf (answer.BudgetSpent plan earned cap) capped = capped ≡ AtMost cap

-- the text is that of a log of a part, of this proof and this claim over the part's own program: it is of version 2, and declares nothing
abbrev pub IsPlainText : Program → List Sum → List ℕ → List Derivation → Rows → RowTree → Claim → List ℕ → Type 0
IsPlainText part sums units derivations rows tree own text =
    (sums ≡ []) × (units ≡ []) × (derivations ≡ []) × (rows ≡ plain part) × (text ≡ log_text 2 (tree_items tree) own)

-- the text is that of a log of a part over the rows with the sums, the setups and the derivations which its head declares, judged over domains: it is of version 4
abbrev pub IsHeadedText : Plant → Program → List Domain → List Sum → List ℕ → List Derivation → Rows → RowTree → Claim → List ℕ → Type 0
IsHeadedText plant part judged sums units derivations rows tree own text =
    IsWithHead plant 4 part judged sums units derivations rows × (text ≡ headed_text sums units derivations tree own)

-- The text is that of a log of a part: without a head it is of version 2, and with one of version 4. No log of another version is written.
abbrev pub IsLogText : Bool → Plant → Program → List Domain → List Sum → List ℕ → List Derivation → Rows → RowTree → Claim → List ℕ → Type 0
IsLogText false plant part judged sums units derivations rows tree own text = IsPlainText part sums units derivations rows tree own text
IsLogText true plant part judged sums units derivations rows tree own text = IsHeadedText plant part judged sums units derivations rows tree own text

-- A proof of an outcome over the rows of a part with sums, setups and derivations, or without: no box was split without cause, as many
-- boxes are counted as the outcome says, and its text with the claim of the answer is a valid log, with a head or without one, and the
-- head is judged over these domains. Where the budget was spent, CAP is the proof's cap, and a box with a point is open.
pub record IsProofOver (headed : Bool) (plant : Plant) (part : Program) (judged : List Domain) (sums : List Sum) (units : List ℕ) (derivations : List Derivation) (rows : Rows) (outcome : Outcome) (tree : RowTree) (text : List ℕ) : Type 0 where
  pub boxes : counted tree ≡ outcome.boxes
  -- the slots of the part are the plant's own, all later ones a sum's or a setup's
  pub justified : IsJustified rows (length part.root) tree
  pub is : IsLogText headed plant part judged sums units derivations rows tree (larger_claim sums (claim_of plant outcome.answer)) text
  pub valid : IsAnyVerdict plant part (plant_root plant) judged (depth_over (depth_limit plant) part.root) text (Yes (claim_of plant outcome.answer))
  pub cap : IsCapOf outcome.answer (tree_cap (steps_of rows) (view_of rows.program.root) tree)
  pub left_open : IfSpent outcome.answer (HasOpenBox rows (view_of rows.program.root) tree)

-- the text of the log of a proof, with the claim of an answer
abbrev pub proof_text : Plant → Answer → RowTree → List ℕ
proof_text plant answer tree = log_text 2 (tree_items tree) (claim_of plant answer)

-- the text of the log of a proof behind a head, with the claim of an answer, whose point the values of the sums follow
abbrev pub headed_proof_text : Plant → Answer → List Sum → List ℕ → List Derivation → RowTree → List ℕ
headed_proof_text plant answer sums units derivations tree = headed_text sums units derivations tree (larger_claim sums (claim_of plant answer))

-- a proof of an outcome over the part's own program
abbrev pub IsProofOf : Plant → Program → Outcome → RowTree → Type 0
IsProofOf plant part outcome tree = (judged : List Domain) → IsProofOver false plant part judged [] [] [] (plain part) outcome tree (proof_text plant outcome.answer tree)

-- a proof of an outcome over the rows of a part with the sums, the setups and the derivations of a head that is judged over domains
abbrev pub IsHeadedProofOf : Plant → Program → List Domain → List Sum → List ℕ → List Derivation → Outcome → RowTree → Type 0
IsHeadedProofOf plant part judged sums units derivations outcome tree =
    (rows : Rows) × IsProofOver true plant part judged sums units derivations rows outcome tree (headed_proof_text plant outcome.answer sums units derivations tree)

-- There is a proof of the outcome: over the rows with what a head declares that is judged over these domains, exactly where the part's
-- log has a head, and else over the part's own program. Where bytes are told, they are the text of its log. The part is one of those
-- that so many first slots tell apart.
pub record HasProof (plant : Plant) (part : Program) (judged : List Domain) (levels : ℕ) (log : Option (List ℕ)) (outcome : Outcome) : Type 0 where
  pub sums : List Sum
  pub units : List ℕ
  pub derivations : List Derivation
  pub rows : Rows
  pub tree : RowTree
  pub text : List ℕ
  pub proof : IsProofOver (is_headed part levels) plant part judged sums units derivations rows outcome tree text
  pub told : IfSome log (λ bytes. bytes ≡ text)

-- the bytes of the file of this name, where files are told
abbrev pub bytes_in : List ℕ → Option FileMap → Option (List ℕ)
bytes_in name files = option_map (λ m. file_of m name) files

-- bytes are a first part of the text of a part's log, with a head exactly where it has one, whose found points are lawful and stand with
-- their worth
pub record IsSomeLogBegun (plant : Plant) (part : Program) (judged : List Domain) (levels : ℕ) (bytes : List ℕ) : Type 0 where
  pub sums : List Sum
  pub units : List ℕ
  pub derivations : List Derivation
  pub rows : Rows
  pub tree : RowTree
  pub own : Claim
  pub rest : List ℕ
  pub is : IsLogText (is_headed part levels) plant part judged sums units derivations rows tree own (bytes ++ rest)
  -- only in a log with a head a split may have a floor
  pub writable : IsWritable (depth_limit plant) rows (is_headed part levels) tree

-- what an attempt leaves that did not end: the files are as they were, or the file of this name is a log that was begun
abbrev pub LeavesSomeBegun : Plant → Program → List Domain → ℕ → List ℕ → Option FileMap → Option FileMap → Type 0
LeavesSomeBegun plant part judged levels name old new = (new ≡ old) ⊎ IfSome (bytes_in name new) (IsSomeLogBegun plant part judged levels)

-- a proof of an outcome over the whole program of a plant
pub record IsPlantProof (plant : Plant) (outcome : Outcome) (tree : RowTree) : Type 0 where
  pub program : Program
  pub made : IsMadeOf plant program
  pub means : IsProgramOf plant program
  pub proof : IsProofOf plant program outcome tree

-- there is a proof of the outcome over the whole program of a plant; where bytes are told, they are the text of its log
pub record HasPlantProof (plant : Plant) (log : Option (List ℕ)) (outcome : Outcome) : Type 0 where
  pub program : Program
  pub made : IsMadeOf plant program
  pub means : IsProgramOf plant program
  pub has : HasProof plant program (plant_root plant) 0 log outcome

-- what an attempt leaves that did not end: the files are as they were, or the file of this name is a log over the plant's program that was begun
abbrev pub IsLeftOf : Plant → List ℕ → Option FileMap → Option FileMap → Type 0
IsLeftOf plant name old new = (new ≡ old) ⊎ ((program : Program) × (IsMadeOf plant program × (IsProgramOf plant program × LeavesSomeBegun plant program (plant_root plant) 0 name old new)))
