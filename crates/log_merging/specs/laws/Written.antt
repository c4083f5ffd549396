-- What was written of a merged log. Only clauses of private functions cite it.
use Rattle.std.specs.Prelude.{◌≡◌, ◌<◌, Bool, ℕ, ℤ, List, length, map, slice_get, slice_index_or, Option, Some, IfSome, IsTrue}
use Rattle.stn_edge.specs.Files.{FileMap, file_of}
use Rattle.stn_model.specs.declared.plant.Plant.{Plant}
use Rattle.proof_log.specs.declared.claim.Claim.{Claim}
use Rattle.proof_log.specs.declared.writer.LogWriter.{LogWriter}
use Rattle.proof_tree.specs.declared.capped.Capped.{Capped}
use Rattle.proof_tree.specs.Items.{tree_items}
use Rattle.proof_tree.specs.Tree.{tree_cap}
use Rattle.row_relax.specs.declared.rows.Rows.{Rows}
use Rattle.row_relax.specs.Choices.{steps_of}
use Rattle.row_relax.specs.RowProofs.{RowTree}
use Rattle.row_relax.specs.View.{view_of}
use Rattle.valid_log.specs.declared.verdict.LogVerdict.TheVariants.{Yes}
use Rattle.valid_log.specs.PlantLogs.{IsAnyChecked}
use Rattle.valid_log.specs.SumTexts.{larger_claim}
use Rattle.log_nodes.specs.Texts.{IsTextBehind}
use Rattle.log_parts.specs.Heads.{front_text, joined_version}
use Rattle.log_parts.specs.Joining.{plan_of}
use Rattle.log_parts.specs.PartLogs.{logs_of, no_tree}
use Rattle.log_parts.specs.laws.Copying.{whole_text}
use Rattle.opened_logs.specs.Claims.{IsNoMore, IsOpenClaim, cap_of, profit_of}
use Rattle.merged_nodes.specs.declared.sources.Source.{Source}
use Rattle.merge_ends.specs.declared.readers.Work.{Work}
use Rattle.merged_nodes.specs.Merged.{IsMerged}
use Rattle.merge_ends.specs.MergedClaims.{IsClaimWith}
use Rattle.merged_nodes.specs.laws.Looked.{ended}
use Rattle.merge_walk.specs.laws.Walked.{HasMerged}
use Rattle.merge_ends.specs.laws.Begun.{HaveEnded}

-- the proofs of all logs were read to their ends, and the one that is merged of them was written; this is its cap
pub record HasMergedWhole (rows : Rows) (best : Option ℤ) (old new : Option FileMap) (stem : List ℕ) (before : List Source) (writer later : LogWriter) (cap : Capped) : Type 0 where
  pub after : List Source
  pub merged : HasMerged rows best (view_of rows.program.root) old new stem 0 before after writer later cap
  pub ended : HaveEnded new stem after

-- the file holds the log that is merged of these, whose trees stand in the order of the merging: the text of their head, of the proof that
-- is merged of theirs, and of the claim that the best of their plans and its cap make
pub record IsWritten (work : Work) (best : Claim) (logs : ℕ → List ℕ) (bytes : List ℕ) (claim : Claim) : Type 0 where
  pub trees : List RowTree
  pub all_trees : length trees ≡ length work.order.now
  pub texts : (place : ℕ) → place < length work.order.now → IfSome (slice_get work.fronts.now (slice_index_or work.order.now place 0)) (λ front. IsTextBehind front (logs (slice_index_or work.order.now place 0)) (slice_index_or trees place no_tree))
  pub tree : RowTree
  pub merged : IsMerged (steps_of work.first.now.rows) (profit_of best) (view_of work.first.now.rows.program.root) (map Some trees) tree
  pub is_claim : IsClaimWith (plan_of best) (tree_cap (steps_of work.first.now.rows) (view_of work.first.now.rows.program.root) tree) claim
  pub text : bytes ≡ whole_text (front_text (joined_version work.newest work.first.now.head.declared.sums) work.first.now.head.declared) (tree_items tree) (larger_claim work.first.now.head.declared.sums claim)

-- the same of the files before and after, where they are told
abbrev pub HasWritten : Work → Claim → List ℕ → List ℕ → Option FileMap → Option FileMap → Claim → Type 0
HasWritten work best stem out old new claim = IfSome old (λ m. IfSome new (λ n. IsWritten work best (logs_of m stem) (file_of n out) claim))

-- the same of a log that suits the claims of the others, and is valid for the plant with its claim
pub record HasWrittenChecked (plant : Plant) (work : Work) (best : Claim) (settled : Bool) (stem out : List ℕ) (old new : Option FileMap) (claim : Claim) : Type 0 where
  pub written : HasWritten work best stem out old new claim
  pub valid : IfSome new (λ n. IsAnyChecked plant (file_of n out) (Yes claim))
  pub cap : IsNoMore (cap_of best) (cap_of claim)
  pub not_open : IsTrue settled → ¬ IsOpenClaim claim
