-- The logs of a plant's parts, and the log that is joined of them.
use Rattle.std.specs.Prelude.{◌≡◌, ◌≢◌, ◌⊎◌, ◌↔◌, Bool, true, IsTrue, ℕ, ◌+◌, ◌-◌, ◌^◌, ◌<◌, zero, suc, ⊤, List, [], ◌++◌, length, take, drop, slice_index_or, Option, None, IfSome}
use Rattle.stn_edge.specs.Files.{FileMap, file_of}
use Rattle.stn_model.specs.Points.{depth_limit}
use Rattle.stn_model.specs.declared.plant.Plant.{Plant}
use Rattle.row_kit.specs.declared.program.Program.{Program}
use Rattle.dual_bound.specs.declared.cert.Cert.{Cert}
use Rattle.proof_tree.specs.Tree.{leaf, split, no_point}
use Rattle.row_relax.specs.RowProofs.{RowTree}
use Rattle.row_set.specs.PlantProgram.{plant_root}
use Rattle.proof_log.specs.declared.claim.Claim.{Claim}
use Rattle.proof_log.specs.declared.claim.Claim.TheVariants.{Infeasible}
use Rattle.log_lines.specs.declared.defect.Defect.{Defect}
use Rattle.proof_log.specs.LogNames.{log_name}
use Rattle.valid_log.specs.declared.verdict.LogVerdict.{LogVerdict}
use Rattle.valid_log.specs.declared.verdict.LogVerdict.TheVariants as verdict
use Rattle.valid_log.specs.Claims.{SaysOfPlans}
use Rattle.valid_log.specs.AnyVersion.{IsAnyLog}
use Rattle.valid_log.specs.PlantLogs.{IsAnyChecked, IsAnyPartChecked}
use Rattle.valid_log.specs.SumTexts.{larger_claim}
use Rattle.log_parts.specs.declared.heads.Declared.{Declared}
use Rattle.log_parts.specs.declared.joins.Joined.{Joined}
use Rattle.log_parts.specs.declared.joins.Joined.TheVariants.{Done, No}
use Rattle.log_parts.specs.Joining.{IsJoined}
use Rattle.log_parts.specs.Heads.{HasNewest, declared_text, joined_version}
use Rattle.log_parts.specs.OtherHeads.{IsOtherHead}
use Rattle.plant_parts.specs.PlantParts.{IsPartProgram}

-- the verdict is right on the log of a part, of any version, in which at most 4,608 splits less one for each level may be open
pub record IsPartVerdict (plant : Plant) (levels part : ℕ) (bytes : List ℕ) (said : LogVerdict) : Type 0 where
  pub program : Program
  pub of_part : IsPartProgram plant levels part program
  pub right : IsAnyPartChecked plant program (depth_limit plant - levels) bytes said

-- the bytes are a valid log of a part, which declares this, of this tree and this claim
pub record IsPartLog (plant : Plant) (levels part : ℕ) (bytes : List ℕ) (declared : Declared) (tree : RowTree) (claim : Claim) : Type 0 where
  pub program : Program
  pub of_part : IsPartProgram plant levels part program
  pub right : IsAnyPartChecked plant program (depth_limit plant - levels) bytes (verdict.Yes claim)
  pub log : IsAnyLog plant program (plant_root plant) (plant_root plant) bytes declared.sums declared.units declared.derivations tree claim

-- the bytes are a valid log of a part, which declares this
abbrev pub IsValidPart : Plant → ℕ → ℕ → List ℕ → Declared → Type 0
IsValidPart plant levels part bytes declared = (tree : RowTree) × ((claim : Claim) × IsPartLog plant levels part bytes declared tree claim)

-- each log of the first parts, so many, is valid and declares this
abbrev pub AreValid : Plant → ℕ → (ℕ → List ℕ) → Declared → ℕ → Type 0
AreValid plant levels logs declared count = (part : ℕ) → part < count → IsValidPart plant levels part (logs part) declared

-- The bytes are a valid log of a part, but its head is another than this: the defect is of kind 22, at the line on which the first sum,
-- setup, cut or row that differs begins, or line 1 where one head is a first part of the other.
pub record IsOtherLog (plant : Plant) (levels part : ℕ) (bytes : List ℕ) (declared : Declared) (defect : Defect) : Type 0 where
  pub own : Declared
  pub valid : IsValidPart plant levels part bytes own
  pub kind : defect.kind ≡ 22
  pub differ : IsOtherHead declared own defect.line

-- the log of a part is refused where the earlier ones declare this: it is not valid and has this first defect, or it is valid, not the first, and has another head
abbrev pub IsRefused : Plant → ℕ → ℕ → List ℕ → Declared → Defect → Type 0
IsRefused plant levels part bytes declared defect =
    IsPartVerdict plant levels part bytes (verdict.No defect) ⊎ ((0 < part) × IsOtherLog plant levels part bytes declared defect)

-- the certificate without multipliers
abbrev pub no_mults : Cert
no_mults = record { scale = 1; mults = [] }

-- a tree of which nothing is known
abbrev pub no_tree : RowTree
no_tree = leaf [] None no_point

-- the tree of splits at 0 on so many slots, from one on, in which the given trees stand in their order
abbrev pub tree_over : ℕ → ℕ → List RowTree → RowTree
tree_over slot zero trees = slice_index_or trees 0 no_tree
tree_over slot (suc levels) trees =
    split [] None (record { slot = slot; max = 0; floor = None }) no_mults (tree_over (slot + 1) levels (take (2 ^ levels) trees)) (tree_over (slot + 1) levels (drop (2 ^ levels) trees))

-- The bytes are the joined log of the logs of all parts: each of these is valid, all have the same head, and the bytes are the text of
-- that head and of the tree of splits in which the parts' trees stand, with the joined claim and its point completed by the values of
-- the sums; of version 4 where a part's log is. They are a valid log of the plant.
pub record IsJoinedLog (plant : Plant) (levels : ℕ) (logs : ℕ → List ℕ) (claim : Claim) (bytes : List ℕ) : Type 0 where
  pub declared : Declared
  pub newest : Bool
  pub trees : List RowTree
  pub claims : List Claim
  pub all_trees : length trees ≡ 2 ^ levels
  pub all_claims : length claims ≡ 2 ^ levels
  pub each : (part : ℕ) → part < 2 ^ levels → IsPartLog plant levels part (logs part) declared (slice_index_or trees part no_tree) (slice_index_or claims part Infeasible)
  pub joined : IsJoined claims claim
  pub is_newest : (newest ≡ true) ↔ HasNewest logs (2 ^ levels)
  pub text : bytes ≡ declared_text (joined_version newest declared.sums) declared (tree_over 0 levels trees) (larger_claim declared.sums claim)
  pub valid : IsAnyChecked plant bytes (verdict.Yes claim)

-- What joining comes to: the joined log and its claim, or the first part whose log is not valid or has another head than the first one's,
-- with its defect.
abbrev pub IsJoining : Plant → ℕ → (ℕ → List ℕ) → List ℕ → Joined → Type 0
IsJoining plant levels logs bytes (Done claim) = IsJoinedLog plant levels logs claim bytes
IsJoining plant levels logs bytes (No part defect) =
    (part < 2 ^ levels) × ((declared : Declared) × (AreValid plant levels logs declared part × IsRefused plant levels part (logs part) declared defect))

-- the bytes of the logs of a stem, by their numbers
abbrev pub logs_of : FileMap → List ℕ → ℕ → List ℕ
logs_of files stem part = file_of files (log_name stem part)

-- the logs of all parts, 2^levels of a stem, may be read
abbrev pub MayReadParts : (List ℕ → Bool) → List ℕ → ℕ → Type 0
MayReadParts may_read stem levels = (part : ℕ) → part < 2 ^ levels → IsTrue (may_read (log_name stem part))

-- a file is none of the logs of the parts
abbrev pub IsNoPart : List ℕ → List ℕ → ℕ → Type 0
IsNoPart name stem levels = (part : ℕ) → part < 2 ^ levels → name ≢ log_name stem part

-- what joining comes to is right of the files before and after, where they are told
abbrev pub IsJoiningIn : Plant → ℕ → List ℕ → List ℕ → Option FileMap → Option FileMap → Joined → Type 0
IsJoiningIn plant levels stem name old new said =
    IfSome old (λ m. IfSome new (λ n. IsJoining plant levels (logs_of m stem) (file_of n name) said))

-- what the joined claim says holds of all plans
abbrev pub JoinSays : Plant → Joined → Type 0
JoinSays plant (Done claim) = SaysOfPlans plant claim
JoinSays plant (No part defect) = ⊤

-- a part was named whose log is refused
abbrev pub IsNo : Joined → Type 0
IsNo (Done claim) = ⊥
IsNo (No part defect) = ⊤

-- the bytes are a first part of the joined log
pub record IsJoinBegun (plant : Plant) (levels : ℕ) (logs : ℕ → List ℕ) (bytes : List ℕ) : Type 0 where
  pub claim : Claim
  pub rest : List ℕ
  pub begun : IsJoinedLog plant levels logs claim (bytes ++ rest)

-- what joining leaves that did not end: the files as they were, or the file of this name holds a first part of the joined log
abbrev pub LeavesJoin : Plant → ℕ → List ℕ → List ℕ → Option FileMap → Option FileMap → Type 0
LeavesJoin plant levels stem name old new =
    (new ≡ old) ⊎ IfSome old (λ m. IfSome new (λ n. IsJoinBegun plant levels (logs_of m stem) (file_of n name)))

-- the logs of all parts are valid and have the same head, where the files are told
abbrev pub AllAreValid : Plant → ℕ → List ℕ → Option FileMap → Type 0
AllAreValid plant levels stem files = IfSome files (λ m. (declared : Declared) × AreValid plant levels (logs_of m stem) declared (2 ^ levels))
