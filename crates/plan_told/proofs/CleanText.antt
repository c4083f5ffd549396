-- The text of the proof of a search, with a claim that its cap bears out, has no text defect.
use Rattle.std.proofs.Common.{◌≡◌, ℕ, ℤ, ◌≤◌, Bool, true, false, length, Option, Some, None, if◌then◌else◌, subst, sym, refl, arith}
use Rattle.std.specs.List.{All}
use Rattle.std.proofs.lemmas.List.Elements.{All-weaker}
use Rattle.row_kit.specs.declared.program.Program.{Program}
use Rattle.proof_tree.specs.declared.capped.Capped.{Capped}
use Rattle.proof_tree.specs.declared.item.Item.TheVariants.{Node, Cut, Found as FoundItem, Empty, Dual, Point, Pending, Split}
use Rattle.proof_tree.specs.Items.{tree_items}
use Rattle.row_relax.specs.declared.rows.Rows.{Rows}
use Rattle.row_relax.specs.Choices.{choices_of}
use Rattle.row_relax.specs.RowProofs.{RowItem, RowTree}
use Rattle.branch_tree.specs.Searched.{IsFitItem, IsWritable}
use Rattle.log_lines.specs.Line.{IsLine, IsShort, IsVersion}
use Rattle.log_lines.specs.TextDefect.{log_text_defect}
use Rattle.proof_log.specs.declared.claim.Claim.{Claim}
use Rattle.proof_log.specs.declared.claim.Claim.TheVariants.{Optimal, Infeasible, Between, Below}
use Rattle.proof_log.specs.Accepted.{IsFitItem as MayBeItem, IsFitClaim, IsShortItem, IsShortClaim, MayFloor}
use Rattle.proof_log.specs.Log.{log_lines, log_text}
use Rattle.proof_log.specs.OneText.{IsOver, IsClaimOver, IsLogOver}
use Rattle.proof_log.proofs.NoDefect.{logs_clean}
use Rattle.proof_log.proofs.WrittenLines.{claim_fits, logs_written}
use Rattle.valid_log.specs.Meaning.{IsSoundClaim}
use Rattle.valid_log.specs.Verdict.{limits_of}
use Rattle.plan_told.specs.Proofs.{depth_over}
use Rattle.plan_told.proofs.SmallClaim.{IsSmallClaim}
use Rattle.plan_told.proofs.WorthShort.{lawful_bytes, worth_short}

-- the version of a text: 4 where splits may have floors, and else 2
abbrev pub text_version : Bool → ℕ
text_version floors = if floors then 4 else 2

version_known : (floors : Bool) → IsVersion (text_version floors)
version_known true = (omega arith, omega arith, λ is. omega (arith, is))
version_known false = (omega arith, omega arith, λ is. omega (arith, is))

from_two : (floors : Bool) → 2 ≤ text_version floors
from_two true = omega arith
from_two false = omega arith

-- a split has a floor only in version 4
floor_fits : (floors : Bool) (floor : Option ℤ) → (floors ≡ false → floor ≡ None) → MayFloor (text_version floors) floor
floor_fits true None none = tt
floor_fits true (Some profit) none = refl
floor_fits false floor none = subst (MayFloor 2) (sym (none refl)) tt

-- an item that may be written is one that a log over the rows may have
item_fits : (rows : Rows) (floors : Bool) (depth : ℕ) (item : RowItem) → IsFitItem rows floors item → MayBeItem (limits_of rows depth) (text_version floors) item
item_fits rows floors depth Node fit = tt
item_fits rows floors depth (Cut cut) fit = fit
item_fits rows floors depth (FoundItem found) fit = omega (arith, fit.lawful.lies.same_length)
item_fits rows floors depth Empty fit = tt
item_fits rows floors depth (Dual cert) fit = fit
item_fits rows floors depth Point fit = from_two floors
item_fits rows floors depth (Pending cert) fit = fit
item_fits rows floors depth (Split pick cert) fit = (fit.0, fit.2, floor_fits floors pick.floor fit.3)

-- what may be written without floors may be written where splits may have them
fit_newest : (rows : Rows) (floors : Bool) (item : RowItem) → IsFitItem rows floors item → IsFitItem rows true item
fit_newest rows floors Node fit = tt
fit_newest rows floors (Cut cut) fit = fit
fit_newest rows floors (FoundItem found) fit = fit
fit_newest rows floors Empty fit = tt
fit_newest rows floors (Dual cert) fit = fit
fit_newest rows floors Point fit = tt
fit_newest rows floors (Pending cert) fit = fit
fit_newest rows floors (Split pick cert) fit = (fit.0, fit.1, fit.2, λ is. cc, fit.4)

pub writable-newest : (most : ℕ) (rows : Rows) (floors : Bool) (tree : RowTree) → IsWritable most rows floors tree → IsWritable most rows true tree
writable-newest most rows floors tree writable = record {
  fit = All-weaker (IsFitItem rows floors) (IsFitItem rows true) (fit_newest rows floors) (tree_items tree) writable.fit;
  shallow = writable.shallow;
}

-- its numbers have at most 30 digits
item_short : (rows : Rows) (floors : Bool) (item : RowItem) → IsFitItem rows floors item → IsShortItem item
item_short rows floors Node fit = tt
item_short rows floors (Cut cut) fit = tt
item_short rows floors (FoundItem found) fit = (subst IsShort (sym fit.worth) (worth_short (choices_of rows) found.point fit.lawful), lawful_bytes (choices_of rows) found.point fit.lawful)
item_short rows floors Empty fit = tt
item_short rows floors (Dual cert) fit = tt
item_short rows floors Point fit = tt
item_short rows floors (Pending cert) fit = tt
item_short rows floors (Split pick cert) fit = (fit.1, fit.4)

-- its point has a value for each slot
item_over : (rows : Rows) (floors : Bool) (item : RowItem) → IsFitItem rows floors item → IsOver (length (choices_of rows).root) item
item_over rows floors Node fit = tt
item_over rows floors (Cut cut) fit = tt
item_over rows floors (FoundItem found) fit = fit.lawful.lies.same_length
item_over rows floors Empty fit = tt
item_over rows floors (Dual cert) fit = tt
item_over rows floors Point fit = tt
item_over rows floors (Pending cert) fit = tt
item_over rows floors (Split pick cert) fit = tt

-- the same of a sound claim
claim_over : (program : Program) (proof_cap : Capped) (claim : Claim) → IsSoundClaim program proof_cap claim → IsClaimOver (length program.root) claim
claim_over program proof_cap (Optimal profit point) sound = sound.0.0.lies.same_length
claim_over program proof_cap Infeasible sound = tt
claim_over program proof_cap (Between profit most point) sound = sound.0.0.lies.same_length
claim_over program proof_cap (Below most) sound = tt

claim_short : (program : Program) (proof_cap : Capped) (claim : Claim) → IsSoundClaim program proof_cap claim → IsSmallClaim claim → IsShortClaim claim
claim_short program proof_cap (Optimal profit point) sound small = (subst IsShort sound.0.1 (worth_short program point sound.0.0), lawful_bytes program point sound.0.0)
claim_short program proof_cap Infeasible sound small = tt
claim_short program proof_cap (Between profit most point) sound small = (subst IsShort sound.0.1 (worth_short program point sound.0.0), small, lawful_bytes program point sound.0.0)
claim_short program proof_cap (Below most) sound small = small

module _ (most : ℕ) (rows : Rows) (floors : Bool) (tree : RowTree) (claim : Claim) (proof_cap : Capped) (writable : IsWritable most rows floors tree) (sound : IsSoundClaim (choices_of rows) proof_cap claim) (small : IsSmallClaim claim) where
  fit : All (MayBeItem (limits_of rows (depth_over most rows.program.root)) (text_version floors)) (tree_items tree)
  fit = All-weaker (IsFitItem rows floors) (MayBeItem (limits_of rows (depth_over most rows.program.root)) (text_version floors)) (item_fits rows floors (depth_over most rows.program.root)) (tree_items tree) writable.fit

  fits : IsFitClaim (limits_of rows (depth_over most rows.program.root)) claim
  fits = claim_fits (limits_of rows (depth_over most rows.program.root)) claim (claim_over (choices_of rows) proof_cap claim sound)

  -- the lines may be written
  pub lines_written : All IsLine (log_lines (text_version floors) (tree_items tree) claim)
  lines_written =
      logs_written (limits_of rows (depth_over most rows.program.root)) (text_version floors) tree claim (omega (arith, rows.program.few_rows)) (omega (arith, rows.program.few_slots)) (omega (arith, (choices_of rows).few_slots)) (version_known floors) fit fits
      (All-weaker (IsFitItem rows floors) IsShortItem (item_short rows floors) (tree_items tree) writable.fit) (claim_short (choices_of rows) proof_cap claim sound small)

  -- it is a log over the slots of the choices
  pub log_over : IsLogOver (length (choices_of rows).root) (text_version floors) tree claim
  log_over = record {
    items = All-weaker (IsFitItem rows floors) (IsOver (length (choices_of rows).root)) (item_over rows floors) (tree_items tree) writable.fit;
    claim_over = claim_over (choices_of rows) proof_cap claim sound;
    lines = lines_written;
  }

  -- its text has no text defect
  pub text_clean : log_text_defect (limits_of rows (depth_over most rows.program.root)) (log_text (text_version floors) (tree_items tree) claim) ≡ None
  text_clean = logs_clean (limits_of rows (depth_over most rows.program.root)) (text_version floors) tree claim fit (omega (arith, writable.shallow)) fits lines_written
