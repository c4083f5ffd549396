-- The logs of all parts, checked.
use Rattle.std.specs.Prelude.{◌≡◌, ◌≢◌, ◌⊎◌, ◌↔◌, Bool, true, ℕ, ◌+◌, ◌*◌, ◌-◌, ◌^◌, ◌<◌, ⊤, List, [], ◌++◌, length, slice_index_or, Option, IfSome}
use Rattle.std.specs.List.{range_with_len}
use Rattle.stn_edge.specs.Files.{FileMap}
use Rattle.stn_model.specs.Points.{depth_limit}
use Rattle.stn_model.specs.declared.plant.Plant.{Plant}
use Rattle.time_grid.specs.Slots.{slots}
use Rattle.row_kit.specs.declared.program.Program.{Program}
use Rattle.row_set.specs.PlantProgram.{plant_rows}
use Rattle.derivations.specs.Growth.{rows_of}
use Rattle.log_lines.specs.declared.grammar.Limits.{Limits}
use Rattle.proof_log.specs.declared.claim.Claim.{Claim}
use Rattle.proof_log.specs.declared.claim.Claim.TheVariants.{Infeasible}
use Rattle.log_lines.specs.declared.defect.Defect.{Defect}
use Rattle.sum_lines.specs.declared.head.Front.{Front}
use Rattle.sum_lines.specs.declared.head.Front.TheVariants as front
use Rattle.sum_lines.specs.declared.head.Head.{Head}
use Rattle.sum_lines.specs.Front.{IsFront}
use Rattle.sum_lines.specs.Head.{AreKept, IsHeadVersion, begins_on, head_text, lines_of}
use Rattle.setup_lines.specs.declared.setups.SetupFront.{SetupFront}
use Rattle.setup_lines.specs.declared.setups.SetupFront.TheVariants as setting
use Rattle.setup_lines.specs.declared.setups.Setups.{Setups}
use Rattle.setup_lines.specs.Line.{setups_text}
use Rattle.setup_lines.specs.Setups.{AreSetupsKept, limits_set_up}
use Rattle.derivation_lines.specs.declared.tail.Tail.{Tail}
use Rattle.derivation_lines.specs.declared.tail.TailFront.{TailFront}
use Rattle.derivation_lines.specs.declared.tail.TailFront.TheVariants as tailed
use Rattle.derivation_lines.specs.Tail.{AreDerivationsKept}
use Rattle.valid_log.specs.declared.verdict.LogVerdict.TheVariants as verdict
use Rattle.valid_log.specs.Claims.{SaysOf}
use Rattle.valid_log.specs.Heads.{AreSetups, IsTail, limits_behind, setup_sizes}
use Rattle.valid_log.specs.PlantLogs.{IsAnyPartChecked}
use Rattle.log_parts.specs.declared.checked.Checked.{Checked}
use Rattle.log_parts.specs.declared.checked.Checked.TheVariants.{All, Bad}
use Rattle.log_parts.specs.declared.fronts.PartCheck.{PartCheck}
use Rattle.log_parts.specs.declared.fronts.PartCheck.TheVariants as check
use Rattle.log_parts.specs.declared.heads.Declared.{Declared}
use Rattle.log_parts.specs.declared.heads.LogFront.{LogFront}
use Rattle.log_parts.specs.declared.heads.LogFront.TheVariants as head
use Rattle.log_parts.specs.declared.heads.LogHead.{LogHead}
use Rattle.log_parts.specs.Heads.{HasNewest, front_text, joined_version, lines_on}
use Rattle.log_parts.specs.Joining.{EachSays}
use Rattle.log_parts.specs.OtherHeads.{IsOtherHead}
use Rattle.log_parts.specs.PartLogs.{AreValid, IsPartVerdict, IsRefused, logs_of}
use Rattle.plant_parts.specs.PlantParts.{IsOfPart, IsPartProgram}

-- ---- limits

-- limits with a slot and two rows more for each of so many sums
abbrev pub limits_more : Limits → ℕ → Limits
limits_more limits count = record { rows = limits.rows + 2 * count; slots = limits.slots + count; points = limits.points + count; depth = limits.depth }

-- limits with the sums and the setups that a head declares
abbrev pub limits_set : Plant → Limits → Declared → Limits
limits_set plant limits declared = limits_set_up (limits_more limits (length declared.sums)) (setup_sizes plant) declared.units

-- limits of the logs behind a head that declares this: a row more for each that is derived
abbrev pub limits_declared : Plant → Limits → Declared → Limits
limits_declared plant limits declared = let set = limits_set plant limits declared in record set { rows = set.rows + rows_of declared.derivations }

-- the limits of the heads of the logs of a plant's parts
abbrev pub head_limits : Plant → ℕ → Limits
head_limits plant levels = record { rows = length (plant_rows plant); slots = length (slots plant); points = length (slots plant); depth = depth_limit plant - levels }

-- the limits of the logs of a plant's parts over their rows with what they declare
abbrev pub part_limits : Plant → ℕ → Declared → Limits
part_limits plant levels declared = limits_declared plant (head_limits plant levels) declared

-- ---- what stands at the front of a log

-- a head that declares nothing
abbrev pub nothing : Declared
nothing = record { sums = []; units = []; derivations = [] }

-- the head of a log that has none, under limits: it is of version 2, and declares nothing
abbrev pub no_head : Limits → LogHead
no_head limits = record { version = 2; declared = nothing; lines = []; bytes = 0; limits = limits }

-- the lines on which the setups of a head begin, one after another, of which the last is the last of the head with them
abbrev pub unit_lines : Setups → List ℕ
unit_lines setups = range_with_len (1 + (setups.head.count - length setups.units)) (length setups.units)

-- each of the setups has a line of the head with them, besides the others, and those of its sums stand before these
pub record IsCounted (setups : Setups) : Type 0 where
  pub count : setups.head.count ≡ 1 + length (lines_of setups.head.sums) + length setups.units
  pub lines : setups.head.lines ≡ begins_on 2 setups.head.sums
  pub bytes : setups.head.bytes ≡ length (head_text setups.head.version setups.head.sums ++ setups_text setups.units)

-- a head with the derivations behind its setups
abbrev pub head_with : Setups → Tail → LogHead
head_with setups tail = record {
  version = setups.head.version;
  declared = record { sums = setups.head.sums; units = setups.units; derivations = tail.derivations };
  lines = setups.head.lines ++ (unit_lines setups ++ tail.lines);
  bytes = tail.bytes;
  limits = limits_behind setups tail;
}

-- the front of a log whose head's setups are followed by this
abbrev pub front_with : Setups → TailFront → LogFront
front_with setups (tailed.Whole tail) = head.Whole (head_with setups tail)
front_with setups (tailed.Bad defect) = head.Bad defect

-- bytes that begin with a head and these setups have this front
pub record IsSetUpFront (bytes : List ℕ) (setups : Setups) (said : LogFront) : Type 0 where
  pub tail : TailFront
  pub follows : IsTail setups.limits setups.head bytes tail
  pub is : said ≡ front_with setups tail

-- bytes that begin with a head behind whose sums this stands have this front
abbrev pub HasSetups : List ℕ → SetupFront → LogFront → Type 0
HasSetups bytes (setting.Whole setups) said = IsSetUpFront bytes setups said
HasSetups bytes (setting.Bad defect) said = said ≡ head.Bad defect

-- bytes that begin with a head have this front
pub record IsHeadFront (plant : Plant) (limits : Limits) (bytes : List ℕ) (own : Head) (said : LogFront) : Type 0 where
  pub setups : SetupFront
  pub set_up : AreSetups (limits_more limits (length own.sums)) (setup_sizes plant) own bytes setups
  pub has : HasSetups bytes setups said

-- bytes that begin so have this front
abbrev pub HasFront : Plant → Limits → List ℕ → Front → LogFront → Type 0
HasFront plant limits bytes front.Plain said = said ≡ head.Whole (no_head limits)
HasFront plant limits bytes (front.Headed own) said = IsHeadFront plant limits bytes own said
HasFront plant limits bytes (front.Bad defect) said = said ≡ head.Bad defect

-- what stands at the front of a log of a plant under limits: its head with all that it declares, or the first defect of the head's text
pub record IsLogFront (plant : Plant) (limits : Limits) (bytes : List ℕ) (said : LogFront) : Type 0 where
  pub front : Front
  pub stands : IsFront limits bytes front
  pub has : HasFront plant limits bytes front said

-- ---- what can be declared

-- A log of a version can declare this of a plant under limits: its sums, setups and derivations keep them, and its head has fewer than
-- 2^64 bytes; of version 2 it declares nothing, and neither setups nor derivations but of version 4.
pub record MayDeclare (plant : Plant) (limits : Limits) (version : ℕ) (declared : Declared) : Type 0 where
  pub known : (version ≡ 2) ⊎ IsHeadVersion version
  pub plain : version ≡ 2 → declared.sums ≡ []
  pub few_units : version ≢ 4 → declared.units ≡ []
  pub few : version ≢ 4 → declared.derivations ≡ []
  pub sums : AreKept version limits declared.sums
  pub units : AreSetupsKept (limits_more limits (length declared.sums)) (setup_sizes plant) declared.units
  pub derivations : AreDerivationsKept (limits_set plant limits declared) declared.derivations
  pub few_bytes : length (front_text version declared) < 2 ^ 64

-- a head that shows no defect can be declared by its version, and has the lines and the limits of what it declares
pub record IsHeadKept (plant : Plant) (limits : Limits) (own : LogHead) : Type 0 where
  pub may : MayDeclare plant limits own.version own.declared
  pub lines : own.lines ≡ lines_on own.declared
  pub limits_are : own.limits ≡ limits_declared plant limits own.declared

-- a front that shows no defect has such a head
abbrev pub IsFrontKept : Plant → Limits → LogFront → Type 0
IsFrontKept plant limits (head.Whole own) = IsHeadKept plant limits own
IsFrontKept plant limits (head.Bad defect) = ⊤

-- what stands at the front of the log of a part: its head, or the first defect of the head, which is the log's
abbrev pub IsFrontOf : Plant → ℕ → ℕ → List ℕ → LogFront → Type 0
IsFrontOf plant levels part bytes (head.Whole own) = IsLogFront plant (head_limits plant levels) bytes (head.Whole own)
IsFrontOf plant levels part bytes (head.Bad defect) = IsPartVerdict plant levels part bytes (verdict.No defect)

-- ---- the log of one part

-- a log with this head, whose claim this is where a check says yes, against what is declared: it declares this, or something else
abbrev pub IsHeadCompared : Declared → LogHead → Claim → PartCheck → Type 0
IsHeadCompared declared own claim (check.Valid version bytes said) = (said ≡ claim) × (declared ≡ own.declared) × (version ≡ own.version) × (bytes ≡ own.bytes)
IsHeadCompared declared own claim (check.Bad defect) = (defect.kind ≡ 22) × IsOtherHead declared own.declared defect.line

-- the same of a log with this front
abbrev pub IsCompared : Declared → LogFront → Claim → PartCheck → Type 0
IsCompared declared (head.Whole own) claim said = IsHeadCompared declared own claim said
IsCompared declared (head.Bad defect) claim said = said ≡ check.Bad defect

-- The log of a part is valid with this claim and declares this in a head of a version, which takes so many bytes; of version 2 it has none.
pub record IsFoundLog (plant : Plant) (levels part : ℕ) (bytes : List ℕ) (declared : Declared) (version head_bytes : ℕ) (claim : Claim) : Type 0 where
  pub program : Program
  pub of_part : IsPartProgram plant levels part program
  pub right : IsAnyPartChecked plant program (depth_limit plant - levels) bytes (verdict.Yes claim)
  pub own : LogHead
  pub stands : IsLogFront plant (head_limits plant levels) bytes (head.Whole own)
  pub declares : declared ≡ own.declared
  pub version_is : version ≡ own.version
  pub takes : head_bytes ≡ own.bytes

-- The log of a part is valid, but declares something else: the defect is of kind 22, where the first of it begins or at line 1.
pub record IsOtherFront (plant : Plant) (levels part : ℕ) (bytes : List ℕ) (declared : Declared) (defect : Defect) : Type 0 where
  pub found_declared : Declared
  pub found_version : ℕ
  pub found_bytes : ℕ
  pub claim : Claim
  pub found : IsFoundLog plant levels part bytes found_declared found_version found_bytes claim
  pub kind : defect.kind ≡ 22
  pub differ : IsOtherHead declared found_declared defect.line

-- what the check of the log of a part against what is declared comes to
abbrev pub IsPartCheck : Plant → ℕ → ℕ → List ℕ → Declared → PartCheck → Type 0
IsPartCheck plant levels part bytes declared (check.Valid version head_bytes claim) = IsFoundLog plant levels part bytes declared version head_bytes claim
IsPartCheck plant levels part bytes declared (check.Bad defect) =
    IsPartVerdict plant levels part bytes (verdict.No defect) ⊎ IsOtherFront plant levels part bytes declared defect

-- where the log is valid, its claim holds of the plans of the part
abbrev pub PartSays : Plant → ℕ → ℕ → PartCheck → Type 0
PartSays plant levels part (check.Valid version head_bytes claim) = SaysOf plant (IsOfPart plant levels part) claim
PartSays plant levels part (check.Bad defect) = ⊤

-- ---- the logs of all parts

-- the log of a part is valid with this claim and declares this in a head of so many bytes, whatever its version
abbrev pub IsAnyFound : Plant → ℕ → ℕ → List ℕ → Declared → ℕ → Claim → Type 0
IsAnyFound plant levels part bytes declared head_bytes claim = (version : ℕ) × IsFoundLog plant levels part bytes declared version head_bytes claim

-- each log of the first parts is valid, with these claims, and declares this in a head of so many bytes
abbrev pub HaveClaims : Plant → ℕ → (ℕ → List ℕ) → Declared → List ℕ → List Claim → Type 0
HaveClaims plant levels logs declared heads claims =
    (part : ℕ) → part < length claims → IsAnyFound plant levels part (logs part) declared (slice_index_or heads part 0) (slice_index_or claims part Infeasible)

-- it is known whether one of the first logs, so many, is of version 4
abbrev pub AreNewest : (ℕ → List ℕ) → ℕ → Bool → Type 0
AreNewest logs count newest = (newest ≡ true) ↔ HasNewest logs count

-- the logs of all parts are valid and declare the same, with these claims, or the first one that is refused has this defect
abbrev pub AreChecked : Plant → ℕ → (ℕ → List ℕ) → Checked → Type 0
AreChecked plant levels logs (All newest declared limits heads claims) = HaveClaims plant levels logs declared heads.items claims.items × AreNewest logs (2 ^ levels) newest
AreChecked plant levels logs (Bad part defect) =
    (part < 2 ^ levels) × ((declared : Declared) × (AreValid plant levels logs declared part × IsRefused plant levels part (logs part) declared defect))

-- the same of the logs of a stem, where the files are told
abbrev pub AreCheckedIn : Plant → ℕ → List ℕ → Option FileMap → Checked → Type 0
AreCheckedIn plant levels stem files said = IfSome files (λ m. AreChecked plant levels (logs_of m stem) said)

-- there is a claim for each part, which holds of the part's plans, and a count of bytes, the joined log can declare what they do, and the limits are those of what stands behind
pub record AllSaySo (plant : Plant) (levels : ℕ) (newest : Bool) (declared : Declared) (limits : Limits) (heads : List ℕ) (claims : List Claim) : Type 0 where
  pub all_claims : length claims ≡ 2 ^ levels
  pub all_heads : length heads ≡ 2 ^ levels
  pub may : MayDeclare plant (head_limits plant levels) (joined_version newest declared.sums) declared
  pub limits_are : limits ≡ part_limits plant levels declared
  pub each : EachSays plant levels claims

abbrev pub AllSay : Plant → ℕ → Checked → Type 0
AllSay plant levels (All newest declared limits heads claims) = AllSaySo plant levels newest declared limits heads.items claims.items
AllSay plant levels (Bad part defect) = ⊤
