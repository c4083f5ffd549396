-- Where a check stands after some items, and what it answers at the end.
use Rattle.std.specs.Prelude.{◌≡◌, ◌≢◌, ⊤, IsTrue, ℕ, List, None}
use Rattle.row_kit.specs.declared.area.Area.{Area}
use Rattle.row_kit.specs.declared.found.Found.{Found}
use Rattle.row_kit.specs.declared.program.Program.{Program}
use Rattle.range_prop.specs.declared.row_cut.RowCut.{RowCut}
use Rattle.dual_bound.specs.declared.cert.Cert.{Cert}
use Rattle.proof_tree.specs.declared.capped.Capped.{Capped}
use Rattle.proof_tree.specs.declared.item.Item.TheVariants.{Node, Cut, Found as FoundItem, Empty, Dual, Point, Pending, Split}
use Rattle.proof_tree.specs.declared.walk.Walk.{Walk}
use Rattle.proof_tree.specs.declared.walk.Took.{Took}
use Rattle.proof_tree.specs.declared.walk.Took.TheVariants.{More, Done, Bad as TookBad}
use Rattle.proof_tree.specs.Views.{View}
use Rattle.proof_tree.specs.Walk.{going, walked, start, may_come, stage_of, Stands}
use Rattle.row_relax.specs.declared.pick.RowPick.{RowPick}
use Rattle.row_relax.specs.declared.rows.Rows.{Rows}
use Rattle.row_relax.specs.RowProofs.{RowItem}
use Rattle.proof_log.specs.declared.claim.Claim.{Claim}
use Rattle.log_check.specs.declared.course.Course.{Course}
use Rattle.log_check.specs.declared.course.Course.TheVariants.{Going, Ended, Faulty}
use Rattle.valid_log.specs.declared.verdict.LogVerdict.{LogVerdict}
use Rattle.valid_log.specs.declared.verdict.LogVerdict.TheVariants.{Yes, No}
use Rattle.valid_log.specs.Meaning.{RowSteps, ClaimDefect, HaveNone, IsProved, IsItemDefect, IsSoundClaim}

-- a walk over a proof of rows
abbrev pub RowWalk : Type 0
RowWalk = Walk Rows Area RowCut Cert RowPick Found

-- where a check stands after these items: its walk goes on without a defect, or has ended with a cap, or an item has the first defect
abbrev pub StandsAt : RowSteps → Program → View → List RowItem → Course → RowWalk → List View → Type 0
StandsAt s program root items Going walk views =
    HaveNone s program (start root) items × (walked s (start root) items ≡ going (stage_of walk views))
StandsAt s program root items (Ended proof_cap) walk views = IsProved s program root items proof_cap
StandsAt s program root items (Faulty defect) walk views = IsItemDefect s program root items defect

-- a check's walk stands in an area with these views as long as it goes on
abbrev pub IsReady : RowSteps → Course → RowWalk → List View → Type 0
IsReady s Going walk views = Stands s walk views
IsReady s (Ended proof_cap) walk views = ⊤
IsReady s (Faulty defect) walk views = ⊤

-- a cut names something that is there, and a split something in what it has not forgotten
abbrev pub NamesWhatIsThere : RowSteps → View → RowItem → Type 0
NamesWhatIsThere s v Node = ⊤
NamesWhatIsThere s v (Cut cut) = s.cut v cut ≢ None
NamesWhatIsThere s v (FoundItem found) = ⊤
NamesWhatIsThere s v Empty = ⊤
NamesWhatIsThere s v (Dual cert) = ⊤
NamesWhatIsThere s v Point = ⊤
NamesWhatIsThere s v (Pending cert) = ⊤
NamesWhatIsThere s v (Split pick cert) = s.left (s.trim v pick cert) pick ≢ None

-- an item may be taken: while the walk goes on it is one that may come and names what is there, and none may come after the end
abbrev pub MayTake : RowSteps → Course → RowWalk → View → RowItem → Type 0
MayTake s Going walk v item = IsTrue (may_come walk.expected item) × NamesWhatIsThere s v item
MayTake s (Ended proof_cap) walk v item = ⊥
MayTake s (Faulty defect) walk v item = ⊤

-- the kind of the defect of an end that gives no cap
abbrev pub end_kind : RowItem → ℕ
end_kind Node = 0
end_kind (Cut cut) = 0
end_kind (FoundItem found) = 0
end_kind Empty = 10
end_kind (Dual cert) = 12
end_kind Point = 18
end_kind (Pending cert) = 12
end_kind (Split pick cert) = 0

-- where a check stands after what an item led to; the item begins at the line, and its defect would be of this kind
abbrev pub course_of : Took → ℕ → ℕ → Course
course_of More line kind = Going
course_of (Done proof_cap) line kind = Ended proof_cap
course_of TookBad line kind = Faulty (record { line = line; kind = kind })

-- the answer on a claim that begins at a line, where the proof has a cap
abbrev pub IsClaimVerdict : Program → Capped → ℕ → Claim → LogVerdict → Type 0
IsClaimVerdict program proof_cap began claim (Yes own) = (own ≡ claim) × IsSoundClaim program proof_cap claim
IsClaimVerdict program proof_cap began claim (No defect) = (defect.line ≡ began) × ClaimDefect program proof_cap claim defect.kind

-- the answer on a log that has come to its end: the first defect of an item, or the answer on its claim, which begins at a line
abbrev pub IsEndVerdict : Program → Course → ℕ → Claim → LogVerdict → Type 0
IsEndVerdict program Going began claim verdict = ⊥
IsEndVerdict program (Ended proof_cap) began claim verdict = IsClaimVerdict program proof_cap began claim verdict
IsEndVerdict program (Faulty defect) began claim verdict = verdict ≡ No defect
