-- That the lines of a log may come one after another.
use Rattle.std.specs.Prelude.{◌≡◌, ℕ, ℤ, ◌<◌, ◌≤◌, true, ⊤, List, [], ◌∷◌, length, Option, None, Some, IfSome, option_and_then, ◌+◌, ◌^◌}
use Rattle.std.specs.List.{All}
use Rattle.proof_tree.specs.declared.item.Item.TheVariants.{Node, Cut, Found, Empty, Dual, Point, Pending, Split}
use Rattle.proof_tree.specs.Items.{tree_items, depth}
use Rattle.dual_bound.specs.Total.{is_fit}
use Rattle.log_lines.specs.declared.line.Line.{Line}
use Rattle.log_lines.specs.declared.grammar.Limits.{Limits}
use Rattle.log_lines.specs.declared.grammar.Place.TheVariants.{Done}
use Rattle.log_lines.specs.Grammar.{Standing, next, line_defect, new_standing}
use Rattle.log_lines.specs.Line.{IsLine, IsShort, IsVersion}
use Rattle.log_lines.specs.TextDefect.{log_text_defect}
use Rattle.proof_log.specs.declared.claim.Claim.{Claim}
use Rattle.proof_log.specs.declared.claim.Claim.TheVariants.{Optimal, Infeasible, Between, Below}
use Rattle.row_relax.specs.RowProofs.{RowItem, RowTree}
use Rattle.proof_log.specs.Log.{log_lines, log_text}

-- what is there, unless there is a defect
abbrev pub unless : Option ℕ → Option Standing → Option Standing
unless None later = later
unless (Some kind) later = None

-- where lines lead, one after another; None where one of them has a defect
abbrev pub leads : Limits → Standing → List Line → Option Standing
leads limits standing [] = Some standing
leads limits standing (line ∷ lines) = option_and_then (λ later. leads limits later lines) (unless (line_defect limits standing line) (next standing line))

-- a floor that a log of this version may have: one only in version 4
abbrev pub MayFloor : ℕ → Option ℤ → Type 0
MayFloor version None = ⊤
MayFloor version (Some profit) = version ≡ 4

-- an item that a log of this version may have: its rows and slots are there, its certificate is fit, it is a point only from version 2 on, and has a floor only in version 4
abbrev pub IsFitItem : Limits → ℕ → RowItem → Type 0
IsFitItem limits version Node = ⊤
IsFitItem limits version (Cut cut) = (cut.row < limits.rows) × (cut.slot < limits.slots)
IsFitItem limits version (Found found) = length found.point ≤ limits.points
IsFitItem limits version Empty = ⊤
IsFitItem limits version (Dual cert) = is_fit limits.rows cert ≡ true
IsFitItem limits version Point = 2 ≤ version
IsFitItem limits version (Pending cert) = is_fit limits.rows cert ≡ true
IsFitItem limits version (Split pick cert) = (pick.slot < limits.slots) × (is_fit limits.rows cert ≡ true) × MayFloor version pick.floor

-- a claim that a log may have: the slots of its point are there
abbrev pub IsFitClaim : Limits → Claim → Type 0
IsFitClaim limits (Optimal profit point) = length point ≤ limits.points
IsFitClaim limits Infeasible = ⊤
IsFitClaim limits (Between profit cap point) = length point ≤ limits.points
IsFitClaim limits (Below cap) = ⊤

-- the lines of a log may come one after another to the last, where its items and its claim are fit and its proof is not too deep
abbrev pub LogsAreAccepted : Type 0
LogsAreAccepted =
    (limits : Limits) (version : ℕ) (tree : RowTree) (claim : Claim) → All (IsFitItem limits version) (tree_items tree) → depth tree ≤ limits.depth + 1 → IsFitClaim limits claim
    → leads limits new_standing (log_lines version (tree_items tree) claim) ≡ Some (record { version = version; place = Done; sides = [] })

-- the text of such a log has no defect, where its lines may be written
abbrev pub LogsHaveNoDefect : Type 0
LogsHaveNoDefect =
    (limits : Limits) (version : ℕ) (tree : RowTree) (claim : Claim) → All (IsFitItem limits version) (tree_items tree) → depth tree ≤ limits.depth + 1 → IsFitClaim limits claim
    → All IsLine (log_lines version (tree_items tree) claim) → log_text_defect limits (log_text version (tree_items tree) claim) ≡ None

-- each value of a point is a byte
abbrev pub AreBytes : List ℕ → Type 0
AreBytes point = All (λ value. value ≤ 255) point

-- the numbers of an item have at most 30 digits and keep their ranges
abbrev pub IsShortItem : RowItem → Type 0
IsShortItem Node = ⊤
IsShortItem (Cut cut) = ⊤
IsShortItem (Found found) = IsShort found.value × AreBytes found.point
IsShortItem Empty = ⊤
IsShortItem (Dual cert) = ⊤
IsShortItem Point = ⊤
IsShortItem (Pending cert) = ⊤
IsShortItem (Split pick cert) = (pick.max ≤ 254) × IfSome pick.floor IsShort

-- the numbers of a claim have at most 30 digits and keep their ranges
abbrev pub IsShortClaim : Claim → Type 0
IsShortClaim (Optimal profit point) = IsShort profit × AreBytes point
IsShortClaim Infeasible = ⊤
IsShortClaim (Between profit cap point) = IsShort profit × IsShort cap × AreBytes point
IsShortClaim (Below cap) = IsShort cap

-- the lines of such a log may be written, where its numbers have at most 30 digits and keep their ranges
abbrev pub LogsMayBeWritten : Type 0
LogsMayBeWritten =
    (limits : Limits) (version : ℕ) (tree : RowTree) (claim : Claim) → limits.rows < 2 ^ 32 → limits.slots < 2 ^ 32 → limits.points < 2 ^ 32 → IsVersion version
    → All (IsFitItem limits version) (tree_items tree) → IsFitClaim limits claim → All IsShortItem (tree_items tree) → IsShortClaim claim → All IsLine (log_lines version (tree_items tree) claim)
