-- What a log says, and the meaning defects of its proof and of its claim.
use Rattle.std.specs.Prelude.{◌≡◌, ◌≢◌, ◌⊎◌, ℕ, ℤ, true, false, ⊤, List, [], ◌∷◌, ◌++◌}
use Rattle.row_kit.specs.declared.program.Program.{Program}
use Rattle.row_kit.specs.Point.{IsLawful, worth_of}
use Rattle.range_prop.specs.declared.row_cut.RowCut.{RowCut}
use Rattle.dual_bound.specs.declared.cert.Cert.{Cert}
use Rattle.proof_tree.specs.declared.capped.Capped.{Capped}
use Rattle.proof_tree.specs.declared.capped.Capped.TheVariants.{Bad}
use Rattle.proof_tree.specs.declared.item.Item.TheVariants.{Node, Cut, Found, Empty, Dual, Point, Pending, Split}
use Rattle.proof_tree.specs.Relaxation.{Steps}
use Rattle.proof_tree.specs.Views.{View}
use Rattle.proof_tree.specs.Walk.{Outcome, going, ended, undefined, misplaced, after, walked, start}
use Rattle.row_relax.specs.declared.pick.RowPick.{RowPick}
use Rattle.proof_log.specs.declared.claim.Claim.{Claim}
use Rattle.proof_log.specs.declared.claim.Claim.TheVariants.{Optimal, Infeasible, Between, Below}
use Rattle.log_lines.specs.declared.defect.Defect.{Defect}
use Rattle.proof_log.specs.ClaimSays.{HasWorth}
use Rattle.row_relax.specs.RowProofs.{RowItem}
use Rattle.proof_log.specs.Log.{line_after}
pub use Rattle.plan_images.specs.Caps.{AllowsPoint, AllowsMore}
use Rattle.plan_images.specs.Told.{IsBorne}

-- what the calls of rows answer
abbrev pub RowSteps : Type 0
RowSteps = Steps RowCut Cert RowPick

-- a point is lawful and has this worth
abbrev pub IsWorth : Program → ℤ → List ℕ → Type 0
IsWorth program value point = HasWorth (IsLawful program) (worth_of program) point value

-- what is wrong with a point and the worth that it is said to have: 13 where it is not lawful, 14 where it is and its worth is another
abbrev pub PointDefect : Program → ℤ → List ℕ → ℕ → Type 0
PointDefect program value point kind =
    ((kind ≡ 13) × (¬ IsLawful program point)) ⊎ ((kind ≡ 14) × IsLawful program point × (worth_of program point ≢ value))

-- what is wrong with a certificate: 11 where some domain is empty, 12 where none is and it gives no cap
abbrev pub CapDefect : RowSteps → View → Cert → ℕ → Type 0
CapDefect s v cert kind =
    ((kind ≡ 11) × (s.empty v ≡ true)) ⊎ ((kind ≡ 12) × (s.empty v ≡ false) × (s.cap v cert ≡ Bad))

-- what is wrong with an item over a view
abbrev pub ItemDefect : RowSteps → Program → View → RowItem → ℕ → Type 0
ItemDefect s program v Node kind = ⊥
ItemDefect s program v (Cut cut) kind = ⊥
ItemDefect s program v (Found found) kind = PointDefect program found.value found.point kind
ItemDefect s program v Empty kind = (kind ≡ 10) × (s.empty v ≡ false)
ItemDefect s program v (Dual cert) kind = CapDefect s v cert kind
ItemDefect s program v Point kind = (kind ≡ 18) × (s.settle v ≡ Bad)
ItemDefect s program v (Pending cert) kind = CapDefect s v cert kind
ItemDefect s program v (Split pick cert) kind = ⊥

-- what was tested before a walk takes an item: a found point is lawful and has its worth, and under a certificate no domain is empty
abbrev pub IsTested : RowSteps → Program → View → RowItem → Type 0
IsTested s program v Node = ⊤
IsTested s program v (Cut cut) = ⊤
IsTested s program v (Found found) = IsWorth program found.value found.point
IsTested s program v Empty = ⊤
IsTested s program v (Dual cert) = s.empty v ≡ false
IsTested s program v Point = ⊤
IsTested s program v (Pending cert) = s.empty v ≡ false
IsTested s program v (Split pick cert) = ⊤

-- what is wrong with an item where a walk stands
abbrev pub HasDefect : RowSteps → Program → Outcome RowPick → RowItem → ℕ → Type 0
HasDefect s program (going stage) item kind = ItemDefect s program stage.view item kind
HasDefect s program (ended proof_cap) item kind = ⊥
HasDefect s program undefined item kind = ⊥
HasDefect s program misplaced item kind = ⊥

-- no item has a defect where the walk over those before it stands
abbrev pub HaveNone : RowSteps → Program → Outcome RowPick → List RowItem → Type 0
HaveNone s program outcome [] = ⊤
HaveNone s program outcome (item ∷ items) =
    ((kind : ℕ) → ¬ HasDefect s program outcome item kind) × HaveNone s program (after s outcome item) items

-- the first item with a defect begins at the line, and has the defect
pub record IsItemDefect (s : RowSteps) (program : Program) (root : View) (items : List RowItem) (defect : Defect) : Type 0 where
  pub before : List RowItem
  pub item : RowItem
  pub later : List RowItem
  pub listed : items ≡ before ++ item ∷ later
  pub line : defect.line ≡ line_after before
  pub first : HaveNone s program (start root) before
  pub has : HasDefect s program (walked s (start root) before) item defect.kind

-- what is wrong with a point, its worth and the most that any point is said to be worth, where a proof has this cap: 13 and 14 as with a found point, 15 where nothing is wrong with it and the cap is above the most
abbrev pub CappedDefect : Program → Capped → ℤ → ℤ → List ℕ → ℕ → Type 0
CappedDefect program proof_cap value most point kind =
    PointDefect program value point kind ⊎ ((kind ≡ 15) × IsWorth program value point × AllowsMore proof_cap most)

-- what is wrong with a claim of a proof that has this cap: 13 to 15 where it has a point, 15 where the cap is above its own, 16 where it says that no point is lawful and there is a cap
abbrev pub ClaimDefect : Program → Capped → Claim → ℕ → Type 0
ClaimDefect program proof_cap (Optimal profit point) kind = CappedDefect program proof_cap profit profit point kind
ClaimDefect program proof_cap Infeasible kind = (kind ≡ 16) × AllowsPoint proof_cap
ClaimDefect program proof_cap (Between profit most point) kind = CappedDefect program proof_cap profit most point kind
ClaimDefect program proof_cap (Below most) kind = (kind ≡ 15) × AllowsMore proof_cap most

-- the items have no defect and lead from the root to this cap
pub record IsProved (s : RowSteps) (program : Program) (root : View) (items : List RowItem) (proof_cap : Capped) : Type 0 where
  pub sound : HaveNone s program (start root) items
  pub led : walked s (start root) items ≡ ended proof_cap

-- no item has a defect, and the claim, which begins at the line, has the defect
pub record IsClaimDefect (s : RowSteps) (program : Program) (root : View) (items : List RowItem) (claim : Claim) (defect : Defect) : Type 0 where
  pub proof_cap : Capped
  pub proved : IsProved s program root items proof_cap
  pub line : defect.line ≡ line_after items
  pub has : ClaimDefect program proof_cap claim defect.kind

-- the first meaning defect of a proof and its claim, over a root
abbrev pub IsMeaningDefect : RowSteps → Program → View → List RowItem → Claim → Defect → Type 0
IsMeaningDefect s program root items claim defect = IsItemDefect s program root items defect ⊎ IsClaimDefect s program root items claim defect

-- nothing is wrong with a claim of a proof that has this cap: the cap bears it out
abbrev pub IsSoundClaim : Program → Capped → Claim → Type 0
IsSoundClaim program proof_cap claim = IsBorne (IsLawful program) (worth_of program) (λ point. point) proof_cap claim
