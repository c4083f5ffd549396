-- A point that has its worth, and a tested item that leads somewhere, have no defect.
use Rattle.std.proofs.Common.{◌≡◌, ◌≢◌, ⊎_elim, ℕ, ℤ, false, List, refl}
use Rattle.row_kit.specs.declared.program.Program.{Program}
use Rattle.dual_bound.specs.declared.cert.Cert.{Cert}
use Rattle.proof_tree.specs.declared.capped.Capped.{Capped}
use Rattle.proof_tree.specs.declared.capped.Capped.TheVariants.{Bad}
use Rattle.proof_tree.specs.declared.item.Item.TheVariants.{Node, Cut, Found as FoundItem, Empty, Dual, Point, Pending, Split}
use Rattle.proof_tree.specs.Tree.{no_point, leaf_cap}
use Rattle.proof_tree.specs.Views.{View}
use Rattle.proof_tree.specs.Walk.{Opened, undefined, part_ended, come_to}
use Rattle.row_relax.specs.declared.pick.RowPick.{RowPick}
use Rattle.row_relax.specs.RowProofs.{RowItem}
use Rattle.valid_log.specs.Meaning.{RowSteps, IsTested, IsWorth, PointDefect, CapDefect, ItemDefect}

-- a part that leads somewhere has a cap
part-Bad : (s : RowSteps) (splits : List (Opened RowPick)) (proof_cap : Capped) → part_ended s splits proof_cap ≢ undefined → proof_cap ≢ Bad
part-Bad s splits proof_cap leads is = leads (rw is refl)

-- a point that has its worth has no defect
pub worth-sound : (program : Program) (value : ℤ) (point : List ℕ) → IsWorth program value point → (kind : ℕ) → ¬ PointDefect program value point kind
worth-sound program value point is kind = ⊎_elim (λ x. x.1 is.0) (λ x. x.2 is.1)

cap-sound : (s : RowSteps) (v : View) (cert : Cert) → s.empty v ≡ false → s.cap v cert ≢ Bad → (kind : ℕ) → ¬ CapDefect s v cert kind
cap-sound s v cert filled caps kind = ⊎_elim (λ x. let e = x.1 in cc) (λ x. caps x.2)

-- a tested item that leads somewhere has no defect
pub leads_on : (s : RowSteps) (program : Program) (splits : List (Opened RowPick)) (v : View) (item : RowItem) → IsTested s program v item → come_to s splits v item ≢ undefined → (kind : ℕ) → ¬ ItemDefect s program v item kind
leads_on s program splits v Node tested leads kind = λ x. x
leads_on s program splits v (Cut cut) tested leads kind = λ x. x
leads_on s program splits v (FoundItem found) tested leads kind = worth-sound program found.value found.point tested kind
leads_on s program splits v Empty tested leads kind = λ x. part-Bad s splits (leaf_cap s v no_point) leads (rw x.1 refl)
leads_on s program splits v (Dual cert) tested leads kind = cap-sound s v cert tested (part-Bad s splits (s.cap v cert) leads) kind
leads_on s program splits v Point tested leads kind = λ x. part-Bad s splits (s.settle v) leads x.1
leads_on s program splits v (Pending cert) tested leads kind = cap-sound s v cert tested (part-Bad s splits (s.cap v cert) leads) kind
leads_on s program splits v (Split pick cert) tested leads kind = λ x. x
