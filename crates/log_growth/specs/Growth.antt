-- Proofs that go on from others.
use Rattle.std.specs.Prelude.{◌≡◌, ◌⊎◌, ℕ, ℤ, ◌+◌, ◌%◌, ◌==◌, ◌&&◌, Bool, true, false, IsTrue, if◌then◌else◌, int_lt, List, ◌++◌, Option, Some, None, IsSomeAnd}
use Rattle.proof_tree.specs.declared.capped.Capped.{Capped}
use Rattle.proof_tree.specs.declared.capped.Capped.TheVariants.{AtMost, NoPoint, Bad}
use Rattle.proof_tree.specs.Cap.{floor_cap}
use Rattle.proof_tree.specs.Relaxation.{Steps}
use Rattle.proof_tree.specs.Tree.{Leaf, no_point, dual, one_point, pending, Tree, leaf, split, after_cuts}
use Rattle.proof_tree.specs.Views.{View}
use Rattle.row_relax.specs.declared.rows.Rows.{Rows}
use Rattle.row_relax.specs.RowProofs.{RowTree}
use Rattle.row_relax.specs.Steps.{row_steps}
use Rattle.proof_tree.specs.Nodes.{counted}
use Rattle.branch_tree.specs.Deep.{is_deep}
use Rattle.log_growth.specs.declared.counts.Growth.{Growth}
use Rattle.log_nodes.specs.declared.pair.Share.{Share}
use Rattle.log_nodes.specs.OpenEnds.{in_share, is_open, leaves_open}

-- a count over a view, and none where there is no view
abbrev pub count_if : Option View → (View → ℕ) → ℕ
count_if None count = 0
count_if (Some v) count = count v

-- how many ends of a proof over a view are open
abbrev pub open_ends : {U C P F : Type 0} → Steps U C P → Option ℤ → View → Tree U C P F → ℕ
open_ends s profit v (leaf cuts found end) = count_if (after_cuts s v cuts) (λ w. if is_open s profit w end then 1 else 0)
open_ends s profit v (split cuts found pick cert a b) =
    count_if (after_cuts s v cuts)
    (λ w. count_if (s.left (s.trim w pick cert) pick) (λ x. open_ends s profit x a) + count_if (s.right (s.trim w pick cert) pick) (λ y. open_ends s profit y b))

-- how many ends of a proof over a view, below so many splits, are open and deep: below so many splits over this view after the cuts of the node
abbrev pub deep_ends : {U C P F : Type 0} → Steps U C P → Option ℤ → (ℕ → View → Bool) → ℕ → View → Tree U C P F → ℕ
deep_ends s profit is_deep depth v (leaf cuts found end) =
    count_if (after_cuts s v cuts) (λ w. if is_open s profit w end && is_deep depth w then 1 else 0)
deep_ends s profit is_deep depth v (split cuts found pick cert a b) =
    count_if (after_cuts s v cuts)
    (λ w. count_if (s.left (s.trim w pick cert) pick) (λ x. deep_ends s profit is_deep (depth + 1) x a)
    + count_if (s.right (s.trim w pick cert) pick) (λ y. deep_ends s profit is_deep (depth + 1) y b))

-- how many splits of a proof over a view have a floor above a profit, that counts as a cap
abbrev pub floors_above : {U C P F : Type 0} → Steps U C P → Option ℤ → View → Tree U C P F → ℕ
floors_above s profit v (leaf cuts found end) = 0
floors_above s profit v (split cuts found pick cert a b) =
    count_if (after_cuts s v cuts)
    (λ w. (if leaves_open profit (floor_cap (s.floor w pick cert)) then 1 else 0)
    + (count_if (s.left (s.trim w pick cert) pick) (λ x. floors_above s profit x a) + count_if (s.right (s.trim w pick cert) pick) (λ y. floors_above s profit y b)))

-- a proof whose node begins with these cuts
abbrev pub BeginsWithTree : {U C P F : Type 0} → List U → Tree U C P F → Type 0
BeginsWithTree {U} cuts (leaf own found end) = (more : List U) × (own ≡ cuts ++ more)
BeginsWithTree {U} cuts (split own found pick cert a b) = (more : List U) × (own ≡ cuts ++ more)

-- A proof goes on from another over a view, whose open ends are numbered from n on. It splits where that one splits, in
-- the same way. An end is as it was; but where it is open and its number is one of those that are searched, another proof may stand in its
-- place, which begins with its cuts.
abbrev pub GoesOn : {U C P F : Type 0} → Steps U C P → Option ℤ → (ℕ → Bool) → ℕ → View → Tree U C P F → Tree U C P F → Type 0
GoesOn s profit searched n v (leaf cuts found end) grown =
    (grown ≡ leaf cuts found end)
    ⊎ (IsTrue (searched n) × IsSomeAnd (after_cuts s v cuts) (λ w. IsTrue (is_open s profit w end)) × BeginsWithTree cuts grown)
GoesOn {U} {C} {P} {F} s profit searched n v (split cuts found pick cert a b) grown =
    (first : Tree U C P F) × ((second : Tree U C P F) × ((grown ≡ split cuts found pick cert first second)
    × IsSomeAnd (after_cuts s v cuts)
    (λ w. IsSomeAnd (s.left (s.trim w pick cert) pick) (λ x. GoesOn s profit searched n x a first
    × IsSomeAnd (s.right (s.trim w pick cert) pick) (λ y. GoesOn s profit searched (n + open_ends s profit x a) y b second)))))

-- how one proof goes on from another over a view below so many splits, of which at most so many may stand one below another, with open ends
-- numbered from n on, and their counts
pub record IsGrowth (most : ℕ) (rows : Rows) (profit : Option ℤ) (share : Option Share) (depth n : ℕ) (view : View) (tree grown : RowTree) (growth : Growth) : Type 0 where
  pub goes_on : GoesOn (row_steps rows.program) profit (in_share share) n view tree grown
  pub ends : growth.ends ≡ open_ends (row_steps rows.program) profit view tree
  pub deep : growth.deep ≡ deep_ends (row_steps rows.program) profit (is_deep most) depth view tree
  pub floors : growth.floors ≡ floors_above (row_steps rows.program) profit view tree
  pub before : growth.before ≡ counted tree
  pub after : growth.after ≡ counted grown
