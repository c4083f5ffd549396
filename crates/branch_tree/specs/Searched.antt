-- What a search over the rows of a program comes to.
use Rattle.std.specs.Prelude.{◌≡◌, ◌≢◌, ℕ, Bool, ◌+◌, ◌*◌, ◌^◌, ◌<◌, ◌≤◌, nat_le, true, false, ◌&&◌, if◌then◌else◌, List, [], ◌++◌, length, Option, Some, None, IfSome, ◌≤ℤ◌, unsigned_abs, ⊤, ◌⊎◌}
use Rattle.std.specs.List.{All, Contains, sum_by}
use Rattle.std.specs.Option.{IsSomeAnd}
use Rattle.row_kit.specs.declared.domain.Domain.{Domain}
use Rattle.row_kit.specs.declared.found.Found.{Found}
use Rattle.row_kit.specs.declared.program.Program.{Program}
use Rattle.row_kit.specs.Domain.{IsOpen}
use Rattle.row_kit.specs.Point.{IsLawful, LiesIn, worth_of}
use Rattle.row_kit.specs.Points.{points_of}
use Rattle.dual_bound.specs.Total.{is_fit}
use Rattle.proof_tree.specs.Cap.{Bounds}
use Rattle.proof_tree.specs.declared.capped.Capped.{Capped}
use Rattle.proof_tree.specs.declared.capped.Capped.TheVariants.{AtMost, NoPoint, Bad}
use Rattle.proof_tree.specs.declared.item.Item.TheVariants.{Node, Cut, Found as FoundItem, Empty, Dual, Point, Pending, Split}
use Rattle.proof_tree.specs.Items.{tree_items, depth}
use Rattle.proof_tree.specs.Nodes.{counted, found_points}
use Rattle.proof_tree.specs.Tree.{leaf, split, pending, tree_cap, after_cuts}
use Rattle.proof_tree.specs.Views.{View}
use Rattle.row_relax.specs.declared.rows.Rows.{Rows}
use Rattle.row_relax.specs.Choices.{HaveImages, choices_of, steps_of}
use Rattle.row_relax.specs.Settle.{only_point}
use Rattle.row_relax.specs.View.{IsIn, view_of}
use Rattle.branch_tree.specs.declared.ended.Ended.{Ended}
use Rattle.branch_tree.specs.declared.ended.Searched.{Searched}
use Rattle.row_relax.specs.RowProofs.{RowItem, RowTree}
use Rattle.branch_tree.specs.Justified.{IsGroup, IsAbove, IsJustified}
use Rattle.branch_tree.specs.Splits.{splits_of}

-- an item that may be written: its rows and slots are there, its certificate is fit, its found point is lawful and stands with its worth, and it has a floor only where splits may, of at most 30 digits
abbrev pub IsFitItem : Rows → Bool → RowItem → Type 0
IsFitItem rows floors Node = ⊤
IsFitItem rows floors (Cut cut) = (cut.row < length rows.program.rows) × (cut.slot < length rows.program.root)
IsFitItem rows floors (FoundItem found) = IsGroup (choices_of rows) found
IsFitItem rows floors Empty = ⊤
IsFitItem rows floors (Dual cert) = is_fit (length rows.program.rows) cert ≡ true
IsFitItem rows floors Point = ⊤
IsFitItem rows floors (Pending cert) = is_fit (length rows.program.rows) cert ≡ true
IsFitItem rows floors (Split pick cert) = (pick.slot < length rows.program.root) × (pick.max ≤ 254) × (is_fit (length rows.program.rows) cert ≡ true) × (floors ≡ false → pick.floor ≡ None) × IfSome pick.floor (λ floor. unsigned_abs floor < 10 ^ 30)

-- 1 for a domain that lacks 0 or holds 0 alone, which is split once less
abbrev pub spared : Domain → ℕ
spared domain = if domain.zero && nat_le domain.lo domain.hi then 0 else 1

-- a program that a search takes up: each slot of the root has a value, and all slots can be split no more often than splits may stand one
-- below another, where a slot that lacks 0 or holds 0 alone counts once more
pub record IsSearchable (most : ℕ) (program : Program) : Type 0 where
  pub each_open : All IsOpen program.root
  pub few_splits : sum_by splits_of program.root + sum_by spared program.root ≤ most

-- rows that a search takes up: each lawful point has an image among them, and their program is one that a search takes up
pub record AreSearchable (most : ℕ) (rows : Rows) : Type 0 where
  pub images : HaveImages rows
  pub program : IsSearchable most rows.program

-- no node stands below more than the most splits, less one for each slot of the root that lacks 0 or holds 0 alone
abbrev pub IsShallow : ℕ → Program → RowTree → Type 0
IsShallow most program tree = depth tree + sum_by spared program.root ≤ most + 1

-- a proof that may be written, with floors only where splits may have them
pub record IsWritable (most : ℕ) (rows : Rows) (floors : Bool) (tree : RowTree) : Type 0 where
  pub fit : All (IsFitItem rows floors) (tree_items tree)
  pub shallow : IsShallow most rows.program tree

-- the best of found points: one that none of them is above, and none exactly where there are none
abbrev pub IsBest : Option Found → List Found → Type 0
IsBest None found = found ≡ []
IsBest (Some best) found = Contains found best × All (λ f. f.value ≤ℤ best.value) found

-- some node of a tree is left open, and its area has a point
abbrev pub HasOpenBox : Rows → View → RowTree → Type 0
HasOpenBox rows view (leaf cuts found (pending cert)) = IsSomeAnd (after_cuts (steps_of rows) view cuts) (λ v. (point : List ℕ) × IsIn v point)
HasOpenBox rows view (leaf cuts found end) = ⊥
HasOpenBox rows view (split cuts found pick cert a b) =
    IsSomeAnd (after_cuts (steps_of rows) view cuts)
    (λ v. IsSomeAnd ((steps_of rows).left ((steps_of rows).trim v pick cert) pick) (λ x. HasOpenBox rows x a)
    ⊎ IsSomeAnd ((steps_of rows).right ((steps_of rows).trim v pick cert) pick) (λ y. HasOpenBox rows y b))

-- the cap is the worth of the best found point, or there is no point and none was found
abbrev pub IsSettled : Capped → Option Found → Type 0
IsSettled (AtMost cap) (Some best) = cap ≡ best.value
IsSettled NoPoint None = ⊤
IsSettled _ _ = ⊥

-- what a search of the root with a budget comes to, and the proof that it makes: at most so many splits stand there one below another, splits have floors only where `floors` says so, and slots from the number `given` on are sums
pub record IsSearch (most : ℕ) (rows : Rows) (floors : Bool) (given budget : ℕ) (tree : RowTree) (ended : Ended) : Type 0 where
  -- the cap is that of the proof, and no lawful point is worth more
  pub cap : ended.cap ≡ tree_cap (steps_of rows) (view_of rows.program.root) tree
  pub defined : ended.cap ≢ Bad
  pub bounds : Bounds (LiesIn (choices_of rows).root) (IsLawful (choices_of rows)) (worth_of (choices_of rows)) ended.cap
  pub justified : IsJustified rows given tree
  pub writable : IsWritable most rows floors tree
  pub best : IsBest ended.best (found_points tree)
  -- the counted boxes are at most the budget, and at most twice the points less one
  pub spent : ended.spent ≡ counted tree
  pub within : ended.spent ≤ budget
  pub few : ended.spent + 1 ≤ 2 * points_of rows.program.root
  -- where a box is left open the cap is above each found point, and else it is the worth of the best
  pub left_open : ended.left_open ≡ true → HasOpenBox rows (view_of rows.program.root) tree × IsAbove ended.cap (found_points tree)
  pub settled : ended.left_open ≡ false → IsSettled ended.cap ended.best
  -- where the least point is lawful, the best is worth as much
  pub least : IsLawful (choices_of rows) (only_point (choices_of rows).root) → IsSomeAnd ended.best (λ best. worth_of (choices_of rows) (only_point (choices_of rows).root) ≤ℤ best.value)

-- where the point is lawful, the found point is worth as much
abbrev pub IsWorth : Program → List ℕ → Option Found → Type 0
IsWorth program point found = IsLawful program point → IsSomeAnd found (λ f. worth_of program point ≤ℤ f.value)

-- what a search ended with whose proof was built
abbrev pub ended_of : Searched → Ended
ended_of searched = record { best = searched.best; cap = searched.cap; spent = searched.spent; left_open = searched.left_open }

-- a box is left open only after as many boxes as the budget, and only below twice the points less one
pub record IsExact (program : Program) (budget : ℕ) (ended : Ended) : Type 0 where
  pub spent : ended.left_open ≡ true → ended.spent ≡ budget
  pub below : ended.left_open ≡ true → budget + 1 < 2 * points_of program.root

-- a search whose proof a taker took
pub record IsSearchedTo {T O : Type 0} (took : T → O → List RowItem → T → O → Type 0) (most : ℕ) (rows : Rows) (floors : Bool) (given budget : ℕ) (ended : Ended) (taker : T) (out : O) (taker_after : T) (out_after : O) : Type 0 where
  pub tree : RowTree
  pub search : IsSearch most rows floors given budget tree ended
  pub handed : took taker out (tree_items tree) taker_after out_after

-- a search that broke off: a taker took, or did not wholly take, the first items of some proof that may be written
pub record IsBrokenOff {T O : Type 0} (took broke : T → O → List RowItem → T → O → Type 0) (most : ℕ) (rows : Rows) (floors : Bool) (taker : T) (out : O) (taker_after : T) (out_after : O) : Type 0 where
  pub tree : RowTree
  pub items : List RowItem
  pub later : List RowItem
  pub first : tree_items tree ≡ items ++ later
  pub handed : took taker out items taker_after out_after ⊎ broke taker out items taker_after out_after
  pub writable : IsWritable most rows floors tree
