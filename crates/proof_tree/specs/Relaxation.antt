-- What the calls of a relaxation answer, and the laws that they keep.
use Rattle.std.specs.Prelude.{◌≡◌, ◌≢◌, ◌⊎◌, Bool, true, ℤ, Option, Some, None}
use Rattle.proof_tree.specs.declared.capped.Capped.{Capped}
use Rattle.proof_tree.specs.Cap.{Bounds, IsWithinFloor}
use Rattle.proof_tree.specs.Views.{View, Point}

-- what the calls of a relaxation answer on a view; none says that the cut or the pick names nothing that is there
pub record Steps (U C P : Type 0) : Type 0 where
  pub cut : View → U → Option View
  pub left : View → P → Option View
  pub right : View → P → Option View
  pub empty : View → Bool
  pub cap : View → C → Capped
  pub settle : View → Capped
  -- the profit that a split forgets points up to; none where it forgets none
  pub floor : View → P → C → Option ℤ
  -- what is left of a view once a split has forgotten points
  pub trim : View → P → C → View

-- the laws of a relaxation, on views that fit
pub record IsSound {U C P : Type 0} (s : Steps U C P) (fits : View → Type 0) (is_point : View → Point → Type 0) (is_lawful : Point → Type 0) (worth : Point → ℤ) : Type 0 where
  -- what a cut, a left part and a right part lead to fits
  pub cut_fits : (v w : View) (u : U) → fits v → s.cut v u ≡ Some w → fits w
  pub left_fits : (v w : View) (k : P) → fits v → s.left v k ≡ Some w → fits w
  pub right_fits : (v w : View) (k : P) → fits v → s.right v k ≡ Some w → fits w
  -- a pick that names a left part names a right part
  pub parts_alike : (v w : View) (k : P) → fits v → s.left v k ≡ Some w → s.right v k ≢ None
  -- a cut keeps every lawful point
  pub cut_keeps : (v w : View) (u : U) → fits v → s.cut v u ≡ Some w → (p : Point) → is_point v p → is_lawful p → is_point w p
  -- every point is in the left or in the right part
  pub parts_cover : (v w x : View) (k : P) → fits v → s.left v k ≡ Some w → s.right v k ≡ Some x → (p : Point) → is_point v p → is_point w p ⊎ is_point x p
  -- what is said to be empty has no point
  pub empty_holds : (v : View) → fits v → s.empty v ≡ true → (p : Point) → ¬ is_point v p
  -- the cap of a certificate bounds the worth of every lawful point
  pub cap_bounds : (v : View) (c : C) → fits v → Bounds (is_point v) is_lawful worth (s.cap v c)
  -- what a view settles to bounds the worth of every lawful point
  pub settles : (v : View) → fits v → Bounds (is_point v) is_lawful worth (s.settle v)
  -- what is left once a split has forgotten points fits
  pub trim_fits : (v : View) (k : P) (c : C) → fits v → fits (s.trim v k c)
  -- what a split forgets is worth at most its floor
  pub trim_keeps : (v : View) (k : P) (c : C) → fits v → (p : Point) → is_point v p → is_lawful p → is_point (s.trim v k c) p ⊎ IsWithinFloor (s.floor v k c) (worth p)
