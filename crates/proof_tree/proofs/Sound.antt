-- The cap of a tree bounds the worth of every lawful point, whatever the relaxation.
use Rattle.std.proofs.Common.{◌≡◌, ℤ, ◌≤ℤ◌, ◌⊎◌, Bool, true, false, cond, List, [], ◌∷◌, Option, Some, None, option_and_then, inl, inr, refl, ap, sym, ◌∙◌, subst, ⊎_elim}
use Rattle.proof_tree.specs.declared.capped.Capped.{Capped}
use Rattle.proof_tree.specs.declared.capped.Capped.TheVariants.{AtMost, NoPoint, Bad}
use Rattle.proof_tree.specs.Cap.{Bounds, IsWithinFloor, greater, floor_cap}
use Rattle.proof_tree.specs.Relaxation.{Steps, IsSound}
use Rattle.proof_tree.specs.Tree.{Leaf, no_point, dual, one_point, pending, Tree, leaf, split, tree_cap, split_cap, leaf_cap, after_cuts, cap_if}
use Rattle.proof_tree.specs.Views.{View, Point}
use Rattle.proof_tree.proofs.Caps.{Bounds-greater, floor-bad, floor-bounds}

-- a cap of some points is a cap of lawful points among them
Bounds-fewer : (P Q L : Point → Type 0) (worth : Point → ℤ) (cap : Capped) → ((p : Point) → Q p → L p → P p) → Bounds P L worth cap → Bounds Q L worth cap
Bounds-fewer P Q L worth (AtMost n) within bound = λ p q l. bound p (within p q l) l
Bounds-fewer P Q L worth NoPoint within bound = λ p q l. bound p (within p q l) l
Bounds-fewer P Q L worth Bad within bound = tt

some_same : (v w : View) → Some v ≡ Some w → v ≡ w
some_same v w eq = cc

module _ {U C P : Type 0} (s : Steps U C P) (fits : View → Type 0) (is_point : View → Point → Type 0) (is_lawful : Point → Type 0) (worth : Point → ℤ) (sound : IsSound s fits is_point is_lawful worth) where
  -- a cap of the view that a step leads to is a cap of this one, where the step keeps its lawful points
  Bounds-cap_if : (v : View) (next : Option View) (cap_at : View → Capped) → ((w : View) → next ≡ Some w → Bounds (is_point w) is_lawful worth (cap_at w)) → ((w : View) → next ≡ Some w → (p : Point) → is_point v p → is_lawful p → is_point w p) → Bounds (is_point v) is_lawful worth (cap_if next cap_at)
  Bounds-cap_if v None cap_at bound keeps = tt
  Bounds-cap_if v (Some w) cap_at bound keeps = Bounds-fewer (is_point w) (is_point v) is_lawful worth (cap_at w) (keeps w refl) (bound w refl)

  -- what a node's cuts lead to, if they lead anywhere: it fits, and has every lawful point
  CutsTo : View → Option View → Type 0
  CutsTo v next = (w : View) → next ≡ Some w → fits w × ((p : Point) → is_point v p → is_lawful p → is_point w p)

  first_cut : (u : U) (us : List U) (v : View) → fits v → ((x : View) → fits x → CutsTo x (after_cuts s x us)) → (next : Option View) → s.cut v u ≡ next → CutsTo v (option_and_then (λ x. after_cuts s x us) next)
  unfolding CutsTo
  first_cut u us v fit rest None is w eq = cc
  first_cut u us v fit rest (Some x) is w eq =
      let after = rest x (sound.cut_fits v x u fit is) w eq in
      (after.0, λ p in_view lawful. after.1 p (sound.cut_keeps v x u fit is p in_view lawful) lawful)

  cuts_to : (cuts : List U) (v : View) → fits v → CutsTo v (after_cuts s v cuts)
  unfolding CutsTo
  cuts_to [] v fit w eq = subst (λ x. fits x × ((p : Point) → is_point v p → is_lawful p → is_point x p)) (some_same _ _ eq) (fit, λ p in_view lawful. in_view)
  cuts_to (u ∷ us) v fit w eq = first_cut u us v fit (cuts_to us) (s.cut v u) refl w eq

  -- the cap of a leaf bounds the worth of every lawful point
  leaf_cap-bounds : (v : View) (end : Leaf C) → fits v → Bounds (is_point v) is_lawful worth (leaf_cap s v end)
  leaf_cap-bounds v no_point fit = ask (s.empty v) refl
    where
      ask : (answer : Bool) → s.empty v ≡ answer → Bounds (is_point v) is_lawful worth (cond answer NoPoint Bad)
      ask true is = λ p in_view lawful. sound.empty_holds v fit is p in_view
      ask false is = tt
  leaf_cap-bounds v (dual cert) fit = sound.cap_bounds v cert fit
  leaf_cap-bounds v one_point fit = sound.settles v fit
  leaf_cap-bounds v (pending cert) fit = sound.cap_bounds v cert fit

  -- a point that a split has not forgotten is in one of the parts
  in_a_part : (w x y : View) (pick : P) (cert : C) → fits w → s.left (s.trim w pick cert) pick ≡ Some x → s.right (s.trim w pick cert) pick ≡ Some y
      → (p : Point) → is_point w p → is_lawful p → (IsWithinFloor (s.floor w pick cert) (worth p) ⊎ is_point x p) ⊎ is_point y p
  in_a_part w x y pick cert fit is_left is_right p in_view lawful =
      ⊎_elim
      (λ stays. ⊎_elim (λ here. inl (inr here)) (λ here. inr here) (sound.parts_cover (s.trim w pick cert) x y pick (sound.trim_fits w pick cert fit) is_left is_right p stays))
      (λ within. inl (inl within))
      (sound.trim_keeps w pick cert fit p in_view lawful)

  -- the greatest of the caps of a floor and of the two parts is a cap of what is split
  split_cap-bounds : (w : View) (pick : P) (cert : C) (first second : View → Capped) → fits w → ((x : View) → fits x → Bounds (is_point x) is_lawful worth (first x)) → ((x : View) → fits x → Bounds (is_point x) is_lawful worth (second x))
      → (x : Option View) → s.left (s.trim w pick cert) pick ≡ x → (y : Option View) → s.right (s.trim w pick cert) pick ≡ y
      → Bounds (is_point w) is_lawful worth (greater (greater (floor_cap (s.floor w pick cert)) (cap_if x first)) (cap_if y second))
  split_cap-bounds w pick cert first second fit one other None is_left y is_right =
      subst (λ cap. Bounds (is_point w) is_lawful worth (greater cap (cap_if y second))) (sym (floor-bad (s.floor w pick cert))) tt
  split_cap-bounds w pick cert first second fit one other (Some x) is_left None is_right = absurd (sound.parts_alike (s.trim w pick cert) x pick (sound.trim_fits w pick cert fit) is_left is_right)
  split_cap-bounds w pick cert first second fit one other (Some x) is_left (Some y) is_right =
      let floor = s.floor w pick cert in
      let fit_rest = sound.trim_fits w pick cert fit in
      let Within : Point → Type 0 = λ p. IsWithinFloor floor (worth p) in
      let Left : Point → Type 0 = λ p. Within p ⊎ is_point x p in
      let left_cap = Bounds-greater Within (is_point x) Left is_lawful worth (floor_cap floor) (first x) (λ p either lawful. either) (floor-bounds is_lawful worth floor) (one x (sound.left_fits (s.trim w pick cert) x pick fit_rest is_left)) in
      Bounds-greater Left (is_point y) (is_point w) is_lawful worth (greater (floor_cap floor) (first x)) (second y) (in_a_part w x y pick cert fit is_left is_right) left_cap (other y (sound.right_fits (s.trim w pick cert) y pick fit_rest is_right))

-- the cap of a tree bounds the worth of every lawful point
pub tree_cap-bounds : {U C P F : Type 0} (s : Steps U C P) (fits : View → Type 0) (is_point : View → Point → Type 0) (is_lawful : Point → Type 0) (worth : Point → ℤ) → IsSound s fits is_point is_lawful worth → (tree : Tree U C P F) (v : View) → fits v → Bounds (is_point v) is_lawful worth (tree_cap s v tree)
unfolding CutsTo
tree_cap-bounds s fits is_point is_lawful worth sound (leaf cuts found end) v fit =
    let to = cuts_to s fits is_point is_lawful worth sound cuts v fit in
    Bounds-cap_if s fits is_point is_lawful worth sound v (after_cuts s v cuts) (λ w. leaf_cap s w end) (λ w is. leaf_cap-bounds s fits is_point is_lawful worth sound w end (to w is).0) (λ w is. (to w is).1)
tree_cap-bounds s fits is_point is_lawful worth sound (split cuts found pick cert a b) v fit =
    let to = cuts_to s fits is_point is_lawful worth sound cuts v fit in
    let first = tree_cap-bounds s fits is_point is_lawful worth sound a in
    let second = tree_cap-bounds s fits is_point is_lawful worth sound b in
    Bounds-cap_if s fits is_point is_lawful worth sound v (after_cuts s v cuts) (λ w. split_cap s w pick cert (λ x. tree_cap s x a) (λ x. tree_cap s x b))
    (λ w is. split_cap-bounds s fits is_point is_lawful worth sound w pick cert (λ x. tree_cap s x a) (λ x. tree_cap s x b) (to w is).0 first second (s.left (s.trim w pick cert) pick) refl (s.right (s.trim w pick cert) pick) refl)
    (λ w is. (to w is).1)
