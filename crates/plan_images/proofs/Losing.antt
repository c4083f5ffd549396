-- Cuts and splits lose no image of what earns more than their floors, so the cap of a proof allows what each plan earns.
use Rattle.std.proofs.Common.{◌≡◌, ℕ, ℤ, ◌≤ℤ◌, ◌⊎◌, Bool, true, false, cond, List, [], ◌∷◌, Option, Some, None, option_and_then, refl, sym, subst, inl, inr, ⊎_elim}
use Rattle.row_kit.specs.declared.domain.Domain.{Domain}
use Rattle.row_kit.specs.declared.program.Program.{Program}
use Rattle.row_kit.specs.Point.{IsLawful, LiesIn, value_of, worth_of}
use Rattle.range_prop.specs.declared.row_cut.RowCut.{RowCut}
use Rattle.dual_bound.specs.declared.cert.Cert.{Cert}
use Rattle.dual_bound.specs.Cap.{CapHolds, cert_cap}
use Rattle.dual_bound.specs.Total.{has_total}
use Rattle.dual_bound.specs.Trimmed.{trimmed}
use Rattle.dual_bound.proofs.Floors.{trimmed_keeps, trimmed_without}
use Rattle.dual_bound.proofs.Quotients.{cert_cap-holds}
use Rattle.proof_tree.specs.declared.capped.Capped.{Capped}
use Rattle.proof_tree.specs.declared.capped.Capped.TheVariants.{AtMost, NoPoint, Bad}
use Rattle.proof_tree.specs.Cap.{IsWithinFloor, greater, floor_cap}
use Rattle.proof_tree.specs.Tree.{Leaf, no_point, dual, one_point, pending, leaf, split, tree_cap, split_cap, leaf_cap, after_cuts, cap_if}
use Rattle.proof_tree.specs.Views.{View}
use Rattle.row_relax.specs.declared.pick.RowPick.{RowPick}
use Rattle.row_relax.specs.RowProofs.{RowTree}
use Rattle.row_relax.specs.Choices.{settled_by}
use Rattle.row_relax.specs.Steps.{floor_by, row_steps, view_by}
use Rattle.row_relax.specs.View.{Fits, IsIn, domains_of, view_of}
use Rattle.row_relax.specs.laws.Laws.{rows_sound}
use Rattle.row_relax.specs.laws.Shown.{domains_of-view_of, fits_of}
use Rattle.plan_images.specs.Boxes.{LosesNone, SettlesBy}
use Rattle.plan_images.specs.Caps.{Allows, Caps}
use Rattle.plan_images.specs.Images.{IsImage, IsRelaxation}
use Rattle.plan_images.specs.Law.{NoneIsLost, RowsSettle}
use Rattle.plan_images.proofs.Allowing.{allows-half, allows-left, allows-less, allows-one, allows-right}

-- a floor leaves a lawful point, or its value is at most the floor
floor-keeps : (program : Program) (v : View) (cert : Cert) (floor : Option ℤ) (point : List ℕ) → IsIn v point → IsLawful program point → IsIn (view_by program v cert floor) point ⊎ IsWithinFloor (floor_by program (domains_of v) cert floor) (value_of program point)
floor-keeps program v cert None point lies lawful = inl lies
floor-keeps program v cert (Some floor) point lies lawful = by (has_total program (domains_of v) cert) refl
  where
    left : List Domain
    left = trimmed program (domains_of v) cert floor

    in_view : LiesIn left point → IsIn (view_of left) point
    in_view lies = subst (λ (ds : List Domain). LiesIn ds point) (sym (domains_of-view_of left)) lies

    by : (total : Bool) → has_total program (domains_of v) cert ≡ total → IsIn (view_of left) point ⊎ IsWithinFloor (cond total (Some floor) None) (value_of program point)
    by true is = ⊎_elim (λ (stays : LiesIn left point). inl (in_view stays)) (λ (within : value_of program point ≤ℤ floor). inr within) (trimmed_keeps program (domains_of v) cert floor point is lies lawful.keeps)
    by false is = inl (in_view (subst (λ (ds : List Domain). LiesIn ds point) (sym (trimmed_without program (domains_of v) cert floor is)) lies))

-- so does what a split forgets
trim-keeps : (program : Program) (v : View) (pick : RowPick) (cert : Cert) (point : List ℕ) → IsIn v point → IsLawful program point → IsIn ((row_steps program).trim v pick cert) point ⊎ IsWithinFloor ((row_steps program).floor v pick cert) (value_of program point)
unfolding row_steps
trim-keeps program v pick cert point lies lawful = floor-keeps program v cert pick.floor point lies lawful

-- no step of a proof loses a lawful point that is worth more than the floors
pub lawful-kept : (program : Program) (point : List ℕ) → IsLawful program point → LosesNone program point
lawful-kept program point lawful = record {
  cut = λ v w cut fits is lies. (rows_sound program).cut_keeps v w cut fits is point lies lawful;
  parts = λ v w x pick fits left right lies. (rows_sound program).parts_cover v w x pick fits left right point lies;
  trim = λ v pick cert fits lies. trim-keeps program v pick cert point lies lawful;
  some = λ v fits empty lies. (rows_sound program).empty_holds v fits empty point lies;
}

pub none-lost : NoneIsLost
none-lost program alone earned point image = lawful-kept program point image.lawful

-- ---- boxes of one point

-- the rows of a program settle a box by what its point is worth
pub rows-settle : (program : Program) → SettlesBy program (row_steps program).settle (worth_of program)
rows-settle program v point fits lies lawful = allows-one (IsIn v) (IsLawful program) (worth_of program) ((row_steps program).settle v) ((rows_sound program).settles v fits) point lies lawful

-- so do rows without choices
pub plain-settle : RowsSettle
unfolding row_steps
plain-settle program v point fits lies lawful = rows-settle program v point fits lies lawful

-- ---- certificates

cap_allows : (program : Program) (ds : List Domain) (cap : Capped) (point : List ℕ) → CapHolds program ds cap → LiesIn ds point → IsLawful program point → Allows cap (value_of program point)
cap_allows program ds (AtMost n) point holds lies lawful = holds point lies lawful.keeps
cap_allows program ds NoPoint point holds lies lawful = holds point lies lawful.keeps
cap_allows program ds Bad point holds lies lawful = tt

-- the cap of a certificate over a view
cert_allows : (program : Program) (v : View) (cert : Cert) (point : List ℕ) → IsIn v point → IsLawful program point → Allows ((row_steps program).cap v cert) (value_of program point)
unfolding row_steps
cert_allows program v cert point lies lawful = cap_allows program (domains_of v) (cert_cap program (domains_of v) cert) point (cert_cap-holds program (domains_of v) cert) lies lawful

-- ---- proofs

-- a view that fits, and in which a point lies
pub record Lies (program : Program) (point : List ℕ) (v : View) : Type 0 where
  pub fits : Fits program v
  pub lies : IsIn v point

-- a cut keeps a lawful point
pub cut-lies : (program : Program) (point : List ℕ) (v w : View) (cut : RowCut) → IsLawful program point → Lies program point v → (row_steps program).cut v cut ≡ Some w → Lies program point w
cut-lies program point v w cut lawful at is =
    record { fits = (rows_sound program).cut_fits v w cut at.fits is; lies = (lawful-kept program point lawful).cut v w cut at.fits is at.lies }

module _ (program : Program) (alone : List ℕ → ℤ) (settle : View → Capped) (sound : SettlesBy program settle alone) (earned : ℤ) (point : List ℕ) (image : IsImage program alone earned point) where
  -- what certificates and a single point give
  pub cert-allows : (v : View) (cert : Cert) → Lies program point v → Allows ((row_steps program).cap v cert) earned
  cert-allows v cert at = allows-less ((row_steps program).cap v cert) earned (value_of program point) image.value (cert_allows program v cert point at.lies image.lawful)

  empty-allows : (v : View) → Lies program point v → (empty : Bool) → (row_steps program).empty v ≡ empty → Allows (cond empty NoPoint Bad) earned
  empty-allows v at true is = (lawful-kept program point image.lawful).some v at.fits is at.lies
  empty-allows v at false is = tt

  -- the cap of a leaf
  pub leaf-allows : (v : View) (end : Leaf Cert) → Lies program point v → Allows (leaf_cap (settled_by program settle) v end) earned
  leaf-allows v no_point at = empty-allows v at ((row_steps program).empty v) refl
  leaf-allows v (dual cert) at = cert-allows v cert at
  leaf-allows v one_point at = allows-less (settle v) earned (alone point) image.said (sound v point at.fits at.lies image.lawful)
  leaf-allows v (pending cert) at = cert-allows v cert at

  -- a floor that is at least the image's value allows what the plan earns
  floor-allows : (floor : Option ℤ) → IsWithinFloor floor (value_of program point) → Allows (floor_cap floor) earned
  floor-allows None within = absurd within
  floor-allows (Some n) within = allows-less (AtMost n) earned (value_of program point) image.value within

  -- a split: the image lies in one of its parts, or is worth at most its floor
  pub split-allows : (v : View) (pick : RowPick) (cert : Cert) (first second : View → Capped) → Lies program point v → ((x : View) → Lies program point x → Allows (first x) earned) → ((x : View) → Lies program point x → Allows (second x) earned)
      → (x : Option View) → (row_steps program).left ((row_steps program).trim v pick cert) pick ≡ x → (y : Option View) → (row_steps program).right ((row_steps program).trim v pick cert) pick ≡ y
      → Allows (greater (greater (floor_cap ((row_steps program).floor v pick cert)) (cap_if x first)) (cap_if y second)) earned
  split-allows v pick cert first second at one other None left y right =
      let floor = floor_cap ((row_steps program).floor v pick cert) in
      allows-left (greater floor Bad) (cap_if y second) earned (allows-half floor earned)
  split-allows v pick cert first second at one other (Some x) left None right = allows-half (greater (floor_cap ((row_steps program).floor v pick cert)) (first x)) earned
  split-allows v pick cert first second at one other (Some x) left (Some y) right =
      let rest = (row_steps program).trim v pick cert in
      let floor = (row_steps program).floor v pick cert in
      let fits = (rows_sound program).trim_fits v pick cert at.fits in
      let kept = lawful-kept program point image.lawful in
      let on_left : Allows (greater (floor_cap floor) (first x)) earned → Allows (greater (greater (floor_cap floor) (first x)) (second y)) earned = allows-left (greater (floor_cap floor) (first x)) (second y) earned in
      ⊎_elim
      (λ (stays : IsIn rest point).
      ⊎_elim
      (λ (in' : IsIn x point). on_left (allows-right (floor_cap floor) (first x) earned (one x (record { fits = (rows_sound program).left_fits rest x pick fits left; lies = in' }))))
      (λ (in' : IsIn y point). allows-right (greater (floor_cap floor) (first x)) (second y) earned (other y (record { fits = (rows_sound program).right_fits rest y pick fits right; lies = in' })))
      (kept.parts rest x y pick fits left right stays))
      (λ (within : IsWithinFloor floor (value_of program point)). on_left (allows-left (floor_cap floor) (first x) earned (floor-allows floor within)))
      (kept.trim v pick cert at.fits at.lies)

  -- the cap of what stands after cuts
  cuts-allow : (cuts : List RowCut) (v : View) (cap_at : View → Capped) → Lies program point v → ((w : View) → Lies program point w → Allows (cap_at w) earned) → Allows (cap_if (after_cuts (settled_by program settle) v cuts) cap_at) earned
  cuts-allow [] v cap_at at each = each v at
  cuts-allow (cut ∷ cuts) v cap_at at each = first (λ w there. cuts-allow cuts w cap_at there each) ((row_steps program).cut v cut) refl
    where
      first : ((w : View) → Lies program point w → Allows (cap_if (after_cuts (settled_by program settle) w cuts) cap_at) earned) → (next : Option View) → (row_steps program).cut v cut ≡ next
          → Allows (cap_if (option_and_then (λ w. after_cuts (settled_by program settle) w cuts) next) cap_at) earned
      first rest None is = tt
      first rest (Some w) is = rest w (cut-lies program point v w cut image.lawful at is)

  -- the cap of a proof allows what the plan of the image earns
  pub tree-allows : (tree : RowTree) (v : View) → Lies program point v → Allows (tree_cap (settled_by program settle) v tree) earned
  tree-allows (leaf cuts found end) v at = cuts-allow cuts v (λ w. leaf_cap (settled_by program settle) w end) at (λ w there. leaf-allows w end there)
  tree-allows (split cuts found pick cert a b) v at =
      cuts-allow cuts v
      (λ w. split_cap (settled_by program settle) w pick cert (λ x. tree_cap (settled_by program settle) x a) (λ x. tree_cap (settled_by program settle) x b)) at
      (λ w there. split-allows w pick cert (λ x. tree_cap (settled_by program settle) x a) (λ x. tree_cap (settled_by program settle) x b) there (tree-allows a) (tree-allows b)
      ((row_steps program).left ((row_steps program).trim w pick cert) pick) refl ((row_steps program).right ((row_steps program).trim w pick cert) pick) refl)

-- a lawful point lies in the view of the root
pub root-lies : (program : Program) (point : List ℕ) → IsLawful program point → IsIn (view_of program.root) point
root-lies program point lawful = subst (λ (ds : List Domain). LiesIn ds point) (sym (domains_of-view_of program.root)) lawful.lies

-- and the view fits
pub root-image : (program : Program) (point : List ℕ) → IsLawful program point → Lies program point (view_of program.root)
root-image program point lawful = record { fits = fits_of program program.root refl program.root_normal; lies = root-lies program point lawful }

-- the cap of a proof over a relaxation allows what each admitted plan earns
pub tree-caps : {X : Type 0} (admits : X → Type 0) (earned : X → ℤ) (program : Program) (alone : List ℕ → ℤ) (settle : View → Capped) → SettlesBy program settle alone → IsRelaxation admits earned program alone
    → (tree : RowTree) → Caps admits earned (tree_cap (settled_by program settle) (view_of program.root) tree)
tree-caps admits earned program alone settle sound is tree plan admitted =
    let image = is.is plan admitted in
    tree-allows program alone settle sound (earned plan) (is.image plan) image tree (view_of program.root) (root-image program (is.image plan) image.lawful)
