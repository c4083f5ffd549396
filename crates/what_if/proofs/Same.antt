-- The loose cap is always defined, and is the proof's own cap where that is.
use Rattle.std.proofs.Common.{◌≡◌, ◌≢◌, ℕ, ◌≤◌, Bool, true, false, ◌&&◌, not, cond, ltb, List, [], ◌∷◌, length, Option, Some, None, option_and_then, ℤ, refl, sym, ap, ◌∙◌, subst, arith}
use Rattle.std.specs.Prelude.{unwrap_or}
use Rattle.std.specs.List.{list_all, list_any}
use Rattle.std.proofs.lemmas.Bool.{eq-eqb, eqb-true}
use Rattle.std.proofs.lemmas.List.Folds.{Any-from_list_any, list_any-from_Any}
use Rattle.row_kit.specs.declared.domain.Domain.{Domain}
use Rattle.row_kit.specs.declared.program.Program.{Program}
use Rattle.row_kit.specs.Domain.{count_of}
use Rattle.range_prop.specs.declared.row_cut.RowCut.{RowCut}
use Rattle.range_prop.specs.Cut.{is_bare}
use Rattle.dual_bound.specs.declared.cert.Cert.{Cert}
use Rattle.dual_bound.specs.Cap.{cert_cap, scaled_cap}
use Rattle.dual_bound.specs.Total.{is_fit, total_of}
use Rattle.dual_bound.proofs.Fit.{open_decides}
use Rattle.proof_tree.specs.declared.capped.Capped.{Capped}
use Rattle.proof_tree.specs.declared.capped.Capped.TheVariants.{AtMost, NoPoint, Bad}
use Rattle.proof_tree.specs.Cap.{greater, floor_cap}
use Rattle.proof_tree.specs.Tree.{Leaf, no_point, dual, one_point, pending, leaf, split, after_cuts, cap_if, leaf_cap, split_cap, tree_cap}
use Rattle.proof_tree.specs.Views.{View}
use Rattle.row_relax.specs.declared.pick.RowPick.{RowPick}
use Rattle.row_relax.specs.declared.rows.Rows.{Rows}
use Rattle.row_relax.specs.Choices.{plain, steps_of}
use Rattle.row_relax.specs.RowProofs.{RowTree}
use Rattle.row_relax.specs.Steps.{floor_by, row_steps}
use Rattle.row_relax.specs.View.{Fits, domains_of, points_in}
use Rattle.row_relax.specs.laws.Laws.{rows_sound}
use Rattle.row_relax.proofs.PointCounts.{points-cut, points-empty, points-left, points-right, points-settled, points-some, points-trim}
use Rattle.what_if.specs.Loose.{after_all, loose_cap, loosened, no_mults, or_else, within}

at_most_none : (a b : ℕ) → a ≤ b → b ≡ 0 → a ≡ 0
at_most_none a b h e = omega (arith, h, e)

-- each domain has a value, or some has none
open_all : (ds : List Domain) → not (list_any is_bare ds) ≡ list_all (λ d. ltb 0 (count_of d)) ds
open_all ds =
    open_decides (list_any is_bare ds) ds
    (λ e. let bare = Any-from_list_any is_bare ds e in (bare.0, bare.1, bare.2, bare.3, eqb-true (count_of bare.1) 0 bare.4))
    (λ any. list_any-from_Any is_bare ds (any.0, any.1, any.2, any.3, eq-eqb (count_of any.1) 0 any.4))

-- a certificate gives no cap over an empty domain
cert_cap-empty : (program : Program) (ds : List Domain) (cert : Cert) → list_any is_bare ds ≡ true → cert_cap program ds cert ≡ Bad
cert_cap-empty program ds cert e =
    let none : list_all (λ d. ltb 0 (count_of d)) ds ≡ false = sym (open_all ds) ∙ ap not e in
    by_fit (is_fit (length program.rows) cert) (list_all (λ d. ltb 0 (count_of d)) ds) none
  where
    by_fit : (fit all : Bool) → all ≡ false → scaled_cap cert.scale (cond (fit && all) (Some (total_of program ds cert)) None) ≡ Bad
    by_fit true all e = rw e refl
    by_fit false all e = refl

-- nor does it forget anything there
floor_by-empty : (program : Program) (ds : List Domain) (cert : Cert) (floor : Option ℤ) → list_any is_bare ds ≡ true → floor_by program ds cert floor ≡ None
floor_by-empty program ds cert None e = refl
floor_by-empty program ds cert (Some floor) e =
    let none : list_all (λ d. ltb 0 (count_of d)) ds ≡ false = sym (open_all ds) ∙ ap not e in
    by_fit (is_fit (length program.rows) cert) (list_all (λ d. ltb 0 (count_of d)) ds) none
  where
    by_fit : (fit all : Bool) → all ≡ false → cond (fit && all) (Some floor) None ≡ None
    by_fit true all e = rw e refl
    by_fit false all e = refl

-- scale 1 without multipliers gives one over all others
plain-defined : (program : Program) (v : View) → (row_steps program).empty v ≡ false → (row_steps program).cap v no_mults ≢ Bad
unfolding row_steps
plain-defined program v e = by_open (list_all (λ d. ltb 0 (count_of d)) ds) (sym (open_all ds) ∙ ap not e)
  where
    ds : List Domain
    ds = domains_of v

    by_open : (all : Bool) → all ≡ true → scaled_cap 1 (cond all (Some (total_of program ds no_mults)) None) ≢ Bad
    by_open true e = λ is. cc
    by_open false e = λ is. cc

or_else-defined : (own other : Capped) → other ≢ Bad → or_else own other ≢ Bad
or_else-defined Bad other is = is
or_else-defined NoPoint other is = λ e. cc
or_else-defined (AtMost n) other is = λ e. cc

-- what an end gives is defined
loosened-defined : (program : Program) (v : View) (own : Capped) → loosened program v own ≢ Bad
loosened-defined program v own = by_empty ((row_steps program).empty v) refl
  where
    by_empty : (empty : Bool) → (row_steps program).empty v ≡ empty → cond empty NoPoint (or_else own ((row_steps program).cap v no_mults)) ≢ Bad
    by_empty true e = λ is. cc
    by_empty false e = or_else-defined own ((row_steps program).cap v no_mults) (plain-defined program v e)

-- the loose cap is defined
pub loose_cap-defined : (capped : Bool) (rows : Rows) (tree : RowTree) (v : View) → loose_cap capped rows v tree ≢ Bad
loose_cap-defined capped rows (leaf cuts found end) v = loosened-defined rows.program (after_all rows.program v cuts) (leaf_cap (steps_of rows) (after_all rows.program v cuts) end)
loose_cap-defined capped rows (split cuts found pick cert a b) v =
    let w = after_all rows.program v cuts in
    loosened-defined rows.program w (within capped rows.program w cert (split_cap (steps_of rows) w pick cert (λ x. loose_cap capped rows x a) (λ x. loose_cap capped rows x b)))

-- ---- where the proof's own cap is defined

-- a defined cap stays what it is
or_else-own : (own other : Capped) → own ≢ Bad → or_else own other ≡ own
or_else-own Bad other is = absurd (is refl)
or_else-own NoPoint other is = refl
or_else-own (AtMost n) other is = refl

loosened-own : (program : Program) (v : View) (own : Capped) → own ≢ Bad → ((row_steps program).empty v ≡ true → own ≡ NoPoint) → loosened program v own ≡ own
loosened-own program v own is none = by_empty ((row_steps program).empty v) refl
  where
    by_empty : (empty : Bool) → (row_steps program).empty v ≡ empty → cond empty NoPoint (or_else own ((row_steps program).cap v no_mults)) ≡ own
    by_empty true e = sym (none e)
    by_empty false e = or_else-own own ((row_steps program).cap v no_mults) is

-- the greater of two caps is defined where both are, and there is no point where neither has one
pub greater-first : (a b : Capped) → greater a b ≢ Bad → a ≢ Bad
greater-first Bad b is = is
greater-first NoPoint b is = λ e. cc
greater-first (AtMost n) b is = λ e. cc

pub greater-second : (a b : Capped) → greater a b ≢ Bad → b ≢ Bad
greater-second Bad b is = absurd (is refl)
greater-second NoPoint b is = is
greater-second (AtMost m) Bad is = is
greater-second (AtMost m) NoPoint is = λ e. cc
greater-second (AtMost m) (AtMost n) is = λ e. cc

greater-none : (a b : Capped) → a ≡ NoPoint → b ≡ NoPoint → greater a b ≡ NoPoint
greater-none a b first second = rw (first, second) refl

-- a view that is there
pub cap_if-there : (next : Option View) (cap_at : View → Capped) → cap_if next cap_at ≢ Bad → (w : View) × (next ≡ Some w)
cap_if-there None cap_at is = absurd (is refl)
cap_if-there (Some w) cap_at is = (w, refl)

-- the views after cuts that are all there
first_cut : (rows : Rows) (cut : RowCut) (cuts : List RowCut) (v w : View) (next : Option View) → (row_steps rows.program).cut v cut ≡ next → option_and_then (λ x. after_cuts (steps_of rows) x cuts) next ≡ Some w
    → (x : View) × (((row_steps rows.program).cut v cut ≡ Some x) × (after_cuts (steps_of rows) x cuts ≡ Some w))
first_cut rows cut cuts v w None is led = absurd (cc)
first_cut rows cut cuts v w (Some x) is led = (x, (is, led))

pub after_all-same : (rows : Rows) (cuts : List RowCut) (v w : View) → Fits rows.program v → after_cuts (steps_of rows) v cuts ≡ Some w → (after_all rows.program v cuts ≡ w) × Fits rows.program w
after_all-same rows [] v w fit led = let same : v ≡ w = cc in (same, subst (Fits rows.program) same fit)
after_all-same rows (cut ∷ cuts) v w fit led =
    let first = first_cut rows cut cuts v w ((row_steps rows.program).cut v cut) refl led in
    let rest = after_all-same rows cuts first.0 w ((rows_sound rows.program).cut_fits v first.0 cut fit first.1.0) first.1.1 in
    (ap (λ x. after_all rows.program (unwrap_or x v) cuts) first.1.0 ∙ rest.0, rest.1)

-- ---- rows without choices

module _ (program : Program) where
  -- a view that fits, and that has no point
  record IsNone (v : View) : Type 0 where
    fits : Fits program v
    none : points_in v ≡ 0

  -- cuts leave a view without points without any
  after_cuts-none : (cuts : List RowCut) (v w : View) → IsNone v → after_cuts (steps_of (plain program)) v cuts ≡ Some w → IsNone w
  after_cuts-none [] v w is led = let same : v ≡ w = cc in subst IsNone same is
  after_cuts-none (cut ∷ cuts) v w is led =
      let first = first_cut (plain program) cut cuts v w ((row_steps program).cut v cut) refl led in
      after_cuts-none cuts first.0 w (record {
        fits = (rows_sound program).cut_fits v first.0 cut is.fits first.1.0;
        none = at_most_none (points_in first.0) (points_in v) (points-cut program v first.0 cut is.fits first.1.0) is.none;
      }) first.1.1

  -- a view without points has an empty domain
  empty-none : (v : View) → points_in v ≡ 0 → (row_steps program).empty v ≡ true
  empty-none v none = by_empty ((row_steps program).empty v) refl
    where
      by_empty : (empty : Bool) → (row_steps program).empty v ≡ empty → empty ≡ true
      by_empty true e = refl
      by_empty false e = absurd (let some = points-some program v e in omega (arith, some, none))

  cap-none : (v : View) (cert : Cert) → points_in v ≡ 0 → (row_steps program).cap v cert ≡ Bad
  unfolding row_steps
  cap-none v cert none = cert_cap-empty program (domains_of v) cert (empty-none v none)

  -- nothing is forgotten of a view without points
  floor-none : (v : View) (pick : RowPick) (cert : Cert) → points_in v ≡ 0 → floor_cap ((row_steps program).floor v pick cert) ≡ NoPoint
  unfolding row_steps
  floor-none v pick cert none = ap floor_cap (floor_by-empty program (domains_of v) cert pick.floor (empty-none v none))

  -- and it stays without any
  trim-none : (v : View) (pick : RowPick) (cert : Cert) → IsNone v → IsNone ((row_steps program).trim v pick cert)
  trim-none v pick cert is = record {
    fits = (rows_sound program).trim_fits v pick cert is.fits;
    none = at_most_none (points_in ((row_steps program).trim v pick cert)) (points_in v) (points-trim program v pick cert is.fits) is.none;
  }

  -- a leaf over a view without points has no point, where it has a cap
  leaf_cap-none : (v : View) (end : Leaf Cert) → points_in v ≡ 0 → leaf_cap (steps_of (plain program)) v end ≢ Bad → leaf_cap (steps_of (plain program)) v end ≡ NoPoint
  unfolding row_steps
  leaf_cap-none v no_point none is = rw (empty-none v none) refl
  leaf_cap-none v (dual cert) none is = absurd (is (cap-none v cert none))
  leaf_cap-none v one_point none is = absurd (let one = points-settled program v is in omega (arith, one, none))
  leaf_cap-none v (pending cert) none is = absurd (is (cap-none v cert none))

  -- a part of a view without points
  part-none : (next : Option View) (cap_at : View → Capped) → ((x : View) → next ≡ Some x → cap_at x ≢ Bad → cap_at x ≡ NoPoint) → cap_if next cap_at ≢ Bad → cap_if next cap_at ≡ NoPoint
  part-none None cap_at none is = absurd (is refl)
  part-none (Some x) cap_at none is = none x refl is

  -- a proof over a view without points has no point, where it has a cap
  tree_cap-none : (tree : RowTree) (v : View) → IsNone v → tree_cap (steps_of (plain program)) v tree ≢ Bad → tree_cap (steps_of (plain program)) v tree ≡ NoPoint
  tree_cap-none (leaf cuts found end) v at =
      part-none (after_cuts (steps_of (plain program)) v cuts) (λ w. leaf_cap (steps_of (plain program)) w end)
      (λ w led. leaf_cap-none w end (after_cuts-none cuts v w at led).none)
  tree_cap-none (split cuts found pick cert a b) v at =
      part-none (after_cuts (steps_of (plain program)) v cuts) (λ w. split_cap (steps_of (plain program)) w pick cert (λ x. tree_cap (steps_of (plain program)) x a) (λ x. tree_cap (steps_of (plain program)) x b))
      (λ w led is.
      let rest = (row_steps program).trim w pick cert in
      let there = after_cuts-none cuts v w at led in
      let still = trim-none w pick cert there in
      let floor = floor_cap ((row_steps program).floor w pick cert) in
      let first = cap_if ((row_steps program).left rest pick) (λ x. tree_cap (steps_of (plain program)) x a) in
      let second = cap_if ((row_steps program).right rest pick) (λ x. tree_cap (steps_of (plain program)) x b) in
      greater-none (greater floor first) second
      (greater-none floor first (floor-none w pick cert there.none)
      (part-none ((row_steps program).left rest pick) (λ x. tree_cap (steps_of (plain program)) x a) (λ x to. tree_cap-none a x (record {
        fits = (rows_sound program).left_fits rest x pick still.fits to;
        none = at_most_none (points_in x) (points_in rest) (points-left program rest x pick to) still.none;
      })) (greater-second floor first (greater-first (greater floor first) second is))))
      (part-none ((row_steps program).right rest pick) (λ x. tree_cap (steps_of (plain program)) x b) (λ x to. tree_cap-none b x (record {
        fits = (rows_sound program).right_fits rest x pick still.fits to;
        none = at_most_none (points_in x) (points_in rest) (points-right program rest x pick to) still.none;
      })) (greater-second (greater floor first) second is)))

  -- what an end gives where its own cap is defined
  part-same : (next : Option View) (loose own : View → Capped) → ((x : View) → next ≡ Some x → own x ≢ Bad → loose x ≡ own x) → cap_if next own ≢ Bad → cap_if next loose ≡ cap_if next own
  part-same None loose own same is = absurd (is refl)
  part-same (Some x) loose own same is = same x refl is

-- the loose cap is the proof's own, where that is defined and splits have no caps of their own
pub loose_cap-same : (program : Program) (tree : RowTree) (v : View) → Fits program v → tree_cap (steps_of (plain program)) v tree ≢ Bad → loose_cap false (plain program) v tree ≡ tree_cap (steps_of (plain program)) v tree
loose_cap-same program (leaf cuts found end) v fit is =
    let s = steps_of (plain program) in
    let there = cap_if-there (after_cuts s v cuts) (λ w. leaf_cap s w end) is in
    let w = there.0 in
    let own : tree_cap s v (leaf cuts found end) ≡ leaf_cap s w end = ap (λ x. cap_if x (λ y. leaf_cap s y end)) there.1 in
    let at = after_all-same (plain program) cuts v w fit there.1 in
    let defined : leaf_cap s w end ≢ Bad = λ e. is (own ∙ e) in
    ap (λ x. loosened program x (leaf_cap s x end)) at.0
    ∙ loosened-own program w (leaf_cap s w end) defined (λ e. leaf_cap-none program w end (points-empty program w e) defined)
    ∙ sym own
loose_cap-same program (split cuts found pick cert a b) v fit is =
    let s = steps_of (plain program) in
    let loose_parts : View → Capped = λ w. split_cap s w pick cert (λ x. loose_cap false (plain program) x a) (λ x. loose_cap false (plain program) x b) in
    let own_parts : View → Capped = λ w. split_cap s w pick cert (λ x. tree_cap s x a) (λ x. tree_cap s x b) in
    let there = cap_if-there (after_cuts s v cuts) own_parts is in
    let w = there.0 in
    let own : tree_cap s v (split cuts found pick cert a b) ≡ own_parts w = ap (λ x. cap_if x own_parts) there.1 in
    let at = after_all-same (plain program) cuts v w fit there.1 in
    let defined : own_parts w ≢ Bad = λ e. is (own ∙ e) in
    let rest = s.trim w pick cert in
    let rest_fits = (rows_sound program).trim_fits w pick cert at.1 in
    let floor = floor_cap (s.floor w pick cert) in
    let first = cap_if (s.left rest pick) (λ x. tree_cap s x a) in
    let second = cap_if (s.right rest pick) (λ x. tree_cap s x b) in
    let left_same = part-same program (s.left rest pick) (λ x. loose_cap false (plain program) x a) (λ x. tree_cap s x a) (λ x to. loose_cap-same program a x ((rows_sound program).left_fits rest x pick rest_fits to)) (greater-second floor first (greater-first (greater floor first) second defined)) in
    let right_same = part-same program (s.right rest pick) (λ x. loose_cap false (plain program) x b) (λ x. tree_cap s x b) (λ x to. loose_cap-same program b x ((rows_sound program).right_fits rest x pick rest_fits to)) (greater-second (greater floor first) second defined) in
    let same : loose_parts w ≡ own_parts w = ap (λ x. greater (greater floor x) (cap_if (s.right rest pick) (λ y. loose_cap false (plain program) y b))) left_same ∙ ap (λ x. greater (greater floor first) x) right_same in
    let empty_none : s.empty w ≡ true → own_parts w ≡ NoPoint = λ e. tree_cap-none program (split [] None pick cert a b) w (record { fits = at.1; none = points-empty program w e }) defined in
    ap (λ x. loosened program x (loose_parts x)) at.0
    ∙ ap (λ x. loosened program w x) same
    ∙ loosened-own program w (own_parts w) defined empty_none
    ∙ sym own
