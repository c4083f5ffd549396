-- How many points the steps leave: a cut or a floor never adds one, and the two parts of a split share out those of the whole.
use Rattle.std.proofs.Common.{◌≡◌, ◌+◌, ◌<◌, ◌≤◌, Bool, true, false, ◌&&◌, cond, eqb, ltb, List, length, get_or, refl, sym, ap, ◌∙◌, subst, arith, Option, Some, None, ⊎_elim, ℤ}
use Rattle.std.specs.List.{Any, list_any}
use Rattle.std.proofs.lemmas.Bool.{and_parts, cases_eq, eq-eqb, eqb-true, false≢true, ltb-true}
use Rattle.std.proofs.lemmas.List.Folds.{Any-from_list_any, list_any-from_Any}
use Rattle.std.proofs.lemmas.List.Sums.{AllPass-from_list_all}
use Rattle.row_kit.specs.declared.domain.Domain.{Domain}
use Rattle.row_kit.specs.declared.program.Program.{Program}
use Rattle.row_kit.specs.Domain.{IsBare, count_of, no_values, over, up_to}
use Rattle.row_kit.specs.Point.{worth_of}
use Rattle.row_kit.specs.Points.{kept_at, points_of}
use Rattle.row_kit.specs.Row.{row_at}
use Rattle.row_kit.proofs.PointCounts.{points-any_bare, points-none, points-single, points-kept_le, points-split}
use Rattle.range_prop.specs.declared.row_cut.RowCut.{RowCut}
use Rattle.range_prop.specs.Cut.{cut_domains, is_bare}
use Rattle.range_prop.proofs.CutLaws.{cut_points}
use Rattle.dual_bound.specs.declared.cert.Cert.{Cert}
use Rattle.dual_bound.specs.Trimmed.{trimmed}
use Rattle.dual_bound.proofs.Floors.{trimmed_fewer}
use Rattle.proof_tree.specs.declared.capped.Capped.TheVariants.{AtMost, NoPoint, Bad}
use Rattle.proof_tree.specs.Views.{View}
use Rattle.row_relax.specs.declared.pick.RowPick.{RowPick}
use Rattle.row_relax.specs.Settle.{are_single, is_lawful, only_point, settled}
use Rattle.row_relax.specs.Steps.{row_steps, view_by}
use Rattle.row_relax.specs.View.{Fits, domains_of, points_in}
use Rattle.row_relax.specs.laws.Shown.{domains_of-view_of, domains_there, shown_there}

-- a cut adds no point
pub points-cut : (program : Program) (v w : View) (cut : RowCut) → Fits program v → (row_steps program).cut v cut ≡ Some w → points_in w ≤ points_in v
unfolding row_steps
points-cut program v w cut fit is =
    let ds = domains_of v in
    let row = row_at program.rows cut.row in
    let there = ltb cut.row (length program.rows) && ltb cut.slot (length ds) in
    let parts = and_parts (ltb cut.row (length program.rows)) (ltb cut.slot (length ds)) (shown_there there (cut_domains row cut.slot ds) w is).0 in
    let lt : cut.slot < length ds = ltb-true cut.slot (length ds) parts.1 in
    subst (λ (xs : List Domain). points_of xs ≤ points_of ds) (sym (domains_there there (cut_domains row cut.slot ds) w is)) (cut_points row cut.slot ds (fit.normal cut.slot no_values lt))

-- neither does taking a part of a split
pub points-left : (program : Program) (v w : View) (pick : RowPick) → (row_steps program).left v pick ≡ Some w → points_in w ≤ points_in v
unfolding row_steps
points-left program v w pick is =
    let ds = domains_of v in
    subst (λ (xs : List Domain). points_of xs ≤ points_of ds) (sym (domains_there (ltb pick.slot (length ds)) (kept_at ds pick.slot (up_to pick.max)) w is)) (points-kept_le ds pick.slot (up_to pick.max))

pub points-right : (program : Program) (v w : View) (pick : RowPick) → (row_steps program).right v pick ≡ Some w → points_in w ≤ points_in v
unfolding row_steps
points-right program v w pick is =
    let ds = domains_of v in
    subst (λ (xs : List Domain). points_of xs ≤ points_of ds) (sym (domains_there (ltb pick.slot (length ds)) (kept_at ds pick.slot (over pick.max)) w is)) (points-kept_le ds pick.slot (over pick.max))

-- nor does what a split forgets
pub points-trim : (program : Program) (v : View) (pick : RowPick) (cert : Cert) → Fits program v → points_in ((row_steps program).trim v pick cert) ≤ points_in v
unfolding row_steps
points-trim program v pick cert fit = by_floor pick.floor
  where
    by_floor : (floor : Option ℤ) → points_in (view_by program v cert floor) ≤ points_in v
    by_floor None = omega arith
    by_floor (Some floor) =
        subst (λ (xs : List Domain). points_of xs ≤ points_of (domains_of v)) (sym (domains_of-view_of (trimmed program (domains_of v) cert floor)))
        (trimmed_fewer program (domains_of v) cert floor fit.normal)

-- the points of the two parts of a split sum to those of the whole
pub points-both : (program : Program) (v left right : View) (pick : RowPick) → Fits program v → (row_steps program).left v pick ≡ Some left → (row_steps program).right v pick ≡ Some right → points_in left + points_in right ≡ points_in v
unfolding row_steps
points-both program v left right pick fit to_left to_right =
    let ds = domains_of v in
    let there = ltb pick.slot (length ds) in
    let low = kept_at ds pick.slot (up_to pick.max) in
    let high = kept_at ds pick.slot (over pick.max) in
    let lt : pick.slot < length ds = ltb-true pick.slot (length ds) (shown_there there low left to_left).0 in
    ap (λ (xs : List Domain). points_of xs + points_in right) (domains_there there low left to_left)
    ∙ ap (λ (xs : List Domain). points_of low + points_of xs) (domains_there there high right to_right)
    ∙ points-split ds pick.slot pick.max (fit.normal pick.slot no_values lt) lt

-- a view has no point where some domain is empty
pub points-empty : (program : Program) (v : View) → (row_steps program).empty v ≡ true → points_in v ≡ 0
unfolding row_steps
points-empty program v is =
    let ds = domains_of v in
    let bare = Any-from_list_any is_bare ds is in
    points-any_bare ds (bare.0, bare.1, bare.2, bare.3, eqb-true (count_of bare.1) 0 bare.4)

-- and has some where none is
pub points-some : (program : Program) (v : View) → (row_steps program).empty v ≡ false → 0 < points_in v
unfolding row_steps
points-some program v is =
    let ds = domains_of v in
    ⊎_elim
    (λ (none : points_of ds ≡ 0). absurd (refuted ds (points-none ds none) is))
    (λ (some : points_of ds ≡ 0 → ⊥). omega (arith, some))
    (cases_eq (points_of ds) 0)
  where
    refuted : (ds : List Domain) → Any IsBare ds → list_any is_bare ds ≡ false → ⊥
    refuted ds any none = false≢true (sym none ∙ list_any-from_Any is_bare ds (any.0, any.1, any.2, any.3, eq-eqb (count_of any.1) 0 any.4))

-- a view whose only point is settled has one
pub points-settled : (program : Program) (v : View) → ((row_steps program).settle v ≡ Bad → ⊥) → points_in v ≡ 1
unfolding row_steps settled
points-settled program v some = by_single (are_single ds) refl some
  where
    ds : List Domain
    ds = domains_of v

    by_single : (s : Bool) → are_single ds ≡ s → (cond s (cond (is_lawful program (only_point ds)) (AtMost (worth_of program (only_point ds))) NoPoint) Bad ≡ Bad → ⊥) → points_of ds ≡ 1
    by_single true e other = points-single ds (λ k d lt. eqb-true (count_of (get_or ds k d)) 1 (AllPass-from_list_all (λ (d : Domain). eqb (count_of d) 1) ds e k d lt))
    by_single false e other = absurd (other refl)
