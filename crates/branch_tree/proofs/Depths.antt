-- How many splits can stand one below another: a cut adds none, and each part of a split has one less.
use Rattle.std.proofs.Common.{◌≡◌, ℕ, ◌+◌, ◌-◌, ◌*◌, ◌<◌, ◌≤◌, Bool, true, false, ◌&&◌, cond, leb, ltb, List, [], ◌∷◌, length, set, take, refl, sym, ap, subst, arith, Option, Some, None}
use Rattle.std.specs.Prelude.{option_and_then}
use Rattle.std.specs.List.{All, sum_by}
use Rattle.std.proofs.lemmas.Bool.{and_parts, ltb-true}
use Rattle.std.proofs.lemmas.Bool.Decides.{nat_tests}
use Rattle.std.proofs.lemmas.List.Sums.{sum_by-cons, sum_by-set}
use Rattle.std.proofs.lemmas.List.{get_or-set_same, length-set, length-take-le}
use Rattle.row_kit.specs.declared.domain.Domain.{Domain}
use Rattle.row_kit.specs.declared.program.Program.{Program}
use Rattle.row_kit.specs.Domain.{Holds, IsNormal, IsOpen, count_of, domain_at, no_values, over, shared, up_to}
use Rattle.row_kit.specs.Point.{IsLawful}
use Rattle.row_kit.specs.Row.{row_at}
use Rattle.range_prop.specs.declared.row_cut.RowCut.{RowCut}
use Rattle.range_prop.specs.Cut.{cut_domain, cut_domains}
use Rattle.range_prop.proofs.CutLaws.{cut_normal, cut_within}
use Rattle.proof_tree.specs.Tree.{after_cuts}
use Rattle.proof_tree.specs.Views.{View}
use Rattle.row_relax.specs.declared.pick.RowPick.{RowPick}
use Rattle.row_relax.specs.Steps.{kept_at, row_steps}
use Rattle.row_relax.specs.View.{Fits, IsIn, domains_of, points_in, view_of}
use Rattle.row_relax.specs.laws.Laws.{rows_sound}
use Rattle.row_relax.specs.laws.Shown.{domains_of-view_of, domains_there, shown_there}
use Rattle.row_relax.proofs.PointCounts.{points-cut}
use Rattle.row_relax.specs.declared.rows.Rows.{Rows}
use Rattle.row_relax.specs.Choices.{steps_of}
use Rattle.branch_tree.specs.Justified.{IsParted}
use Rattle.branch_tree.specs.Searched.{IsSearchable, spared}
use Rattle.branch_tree.specs.Splits.{halvings, splits_of, step_at}
use Rattle.branch_tree.specs.laws.Ends.{view_splits}

-- a step is counted where a lesser one is
step_le : (a b k n : ℕ) → (a < k → b < n) → step_at a k ≤ step_at b n
step_le a b k n more = at (ltb a k) (ltb b n) refl refl
  where
    at : (s t : Bool) → ltb a k ≡ s → ltb b n ≡ t → cond s 1 0 ≤ cond t 1 0
    at false t e h = omega arith
    at true true e h = omega arith
    at true false e h = let less : b < n = more (ltb-true a k e) in absurd (grind (arith, nat_tests))

step_one : (a k : ℕ) → step_at a k ≤ 1
step_one a k = at (ltb a k)
  where
    at : (s : Bool) → cond s 1 0 ≤ 1
    at true = omega arith
    at false = omega arith

-- fewer values can be halved no more often
halvings_le : (k n : ℕ) → k ≤ n → halvings k ≤ halvings n
halvings_le k n low =
    omega (
      arith,
      step_le 1 1 k n (λ h. omega arith),
      step_le 2 2 k n (λ h. omega arith),
      step_le 4 4 k n (λ h. omega arith),
      step_le 8 8 k n (λ h. omega arith),
      step_le 16 16 k n (λ h. omega arith),
      step_le 32 32 k n (λ h. omega arith),
      step_le 64 64 k n (λ h. omega arith),
      step_le 128 128 k n (λ h. omega arith),
    )

halvings_most : (n : ℕ) → halvings n ≤ 8
halvings_most n =
    omega (arith, step_one 1 n, step_one 2 n, step_one 4 n, step_one 8 n, step_one 16 n, step_one 32 n, step_one 64 n, step_one 128 n)

-- a domain whose values are all another's can be split no more often
pub splits_le : (e d : Domain) → IsNormal e → ((v : ℕ) → Holds e v → Holds d v) → splits_of e ≤ splits_of d
splits_le e d n within = at e.zero (leb e.lo e.hi) refl refl
  where
    -- its range lies in the other's
    some : e.lo ≤ e.hi → (d.lo ≤ e.lo) × (e.hi ≤ d.hi)
    some least =
        let positive : 1 ≤ e.lo = n.positive in
        let low = within e.lo (record { at_zero = λ z. absurd (omega arith); above_zero = λ _. (omega arith, least) }) in
        let high = within e.hi (record { at_zero = λ z. absurd (omega arith); above_zero = λ _. (least, omega arith) }) in
        let p : 0 < e.lo = omega arith in
        let q : 0 < e.hi = omega arith in
        ((low.above_zero p).0, (high.above_zero q).1)

    zero_too : e.zero ≡ true → d.zero ≡ true
    zero_too is = (within 0 (record { at_zero = λ _. is; above_zero = λ p. absurd (omega arith) })).at_zero refl

    at : (z t : Bool) → e.zero ≡ z → leb e.lo e.hi ≡ t → cond (z && t) 1 0 + halvings (e.hi + 1 - e.lo) ≤ splits_of d
    at z false is none =
        let less : e.hi + 1 - e.lo ≤ d.hi + 1 - d.lo = grind (arith, nat_tests) in
        none_left z (halvings_le (e.hi + 1 - e.lo) (d.hi + 1 - d.lo) less)
      where
        none_left : (z : Bool) → halvings (e.hi + 1 - e.lo) ≤ halvings (d.hi + 1 - d.lo) → cond (z && false) 1 0 + halvings (e.hi + 1 - e.lo) ≤ splits_of d
        none_left true less = omega (arith, less)
        none_left false less = omega (arith, less)
    at true true is there =
        let least : e.lo ≤ e.hi = grind (arith, nat_tests) in
        let range = some least in
        let fewer = halvings_le (e.hi + 1 - e.lo) (d.hi + 1 - d.lo) (omega (arith, range.0, range.1)) in
        whole d.zero (leb d.lo d.hi) (zero_too is) (let in' : d.lo ≤ d.hi = omega (arith, range.0, range.1, least) in grind (arith, nat_tests)) fewer
      where
        whole : (z t : Bool) → z ≡ true → t ≡ true → halvings (e.hi + 1 - e.lo) ≤ halvings (d.hi + 1 - d.lo) → 1 + halvings (e.hi + 1 - e.lo) ≤ cond (z && t) 1 0 + halvings (d.hi + 1 - d.lo)
        whole true true a b less = omega (arith, less)
        whole false t a b less = cc
        whole true false a b less = cc
    at false true is there =
        let least : e.lo ≤ e.hi = grind (arith, nat_tests) in
        let range = some least in
        let fewer = halvings_le (e.hi + 1 - e.lo) (d.hi + 1 - d.lo) (omega (arith, range.0, range.1)) in
        omega (arith, fewer)

-- giving a slot such a domain adds no splits to all
sum_le : (ds : List Domain) (slot : ℕ) (e : Domain) → slot < length ds → splits_of e ≤ splits_of (domain_at ds slot) → sum_by splits_of (set ds slot e) ≤ sum_by splits_of ds
sum_le ds slot e less fewer = omega (arith, sum_by-set splits_of ds slot e no_values less, fewer)

sum_less : (ds : List Domain) (slot : ℕ) (e : Domain) → slot < length ds → splits_of e < splits_of (domain_at ds slot) → sum_by splits_of (set ds slot e) + 1 ≤ sum_by splits_of ds
sum_less ds slot e less fewer = omega (arith, sum_by-set splits_of ds slot e no_values less, fewer)

-- a cut adds no splits
pub splits-cut : (program : Program) (v w : View) (cut : RowCut) → Fits program v → (row_steps program).cut v cut ≡ Some w → view_splits w ≤ view_splits v
unfolding row_steps
splits-cut program v w cut fit is =
    let ds = domains_of v in
    let row = row_at program.rows cut.row in
    let there = ltb cut.row (length program.rows) && ltb cut.slot (length ds) in
    let lt : cut.slot < length ds = ltb-true cut.slot (length ds) (and_parts (ltb cut.row (length program.rows)) (ltb cut.slot (length ds)) (shown_there there (cut_domains row cut.slot ds) w is).0).1 in
    let normal' = fit.normal cut.slot no_values lt in
    subst (λ (xs : List Domain). sum_by splits_of xs ≤ sum_by splits_of ds) (sym (domains_there there (cut_domains row cut.slot ds) w is))
    (sum_le ds cut.slot (cut_domain row cut.slot ds) lt (splits_le (cut_domain row cut.slot ds) (domain_at ds cut.slot) (cut_normal row cut.slot ds normal') (λ u held. cut_within row cut.slot ds u normal'.positive held)))

-- what cuts leave: a view that fits and keeps each lawful point, with no more points and no more splits
pub record CutsLeave (program : Program) (v w : View) : Type 0 where
  pub fits : Fits program w
  pub keeps : (point : List ℕ) → IsIn v point → IsLawful program point → IsIn w point
  pub points : points_in w ≤ points_in v
  pub splits : view_splits w ≤ view_splits v

pub cuts_leave : (rows : Rows) (cuts : List RowCut) (v w : View) → Fits rows.program v → after_cuts (steps_of rows) v cuts ≡ Some w → CutsLeave rows.program v w
cuts_leave rows [] v w fit is = let same : v ≡ w = cc in subst (CutsLeave rows.program v) same (record { fits = fit; keeps = λ point lies lawful. lies; points = omega arith; splits = omega arith })
cuts_leave rows (u ∷ us) v w fit is = next (λ x. cuts_leave rows us x w) ((steps_of rows).cut v u) refl is
  where
    next : ((x : View) → Fits rows.program x → after_cuts (steps_of rows) x us ≡ Some w → CutsLeave rows.program x w) → (o : Option View) → (steps_of rows).cut v u ≡ o
        → option_and_then (λ x. after_cuts (steps_of rows) x us) o ≡ Some w → CutsLeave rows.program v w
    next others None first later = absurd (none later)
      where
        none : {X : Type 0} {x : X} → None ≡ Some x → ⊥
        none same = cc
    next others (Some x) first later =
        let fit' = (rows_sound rows.program).cut_fits v x u fit first in
        let rest = others x fit' later in
        record {
          fits = rest.fits;
          keeps = λ point lies lawful. rest.keeps point ((rows_sound rows.program).cut_keeps v x u fit first point lies lawful) lawful;
          points = omega (arith, rest.points, points-cut rows.program v x u fit first);
          splits = omega (arith, rest.splits, splits-cut rows.program v x u fit first);
        }

-- nothing is above a value that is the greatest or more
pub over_none : (z : Bool) (l h m : ℕ) → 1 ≤ l → h ≤ 255 → h ≤ m → count_of (shared (record { zero = z; lo = l; hi = h }) (over m)) ≡ 0
over_none true l h m low byte most = grind (arith, nat_tests)
over_none false l h m low byte most = grind (arith, nat_tests)

-- the domain that a slot is given
pub at_slot : (ds : List Domain) (slot : ℕ) (e : Domain) → slot < length ds → All IsOpen (set ds slot e) → IsOpen e
at_slot ds slot e less each = subst IsOpen (get_or-set_same ds slot e no_values less) (each slot no_values (omega (arith, length-set ds slot e, less)))

-- each part of a split can be split once less
pub splits-left : {given : ℕ} (program : Program) (v w : View) (pick : RowPick) → IsParted given (domains_of v) pick → (row_steps program).left v pick ≡ Some w → view_splits w + 1 ≤ view_splits v
unfolding row_steps
splits-left program v w pick parted is =
    let ds = domains_of v in
    subst (λ (xs : List Domain). sum_by splits_of xs + 1 ≤ sum_by splits_of ds) (sym (domains_there (ltb pick.slot (length ds)) (kept_at ds pick.slot (up_to pick.max)) w is))
    (sum_less ds pick.slot (shared (domain_at ds pick.slot) (up_to pick.max)) parted.slot parted.fewer.left)

pub splits-right : {given : ℕ} (program : Program) (v w : View) (pick : RowPick) → IsParted given (domains_of v) pick → (row_steps program).right v pick ≡ Some w → view_splits w + 1 ≤ view_splits v
unfolding row_steps
splits-right program v w pick parted is =
    let ds = domains_of v in
    subst (λ (xs : List Domain). sum_by splits_of xs + 1 ≤ sum_by splits_of ds) (sym (domains_there (ltb pick.slot (length ds)) (kept_at ds pick.slot (over pick.max)) w is))
    (sum_less ds pick.slot (shared (domain_at ds pick.slot) (over pick.max)) parted.slot parted.fewer.right)

-- a slot has at most nine splits, less one where it is spared one
pub spared_most : (d : Domain) → splits_of d + spared d ≤ 9
spared_most d = at (d.zero && leb d.lo d.hi)
  where
    at : (b : Bool) → (cond b 1 0 + halvings (d.hi + 1 - d.lo)) + cond b 0 1 ≤ 9
    at true = omega (arith, halvings_most (d.hi + 1 - d.lo))
    at false = omega (arith, halvings_most (d.hi + 1 - d.lo))

-- so slots have at most nine splits each, less one for each slot that is spared one
pub spared_sum : (ds : List Domain) → sum_by splits_of ds + sum_by spared ds ≤ 9 * length ds
spared_sum [] = omega arith
spared_sum (d ∷ ds) = omega (arith, sum_by-cons splits_of d ds, sum_by-cons spared d ds, spared_most d, spared_sum ds)

-- the first of them and one more have at most nine for each domain
pub spared_part : (ds : List Domain) (n : ℕ) (d : Domain) → n < length ds → (sum_by splits_of (take n ds) + sum_by spared (take n ds)) + (splits_of d + spared d) ≤ 9 * length ds
spared_part ds n d lt = omega (arith, lt, length-take-le n ds (omega (arith, lt)), spared_sum (take n ds), spared_most d)

pub splits_part : (ds : List Domain) (n : ℕ) (d : Domain) → n < length ds → sum_by splits_of (take n ds) + splits_of d ≤ 9 * length ds
splits_part ds n d lt = omega (arith, spared_part ds n d lt)

pub splits_sum : (ds : List Domain) → sum_by splits_of ds ≤ 9 * length ds
splits_sum ds = omega (arith, spared_sum ds)

-- the root of a program that a search takes up has no more splits than may stand one below another
pub splits-root : (most : ℕ) (program : Program) → IsSearchable most program → view_splits (view_of program.root) + sum_by spared program.root ≤ most
splits-root most program searchable =
    let few = searchable.few_splits in
    let same = ap (λ (ds : List Domain). sum_by splits_of ds) (domains_of-view_of program.root) in
    omega (arith, few, same)
