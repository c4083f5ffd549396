-- The caps of trees over a part's rows are those over the whole's.
use Rattle.std.proofs.Common.{◌≡◌, ℕ, ℤ, ◌+◌, ◌<◌, ◌≤◌, arith, get_or, take, inl, inr, Bool, true, false, ◌&&◌, cond, ltb, List, [], ◌∷◌, length, set, Option, Some, None, option_and_then, refl, sym, ap, ◌∙◌, subst}
use Rattle.std.specs.Prelude.{◌+ℤ◌, ◌-ℤ◌, ◌*ℤ◌, pos, int_le, if◌then◌else◌}
use Rattle.std.specs.List.{All, AllZip, list_all}
use Rattle.std.proofs.lemmas.Bool.{and_parts, cases_eq, ltb-true}
use Rattle.std.proofs.lemmas.List.{get_or-set_other, get_or-set_same, get_or-take, length-set, length-take-le}
use Rattle.std.proofs.lemmas.List.Elements.{All-take}
use Rattle.row_kit.specs.declared.domain.Domain.{Domain}
use Rattle.row_kit.specs.declared.program.Program.{Program}
use Rattle.row_kit.specs.Domain.{Holds, IsNormal, count_of, domain_at, no_values, values_of, up_to, over, shared}
use Rattle.row_kit.specs.Point.{IsLawful, LiesIn, worth_of}
use Rattle.row_kit.specs.Row.{IsKept, entry_at, row_at}
use Rattle.row_kit.specs.Points.{kept_at}
use Rattle.row_kit.proofs.Parts.{shared_within}
use Rattle.range_prop.specs.declared.row_cut.RowCut.{RowCut}
use Rattle.range_prop.specs.Cut.{cut_domain, cut_domains}
use Rattle.range_prop.proofs.CutLaws.{cut_within}
use Rattle.dual_bound.specs.declared.cert.Cert.{Cert}
use Rattle.dual_bound.specs.Cap.{scaled_cap}
use Rattle.dual_bound.specs.Total.{greatest, has_total, is_fit, limits_sum, rows_at, slots_total}
use Rattle.dual_bound.specs.Trimmed.{each_passing, may_exceed, passing, trimmed}
use Rattle.dual_bound.proofs.Passing.{each-at, each-length, passing_within}
use Rattle.proof_tree.specs.declared.capped.Capped.{Capped}
use Rattle.proof_tree.specs.declared.capped.Capped.TheVariants.{AtMost, NoPoint, Bad}
use Rattle.proof_tree.specs.Cap.{floor_cap, greater}
use Rattle.proof_tree.specs.Relaxation.{Steps}
use Rattle.proof_tree.specs.Tree.{Leaf, no_point, dual, one_point, pending, Tree, leaf, split, tree_cap, leaf_cap, after_cuts, cap_if}
use Rattle.proof_tree.specs.Views.{View}
use Rattle.row_relax.specs.declared.pick.RowPick.{RowPick}
use Rattle.row_relax.specs.declared.rows.Rows.{Rows}
use Rattle.row_relax.specs.Choices.{choices_of, settle_of, steps_of}
use Rattle.row_relax.specs.RowProofs.{RowTree}
use Rattle.row_relax.specs.Settle.{are_single, is_lawful, only_point, settled}
use Rattle.row_relax.specs.Steps.{floor_by, row_steps, shown_if, view_by}
use Rattle.row_relax.specs.View.{Fits, domains_of, view_of}
use Rattle.row_relax.specs.laws.Laws.{rows_sound}
use Rattle.row_relax.specs.laws.Lawful.{lawful_true, true_lawful}
use Rattle.row_relax.specs.laws.Shown.{domains_of-view_of, domains_there, fits_of, shown_there}
use Rattle.row_relax.specs.laws.Singles.{single_point}
use Rattle.row_relax.proofs.Choosing.{first-settled}
use Rattle.row_set.specs.Parts.{IsWithin}
use Rattle.row_set.proofs.PartPoints.{lies-within}

-- ---- steps that settle otherwise

-- the same steps, but that a view is settled otherwise
abbrev resettled : {U C P : Type 0} → Steps U C P → (View → Capped) → Steps U C P
resettled s settle = record { cut = s.cut; left = s.left; right = s.right; empty = s.empty; cap = s.cap; settle = settle; floor = s.floor; trim = s.trim }

if_same : (next : Option View) (f g : View → Capped) → ((w : View) → next ≡ Some w → f w ≡ g w) → cap_if next f ≡ cap_if next g
if_same None f g each = refl
if_same (Some w) f g each = each w refl

next_same : (next : Option View) (f g : View → Option View) → ((w : View) → f w ≡ g w) → option_and_then f next ≡ option_and_then g next
next_same None f g each = refl
next_same (Some w) f g each = each w

cuts_same : {U C P : Type 0} (s : Steps U C P) (settle : View → Capped) (cuts : List U) (v : View) → after_cuts s v cuts ≡ after_cuts (resettled s settle) v cuts
cuts_same s settle [] v = refl
cuts_same s settle (u ∷ us) v = next_same (s.cut v u) (λ w. after_cuts s w us) (λ w. after_cuts (resettled s settle) w us) (cuts_same s settle us)

-- views that the steps of a proof do not leave, and on which settling is the same
record AreGood {U C P : Type 0} (s : Steps U C P) (settle : View → Capped) (good : View → Type 0) : Type 0 where
  cut_good : (v w : View) (u : U) → good v → s.cut v u ≡ Some w → good w
  left_good : (v w : View) (k : P) → good v → s.left v k ≡ Some w → good w
  right_good : (v w : View) (k : P) → good v → s.right v k ≡ Some w → good w
  trim_good : (v : View) (k : P) (c : C) → good v → good (s.trim v k c)
  same : (v : View) → good v → s.settle v ≡ settle v

leaf_same : {U C P : Type 0} (s : Steps U C P) (settle : View → Capped) (good : View → Type 0) → AreGood s settle good → (v : View) (end : Leaf C) → good v → leaf_cap s v end ≡ leaf_cap (resettled s settle) v end
leaf_same s settle good are v no_point is = refl
leaf_same s settle good are v (dual cert) is = refl
leaf_same s settle good are v one_point is = are.same v is
leaf_same s settle good are v (pending cert) is = refl

cuts_good : {U C P : Type 0} (s : Steps U C P) (settle : View → Capped) (good : View → Type 0) → AreGood s settle good → (cuts : List U) (v w : View) → good v → after_cuts s v cuts ≡ Some w → good w
cuts_good s settle good are [] v w is e = subst good (some_same v w e) is
  where
    some_same : (v w : View) → Some v ≡ Some w → v ≡ w
    some_same v w e = cc
cuts_good s settle good are (u ∷ us) v w is e = first (s.cut v u) refl e (λ x. cuts_good s settle good are us x w)
  where
    first : (next : Option View) → s.cut v u ≡ next → option_and_then (λ x. after_cuts s x us) next ≡ Some w → ((x : View) → good x → after_cuts s x us ≡ Some w → good w) → good w
    first None cut leads rest = absurd (cc)
    first (Some x) cut leads rest = rest x (are.cut_good v x u is cut) leads

tree_same : {U C P F : Type 0} (s : Steps U C P) (settle : View → Capped) (good : View → Type 0) → AreGood s settle good → (tree : Tree U C P F) (v : View) → good v → tree_cap s v tree ≡ tree_cap (resettled s settle) v tree
tree_same s settle good are (leaf cuts found end) v is =
    if_same (after_cuts s v cuts) (λ w. leaf_cap s w end) (λ w. leaf_cap (resettled s settle) w end) (λ w e. leaf_same s settle good are w end (cuts_good s settle good are cuts v w is e))
    ∙ ap (λ (next : Option View). cap_if next (λ w. leaf_cap (resettled s settle) w end)) (cuts_same s settle cuts v)
tree_same s settle good are (split cuts found pick cert a b) v is =
    let other = resettled s settle in
    let forgotten : View → Capped = λ w. floor_cap (s.floor w pick cert) in
    if_same (after_cuts s v cuts)
    (λ w. greater (greater (forgotten w) (cap_if (s.left (s.trim w pick cert) pick) (λ x. tree_cap s x a))) (cap_if (s.right (s.trim w pick cert) pick) (λ x. tree_cap s x b)))
    (λ w. greater (greater (forgotten w) (cap_if (s.left (s.trim w pick cert) pick) (λ x. tree_cap other x a))) (cap_if (s.right (s.trim w pick cert) pick) (λ x. tree_cap other x b)))
    (λ w e.
    let rest = s.trim w pick cert in
    let here = are.trim_good w pick cert (cuts_good s settle good are cuts v w is e) in
    let first = if_same (s.left rest pick) (λ x. tree_cap s x a) (λ x. tree_cap other x a) (λ x f. tree_same s settle good are a x (are.left_good rest x pick here f)) in
    let second = if_same (s.right rest pick) (λ x. tree_cap s x b) (λ x. tree_cap other x b) (λ x f. tree_same s settle good are b x (are.right_good rest x pick here f)) in
    ap (λ (c : Capped). greater (greater (forgotten w) c) (cap_if (s.right rest pick) (λ x. tree_cap s x b))) first
    ∙ ap (λ (c : Capped). greater (greater (forgotten w) (cap_if (s.left rest pick) (λ x. tree_cap other x a))) c) second)
    ∙ ap (λ (next : Option View). cap_if next (λ w. greater (greater (forgotten w) (cap_if (s.left (s.trim w pick cert) pick) (λ x. tree_cap other x a))) (cap_if (s.right (s.trim w pick cert) pick) (λ x. tree_cap other x b)))) (cuts_same s settle cuts v)

-- ---- views within a root

-- each of domains lies within one of others
abbrev AreWithin : List Domain → List Domain → Type 0
AreWithin inner outer = (k : ℕ) → k < length inner → IsWithin (domain_at inner k) (domain_at outer k)

-- a view fits, and its domains lie within the root's
record IsInside (program : Program) (v : View) : Type 0 where
  fits : Fits program v
  within : AreWithin (domains_of v) program.root

-- a domain that is narrowed leaves the others
set-within : (ds root : List Domain) (slot : ℕ) (d : Domain) → slot < length ds → ((x : ℕ) → Holds d x → Holds (domain_at ds slot) x) → AreWithin ds root → AreWithin (set ds slot d) root
set-within ds root slot d low narrow within k lt =
    let there : k < length ds = omega (arith, lt, length-set ds slot d) in
    elim (cases_eq k slot) [
      | inl here ↦
          subst (λ (n : ℕ). IsWithin (domain_at (set ds slot d) n) (domain_at root n)) (sym here)
          (subst (λ (own : Domain). IsWithin own (domain_at root slot)) (sym (get_or-set_same ds slot d no_values low)) (λ x holds. within slot low x (narrow x holds)))
      | inr apart ↦ subst (λ (own : Domain). IsWithin own (domain_at root k)) (sym (get_or-set_other ds slot k d no_values apart)) (within k there)
    ]

-- a step that narrows one slot's domain stays inside
one_inside : (program : Program) (v w : View) (there : Bool) (slot : ℕ) (d : Domain) → IsInside program v → Fits program w → slot < length (domains_of v)
    → ((x : ℕ) → Holds d x → Holds (domain_at (domains_of v) slot) x) → shown_if there (set (domains_of v) slot d) ≡ Some w → IsInside program w
one_inside program v w there slot d is fits low narrow shows = record {
  fits = fits;
  within = subst (λ (ds : List Domain). AreWithin ds program.root) (sym (domains_there there (set (domains_of v) slot d) w shows)) (set-within (domains_of v) program.root slot d low narrow is.within);
}

cut_inside : (program : Program) (v w : View) (u : RowCut) → IsInside program v → (row_steps program).cut v u ≡ Some w → IsInside program w
unfolding row_steps
cut_inside program v w u is shows =
    let ds = domains_of v in
    let row = row_at program.rows u.row in
    let there = ltb u.row (length program.rows) && ltb u.slot (length ds) in
    let low = ltb-true u.slot (length ds) (and_parts (ltb u.row (length program.rows)) (ltb u.slot (length ds)) (shown_there there (cut_domains row u.slot ds) w shows).0).1 in
    one_inside program v w there u.slot (cut_domain row u.slot ds) is ((rows_sound program).cut_fits v w u is.fits shows) low
    (λ x. cut_within row u.slot ds x (is.fits.normal u.slot no_values low).positive) shows

left_inside : (program : Program) (v w : View) (k : RowPick) → IsInside program v → (row_steps program).left v k ≡ Some w → IsInside program w
unfolding row_steps
left_inside program v w k is shows =
    let ds = domains_of v in
    let there = ltb k.slot (length ds) in
    let low = ltb-true k.slot (length ds) (shown_there there (kept_at ds k.slot (up_to k.max)) w shows).0 in
    one_inside program v w there k.slot (shared (domain_at ds k.slot) (up_to k.max)) is ((rows_sound program).left_fits v w k is.fits shows) low
    (λ x. shared_within (domain_at ds k.slot) (up_to k.max) x) shows

right_inside : (program : Program) (v w : View) (k : RowPick) → IsInside program v → (row_steps program).right v k ≡ Some w → IsInside program w
unfolding row_steps
right_inside program v w k is shows =
    let ds = domains_of v in
    let there = ltb k.slot (length ds) in
    let low = ltb-true k.slot (length ds) (shown_there there (kept_at ds k.slot (over k.max)) w shows).0 in
    one_inside program v w there k.slot (shared (domain_at ds k.slot) (over k.max)) is ((rows_sound program).right_fits v w k is.fits shows) low
    (λ x. shared_within (domain_at ds k.slot) (over k.max) x) shows

-- what a floor leaves lies within what was there
passing_within_all : (test : ℕ → ℕ → Bool) (ds root : List Domain) → All IsNormal ds → AreWithin ds root → AreWithin (each_passing test 0 ds) root
passing_within_all test ds root normal' within k lt =
    let there : k < length ds = omega (arith, lt, each-length test 0 ds) in
    let is = each-at test 0 ds k no_values there ∙ ap (λ (j : ℕ). passing (test j) (domain_at ds k)) (let e : 0 + k ≡ k = omega arith in e) in
    subst (λ (own : Domain). IsWithin own (domain_at root k)) (sym is) (λ x holds. within k there x (passing_within (test k) (domain_at ds k) x (normal' k no_values there).positive holds))

trimmed_inside : (program : Program) (ds root : List Domain) (cert : Cert) (floor : ℤ) → All IsNormal ds → AreWithin ds root → AreWithin (trimmed program ds cert floor) root
unfolding trimmed
trimmed_inside program ds root cert floor normal' within = step (has_total program ds cert)
  where
    step : (b : Bool) → AreWithin (cond b (each_passing (may_exceed program ds cert floor) 0 ds) ds) root
    step true = passing_within_all (may_exceed program ds cert floor) ds root normal' within
    step false = within

trim_inside : (program : Program) (v : View) (k : RowPick) (c : Cert) → IsInside program v → IsInside program ((row_steps program).trim v k c)
unfolding row_steps
trim_inside program v k c is = record { fits = (rows_sound program).trim_fits v k c is.fits; within = by k.floor }
  where
    by : (floor : Option ℤ) → AreWithin (domains_of (view_by program v c floor)) program.root
    by None = is.within
    by (Some floor) =
        let left = trimmed program (domains_of v) c floor in
        subst (λ (ds : List Domain). AreWithin ds program.root) (sym (domains_of-view_of left)) (trimmed_inside program (domains_of v) program.root c floor is.fits.normal is.within)

-- ---- a part and the whole

-- a part of a whole: its rows and profit, the same worth of lawful points, and a root within the whole's
pub record IsPart (whole part : Program) : Type 0 where
  pub rows : part.rows ≡ whole.rows
  pub profit : part.profit ≡ whole.profit
  pub base : part.base ≡ whole.base
  pub worth : (point : List ℕ) → IsLawful part point → worth_of part point ≡ worth_of whole point
  pub within : AllZip IsWithin part.root whole.root

-- what is lawful in a part is so in the whole
pub lawful-part : (whole part : Program) (point : List ℕ) → IsPart whole part → IsLawful part point → IsLawful whole point
lawful-part whole part point is lawful = record {
  lies = lies-within part.root whole.root point is.within lawful.lies;
  keeps = subst (All (IsKept point)) is.rows lawful.keeps;
}

-- two tests are alike where one holds exactly where the other does
alike : (a b : Bool) → (a ≡ true → b ≡ true) → (b ≡ true → a ≡ true) → a ≡ b
alike true true there back = refl
alike true false there back = sym (there refl)
alike false true there back = back refl
alike false false there back = refl

-- a point of the part's root is lawful in the part exactly where it is in the whole
lawful-same : (whole part : Program) (point : List ℕ) → IsPart whole part → LiesIn part.root point → is_lawful part point ≡ is_lawful whole point
lawful-same whole part point is lies =
    alike (is_lawful part point) (is_lawful whole point)
    (λ h. lawful_true whole point (lawful-part whole part point is (true_lawful part point h)))
    (λ h. lawful_true part point (record { lies = lies; keeps = subst (All (IsKept point)) (sym is.rows) (true_lawful whole point h).keeps }))

-- where each domain has one value that lies in the part's root, the part settles them as the whole does
settle-same : (whole part : Program) (ds : List Domain) → IsPart whole part → (are_single ds ≡ true → LiesIn part.root (only_point ds)) → settled part ds ≡ settled whole ds
unfolding settled
settle-same whole part ds is inside = by_single (are_single ds) refl
  where
    by_lawful : (lawful : Bool) → is_lawful part (only_point ds) ≡ lawful → cond lawful (AtMost (worth_of part (only_point ds))) NoPoint ≡ cond lawful (AtMost (worth_of whole (only_point ds))) NoPoint
    by_lawful true e = ap AtMost (is.worth (only_point ds) (true_lawful part (only_point ds) e))
    by_lawful false e = refl

    by_single : (single : Bool) → are_single ds ≡ single
        → cond single (cond (is_lawful part (only_point ds)) (AtMost (worth_of part (only_point ds))) NoPoint) Bad
        ≡ cond single (cond (is_lawful whole (only_point ds)) (AtMost (worth_of whole (only_point ds))) NoPoint) Bad
    by_single false e = refl
    by_single true e =
        by_lawful (is_lawful part (only_point ds)) refl
        ∙ ap (λ (test : Bool). cond test (AtMost (worth_of whole (only_point ds))) NoPoint) (lawful-same whole part (only_point ds) is (inside e))

-- ---- rows

-- rows have the same rows and profit
pub record AreRowsAlike (whole part : Program) : Type 0 where
  pub rows : part.rows ≡ whole.rows
  pub profit : part.profit ≡ whole.profit
  pub base : part.base ≡ whole.base

-- Rows are a part of a whole's: they have its rows and profit, their choices are a part of its choices, with as many slots, and their root
-- lies within that of their choices, in whose slots it begins.
pub record AreParts (whole part : Rows) : Type 0 where
  pub alike : AreRowsAlike whole.program part.program
  pub judged : IsPart (choices_of whole) (choices_of part)
  pub points : length (choices_of part).root ≡ length (choices_of whole).root
  pub slots : length part.program.root ≡ length whole.program.root
  pub few : length (choices_of part).root ≤ length part.program.root
  pub first : (k : ℕ) → k < length (choices_of part).root → IsWithin (domain_at part.program.root k) (domain_at (choices_of part).root k)

-- the only point of the first domains of a view within the part's root lies in the choices' root
first-lies : (whole part : Rows) (v : View) → AreParts whole part → IsInside part.program v → let n = length (choices_of part).root in are_single (take n (domains_of v)) ≡ true → LiesIn (choices_of part).root (only_point (take n (domains_of v)))
first-lies whole part v is inside single =
    let n = length (choices_of part).root in
    let ds = domains_of v in
    let enough : n ≤ length ds = omega (arith, is.few, inside.fits.slots) in
    let long : length (take n ds) ≡ n = length-take-le n ds enough in
    let own = (single_point (take n ds) (All-take IsNormal n ds inside.fits.normal) single).0 in
    record {
      same_length = own.same_length ∙ long;
      held = λ k lt.
          let there : k < length (take n ds) = omega (arith, lt, long) in
          let here : domain_at (take n ds) k ≡ domain_at ds k = get_or-take n ds k no_values lt in
          let held = subst (λ (d : Domain). Holds d (get_or (only_point (take n ds)) k 0)) here (own.held k there) in
          is.first k lt (get_or (only_point (take n ds)) k 0) (inside.within k (omega (arith, lt, enough)) (get_or (only_point (take n ds)) k 0) held);
    }

settle-rows : (whole part : Rows) → AreParts whole part → (v : View) → IsInside part.program v → settle_of part v ≡ settle_of whole v
settle-rows whole part is v inside =
    let ds = domains_of v in
    let n = length (choices_of part).root in
    sym (first-settled part ds inside.fits.slots)
    ∙ settle-same (choices_of whole) (choices_of part) (take n ds) is.judged (first-lies whole part v is inside)
    ∙ ap (λ (m : ℕ). settled (choices_of whole) (take m ds)) is.points
    ∙ first-settled whole ds (inside.fits.slots ∙ is.slots)

-- floors count alike over the part's rows and the whole's, and leave the same
floor-same : (whole part : Program) (domains : List Domain) (cert : Cert) (floor : Option ℤ) → AreRowsAlike whole part → floor_by part domains cert floor ≡ floor_by whole domains cert floor
floor-same whole part domains cert None but = refl
floor-same whole part domains cert (Some floor) but = λ i. if is_fit (length (but.rows i)) cert && list_all (λ (domain : Domain). ltb 0 (count_of domain)) domains then Some floor else None

trimmed-same : (whole part : Program) (domains : List Domain) (cert : Cert) (floor : ℤ) → AreRowsAlike whole part → trimmed part domains cert floor ≡ trimmed whole domains cert floor
unfolding trimmed
trimmed-same whole part domains cert floor but = λ i.
    let gained : ℕ → ℕ → ℤ = λ slot value. (pos cert.scale *ℤ entry_at (but.profit i) slot value) -ℤ rows_at (but.rows i) cert.mults slot value in
    let total = ((pos cert.scale *ℤ but.base i) +ℤ limits_sum (but.rows i) cert.mults) +ℤ slots_total gained 0 domains in
    if is_fit (length (but.rows i)) cert && list_all (λ (domain : Domain). ltb 0 (count_of domain)) domains
    then each_passing (λ slot value. int_le (pos cert.scale *ℤ (floor +ℤ pos 1)) ((total -ℤ greatest (gained slot) (values_of (domain_at domains slot))) +ℤ gained slot value)) 0 domains
    else domains

trim-same : (whole part : Program) (view : View) (cert : Cert) (floor : Option ℤ) → AreRowsAlike whole part → view_by part view cert floor ≡ view_by whole view cert floor
trim-same whole part view cert None but = refl
trim-same whole part view cert (Some floor) but = ap view_of (trimmed-same whole part (domains_of view) cert floor but)

-- the part's calls are the whole's, but for settling
steps-same : (whole part : Rows) → AreRowsAlike whole.program part.program → resettled (steps_of part) (settle_of whole) ≡ steps_of whole
unfolding row_steps
steps-same whole part but = λ i. record {
  cut = λ view cut. shown_if (ltb cut.row (length (but.rows i)) && ltb cut.slot (length (domains_of view))) (cut_domains (row_at (but.rows i) cut.row) cut.slot (domains_of view));
  left = (row_steps part.program).left;
  right = (row_steps part.program).right;
  empty = (row_steps part.program).empty;
  cap = λ view cert.
      scaled_cap cert.scale
      (if is_fit (length (but.rows i)) cert && list_all (λ (domain : Domain). ltb 0 (count_of domain)) (domains_of view)
      then Some (((pos cert.scale *ℤ but.base i) +ℤ limits_sum (but.rows i) cert.mults)
      +ℤ slots_total (λ slot value. (pos cert.scale *ℤ entry_at (but.profit i) slot value) -ℤ rows_at (but.rows i) cert.mults slot value) 0 (domains_of view))
      else None);
  settle = settle_of whole;
  floor = λ view pick cert. floor-same whole.program part.program (domains_of view) cert pick.floor but i;
  trim = λ view pick cert. trim-same whole.program part.program view cert pick.floor but i;
}

-- the cap of a tree over the root of a part is the same over the part's rows and over the whole's
pub cap-same : (whole part : Rows) (tree : RowTree) → AreParts whole part → tree_cap (steps_of part) (view_of part.program.root) tree ≡ tree_cap (steps_of whole) (view_of part.program.root) tree
cap-same whole part tree is =
    let program = part.program in
    tree_same (steps_of part) (settle_of whole) (IsInside program)
    (record { cut_good = cut_inside program; left_good = left_inside program; right_good = right_inside program; trim_good = trim_inside program; same = settle-rows whole part is }) tree (view_of program.root)
    (record {
      fits = fits_of program program.root refl program.root_normal;
      within = subst (λ (ds : List Domain). AreWithin ds program.root) (sym (domains_of-view_of program.root)) (λ k lt x holds. holds);
    })
    ∙ ap (λ (s : Steps RowCut Cert RowPick). tree_cap s (view_of program.root) tree) (steps-same whole part is.alike)
