-- What is judged of a box ends it.
use Rattle.std.proofs.Common.{◌≡◌, ◌≢◌, ℕ, ◌^◌, ◌≤◌, ◌<◌, Bool, true, false, List, ◌++◌, length, get_or, Option, Some, None, option_to_list, refl, sym, ap, ◌∙◌, subst, arith, inl, inr, ⊎_elim}
use Rattle.std.specs.Prelude.{ℤ, IfSome, unsigned_abs, ◌⊎◌}
use Rattle.std.specs.List.{All, Any, list_any}
use Rattle.std.specs.Option.{option_map}
use Rattle.std.proofs.lemmas.Bool.{cases_eq, cases_lt, eq-eqb}
use Rattle.std.proofs.lemmas.Int.{ints}
use Rattle.std.proofs.lemmas.List.{get_or_default}
use Rattle.std.proofs.lemmas.List.Folds.{list_any-from_Any}
use Rattle.row_kit.specs.declared.domain.Domain.{Domain}
use Rattle.row_kit.specs.declared.found.Found.{Found}
use Rattle.row_kit.specs.declared.program.Program.{Program}
use Rattle.row_kit.specs.declared.row.Row.{Row}
use Rattle.row_kit.specs.Area.{present}
use Rattle.row_kit.specs.Domain.{IsBare, IsNormal, IsOpen, count_of, domain_at, no_values, over, shared}
use Rattle.range_prop.specs.Cut.{is_bare}
use Rattle.range_prop.specs.Cuts.{AreDone, IsStill}
use Rattle.dual_bound.specs.declared.cert.Cert.{Cert}
use Rattle.dual_bound.specs.Cap.{cert_cap}
use Rattle.dual_bound.specs.Total.{total_at}
use Rattle.dual_bound.specs.Plain.{plain_cert}
use Rattle.proof_tree.specs.declared.capped.Capped.TheVariants.{Bad}
use Rattle.proof_tree.specs.declared.item.Item.TheVariants.{Node, Cut, Found as FoundItem, Empty, Dual, Point, Pending, Split}
use Rattle.proof_tree.specs.Views.{View}
use Rattle.row_relax.specs.declared.pick.RowPick.{RowPick}
use Rattle.row_relax.specs.Steps.{row_steps}
use Rattle.row_relax.specs.View.{Fits, domains_of}
use Rattle.row_relax.specs.laws.Laws.{rows_sound}
use Rattle.row_relax.proofs.Marks.{domains-views}
use Rattle.row_relax.specs.declared.rows.Rows.{Rows}
use Rattle.row_relax.specs.Choices.{choices_of, steps_of, settled_in}
use Rattle.branch_tree.specs.Justified.{HasCause, IsGroup, IsParted, IsReached, left_by}
use Rattle.row_relax.specs.RowProofs.{RowItem}
use Rattle.branch_tree.specs.Searched.{IsBest, IsFitItem}
use Rattle.branch_tree.specs.laws.Ends.{ClosedBy, IsFloor, IsBoxVerdict, ItemEnds, Reaches, is_chosen, view_splits}
use Rattle.branch_tree.specs.laws.Grounds.{IsOwnBest, seen, IsAmong}
use Rattle.branch_tree.proofs.Best.{above-same, closed-same, not_over-closed, over-above, reached-closed, reached-same}
use Rattle.branch_tree.proofs.Caps.{cap-total, not_over-not_bad, total-fit, within-not_bad}
use Rattle.branch_tree.proofs.Depths.{at_slot, over_none, splits-left}
use Rattle.branch_tree.proofs.Forgotten.{left_length, left_normal, left_to, parted_there}
use Rattle.branch_tree.proofs.Standing.{left_there}

-- an area with an empty domain shows a view that is empty
pub empty_is : (program : Program) (marks : List (List Domain)) → Any IsBare (present marks) → (row_steps program).empty (seen marks) ≡ true
unfolding row_steps
empty_is program marks bare =
    subst (λ (ds : List Domain). list_any is_bare ds ≡ true) (sym (domains-views marks)) (list_any-from_Any is_bare (present marks) (bare.0, bare.1, bare.2, bare.3, eq-eqb (count_of bare.1) 0 bare.4))

-- where the test finds no empty domain, each holds a value
pub open_of : (ds : List Domain) (b : Bool) → b ≡ false → (Any IsBare ds → b ≡ true) → All IsOpen ds
open_of ds b none found = λ k d lt.
    let x = get_or ds k d in
    ⊎_elim
    (λ (bare : count_of x ≡ 0). absurd (apart b none (found (k, x, lt, get_or_default ds k x d lt, bare))))
    (λ (some : count_of x ≡ 0 → ⊥). omega (arith, some))
    (cases_eq (count_of x) 0)
  where
    apart : (t : Bool) → t ≡ false → t ≡ true → ⊥
    apart t is_false is_true = cc

-- a lawful point of an area is in none that is empty
pub own_empty : (rows : Rows) (view : View) (own best : Option Found) → Fits rows.program view → (steps_of rows).empty view ≡ true → IfSome own (λ found. IsGroup (choices_of rows) found × IsAmong rows view found.point) → IsOwnBest own best
own_empty rows view None best fit bare is = tt
own_empty rows view (Some f) best fit bare is = absurd ((rows_sound rows.program).empty_holds view fit bare is.1.0 is.1.2)

-- where no domain is empty, what is done is exhausted
exhausted_of : (rows : List Row) (ds : List Domain) → All IsOpen ds → AreDone rows ds → All (IsStill ds) rows
exhausted_of rows ds each done =
    elim done [
      | inl bare ↦ let some = each bare.0 bare.1 bare.2 in let none = bare.4 in let same = ap count_of bare.3 in absurd (omega (arith, some, none, same))
      | inr still ↦ still
    ]

-- a floor that is the best worth is reached
best-reached : (floors : Bool) (floor : Option ℤ) (best : Option Found) (fs : List Found) → IsBest best fs → IfSome floor (IsFloor floors (option_map (λ f. f.value) best)) → IsReached floor fs
best-reached floors None best fs is same = tt
best-reached floors (Some n) None fs is same = absurd (none_some n same.1)
  where
    none_some : (m : ℤ) → None ≡ Some m → ⊥
    none_some m same = cc
best-reached floors (Some n) (Some b) fs is same = (b, is.0, let e : b.value ≡ n = some_same b.value n same.1 in omega (arith, ints, e))
  where
    some_same : (x y : ℤ) → Some x ≡ Some y → x ≡ y
    some_same x y same = cc

-- where splits may have no floors, none has one
floor_may : (floor : Option ℤ) (floors : Bool) (best : Option ℤ) → IfSome floor (IsFloor floors best) → floors ≡ false → floor ≡ None
floor_may None floors best is never = refl
floor_may (Some n) floors best is never = absurd (both floors never is.0)
  where
    both : (b : Bool) → b ≡ false → b ≡ true → ⊥
    both b is_false is_true = cc

-- and one that is there is short
floor_short : (floor : Option ℤ) (floors : Bool) (best : Option ℤ) → IfSome floor (IsFloor floors best) → IfSome floor (λ n. unsigned_abs n < 10 ^ 30)
floor_short None floors best is = tt
floor_short (Some n) floors best is = is.2

-- what is judged of a box ends it
pub verdict-ends : (rows : Rows) (floors : Bool) (given : ℕ) (marks : List (List Domain)) (item : RowItem) (found best : Option Found) (before : List Found)
    → AreDone rows.program.rows (present marks) → All IsOpen (present marks) → (is_chosen rows (present marks) ≡ true → Reaches (settled_in rows (present marks)) found)
    → IsBest best (before ++ option_to_list found) → IsBoxVerdict rows floors given (present marks) (option_map (λ f. f.value) best) item → ItemEnds rows given (seen marks) (before ++ option_to_list found) item
unfolding row_steps
verdict-ends rows floors given marks (Dual cert) found best before done each only is verdict =
    subst (λ (ds : List Domain). ClosedBy (cert_cap rows.program ds cert) (before ++ option_to_list found)) (sym (domains-views marks)) (not_over-closed (cert_cap rows.program (present marks) cert) best (before ++ option_to_list found) is verdict)
verdict-ends rows floors given marks Point found best before done each only is verdict =
    subst (λ (ds : List Domain). ClosedBy (settled_in rows ds) (before ++ option_to_list found)) (sym (domains-views marks)) (reached-closed (settled_in rows (present marks)) found before (only verdict))
verdict-ends rows floors given marks (Split pick cert) found best before done each only is verdict =
    subst (λ (ds : List Domain). HasCause rows.program given ds (before ++ option_to_list found) pick cert) (sym (domains-views marks)) (record {
      exhausted = exhausted_of rows.program.rows (present marks) each done;
      polished = verdict.0;
      above = over-above (cert_cap rows.program (present marks) cert) best (before ++ option_to_list found) (within-not_bad (cert_cap rows.program (present marks) plain_cert) (cert_cap rows.program (present marks) cert) verdict.0.no_higher) is verdict.2;
      reached = best-reached floors pick.floor best (before ++ option_to_list found) is verdict.3;
      parted = verdict.1;
    })
verdict-ends rows floors given marks Node found best before done each only is verdict = absurd verdict
verdict-ends rows floors given marks (Cut cut) found best before done each only is verdict = absurd verdict
verdict-ends rows floors given marks (FoundItem f) found best before done each only is verdict = absurd verdict
verdict-ends rows floors given marks Empty found best before done each only is verdict = absurd verdict
verdict-ends rows floors given marks (Pending cert) found best before done each only is verdict = absurd verdict

-- a split leaves a value above it
max_most : (d : Domain) (m : ℕ) → IsNormal d → IsOpen (shared d (over m)) → m ≤ 254
max_most d m n some =
    ⊎_elim
    (λ (less : m < 255). omega arith)
    (λ (more : 255 ≤ m). let none = over_none d.zero d.lo d.hi m n.positive n.byte (omega (arith, n.byte)) in absurd (omega (arith, none, some)))
    (cases_lt m 255)

-- and its item is fit
pub verdict-fit : (rows : Rows) (floors : Bool) (given : ℕ) (ds : List Domain) (best : Option ℤ) (item : RowItem) → All IsNormal ds → length ds ≡ length rows.program.root → IsBoxVerdict rows floors given ds best item → IsFitItem rows floors item
verdict-fit rows floors given ds best (Dual cert) normal' slots verdict =
    total-fit rows.program ds cert (cap-total cert.scale (total_at rows.program ds cert) (not_over-not_bad (cert_cap rows.program ds cert) best verdict))
verdict-fit rows floors given ds best Point normal' slots verdict = tt
verdict-fit rows floors given ds best (Split pick cert) normal' slots verdict =
    let left = left_by rows.program ds cert pick.floor in
    let parts : IsParted given left pick = verdict.1 in
    let right = at_slot left pick.slot (shared (domain_at left pick.slot) (over pick.max)) parts.slot parts.right in (
      subst (λ n. pick.slot < n) (left_length rows.program ds cert pick.floor ∙ slots) parts.slot,
      max_most (domain_at left pick.slot) pick.max (left_normal rows.program ds cert pick.floor normal' pick.slot no_values parts.slot) right,
      total-fit rows.program ds cert verdict.0.total,
      floor_may pick.floor floors best verdict.3,
      floor_short pick.floor floors best verdict.3,
    )
verdict-fit rows floors given ds best Node normal' slots verdict = absurd verdict
verdict-fit rows floors given ds best (Cut cut) normal' slots verdict = absurd verdict
verdict-fit rows floors given ds best (FoundItem f) normal' slots verdict = absurd verdict
verdict-fit rows floors given ds best Empty normal' slots verdict = absurd verdict
verdict-fit rows floors given ds best (Pending cert) normal' slots verdict = absurd verdict

-- an item that ends a box with some found points ends it with any that have the same best
pub ends-same : (rows : Rows) (given : ℕ) (view : View) (item : RowItem) (best : Option Found) (fs gs : List Found) → IsBest best fs → IsBest best gs → ItemEnds rows given view fs item → ItemEnds rows given view gs item
ends-same rows given view Empty best fs gs is other ends = ends
ends-same rows given view (Dual cert) best fs gs is other ends = closed-same ((steps_of rows).cap view cert) best fs gs is other ends
ends-same rows given view Point best fs gs is other ends = closed-same ((steps_of rows).settle view) best fs gs is other ends
ends-same rows given view (Split pick cert) best fs gs is other ends = record {
  exhausted = ends.exhausted;
  polished = ends.polished;
  above = above-same (cert_cap rows.program (domains_of view) cert) best fs gs is other ends.above;
  reached = reached-same pick.floor best fs gs is other ends.reached;
  parted = ends.parted;
}
ends-same rows given view Node best fs gs is other ends = absurd ends
ends-same rows given view (Cut cut) best fs gs is other ends = absurd ends
ends-same rows given view (FoundItem f) best fs gs is other ends = absurd ends
ends-same rows given view (Pending cert) best fs gs is other ends = absurd ends

-- no other item ends a box
pub ends-only : (rows : Rows) (given : ℕ) (view : View) (fs : List Found) (item : RowItem) → ItemEnds rows given view fs item → (item ≡ Empty → ⊥) → ((cert : Cert) → item ≡ Dual cert → ⊥) → (item ≡ Point → ⊥) → ((pick : RowPick) (cert : Cert) → item ≡ Split pick cert → ⊥) → ⊥
ends-only rows given view fs Empty ends empty dual point split = empty refl
ends-only rows given view fs (Dual cert) ends empty dual point split = dual cert refl
ends-only rows given view fs Point ends empty dual point split = point refl
ends-only rows given view fs (Split pick cert) ends empty dual point split = split pick cert refl
ends-only rows given view fs Node ends empty dual point split = ends
ends-only rows given view fs (Cut cut) ends empty dual point split = ends
ends-only rows given view fs (FoundItem f) ends empty dual point split = ends
ends-only rows given view fs (Pending cert) ends empty dual point split = ends

-- a split leaves a split to its parts
pub ends-room : (rows : Rows) (given : ℕ) (view : View) (fs : List Found) (item : RowItem) → Fits rows.program view → ItemEnds rows given view fs item → (1 ≤ view_splits view) ⊎ ((pick : RowPick) (cert : Cert) → item ≡ Split pick cert → ⊥)
ends-room rows given view fs Empty fit ends = inr (λ pick cert same. cc)
ends-room rows given view fs (Dual c) fit ends = inr (λ pick cert same. cc)
ends-room rows given view fs Point fit ends = inr (λ pick cert same. cc)
ends-room rows given view fs (Split pick cert) fit ends =
    let rest = (steps_of rows).trim view pick cert in
    let less = left_to rows.program view pick cert fit in
    let parts : IsParted given (domains_of rest) pick = parted_there rows.program view pick cert ends in
    let part = left_there rows.program rest pick parts in
    inl (omega (arith, less.splits, splits-left rows.program rest part.0 pick parts part.1))
ends-room rows given view fs Node fit ends = absurd ends
ends-room rows given view fs (Cut cut) fit ends = absurd ends
ends-room rows given view fs (FoundItem f) fit ends = absurd ends
ends-room rows given view fs (Pending cert) fit ends = absurd ends

-- the certificate of a part that is left open is fit
pub pending-fit : (rows : Rows) (floors : Bool) (view : View) (cert : Cert) → (steps_of rows).cap view cert ≢ Bad → IsFitItem rows floors (Pending cert)
unfolding row_steps
pending-fit rows floors view cert some = total-fit rows.program (domains_of view) cert (cap-total cert.scale (total_at rows.program (domains_of view) cert) some)
