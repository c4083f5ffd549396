-- One look at a row: cuts at the slots of its entries, one after another.
use Rattle.std.proofs.Common.{◌≡◌, ℕ, ◌+◌, ◌<◌, ◌≤◌, Bool, true, false, not, List, [], ◌∷◌, ◌++◌, length, map, get_or, set, refl, sym, ap, ◌∙◌, subst, ⊎_elim, arith, ℤ, ◌+ℤ◌, ◌-ℤ◌, ◌<ℤ◌, ◌≤ℤ◌}
use Rattle.std.specs.Prelude.{int_le}
use Rattle.std.specs.List.{All, Any, list_any}
use Rattle.std.specs.List.Sorted.{IsStrictlyIncreasing}
use Rattle.std.proofs.lemmas.Bool.{cases_lt, ne_eqb}
use Rattle.std.proofs.lemmas.Int.{ints}
use Rattle.std.proofs.lemmas.List.{get_or-set_same, get_or-set_other, length-set}
use Rattle.std.proofs.lemmas.List.Elements.{All-set}
use Rattle.std.proofs.lemmas.List.Folds.{list_any_none}
use Rattle.row_kit.specs.declared.domain.Domain.{Domain}
use Rattle.row_kit.specs.declared.row.Entry.{Entry}
use Rattle.row_kit.specs.declared.row.Row.{Row}
use Rattle.row_kit.specs.Area.{is_same, present, with_domain}
use Rattle.row_kit.specs.Domain.{Holds, IsBare, IsNormal, IsOpen, count_of, domain_at, no_values}
use Rattle.row_kit.specs.Row.{counted, entry_at, row_at}
use Rattle.row_kit.proofs.Ascending.{no_entry}
use Rattle.row_kit.proofs.Histories.{is_same_true}
use Rattle.range_prop.specs.declared.row_cut.RowCut.{RowCut}
use Rattle.range_prop.specs.Cut.{cut_domain, has_room, is_bare, kept_of, least_counted, least_others, shrinks}
use Rattle.range_prop.specs.laws.Sums.{least_sum}
use Rattle.range_prop.specs.Cuts.{HasCut, IsMade, after_cut}
use Rattle.range_prop.proofs.CutLaws.{cut_is, cut_normal, cut_open}
use Rattle.range_prop.proofs.Entries.{alone, least_counted-set, others_alone, own_alone}
use Rattle.range_prop.proofs.Kept.{kept_none}
use Rattle.range_prop.proofs.Rooms.{least_sum-same, sum_below}
use Rattle.range_prop.proofs.Sequences.{HasCut-one, HasCut-then, present-after_cut}
use Rattle.range_prop.proofs.Trails.{with_domain_same}

-- a record of a look that has come to an entry: what is cut, and that all entries before count little more than at their least
pub record IsCutTo (rows : List Row) (es : List Entry) (slack : ℤ) (old new : List (List Domain)) (before after : List RowCut) (i : ℕ) : Type 0 where
  pub cut : HasCut rows old new before after
  pub sum : least_sum es (present new) ≡ least_sum es (present old)
  pub open' : All IsOpen (present new)
  pub normal' : All IsNormal (present new)
  pub near : (k : ℕ) → k < i → (v : ℕ) → Holds (domain_at (present new) (get_or es k no_entry).slot) v → counted (get_or es k no_entry) v ≤ℤ (slack +ℤ least_counted (present new) (get_or es k no_entry))

-- where each domain holds a value, none is empty
pub open_none : (ds : List Domain) → All IsOpen ds → list_any is_bare ds ≡ false
open_none ds open' = list_any_none is_bare ds (λ k d lt. ne_eqb (count_of (get_or ds k d)) 0 (λ e. omega (arith, open' k d lt, e)))

room_of : (slack limit old new others l : ℤ) → slack ≡ limit -ℤ old → new ≡ old → others +ℤ l ≡ new → slack +ℤ l ≡ limit -ℤ others
room_of slack limit old new others l e f g = omega (arith, ints)

module _ (rows : List Row) (number : ℕ) (es : List Entry) (entries_are : es ≡ (row_at rows number).entries) (slack : ℤ) (old marks new : List (List Domain)) (before after : List RowCut) (i : ℕ) where
  abbrev e : Entry
  e = get_or es i no_entry

  abbrev d : Domain
  d = kept_of (λ v. int_le (counted e v) (slack +ℤ least_counted (present marks) e)) (domain_at (present marks) e.slot)

  -- the entry's slot has been given what its row leaves
  led : IsCutTo rows es slack old marks before after i → IsStrictlyIncreasing (map (λ x. x.slot) es) → i < length es → slack ≡ (row_at rows number).limit -ℤ least_sum es (present old) → cut_domain (row_at rows number) e.slot (present marks) ≡ d
  led h up lt is =
      let only = alone es up i lt in
      let room = room_of slack (row_at rows number).limit (least_sum es (present old)) (least_sum es (present marks)) (least_others es e.slot (present marks)) (least_counted (present marks) e) is h.sum (others_alone es i (present marks) lt only) in
      cut_is (row_at rows number) e.slot (present marks) e (slack +ℤ least_counted (present marks) e) (open_none (present marks) h.open') (λ v. ap (λ (xs : List Entry). entry_at xs e.slot v) (sym entries_are) ∙ own_alone es i v lt only)
      (room ∙ ap (λ (xs : List Entry). (row_at rows number).limit -ℤ least_others xs e.slot (present marks)) entries_are)

  -- the look goes on, whatever has been listed
  goes_on : (later : List RowCut) → IsCutTo rows es slack old marks before after i → IsStrictlyIncreasing (map (λ x. x.slot) es) → i < length es → e.slot < length (present marks) → slack ≡ (row_at rows number).limit -ℤ least_sum es (present old)
      → present new ≡ set (present marks) e.slot d → HasCut rows old new before later
      → ((v : ℕ) → Holds (domain_at (present new) e.slot) v → counted e v ≤ℤ (slack +ℤ least_counted (present marks) e))
      → least_counted (present new) e ≡ least_counted (present marks) e → IsOpen (domain_at (present new) e.slot)
      → IsCutTo rows es slack old new before later (i + 1)
  goes_on later h up lt in' is at cut near' least' open'' =
      let ds = present marks in
      let here : domain_at (present new) e.slot ≡ d = ap (λ (x : List Domain). domain_at x e.slot) at ∙ get_or-set_same ds e.slot d no_values in' in
      let normal2 : IsNormal d = subst IsNormal (led h up lt is) (cut_normal (row_at rows number) e.slot ds (h.normal' e.slot no_values in')) in
      record {
        cut = cut;
        sum = ap (least_sum es) at ∙ least_sum-same es i ds d up lt (sym (ap (λ (x : List Domain). least_counted x e) at) ∙ least') ∙ h.sum;
        open' = subst (All IsOpen) (sym at) (All-set IsOpen ds e.slot d (subst IsOpen here open'') h.open');
        normal' = subst (All IsNormal) (sym at) (All-set IsNormal ds e.slot d normal2 h.normal');
        near = λ k below v held.
            ⊎_elim
            (λ (earlier : k < i).
            let x = get_or es k no_entry in
            let apart = λ (s : x.slot ≡ e.slot). alone es up i lt k (omega arith) (λ q. omega (arith, q, earlier)) s in
            let domain : domain_at (present new) x.slot ≡ domain_at ds x.slot = ap (λ (z : List Domain). domain_at z x.slot) at ∙ get_or-set_other ds e.slot x.slot d no_values apart in
            let low : least_counted (present new) x ≡ least_counted ds x = ap (λ (z : List Domain). least_counted z x) at ∙ least_counted-set ds e.slot d x apart in
            subst (λ (z : ℤ). counted x v ≤ℤ (slack +ℤ z)) (sym low) (h.near k earlier v (subst (λ (z : Domain). Holds z v) domain held)))
            (λ (later' : i ≤ k).
            let same : k ≡ i = omega arith in
            let there = near' v (subst (λ (n : ℕ). Holds (domain_at (present new) (get_or es n no_entry).slot) v) same held) in
            let now' = subst (λ (z : ℤ). counted e v ≤ℤ (slack +ℤ z)) (sym least') there in
            subst (λ (n : ℕ). counted (get_or es n no_entry) v ≤ℤ (slack +ℤ least_counted (present new) (get_or es n no_entry))) (sym same) now')
            (cases_lt k i);
      }

-- where the domain shrank, the cut is listed
pub look_cut : (rows : List Row) (number : ℕ) (es : List Entry) → es ≡ (row_at rows number).entries → (slack : ℤ) (old marks new : List (List Domain)) (before after : List RowCut) (i : ℕ) → (let e = get_or es i no_entry in
    IsCutTo rows es slack old marks before after i → IsStrictlyIncreasing (map (λ x. x.slot) es) → number < length rows → i < length es → e.slot < length (present marks) → slack ≡ (row_at rows number).limit -ℤ least_sum es (present old)
    → new ≡ with_domain marks e.slot (kept_of (λ v. int_le (counted e v) (slack +ℤ least_counted (present marks) e)) (domain_at (present marks) e.slot))
    → not (is_same (domain_at (present marks) e.slot) (domain_at (present new) e.slot)) ≡ true
    → ((v : ℕ) → Holds (domain_at (present new) e.slot) v → counted e v ≤ℤ (slack +ℤ least_counted (present marks) e))
    → least_counted (present new) e ≡ least_counted (present marks) e → IsOpen (domain_at (present new) e.slot)
    → IsCutTo rows es slack old new before (after ++ record { row = number; slot = e.slot } ∷ []) (i + 1))
look_cut rows number es entries_are slack old marks new before after i h up in_rows lt in' is marks' less near' least' open'' =
    let e = get_or es i no_entry in
    let cut : RowCut = record { row = number; slot = e.slot } in
    let d = kept_of (λ (v : ℕ). int_le (counted e v) (slack +ℤ least_counted (present marks) e)) (domain_at (present marks) e.slot) in
    let to = led rows number es entries_are slack old marks new before after i h up lt is in
    let as_cut : new ≡ after_cut rows cut marks = marks' ∙ ap (with_domain marks e.slot) (sym to) in
    let at : present new ≡ set (present marks) e.slot d = ap present as_cut ∙ present-after_cut rows cut marks in' ∙ ap (set (present marks) e.slot) to in
    let here : domain_at (present new) e.slot ≡ d = ap (λ (x : List Domain). domain_at x e.slot) at ∙ get_or-set_same (present marks) e.slot d no_values in' in
    let shrank = ap (λ (x : Domain). not (is_same (domain_at (present marks) e.slot) x)) (to ∙ sym here) ∙ less in
    let made : IsMade rows cut (present marks) = record { row = in_rows; slot = in'; less = shrank } in
    let one = subst (λ (m : List (List Domain)). HasCut rows marks m after (after ++ cut ∷ [])) (sym as_cut) (HasCut-one rows marks after cut made) in
    goes_on rows number es entries_are slack old marks new before after i (after ++ cut ∷ []) h up lt in' is at (HasCut-then rows old marks new before after (after ++ cut ∷ []) h.cut one) near' least' open''

-- where it did not, nothing is
pub look_kept : (rows : List Row) (number : ℕ) (es : List Entry) → es ≡ (row_at rows number).entries → (slack : ℤ) (old marks new : List (List Domain)) (before after : List RowCut) (i : ℕ) → (let e = get_or es i no_entry in
    IsCutTo rows es slack old marks before after i → IsStrictlyIncreasing (map (λ x. x.slot) es) → i < length es → e.slot < length (present marks) → slack ≡ (row_at rows number).limit -ℤ least_sum es (present old)
    → new ≡ with_domain marks e.slot (kept_of (λ v. int_le (counted e v) (slack +ℤ least_counted (present marks) e)) (domain_at (present marks) e.slot))
    → not (is_same (domain_at (present marks) e.slot) (domain_at (present new) e.slot)) ≡ false
    → ((v : ℕ) → Holds (domain_at (present new) e.slot) v → counted e v ≤ℤ (slack +ℤ least_counted (present marks) e))
    → least_counted (present new) e ≡ least_counted (present marks) e → IsOpen (domain_at (present new) e.slot)
    → IsCutTo rows es slack old new before after (i + 1))
look_kept rows number es entries_are slack old marks new before after i h up lt in' is marks' same near' least' open'' =
    let e = get_or es i no_entry in
    let cut : RowCut = record { row = number; slot = e.slot } in
    let d = kept_of (λ (v : ℕ). int_le (counted e v) (slack +ℤ least_counted (present marks) e)) (domain_at (present marks) e.slot) in
    let to = led rows number es entries_are slack old marks new before after i h up lt is in
    let as_cut : new ≡ after_cut rows cut marks = marks' ∙ ap (with_domain marks e.slot) (sym to) in
    let at : present new ≡ set (present marks) e.slot d = ap present as_cut ∙ present-after_cut rows cut marks in' ∙ ap (set (present marks) e.slot) to in
    let here : domain_at (present new) e.slot ≡ d = ap (λ (x : List Domain). domain_at x e.slot) at ∙ get_or-set_same (present marks) e.slot d no_values in' in
    let is_d : domain_at (present marks) e.slot ≡ d = is_same_true (domain_at (present marks) e.slot) d (not_false (is_same (domain_at (present marks) e.slot) d) (ap (λ (x : Domain). not (is_same (domain_at (present marks) e.slot) x)) (sym here) ∙ same)) in
    let stays : new ≡ marks = marks' ∙ ap (with_domain marks e.slot) (sym is_d) ∙ with_domain_same marks e.slot in' in
    goes_on rows number es entries_are slack old marks new before after i after h up lt in' is at (subst (λ (m : List (List Domain)). HasCut rows old m before after) (sym stays) h.cut) near' least' open''
  where
    not_false : (b : Bool) → not b ≡ false → b ≡ true
    not_false true h = refl
    not_false false h = sym h

le_false : (a b : ℤ) → b <ℤ a → int_le a b ≡ false
le_false a b h = grind (arith, ints)

above : (limit sum own : ℤ) → limit <ℤ sum → sum ≤ℤ own → limit <ℤ own
above limit sum own h k = omega (arith, ints)

-- a row whose entries sum to more than its limit at least leaves no value to a slot
pub cut_to_none : (row : Row) (slot : ℕ) (ds : List Domain) → All IsOpen ds → IsNormal (domain_at ds slot) → row.limit <ℤ least_sum row.entries ds → count_of (cut_domain row slot ds) ≡ 0
cut_to_none row slot ds open' normal' more =
    ap count_of (cut_open row slot ds (open_none ds open'))
    ∙ kept_none (has_room row slot ds) (domain_at ds slot) normal' (λ v held. le_false (entry_at row.entries slot v +ℤ least_others row.entries slot ds) row.limit (above row.limit (least_sum row.entries ds) (entry_at row.entries slot v +ℤ least_others row.entries slot ds) more (sum_below row.entries slot v ds held)))

-- and so it shrinks the domain
pub shrinks_to_none : (row : Row) (slot : ℕ) (ds : List Domain) → IsOpen (domain_at ds slot) → count_of (cut_domain row slot ds) ≡ 0 → shrinks row slot ds ≡ true
shrinks_to_none row slot ds open' none = ap not (other (is_same (domain_at ds slot) (cut_domain row slot ds)) refl)
  where
    other : (b : Bool) → is_same (domain_at ds slot) (cut_domain row slot ds) ≡ b → b ≡ false
    other true e = absurd (omega (arith, open', none, ap count_of (is_same_true (domain_at ds slot) (cut_domain row slot ds) e)))
    other false e = refl

-- the one cut of such a row
pub look_none : (rows : List Row) (number : ℕ) (marks new : List (List Domain)) (xs ys : List RowCut) → number < length rows → 0 < length (present marks) → All IsOpen (present marks) → All IsNormal (present marks) → (row_at rows number).limit <ℤ least_sum (row_at rows number).entries (present marks)
    → new ≡ with_domain marks 0 (cut_domain (row_at rows number) 0 (present marks)) → ys ≡ xs ++ record { row = number; slot = 0 } ∷ []
    → HasCut rows marks new xs ys × Any IsBare (present new)
look_none rows number marks new xs ys in_rows some open' normal' more led listed =
    let row = row_at rows number in
    let ds = present marks in
    let cut : RowCut = record { row = number; slot = 0 } in
    let none = cut_to_none row 0 ds open' (normal' 0 no_values some) more in
    let less = shrinks_to_none row 0 ds (open' 0 no_values some) none in
    let made : IsMade rows cut ds = record { row = in_rows; slot = some; less = less } in
    let one = HasCut-one rows marks xs cut made in
    let at : present new ≡ set ds 0 (cut_domain row 0 ds) = ap present led ∙ present-after_cut rows cut marks some in (
      subst (λ (m : List (List Domain)). HasCut rows marks m xs ys) (sym led) (subst (λ (zs : List RowCut). HasCut rows marks (after_cut rows cut marks) xs zs) (sym listed) one),
      subst (Any IsBare) (sym at) (0, cut_domain row 0 ds, omega (arith, some, length-set ds 0 (cut_domain row 0 ds)), get_or-set_same ds 0 (cut_domain row 0 ds) (cut_domain row 0 ds) some, none),
    )
