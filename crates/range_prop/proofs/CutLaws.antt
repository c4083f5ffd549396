-- What a cut leaves: a normal domain, and each point that keeps the row.
use Rattle.std.proofs.Common.{◌≡◌, ℕ, ◌<◌, ◌≤◌, Bool, true, false, not, List, length, get_or, set, refl, sym, ap, ◌∙◌, subst, ⊎_elim, arith, ℤ, ◌+ℤ◌, ◌-ℤ◌, ◌≤ℤ◌}
use Rattle.std.specs.Prelude.{int_le}
use Rattle.std.specs.List.{All, Any, list_any}
use Rattle.std.proofs.lemmas.Bool.{cases_Bool, cond-true, cond-false, eqb-true, eq-eqb, false≢true}
use Rattle.std.proofs.lemmas.Int.{ints}
use Rattle.std.proofs.lemmas.List.{set-get_or}
use Rattle.std.proofs.lemmas.List.Folds.{Any-from_list_any, list_any-from_Any}
use Rattle.row_kit.specs.declared.domain.Domain.{Domain}
use Rattle.row_kit.specs.declared.row.Entry.{Entry}
use Rattle.row_kit.specs.declared.row.Row.{Row}
use Rattle.row_kit.specs.Domain.{Holds, IsBare, IsNormal, count_of, domain_at, no_values}
use Rattle.row_kit.specs.Point.{LiesIn}
use Rattle.row_kit.specs.Row.{IsKept, counted, entries_sum, entry_at}
use Rattle.row_kit.proofs.Marks.{LiesIn-set}
use Rattle.row_kit.specs.Points.{points_of}
use Rattle.row_kit.proofs.Histories.{is_same_true}
use Rattle.row_kit.proofs.PointCounts.{points-set_le}
use Rattle.range_prop.specs.Cut.{cut_domain, shrinks, has_room, is_bare, kept_of, least_others}
use Rattle.range_prop.proofs.Entries.{row_at_least}
use Rattle.range_prop.proofs.Kept.{kept_fewer, kept_holds, kept_normal, kept_same, kept_within}
use Rattle.range_prop.proofs.Multiples.{le_true, true_le, same_test}
use Rattle.range_prop.proofs.Trails.{is_same_refl}
use Rattle.row_kit.specs.Area.{is_same}

-- whether some domain is empty
pub bare_decides : (b : Bool) (ds : List Domain) → (b ≡ true → Any IsBare ds) → (Any IsBare ds → b ≡ true) → b ≡ list_any is_bare ds
bare_decides b ds to from' =
    same_test b (list_any is_bare ds)
    (λ e. let some = to e in list_any-from_Any is_bare ds (some.0, some.1, some.2, some.3, eq-eqb (count_of some.1) 0 some.4))
    (λ e. let some = Any-from_list_any is_bare ds e in from' (some.0, some.1, some.2, some.3, eqb-true (count_of some.1) 0 some.4))

pub cut_bare : (row : Row) (slot : ℕ) (ds : List Domain) → list_any is_bare ds ≡ true → cut_domain row slot ds ≡ domain_at ds slot
unfolding cut_domain
cut_bare row slot ds e = cond-true (list_any is_bare ds) (domain_at ds slot) (kept_of (has_room row slot ds) (domain_at ds slot)) e

pub cut_open : (row : Row) (slot : ℕ) (ds : List Domain) → list_any is_bare ds ≡ false → cut_domain row slot ds ≡ kept_of (has_room row slot ds) (domain_at ds slot)
unfolding cut_domain
cut_open row slot ds e = cond-false (list_any is_bare ds) (domain_at ds slot) (kept_of (has_room row slot ds) (domain_at ds slot)) e

-- a cut leaves a normal domain
pub cut_normal : (row : Row) (slot : ℕ) (ds : List Domain) → IsNormal (domain_at ds slot) → IsNormal (cut_domain row slot ds)
cut_normal row slot ds normal' =
    ⊎_elim
    (λ (e : list_any is_bare ds ≡ true). subst IsNormal (sym (cut_bare row slot ds e)) normal')
    (λ (e : list_any is_bare ds ≡ false). subst IsNormal (sym (cut_open row slot ds e)) (kept_normal (has_room row slot ds) (domain_at ds slot) normal'))
    (cases_Bool (list_any is_bare ds))

le_le : (a b c : ℤ) → a ≤ℤ b → b ≤ℤ c → a ≤ℤ c
le_le a b c h k = omega (arith, ints)

-- each point of the domains that keeps the row stays
pub cut_keeps : (row : Row) (slot : ℕ) (ds : List Domain) (p : List ℕ) → slot < length ds → IsNormal (domain_at ds slot) → All (λ e. e.slot < length ds) row.entries → LiesIn ds p → IsKept p row → LiesIn (set ds slot (cut_domain row slot ds)) p
cut_keeps row slot ds p lt normal' named lies kept =
    ⊎_elim
    (λ (e : list_any is_bare ds ≡ true).
    let same : set ds slot (cut_domain row slot ds) ≡ ds = ap (set ds slot) (cut_bare row slot ds e) ∙ set-get_or ds slot no_values in
    subst (λ (x : List Domain). LiesIn x p) (sym same) lies)
    (λ (e : list_any is_bare ds ≡ false).
    let room = le_le (entry_at row.entries slot (get_or p slot 0) +ℤ least_others row.entries slot ds) (entries_sum row.entries p) row.limit (row_at_least row.entries slot ds p named lies) kept in
    let pass = le_true (entry_at row.entries slot (get_or p slot 0) +ℤ least_others row.entries slot ds) row.limit room in
    let held = kept_holds (has_room row slot ds) (domain_at ds slot) (get_or p slot 0) normal'.positive (lies.held slot lt) pass in
    subst (λ (x : Domain). LiesIn (set ds slot x) p) (sym (cut_open row slot ds e)) (LiesIn-set ds p slot (kept_of (has_room row slot ds) (domain_at ds slot)) lt lies held))
    (cases_Bool (list_any is_bare ds))

pub moved : (own c others limit room : ℤ) → own ≡ c → room ≡ limit -ℤ others → (own +ℤ others) ≤ℤ limit → c ≤ℤ room
moved own c others limit room e q h = omega (arith, ints)

pub moved_back : (own c others limit room : ℤ) → own ≡ c → room ≡ limit -ℤ others → c ≤ℤ room → (own +ℤ others) ≤ℤ limit
moved_back own c others limit room e q h = omega (arith, ints)

-- a row has room where the slot's own entry counts at most the limit less the least others
pub has_room_is : (row : Row) (slot : ℕ) (ds : List Domain) (own : Entry) (room : ℤ) (v : ℕ) → entry_at row.entries slot v ≡ counted own v → room ≡ row.limit -ℤ least_others row.entries slot ds → has_room row slot ds v ≡ int_le (counted own v) room
has_room_is row slot ds own room v e q =
    let others = least_others row.entries slot ds in
    same_test (has_room row slot ds v) (int_le (counted own v) room)
    (λ h. le_true (counted own v) room (moved (entry_at row.entries slot v) (counted own v) others row.limit room e q (true_le (entry_at row.entries slot v +ℤ others) row.limit h)))
    (λ h. le_true (entry_at row.entries slot v +ℤ others) row.limit (moved_back (entry_at row.entries slot v) (counted own v) others row.limit room e q (true_le (counted own v) room h)))

-- what a cut leaves, by the slot's own entry and the room
pub cut_is : (row : Row) (slot : ℕ) (ds : List Domain) (own : Entry) (room : ℤ) → list_any is_bare ds ≡ false → ((v : ℕ) → entry_at row.entries slot v ≡ counted own v) → room ≡ row.limit -ℤ least_others row.entries slot ds → cut_domain row slot ds ≡ kept_of (λ v. int_le (counted own v) room) (domain_at ds slot)
cut_is row slot ds own room e own_is q =
    cut_open row slot ds e ∙ kept_same (has_room row slot ds) (λ v. int_le (counted own v) room) (domain_at ds slot) (λ v. has_room_is row slot ds own room v (own_is v) q)

-- a cut that shrinks a domain takes a value away
pub cut_fewer : (row : Row) (slot : ℕ) (ds : List Domain) → IsNormal (domain_at ds slot) → shrinks row slot ds ≡ true → count_of (cut_domain row slot ds) < count_of (domain_at ds slot)
cut_fewer row slot ds normal' less =
    ⊎_elim
    (λ (e : list_any is_bare ds ≡ true). absurd (false≢true (sym (ap not (ap (is_same (domain_at ds slot)) (cut_bare row slot ds e) ∙ is_same_refl (domain_at ds slot))) ∙ less)))
    (λ (e : list_any is_bare ds ≡ false).
    let is = cut_open row slot ds e in
    let other = not_true (is_same (domain_at ds slot) (cut_domain row slot ds)) less in
    let fewer = kept_fewer (has_room row slot ds) (domain_at ds slot) normal' (ap (is_same (domain_at ds slot)) (sym is) ∙ other) in
    omega (arith, fewer, ap count_of is))
    (cases_Bool (list_any is_bare ds))
  where
    not_true : (b : Bool) → not b ≡ true → b ≡ false
    not_true true h = sym h
    not_true false h = refl

-- a cut leaves no more values than there were
pub cut_at_most : (row : Row) (slot : ℕ) (ds : List Domain) → IsNormal (domain_at ds slot) → count_of (cut_domain row slot ds) ≤ count_of (domain_at ds slot)
cut_at_most row slot ds normal' =
    let d = domain_at ds slot in
    let cut = cut_domain row slot ds in
    ⊎_elim
    (λ (same : is_same d cut ≡ true). omega (arith, ap count_of (is_same_true d cut same)))
    (λ (other : is_same d cut ≡ false). omega (arith, cut_fewer row slot ds normal' (ap not other)))
    (cases_Bool (is_same d cut))

-- so it leaves no more points
pub cut_points : (row : Row) (slot : ℕ) (ds : List Domain) → IsNormal (domain_at ds slot) → points_of (set ds slot (cut_domain row slot ds)) ≤ points_of ds
cut_points row slot ds normal' = points-set_le ds slot (cut_domain row slot ds) (cut_at_most row slot ds normal')

-- a cut adds no value
pub cut_within : (row : Row) (slot : ℕ) (ds : List Domain) (v : ℕ) → 1 ≤ (domain_at ds slot).lo → Holds (cut_domain row slot ds) v → Holds (domain_at ds slot) v
cut_within row slot ds v low held =
    ⊎_elim
    (λ (e : list_any is_bare ds ≡ true). subst (λ (x : Domain). Holds x v) (cut_bare row slot ds e) held)
    (λ (e : list_any is_bare ds ≡ false). kept_within (has_room row slot ds) (domain_at ds slot) v low (subst (λ (x : Domain). Holds x v) (cut_open row slot ds e) held))
    (cases_Bool (list_any is_bare ds))
