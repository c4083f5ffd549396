-- The gap rows are kept at a plan's point exactly where units are cleaned between its batches.
use Rattle.std.proofs.Common.{◌≡◌, ℕ, ◌+◌, ◌<◌, ◌≤◌, ◌==◌, ◌&&◌, ◌||◌, ◌⊎◌, ◌↔◌, not, nat_lt, Bool, true, false, cond, List, length, get_or, filter, sum_by, count_by, pos, ◌+ℤ◌, ◌-ℤ◌, ◌*ℤ◌, sym, refl, ap, ap₂, ◌∙◌, subst, arith, inl, inr}
use Rattle.std.specs.List.{All, AllPairs, Contains, range_with_len}
use Rattle.std.proofs.lemmas.Int.{ints}
use Rattle.std.proofs.lemmas.List.{get_or_default}
use Rattle.std.proofs.lemmas.List.Elements.{All-map, All-filter, All-contains, filter_passes}
use Rattle.std.proofs.lemmas.List.Sums.{get_or-le-sum_by, AllPass-from_list_all, list_all-from_AllPass}
use Rattle.std.proofs.lemmas.Bool.{eqb-true, eq-eqb, leb-true, le-leb, ltb-true, lt-ltb, and_parts, and_from, or_left, or_right, or_from, not-true, not_from_false, cases_lt, cases_order, cases_Bool, cond-true, cond-false, false_from_ne_true}
use Rattle.stn_model.specs.declared.plant.Plant.{Plant}
use Rattle.stn_model.specs.declared.start.Start.{Start}
use Rattle.stn_model.specs.Plant.{task_at, duration_of, gap_between, end_of, no_run, run_at}
use Rattle.stn_model.specs.Batches.{Apart, Cleaned, is_amid, is_next}
use Rattle.stn_model.specs.Points.{meets_gap}
use Rattle.stn_model.specs.Sound.{Sound, SoundRun}
use Rattle.time_grid.specs.Slots.{slots, IsSlotOf}
use Rattle.time_grid.specs.PlanPoint.{HasPoint, plan_point, start_in, is_in}
use Rattle.time_grid.proofs.Lists.{All-flat_map, Contains-flat_map, Contains-map, Contains-filter, Contains-range}
use Rattle.time_grid.proofs.SlotList.{slots-are, Contains-slots}
use Rattle.stn_model.proofs.Fitting.{duration_pos, ends_later}
use Rattle.time_grid.proofs.OnePlan.{sum_by-zero}
use Rattle.time_grid.proofs.PointSums.{total-minus}
use Rattle.row_kit.specs.declared.row.Row.{Row}
use Rattle.row_kit.specs.Row.{entries_sum, IsKept}
use Rattle.unit_rows.specs.Busy.{slot_end, is_on}
use Rattle.unit_rows.specs.Gaps.{is_either, lies_between, gap_part, gap_row, is_too_soon, rows_after, unit_gap_rows, gap_rows}
use Rattle.unit_rows.proofs.Counts.{two_counted, passes_one, either_counted}
use Rattle.unit_rows.proofs.PointRows.{entries_sum-plan_point, InSlot, in_slot, is_slot-in, part_is, slotted, one_in_slot}

-- a start is in one of two slots
abbrev is_in_either : Plant → ℕ × ℕ → ℕ × ℕ → Start → Bool
is_in_either plant a b start = is_in plant a start || is_in plant b start

-- a start of the unit lies strictly between the periods of two slots
abbrev is_amid_slots : Plant → ℕ × ℕ → ℕ × ℕ → Start → Bool
is_amid_slots plant a b start = start.unit == (run_at plant a.0).unit && nat_lt a.1 start.period && nat_lt start.period b.1

-- 1 for a start between the slots that is in neither
abbrev amid : Plant → ℕ × ℕ → ℕ × ℕ → Start → ℕ
amid plant a b start = cond (is_in_either plant a b start) 0 (cond (is_amid_slots plant a b start) 1 0)

-- a slot counts what its starts do
gap_part-counts : (plant : Plant) (a b c : ℕ × ℕ) (value : ℕ) → Sound plant → IsSlotOf plant a → IsSlotOf plant b → IsSlotOf plant c →
    (gap_part plant a b c).0 +ℤ ((gap_part plant a b c).1 *ℤ pos value)
    ≡ pos (cond (is_in_either plant a b (start_in plant c value)) 1 0) -ℤ pos (amid plant a b (start_in plant c value))
gap_part-counts plant a b c value sound is is2 is3 =
    part_is (is_either a b c) (lies_between plant a b c) value
    ∙ ap (λ t. pos (cond t 1 0) -ℤ pos (cond t 0 (cond (lies_between plant a b c) 1 0)))
    (ap₂ (λ s t. s || t) (is_slot-in plant a c value sound is is3) (is_slot-in plant b c value sound is2 is3))

-- a gap row counts the starts in its two slots, less those between
pub gap_row-counts : (plant : Plant) (a b : ℕ × ℕ) (plan : List Start) → Sound plant → HasPoint plant plan → IsSlotOf plant a → IsSlotOf plant b →
    entries_sum (gap_row plant a b).entries (plan_point plant plan) ≡ pos (count_by (is_in_either plant a b) plan) -ℤ pos (sum_by (amid plant a b) plan)
unfolding gap_row
gap_row-counts plant a b plan sound has is is2 =
    entries_sum-plan_point plant (gap_part plant a b) (λ start. pos (cond (is_in_either plant a b start) 1 0) -ℤ pos (amid plant a b start)) plan sound has
    (λ slot is3 value. gap_part-counts plant a b slot value sound is is2 is3)
    ∙ total-minus (λ start. cond (is_in_either plant a b start) 1 0) (amid plant a b) plan

gap_row-limit : (plant : Plant) (a b : ℕ × ℕ) → (gap_row plant a b).limit ≡ pos 1
unfolding gap_row
gap_row-limit plant a b = refl

pub gap_row-kept : (plant : Plant) (a b : ℕ × ℕ) (plan : List Start) → Sound plant → HasPoint plant plan → IsSlotOf plant a → IsSlotOf plant b →
    IsKept (plan_point plant plan) (gap_row plant a b) ↔ (count_by (is_in_either plant a b) plan ≤ 1 + sum_by (amid plant a b) plan)
gap_row-kept plant a b plan sound has is is2 =
    let sum = gap_row-counts plant a b plan sound has is is2 in
    let limit = gap_row-limit plant a b in
    (λ h. omega (arith, ints, sum, limit, h), λ h. omega (arith, ints, sum, limit, h))

-- what it means that two slots are too near for the cleaning
record TooNear (plant : Plant) (a b : ℕ × ℕ) : Type 0 where
  unit_is : (run_at plant a.0).unit ≡ (run_at plant b.0).unit
  ends : slot_end plant a ≤ b.1
  soon : b.1 < slot_end plant a + gap_between plant (run_at plant a.0).unit (run_at plant a.0).task (run_at plant b.0).task

too_near : (plant : Plant) (a b : ℕ × ℕ) → is_too_soon plant a b ≡ true → TooNear plant a b
unfolding meets_gap
too_near plant a b t =
    let p = and_parts _ _ t in
    let q = and_parts _ _ p.0 in
    let r = and_parts _ _ q.0 in
    let s = and_parts _ _ r.0 in
    record { unit_is = eqb-true _ _ s.0; ends = leb-true _ _ q.1; soon = ltb-true _ _ p.1 }

is_too_soon-from : (plant : Plant) (a b : ℕ × ℕ) → IsSlotOf plant a → IsSlotOf plant b → TooNear plant a b → is_too_soon plant a b ≡ true
unfolding meets_gap
is_too_soon-from plant a b is is2 near =
    and_from _ _ (and_from _ _ (and_from _ _ (and_from _ _ (eq-eqb _ _ near.unit_is) is.has) is2.has) (le-leb _ _ near.ends)) (lt-ltb _ _ near.soon)

-- the gap row of two slots that are too near is among the rows
Contains-gap_rows : (plant : Plant) (a b : ℕ × ℕ) → Sound plant → IsSlotOf plant a → IsSlotOf plant b → is_too_soon plant a b ≡ true → Contains (gap_rows plant) (gap_row plant a b)
unfolding gap_rows unit_gap_rows
Contains-gap_rows plant a b sound is is2 t =
    let unit = (run_at plant a.0).unit in
    let there : SoundRun plant (run_at plant a.0) = sound.runs a.0 no_run is.run in
    Contains-flat_map (unit_gap_rows plant) (range_with_len 0 (length plant.units)) unit (gap_row plant a b)
    (Contains-range 0 (length plant.units) unit (omega arith) (omega (arith, there.unit)))
    (Contains-flat_map (λ s. rows_after plant s (slots plant)) (filter (is_on plant unit) (slots plant)) a (gap_row plant a b)
    (Contains-filter (is_on plant unit) (slots plant) a (eq-eqb unit unit refl) (Contains-slots plant a is))
    (Contains-map (gap_row plant a) (filter (is_too_soon plant a) (slots plant)) b (Contains-filter (is_too_soon plant a) (slots plant) b t (Contains-slots plant b is2))))

-- what holds of the gap row of each two slots that are too near holds of all rows
pub All-gap_rows : (P : Row → Type 0) (plant : Plant) → ((a b : ℕ × ℕ) → IsSlotOf plant a → IsSlotOf plant b → is_too_soon plant a b ≡ true → P (gap_row plant a b)) → All P (gap_rows plant)
unfolding gap_rows unit_gap_rows
All-gap_rows P plant h =
    All-flat_map P (unit_gap_rows plant) (range_with_len 0 (length plant.units)) (λ k d l.
    let unit = get_or (range_with_len 0 (length plant.units)) k d in
    All-flat_map P (λ s. rows_after plant s (slots plant)) (filter (is_on plant unit) (slots plant)) (λ j e m.
    let a = get_or (filter (is_on plant unit) (slots plant)) j e in
    All-map P (gap_row plant a) (filter (is_too_soon plant a) (slots plant)) (λ i f n.
    h a (get_or (filter (is_too_soon plant a) (slots plant)) i f) (All-filter (is_on plant unit) (IsSlotOf plant) (slots plant) (slots-are plant) j e m)
    (All-filter (is_too_soon plant a) (IsSlotOf plant) (slots plant) (slots-are plant) i f n) (filter_passes (is_too_soon plant a) (slots plant) i f n))))

-- what it means that a start is a next one
record Next (plan : List Start) (a b : Start) : Type 0 where
  unit_is : a.unit ≡ b.unit
  later : a.period < b.period
  none_amid : All (λ c. is_amid a b c ≡ false) plan

next : (plan : List Start) (a b : Start) → is_next plan a b ≡ true → Next plan a b
unfolding is_next
next plan a b t =
    let p = and_parts _ _ t in
    let q = and_parts _ _ p.0 in
    record {
      unit_is = eqb-true _ _ q.0;
      later = ltb-true _ _ q.1;
      none_amid = λ k d l. not-true _ (AllPass-from_list_all (λ c. not (is_amid a b c)) plan p.1 k d l);
    }

is_next-from : (plan : List Start) (a b : Start) → Next plan a b → is_next plan a b ≡ true
unfolding is_next
is_next-from plan a b is =
    and_from _ _ (and_from _ _ (eq-eqb _ _ is.unit_is) (lt-ltb _ _ is.later)) (list_all-from_AllPass (λ c. not (is_amid a b c)) plan (λ k d l. not_from_false _ (is.none_amid k d l)))

-- the starts in two slots see the starts between them as the slots do
amid-same : (plant : Plant) (s t : ℕ × ℕ) (a b c : Start) → InSlot plant s a → InSlot plant t b → is_amid_slots plant s t c ≡ is_amid a b c
amid-same plant s t a b c first second =
    ap₂ (λ u n. c.unit == u && nat_lt n c.period && nat_lt c.period t.1) first.unit_is (sym first.period_is)
    ∙ ap (λ n. c.unit == a.unit && nat_lt a.period c.period && nat_lt c.period n) (sym second.period_is)

-- a batch that fits takes a period or more
slot_later : (plant : Plant) (s : ℕ × ℕ) → Sound plant → IsSlotOf plant s → s.1 < slot_end plant s
slot_later plant s sound is =
    let there : SoundRun plant (run_at plant s.0) = sound.runs s.0 no_run is.run in
    omega (arith, duration_pos plant (run_at plant s.0).task sound there.task)

-- a batch ends with its slot
end_is : (plant : Plant) (s : ℕ × ℕ) (a : Start) → InSlot plant s a → slot_end plant s ≡ end_of plant a
unfolding end_of
end_is plant s a is = ap₂ (λ p t. p + duration_of (task_at plant t)) (sym is.period_is) is.task_is

gap_is : (plant : Plant) (s t : ℕ × ℕ) (a b : Start) → InSlot plant s a → InSlot plant t b →
    gap_between plant (run_at plant s.0).unit (run_at plant s.0).task (run_at plant t.0).task ≡ gap_between plant a.unit a.task b.task
gap_is plant s t a b first second =
    ap (λ u. gap_between plant u (run_at plant s.0).task (run_at plant t.0).task) first.unit_is ∙ ap₂ (gap_between plant a.unit) first.task_is second.task_is

-- where none lies between, none is counted
amid-none : (plant : Plant) (s t : ℕ × ℕ) (a b : Start) (plan : List Start) → InSlot plant s a → InSlot plant t b → All (λ c. is_amid a b c ≡ false) plan → sum_by (amid plant s t) plan ≡ 0
amid-none plant s t a b plan first second none =
    sum_by-zero (amid plant s t) plan (λ k d l.
    let c = get_or plan k d in
    let out : is_amid_slots plant s t c ≡ false = amid-same plant s t a b c first second ∙ none k d l in
    let zero : cond (is_amid_slots plant s t c) 1 0 ≡ 0 = cond-false {A = ℕ} (is_amid_slots plant s t c) 1 0 out in
    elim (cases_Bool (is_in_either plant s t c)) [
      | inl u ↦ cond-true {A = ℕ} (is_in_either plant s t c) 0 (cond (is_amid_slots plant s t c) 1 0) u
      | inr u ↦ cond-false {A = ℕ} (is_in_either plant s t c) 0 (cond (is_amid_slots plant s t c) 1 0) u ∙ zero
    ])

-- a next batch that begins too soon breaks the row of the two slots
too_many : (plant : Plant) (plan : List Start) (i j : ℕ) (d : Start) (s t : ℕ × ℕ) → i < length plan → j < length plan → Next plan (get_or plan i d) (get_or plan j d) →
    is_in plant s (get_or plan i d) ≡ true → is_in plant t (get_or plan j d) ≡ true → count_by (is_in_either plant s t) plan ≤ 1 + sum_by (amid plant s t) plan → ⊥
too_many plant plan i j d s t l m is first second most =
    let a = get_or plan i d in
    let b = get_or plan j d in
    let none = amid-none plant s t a b plan (in_slot plant s a first) (in_slot plant t b second) is.none_amid in
    let one : is_in_either plant s t a ≡ true = or_left _ _ first in
    let two : is_in_either plant s t b ≡ true = or_right _ _ second in
    elim (cases_order i j) [
      | inl e ↦ let same : a.period ≡ b.period = ap (λ k. (get_or plan k d).period) e in omega (arith, same, is.later)
      | inr o ↦ elim o [
        | inl n ↦ omega (arith, none, most, two_counted (is_in_either plant s t) plan i j d n m one two)
        | inr n ↦ omega (arith, none, most, two_counted (is_in_either plant s t) plan j i d n l two one)
      ]
    ]

-- of two batches on one unit that are apart, the later one begins when the other has ended
ended : (plant : Plant) (plan : List Start) (i j : ℕ) (d : Start) → Sound plant → HasPoint plant plan → AllPairs (Apart plant) plan → i < length plan → j < length plan →
    (get_or plan i d).unit ≡ (get_or plan j d).unit → (get_or plan i d).period < (get_or plan j d).period → end_of plant (get_or plan i d) ≤ (get_or plan j d).period
ended plant plan i j d sound has apart l m e later =
    let a = get_or plan i d in
    let b = get_or plan j d in
    let ends : b.period < end_of plant b = ends_later plant b sound (has.fits j d m) in
    let either : (end_of plant a ≤ b.period) ⊎ (end_of plant b ≤ a.period) = elim (cases_order i j) [
      | inl same ↦ let k : a.period ≡ b.period = ap (λ p. (get_or plan p d).period) same in absurd (omega (arith, k, later))
      | inr o ↦ elim o [
        | inl n ↦ apart i j d n m e
        | inr n ↦ elim (apart j i d n l (sym e)) [ inl h ↦ inr h | inr h ↦ inl h ]
      ]
    ] in
    elim either [ inl h ↦ h | inr h ↦ absurd (omega (arith, h, ends, later)) ]

-- where the gap rows are kept, the units are cleaned
cleaned_from_rows : (plant : Plant) (plan : List Start) → Sound plant → HasPoint plant plan → AllPairs (Apart plant) plan →
    All (IsKept (plan_point plant plan)) (gap_rows plant) → All (λ a. All (Cleaned plant plan a) plan) plan
cleaned_from_rows plant plan sound has apart kept i d l j e m is =
    let same : get_or plan j e ≡ get_or plan j d = get_or_default plan j e d m in
    let a = get_or plan i d in
    let b = get_or plan j d in
    let following : Next plan a b = next plan a b (subst (λ (c : Start). is_next plan a c ≡ true) same is) in
    let first = slotted plant plan i d sound has l in
    let second = slotted plant plan j d sound has m in
    let s = first.slot in
    let t = second.slot in
    let one = in_slot plant s a first.holds in
    let two = in_slot plant t b second.holds in
    let before : end_of plant a ≤ b.period = ended plant plan i j d sound has apart l m following.unit_is following.later in
    subst (λ (c : Start). end_of plant a + gap_between plant a.unit a.task c.task ≤ c.period) (sym same)
    (elim (cases_lt b.period (end_of plant a + gap_between plant a.unit a.task b.task)) [
      | inr h ↦ h
      | inl h ↦
          let near : TooNear plant s t = record {
            unit_is = one.unit_is ∙ following.unit_is ∙ sym two.unit_is;
            ends = omega (arith, end_is plant s a one, two.period_is, before);
            soon = omega (arith, end_is plant s a one, gap_is plant s t a b one two, two.period_is, h);
          } in
          let soon = is_too_soon-from plant s t first.is second.is near in
          let row = All-contains (IsKept (plan_point plant plan)) (gap_rows plant) (gap_row plant s t) kept (Contains-gap_rows plant s t sound first.is second.is soon) in
          absurd (too_many plant plan i j d s t l m following first.holds second.holds ((gap_row-kept plant s t plan sound has first.is second.is).0 row))
    ])

strictly : (plant : Plant) (s t : ℕ × ℕ) (c : Start) → is_amid_slots plant s t c ≡ true → (s.1 < c.period) × (c.period < t.1)
strictly plant s t c u =
    let parts = and_parts _ _ u in
    (ltb-true _ _ (and_parts _ _ parts.0).1, ltb-true _ _ parts.1)

-- a start strictly between two slots is in neither, so it is counted
amid-one : (plant : Plant) (s t : ℕ × ℕ) (c : Start) → is_amid_slots plant s t c ≡ true → amid plant s t c ≡ 1
amid-one plant s t c u =
    let later : s.1 < c.period = (strictly plant s t c u).0 in
    let sooner : c.period < t.1 = (strictly plant s t c u).1 in
    let out : is_in_either plant s t c ≡ false = or_from _ _
    (false_from_ne_true (is_in plant s c) (λ h. let is = in_slot plant s c h in omega (arith, is.period_is, later)))
    (false_from_ne_true (is_in plant t c) (λ h. let is = in_slot plant t c h in omega (arith, is.period_is, sooner))) in
    cond-false {A = ℕ} (is_in_either plant s t c) 0 (cond (is_amid_slots plant s t c) 1 0) out ∙ cond-true {A = ℕ} (is_amid_slots plant s t c) 1 0 u

-- where none is counted, none lies between
none-amid : (plant : Plant) (s t : ℕ × ℕ) (a b : Start) (plan : List Start) → InSlot plant s a → InSlot plant t b → sum_by (amid plant s t) plan ≡ 0 → All (λ c. is_amid a b c ≡ false) plan
none-amid plant s t a b plan first second zero k d l =
    let c = get_or plan k d in
    false_from_ne_true (is_amid a b c) (λ u.
    let one = amid-one plant s t c (amid-same plant s t a b c first second ∙ u) in
    omega (arith, one, zero, get_or-le-sum_by (amid plant s t) plan k d l))

-- where the units are cleaned, no two starts are in slots that are too near, unless there is one between
row_from_cleaned : (plant : Plant) (plan : List Start) (s t : ℕ × ℕ) → Sound plant → HasPoint plant plan → All (λ a. All (Cleaned plant plan a) plan) plan →
    IsSlotOf plant s → is_too_soon plant s t ≡ true → count_by (is_in_either plant s t) plan ≤ 1 + sum_by (amid plant s t) plan
row_from_cleaned plant plan s t sound has cleaned is soon =
    let most = either_counted (is_in plant s) (is_in plant t) plan in
    let first = one_in_slot plant plan s has in
    let second = one_in_slot plant plan t has in
    let near = too_near plant s t soon in
    elim (cases_lt 1 (count_by (is_in_either plant s t) plan)) [
      | inr h ↦ omega (arith, h)
      | inl h ↦ elim (cases_lt 0 (sum_by (amid plant s t) plan)) [
        | inl k ↦ omega (arith, most, first, second, k)
        | inr k ↦
            let one = passes_one (is_in plant s) plan (omega (arith, most, second, h)) in
            let two = passes_one (is_in plant t) plan (omega (arith, most, first, h)) in
            absurd (pair one.place two.place one.within two.within one.passes two.passes near (omega (arith, k)))
      ]
    ]
  where
    pair : (i j : ℕ) → i < length plan → j < length plan → ((d : Start) → is_in plant s (get_or plan i d) ≡ true) → ((d : Start) → is_in plant t (get_or plan j d) ≡ true) →
        TooNear plant s t → sum_by (amid plant s t) plan ≡ 0 → ⊥
    pair i j l m holds holds2 near zero =
        let d : Start = start_in plant s 0 in
        let a = get_or plan i d in
        let b = get_or plan j d in
        let first = in_slot plant s a (holds d) in
        let second = in_slot plant t b (holds2 d) in
        let following : Next plan a b = record {
          unit_is = sym first.unit_is ∙ near.unit_is ∙ second.unit_is;
          later = omega (arith, first.period_is, second.period_is, near.ends, slot_later plant s sound is);
          none_amid = none-amid plant s t a b plan first second zero;
        } in
        let late = cleaned i d l j d m (is_next-from plan a b following) in
        omega (arith, late, end_is plant s a first, gap_is plant s t a b first second, second.period_is, near.soon)

-- given batches that are apart, the gap rows are kept exactly where the units are cleaned
pub gap_rows-kept : (plant : Plant) (plan : List Start) → Sound plant → HasPoint plant plan → AllPairs (Apart plant) plan →
    All (IsKept (plan_point plant plan)) (gap_rows plant) ↔ All (λ a. All (Cleaned plant plan a) plan) plan
gap_rows-kept plant plan sound has apart = (
  cleaned_from_rows plant plan sound has apart,
  λ cleaned. All-gap_rows (IsKept (plan_point plant plan)) plant (λ s t is is2 soon.
      (gap_row-kept plant s t plan sound has is is2).1 (row_from_cleaned plant plan s t sound has cleaned is soon)),
)
