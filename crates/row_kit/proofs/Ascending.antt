-- Entries whose slots ascend, one place at a time.
use Rattle.std.proofs.Common.{◌≡◌, ℕ, zero, suc, ◌+◌, ◌-◌, ◌<◌, ◌≤◌, List, length, map, get_or, pos, ap, ⊎_elim, arith}
use Rattle.std.proofs.lemmas.List.{get_or-map, length-map}
use Rattle.std.proofs.lemmas.Bool.{cases_lt}
use Rattle.std.specs.List.Sorted.{IsStrictlyIncreasing}
use Rattle.row_kit.specs.declared.row.Entry.{Entry}
use Rattle.row_kit.specs.Bounds.{AreBounded}

-- an entry for a place where there is none
abbrev pub no_entry : Entry
no_entry = record { slot = 0; fixed = pos 0; per = pos 0 }

-- the slot at a place, in the list of slots
pub slot_at : (es : List Entry) (k : ℕ) → k < length es → get_or (map (λ e. e.slot) es) k 0 ≡ (get_or es k no_entry).slot
slot_at es k lt = get_or-map (λ (e : Entry). e.slot) es k no_entry 0 lt

pub ascends_more : (es : List Entry) (i : ℕ) → ((k : ℕ) → k + 1 < i → get_or (map (λ e. e.slot) es) k 0 < get_or (map (λ e. e.slot) es) (k + 1) 0) → i < length es → (get_or es (i - 1) no_entry).slot < (get_or es i no_entry).slot → (k : ℕ) → k + 1 < i + 1 → get_or (map (λ e. e.slot) es) k 0 < get_or (map (λ e. e.slot) es) (k + 1) 0
ascends_more es i before lt here k h =
    ⊎_elim (λ (low : k + 1 < i). before k low)
    (λ (high : i ≤ k + 1).
    let at_k : k ≡ i - 1 = omega arith in
    let at_next : k + 1 ≡ i = omega arith in
    omega (arith, here, slot_at es k (omega arith), slot_at es (k + 1) (omega arith), ap (λ (n : ℕ). (get_or es n no_entry).slot) at_k, ap (λ (n : ℕ). (get_or es n no_entry).slot) at_next))
    (cases_lt (k + 1) i)

pub descends_at : (es : List Entry) (i : ℕ) → 1 ≤ i → i < length es → (get_or es i no_entry).slot ≤ (get_or es (i - 1) no_entry).slot → ((k : ℕ) → k + 1 < length (map (λ (e : Entry). e.slot) es) → get_or (map (λ e. e.slot) es) k 0 < get_or (map (λ e. e.slot) es) (k + 1) 0) → ⊥
descends_at es i low lt here ascends =
    let h : i - 1 + 1 ≡ i = omega arith in
    let up = ascends (i - 1) (omega (arith, length-map es (λ (e : Entry). e.slot))) in
    omega (arith, here, up, slot_at es (i - 1) (omega arith), slot_at es i lt, ap (λ (n : ℕ). get_or (map (λ (e : Entry). e.slot) es) n 0) h)

-- slots that ascend are at least their places
at_least : (es : List Entry) → IsStrictlyIncreasing (map (λ e. e.slot) es) → (k : ℕ) → k < length es → k ≤ (get_or es k no_entry).slot
at_least es up zero lt = omega arith
at_least es up (suc k) lt =
    let before = at_least es up k (omega arith) in
    let step = up k (omega (arith, length-map es (λ (e : Entry). e.slot))) in
    let next : k + 1 ≡ suc k = omega arith in
    omega (arith, before, step, slot_at es k (omega arith), slot_at es (suc k) lt, ap (λ (n : ℕ). get_or (map (λ (e : Entry). e.slot) es) n 0) next)

-- so there are no more entries than slots
pub few_entries : (n most : ℕ) (es : List Entry) → AreBounded n most es → length es ≤ n
few_entries n most es bounded =
    ⊎_elim
    (λ (some : 0 < length es).
    let k = length es - 1 in
    let lt : k < length es = omega arith in
    omega (arith, at_least es bounded.ascending k lt, bounded.named k no_entry lt))
    (λ (none : length es ≤ 0). omega arith)
    (cases_lt 0 (length es))

-- an earlier entry has a lesser slot
rises_by : (es : List Entry) → IsStrictlyIncreasing (map (λ e. e.slot) es) → (j n : ℕ) → j + n + 1 < length es → (get_or es j no_entry).slot < (get_or es (j + n + 1) no_entry).slot
rises_by es up j zero lt =
    let e : j + 0 + 1 ≡ j + 1 = omega arith in
    let step = up j (omega (arith, length-map es (λ (e : Entry). e.slot))) in
    omega (arith, step, slot_at es j (omega arith), slot_at es (j + 1) (omega arith), ap (λ (k : ℕ). (get_or es k no_entry).slot) e)
rises_by es up j (suc n) lt =
    let before = rises_by es up j n (omega arith) in
    let e : j + suc n + 1 ≡ j + n + 1 + 1 = omega arith in
    let step = up (j + n + 1) (omega (arith, length-map es (λ (e : Entry). e.slot))) in
    omega (arith, before, step, slot_at es (j + n + 1) (omega arith), slot_at es (j + n + 1 + 1) (omega arith), ap (λ (k : ℕ). (get_or es k no_entry).slot) e)

-- so two entries have two slots
pub other_slots : (es : List Entry) → IsStrictlyIncreasing (map (λ e. e.slot) es) → (j k : ℕ) → j < length es → k < length es → (j ≡ k → ⊥) → (get_or es j no_entry).slot ≡ (get_or es k no_entry).slot → ⊥
other_slots es up j k in_j in_k apart same =
    ⊎_elim
    (λ (low : j < k).
    let e : j + (k - j - 1) + 1 ≡ k = omega arith in
    omega (arith, same, rises_by es up j (k - j - 1) (omega arith), ap (λ (n : ℕ). (get_or es n no_entry).slot) e))
    (λ (high : k ≤ j).
    let more : k < j = lesser j k high apart in
    let e : k + (j - k - 1) + 1 ≡ j = omega arith in
    omega (arith, same, rises_by es up k (j - k - 1) (omega arith), ap (λ (n : ℕ). (get_or es n no_entry).slot) e))
    (cases_lt j k)
  where
    lesser : (j k : ℕ) → k ≤ j → (j ≡ k → ⊥) → k < j
    lesser j k h apart = omega arith
