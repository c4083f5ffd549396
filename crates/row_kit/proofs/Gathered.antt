-- The entries of slots: what they sum to, and their bounds.
use Rattle.std.proofs.Common.{◌≡◌, ℕ, zero, suc, ◌+◌, ◌<◌, ◌≤◌, true, false, List, [], ◌∷◌, ◌++◌, length, map, get_or, set, take, drop, refl, sym, ap, ap₂, ◌∙◌, inl, inr, arith, ℤ, pos, ◌+ℤ◌, unsigned_abs}
use Rattle.std.specs.List.{All}
use Rattle.std.specs.List.Sorted.{IsStrictlyIncreasing}
use Rattle.std.specs.Ordering.{int_eq}
use Rattle.std.proofs.lemmas.Bool.{cases_Bool, cond-true, cond-false, and_parts}
use Rattle.std.proofs.lemmas.Bool.Decides.{Decides-int_eq}
use Rattle.std.proofs.lemmas.List.{drop_more, take_more_set, map_more, take_all}
use Rattle.std.proofs.lemmas.List.Elements.{All-cons, All-head, All-tail}
use Rattle.std.proofs.Math.IntN.{+ℤ_idl}
use Rattle.row_kit.specs.declared.row.Entry.{Entry}
use Rattle.row_kit.specs.Row.{entries_sum, is_nothing, entries_from, part_at, parts_sum}
use Rattle.row_kit.specs.Bounds.{AreBounded}
use Rattle.row_kit.proofs.Values.{part_at-nothing}

-- the entry of a slot
abbrev entry : ℕ → ℤ × ℤ → Entry
entry slot parts = record { slot = slot; fixed = parts.0; per = parts.1 }

-- a slot without parts has no entry, and any other has one
pub entries-skip : (slot : ℕ) (parts : ℤ × ℤ) (rest : List (ℤ × ℤ)) → is_nothing parts ≡ true → entries_from slot (parts ∷ rest) ≡ entries_from (slot + 1) rest
entries-skip slot parts rest t = cond-true (is_nothing parts) (entries_from (slot + 1) rest) (entry slot parts ∷ entries_from (slot + 1) rest) t

pub entries-keep : (slot : ℕ) (parts : ℤ × ℤ) (rest : List (ℤ × ℤ)) → is_nothing parts ≡ false → entries_from slot (parts ∷ rest) ≡ entry slot parts ∷ entries_from (slot + 1) rest
entries-keep slot parts rest t = cond-false (is_nothing parts) (entries_from (slot + 1) rest) (entry slot parts ∷ entries_from (slot + 1) rest) t

-- a slot without parts counts nothing
nothing_counts : (parts : ℤ × ℤ) (value : ℕ) → is_nothing parts ≡ true → part_at parts value ≡ pos 0
nothing_counts parts value t =
    let both = and_parts (int_eq parts.0 (pos 0)) (int_eq parts.1 (pos 0)) t in
    ap₂ (λ fixed per. part_at (fixed, per) value) ((Decides-int_eq parts.0 (pos 0)).0 both.0) ((Decides-int_eq parts.1 (pos 0)).0 both.1) ∙ part_at-nothing value

sum_from : (slot : ℕ) (parts : List (ℤ × ℤ)) (point : List ℕ) → slot + length parts ≡ length point → entries_sum (entries_from slot parts) point ≡ parts_sum parts (drop slot point)
sum_from slot [] point e = refl
sum_from slot (parts ∷ rest) point e =
    let within : slot < length point = omega arith in
    let after : slot + 1 + length rest ≡ length point = omega arith in
    let more = sum_from (slot + 1) rest point after in
    let here = ap (parts_sum (parts ∷ rest)) (drop_more point slot 0 within) in
    let counts = part_at parts (get_or point slot 0) in
    elim (cases_Bool (is_nothing parts)) [
      | inl t ↦ ap (λ (es : List Entry). entries_sum es point) (entries-skip slot parts rest t) ∙ more
          ∙ sym (here ∙ ap (λ x. x +ℤ parts_sum rest (drop (slot + 1) point)) (nothing_counts parts (get_or point slot 0) t) ∙ +ℤ_idl (parts_sum rest (drop (slot + 1) point)))
      | inr t ↦ ap (λ (es : List Entry). entries_sum es point) (entries-keep slot parts rest t) ∙ ap (λ x. counts +ℤ x) more ∙ sym here
    ]

-- the entries of slots sum to what the slots count
pub entries_sum-from : (parts : List (ℤ × ℤ)) (point : List ℕ) → length parts ≡ length point → entries_sum (entries_from 0 parts) point ≡ parts_sum parts point
entries_sum-from parts point e = sum_from 0 parts point (omega arith)

-- both parts are no greater than this, in absolute value
pub record IsPartWithin (most : ℕ) (parts : ℤ × ℤ) : Type 0 where
  pub fixed : unsigned_abs parts.0 ≤ most
  pub per : unsigned_abs parts.1 ≤ most

-- what holds of the entry of each slot that has one
each_entry : (P : Entry → Type 0) (slot : ℕ) (parts : List (ℤ × ℤ)) → ((k : ℕ) (d : ℤ × ℤ) → k < length parts → P (entry (slot + k) (get_or parts k d))) → All P (entries_from slot parts)
each_entry P slot [] h = λ k d l. absurd (omega arith)
each_entry P slot (parts ∷ rest) h =
    let later : All P (entries_from (slot + 1) rest) = each_entry P (slot + 1) rest
    (λ k d l. let e : slot + suc k ≡ slot + 1 + k = omega arith in rw (← e) (h (suc k) d (omega arith))) in
    let first : P (entry slot parts) = let e : slot + 0 ≡ slot = omega arith in rw (← e) (h 0 parts (omega arith)) in
    elim (cases_Bool (is_nothing parts)) [
      | inl t ↦ rw (entries-skip slot parts rest t) later
      | inr t ↦ rw (entries-keep slot parts rest t) (All-cons P (entry slot parts) (entries_from (slot + 1) rest) first later)
    ]

rises : (xs : List ℕ) (x : ℕ) → All (λ y. x < y) xs → IsStrictlyIncreasing xs → IsStrictlyIncreasing (x ∷ xs)
rises xs x below up zero l = below 0 0 (omega arith)
rises xs x below up (suc k) l = let e : suc k + 1 ≡ suc (k + 1) = omega arith in rw e (up k (omega arith))

All-slots : (P : ℕ → Type 0) (es : List Entry) → All (λ e. P e.slot) es → All P (map (λ e. e.slot) es)
All-slots P [] h = λ k d l. absurd (omega arith)
All-slots P (e ∷ es) h = All-cons P e.slot (map (λ x. x.slot) es) (All-head (λ x. P x.slot) e es h) (All-slots P es (All-tail (λ x. P x.slot) e es h))

ascend_from : (slot : ℕ) (parts : List (ℤ × ℤ)) → IsStrictlyIncreasing (map (λ e. e.slot) (entries_from slot parts))
ascend_from slot [] = λ k l. absurd (omega arith)
ascend_from slot (parts ∷ rest) =
    let later = ascend_from (slot + 1) rest in
    let es = entries_from (slot + 1) rest in
    let above : All (λ e. slot < e.slot) es = each_entry (λ e. slot < e.slot) (slot + 1) rest (λ k d l. omega arith) in
    elim (cases_Bool (is_nothing parts)) [
      | inl t ↦ rw (entries-skip slot parts rest t) later
      | inr t ↦ rw (entries-keep slot parts rest t) (rises (map (λ e. e.slot) es) slot (All-slots (λ s. slot < s) es above) later)
    ]

-- the entries of slots name slots that are there, ascend, and are bounded where the parts are
pub AreBounded-from : (most : ℕ) (parts : List (ℤ × ℤ)) → All (IsPartWithin most) parts → AreBounded (length parts) most (entries_from 0 parts)
AreBounded-from most parts small = record {
  named = each_entry (λ e. e.slot < length parts) 0 parts (λ k d l. omega arith);
  ascending = ascend_from 0 parts;
  fixed_small = each_entry (λ e. unsigned_abs e.fixed ≤ most) 0 parts (λ k d l. (small k d l).fixed);
  per_small = each_entry (λ e. unsigned_abs e.per ≤ most) 0 parts (λ k d l. (small k d l).per);
}

-- places that are written one after another, with what a function makes of the items of a list
pub filled_more : {X Y : Type 0} (f : X → Y) (xs : List X) (ys : List Y) (i : ℕ) (d : X) (y : Y) → i < length xs → i < length ys →
    take i ys ≡ map f (take i xs) → y ≡ f (get_or xs i d) → take (i + 1) (set ys i y) ≡ map f (take (i + 1) xs)
filled_more f xs ys i d y l m e is =
    take_more_set ys i y m ∙ ap₂ (λ front back. front ++ back ∷ []) e is ∙ sym (map_more f xs i d l)

pub filled_all : {X Y : Type 0} (f : X → Y) (xs : List X) (ys : List Y) (i : ℕ) → length xs ≤ i → length ys ≡ length xs →
    take i ys ≡ map f (take i xs) → ys ≡ map f xs
filled_all f xs ys i l same e = sym (take_all i ys (omega arith)) ∙ e ∙ ap (map f) (take_all i xs l)
