-- The larger program keeps the bounds of programs.
use Rattle.std.proofs.Common.{◌≡◌, ℕ, ◌+◌, ◌*◌, ◌<◌, ◌≤◌, true, List, [], ◌∷◌, ◌++◌, length, map, get_or, refl, sym, ap, ◌∙◌, subst, arith, ⊎_elim, ℤ, pos, neg_ℤ, unsigned_abs}
use Rattle.std.specs.List.{All}
use Rattle.std.specs.List.Sorted.{IsStrictlyIncreasing}
use Rattle.std.proofs.lemmas.Bool.{cases_lt}
use Rattle.std.proofs.lemmas.Int.{ints}
use Rattle.std.proofs.lemmas.List.{get_or_append_left, get_or_push, length-append, length-map, length_push, map-append}
use Rattle.std.proofs.lemmas.List.Elements.{All-append, All-cons, All-head, All-map, All-nil, All-push, All-tail}
use Rattle.row_kit.specs.declared.domain.Domain.{Domain}
use Rattle.row_kit.specs.declared.program.Program.{Program}
use Rattle.row_kit.specs.declared.row.Entry.{Entry}
use Rattle.row_kit.specs.declared.row.Row.{Row}
use Rattle.row_kit.specs.declared.row.Tag.{Tag}
use Rattle.row_kit.specs.Bounds.{AreBounded, IsBoundedRow, IsBoundedTag, KeepsBounds}
use Rattle.row_kit.specs.Domain.{IsNormal, IsOpen}
use Rattle.sum_slots.specs.declared.sum.Sum.{Sum}
use Rattle.sum_slots.specs.Larger.{IsWithSums, row_above, row_below, slot_entry, sum_domain, sum_rows, sum_tag}
use Rattle.sum_slots.specs.Shown.{IsShown, opposites, turned}
use Rattle.sum_slots.specs.Sum.{IsDeclared}
use Rattle.sum_slots.proofs.Ranges.{most_byte}

-- entries over slots are entries over more slots
AreBounded-more : (n m most : ℕ) (es : List Entry) → n ≤ m → AreBounded n most es → AreBounded m most es
AreBounded-more n m most es more bounded = record {
  named = λ k d lt. omega (arith, more, bounded.named k d lt);
  ascending = bounded.ascending;
  fixed_small = bounded.fixed_small;
  per_small = bounded.per_small;
}

-- numbers that ascend, and one that is greater than all of them
rises_push : (xs : List ℕ) (y : ℕ) → IsStrictlyIncreasing xs → All (λ x. x < y) xs → IsStrictlyIncreasing (xs ++ y ∷ [])
rises_push xs y up less k lt =
    ⊎_elim
    (λ (low : k + 1 < length xs). omega (arith, up k low, get_or_append_left xs (y ∷ []) 0 k (omega arith), get_or_append_left xs (y ∷ []) 0 (k + 1) low))
    (λ (high : length xs ≤ k + 1).
    let last : length xs ≡ k + 1 = omega (arith, lt, length_push xs y) in
    omega (arith, get_or_push xs y 0 (k + 1) last, get_or_append_left xs (y ∷ []) 0 k (omega arith), less k 0 (omega arith)))
    (cases_lt (k + 1) (length xs))

-- bounded entries, and one for a later slot
AreBounded-push : (n m most slot : ℕ) (per : ℤ) (es : List Entry) → n ≤ slot → slot < m → unsigned_abs per ≤ most → AreBounded n most es → AreBounded m most (es ++ slot_entry slot per ∷ [])
AreBounded-push n m most slot per es late within small bounded = record {
  named = All-push (λ e. e.slot < m) es (slot_entry slot per) (λ k d lt. omega (arith, late, bounded.named k d lt)) within;
  ascending = subst IsStrictlyIncreasing (sym (map-append (λ e. e.slot) es (slot_entry slot per ∷ [])))
      (rises_push (map (λ e. e.slot) es) slot bounded.ascending (All-map (λ s. s < slot) (λ e. e.slot) es (λ k d lt. omega (arith, late, bounded.named k d lt))));
  fixed_small = All-push (λ e. unsigned_abs e.fixed ≤ most) es (slot_entry slot per) bounded.fixed_small (omega arith);
  per_small = All-push (λ e. unsigned_abs e.per ≤ most) es (slot_entry slot per) bounded.per_small small;
}

-- the opposites of bounded entries are bounded
same_slots : (es : List Entry) → map (λ e. e.slot) (opposites es) ≡ map (λ e. e.slot) es
same_slots [] = refl
same_slots (e ∷ es) = ap (λ slots. e.slot ∷ slots) (same_slots es)

AreBounded-opposites : (n most : ℕ) (es : List Entry) → AreBounded n most es → AreBounded n most (opposites es)
AreBounded-opposites n most es bounded = record {
  named = All-map (λ e. e.slot < n) (turned true) es bounded.named;
  ascending = subst IsStrictlyIncreasing (sym (same_slots es)) bounded.ascending;
  fixed_small = All-map (λ e. unsigned_abs e.fixed ≤ most) (turned true) es (λ k d lt. omega (arith, ints, bounded.fixed_small k d lt));
  per_small = All-map (λ e. unsigned_abs e.per ≤ most) (turned true) es (λ k d lt. omega (arith, ints, bounded.per_small k d lt));
}

-- both rows of a sum are bounded
bounded_below : (n m slot : ℕ) (sum : Sum) → n ≤ slot → slot < m → IsDeclared n sum → IsBoundedRow m (row_below slot sum)
bounded_below n m slot sum late within declared = record {
  entries = AreBounded-push n m 10000000 slot (neg_ℤ (pos sum.width)) sum.terms late within (omega (arith, ints, declared.width_most)) declared.terms_bounded;
  limit = omega (arith, ints, declared.width_most, declared.width_some, declared.offset_small);
}

bounded_above : (n m slot : ℕ) (sum : Sum) → n ≤ slot → slot < m → IsDeclared n sum → IsBoundedRow m (row_above slot sum)
bounded_above n m slot sum late within declared = record {
  entries = AreBounded-push n m 10000000 slot (pos sum.width) (opposites sum.terms) late within (omega (arith, ints, declared.width_most)) (AreBounded-opposites n 10000000 sum.terms declared.terms_bounded);
  limit = omega (arith, declared.offset_small);
}

bounded_rows : (n m slot : ℕ) (sums : List Sum) → n ≤ slot → slot + length sums ≤ m → All (IsDeclared n) sums → All (IsBoundedRow m) (sum_rows slot sums)
bounded_rows n m slot [] late few declared = All-nil (IsBoundedRow m)
bounded_rows n m slot (sum ∷ sums) late few declared =
    let first = All-head (IsDeclared n) sum sums declared in
    All-cons (IsBoundedRow m) (row_below slot sum) (row_above slot sum ∷ sum_rows (slot + 1) sums) (bounded_below n m slot sum late (omega arith) first)
    (All-cons (IsBoundedRow m) (row_above slot sum) (sum_rows (slot + 1) sums) (bounded_above n m slot sum late (omega arith) first)
    (bounded_rows n m (slot + 1) sums (omega arith) (omega arith) (All-tail (IsDeclared n) sum sums declared)))

pub two_rows : (slot : ℕ) (sums : List Sum) → length (sum_rows slot sums) ≡ 2 * length sums
two_rows slot [] = refl
two_rows slot (sum ∷ sums) = omega (arith, two_rows (slot + 1) sums)

-- the domain of a shown sum's slot is normal and holds a value
domain_normal : (program : Program) (ranges : List Domain) (sum : Sum) → IsShown program ranges sum → IsNormal (sum_domain program ranges sum)
domain_normal program ranges sum shown = record { positive = omega arith; byte = most_byte program ranges sum shown; bare = λ less. (refl, omega arith) }

-- where each slot of the program has a value, each slot of the larger one has
pub larger_open : (program larger : Program) (ranges : List Domain) (sums : List Sum) → IsWithSums program ranges sums larger → All IsOpen program.root → All IsOpen larger.root
larger_open program larger ranges sums made own =
    subst (All IsOpen) (sym made.root) (All-append IsOpen program.root (map (sum_domain program ranges) sums) own (All-map IsOpen (sum_domain program ranges) sums (λ k d lt. omega arith)))

-- the larger program keeps the bounds
pub keeps_bounds : (program : Program) (ranges : List Domain) (sums : List Sum) (lane : ℕ) (rows : List Row) (root : List Domain) (tags : List Tag) → length program.root + length sums ≤ 4096 → length program.rows + 2 * length sums ≤ 400000 → All (IsDeclared (length program.root)) sums → All (IsShown program ranges) sums →
    rows ≡ program.rows ++ sum_rows (length program.root) sums → root ≡ program.root ++ map (sum_domain program ranges) sums → tags ≡ program.tags ++ map (λ sum. sum_tag lane) sums → KeepsBounds rows program.profit program.base root tags program.changes
keeps_bounds program ranges sums lane rows root tags few_slots few_rows declared shown are_rows are_slots are_tags =
    let n = length program.root in
    let domains = map (sum_domain program ranges) sums in
    let slots : length root ≡ n + length sums = ap length are_slots ∙ length-append program.root domains ∙ ap (λ k. n + k) (length-map sums (sum_domain program ranges)) in
    let more : n ≤ length root = omega (arith, slots) in
    record {
      few_slots = omega (arith, slots);
      root_normal = subst (All IsNormal) (sym are_slots) (All-append IsNormal program.root domains program.root_normal (All-map IsNormal (sum_domain program ranges) sums (λ k d lt. domain_normal program ranges (get_or sums k d) (shown k d lt))));
      few_rows = omega (arith, ap length are_rows, length-append program.rows (sum_rows n sums), two_rows n sums);
      rows_bounded = subst (All (IsBoundedRow (length root))) (sym are_rows) (All-append (IsBoundedRow (length root)) program.rows (sum_rows n sums)
          (λ k d lt. let row = program.rows_bounded k d lt in record { entries = AreBounded-more n (length root) 10000000 (get_or program.rows k d).entries more row.entries; limit = row.limit })
          (bounded_rows n (length root) n sums (omega arith) (omega (arith, slots)) declared));
      profit_bounded = AreBounded-more n (length root) 2000000000000000 program.profit more program.profit_bounded;
      base_bounded = program.base_bounded;
      one_tag = ap length are_tags ∙ omega (arith, slots, program.one_tag, length-append program.tags (map (λ s. sum_tag lane) sums), length-map sums (λ s. sum_tag lane));
      costs_bounded = program.costs_bounded;
      openings_bounded = subst (All IsBoundedTag) (sym are_tags) (All-append IsBoundedTag program.tags (map (λ s. sum_tag lane) sums) program.openings_bounded (All-map IsBoundedTag (λ s. sum_tag lane) sums (λ k d lt. omega arith)));
    }
