-- The law of sums: slots, rows, values and worth, one after another.
use Rattle.std.proofs.Common.{◌≡◌, ℕ, ◌+◌, List, ◌++◌, length, map, get_or, take, drop, sym, ap, ap₂, ◌∙◌, subst, arith, ℤ, pos, ◌+ℤ◌, ◌-ℤ◌, ◌≤ℤ◌, unsigned_abs}
use Rattle.std.specs.List.{All}
use Rattle.std.proofs.lemmas.List.{length-append, length-map, take-append-drop, take_at, drop_at}
use Rattle.std.proofs.lemmas.List.Elements.{All-append}
use Rattle.row_kit.specs.declared.domain.Domain.{Domain}
use Rattle.row_kit.specs.declared.program.Program.{Program}
use Rattle.row_kit.specs.declared.row.Row.{Row}
use Rattle.row_kit.specs.Bounds.{IsBoundedRow}
use Rattle.row_kit.specs.Change.{changeovers}
use Rattle.row_kit.specs.Point.{IsLawful, LiesIn, worth_of}
use Rattle.row_kit.specs.Row.{IsKept, entries_sum}
use Rattle.sum_slots.specs.declared.sum.Sum.{Sum}
use Rattle.sum_slots.specs.Larger.{IsWithSums, completed, given_of, sum_domain, sum_rows}
use Rattle.sum_slots.specs.Law.{IsCompleted, SumsLaw}
use Rattle.sum_slots.specs.Shown.{AreRanges, IsShown}
use Rattle.sum_slots.specs.Sum.{IsByte, IsDeclared, sum_value}
use Rattle.sum_slots.proofs.EntrySums.{sum-take}
use Rattle.sum_slots.proofs.Lanes.{changeovers-with_lane}
use Rattle.sum_slots.proofs.Ranges.{sums_lie, value_byte}
use Rattle.sum_slots.proofs.SumRows.{rows-from_values, values-from_rows}
use Rattle.sum_slots.proofs.Joined.{All-first, All-second, lies_both, lies_first}

-- what a program, its sums and the larger program keep
record Declared (program larger : Program) (ranges : List Domain) (sums : List Sum) : Type 0 where
  wide : AreRanges program ranges
  declared : All (IsDeclared (length program.root)) sums
  shown : All (IsShown program ranges) sums
  with_sums : IsWithSums program ranges sums larger

-- a completed point is cut back to the point
given : (program : Program) (sums : List Sum) (point : List ℕ) → IsLawful program point → given_of program (completed sums point) ≡ point
given program sums point lawful = take_at point (map (λ s. unsigned_abs (sum_value s point)) sums) (length program.root) lawful.lies.same_length

bytes : (program larger : Program) (ranges : List Domain) (sums : List Sum) → Declared program larger ranges sums → (point : List ℕ) → IsLawful program point → All (λ s. IsByte (sum_value s point)) sums
bytes program larger ranges sums h point lawful = λ k d lt. value_byte program ranges _ point h.wide (h.declared k d lt) (h.shown k d lt) lawful

-- rows over the first slots are kept at the first values exactly where they are kept at all of them
first_same : (n : ℕ) (row : Row) (point : List ℕ) → IsBoundedRow n row → entries_sum row.entries (take n point) ≡ entries_sum row.entries point
first_same n row point bounded = sum-take n row.entries point bounded.entries.named

kept_given : (program : Program) (point : List ℕ) → All (IsKept point) program.rows → All (IsKept (given_of program point)) program.rows
kept_given program point kept = λ k d lt.
    let row = get_or program.rows k d in
    subst (λ (x : ℤ). x ≤ℤ row.limit) (sym (first_same (length program.root) row point (program.rows_bounded k d lt))) (kept k d lt)

kept_larger : (program : Program) (point : List ℕ) → All (IsKept (given_of program point)) program.rows → All (IsKept point) program.rows
kept_larger program point kept = λ k d lt.
    let row = get_or program.rows k d in
    subst (λ (x : ℤ). x ≤ℤ row.limit) (first_same (length program.root) row point (program.rows_bounded k d lt)) (kept k d lt)

-- the values that sums have at a point
abbrev values : List Sum → List ℕ → List ℕ
values sums point = map (λ s. unsigned_abs (sum_value s point)) sums

-- a lawful point of the larger program is a completed one
cut_back : (program larger : Program) (ranges : List Domain) (sums : List Sum) → Declared program larger ranges sums → (point : List ℕ) → IsLawful larger point → IsCompleted program sums point
cut_back program larger ranges sums h point lawful =
    let n = length program.root in
    let domains = map (sum_domain program ranges) sums in
    let lies = subst (λ ds. LiesIn ds point) h.with_sums.root lawful.lies in
    let keeps = subst (All (IsKept point)) h.with_sums.rows lawful.keeps in
    let same : n + length sums ≡ length point = omega (arith, lies.same_length, length-append program.root domains, length-map sums (sum_domain program ranges)) in
    let later = values-from_rows n n sums point h.declared same (All-second (IsKept point) program.rows (sum_rows n sums) keeps) in (
      record { lies = lies_first program.root domains point lies; keeps = kept_given program point (All-first (IsKept point) program.rows (sum_rows n sums) keeps) },
      sym (take-append-drop n point) ∙ ap (λ vs. take n point ++ vs) later,
    )

-- a completed point is lawful
lawful_larger : (program larger : Program) (ranges : List Domain) (sums : List Sum) → Declared program larger ranges sums → (point : List ℕ) → IsCompleted program sums point → IsLawful larger point
lawful_larger program larger ranges sums h point completed' =
    let n = length program.root in
    let front = given_of program point in
    let lawful = completed'.0 in
    let is = completed'.1 in
    let same : n + length sums ≡ length point = omega (arith, ap length is, length-append front (values sums front), length-map sums (λ s. unsigned_abs (sum_value s front)), lawful.lies.same_length) in
    let later = ap (drop n) is ∙ drop_at front (values sums front) n lawful.lies.same_length in
    let lies = lies_both program.root (map (sum_domain program ranges) sums) front (values sums front) lawful.lies (sums_lie program ranges sums front h.wide h.declared h.shown lawful) in
    record {
      lies = subst (λ ds. LiesIn ds point) (sym h.with_sums.root) (subst (LiesIn (program.root ++ map (sum_domain program ranges) sums)) (sym is) lies);
      keeps = subst (All (IsKept point)) (sym h.with_sums.rows) (All-append (IsKept point) program.rows (sum_rows n sums)
          (kept_larger program point lawful.keeps)
          (rows-from_values n n sums point h.declared same (bytes program larger ranges sums h front lawful) later));
    }

-- a lawful point is worth the same
same_worth : (program larger : Program) (ranges : List Domain) (sums : List Sum) → Declared program larger ranges sums → (point : List ℕ) → IsLawful program point → worth_of larger (completed sums point) ≡ worth_of program point
same_worth program larger ranges sums h point lawful =
    let n = length program.root in
    let whole = completed sums point in
    let w = h.with_sums in
    let profit = ap (λ es. entries_sum es whole) w.profit ∙ sym (sum-take n program.profit whole program.profit_bounded.named) ∙ ap (entries_sum program.profit) (given program sums point lawful) in
    let costs = ap (λ cs. changeovers cs larger.tags whole) w.changes ∙ ap (λ ts. changeovers program.changes ts whole) w.tags
    ∙ changeovers-with_lane program.changes program.tags w.lane sums point (values sums point) w.free (lawful.lies.same_length ∙ sym program.one_tag) in
    ap (λ x. (x +ℤ entries_sum larger.profit whole) -ℤ pos (changeovers larger.changes larger.tags whole)) w.base
    ∙ ap₂ (λ x c. (program.base +ℤ x) -ℤ pos c) profit costs

-- the law of sums
pub law : SumsLaw
law program larger ranges sums wide declared shown with_sums =
    let h : Declared program larger ranges sums = record { wide = wide; declared = declared; shown = shown; with_sums = with_sums } in
    record {
      points = λ point. (cut_back program larger ranges sums h point, lawful_larger program larger ranges sums h point);
      given = given program sums;
      bytes = bytes program larger ranges sums h;
      worth = same_worth program larger ranges sums h;
    }
