-- A point that keeps the rows keeps the row that is derived from them.
use Rattle.std.proofs.Common.{◌≡◌, ℕ, zero, suc, ◌+◌, ◌<◌, List, [], ◌∷◌, length, map, get_or, refl, ap, ◌∙◌, arith, ℤ, pos, neg_ℤ, ◌+ℤ◌, ◌-ℤ◌, ◌*ℤ◌, ◌≤ℤ◌}
use Rattle.std.specs.List.{All}
use Rattle.std.proofs.lemmas.Int.{ints}
use Rattle.std.proofs.lemmas.List.Elements.{All-cons, All-nil}
use Rattle.std.proofs.Math.IntN.{*ℤ-zero, zero-*ℤ}
use Rattle.row_kit.specs.declared.row.Entry.{Entry}
use Rattle.row_kit.specs.declared.row.Row.{Row}
use Rattle.row_kit.specs.Domain.{Holds, domain_at}
use Rattle.row_kit.specs.Row.{IsKept, counted, entries_sum, entry_at, no_row}
use Rattle.row_kit.proofs.Values.{part_above}
use Rattle.derived_rows.specs.declared.derived.Derived.{Derived}
use Rattle.derived_rows.specs.declared.derived.Members.{Members}
use Rattle.derived_rows.specs.declared.derived.Members.TheVariants.{One, OfRow}
use Rattle.derived_rows.specs.Derived.{mixed_at, mixed_limit, round_of, slack_factor, term_at, whole_limit}
use Rattle.derived_rows.specs.Groups.{AreMembers, shift_at, shifts_sum}
use Rattle.derived_rows.specs.Law.{DerivedRowsHold, RoundsDown}
use Rattle.derived_rows.specs.Shown.{IsGroup}
use Rattle.derived_rows.proofs.Grouped.{AreOnes, IsAlone, Rounds, grouped, none_at_zero, shifted}
use Rattle.derived_rows.proofs.Mixed.{mixed_bare, mixed_whole, slacks, slacks_rounded}
use Rattle.derived_rows.proofs.Products.{times_le}
use Rattle.derived_rows.proofs.Rounds.{phi_adds, phi_nothing, phi_positive, phi_rises, quotient_at_least}
use Rattle.derived_rows.proofs.SlotSums.{over_entries, over_le, over_slots, over_sum, over_times}

-- what phi keeps
pub rounds_down : RoundsDown
rounds_down d r lt = (phi_adds d r lt, phi_rises d r lt, phi_nothing d r lt)

-- one entry that counts 1 where its slot has a value of 1 or more
lone : (slot : ℕ) → AreOnes (record { slot = slot; fixed = pos 1; per = pos 0 } ∷ [])
lone slot =
    let e : Entry = record { slot = slot; fixed = pos 1; per = pos 0 } in
    record {
      fixed = All-cons (λ (x : Entry). x.fixed ≡ pos 1) e [] refl (All-nil (λ (x : Entry). x.fixed ≡ pos 1));
      per = All-cons (λ (x : Entry). x.per ≡ pos 0) e [] refl (All-nil (λ (x : Entry). x.per ≡ pos 0));
    }

lone_counts : (slot v : ℕ) → counted (record { slot = slot; fixed = pos 1; per = pos 0 }) v ≤ℤ pos 1
lone_counts slot zero = omega (arith, ints)
lone_counts slot (suc v) = omega (arith, ints, part_above (pos 1) (pos 0) (suc v) (omega arith), zero-*ℤ (pos (suc v)))

-- a point that keeps rows has at most one member of a group with a value other than 0
alone : (rows : List Row) (slots : ℕ) (point : List ℕ) → All (IsKept point) rows → (m : Members) (c : ℤ) → AreMembers rows slots m → IsAlone rows point (record { members = m; shift = c })
alone rows slots point kept (One slot) c there = record { ones = lone slot; one = omega (arith, ints, lone_counts slot (get_or point slot 0)) }
alone rows slots point kept (OfRow row) c there = record {
  ones = record { fixed = there.1.fixed; per = there.1.per };
  one = omega (arith, ints, there.1.limit, kept row no_row there.0);
}

-- T summed over the slots of a point that keeps the rows is at most L
terms_held : (rows : List Row) (slots : ℕ) (derived : Derived) (point : List ℕ) → derived.rest < derived.divisor → All (IsGroup rows slots) derived.groups → All (IsKept point) rows
    → over_slots (term_at rows derived) 0 point ≤ℤ whole_limit rows derived
terms_held rows slots derived point lt groups kept =
    let round = round_of derived in
    let rounds : Rounds round = record { adds = phi_adds derived.divisor derived.rest lt; nothing = phi_nothing derived.divisor derived.rest lt } in
    let fs = derived.factors in
    let ws = map (slack_factor round) fs in
    let z = slacks rows fs point in
    let x = mixed_at rows fs in
    let all : All (IsAlone rows point) derived.groups = λ k d h. alone rows slots point kept (get_or derived.groups k d).members (get_or derived.groups k d).shift (groups k d h).members in
    let one = grouped round rounds rows derived.groups point all x (mixed_bare rows fs) z in
    let same : (z +ℤ over_slots x 0 point) -ℤ shifts_sum derived.groups ≡ mixed_limit rows fs -ℤ shifts_sum derived.groups = omega (arith, ints, mixed_whole rows fs point) in
    let parts = over_sum (term_at rows derived) (mixed_at rows ws) (shifted round rows derived.groups x) (λ s v. both (shifted round rows derived.groups x s v) (mixed_at rows ws s v)) 0 point in
    omega (arith, ints, one, ap round same, parts, mixed_whole rows ws point, slacks_rounded round rounds (phi_positive derived.divisor derived.rest) rows fs point kept)
  where
    both : (a b : ℤ) → a ≡ (a -ℤ b) +ℤ b
    both a b = omega (arith, ints)

-- T at 0 is 0
term_bare : (rows : List Row) (derived : Derived) (s : ℕ) → term_at rows derived s 0 ≡ pos 0
term_bare rows derived s =
    let round = round_of derived in
    let c = shift_at rows derived.groups s in
    let same : mixed_at rows derived.factors s 0 -ℤ c ≡ neg_ℤ c = omega (arith, ints, mixed_bare rows derived.factors s) in
    omega (arith, ints, ap round same, mixed_bare rows (map (slack_factor round) derived.factors) s)

-- no lawful point breaks a derived row
pub held : DerivedRowsHold
held rows domains derived shown point lies kept =
    let es = derived.entries in
    let n = derived.down in
    let m = derived.up in
    let left = over_times (pos n) (entry_at es) 0 point ∙ ap (λ (x : ℤ). pos n *ℤ x) (over_entries es point) in
    let right = over_times (pos m) (term_at rows derived) 0 point in
    let le = over_le (λ s v. pos n *ℤ entry_at es s v) (λ s v. pos m *ℤ term_at rows derived s v) 0 point (λ k lt. at_value k (get_or point k 0) (omega (arith, lt, lies.same_length)) (lies.held k (omega (arith, lt, lies.same_length)))) in
    let scaled = times_le m (over_slots (term_at rows derived) 0 point) (whole_limit rows derived) (terms_held rows (length domains) derived point shown.declared.rest shown.declared.groups kept) in
    quotient_at_least n (pos m *ℤ whole_limit rows derived) (entries_sum es point) shown.declared.down.0 (omega (arith, ints, left, right, le, scaled))
  where
    at_value : (k v : ℕ) → k < length domains → Holds (domain_at domains k) v → (pos derived.down *ℤ entry_at derived.entries (0 + k) v) ≤ℤ (pos derived.up *ℤ term_at rows derived (0 + k) v)
    at_value k zero there holds =
        omega (arith, ints, ap (λ (x : ℤ). pos derived.down *ℤ x) (none_at_zero derived.entries (0 + k)), *ℤ-zero (pos derived.down), ap (λ (x : ℤ). pos derived.up *ℤ x) (term_bare rows derived (0 + k)), *ℤ-zero (pos derived.up))
    at_value k (suc v) there holds = let e : 0 + k ≡ k = omega arith in rw e (shown.below k (suc v) there (omega arith) holds)
