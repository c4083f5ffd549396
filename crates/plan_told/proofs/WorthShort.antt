-- The worth of a lawful point has at most 30 digits, and its values are bytes.
use Rattle.std.proofs.Common.{ℕ, zero, suc, ◌+◌, ◌*◌, ◌<◌, ◌≤◌, Bool, true, false, max, cond, List, [], ◌∷◌, length, get_or, sym, subst, arith, ℤ, pos, ◌*ℤ◌, unsigned_abs}
use Rattle.std.specs.Prelude.{slice_index}
use Rattle.std.specs.List.{All}
use Rattle.std.proofs.Math.Nat.{mul-le-mul}
use Rattle.std.proofs.lemmas.Int.{ints, unsigned_abs-mul}
use Rattle.std.proofs.lemmas.List.{get_or_default}
use Rattle.std.proofs.lemmas.List.Elements.{All-head, All-tail}
use Rattle.std.proofs.lemmas.List.Sums.{sum_by-le}
use Rattle.row_kit.specs.declared.program.Program.{Program}
use Rattle.row_kit.specs.declared.row.Change.{Change}
use Rattle.row_kit.specs.declared.row.Entry.{Entry}
use Rattle.row_kit.specs.declared.row.Tag.{Tag}
use Rattle.row_kit.specs.Bounds.{IsBoundedChange, IsBoundedTag}
use Rattle.row_kit.specs.Change.{started, comes_first, comes_next, is_listed, listed_cost, pair_cost, costs_after, opening_cost, costs_of, changeovers}
use Rattle.row_kit.specs.Domain.{domain_at, no_values}
use Rattle.row_kit.specs.Point.{IsLawful, worth_of}
use Rattle.row_kit.specs.Row.{counted, entries_sum}
use Rattle.row_kit.proofs.Ascending.{few_entries}
use Rattle.row_kit.proofs.Parts.{held_byte}
use Rattle.row_kit.proofs.Values.{part_above}
use Rattle.dual_bound.proofs.Small.{abs_sum}
use Rattle.log_lines.specs.Line.{IsShort}
use Rattle.proof_log.specs.Accepted.{AreBytes}
use Rattle.sum_slots.proofs.Lanes.{All-started}

-- each value of a lawful point is a byte
pub lawful_bytes : (program : Program) (point : List ℕ) → IsLawful program point → AreBytes point
lawful_bytes program point lawful k d within =
    let slot : k < length program.root = omega (arith, within, lawful.lies.same_length) in
    subst (λ (v : ℕ). v ≤ 255) (get_or_default point k 0 d within)
    (held_byte (domain_at program.root k) (get_or point k 0) (program.root_normal k no_values slot) (lawful.lies.held k slot))

byte_at : (point : List ℕ) (slot : ℕ) → AreBytes point → slice_index point slot ≤ 255
byte_at [] slot bytes = omega arith
byte_at (value ∷ point) zero bytes = All-head (λ v. v ≤ 255) value point bytes
byte_at (value ∷ point) (suc slot) bytes = byte_at point slot (All-tail (λ v. v ≤ 255) value point bytes)

counted_small : (e : Entry) (most v : ℕ) → unsigned_abs e.fixed ≤ most → unsigned_abs e.per ≤ most → v ≤ 255 → unsigned_abs (counted e v) ≤ most + most * 255
counted_small e most zero f p h = omega arith
counted_small e most (suc v) f p h =
    let times : unsigned_abs (e.per *ℤ pos (suc v)) ≤ most * 255 = omega (arith, unsigned_abs-mul e.per (pos (suc v)), mul-le-mul p h) in
    subst (λ (x : ℤ). unsigned_abs x ≤ most + most * 255) (sym (part_above e.fixed e.per (suc v) (omega arith))) (abs_sum e.fixed (e.per *ℤ pos (suc v)) most (most * 255) f times)

-- what entries with parts of at most 2,000,000,000,000,000 sum to at bytes
entries_small : (es : List Entry) (point : List ℕ) → AreBytes point → All (λ e. unsigned_abs e.fixed ≤ 2000000000000000) es → All (λ e. unsigned_abs e.per ≤ 2000000000000000) es → unsigned_abs (entries_sum es point) ≤ 512000000000000000 * length es
entries_small [] point bytes f p = omega arith
entries_small (e ∷ es) point bytes f p =
    let one = counted_small e 2000000000000000 (slice_index point e.slot) (All-head (λ (x : Entry). unsigned_abs x.fixed ≤ 2000000000000000) e es f) (All-head (λ (x : Entry). unsigned_abs x.per ≤ 2000000000000000) e es p) (byte_at point e.slot bytes) in
    let rest = entries_small es point bytes (All-tail (λ (x : Entry). unsigned_abs x.fixed ≤ 2000000000000000) e es f) (All-tail (λ (x : Entry). unsigned_abs x.per ≤ 2000000000000000) e es p) in
    omega (arith, ints, one, rest)

-- no changeover costs more than 1,000,000
one_listed : (change : Change) (rest : ℕ) (listed : Bool) → IsBoundedChange change → rest ≤ 1000000 → cond listed (max (unsigned_abs change.cost) rest) rest ≤ 1000000
one_listed change rest true bounded low = let one : unsigned_abs change.cost ≤ 1000000 = omega (arith, ints, bounded.least, bounded.most) in omega (arith, one, low)
one_listed change rest false bounded low = low

listed_small : (changes : List Change) (lane from to : ℕ) → All IsBoundedChange changes → listed_cost changes lane from to ≤ 1000000
listed_small [] lane from to bounded = omega arith
listed_small (change ∷ changes) lane from to bounded =
    one_listed change (listed_cost changes lane from to) (is_listed lane from to change) (All-head IsBoundedChange change changes bounded)
    (listed_small changes lane from to (All-tail IsBoundedChange change changes bounded))

pair_small : (changes : List Change) (starts : List Tag) (a b : Tag) → All IsBoundedChange changes → pair_cost changes starts a b ≤ 1000000
pair_small changes starts a b bounded = by_next (comes_next starts a b)
  where
    by_next : (next : Bool) → cond next (listed_cost changes a.lane a.kind b.kind) 0 ≤ 1000000
    by_next true = listed_small changes a.lane a.kind b.kind bounded
    by_next false = omega arith

-- there are no more starts than slots
few_started : (tags : List Tag) (point : List ℕ) → length (started tags point) ≤ length tags
few_started [] point = omega arith
few_started (tag ∷ tags) [] = omega arith
few_started (tag ∷ tags) (zero ∷ values) = omega (arith, few_started tags values)
few_started (tag ∷ tags) (suc value ∷ values) = grind (arith, few_started tags values)

-- to open a lane costs at most 1,000,000
opening_small : (starts : List Tag) (a : Tag) → IsBoundedTag a → opening_cost starts a ≤ 1000000
opening_small starts a bounded = by_first (comes_first starts a)
  where
    by_first : (first : Bool) → cond first a.opening 0 ≤ 1000000
    by_first true = bounded
    by_first false = omega arith

-- what the changeovers of a point cost, with the openings
changeovers_small : (changes : List Change) (tags : List Tag) (point : List ℕ) → length tags ≤ 4096 → All IsBoundedChange changes → All IsBoundedTag tags → changeovers changes tags point ≤ 4096 * 4097000000
changeovers_small changes tags point few bounded openings =
    let starts = started tags point in
    let count = few_started tags point in
    let each = λ (a : Tag). sum_by-le (pair_cost changes starts a) 1000000 starts (λ k d within. pair_small changes starts a (get_or starts k d) bounded) in
    let after = λ (a : Tag). bounded_by (costs_after changes starts a) (each a) in
    let opens = All-started IsBoundedTag tags point openings in
    omega (arith, sum_by-le (costs_of changes starts) 4097000000 starts (λ k d within. let a = get_or starts k d in omega (arith, after a, opening_small starts a (opens k d within))))
  where
    bounded_by : (n : ℕ) → n ≤ length (started tags point) * 1000000 → n ≤ 4096000000
    bounded_by n low = omega (arith, low, few_started tags point, few)

-- the worth of a lawful point has at most 30 digits
pub worth_short : (program : Program) (point : List ℕ) → IsLawful program point → IsShort (worth_of program point)
worth_short program point lawful =
    let bytes = lawful_bytes program point lawful in
    let profit = program.profit_bounded in
    let entries = entries_small program.profit point bytes profit.fixed_small profit.per_small in
    let few = few_entries (length program.root) 2000000000000000 program.profit profit in
    let costs = changeovers_small program.changes program.tags point (omega (arith, program.one_tag, program.few_slots)) program.costs_bounded program.openings_bounded in
    omega (arith, ints, entries, few, costs, program.base_bounded, program.few_slots)
