-- What one step of the descent keeps and shows.
use Rattle.std.proofs.Common.{◌≡◌, ◌∙◌, false, ℕ, ◌+◌, ◌<◌, ◌≤◌, ◌^◌, List, [], ◌∷◌, length, get_or, set, sym, ap, subst, ⊎_elim, arith, ℤ, pos, ◌+ℤ◌, ◌-ℤ◌, ◌*ℤ◌, ◌≤ℤ◌, ◌<ℤ◌, to_z, of_z, unsigned_abs}
use mir.Syntax.{w128}
use Rattle.std.specs.Int.RustNames.{int_lt}
use Rattle.std.proofs.lemmas.Bool.{cases_eq}
use Rattle.std.proofs.lemmas.Int.{ints}
use Rattle.std.proofs.lemmas.List.{get_or_read, length-set, get_or-set_same, get_or-set_other}
use Rattle.std.specs.List.{All}
use Rattle.std.proofs.lemmas.List.Elements.{All-push, All-set}
use Rattle.row_kit.specs.declared.domain.Domain.{Domain}
use Rattle.row_kit.specs.declared.program.Program.{Program}
use Rattle.row_kit.specs.declared.row.Row.{Row}
use Rattle.row_kit.specs.Row.{entry_at, row_at, no_row}
use Rattle.row_kit.specs.Bounds.{IsBoundedRow}
use Rattle.dual_bound.specs.declared.cert.Mult.{Mult}
use Rattle.dual_bound.specs.declared.line.Line.{Line}
use Rattle.dual_bound.specs.Line.{line_at, slot_line}
use Rattle.dual_bound.specs.Total.{rows_at, total_of, IsFitMult}
use Rattle.dual_climb.specs.laws.Along.{part_along, IsAlong}
use Rattle.dual_climb.specs.Factors.{cert_of, without, with_factor}
use Rattle.dual_climb.specs.RowBest.{BestBy}
use Rattle.dual_climb.specs.laws.Sums.{AreNumbered, IsFull, IsLoweredBy, no_mult}
use Rattle.dual_climb.specs.laws.Held.{AreLines, CanMove}
use Rattle.dual_climb.proofs.Exchanged.{staying, total_along, total_own}
use Rattle.dual_climb.proofs.Small.{lines_small}
use Rattle.dual_climb.proofs.Sums.{gain_same, own_same, rows_same, set_same, total_same}

-- the own factor of a row
abbrev pub own_of : List Mult → ℕ → ℕ
own_of ms k = (get_or ms k no_mult).factor

-- the part along a row of what is held
abbrev pub held_part : Program → List Domain → List Mult → List Line → ℕ → ℕ → ℤ
held_part p ds ms lines k = part_along lines ds (row_at p.rows k) (own_of ms k)

pub can_vary : (p : Program) (ds : List Domain) (n : ℕ) (ms : List Mult) (lines : List Line) (k : ℕ) → CanMove p ds n → AreLines p n ms lines → k < length p.rows → IsAlong lines ds (row_at p.rows k) (own_of ms k)
can_vary p ds n ms lines k can held lt = record {
  slots = omega (arith, can.slots, held.slots);
  few = omega (arith, can.slots, p.few_slots);
  within = lines_small p n ms lines can.most held.full can.few_rows held.slots held.gains;
  each_open = can.each_open;
  bounded = subst (λ (s : ℕ). IsBoundedRow s (row_at p.rows k)) (sym can.slots) (p.rows_bounded k no_row lt);
  range = (held.full.fit k no_mult (omega (arith, held.full.all))).factor;
}

-- the total with a factor in the place of a row's own
total_at_factor : (p : Program) (ds : List Domain) (n : ℕ) (ms : List Mult) (lines : List Line) (k : ℕ) → CanMove p ds n → AreLines p n ms lines → k < length p.rows → (f : ℕ) → total_of p ds (with_factor (cert_of n ms) k f) ≡ staying p ds n ms k +ℤ held_part p ds ms lines k f
total_at_factor p ds n ms lines k can held lt f =
    total_along p ds n k ms lines can.slots held.full lt (p.rows_bounded k no_row lt) held.gains f

total_now : (p : Program) (ds : List Domain) (n : ℕ) (ms : List Mult) (lines : List Line) (k : ℕ) → CanMove p ds n → AreLines p n ms lines → k < length p.rows → total_of p ds (cert_of n ms) ≡ staying p ds n ms k +ℤ held_part p ds ms lines k (own_of ms k)
total_now p ds n ms lines k can held lt =
    sym (total_own p ds n k ms held.full lt) ∙ total_at_factor p ds n ms lines k can held lt (own_of ms k)

above : (t s o l f x : ℤ) (n : ℕ) → t ≡ s +ℤ o → x ≡ s +ℤ f → l ≤ℤ f → (o -ℤ l) <ℤ pos n → (t -ℤ pos n) <ℤ x
above t s o l f x n p q h k = omega (arith, ints)

-- where the least along a row is lower by less than so much, the row's factor is best
pub stays_best : (fall : ℕ) (p : Program) (ds : List Domain) (n : ℕ) (ms : List Mult) (lines : List Line) (k factor : ℕ) → CanMove p ds n → AreLines p n ms lines → k < length p.rows → ((f : ℕ) → f ≤ 2 ^ 40 → held_part p ds ms lines k factor ≤ℤ held_part p ds ms lines k f) → (held_part p ds ms lines k (own_of ms k) -ℤ held_part p ds ms lines k factor) <ℤ pos fall → BestBy fall p ds (cert_of n ms) k
stays_best fall p ds n ms lines k factor can held lt least less = λ f le.
    above (total_of p ds (cert_of n ms)) (staying p ds n ms k) (held_part p ds ms lines k (own_of ms k)) (held_part p ds ms lines k factor) (held_part p ds ms lines k f) (total_of p ds (with_factor (cert_of n ms) k f)) fall
    (total_now p ds n ms lines k can held lt) (total_at_factor p ds n ms lines k can held lt f) (least f le) less

above_all : (t s o f x : ℤ) (n : ℕ) → t ≡ s +ℤ o → x ≡ s +ℤ f → (o -ℤ pos n) <ℤ f → (t -ℤ pos n) <ℤ x
above_all t s o f x n p q h = omega (arith, ints)

-- and so it is where no factor lowers the part along the row by so much
pub near_best : (fall : ℕ) (p : Program) (ds : List Domain) (n : ℕ) (ms : List Mult) (lines : List Line) (k : ℕ) → CanMove p ds n → AreLines p n ms lines → k < length p.rows → ((f : ℕ) → f ≤ 2 ^ 40 → (held_part p ds ms lines k (own_of ms k) -ℤ pos fall) <ℤ held_part p ds ms lines k f) → BestBy fall p ds (cert_of n ms) k
near_best fall p ds n ms lines k can held lt near = λ f le.
    above_all (total_of p ds (cert_of n ms)) (staying p ds n ms k) (held_part p ds ms lines k (own_of ms k)) (held_part p ds ms lines k f) (total_of p ds (with_factor (cert_of n ms) k f)) fall
    (total_now p ds n ms lines k can held lt) (total_at_factor p ds n ms lines k can held lt f) (near f le)

set_numbered : (ms : List Mult) (k : ℕ) (new : Mult) → AreNumbered 0 ms → k < length ms → new.row ≡ k → AreNumbered 0 (set ms k new)
set_numbered ms k new numbered lt e = λ place h.
    ⊎_elim
    (λ (here : place ≡ k).
    ap (λ (j : ℕ). (get_or (set ms k new) j no_mult).row) here ∙ ap (λ (m : Mult). m.row) (get_or-set_same ms k new no_mult lt) ∙ (let q : new.row ≡ 0 + place = omega arith in q))
    (λ (apart : place ≡ k → ⊥).
    ap (λ (m : Mult). m.row) (get_or-set_other ms k place new no_mult apart) ∙ numbered place (omega (arith, h, length-set ms k new)))
    (cases_eq place k)

pub set_full : (rows : ℕ) (ms : List Mult) (k : ℕ) (new : Mult) → IsFull rows ms → k < rows → new.row ≡ k → new.factor ≤ 1099511627776 → IsFull rows (set ms k new)
set_full rows ms k new full lt row range = record {
  all = length-set ms k new ∙ full.all;
  numbered = set_numbered ms k new full.numbered (omega (arith, full.all)) row;
  fit = All-set (IsFitMult rows) ms k new (record { row = omega arith; factor = range }) full.fit;
}

line_moved : (x l a o r f : ℤ) → x ≡ (l +ℤ o) -ℤ f → l ≡ a -ℤ (o +ℤ r) → x ≡ a -ℤ (f +ℤ r)
line_moved x l a o r f p q = omega (arith, ints)

total_moved : (t s o f x : ℤ) → t ≡ s +ℤ o → x ≡ s +ℤ f → t -ℤ (o -ℤ f) ≡ x
total_moved t s o f x p q = omega (arith, ints)

-- the lines after a row has been given a factor
pub moved_lines : (p : Program) (n : ℕ) (ms : List Mult) (lines new_lines : List Line) (k : ℕ) (new : Mult) → AreLines p n ms lines → length new_lines ≡ length p.root → k < length p.rows → new.row ≡ k → new.factor ≤ 1099511627776
    → ((slot v : ℕ) → slot < length p.root → line_at (slot_line new_lines slot) v ≡ (line_at (slot_line lines slot) v +ℤ (pos (own_of ms k) *ℤ entry_at (row_at p.rows k).entries slot v)) -ℤ (pos new.factor *ℤ entry_at (row_at p.rows k).entries slot v))
    → AreLines p n (set ms k new) new_lines
moved_lines p n ms lines new_lines k new held few lt row range moved =
    let in_ms : k < length ms = omega (arith, held.full.all) in
    let same = set_same ms k new held.full.numbered in_ms row in
    let rest = without k ms in
    let own : Mult = record { row = k; factor = own_of ms k } in
    let put : Mult = record { row = k; factor = new.factor } in
    record {
      full = set_full (length p.rows) ms k new held.full lt row range;
      slots = few;
      gains = λ slot v h.
          let e = entry_at (row_at p.rows k).entries slot v in
          let a = pos n *ℤ entry_at p.profit slot v in
          let now : line_at (slot_line lines slot) v ≡ a -ℤ ((pos (own_of ms k) *ℤ e) +ℤ rows_at p.rows rest slot v) =
          held.gains slot v h ∙ ap (λ (x : ℤ). a -ℤ x) (sym (rows_same p.rows (own ∷ rest) ms (own_same ms k held.full.numbered in_ms) slot v)) in
          line_moved (line_at (slot_line new_lines slot) v) (line_at (slot_line lines slot) v) a (pos (own_of ms k) *ℤ e) (rows_at p.rows rest slot v) (pos new.factor *ℤ e) (moved slot v h) now
          ∙ sym (gain_same p n (set ms k new) (put ∷ rest) same slot v);
    }

-- and the total
pub moved_total : (p : Program) (ds : List Domain) (n : ℕ) (ms : List Mult) (lines : List Line) (total : ℤ) (k : ℕ) (new : Mult) → CanMove p ds n → AreLines p n ms lines → total ≡ total_of p ds (cert_of n ms) → k < length p.rows → new.row ≡ k
    → total -ℤ (held_part p ds ms lines k (own_of ms k) -ℤ held_part p ds ms lines k new.factor) ≡ total_of p ds (cert_of n (set ms k new))
moved_total p ds n ms lines total k new can held is_total lt row =
    let same = set_same ms k new held.full.numbered (omega (arith, held.full.all)) row in
    ap (λ (x : ℤ). x -ℤ (held_part p ds ms lines k (own_of ms k) -ℤ held_part p ds ms lines k new.factor)) is_total
    ∙ total_moved (total_of p ds (cert_of n ms)) (staying p ds n ms k) (held_part p ds ms lines k (own_of ms k)) (held_part p ds ms lines k new.factor) (total_of p ds (with_factor (cert_of n ms) k new.factor))
    (total_now p ds n ms lines k can held lt) (total_at_factor p ds n ms lines k can held lt new.factor)
    ∙ sym (total_same p ds n (set ms k new) (record { row = k; factor = new.factor } ∷ without k ms) same)

fallen : (t s o f x : ℤ) (n : ℕ) → t ≡ s +ℤ o → x ≡ s +ℤ f → pos n ≤ℤ (o -ℤ f) → (x +ℤ pos n) ≤ℤ t
fallen t s o f x n p q h = omega (arith, ints)

one_fit : (rows : ℕ) (m : Mult) → IsFitMult rows m → All (IsFitMult rows) (m ∷ [])
one_fit rows m h = All-push (IsFitMult rows) [] m (λ k d lt. absurd (omega arith)) h

-- one change is a list of changes
pub lowered_one : (fall : ℕ) (p : Program) (ds : List Domain) (n : ℕ) (ms : List Mult) (lines : List Line) (k : ℕ) (new : Mult) → CanMove p ds n → AreLines p n ms lines → k < length p.rows → new.row ≡ k → new.factor ≤ 1099511627776
    → pos fall ≤ℤ (held_part p ds ms lines k (own_of ms k) -ℤ held_part p ds ms lines k new.factor) → IsLoweredBy fall p ds n ms (set ms k new)
lowered_one fall p ds n ms lines k new can held lt row range falls =
    let put : Mult = record { row = k; factor = new.factor } in
    record {
      changes = put ∷ [];
      in_range = one_fit (length p.rows) put (record { row = lt; factor = range });
      lowers = (
        fallen (total_of p ds (cert_of n ms)) (staying p ds n ms k) (held_part p ds ms lines k (own_of ms k)) (held_part p ds ms lines k new.factor) (total_of p ds (with_factor (cert_of n ms) k new.factor)) fall
            (total_now p ds n ms lines k can held lt) (total_at_factor p ds n ms lines k can held lt new.factor) falls,
        tt,
      );
      gives = set_same ms k new held.full.numbered (omega (arith, held.full.all)) row;
    }

-- a row of a program and its factor, as they are read
pub record IsRead (p : Program) (ds : List Domain) (ms : List Mult) (lines : List Line) (k : ℕ) (row : Row) (own : ℕ) : Type 0 where
  pub is_row : row ≡ row_at p.rows k
  pub is_own : own ≡ own_of ms k
  pub along : IsAlong lines ds row own
  pub part : (f : ℕ) → part_along lines ds row own f ≡ held_part p ds ms lines k f

pub read_row : (p : Program) (ds : List Domain) (n : ℕ) (ms : List Mult) (lines : List Line) (k : ℕ) (rows : List Row) (row : Row) (mult : Mult) → CanMove p ds n → AreLines p n ms lines → k < length p.rows → row ≡ get_or rows k row → rows ≡ p.rows → mult ≡ get_or ms k mult → IsRead p ds ms lines k row mult.factor
read_row p ds n ms lines k rows row mult can held lt read same own =
    let e : row ≡ row_at p.rows k = get_or_read p.rows k row lt (read ∙ ap (λ (rs : List Row). get_or rs k row) same) no_row in
    let q : mult.factor ≡ own_of ms k = ap (λ (m : Mult). m.factor) (get_or_read ms k mult (omega (arith, held.full.all)) own no_mult) in
    record {
      is_row = e;
      is_own = q;
      along = subst (λ (r : Row). IsAlong lines ds r mult.factor) (sym e) (subst (IsAlong lines ds (row_at p.rows k)) (sym q) (can_vary p ds n ms lines k can held lt));
      part = λ f. ap (λ (r : Row). part_along lines ds r mult.factor f) e ∙ ap (λ (o : ℕ). part_along lines ds (row_at p.rows k) o f) q;
    }

-- the lines move as a row is read
pub moved_read : (p : Program) (ds : List Domain) (n : ℕ) (ms : List Mult) (lines new_lines : List Line) (k : ℕ) (row : Row) (own : ℕ) (new : Mult) → IsRead p ds ms lines k row own → AreLines p n ms lines → length new_lines ≡ length p.root → k < length p.rows → new.row ≡ k → new.factor ≤ 1099511627776
    → ((slot v : ℕ) → slot < length p.root → line_at (slot_line new_lines slot) v ≡ (line_at (slot_line lines slot) v +ℤ (pos own *ℤ entry_at row.entries slot v)) -ℤ (pos new.factor *ℤ entry_at row.entries slot v))
    → AreLines p n (set ms k new) new_lines
moved_read p ds n ms lines new_lines k row own new read held few lt same range moved =
    moved_lines p n ms lines new_lines k new held few lt same range
    (λ slot v h.
    moved slot v h
    ∙ ap (λ (r : Row). (line_at (slot_line lines slot) v +ℤ (pos own *ℤ entry_at r.entries slot v)) -ℤ (pos new.factor *ℤ entry_at r.entries slot v)) read.is_row
    ∙ ap (λ (o : ℕ). (line_at (slot_line lines slot) v +ℤ (pos o *ℤ entry_at (row_at p.rows k).entries slot v)) -ℤ (pos new.factor *ℤ entry_at (row_at p.rows k).entries slot v)) read.is_own)

pub exact : (x : ℤ) → unsigned_abs x ≤ 2 ^ 118 → to_z w128 (of_z w128 x) ≡ x
exact x h = omega (arith, ints)

exact_less : (x y : ℤ) → unsigned_abs x ≤ 2 ^ 118 → unsigned_abs y ≤ 2 ^ 118 → to_z w128 (of_z w128 (to_z w128 (of_z w128 x) -ℤ to_z w128 (of_z w128 y))) ≡ x -ℤ y
exact_less x y h k = omega (arith, ints)

-- the total after a fall
pub less_fall : (t f : ℤ) → unsigned_abs t < 2 ^ 117 → unsigned_abs f ≤ 2 ^ 118 → to_z w128 (of_z w128 (to_z w128 (of_z w128 t) -ℤ to_z w128 (of_z w128 f))) ≡ t -ℤ f
less_fall t f h k = exact_less t f (omega (arith, h)) k

not_less : (x y : ℤ) → int_lt x y ≡ false → y ≤ℤ x
not_less x y e = grind (arith, ints)

-- a fall that is not below the scale
pub fall_shown : (a f : ℤ) (n : ℕ) → unsigned_abs a ≤ 2 ^ 118 → f ≡ pos n → n ≤ 2 ^ 20 → int_lt (to_z w128 (of_z w128 a)) (to_z w128 (of_z w128 f)) ≡ false → pos n ≤ℤ a
fall_shown a f n h e m test =
    let same : to_z w128 (of_z w128 f) ≡ pos n = exact f (omega (arith, ints, e, m)) ∙ e in
    subst (λ (x : ℤ). pos n ≤ℤ x) (exact a h) (subst (λ (x : ℤ). x ≤ℤ to_z w128 (of_z w128 a)) same (not_less _ _ test))

-- the distance of the total from the least number falls with it
pub falls_far : (new old : ℤ) (n : ℕ) → (new +ℤ pos n) ≤ℤ old → 1 ≤ n → unsigned_abs new < 2 ^ 117 → unsigned_abs (new +ℤ pos (2 ^ 127)) < unsigned_abs (old +ℤ pos (2 ^ 127))
falls_far new old n h low small = omega (arith, ints)

pub fell_by : (t d n : ℤ) → n ≤ℤ d → ((t -ℤ d) +ℤ n) ≤ℤ t
fell_by t d n h = omega (arith, ints)
