-- The program with a unit's setup keeps the bounds of programs.
use Rattle.std.proofs.Common.{◌≡◌, ℕ, zero, suc, ◌+◌, ◌-◌, ◌<◌, ◌≤◌, ◌==◌, nat_le, Bool, true, false, cond, zero-add, List, [], ◌∷◌, ◌++◌, length, get_or, map, replicate, refl, sym, ap, ◌∙◌, subst, arith, inl, inr, ℤ, pos, neg_ℤ, ◌-ℤ◌, unsigned_abs}
use Rattle.std.specs.List.{All}
use Rattle.std.specs.List.Sorted.{IsStrictlyIncreasing}
use Rattle.std.proofs.lemmas.Bool.{cases_Bool, cases_lt}
use Rattle.std.proofs.lemmas.Int.{ints}
use Rattle.std.proofs.lemmas.List.{get_or_append_left, get_or-append_right, length-append, length-map, length-replicate, map-append}
use Rattle.std.proofs.lemmas.List.Elements.{All-append, All-cons, All-map, All-nil, All-replicate, All-weaker}
use Rattle.stn_model.specs.declared.plant.Plant.{Plant}
use Rattle.stn_model.specs.Sound.{Sound}
use Rattle.row_kit.specs.declared.domain.Domain.{Domain}
use Rattle.row_kit.specs.declared.program.Program.{Program}
use Rattle.row_kit.specs.declared.row.Entry.{Entry}
use Rattle.row_kit.specs.declared.row.Row.{Row}
use Rattle.row_kit.specs.declared.row.Tag.{Tag}
use Rattle.row_kit.specs.Bounds.{AreBounded, IsBoundedRow, IsBoundedTag, KeepsBounds}
use Rattle.row_kit.specs.Domain.{IsNormal}
use Rattle.row_kit.specs.Row.{entries_from, is_nothing}
use Rattle.row_kit.proofs.Gathered.{AreBounded-from, IsPartWithin, entries-keep, entries-skip}
use Rattle.row_set.proofs.Bounds.{cost_most, first_cost_most}
use Rattle.setup_slots.specs.declared.setup.SetupRow.{SetupRow}
use Rattle.setup_slots.specs.declared.setup.SetupRow.TheVariants.{Single, Held, Begun}
use Rattle.setup_slots.specs.declared.setup.SetupSlot.{SetupSlot}
use Rattle.setup_slots.specs.declared.setup.SetupSlot.TheVariants.{First, Change}
use Rattle.setup_slots.specs.declared.task_slot.TaskSlot.{TaskSlot}
use Rattle.setup_slots.specs.Larger.{HasPlantSlots, HasRoom, setup_domain, setup_tag}
use Rattle.setup_slots.specs.Rows.{fixed_part, is_change_to, most_of, one_if, profit_entries, row_over, row_parts, runs_in, setup_part, setup_profit, setup_row, setup_rows, slot_part}
use Rattle.setup_slots.specs.Slots.{setup_slots, starts_in, task_slots}

-- entries over slots are entries over more slots
more_slots : (n m most : ℕ) (es : List Entry) → n ≤ m → AreBounded n most es → AreBounded m most es
more_slots n m most es more bounded = record {
  named = λ k d lt. omega (arith, more, bounded.named k d lt);
  ascending = bounded.ascending;
  fixed_small = bounded.fixed_small;
  per_small = bounded.per_small;
}

-- what slots count in rows is 1 at most
one_small : (t : Bool) → unsigned_abs (one_if t) ≤ 1
one_small true = omega arith
one_small false = omega arith

negated_small : (t : Bool) → unsigned_abs (neg_ℤ (one_if t)) ≤ 1
negated_small true = omega arith
negated_small false = omega arith

difference_small : (u v : Bool) → unsigned_abs (one_if u -ℤ one_if v) ≤ 1
difference_small true true = omega arith
difference_small true false = omega arith
difference_small false true = omega arith
difference_small false false = omega arith

if_small : (t : Bool) (c : ℤ) → unsigned_abs c ≤ 1 → unsigned_abs (cond t c (pos 0)) ≤ 1
if_small true c small = small
if_small false c small = omega arith

slot_small : (unit : ℕ) (row : SetupRow) (slot : TaskSlot) → unsigned_abs (slot_part unit row slot) ≤ 1
slot_small unit Single slot = omega arith
slot_small unit (Held task period) slot = one_small (runs_in unit task period slot)
slot_small unit (Begun task period) slot = negated_small (starts_in unit task period slot)

setup_small : (row : SetupRow) (slot : SetupSlot) → unsigned_abs (setup_part row slot) ≤ 1
setup_small Single (First task) = omega arith
setup_small Single (Change from to at) = omega arith
setup_small (Held task period) (First first) = negated_small (first == task)
setup_small (Held task period) (Change from to at) = if_small (nat_le at period) (one_if (from == task) -ℤ one_if (to == task)) (difference_small (from == task) (to == task))
setup_small (Begun task period) slot = one_small (is_change_to task period slot)

pub limit_small : (row : SetupRow) → unsigned_abs (most_of row) ≤ 1000000000000
limit_small Single = omega arith
limit_small (Held task period) = omega arith
limit_small (Begun task period) = omega arith

within : (c : ℤ) → unsigned_abs c ≤ 1 → IsPartWithin 10000000 (fixed_part c)
within c small = record { fixed = omega (arith, small); per = omega arith }

-- what slots count in a row: one part for each
pub row_parts-length : (slots : List TaskSlot) (setups : List SetupSlot) (unit first : ℕ) (row : SetupRow) → length slots ≤ first → length (row_parts slots setups unit first row) ≡ first + length setups
unfolding row_parts
row_parts-length slots setups unit first row room =
    let own = map (λ s. fixed_part (slot_part unit row s)) slots in
    let none = replicate (first - length slots) (fixed_part (pos 0)) in
    let more = map (λ s. fixed_part (setup_part row s)) setups in
    omega (
      arith,
      room,
      length-append own (none ++ more),
      length-append none more,
      length-map slots (λ s. fixed_part (slot_part unit row s)),
      length-map setups (λ s. fixed_part (setup_part row s)),
      length-replicate (first - length slots) (fixed_part (pos 0)),
    )

row_parts-within : (slots : List TaskSlot) (setups : List SetupSlot) (unit first : ℕ) (row : SetupRow) → All (IsPartWithin 10000000) (row_parts slots setups unit first row)
unfolding row_parts
row_parts-within slots setups unit first row =
    let P = IsPartWithin 10000000 in
    let own = map (λ s. fixed_part (slot_part unit row s)) slots in
    let none = replicate (first - length slots) (fixed_part (pos 0)) in
    let more = map (λ s. fixed_part (setup_part row s)) setups in
    All-append P own (none ++ more)
    (All-map P (λ s. fixed_part (slot_part unit row s)) slots (λ k d l. let s = get_or slots k d in within (slot_part unit row s) (slot_small unit row s)))
    (All-append P none more (All-replicate P (first - length slots) (fixed_part (pos 0)) (within (pos 0) (omega arith)))
    (All-map P (λ s. fixed_part (setup_part row s)) setups (λ k d l. let s = get_or setups k d in within (setup_part row s) (setup_small row s))))

-- a row of a setup is bounded
row_bounded : (slots : List TaskSlot) (setups : List SetupSlot) (unit first : ℕ) (row : SetupRow) → length slots ≤ first → IsBoundedRow (first + length setups) (row_over slots setups unit first row)
unfolding row_over
row_bounded slots setups unit first row room =
    let parts = row_parts slots setups unit first row in
    record {
      entries = subst (λ (n : ℕ). AreBounded n 10000000 (entries_from 0 parts)) (row_parts-length slots setups unit first row room) (AreBounded-from 10000000 parts (row_parts-within slots setups unit first row));
      limit = limit_small row;
    }

-- what a slot of a setup earns is bounded
profit_within : (plant : Plant) (unit : ℕ) (slot : SetupSlot) → Sound plant → IsPartWithin 2000000000000000 (fixed_part (setup_profit plant unit slot))
profit_within plant unit (First task) sound = record { fixed = (let most = first_cost_most plant unit task sound in omega (arith, ints, most)); per = omega arith }
profit_within plant unit (Change from to at) sound = record { fixed = (let most = cost_most plant unit from to sound in omega (arith, ints, most)); per = omega arith }

-- entries of parts behind slots that count nothing name later slots
skipped : (slot n : ℕ) (parts : List (ℤ × ℤ)) → entries_from slot (replicate n (fixed_part (pos 0)) ++ parts) ≡ entries_from (slot + n) parts
skipped slot zero parts = ap (λ k. entries_from k parts) (let e : slot ≡ slot + 0 = omega arith in e)
skipped slot (suc n) parts =
    entries-skip slot (fixed_part (pos 0)) (replicate n (fixed_part (pos 0)) ++ parts) refl ∙ skipped (slot + 1) n parts
    ∙ ap (λ k. entries_from k parts) (let e : slot + 1 + n ≡ slot + suc n = omega arith in e)

later_slots : (slot : ℕ) (parts : List (ℤ × ℤ)) → All (λ e. slot ≤ e.slot) (entries_from slot parts)
later_slots slot [] = All-nil (λ e. slot ≤ e.slot)
later_slots slot (p ∷ parts) =
    let rest = All-weaker (λ (e : Entry). slot + 1 ≤ e.slot) (λ (e : Entry). slot ≤ e.slot) (λ e late. omega (arith, late)) (entries_from (slot + 1) parts) (later_slots (slot + 1) parts) in
    elim (cases_Bool (is_nothing p)) [
      | inl t ↦ subst (All (λ (e : Entry). slot ≤ e.slot)) (sym (entries-skip slot p parts t)) rest
      | inr t ↦ subst (All (λ (e : Entry). slot ≤ e.slot)) (sym (entries-keep slot p parts t))
          (All-cons (λ (e : Entry). slot ≤ e.slot) (record { slot = slot; fixed = p.0; per = p.1 }) (entries_from (slot + 1) parts) (omega arith) rest)
    ]

-- numbers that ascend, and others that ascend behind them
rises_both : (xs ys : List ℕ) (n : ℕ) → IsStrictlyIncreasing xs → IsStrictlyIncreasing ys → All (λ x. x < n) xs → All (λ y. n ≤ y) ys → IsStrictlyIncreasing (xs ++ ys)
rises_both xs ys n up more less late k lt =
    let m = length xs in
    let both = length-append xs ys in
    elim (cases_lt (k + 1) m) [
      | inl low ↦
          let here = get_or_append_left xs ys 0 k (omega arith) in
          let next = get_or_append_left xs ys 0 (k + 1) low in
          omega (arith, here, next, up k low)
      | inr high ↦
          let next = get_or-append_right xs ys m (k + 1) 0 refl high in
          elim (cases_lt k m) [
            | inl last ↦
                let here = get_or_append_left xs ys 0 k last in
                omega (arith, here, next, less k 0 last, late (k + 1 - m) 0 (omega (arith, lt, both, high)))
            | inr past ↦
                let here = get_or-append_right xs ys m k 0 refl past in
                let at : k + 1 - m ≡ k - m + 1 = omega arith in
                omega (arith, here, next, more (k - m) (omega (arith, lt, both, past)), ap (λ (i : ℕ). get_or ys i 0) at)
          ]
    ]

profits_bounded : (plant : Plant) (unit first : ℕ) → Sound plant → AreBounded (first + length (setup_slots plant unit)) 2000000000000000 (profit_entries plant unit first)
unfolding profit_entries
profits_bounded plant unit first sound =
    let setups = setup_slots plant unit in
    let P = IsPartWithin 2000000000000000 in
    let g : SetupSlot → ℤ × ℤ = λ s. fixed_part (setup_profit plant unit s) in
    let none = replicate first (fixed_part (pos 0)) in
    let long : length (none ++ map g setups) ≡ first + length setups = omega (arith, length-append none (map g setups), length-replicate first (fixed_part (pos 0)), length-map setups g) in
    subst (λ (n : ℕ). AreBounded n 2000000000000000 (entries_from 0 (none ++ map g setups))) long
    (AreBounded-from 2000000000000000 (none ++ map g setups)
    (All-append P none (map g setups) (All-replicate P first (fixed_part (pos 0)) (record { fixed = omega arith; per = omega arith }))
    (All-map P g setups (λ k d l. profit_within plant unit (get_or setups k d) sound))))

profits_late : (plant : Plant) (unit first : ℕ) → All (λ e. first ≤ e.slot) (profit_entries plant unit first)
unfolding profit_entries
profits_late plant unit first =
    let parts = map (λ s. fixed_part (setup_profit plant unit s)) (setup_slots plant unit) in
    subst (All (λ (e : Entry). first ≤ e.slot)) (sym (skipped 0 first parts ∙ ap (λ k. entries_from k parts) (zero-add first))) (later_slots first parts)

-- the profits of a program and those of a setup behind them are bounded
profit_bounded : (plant : Plant) (unit first : ℕ) (old : List Entry) → Sound plant → AreBounded first 2000000000000000 old →
    AreBounded (first + length (setup_slots plant unit)) 2000000000000000 (old ++ profit_entries plant unit first)
profit_bounded plant unit first old sound bounded =
    let n = first + length (setup_slots plant unit) in
    let new = profit_entries plant unit first in
    let before = more_slots first n 2000000000000000 old (omega arith) bounded in
    let after = profits_bounded plant unit first sound in
    record {
      named = All-append (λ e. e.slot < n) old new before.named after.named;
      ascending = subst IsStrictlyIncreasing (sym (map-append (λ (e : Entry). e.slot) old new))
          (rises_both (map (λ e. e.slot) old) (map (λ e. e.slot) new) first bounded.ascending after.ascending
          (All-map (λ s. s < first) (λ (e : Entry). e.slot) old bounded.named) (All-map (λ s. first ≤ s) (λ (e : Entry). e.slot) new (profits_late plant unit first)));
      fixed_small = All-append (λ e. unsigned_abs e.fixed ≤ 2000000000000000) old new before.fixed_small after.fixed_small;
      per_small = All-append (λ e. unsigned_abs e.per ≤ 2000000000000000) old new before.per_small after.per_small;
    }

-- the larger program keeps the bounds
pub keeps-bounds : (plant : Plant) (unit lane : ℕ) (program : Program) (rows : List Row) (profit : List Entry) (root : List Domain) (tags : List Tag) → Sound plant → HasPlantSlots plant program → HasRoom plant unit program →
    rows ≡ program.rows ++ map (setup_row plant unit (length program.root)) (setup_rows plant unit) → profit ≡ program.profit ++ profit_entries plant unit (length program.root) →
    root ≡ program.root ++ map (λ s. setup_domain) (setup_slots plant unit) → tags ≡ program.tags ++ map (λ s. setup_tag lane) (setup_slots plant unit) → KeepsBounds rows profit program.base root tags program.changes
keeps-bounds plant unit lane program rows profit root tags sound begins room are_rows are_profits are_slots are_tags =
    let first = length program.root in
    let setups = setup_slots plant unit in
    let kinds = setup_rows plant unit in
    let domains = map (λ (s : SetupSlot). setup_domain) setups in
    let made = map (setup_row plant unit first) kinds in
    let slots : length root ≡ first + length setups = ap length are_slots ∙ length-append program.root domains ∙ ap (λ k. first + k) (length-map setups (λ s. setup_domain)) in
    let few = room.slots in
    let few_rows = room.rows in
    record {
      few_slots = omega (arith, slots, few);
      root_normal = subst (All IsNormal) (sym are_slots) (All-append IsNormal program.root domains program.root_normal
          (All-map IsNormal (λ s. setup_domain) setups (λ k d l. record { positive = omega arith; byte = omega arith; bare = λ less. absurd (omega arith) })));
      few_rows = omega (arith, ap length are_rows, length-append program.rows made, length-map kinds (setup_row plant unit first), few_rows);
      rows_bounded = subst (All (IsBoundedRow (length root))) (sym are_rows) (All-append (IsBoundedRow (length root)) program.rows made
          (λ k d l. let row = program.rows_bounded k d l in record { entries = more_slots first (length root) 10000000 (get_or program.rows k d).entries (omega (arith, slots)) row.entries; limit = row.limit })
          (subst (λ (n : ℕ). All (IsBoundedRow n) made) (sym slots) (All-map (IsBoundedRow (first + length setups)) (setup_row plant unit first) kinds
          (λ k d l. row_bounded (task_slots plant) setups unit first (get_or kinds k d) begins))));
      profit_bounded = subst (λ (n : ℕ). AreBounded n 2000000000000000 profit) (sym slots) (subst (AreBounded (first + length setups) 2000000000000000) (sym are_profits) (profit_bounded plant unit first program.profit sound program.profit_bounded));
      base_bounded = program.base_bounded;
      one_tag = ap length are_tags ∙ omega (arith, slots, program.one_tag, length-append program.tags (map (λ (s : SetupSlot). setup_tag lane) setups), length-map setups (λ s. setup_tag lane));
      costs_bounded = program.costs_bounded;
      openings_bounded = subst (All IsBoundedTag) (sym are_tags) (All-append IsBoundedTag program.tags (map (λ (s : SetupSlot). setup_tag lane) setups) program.openings_bounded (All-map IsBoundedTag (λ (s : SetupSlot). setup_tag lane) setups (λ k d l. omega arith)));
    }
