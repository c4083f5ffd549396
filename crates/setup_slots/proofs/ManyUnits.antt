-- The law of the setups of several units.
use Rattle.std.proofs.Common.{◌≡◌, ℕ, suc, ◌+◌, ◌<◌, ◌≤◌, ◌==◌, cond, List, [], ◌∷◌, ◌++◌, length, get_or, map, take, drop, sum_by, refl, sym, ap, ◌∙◌, append_assoc, append-nil, arith, inl, inr, subst, ℤ, pos, ◌-ℤ◌, ◌≤ℤ◌}
use Rattle.std.specs.Prelude.{◌↔◌}
use Rattle.std.specs.List.{All}
use Rattle.std.specs.List.Sorted.{IsStrictlyIncreasing}
use Rattle.std.proofs.lemmas.Bool.{cases_Bool, eqb-true}
use Rattle.std.proofs.lemmas.Int.{ints}
use Rattle.std.proofs.lemmas.List.{at_drop_more, drop_all, length-append, length-map, take-append-le}
use Rattle.std.proofs.lemmas.List.Elements.{All-cons, All-nil, All-weaker, All-head, All-tail}
use Rattle.std.proofs.lemmas.List.Sums.{sum_by-cons, sum_by-le-sum_by}
use Rattle.stn_model.specs.declared.plant.Plant.{Plant}
use Rattle.stn_model.specs.declared.start.Start.{Start}
use Rattle.time_grid.specs.Slots.{slots}
use Rattle.row_kit.specs.declared.domain.Domain.{Domain}
use Rattle.row_kit.specs.declared.program.Program.{Program}
use Rattle.row_kit.specs.declared.row.Row.{Row}
use Rattle.row_kit.specs.Point.{value_of}
use Rattle.setup_slots.specs.Image.{setup_image, start_changes, unit_costs}
use Rattle.setup_slots.specs.Larger.{HasPlantSlots, HasRoom, IsWithSetups, setup_domain}
use Rattle.setup_slots.specs.Law.{BeginsWith, HasSetupImages, SeveralCostLess, SeveralHaveImages}
use Rattle.setup_slots.specs.Rows.{setup_row, setup_rows}
use Rattle.setup_slots.specs.Several.{AreSetUp, HaveRoom, costs_on, domains_with, rows_with, set_up, slots_with}
use Rattle.setup_slots.specs.Slots.{setup_slots, task_slot, task_slots}
use Rattle.setup_slots.proofs.Images.{costs-are, law}
use Rattle.setup_slots.proofs.Starts.{sum_by-two}

-- ---- what a program with setups begins with

-- a program begins with another: its slots and its rows come first
pub record BeginsAs (program larger : Program) : Type 0 where
  pub slots : List Domain
  pub root : larger.root ≡ program.root ++ slots
  pub others : List Row
  pub rows : larger.rows ≡ program.rows ++ others

begins-one : (plant : Plant) (unit : ℕ) (program larger : Program) → IsWithSetups plant unit program larger → BeginsAs program larger
begins-one plant unit program larger is = record {
  slots = map (λ slot. setup_domain) (setup_slots plant unit);
  root = is.root;
  others = map (setup_row plant unit (length program.root)) (setup_rows plant unit);
  rows = is.rows;
}

begins-both : (program next larger : Program) → BeginsAs program next → BeginsAs next larger → BeginsAs program larger
begins-both program next larger one two = record {
  slots = one.slots ++ two.slots;
  root = two.root ∙ ap (λ (ds : List Domain). ds ++ two.slots) one.root ∙ append_assoc program.root one.slots two.slots;
  others = one.others ++ two.others;
  rows = two.rows ∙ ap (λ (rs : List Row). rs ++ two.others) one.rows ∙ append_assoc program.rows one.others two.others;
}

-- a program with the setups of units begins with the one without them
pub begins-several : (plant : Plant) (units : List ℕ) (program larger : Program) → AreSetUp plant units program larger → BeginsAs program larger
begins-several plant [] program larger is = record { slots = []; root = ap (λ (p : Program). p.root) is ∙ sym (append-nil program.root); others = []; rows = ap (λ (p : Program). p.rows) is ∙ sym (append-nil program.rows) }
begins-several plant (unit ∷ units) program larger is =
    begins-both program is.0 larger (begins-one plant unit program is.0 is.1.0) (begins-several plant units is.0 larger is.1.1)

-- ---- images

-- a point longer than another begins with the plan's where that does
begins-on : (plant : Plant) (plan : List Start) (point more : List ℕ) → length (task_slots plant) ≤ length point → BeginsWith plant plan point → BeginsWith plant plan (point ++ more)
begins-on plant plan point more long begins =
    take-append-le (length (slots plant)) point more (omega (arith, long, length-map (slots plant) (task_slot plant))) ∙ begins

-- the plant's slots are there still
pub room-on : (plant : Plant) (unit : ℕ) (program next : Program) → HasPlantSlots plant program → IsWithSetups plant unit program next → HasPlantSlots plant next
room-on plant unit program next room is =
    omega (arith, room, ap length is.root, length-append program.root (map (λ slot. setup_domain) (setup_slots plant unit)))

no_costs : (value : ℤ) → (value -ℤ pos 0) ≤ℤ value
no_costs value = omega (arith, ints)

both_costs : (a b c : ℤ) (m n : ℕ) → (a -ℤ pos m) ≤ℤ b → (b -ℤ pos n) ≤ℤ c → (a -ℤ pos (m + n)) ≤ℤ c
both_costs a b c m n one two = omega (arith, ints, one, two)

pub several-law : SeveralHaveImages
several-law plant [] program larger plan point sound room is feasible begins lawful =
    subst (λ (p : Program). HasSetupImages plant [] plan program p point) (sym is) (record { lawful = lawful; value = no_costs (value_of program point) })
several-law plant (unit ∷ units) program larger plan point sound room is feasible begins lawful =
    let next = is.0 in
    let image = setup_image plant unit plan in
    let one = law plant unit program next plan point sound room is.1.0 feasible begins lawful in
    let long : length (task_slots plant) ≤ length point = omega (arith, room, lawful.lies.same_length) in
    let rest = several-law plant units next larger plan (point ++ image) sound (room-on plant unit program next room is.1.0) is.1.1 feasible (begins-on plant plan point image long begins) one.lawful in
    record {
      lawful = rest.lawful;
      value = both_costs (value_of program point) (value_of next (point ++ image)) (value_of larger (set_up plant units plan (point ++ image))) (unit_costs plant unit plan) (costs_on plant units plan) one.value rest.value;
    }

-- an image begins with the point
pub set_up-begins : (plant : Plant) (units : List ℕ) (plan : List Start) (point : List ℕ) (n : ℕ) → n ≤ length point → take n (set_up plant units plan point) ≡ take n point
set_up-begins plant [] plan point n le = refl
set_up-begins plant (unit ∷ units) plan point n le =
    let image = setup_image plant unit plan in
    set_up-begins plant units plan (point ++ image) n (omega (arith, le, length-append point image)) ∙ take-append-le n point image le

-- ---- costs

-- a number counted once for each of the units that is this one
abbrev counted_at : ℕ → ℕ → List ℕ → ℕ
counted_at n u [] = 0
counted_at n u (unit ∷ units) = cond (u == unit) n 0 + counted_at n u units

increasing-rest : (x : ℕ) (xs : List ℕ) → IsStrictlyIncreasing (x ∷ xs) → IsStrictlyIncreasing xs
increasing-rest x xs up = λ k l. let e : suc k + 1 ≡ suc (k + 1) = omega arith in subst (λ (n : ℕ). get_or xs k 0 < get_or (x ∷ xs) n 0) e (up (suc k) (omega arith))

above : (x : ℕ) (xs : List ℕ) → IsStrictlyIncreasing (x ∷ xs) → All (λ y. x < y) xs
above x [] up = All-nil (λ y. x < y)
above x (y ∷ ys) up =
    let first : x < y = up 0 (omega arith) in
    All-cons (λ z. x < z) y ys first (All-weaker (λ z. y < z) (λ z. x < z) (λ z less. omega (arith, first, less)) ys (above y ys (increasing-rest x (y ∷ ys) up)))

none-counted : (n u : ℕ) (units : List ℕ) → All (λ unit. u < unit) units → counted_at n u units ≡ 0
none-counted n u [] high = refl
none-counted n u (unit ∷ units) high =
    let first : u < unit = All-head (λ w. u < w) unit units high in
    elim (cases_Bool (u == unit)) [
      | inl t ↦ absurd (omega (arith, first, eqb-true u unit t))
      | inr f ↦ rw f (omega (arith, none-counted n u units (All-tail (λ w. u < w) unit units high)))
    ]

-- so at most once where they are different
counted-once : (n u : ℕ) (units : List ℕ) → IsStrictlyIncreasing units → counted_at n u units ≤ n
counted-once n u [] up = omega arith
counted-once n u (unit ∷ units) up =
    elim (cases_Bool (u == unit)) [
      | inl t ↦
          let same = eqb-true u unit t in
          let none = none-counted n u units (subst (λ (w : ℕ). All (λ v. w < v) units) (sym same) (above unit units up)) in
          rw t (omega (arith, none))
      | inr f ↦ rw f (omega (arith, counted-once n u units (increasing-rest unit units up)))
    ]

sum_of_none : (plan : List Start) → 0 ≡ sum_by (λ (a : Start). 0) plan
sum_of_none [] = refl
sum_of_none (a ∷ plan) = omega (arith, sum_by-cons (λ (x : Start). 0) a plan, sum_of_none plan)

-- what the changeovers on units cost, start by start
costs-counted : (plant : Plant) (units : List ℕ) (plan : List Start) → costs_on plant units plan ≡ sum_by (λ a. counted_at (start_changes plant plan a) a.unit units) plan
unfolding unit_costs
costs-counted plant [] plan = sum_of_none plan
costs-counted plant (unit ∷ units) plan =
    let f = start_changes plant plan in
    ap (λ (n : ℕ). unit_costs plant unit plan + n) (costs-counted plant units plan)
    ∙ sym (sum_by-two (λ a. cond (a.unit == unit) (f a) 0) (λ a. counted_at (f a) a.unit units) plan)

pub several-costs : SeveralCostLess
several-costs plant units plan up =
    let f = start_changes plant plan in
    omega (arith, costs-are plant plan, costs-counted plant units plan, sum_by-le-sum_by (λ a. counted_at (f a) a.unit units) f plan (λ a. counted-once (f a) a.unit units up))

-- ---- room

-- more slots and rows leave less room
pub slots-grow : (plant : Plant) (units : List ℕ) (count : ℕ) → count ≤ slots_with plant units count
slots-grow plant [] count = omega arith
slots-grow plant (unit ∷ units) count = let more = slots-grow plant units (count + length (setup_slots plant unit)) in omega (arith, more)

pub rows-grow : (plant : Plant) (units : List ℕ) (count : ℕ) → count ≤ rows_with plant units count
rows-grow plant [] count = omega arith
rows-grow plant (unit ∷ units) count = let more = rows-grow plant units (count + length (setup_rows plant unit)) in omega (arith, more)

-- where there is room for the setups of units there is for the first
pub room-first : (plant : Plant) (unit : ℕ) (units : List ℕ) (program : Program) → HaveRoom plant (unit ∷ units) program → HasRoom plant unit program
room-first plant unit units program room =
    let slots = room.slots in
    let rows = room.rows in record {
      slots = omega (arith, slots, slots-grow plant units (length program.root + length (setup_slots plant unit)));
      rows = omega (arith, rows, rows-grow plant units (length program.rows + length (setup_rows plant unit)));
    }

next-slots : (plant : Plant) (unit : ℕ) (program next : Program) → IsWithSetups plant unit program next → length next.root ≡ length program.root + length (setup_slots plant unit)
next-slots plant unit program next is =
    ap length is.root ∙ length-append program.root (map (λ slot. setup_domain) (setup_slots plant unit)) ∙ ap (λ (n : ℕ). length program.root + n) (length-map (setup_slots plant unit) (λ slot. setup_domain))

next-rows : (plant : Plant) (unit : ℕ) (program next : Program) → IsWithSetups plant unit program next → length next.rows ≡ length program.rows + length (setup_rows plant unit)
next-rows plant unit program next is =
    let f = setup_row plant unit (length program.root) in
    ap length is.rows ∙ length-append program.rows (map f (setup_rows plant unit)) ∙ ap (λ (n : ℕ). length program.rows + n) (length-map (setup_rows plant unit) f)

-- and for the others behind it, and the other way round
pub room-rest : (plant : Plant) (unit : ℕ) (units : List ℕ) (program next : Program) → IsWithSetups plant unit program next → HaveRoom plant (unit ∷ units) program → HaveRoom plant units next
room-rest plant unit units program next is room = record {
  slots = subst (λ (n : ℕ). slots_with plant units n ≤ 4096) (sym (next-slots plant unit program next is)) room.slots;
  rows = subst (λ (n : ℕ). rows_with plant units n ≤ 400000) (sym (next-rows plant unit program next is)) room.rows;
}

pub room-all : (plant : Plant) (unit : ℕ) (units : List ℕ) (program next : Program) → IsWithSetups plant unit program next → HaveRoom plant units next → HaveRoom plant (unit ∷ units) program
room-all plant unit units program next is room = record {
  slots = subst (λ (n : ℕ). slots_with plant units n ≤ 4096) (next-slots plant unit program next is) room.slots;
  rows = subst (λ (n : ℕ). rows_with plant units n ≤ 400000) (next-rows plant unit program next is) room.rows;
}

-- how many slots and rows a program has with the setups of units
pub slots-several : (plant : Plant) (units : List ℕ) (program larger : Program) → AreSetUp plant units program larger → length larger.root ≡ slots_with plant units (length program.root)
slots-several plant [] program larger is = ap (λ (p : Program). length p.root) is
slots-several plant (unit ∷ units) program larger is = slots-several plant units is.0 larger is.1.1 ∙ ap (slots_with plant units) (next-slots plant unit program is.0 is.1.0)

pub rows-several : (plant : Plant) (units : List ℕ) (program larger : Program) → AreSetUp plant units program larger → length larger.rows ≡ rows_with plant units (length program.rows)
rows-several plant [] program larger is = ap (λ (p : Program). length p.rows) is
rows-several plant (unit ∷ units) program larger is = rows-several plant units is.0 larger is.1.1 ∙ ap (rows_with plant units) (next-rows plant unit program is.0 is.1.0)

-- ---- domains

-- the root of a program with the setups of units
pub roots-several : (plant : Plant) (units : List ℕ) (program larger : Program) → AreSetUp plant units program larger → larger.root ≡ domains_with plant units program.root
roots-several plant [] program larger is = ap (λ (p : Program). p.root) is
roots-several plant (unit ∷ units) program larger is = roots-several plant units is.0 larger is.1.1 ∙ ap (domains_with plant units) is.1.0.root

-- ---- one unit after another

-- the units that are left, one step on
step-on : (plant : Plant) (units : List ℕ) (i : ℕ) (larger next : Program) → i < length units → IsWithSetups plant (get_or units i 0) larger next → (q : Program) → AreSetUp plant (drop (i + 1) units) next q → AreSetUp plant (drop i units) larger q
step-on plant units i larger next less one q rest = subst (λ us. AreSetUp plant us larger q) (sym (at_drop_more (λ us. us) units i 0 less)) (next, (one, rest))

pub sets-more : (plant : Plant) (units : List ℕ) (i : ℕ) (program larger next : Program) → i < length units → IsWithSetups plant (get_or units i 0) larger next
    → ((q : Program) → AreSetUp plant (drop i units) larger q → AreSetUp plant units program q) → (q : Program) → AreSetUp plant (drop (i + 1) units) next q → AreSetUp plant units program q
sets-more plant units i program larger next less one before q rest = before q (step-on plant units i larger next less one q rest)

pub room-more : (plant : Plant) (units : List ℕ) (i : ℕ) (program larger next : Program) → i < length units → IsWithSetups plant (get_or units i 0) larger next → (HaveRoom plant units program) ↔ (HaveRoom plant (drop i units) larger)
    → (HaveRoom plant units program) ↔ (HaveRoom plant (drop (i + 1) units) next)
room-more plant units i program larger next less one before =
    let unit = get_or units i 0 in
    let rest = drop (i + 1) units in
    let here = at_drop_more (λ us. us) units i 0 less in (
      λ room. room-rest plant unit rest larger next one (subst (λ us. HaveRoom plant us larger) here (before.0 room)),
      λ room. before.1 (subst (λ us. HaveRoom plant us larger) (sym here) (room-all plant unit rest larger next one room)),
    )

-- without room for the next there is none for all
pub room-none : (plant : Plant) (units : List ℕ) (i : ℕ) (program larger : Program) → i < length units → (HasRoom plant (get_or units i 0) larger → ⊥) → (HaveRoom plant units program) ↔ (HaveRoom plant (drop i units) larger) → HaveRoom plant units program → ⊥
room-none plant units i program larger less none before room =
    none (room-first plant (get_or units i 0) (drop (i + 1) units) larger (subst (λ us. HaveRoom plant us larger) (at_drop_more (λ us. us) units i 0 less) (before.0 room)))

-- at the end all are set up, and there is room
pub sets-all : (plant : Plant) (units : List ℕ) (i : ℕ) (program larger : Program) → length units ≤ i → ((q : Program) → AreSetUp plant (drop i units) larger q → AreSetUp plant units program q) → AreSetUp plant units program larger
sets-all plant units i program larger past before = before larger (subst (λ us. AreSetUp plant us larger larger) (sym (drop_all i units past)) refl)

pub room-end : (plant : Plant) (units : List ℕ) (i : ℕ) (program larger : Program) → length units ≤ i → (HaveRoom plant units program) ↔ (HaveRoom plant (drop i units) larger) → HaveRoom plant units program
room-end plant units i program larger past before = before.1 (subst (λ us. HaveRoom plant us larger) (sym (drop_all i units past)) (record { slots = larger.few_slots; rows = larger.few_rows }))
