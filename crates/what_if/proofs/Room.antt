-- There is room for a head that can be taken.
use Rattle.std.proofs.Common.{◌≡◌, ℕ, ◌+◌, ◌*◌, ◌≤◌, List, [], ◌∷◌, length, length-append, map, refl, ap, ◌∙◌, subst, sym, arith}
use Rattle.std.proofs.lemmas.List.{length-map}
use Rattle.stn_model.specs.declared.plant.Plant.{Plant}
use Rattle.time_grid.specs.Slots.{slots}
use Rattle.row_kit.specs.declared.domain.Domain.{Domain}
use Rattle.row_kit.specs.declared.program.Program.{Program}
use Rattle.row_set.specs.PlantProgram.{IsMadeOf, slot_domain}
use Rattle.sum_slots.specs.declared.sum.Sum.{Sum}
use Rattle.sum_slots.specs.Larger.{IsWithSums, sum_domain, sum_rows}
use Rattle.sum_slots.proofs.Bounds.{two_rows}
use Rattle.setup_slots.specs.Larger.{HasPlantSlots}
use Rattle.setup_slots.specs.Rows.{setup_rows}
use Rattle.setup_slots.specs.Several.{AreSetUp, HaveRoom, rows_with, slots_with}
use Rattle.setup_slots.specs.Slots.{setup_slots, task_slot}
use Rattle.setup_slots.proofs.ManyUnits.{rows-several}
use Rattle.derivations.specs.Growth.{rows_of}
use Rattle.what_if.specs.declared.old.LogHead.{LogHead}
use Rattle.what_if.specs.Estimate.{AreTaken, HasHeadRoom}
use Rattle.what_if.specs.laws.Judged.{IsNoHead}

-- rows besides stay besides those of setups
pub rows-besides : (plant : Plant) (units : List ℕ) (count more : ℕ) → rows_with plant units (count + more) ≡ rows_with plant units count + more
rows-besides plant [] count more = refl
rows-besides plant (unit ∷ units) count more =
    let own = length (setup_rows plant unit) in
    let turned : count + more + own ≡ count + own + more = omega arith in
    ap (rows_with plant units) turned ∙ rows-besides plant units (count + own) more

-- with setups there are no fewer slots and rows
slots-more : (plant : Plant) (units : List ℕ) (count : ℕ) → count ≤ slots_with plant units count
slots-more plant [] count = omega arith
slots-more plant (unit ∷ units) count = let rest = slots-more plant units (count + length (setup_slots plant unit)) in omega (arith, rest)

rows-more : (plant : Plant) (units : List ℕ) (count : ℕ) → count ≤ rows_with plant units count
rows-more plant [] count = omega arith
rows-more plant (unit ∷ units) count = let rest = rows-more plant units (count + length (setup_rows plant unit)) in omega (arith, rest)

-- so where there is room for a head there is room for its sums
pub sums-room : (plant : Plant) (program : Program) (ranges : List Domain) (head : LogHead) → AreTaken plant program ranges head
    → (length program.root + length head.sums ≤ 4096) × (length program.rows + 2 * length head.sums ≤ 400000)
sums-room plant program ranges head taken =
    let derived = rows_of head.derivations in
    let room = taken.room in (
      omega (arith, slots-more plant head.units (length program.root + length head.sums), room.slots),
      omega (arith, rows-more plant head.units (length program.rows + (2 * length head.sums + derived)), room.rows),
    )

-- how many slots and rows a program with sums has
slots-between : (program between : Program) (ranges : List Domain) (sums : List Sum) → IsWithSums program ranges sums between → length between.root ≡ length program.root + length sums
slots-between program between ranges sums with' = omega (arith, ap length with'.root, length-append program.root (map (sum_domain program ranges) sums), length-map sums (sum_domain program ranges))

rows-between : (program between : Program) (ranges : List Domain) (sums : List Sum) → IsWithSums program ranges sums between → length between.rows ≡ length program.rows + 2 * length sums
rows-between program between ranges sums with' = omega (arith, ap length with'.rows, length-append program.rows (sum_rows (length program.root) sums), two_rows (length program.root) sums)

-- all rows of a head, counted from those of the program or from those of the program with the sums
all-rows : (plant : Plant) (program between : Program) (ranges : List Domain) (head : LogHead) → IsWithSums program ranges head.sums between
    → rows_with plant head.units (length program.rows + (2 * length head.sums + rows_of head.derivations)) ≡ rows_with plant head.units (length between.rows) + rows_of head.derivations
all-rows plant program between ranges head with' =
    let derived = rows_of head.derivations in
    let own : length program.rows + (2 * length head.sums + derived) ≡ length between.rows + derived = omega (arith, rows-between program between ranges head.sums with') in
    ap (rows_with plant head.units) own ∙ rows-besides plant head.units (length between.rows) derived

module _ (plant : Plant) (program between : Program) (ranges : List Domain) (head : LogHead) (taken : AreTaken plant program ranges head) (with' : IsWithSums program ranges head.sums between) where
  counted : rows_with plant head.units (length between.rows) + rows_of head.derivations ≤ 400000
  counted = subst (λ (n : ℕ). n ≤ 400000) (all-rows plant program between ranges head with') taken.room.rows

  -- there is room for the setups
  pub setups-room : HaveRoom plant head.units between
  setups-room = record {
    slots = subst (λ (n : ℕ). slots_with plant head.units n ≤ 4096) (sym (slots-between program between ranges head.sums with')) taken.room.slots;
    rows = omega (arith, counted);
  }

  -- and then for the derived rows
  pub derived-room : (wide : Program) → AreSetUp plant head.units between wide → length wide.rows + rows_of head.derivations ≤ 400000
  derived-room wide up = omega (arith, rows-several plant head.units between wide up, counted)

  -- the program begins with the slots of its plant
  pub plant-slots : IsMadeOf plant program → HasPlantSlots plant between
  plant-slots made = omega (arith, slots-between program between ranges head.sums with', ap length made.root_is, length-map (slots plant) (slot_domain plant), length-map (slots plant) (task_slot plant))

-- where there is room for the setups, and then for the derived rows, there is room for the head
pub head-room : (plant : Plant) (program between wide : Program) (ranges : List Domain) (head : LogHead) → IsWithSums program ranges head.sums between → AreSetUp plant head.units between wide → HaveRoom plant head.units between
    → length wide.rows + rows_of head.derivations ≤ 400000 → HasHeadRoom plant program head
head-room plant program between wide ranges head with' up room few = record {
  slots = subst (λ (n : ℕ). slots_with plant head.units n ≤ 4096) (slots-between program between ranges head.sums with') room.slots;
  rows = omega (arith, all-rows plant program between ranges head with', rows-several plant head.units between wide up, few);
}

-- there is for no head
pub no-head-room : (plant : Plant) (program : Program) (head : LogHead) → IsNoHead head → HasHeadRoom plant program head
no-head-room plant program head none = record {
  slots = subst (λ (units : List ℕ). slots_with plant units (length program.root + length head.sums) ≤ 4096) (sym none.units) (omega (arith, program.few_slots, ap length none.sums));
  rows =
      subst (λ (units : List ℕ). rows_with plant units (length program.rows + (2 * length head.sums + rows_of head.derivations)) ≤ 400000) (sym none.units)
      (omega (arith, program.few_rows, ap length none.sums, ap rows_of none.derivations));
}
