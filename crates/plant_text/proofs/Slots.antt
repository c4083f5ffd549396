-- Slots, and pairs of slots that the cleaning keeps apart, in other words.
use Rattle.std.proofs.Common.{◌≡◌, ℕ, ◌+◌, ◌&&◌, nat_le, nat_lt, true, false, refl, arith}
use Rattle.std.specs.List.{sum_by}
use Rattle.std.proofs.lemmas.Bool.{eq-eqb, ne_eqb}
use Rattle.stn_model.specs.declared.plant.Plant.{Plant}
use Rattle.stn_model.specs.declared.plant.Run.{Run}
use Rattle.stn_model.specs.Sums.{sum_below, count_below}
use Rattle.stn_model.specs.Plant.{end_of, gap_between}
use Rattle.stn_model.specs.Points.{has_slot, least_start, meets_gap, gap_pairs}
use Rattle.plant_text.specs.Sizes.{pairs_between}
use Rattle.plant_text.proofs.Counting.{sum_below-zero, count_below-none, sum_by-agree, sums_change}

-- a start of a second run that comes too soon after a slot of a first run on the same unit
pub meets_gap-is : (plant : Plant) (a b : Run) (p q : ℕ) → a.unit ≡ b.unit → has_slot plant a p ≡ true
    → meets_gap plant a p b q ≡ (has_slot plant b q && nat_le (end_of plant (least_start a p)) q && nat_lt q (end_of plant (least_start a p) + gap_between plant a.unit a.task b.task))
unfolding meets_gap end_of
meets_gap-is plant a b p q unit slot = rw (eq-eqb a.unit b.unit unit, slot) refl

-- runs on two units, and a period without a slot
pub apart_units : (plant : Plant) (a b : Run) (p q : ℕ) → (a.unit ≡ b.unit → ⊥) → meets_gap plant a p b q ≡ false
unfolding meets_gap
apart_units plant a b p q differ = rw (ne_eqb a.unit b.unit differ) refl

pub no_slot : (plant : Plant) (a b : Run) (p q : ℕ) → has_slot plant a p ≡ false → meets_gap plant a p b q ≡ false
unfolding meets_gap
no_slot plant a b p q none = grind (arith, none)

pub none_between : (plant : Plant) (a b : Run) → (a.unit ≡ b.unit → ⊥) → pairs_between plant a b ≡ 0
unfolding pairs_between
none_between plant a b differ =
    sum_below-zero (λ p. count_below (meets_gap plant a p b) plant.periods) plant.periods (λ p lt. count_below-none (meets_gap plant a p b) plant.periods (λ q below. apart_units plant a b p q differ))

pub none_at : (plant : Plant) (a b : Run) (p : ℕ) → has_slot plant a p ≡ false → count_below (meets_gap plant a p b) plant.periods ≡ 0
none_at plant a b p none = count_below-none (meets_gap plant a p b) plant.periods (λ q below. no_slot plant a b p q none)

-- the pairs of slots, run by run
pub gap_pairs-is : (plant : Plant) → gap_pairs plant ≡ sum_by (λ a. sum_by (pairs_between plant a) plant.runs) plant.runs
unfolding gap_pairs pairs_between
gap_pairs-is plant =
    sum_by-agree (λ a. sum_below (λ p. sum_by (λ b. count_below (meets_gap plant a p b) plant.periods) plant.runs) plant.periods) (λ a. sum_by (pairs_between plant a) plant.runs) plant.runs
    (λ a. sums_change (λ p b. count_below (meets_gap plant a p b) plant.periods) plant.runs plant.periods)
