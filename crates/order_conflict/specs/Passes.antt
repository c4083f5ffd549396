-- How a pass over the deliveries goes on.
use Rattle.std.specs.Prelude.{◌≡◌, ◌⊎◌, ◌<◌, ◌≤◌, ℕ, Bool, true, false, List, length, map, count_by, slice_set, slice_index_or}
use Rattle.stn_model.specs.declared.plant.Plant.{Plant}
use Rattle.stn_model.specs.Best.{NoPlan}
use Rattle.fewer_orders.specs.Alone.{alone}
use Rattle.order_text.specs.declared.mark.Mark.{Mark}
use Rattle.order_text.specs.declared.mark.Mark.TheVariants.{Out, Open}
use Rattle.order_text.specs.Marks.{is_left}
use Rattle.order_conflict.specs.Conflict.{left_plant, left_without, MarkSays}

-- all deliveries are left
abbrev pub all_open : Plant → List Mark
all_open plant = map (λ _. Open) plant.deliveries

-- The delivery at a place was marked anew: it goes, since no plan meets the others that are left; or it stays as it was, left out or with
-- a mark that is right.
abbrev pub IsMarkedAnew : Plant → ℕ → ℕ → List Mark → List Mark → Bool → Type 0
IsMarkedAnew plant budget place old new true =
    (is_left (slice_index_or old place Out) ≡ true) × (new ≡ slice_set old place Out) × NoPlan (alone plant (left_without place old))
IsMarkedAnew plant budget place old new false =
    ((slice_index_or old place Out ≡ Out) × (new ≡ old))
    ⊎ ((mark : Mark) × ((is_left (slice_index_or old place Out) ≡ true) × (is_left mark ≡ true) × (new ≡ slice_set old place mark)
    × MarkSays mark budget (alone plant (left_without place old))))

-- A pass has come to a place: no plan meets all the deliveries that are left; where some were left out there are fewer, and else the marks
-- before the place are right.
pub record IsPassed (plant : Plant) (budget : ℕ) (old new : List Mark) (changed : Bool) (place : ℕ) : Type 0 where
  pub each : length new ≡ length old
  pub none : NoPlan (left_plant plant new)
  pub most : count_by is_left new ≤ count_by is_left old
  pub fewer : changed ≡ true → count_by is_left new < count_by is_left old
  pub says : changed ≡ false → (k : ℕ) → k < place → MarkSays (slice_index_or new k Out) budget (alone plant (left_without k new))
