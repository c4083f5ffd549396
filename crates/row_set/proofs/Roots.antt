-- The points of the root are the points of the plant.
use Rattle.std.proofs.Common.{ℕ, zero, suc, ◌<◌, false, List, [], ◌∷◌, length, get_or, map, refl, inl, inr, arith}
use Rattle.std.specs.List.{All, AllZip}
use Rattle.std.proofs.lemmas.List.Elements.{All-map}
use Rattle.std.proofs.lemmas.Bool.{cases_eq}
use Rattle.stn_model.specs.declared.plant.Plant.{Plant}
use Rattle.stn_model.specs.Sound.{Sound}
use Rattle.stn_model.specs.Plant.{no_run}
use Rattle.time_grid.specs.Slots.{slots}
use Rattle.time_grid.specs.PlanPoint.{IsChoice, IsPoint}
use Rattle.time_grid.proofs.SlotList.{slots-are}
use Rattle.row_kit.specs.Domain.{Holds, IsNormal, IsOpen}
use Rattle.row_kit.specs.Point.{LiesIn}
use Rattle.row_set.specs.PlantProgram.{slot_domain}

pub choice-of : (plant : Plant) (slot : ℕ × ℕ) (value : ℕ) → Holds (slot_domain plant slot) value → IsChoice plant slot value
choice-of plant slot value holds = elim (cases_eq value 0) [ inl e ↦ inl e | inr n ↦ inr (holds.above_zero (omega arith)) ]

pub holds-of : (plant : Plant) (slot : ℕ × ℕ) (value : ℕ) → IsChoice plant slot value → Holds (slot_domain plant slot) value
holds-of plant slot value (inl e) = record { at_zero = λ z. refl; above_zero = λ l. absurd (omega arith) }
holds-of plant slot value (inr size) = record { at_zero = λ z. refl; above_zero = λ l. size }

choices-of : (plant : Plant) (grid : List (ℕ × ℕ)) (point : List ℕ) → LiesIn (map (slot_domain plant) grid) point → AllZip (IsChoice plant) grid point
choices-of plant [] [] lies = tt
choices-of plant [] (value ∷ values) lies = absurd (let h = lies.same_length in omega (arith, h))
choices-of plant (slot ∷ grid) [] lies = absurd (let h = lies.same_length in omega (arith, h))
choices-of plant (slot ∷ grid) (value ∷ values) lies = (
  choice-of plant slot value (lies.held 0 (omega arith)),
  choices-of plant grid values (record { same_length = (let h = lies.same_length in omega (arith, h)); held = λ k l. lies.held (suc k) (omega arith) }),
)

lies-of : (plant : Plant) (grid : List (ℕ × ℕ)) (point : List ℕ) → AllZip (IsChoice plant) grid point → LiesIn (map (slot_domain plant) grid) point
lies-of plant [] [] choices = record { same_length = refl; held = λ k l. absurd (omega arith) }
lies-of plant [] (value ∷ values) choices = absurd choices
lies-of plant (slot ∷ grid) [] choices = absurd choices
lies-of plant (slot ∷ grid) (value ∷ values) choices =
    let rest = lies-of plant grid values choices.1 in
    record { same_length = (let h = rest.same_length in omega (arith, h)); held = each rest }
  where
    each : LiesIn (map (slot_domain plant) grid) values → (k : ℕ) → k < length (map (slot_domain plant) (slot ∷ grid)) →
        Holds (get_or (map (slot_domain plant) (slot ∷ grid)) k (record { zero = false; lo = 1; hi = 0 })) (get_or (value ∷ values) k 0)
    each rest zero l = holds-of plant slot value choices.0
    each rest (suc k) l = rest.held k (omega arith)

-- a point of the root is one of the plant
pub point-of_root : (plant : Plant) (point : List ℕ) → LiesIn (map (slot_domain plant) (slots plant)) point → IsPoint plant point
point-of_root plant point lies = choices-of plant (slots plant) point lies

-- a point of the plant is one of the root
pub root-of_point : (plant : Plant) (point : List ℕ) → IsPoint plant point → LiesIn (map (slot_domain plant) (slots plant)) point
root-of_point plant point choices = lies-of plant (slots plant) point choices

-- the domains of the root are normal and not empty
pub root-normal : (plant : Plant) → Sound plant → All IsNormal (map (slot_domain plant) (slots plant))
root-normal plant sound =
    All-map IsNormal (slot_domain plant) (slots plant) (λ k d l.
    let run = sound.runs (get_or (slots plant) k d).0 no_run (slots-are plant k d l).run in
    record { positive = run.least; byte = omega (arith, run.most); bare = λ h. absurd (omega (arith, h, run.range)) })

pub root-open : (plant : Plant) → All IsOpen (map (slot_domain plant) (slots plant))
root-open plant = All-map IsOpen (slot_domain plant) (slots plant) (λ k d l. omega arith)
