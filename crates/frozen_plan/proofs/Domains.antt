-- The domains of kept values, and the root of a part with them.
use Rattle.std.proofs.Common.{◌≡◌, ℕ, ◌<◌, ◌≤◌, ◌≢◌, true, false, List, [], ◌∷◌, length, get_or, map, sym, refl, subst, inl, inr, arith}
use Rattle.std.specs.List.{All, AllZip}
use Rattle.std.proofs.lemmas.Bool.{cases_eq, eq-eqb, ne_eqb, cases_lt, lt-ltb, le-ltb, cond-true, cond-false, false≢true}
use Rattle.std.proofs.lemmas.List.{get_or-map, length-map}
use Rattle.std.proofs.lemmas.List.Elements.{All-head, All-tail, All-map}
use Rattle.stn_model.specs.declared.plant.Plant.{Plant}
use Rattle.stn_model.specs.declared.start.Start.{Start}
use Rattle.stn_model.specs.Plant.{no_run}
use Rattle.stn_model.specs.Sound.{Sound}
use Rattle.time_grid.specs.Slots.{slots, IsSlotOf}
use Rattle.time_grid.specs.PlanPoint.{quanta_in, HasPoint, IsChoice}
use Rattle.time_grid.proofs.SlotList.{slots-are}
use Rattle.time_grid.proofs.PointPlan.{quanta_in-choice}
use Rattle.row_kit.specs.declared.domain.Domain.{Domain}
use Rattle.row_kit.specs.Domain.{Holds, IsNormal, IsOpen, no_values}
use Rattle.row_kit.specs.Point.{LiesIn}
use Rattle.row_set.specs.Parts.{IsWithin}
use Rattle.row_set.specs.PlantProgram.{slot_domain}
use Rattle.row_set.proofs.Roots.{holds-of}
use Rattle.frozen_plan.specs.Frozen.{only, frozen_domain, frozen_root}

only-zero : (value : ℕ) → value ≡ 0 → only value ≡ record { zero = true; lo = 1; hi = 0 }
only-zero value e = cond-true _ _ _ (eq-eqb value 0 e)

only-some : (value : ℕ) → value ≢ 0 → only value ≡ record { zero = false; lo = value; hi = value }
only-some value n = cond-false _ _ _ (ne_eqb value 0 n)

-- the domain of one value holds no other
pub holds-only : (own value : ℕ) → Holds (only own) value → value ≡ own
holds-only own value holds =
    elim (cases_eq own 0) [
      | inl e ↦
          let is : Holds (record { zero = true; lo = 1; hi = 0 }) value = subst (λ (d : Domain). Holds d value) (only-zero own e) holds in
          elim (cases_lt 0 value) [
            | inl some ↦ absurd (let size = is.above_zero some in omega (arith, size.0, size.1))
            | inr none ↦ omega arith
          ]
      | inr n ↦
          let is : Holds (record { zero = false; lo = own; hi = own }) value = subst (λ (d : Domain). Holds d value) (only-some own n) holds in
          elim (cases_lt 0 value) [
            | inl some ↦ let size = is.above_zero some in omega (arith, size.0, size.1)
            | inr none ↦ absurd (false≢true (is.at_zero (omega arith)))
          ]
    ]

-- the domain of one value holds it
pub only-holds : (own : ℕ) → Holds (only own) own
only-holds own =
    elim (cases_eq own 0) [
      | inl e ↦ subst (λ (d : Domain). Holds d own) (sym (only-zero own e)) (record { at_zero = λ z. refl; above_zero = λ some. absurd (omega arith) })
      | inr n ↦ subst (λ (d : Domain). Holds d own) (sym (only-some own n)) (record { at_zero = λ z. absurd (n z); above_zero = λ some. (omega arith, omega arith) })
    ]

only-normal : (own : ℕ) → own ≤ 255 → IsNormal (only own)
only-normal own byte =
    elim (cases_eq own 0) [
      | inl e ↦ subst IsNormal (sym (only-zero own e)) (record { positive = omega arith; byte = omega arith; bare = λ h. (refl, refl) })
      | inr n ↦ subst IsNormal (sym (only-some own n)) (record { positive = omega arith; byte = byte; bare = λ h. absurd (omega arith) })
    ]

only-open : (own : ℕ) → IsOpen (only own)
only-open own =
    elim (cases_eq own 0) [
      | inl e ↦ subst IsOpen (sym (only-zero own e)) (omega arith)
      | inr n ↦ subst IsOpen (sym (only-some own n)) (omega arith)
    ]

-- what a slot before the period may have, and one from it on
pub domain-before : (plant : Plant) (period : ℕ) (kept : List Start) (slot : ℕ × ℕ) → slot.1 < period → frozen_domain plant period kept slot ≡ only (quanta_in plant kept slot)
domain-before plant period kept slot before = cond-true _ _ _ (lt-ltb slot.1 period before)

pub domain-later : (plant : Plant) (period : ℕ) (kept : List Start) (slot : ℕ × ℕ) → period ≤ slot.1 → frozen_domain plant period kept slot ≡ slot_domain plant slot
domain-later plant period kept slot later = cond-false _ _ _ (le-ltb slot.1 period later)

-- a choice of a slot is a byte
choice-byte : (plant : Plant) (slot : ℕ × ℕ) (value : ℕ) → Sound plant → IsSlotOf plant slot → IsChoice plant slot value → value ≤ 255
choice-byte plant slot value sound is (inl e) = omega arith
choice-byte plant slot value sound is (inr size) = let run = sound.runs slot.0 no_run is.run in omega (arith, run.most, size.1)

-- what holds of the domain of a kept value and of what the slot may have in the plant holds of what the slot may have
by-period : (plant : Plant) (period : ℕ) (kept : List Start) (P : ℕ × ℕ → Domain → Type 0) (slot : ℕ × ℕ) → P slot (only (quanta_in plant kept slot)) → P slot (slot_domain plant slot) → P slot (frozen_domain plant period kept slot)
by-period plant period kept P slot one own =
    elim (cases_lt slot.1 period) [
      | inl before ↦ subst (P slot) (sym (domain-before plant period kept slot before)) one
      | inr later ↦ subst (P slot) (sym (domain-later plant period kept slot later)) own
    ]

-- the domains of the root are normal and not empty
pub frozen-normal : (plant : Plant) (period : ℕ) (kept : List Start) → Sound plant → HasPoint plant kept → All IsNormal (frozen_root plant period kept)
unfolding frozen_root
frozen-normal plant period kept sound has =
    All-map IsNormal (frozen_domain plant period kept) (slots plant)
    (λ k d l. let slot = get_or (slots plant) k d in
    let is = slots-are plant k d l in
    let run = sound.runs slot.0 no_run is.run in
    by-period plant period kept (λ s. IsNormal) slot
    (only-normal (quanta_in plant kept slot) (choice-byte plant slot (quanta_in plant kept slot) sound is (quanta_in-choice plant kept slot sound has is)))
    (record { positive = run.least; byte = omega (arith, run.most); bare = λ h. absurd (omega (arith, h, run.range)) }))

pub frozen-open : (plant : Plant) (period : ℕ) (kept : List Start) → All IsOpen (frozen_root plant period kept)
unfolding frozen_root
frozen-open plant period kept =
    All-map IsOpen (frozen_domain plant period kept) (slots plant)
    (λ k d l. let slot = get_or (slots plant) k d in
    by-period plant period kept (λ s. IsOpen) slot (only-open (quanta_in plant kept slot)) (omega arith))

-- what stands in two lists of one function's items each
zip-maps : {X Y Z : Type 0} (R : Y → Z → Type 0) (f : X → Y) (g : X → Z) (xs : List X) → All (λ x. R (f x) (g x)) xs → AllZip R (map f xs) (map g xs)
zip-maps R f g [] all = tt
zip-maps R f g (x ∷ xs) all = (All-head (λ y. R (f y) (g y)) x xs all, zip-maps R f g xs (All-tail (λ y. R (f y) (g y)) x xs all))

-- each domain of the root lies within the plant's own
pub frozen-within : (plant : Plant) (period : ℕ) (kept : List Start) → Sound plant → HasPoint plant kept → AllZip IsWithin (frozen_root plant period kept) (map (slot_domain plant) (slots plant))
unfolding frozen_root
frozen-within plant period kept sound has =
    zip-maps IsWithin (frozen_domain plant period kept) (slot_domain plant) (slots plant)
    (λ k d l. let slot = get_or (slots plant) k d in
    by-period plant period kept (λ s domain. IsWithin domain (slot_domain plant s)) slot
    (λ value holds. holds-of plant slot value (subst (IsChoice plant slot) (sym (holds-only (quanta_in plant kept slot) value holds)) (quanta_in-choice plant kept slot sound has (slots-are plant k d l))))
    (λ value holds. holds))

-- a list of values lies in a list of domains exactly where each does
pub lies-each : (f : ℕ × ℕ → Domain) (g : ℕ × ℕ → ℕ) (grid : List (ℕ × ℕ)) → LiesIn (map f grid) (map g grid) → All (λ slot. Holds (f slot) (g slot)) grid
lies-each f g grid lies k d l =
    let held = lies.held k (omega (arith, length-map grid f)) in
    subst (λ (v : ℕ). Holds (f (get_or grid k d)) v) (get_or-map g grid k d 0 l)
    (subst (λ (domain : Domain). Holds domain (get_or (map g grid) k 0)) (get_or-map f grid k d no_values l) held)

pub each-lies : (f : ℕ × ℕ → Domain) (g : ℕ × ℕ → ℕ) (grid : List (ℕ × ℕ)) → All (λ slot. Holds (f slot) (g slot)) grid → LiesIn (map f grid) (map g grid)
each-lies f g grid all = record {
  same_length = omega (arith, length-map grid f, length-map grid g);
  held = λ k l.
      let within : k < length grid = omega (arith, length-map grid f) in
      subst (λ (v : ℕ). Holds (get_or (map f grid) k no_values) v) (sym (get_or-map g grid k (0, 0) 0 within))
      (subst (λ (domain : Domain). Holds domain (g (get_or grid k (0, 0)))) (sym (get_or-map f grid k (0, 0) no_values within)) (all k (0, 0) within));
}
