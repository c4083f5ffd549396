-- The plan of a point has that point.
use Rattle.std.proofs.Common.{◌≡◌, ◌≢◌, ℕ, ◌+◌, ◌<◌, ◌≤◌, true, false, Option, Some, IsSomeAnd, List, [], ◌∷◌, length, get_or, map, slice_get, IsPermutation, sym, refl, ap, ap₂, ◌∙◌, subst, arith, inl, inr}
use Rattle.std.specs.List.{All, AllPairs, AllZip, position_or_len}
use Rattle.std.proofs.lemmas.List.Elements.{All-nil, All-cons, All-head, All-tail}
use Rattle.std.proofs.lemmas.List.Kept.{AllPairs-cons}
use Rattle.std.proofs.lemmas.List.Sums.{position_or_len_is}
use Rattle.std.proofs.lemmas.List.Folds.{find_at}
use Rattle.std.proofs.lemmas.List.Sorted.{All-permutation, sum_by-IsPermutation}
use Rattle.std.proofs.lemmas.Option.{slice_get-get_or}
use Rattle.std.proofs.lemmas.Bool.{eqb-true, eq-eqb, ne_eqb, and_parts, and_from, cases_Bool, cases_eq, true≢false}
use Rattle.stn_model.specs.declared.plant.Plant.{Plant}
use Rattle.stn_model.specs.declared.plant.Run.{Run}
use Rattle.stn_model.specs.declared.start.Start.{Start}
use Rattle.stn_model.specs.Plant.{is_of, run_on, end_of, no_run, run_at}
use Rattle.stn_model.specs.Fits.{Fits}
use Rattle.stn_model.specs.Points.{has_slot, least_start}
use Rattle.stn_model.specs.Sound.{Sound}
use Rattle.stn_model.proofs.Fitting.{fit_parts, fits_from_parts}
use Rattle.time_grid.specs.Slots.{slots, IsSlotOf, Earlier}
use Rattle.time_grid.specs.PlanPoint.{SomeStartFits, HasAllSlots, ShareSlot, is_in, quanta_of, quanta_in, HasPoint, plan_point, point_starts, start_in, IsPlanOf, IsChoice, IsPoint}
use Rattle.time_grid.proofs.Lists.{AllPairs-head, AllPairs-tail, AllPairs-nil}
use Rattle.time_grid.proofs.Fitting.{fits-at, least-fits}
use Rattle.time_grid.proofs.SlotList.{slots-are, slots-rise, Contains-slots}
use Rattle.time_grid.proofs.PlanPoints.{share-from_in, in-from_share, same_slot, same_run}
use Rattle.time_grid.proofs.Reordered.{AllPairs-permutation}
use Rattle.time_grid.proofs.OnePlan.{quanta_in-cons, quanta_in-none, map-agree, ends_later}

-- the start of a slot is in it
pub in_own : (plant : Plant) (slot : ℕ × ℕ) (value : ℕ) → is_in plant slot (start_in plant slot value) ≡ true
in_own plant slot value = and_from _ _ (eq-eqb slot.1 slot.1 refl) (and_from _ _ (eq-eqb (run_at plant slot.0).task _ refl) (eq-eqb (run_at plant slot.0).unit _ refl))

-- the run of a task on a unit is found at its number
pub found_run : (plant : Plant) (run : ℕ) → Sound plant → run < length plant.runs → run_on plant (run_at plant run).task (run_at plant run).unit ≡ Some (run_at plant run)
unfolding run_on
found_run plant run sound l =
    let p = is_of (run_at plant run).task (run_at plant run).unit in
    let at : position_or_len p plant.runs ≡ run = position_or_len_is p plant.runs run no_run (omega arith)
    (λ k m. elim (cases_Bool (p (run_at plant k))) [
      | inl t ↦
          let parts = and_parts _ _ t in
          let e : k ≡ run = same_run plant k run sound (omega arith) l (eqb-true _ _ parts.0) (eqb-true _ _ parts.1) in
          absurd (omega (arith, e))
      | inr t ↦ t
    ])
    (λ m. and_from _ _ (eq-eqb (run_at plant run).task _ refl) (eq-eqb (run_at plant run).unit _ refl)) in
    find_at p plant.runs ∙ ap (slice_get plant.runs) at ∙ slice_get-get_or plant.runs run no_run l

-- a start of a size of its run fits in a slot
pub start_in-fits : (plant : Plant) (slot : ℕ × ℕ) (value : ℕ) → Sound plant → IsSlotOf plant slot → (run_at plant slot.0).min ≤ value → value ≤ (run_at plant slot.0).max → Fits plant (start_in plant slot value)
unfolding end_of has_slot
start_in-fits plant slot value sound is least most =
    let parts = fit_parts plant (least_start (run_at plant slot.0) slot.1) is.has in
    fits_from_parts plant (start_in plant slot value) (record {
      size = subst (λ (o : Option Run). IsSomeAnd o (λ run. (run.min ≤ value) × (value ≤ run.max))) (sym (found_run plant slot.0 sound is.run)) (least, most);
      ends = parts.ends;
      in_use = parts.in_use;
    })

-- a run and a period in which some start fits are a slot
slot-from_start : (plant : Plant) (slot : ℕ × ℕ) → Sound plant → SomeStartFits plant slot → IsSlotOf plant slot
slot-from_start plant slot sound some =
    let start = start_in plant slot some.quanta in
    let later = ends_later plant start sound some.fits in
    let ends = (fit_parts plant start some.fits).ends in
    record {
      run = some.run;
      period = omega (arith, later, ends);
      has = least-fits plant start (run_at plant slot.0) some.fits (found_run plant slot.0 sound some.run) refl refl;
    }

-- in a slot some start fits: the one with its run's least batch
start-in_slot : (plant : Plant) (slot : ℕ × ℕ) → IsSlotOf plant slot → SomeStartFits plant slot
unfolding has_slot
start-in_slot plant slot is = record { run = is.run; quanta = (run_at plant slot.0).min; fits = is.has }

-- the slots are exactly the pairs of a run and a period in which some start fits
pub slots-have_all : (plant : Plant) → Sound plant → HasAllSlots plant (slots plant)
slots-have_all plant sound = record {
  exact = λ slot. (
    λ there. start-in_slot plant slot (subst (IsSlotOf plant) there.2 (slots-are plant there.0 slot there.1)),
    λ some. Contains-slots plant slot (slot-from_start plant slot sound some),
  );
  ordered = slots-rise plant;
}

-- no start of the point's is in a slot that is not among its slots
not_in : (plant : Plant) (grid : List (ℕ × ℕ)) (values : List ℕ) (slot : ℕ × ℕ) → Sound plant → IsSlotOf plant slot → All (IsSlotOf plant) grid → All (λ t. t ≢ slot) grid →
    All (λ a. is_in plant slot a ≡ false) (point_starts plant grid values)
not_in plant [] values slot sound is are others = All-nil (λ a. is_in plant slot a ≡ false)
not_in plant (t ∷ grid) [] slot sound is are others = All-nil (λ a. is_in plant slot a ≡ false)
not_in plant (t ∷ grid) (value ∷ values) slot sound is are others =
    let rest = not_in plant grid values slot sound is (All-tail (IsSlotOf plant) t grid are) (All-tail (λ u. u ≢ slot) t grid others) in
    elim (cases_eq value 0) [
      | inl e ↦ rw (eq-eqb value 0 e) rest
      | inr e ↦
          let a = start_in plant t value in
          let out : is_in plant slot a ≡ false = elim (cases_Bool (is_in plant slot a)) [
            | inl u ↦ absurd (All-head (λ w. w ≢ slot) t grid others (same_slot plant t slot a sound (All-head (IsSlotOf plant) t grid are) is (in_own plant t value) u))
            | inr u ↦ u
          ] in
          rw (ne_eqb value 0 e) (All-cons (λ b. is_in plant slot b ≡ false) a (point_starts plant grid values) out rest)
    ]

earlier-differs : (s t : ℕ × ℕ) → Earlier s t → t ≢ s
earlier-differs s t (inl b) h = let k : t.0 ≡ s.0 = ap (λ p. p.0) h in omega arith
earlier-differs s t (inr b) h = let k : t.1 ≡ s.1 = ap (λ p. p.1) h in omega (arith, b.1)

later-differ : (slot : ℕ × ℕ) (grid : List (ℕ × ℕ)) → AllPairs Earlier (slot ∷ grid) → All (λ t. t ≢ slot) grid
later-differ slot grid rise k d l = earlier-differs slot (get_or grid k d) (AllPairs-head Earlier slot grid rise k d l)

-- the starts of a point fit, share no slot, and have the point's quanta
record HasValues (plant : Plant) (grid : List (ℕ × ℕ)) (values : List ℕ) : Type 0 where
  has : HasPoint plant (point_starts plant grid values)
  values_are : map (quanta_in plant (point_starts plant grid values)) grid ≡ values

quanta_of-own : (plant : Plant) (slot : ℕ × ℕ) (value : ℕ) → quanta_of plant slot (start_in plant slot value) ≡ value
quanta_of-own plant slot value = rw (in_own plant slot value)

point-of_starts : (plant : Plant) (grid : List (ℕ × ℕ)) (values : List ℕ) → Sound plant → All (IsSlotOf plant) grid → AllPairs Earlier grid → AllZip (IsChoice plant) grid values →
    HasValues plant grid values
point-of_starts plant [] [] sound are rise choices = record {
  has = record { fits = All-nil (Fits plant); apart = AllPairs-nil (λ a b. ¬ ShareSlot a b) };
  values_are = refl;
}
point-of_starts plant [] (value ∷ values) sound are rise choices = absurd choices
point-of_starts plant (slot ∷ grid) [] sound are rise choices = absurd choices
point-of_starts plant (slot ∷ grid) (value ∷ values) sound are rise choices =
    let is = All-head (IsSlotOf plant) slot grid are in
    let rest = point-of_starts plant grid values sound (All-tail (IsSlotOf plant) slot grid are) (AllPairs-tail Earlier slot grid rise) choices.1 in
    let plan = point_starts plant grid values in
    let out : All (λ a. is_in plant slot a ≡ false) plan = not_in plant grid values slot sound is (All-tail (IsSlotOf plant) slot grid are) (later-differ slot grid rise) in
    let none : quanta_in plant plan slot ≡ 0 = quanta_in-none plant plan slot out in
    elim (cases_eq value 0) [
      | inl e ↦
          let same : point_starts plant (slot ∷ grid) (value ∷ values) ≡ plan = rw (eq-eqb value 0 e) refl in
          record {
            has = subst (HasPoint plant) (sym same) rest.has;
            values_are = ap (λ p. map (quanta_in plant p) (slot ∷ grid)) same ∙ ap₂ (λ v vs. v ∷ vs) (none ∙ sym e) rest.values_are;
          }
      | inr e ↦ elim choices.0 [
        | inl z ↦ absurd (e z)
        | inr size ↦
            let a = start_in plant slot value in
            let first : quanta_in plant (a ∷ plan) slot ≡ value = quanta_in-cons plant a plan slot ∙ (rw (quanta_of-own plant slot value, none) (omega arith)) in
            let others : map (quanta_in plant (a ∷ plan)) grid ≡ map (quanta_in plant plan) grid =
            map-agree (quanta_in plant (a ∷ plan)) (quanta_in plant plan) grid (λ j d l.
            let t = get_or grid j d in
            elim (cases_Bool (is_in plant t a)) [
              | inl u ↦ absurd (later-differ slot grid rise j d l (same_slot plant t slot a sound (All-tail (IsSlotOf plant) slot grid are j d l) is u (in_own plant slot value)))
              | inr u ↦ sym (quanta_in-cons plant a plan t ∙ (rw u (omega arith)))
            ]) in
            let has : HasPoint plant (a ∷ plan) = record {
              fits = All-cons (Fits plant) a plan (start_in-fits plant slot value sound is size.0 size.1) rest.has.fits;
              apart = AllPairs-cons (λ b c. ¬ ShareSlot b c) a plan
                  (λ k d l share. true≢false (sym (in-from_share plant slot a (get_or plan k d) share (in_own plant slot value)) ∙ out k d l)) rest.has.apart;
            } in
            let same : point_starts plant (slot ∷ grid) (value ∷ values) ≡ a ∷ plan = rw (ne_eqb value 0 e) refl in
            record {
              has = subst (HasPoint plant) (sym same) has;
              values_are = ap (λ p. map (quanta_in plant p) (slot ∷ grid)) same ∙ ap₂ (λ v vs. v ∷ vs) first (others ∙ rest.values_are);
            }
      ]
    ]

-- a plan with a point has it in any order
pub has_point-permutation : (plant : Plant) (P Q : List Start) → IsPermutation P Q → HasPoint plant P → HasPoint plant Q
has_point-permutation plant P Q same has = record {
  fits = All-permutation (Fits plant) P Q same has.fits;
  apart = AllPairs-permutation (λ a b. ¬ ShareSlot a b) (λ a b h share. h (record { period = sym share.period; unit = sym share.unit; task = sym share.task })) P Q same has.apart;
}

map-same : {X Y : Type 0} (f g : X → Y) → ((x : X) → f x ≡ g x) → (xs : List X) → map f xs ≡ map g xs
map-same f g e [] = refl
map-same f g e (x ∷ xs) = ap₂ (λ y ys. y ∷ ys) (e x) (map-same f g e xs)

pub plan_point-permutation : (plant : Plant) (P Q : List Start) → IsPermutation P Q → plan_point plant P ≡ plan_point plant Q
unfolding plan_point quanta_in
plan_point-permutation plant P Q same = map-same (quanta_in plant P) (quanta_in plant Q) (λ slot. sym (sum_by-IsPermutation (quanta_of plant slot) P Q same)) (slots plant)

-- the starts of a point have that point
pub starts-of_point : (plant : Plant) (point : List ℕ) → Sound plant → IsPoint plant point →
    HasPoint plant (point_starts plant (slots plant) point) × (plan_point plant (point_starts plant (slots plant) point) ≡ point)
unfolding plan_point
starts-of_point plant point sound choices =
    let own = point-of_starts plant (slots plant) point sound (slots-are plant) (slots-rise plant) choices in (own.has, own.values_are)

-- the plan of a point has that point
pub point-of_plan : (plant : Plant) (point : List ℕ) (plan : List Start) → Sound plant → IsPoint plant point → IsPlanOf plant point plan → HasPoint plant plan × (plan_point plant plan ≡ point)
point-of_plan plant point plan sound choices is =
    let own = starts-of_point plant point sound choices in (
      has_point-permutation plant (point_starts plant (slots plant) point) plan is.starts own.0,
      sym (plan_point-permutation plant (point_starts plant (slots plant) point) plan is.starts) ∙ own.1,
    )

-- what a plan has in a slot is one of the slot's choices
pub quanta_in-choice : (plant : Plant) (plan : List Start) (slot : ℕ × ℕ) → Sound plant → HasPoint plant plan → IsSlotOf plant slot → IsChoice plant slot (quanta_in plant plan slot)
unfolding quanta_in
quanta_in-choice plant [] slot sound has is = inl refl
quanta_in-choice plant (a ∷ plan) slot sound has is =
    let rest : HasPoint plant plan = record {
      fits = All-tail (Fits plant) a plan has.fits;
      apart = AllPairs-tail (λ b c. ¬ ShareSlot b c) a plan has.apart;
    } in
    let ih = quanta_in-choice plant plan slot sound rest is in
    let fits : Fits plant a = All-head (Fits plant) a plan has.fits in
    let at = fits-at plant a sound fits in
    let more : quanta_in plant (a ∷ plan) slot ≡ quanta_of plant slot a + quanta_in plant plan slot = quanta_in-cons plant a plan slot in
    elim (cases_Bool (is_in plant slot a)) [
      | inl t ↦
          let none : quanta_in plant plan slot ≡ 0 = quanta_in-none plant plan slot (λ k d l.
          elim (cases_Bool (is_in plant slot (get_or plan k d))) [
            | inl u ↦ absurd (AllPairs-head (λ b c. ¬ ShareSlot b c) a plan has.apart k d l (share-from_in plant slot a (get_or plan k d) t u))
            | inr u ↦ u
          ]) in
          let same : (at.run, a.period) ≡ slot = same_slot plant (at.run, a.period) slot a sound at.slot is at.holds t in
          let run : run_at plant at.run ≡ run_at plant slot.0 = ap (λ s. run_at plant s.0) same in
          let all : quanta_in plant (a ∷ plan) slot ≡ a.quanta = more ∙ (rw (t, none) (omega arith)) in
          inr (rw (all, ← run) (at.least, at.most))
      | inr t ↦
          let all : quanta_in plant (a ∷ plan) slot ≡ quanta_in plant plan slot = more ∙ (rw t (omega arith)) in
          rw all ih
    ]

all_zip-map : {X Y : Type 0} (R : X → Y → Type 0) (f : X → Y) (xs : List X) → All (λ x. R x (f x)) xs → AllZip R xs (map f xs)
all_zip-map R f [] h = tt
all_zip-map R f (x ∷ xs) h = (All-head (λ z. R z (f z)) x xs h, all_zip-map R f xs (All-tail (λ z. R z (f z)) x xs h))

-- the point of a plan is a point of the plant
pub plan_point-is : (plant : Plant) (plan : List Start) → Sound plant → HasPoint plant plan → IsPoint plant (plan_point plant plan)
unfolding plan_point
plan_point-is plant plan sound has =
    all_zip-map (IsChoice plant) (quanta_in plant plan) (slots plant) (λ k d l. quanta_in-choice plant plan (get_or (slots plant) k d) sound has (slots-are plant k d l))
