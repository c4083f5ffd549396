-- The points of plans, one start after another.
use Rattle.std.proofs.Common.{◌≡◌, ℕ, suc, ◌+◌, ◌<◌, ◌≤◌, true, false, List, [], ◌∷◌, ◌++◌, length, get_or, set, take, map, replicate, sum_by, sym, refl, ap, ◌∙◌, arith, inl, inr, ap₂}
use Rattle.std.specs.List.{AllPairs}
use Rattle.std.proofs.lemmas.List.{get_or-map, length-map, length-set, same_lists, get_or-set_same, get_or-set_other, get_or-take, length-take, length_push, get_or_append_left, get_or_push, take_more}
use Rattle.std.proofs.lemmas.List.Elements.{All-push, All-take}
use Rattle.std.proofs.lemmas.List.Quantifiers.{all_pairs_push}
use Rattle.std.proofs.lemmas.List.Sums.{sum_by_push, get_or-le-sum_by, sum_by-cons}
use Rattle.std.proofs.lemmas.Bool.{eqb-true, eq-eqb, and_parts, and_from, cases_Bool, cases_eq, cases_lt, cases_order}
use Rattle.stn_model.specs.declared.plant.Plant.{Plant}
use Rattle.stn_model.specs.declared.start.Start.{Start}
use Rattle.stn_model.specs.Fits.{Fits}
use Rattle.stn_model.specs.Sound.{Sound, SoundRun}
use Rattle.stn_model.specs.Plant.{no_run, run_at}
use Rattle.time_grid.specs.Slots.{slots, IsSlotOf, Earlier}
use Rattle.time_grid.specs.PlanPoint.{ShareSlot, is_in, quanta_of, quanta_in, HasPoint, plan_point, IsPlaceOf, PutsStart}
use Rattle.time_grid.proofs.SlotList.{slots-are, slots-rise}
use Rattle.time_grid.proofs.Fitting.{fits-at}

-- two starts in one slot share it
pub share-from_in : (plant : Plant) (slot : ℕ × ℕ) (a b : Start) → is_in plant slot a ≡ true → is_in plant slot b ≡ true → ShareSlot a b
share-from_in plant slot a b p q =
    let one = and_parts _ _ p in
    let two = and_parts _ _ q in
    let of = and_parts _ _ one.1 in
    let of2 = and_parts _ _ two.1 in
    record {
      period = eqb-true _ _ one.0 ∙ sym (eqb-true _ _ two.0);
      unit = sym (eqb-true _ _ of.1) ∙ eqb-true _ _ of2.1;
      task = sym (eqb-true _ _ of.0) ∙ eqb-true _ _ of2.0;
    }

-- a start that shares the slot of another is in it
pub in-from_share : (plant : Plant) (slot : ℕ × ℕ) (a b : Start) → ShareSlot a b → is_in plant slot a ≡ true → is_in plant slot b ≡ true
in-from_share plant slot a b share p =
    let one = and_parts _ _ p in
    let of = and_parts _ _ one.1 in
    and_from _ _ (eq-eqb _ _ (sym share.period ∙ eqb-true _ _ one.0))
    (and_from _ _ (eq-eqb _ _ (eqb-true _ _ of.0 ∙ share.task)) (eq-eqb _ _ (eqb-true _ _ of.1 ∙ share.unit)))

-- the runs of a sound plant are told apart by task and unit
pub same_run : (plant : Plant) (m n : ℕ) → Sound plant → m < length plant.runs → n < length plant.runs →
    (run_at plant m).task ≡ (run_at plant n).task → (run_at plant m).unit ≡ (run_at plant n).unit → m ≡ n
same_run plant m n sound l k task unit =
    elim (cases_order m n) [
      | inl e ↦ e
      | inr h ↦ elim h [
        | inl b ↦ absurd (sound.names.runs m n no_run b k task unit)
        | inr b ↦ absurd (sound.names.runs n m no_run b l (sym task) (sym unit))
      ]
    ]

-- a start is in one slot at most
pub same_slot : (plant : Plant) (s t : ℕ × ℕ) (a : Start) → Sound plant → IsSlotOf plant s → IsSlotOf plant t →
    is_in plant s a ≡ true → is_in plant t a ≡ true → s ≡ t
same_slot plant s t a sound is is2 p q =
    let one = and_parts _ _ p in
    let two = and_parts _ _ q in
    let of = and_parts _ _ one.1 in
    let of2 = and_parts _ _ two.1 in
    let run : s.0 ≡ t.0 = same_run plant s.0 t.0 sound is.run is2.run
    (eqb-true _ _ of.0 ∙ sym (eqb-true _ _ of2.0)) (eqb-true _ _ of.1 ∙ sym (eqb-true _ _ of2.1)) in
    let period : s.1 ≡ t.1 = sym (eqb-true _ _ one.0) ∙ eqb-true _ _ two.0 in
    ap₂ (λ x y. (x, y)) run period

-- two places of the slots are one where the slots are
pub same_place : (plant : Plant) (i j : ℕ) (d : ℕ × ℕ) → i < length (slots plant) → j < length (slots plant) →
    get_or (slots plant) i d ≡ get_or (slots plant) j d → i ≡ j
same_place plant i j d l k e =
    elim (cases_order i j) [
      | inl h ↦ h
      | inr h ↦ elim h [
        | inl b ↦ absurd (apart (get_or (slots plant) i d) (get_or (slots plant) j d) e (slots-rise plant i j d b k))
        | inr b ↦ absurd (apart (get_or (slots plant) j d) (get_or (slots plant) i d) (sym e) (slots-rise plant j i d b l))
      ]
    ]
  where
    apart : (s t : ℕ × ℕ) → s ≡ t → Earlier s t → ⊥
    apart s t h (inl b) = let k : s.0 ≡ t.0 = ap (λ p. p.0) h in omega arith
    apart s t h (inr b) = let k : s.1 ≡ t.1 = ap (λ p. p.1) h in omega (arith, b.1)

quanta_of-in : (plant : Plant) (slot : ℕ × ℕ) (a : Start) → is_in plant slot a ≡ true → quanta_of plant slot a ≡ a.quanta
quanta_of-in plant slot a p = rw p

quanta_of-out : (plant : Plant) (slot : ℕ × ℕ) (a : Start) → is_in plant slot a ≡ false → quanta_of plant slot a ≡ 0
quanta_of-out plant slot a p = rw p

quanta_in-push : (plant : Plant) (plan : List Start) (a : Start) (slot : ℕ × ℕ) → quanta_in plant (plan ++ a ∷ []) slot ≡ quanta_in plant plan slot + quanta_of plant slot a
unfolding quanta_in
quanta_in-push plant plan a slot = sum_by_push (quanta_of plant slot) plan a

-- what the point of a plan has at a place
pub plan_point-at : (plant : Plant) (plan : List Start) (j : ℕ) (d : ℕ) → j < length (slots plant) →
    get_or (plan_point plant plan) j d ≡ quanta_in plant plan (get_or (slots plant) j (0, 0))
unfolding plan_point
plan_point-at plant plan j d l = get_or-map (quanta_in plant plan) (slots plant) j (0, 0) d l

pub length-plan_point : (plant : Plant) (plan : List Start) → length (plan_point plant plan) ≡ length (slots plant)
unfolding plan_point
length-plan_point plant plan = length-map (slots plant) (quanta_in plant plan)

-- one more start adds its quanta at its place
pub plan_point-push : (plant : Plant) (plan : List Start) (a : Start) (place : ℕ) → Sound plant → IsPlaceOf plant a place →
    get_or (plan_point plant plan) place 0 ≡ 0 → plan_point plant (plan ++ a ∷ []) ≡ set (plan_point plant plan) place a.quanta
plan_point-push plant plan a place sound is free =
    same_lists (plan_point plant (plan ++ a ∷ [])) (set (plan_point plant plan) place a.quanta)
    (length-plan_point plant (plan ++ a ∷ []) ∙ sym (length-set (plan_point plant plan) place a.quanta ∙ length-plan_point plant plan))
    (λ k d l.
    let within : k < length (slots plant) = omega (arith, length-plan_point plant (plan ++ a ∷ [])) in
    let within2 : place < length (plan_point plant plan) = omega (arith, is.within, length-plan_point plant plan) in
    let slot = get_or (slots plant) k (0, 0) in
    let new : get_or (plan_point plant (plan ++ a ∷ [])) k d ≡ quanta_in plant plan slot + quanta_of plant slot a =
    plan_point-at plant (plan ++ a ∷ []) k d within ∙ quanta_in-push plant plan a slot in
    elim (cases_eq k place) [
      | inl e ↦
          let old : quanta_in plant plan slot ≡ 0 = sym (plan_point-at plant plan k 0 within) ∙ ap (λ j. get_or (plan_point plant plan) j 0) e ∙ free in
          let here : is_in plant slot a ≡ true = ap (λ j. is_in plant (get_or (slots plant) j (0, 0)) a) e ∙ is.holds in
          let put : get_or (set (plan_point plant plan) place a.quanta) k d ≡ a.quanta =
          ap (λ j. get_or (set (plan_point plant plan) place a.quanta) j d) e ∙ get_or-set_same (plan_point plant plan) place a.quanta d within2 in
          let all : quanta_in plant plan slot + quanta_of plant slot a ≡ a.quanta = omega (arith, old, quanta_of-in plant slot a here) in
          new ∙ all ∙ sym put
      | inr e ↦ elim (cases_Bool (is_in plant slot a)) [
        | inl t ↦ absurd (e (same_place plant k place (0, 0) within is.within
            (same_slot plant slot (get_or (slots plant) place (0, 0)) a sound (slots-are plant k (0, 0) within) (slots-are plant place (0, 0) is.within) t is.holds)))
        | inr t ↦
            let all : quanta_in plant plan slot + quanta_of plant slot a ≡ quanta_in plant plan slot = omega (arith, quanta_of-out plant slot a t) in
            new ∙ all ∙ sym (plan_point-at plant plan k d within) ∙ sym (get_or-set_other (plan_point plant plan) place k a.quanta d e)
      ]
    ])

-- a start that fits is of a quantum or more
pub quanta_pos : (plant : Plant) (a : Start) → Sound plant → Fits plant a → 1 ≤ a.quanta
quanta_pos plant a sound fits =
    let at = fits-at plant a sound fits in
    let is : SoundRun plant (run_at plant at.run) = sound.runs at.run no_run at.slot.run in
    omega (arith, at.least, is.least)

-- a start into a free slot: the plan has a point with it
has_point-push : (plant : Plant) (plan : List Start) (a : Start) (place : ℕ) → Sound plant → HasPoint plant plan → Fits plant a → IsPlaceOf plant a place →
    get_or (plan_point plant plan) place 0 ≡ 0 → HasPoint plant (plan ++ a ∷ [])
unfolding quanta_in
has_point-push plant plan a place sound has fits is free = record {
  fits = All-push (Fits plant) plan a has.fits fits;
  apart = all_pairs_push (λ b c. ¬ ShareSlot b c) plan a has.apart (λ k d l share.
      let slot = get_or (slots plant) place (0, 0) in
      let b = get_or plan k d in
      let here : is_in plant slot b ≡ true = in-from_share plant slot a b (record { period = sym share.period; unit = sym share.unit; task = sym share.task }) is.holds in
      let some : 1 ≤ b.quanta = quanta_pos plant b sound (has.fits k d l) in
      let most : quanta_of plant slot b ≤ sum_by (quanta_of plant slot) plan = get_or-le-sum_by (quanta_of plant slot) plan k d l in
      let none : sum_by (quanta_of plant slot) plan ≡ 0 = sym (plan_point-at plant plan place 0 is.within) ∙ free in
      let same = quanta_of-in plant slot b here in
      omega (arith, some, most, none, same));
}

-- where a sum is not 0, an item is not
pub some_item : {X : Type 0} (f : X → ℕ) (xs : List X) → 0 < sum_by f xs → (k : ℕ) × ((k < length xs) × ((d : X) → 0 < f (get_or xs k d)))
some_item f [] h = absurd (omega arith)
some_item f (x ∷ xs) h =
    elim (cases_lt 0 (f x)) [
      | inl l ↦ (0, (omega arith, λ d. l))
      | inr l ↦
          let more : 0 < sum_by f xs = omega (arith, sum_by-cons f x xs) in
          let rest = some_item f xs more in
          (suc rest.0, (omega (arith, rest.1.0), rest.1.1))
    ]

-- a start into a slot that is taken: the plan has no point with it
no_point-push : (plant : Plant) (plan : List Start) (a : Start) (place : ℕ) → IsPlaceOf plant a place →
    0 < get_or (plan_point plant plan) place 0 → HasPoint plant (plan ++ a ∷ []) → ⊥
unfolding quanta_in
no_point-push plant plan a place is taken has =
    let slot = get_or (slots plant) place (0, 0) in
    let sum : 0 < sum_by (quanta_of plant slot) plan = rw (plan_point-at plant plan place 0 is.within) at taken in
    let item = some_item (quanta_of plant slot) plan sum in
    let b = get_or plan item.0 a in
    elim (cases_Bool (is_in plant slot b)) [
      | inl t ↦
          let long : length (plan ++ a ∷ []) ≡ length plan + 1 = length_push plan a in
          let first : get_or (plan ++ a ∷ []) item.0 a ≡ b = get_or_append_left plan (a ∷ []) a item.0 item.1.0 in
          let last : get_or (plan ++ a ∷ []) (length plan) a ≡ a = get_or_push plan a a (length plan) refl in
          let apart = has.apart item.0 (length plan) a item.1.0 (omega arith) in
          (rw (first, last) at apart) (share-from_in plant slot b a t is.holds)
      | inr t ↦ let k = item.1.1 a in let same = quanta_of-out plant slot b t in omega (arith, k, same)
    ]

-- a start that goes into its slot: the plan with it has a point, and the slots hold it
pub put-more : (plant : Plant) (plan : List Start) (a : Start) (new : List ℕ) → Sound plant → HasPoint plant plan →
    PutsStart plant a (plan_point plant plan) new true → HasPoint plant (plan ++ a ∷ []) × (new ≡ plan_point plant (plan ++ a ∷ []))
put-more plant plan a new sound has puts =
    let is = puts.1.1.0 in
    (has_point-push plant plan a puts.1.0 sound has puts.0 is puts.1.1.1, puts.1.1.2 ∙ sym (plan_point-push plant plan a puts.1.0 sound is puts.1.1.1))

-- a start that does not go into its slot: no plan that begins with these has a point
pub put-none : (plant : Plant) (plan : List Start) (a : Start) (new : List ℕ) →
    PutsStart plant a (plan_point plant plan) new false → HasPoint plant (plan ++ a ∷ []) → ⊥
put-none plant plan a new puts has =
    let last : get_or (plan ++ a ∷ []) (length plan) a ≡ a = get_or_push plan a a (length plan) refl in
    let fits : Fits plant a = rw last at (has.fits (length plan) a (omega (arith, length_push plan a))) in
    let place = puts.1 fits in
    no_point-push plant plan a place.0 place.1.0 place.1.1 has

AllPairs-take : {X : Type 0} (R : X → X → Type 0) (n : ℕ) (xs : List X) → AllPairs R xs → AllPairs R (take n xs)
AllPairs-take R n xs h i j d l m =
    let long : j < length xs = omega (arith, length-take n xs) in
    let inside : j < n = omega (arith, length-take n xs) in
    let before : i < n = omega arith in
    rw (get_or-take n xs i d before, get_or-take n xs j d inside) (h i j d l long)

-- the first starts of a plan with a point have one
pub has_point-take : (plant : Plant) (n : ℕ) (plan : List Start) → HasPoint plant plan → HasPoint plant (take n plan)
has_point-take plant n plan has = record {
  fits = All-take (Fits plant) n plan has.fits;
  apart = AllPairs-take (λ a b. ¬ ShareSlot a b) n plan has.apart;
}

pub has_point-nil : (plant : Plant) → HasPoint plant []
has_point-nil plant = record { fits = λ k d l. absurd (omega arith); apart = λ i j d l m. absurd (omega arith) }

-- a start that fits is of 255 quanta at most
pub quanta_most : (plant : Plant) (a : Start) → Sound plant → Fits plant a → a.quanta ≤ 255
quanta_most plant a sound fits =
    let at = fits-at plant a sound fits in
    let is : SoundRun plant (run_at plant at.run) = sound.runs at.run no_run at.slot.run in
    omega (arith, at.most, is.most)

zeros : {X : Type 0} (f : X → ℕ) → ((x : X) → f x ≡ 0) → (xs : List X) → map f xs ≡ replicate (length xs) 0
zeros f e [] = refl
zeros f e (x ∷ xs) = ap₂ (λ y ys. y ∷ ys) (e x) (zeros f e xs)

-- the point of the empty plan
pub plan_point-nil : (plant : Plant) → plan_point plant [] ≡ replicate (length (slots plant)) 0
unfolding plan_point quanta_in
plan_point-nil plant = zeros (quanta_in plant []) (λ slot. refl) (slots plant)

-- a start that goes into its slot, after the first starts of a plan
pub put-more_at : (plant : Plant) (plan : List Start) (i : ℕ) (d : Start) (old new : List ℕ) → Sound plant → i < length plan → HasPoint plant (take i plan) →
    old ≡ plan_point plant (take i plan) → PutsStart plant (get_or plan i d) old new true → HasPoint plant (take (i + 1) plan) × (new ≡ plan_point plant (take (i + 1) plan))
put-more_at plant plan i d old new sound l has e puts =
    let step = put-more plant (take i plan) (get_or plan i d) new sound has (rw e at puts) in
    rw (take_more plan i d l) step

-- a start that does not go into its slot, after the first starts of a plan
pub put-none_at : (plant : Plant) (plan : List Start) (i : ℕ) (d : Start) (old new : List ℕ) → i < length plan →
    old ≡ plan_point plant (take i plan) → PutsStart plant (get_or plan i d) old new false → HasPoint plant plan → ⊥
put-none_at plant plan i d old new l e puts has =
    let first = has_point-take plant (i + 1) plan has in
    put-none plant (take i plan) (get_or plan i d) new (rw e at puts) (rw (take_more plan i d l) at first)
