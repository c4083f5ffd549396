-- Lists that grow by one more number of a range where it passes a test, and rows of a setup over lists that are given.
use Rattle.std.proofs.Common.{◌≡◌, ℕ, ◌+◌, Bool, true, false, List, [], ◌∷◌, ◌++◌, ◌<◌, filter, length, map, take, add-one, append-nil, append_assoc, sym, ap, ◌∙◌}
use Rattle.std.specs.List.{range_with_len}
use Rattle.std.proofs.lemmas.Bool.{cond-false, cond-true}
use Rattle.std.proofs.lemmas.List.{map-append, map_more}
use Rattle.std.proofs.lemmas.List.Elements.{filter-append}
use Rattle.stn_model.specs.declared.plant.Plant.{Plant}
use Rattle.time_grid.proofs.Lists.{range-more}
use Rattle.setup_slots.specs.declared.setup.SetupRow.{SetupRow}
use Rattle.setup_slots.specs.declared.setup.SetupSlot.{SetupSlot}
use Rattle.setup_slots.specs.declared.task_slot.TaskSlot.{TaskSlot}
use Rattle.setup_slots.specs.Rows.{row_over, setup_row, setup_rows}
use Rattle.setup_slots.specs.Slots.{setup_slots, task_slots}

filter-more : (p : ℕ → Bool) (n : ℕ) → filter p (range_with_len 0 (n + 1)) ≡ filter p (range_with_len 0 n) ++ filter p (n ∷ [])
filter-more p n = rw add-one (ap (filter p) (range-more n) ∙ filter-append p (range_with_len 0 n) (n ∷ []))

-- a number that passes comes last
pub passes-more : {Y : Type 0} (f : ℕ → Y) (p : ℕ → Bool) (n : ℕ) (old mid new : List Y) → p n ≡ true → mid ≡ old ++ map f (filter p (range_with_len 0 n)) → new ≡ mid ++ f n ∷ [] →
    new ≡ old ++ map f (filter p (range_with_len 0 (n + 1)))
passes-more f p n old mid new t before put =
    let few = filter p (range_with_len 0 n) in
    put ∙ ap (λ ys. ys ++ f n ∷ []) before ∙ append_assoc old (map f few) (f n ∷ [])
    ∙ ap (λ ys. old ++ ys) (sym (ap (map f) (filter-more p n) ∙ map-append f few (filter p (n ∷ [])) ∙ ap (λ ys. map f few ++ map f ys) (cond-true (p n) (n ∷ []) [] t)))

-- and one that does not changes nothing
pub fails-more : {Y : Type 0} (f : ℕ → Y) (p : ℕ → Bool) (n : ℕ) (old mid : List Y) → p n ≡ false → mid ≡ old ++ map f (filter p (range_with_len 0 n)) → mid ≡ old ++ map f (filter p (range_with_len 0 (n + 1)))
fails-more f p n old mid t before =
    let few = filter p (range_with_len 0 n) in
    before ∙ ap (λ ys. old ++ map f ys) (sym (filter-more p n ∙ ap (λ ys. few ++ ys) (cond-false (p n) (n ∷ []) [] t) ∙ append-nil few))

-- the same of the numbers alone
pub kept-more : (p : ℕ → Bool) (n : ℕ) (mid new : List ℕ) → p n ≡ true → mid ≡ filter p (range_with_len 0 n) → new ≡ mid ++ n ∷ [] → new ≡ filter p (range_with_len 0 (n + 1))
kept-more p n mid new t before put =
    put ∙ ap (λ ys. ys ++ n ∷ []) before ∙ ap (λ ys. filter p (range_with_len 0 n) ++ ys) (sym (cond-true (p n) (n ∷ []) [] t)) ∙ sym (filter-more p n)

pub left-more : (p : ℕ → Bool) (n : ℕ) (mid : List ℕ) → p n ≡ false → mid ≡ filter p (range_with_len 0 n) → mid ≡ filter p (range_with_len 0 (n + 1))
left-more p n mid t before =
    before ∙ sym (filter-more p n ∙ ap (λ ys. filter p (range_with_len 0 n) ++ ys) (cond-false (p n) (n ∷ []) [] t) ∙ append-nil (filter p (range_with_len 0 n)))

-- what a function makes of one number more
pub range-more_map : {Y : Type 0} (f : ℕ → Y) (n : ℕ) (old mid new : List Y) → mid ≡ old ++ map f (range_with_len 0 n) → new ≡ mid ++ f n ∷ [] → new ≡ old ++ map f (range_with_len 0 (n + 1))
range-more_map f n old mid new before put =
    let few = range_with_len 0 n in
    let step : map f (range_with_len 0 (n + 1)) ≡ map f few ++ f n ∷ [] = rw add-one (ap (map f) (range-more n) ∙ map-append f few (n ∷ [])) in
    put ∙ ap (λ ys. ys ++ f n ∷ []) before ∙ append_assoc old (map f few) (f n ∷ []) ∙ ap (λ ys. old ++ ys) (sym step)

-- one item more of the same for each item of a list
pub constant-more : {X Y : Type 0} (y : Y) (xs : List X) (d : X) (i : ℕ) (old mid new : List Y) → i < length xs → mid ≡ old ++ map (λ x. y) (take i xs) → new ≡ mid ++ y ∷ [] → new ≡ old ++ map (λ x. y) (take (i + 1) xs)
constant-more y xs d i old mid new less before put =
    let few = map (λ x. y) (take i xs) in
    put ∙ ap (λ ys. ys ++ y ∷ []) before ∙ append_assoc old few (y ∷ []) ∙ ap (λ ys. old ++ ys) (sym (map_more (λ x. y) xs i d less))

-- rows over lists that are those of a unit's setup
pub same-rows : (plant : Plant) (unit : ℕ) (own : List TaskSlot) (setups : List SetupSlot) (kinds : List SetupRow) (n m : ℕ) → own ≡ task_slots plant → setups ≡ setup_slots plant unit → kinds ≡ setup_rows plant unit → n ≡ m →
    map (row_over own setups unit n) kinds ≡ map (setup_row plant unit m) (setup_rows plant unit)
same-rows plant unit own setups kinds n m e f g h =
    ap (λ xs. map (row_over xs setups unit n) kinds) e ∙ ap (λ ss. map (row_over (task_slots plant) ss unit n) kinds) f
    ∙ ap (λ ks. map (row_over (task_slots plant) (setup_slots plant unit) unit n) ks) g ∙ ap (λ (k : ℕ). map (row_over (task_slots plant) (setup_slots plant unit) unit k) (setup_rows plant unit)) h
