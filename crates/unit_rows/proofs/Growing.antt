-- Lists that grow: of what a function makes of slots, and of rows, one family or one number after another.
use Rattle.std.proofs.Common.{◌≡◌, ℕ, Result, Ok, Err, OnErr, ◌+◌, ◌<◌, ◌≤◌, List, [], ◌∷◌, ◌++◌, length, get_or, map, take, refl, sym, ap, ◌∙◌, arith, append_assoc, append-nil, zero-add}
use Rattle.std.specs.List.{flat_map, range_with_len}
use Rattle.std.proofs.lemmas.List.{take_all, take_at, take-take, map_more, map_push, length-append, length-map}
use Rattle.std.proofs.lemmas.List.Concat.{flat_map-append}
use Rattle.stn_model.specs.declared.plant.Plant.{Plant}
use Rattle.time_grid.specs.Slots.{slots}
use Rattle.stn_model.specs.Sound.{Sound}
use Rattle.time_grid.proofs.Lists.{range-push}
use Rattle.time_grid.proofs.SlotList.{few-slots}

-- what a function makes of one more item
pub map_next : {X Y : Type 0} (f : X → Y) (xs : List X) (ys zs : List Y) (i : ℕ) (x : X) (y : Y) → i < length xs → x ≡ get_or xs i x → y ≡ f x →
    zs ≡ ys ++ y ∷ [] → ys ≡ map f (take i xs) → zs ≡ map f (take (i + 1) xs)
map_next f xs ys zs i x y l is made put e =
    put ∙ ap (λ v. ys ++ v ∷ []) (made ∙ ap f is) ∙ ap (λ v. v ++ f (get_or xs i x) ∷ []) e ∙ sym (map_more f xs i x l)

-- what a function makes of all items
pub map_done : {X Y : Type 0} (f : X → Y) (xs zs : List X) (ys : List Y) (i : ℕ) → length xs ≤ i → xs ≡ zs → ys ≡ map f (take i xs) → ys ≡ map f zs
map_done f xs zs ys i l same e = e ∙ ap (map f) (take_all i xs l ∙ same)

-- the slots are few
pub few_parts : {Y : Type 0} (plant : Plant) (f : ℕ × ℕ → Y) (ys : List Y) → Sound plant → ys ≡ map f (slots plant) → length ys ≤ 4096
few_parts plant f ys sound e =
    omega (arith, ap length e, length-map (slots plant) f, few-slots plant sound)

-- a list that goes on begins with what it was
pub begins : {X : Type 0} (old more new : List X) → new ≡ old ++ more → take (length old) new ≡ old
begins old more new e = ap (take (length old)) e ∙ take_at old more (length old) refl

-- a list that begins with one that goes on begins with what that was
pub begins-again : {X : Type 0} (old more mid new : List X) → mid ≡ old ++ more → take (length mid) new ≡ mid → take (length old) new ≡ old
begins-again old more mid new e h =
    let long : length old ≤ length mid = omega (arith, ap length e, length-append old more) in
    sym (take-take (length old) (length mid) new long) ∙ ap (take (length old)) h ∙ begins old more mid e

-- one more number of a range
pub map-range_next : {Y : Type 0} (f : ℕ → Y) (n : ℕ) → map f (range_with_len 0 (n + 1)) ≡ map f (range_with_len 0 n) ++ f n ∷ []
map-range_next f n = ap (map f) (range-push 0 n) ∙ map_push f (range_with_len 0 n) (0 + n) ∙ ap (λ k. map f (range_with_len 0 n) ++ f k ∷ []) (zero-add n)

pub flat_map-range_next : {Y : Type 0} (f : ℕ → List Y) (n : ℕ) → flat_map f (range_with_len 0 (n + 1)) ≡ flat_map f (range_with_len 0 n) ++ f n
flat_map-range_next f n =
    ap (flat_map f) (range-push 0 n) ∙ flat_map-append f (range_with_len 0 n) ((0 + n) ∷ [])
    ∙ ap (λ ys. flat_map f (range_with_len 0 n) ++ ys) (append-nil (f (0 + n)) ∙ ap f (zero-add n))

-- more rows after those that were added
pub added_next : {X : Type 0} (old before more new mid after : List X) → mid ≡ old ++ before → new ≡ mid ++ more → after ≡ before ++ more → new ≡ old ++ after
added_next old before more new mid after e f g = f ∙ ap (λ xs. xs ++ more) e ∙ append_assoc old before more ∙ ap (λ xs. old ++ xs) (sym g)

-- what holds anyhow holds after want of memory
pub on_err : {T E : Type 0} (r : Result T E) (P : Type 0) → P → OnErr r P
on_err (Ok x) P p = tt
on_err (Err e) P p = p
