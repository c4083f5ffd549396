-- What a band shows of a list by times.
use Rattle.std.proofs.Common.{◌≡◌, ℕ, ℤ, pos, ◌+◌, ◌<◌, ◌≤◌, ◌*◌, ◌==◌, Bool, true, false, cond, List, length, get_or, take, drop, map, arith, ◌∙◌}
use Rattle.std.specs.List.{range_with_len, All}
use Rattle.std.proofs.lemmas.List.{get_or-drop, get_or-take, length-take, length-drop}
use Rattle.std.proofs.lemmas.List.Elements.{All-take, All-drop}
use Rattle.std.proofs.lemmas.List.FromFn.{get_or-map-range_with_len, length-map-range_with_len}
use Rattle.stn_model.specs.declared.plant.Plant.{Plant}
use Rattle.plan_picture.specs.Scale.{band_part, band_count}

-- what is left from a time on begins with what belongs to it
at_time : (f : ℕ → ℤ) (n k i : ℕ) → i < length (drop k (map f (range_with_len 0 n))) → get_or (drop k (map f (range_with_len 0 n))) i (pos 0) ≡ f (k + i)
at_time f n k i lt =
    let xs = map f (range_with_len 0 n) in
    let within : k + i < n = omega (arith, lt, length-drop k xs, length-map-range_with_len f 0 n) in
    get_or-drop k xs i (pos 0) ∙ get_or-map-range_with_len f 0 n (k + i) (k + i) (pos 0) within (omega arith)

-- each item of a part stands at its time
at_place : (b : Bool) (f : ℕ → ℤ) (n k i : ℕ) → i < length (cond b (drop k (map f (range_with_len 0 n))) (take 48 (drop k (map f (range_with_len 0 n))))) → get_or (cond b (drop k (map f (range_with_len 0 n))) (take 48 (drop k (map f (range_with_len 0 n))))) i (pos 0) ≡ f (k + i)
at_place true f n k i lt = at_time f n k i lt
at_place false f n k i lt =
    let rest = drop k (map f (range_with_len 0 n)) in
    let long = length-take 48 rest in
    get_or-take 48 rest i (pos 0) (omega (arith, lt, long)) ∙ at_time f n k i (omega (arith, lt, long))

pub part_at : (plant : Plant) (band n : ℕ) (f : ℕ → ℤ) (i : ℕ) → i < length (band_part plant band (map f (range_with_len 0 n))) → get_or (band_part plant band (map f (range_with_len 0 n))) i (pos 0) ≡ f (48 * band + i)
unfolding band_part
part_at plant band n f i lt = at_place (band + 1 == band_count plant) f n (48 * band) i lt

-- what holds of all items holds of those of a part
all_of : {A : Type 0} (P : A → Type 0) (b : Bool) (k : ℕ) (xs : List A) → All P xs → All P (cond b (drop k xs) (take 48 (drop k xs)))
all_of P true k xs h = All-drop P k xs h
all_of P false k xs h = All-take P 48 (drop k xs) (All-drop P k xs h)

pub part_all : {A : Type 0} (P : A → Type 0) (plant : Plant) (band : ℕ) (xs : List A) → All P xs → All P (band_part plant band xs)
unfolding band_part
part_all P plant band xs h = all_of P (band + 1 == band_count plant) (48 * band) xs h

-- a part is no longer than the whole
length_of : {A : Type 0} (b : Bool) (k : ℕ) (xs : List A) → length (cond b (drop k xs) (take 48 (drop k xs))) ≤ length xs
length_of true k xs = omega (arith, length-drop k xs)
length_of false k xs = omega (arith, length-drop k xs, length-take 48 (drop k xs))

pub part_length : {A : Type 0} (plant : Plant) (band : ℕ) (xs : List A) → length (band_part plant band xs) ≤ length xs
unfolding band_part
part_length plant band xs = length_of (band + 1 == band_count plant) (48 * band) xs
