-- Deliveries that are kept, one by one.
use Rattle.std.proofs.Common.{◌≡◌, ◌<◌, ◌≤◌, ℕ, ◌+◌, Bool, true, false, List, [], ◌∷◌, ◌++◌, length, get_or, take, pos, refl, ap, ◌∙◌, arith, All}
use Rattle.std.proofs.lemmas.List.{append-nil, take_more, length-take-le}
use Rattle.std.proofs.lemmas.List.Elements.{All-cons, All-head, All-tail}
use Rattle.stn_model.specs.declared.plant.Delivery.{Delivery}
use Rattle.fewer_orders.specs.Alone.{picked}

-- one more word and one more delivery
picked-append : (kept : List Bool) (deliveries : List Delivery) (one : Bool) (delivery : Delivery) → length kept ≡ length deliveries
    → picked (kept ++ one ∷ []) (deliveries ++ delivery ∷ []) ≡ picked kept deliveries ++ picked (one ∷ []) (delivery ∷ [])
picked-append [] [] one delivery same = refl
picked-append [] (d ∷ ds) one delivery same = absurd (omega arith)
picked-append (k ∷ ks) [] one delivery same = absurd (omega arith)
picked-append (true ∷ ks) (d ∷ ds) one delivery same = ap (λ (rest : List Delivery). d ∷ rest) (picked-append ks ds one delivery (omega arith))
picked-append (false ∷ ks) (d ∷ ds) one delivery same = picked-append ks ds one delivery (omega arith)

-- the deliveries that are kept of the first so many and one more
picked-more : (kept : List Bool) (deliveries : List Delivery) (i : ℕ) (b : Bool) (d : Delivery) → length kept ≡ length deliveries → i < length deliveries
    → picked (take (i + 1) kept) (take (i + 1) deliveries) ≡ picked (take i kept) (take i deliveries) ++ picked (get_or kept i b ∷ []) (get_or deliveries i d ∷ [])
picked-more kept deliveries i b d same within =
    let more : i < length kept = omega arith in
    let first : length (take i kept) ≡ i = length-take-le i kept (omega arith) in
    let second : length (take i deliveries) ≡ i = length-take-le i deliveries (omega arith) in
    rw (take_more kept i b more, take_more deliveries i d within) (picked-append (take i kept) (take i deliveries) (get_or kept i b) (get_or deliveries i d) (omega arith))

-- that one is kept
pub picked-kept : (kept : List Bool) (deliveries : List Delivery) (i : ℕ) (d : Delivery) → length kept ≡ length deliveries → i < length deliveries → get_or kept i false ≡ true
    → picked (take (i + 1) kept) (take (i + 1) deliveries) ≡ picked (take i kept) (take i deliveries) ++ get_or deliveries i d ∷ []
picked-kept kept deliveries i d same within is =
    picked-more kept deliveries i false d same within ∙ ap (λ (b : Bool). picked (take i kept) (take i deliveries) ++ picked (b ∷ []) (get_or deliveries i d ∷ [])) is

-- or it is left out
pub picked-left : (kept : List Bool) (deliveries : List Delivery) (i : ℕ) → length kept ≡ length deliveries → i < length deliveries → get_or kept i false ≡ false
    → picked (take (i + 1) kept) (take (i + 1) deliveries) ≡ picked (take i kept) (take i deliveries)
picked-left kept deliveries i same within is =
    let d : Delivery = record { state = 0; time = 0; amount = 0; payment = pos 0 } in
    picked-more kept deliveries i false d same within ∙ ap (λ (b : Bool). picked (take i kept) (take i deliveries) ++ picked (b ∷ []) (get_or deliveries i d ∷ [])) is
    ∙ append-nil (picked (take i kept) (take i deliveries))

-- there are no more of them
pub length-picked : (kept : List Bool) (deliveries : List Delivery) → length (picked kept deliveries) ≤ length deliveries
length-picked [] [] = omega arith
length-picked [] (d ∷ ds) = omega arith
length-picked (k ∷ ks) [] = omega arith
length-picked (true ∷ ks) (d ∷ ds) = omega (arith, length-picked ks ds)
length-picked (false ∷ ks) (d ∷ ds) = omega (arith, length-picked ks ds)

-- what holds of all deliveries holds of those that are kept, where no word is missing
pub All-picked : (P : Delivery → Type 0) (kept : List Bool) (deliveries : List Delivery) → length kept ≡ length deliveries → All P deliveries → All P (picked kept deliveries)
All-picked P [] [] same all = all
All-picked P [] (d ∷ ds) same all = absurd (omega arith)
All-picked P (k ∷ ks) [] same all = absurd (omega arith)
All-picked P (true ∷ ks) (d ∷ ds) same all = All-cons P d (picked ks ds) (All-head P d ds all) (All-picked P ks ds (omega arith) (All-tail P d ds all))
All-picked P (false ∷ ks) (d ∷ ds) same all = All-picked P ks ds (omega arith) (All-tail P d ds all)
