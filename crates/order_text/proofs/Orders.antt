-- The lines of a conflict, one after another.
use Rattle.std.proofs.Common.{◌≡◌, ℕ, zero, suc, ◌+◌, ◌-◌, ◌<◌, ◌≤◌, ◌==◌, ◌&&◌, Bool, true, false, cond, nat_le, List, [], ◌∷◌, ◌++◌, length, refl, ap, sym, ◌∙◌, arith}
use Rattle.std.specs.Prelude.{Result, Ok, Err, slice_set, slice_index_or}
use Rattle.std.specs.List.{flat_map, range_with_len}
use Rattle.std.proofs.lemmas.Bool.{and_parts, leb-true}
use Rattle.std.proofs.lemmas.List.{map-id, flat_map_more}
use Rattle.std.proofs.lemmas.List.FromFn.{map-range_with_len_more}
use Rattle.log_lines.specs.declared.defect.Defect.{Defect}
use Rattle.stn_model.specs.declared.plant.Plant.{Plant}
use Rattle.plan_tables.specs.Deliveries.{no_delivery}
use Rattle.order_text.specs.declared.reading.OrderStop.{OrderStop}
use Rattle.order_text.specs.declared.reading.OrderStop.TheVariants.{Bad, Memory}
use Rattle.order_text.specs.ConflictText.{order_words}
use Rattle.order_text.specs.ReadConflict.{has_feed, line_of, rest_of, has_words, is_order, named_by, go_on, bad_line, orders_of, IsStop, IsLineStop}

-- the delivery of a right line is there
pub order_within : (plant : Plant) (number : ℕ) (line : List ℕ) → is_order plant number line ≡ true → (1 ≤ number) × (number ≤ length plant.deliveries)
unfolding is_order
order_within plant number line is =
    let front = and_parts (nat_le 1 number && nat_le number (length plant.deliveries)) (has_words line (order_words plant number (slice_index_or plant.deliveries (number - 1) no_delivery))) is in
    let both = and_parts (nat_le 1 number) (nat_le number (length plant.deliveries)) front.0 in
    (leb-true 1 number both.0, leb-true number (length plant.deliveries) both.1)

-- no line is there any more, though one is to come
pub orders-missing : (plant : Plant) (count done line above : ℕ) (kept : List Bool) (rest : List ℕ) → done < count → has_feed rest ≡ false
    → orders_of plant (count - done) line above kept rest ≡ bad_line line
unfolding orders_of
orders-missing plant count done line above kept rest less none =
    let further : count - done ≡ suc (count - (done + 1)) = omega arith in
    rw (further, none) refl

-- a line is a defect
pub orders-bad : (plant : Plant) (count done line above kind : ℕ) (kept : List Bool) (rest : List ℕ) → done < count → has_feed rest ≡ true → named_by plant above (line_of rest) ≡ Err kind
    → orders_of plant (count - done) line above kept rest ≡ Err (record { line = line; kind = kind })
unfolding orders_of
orders-bad plant count done line above kind kept rest less some bad =
    let further : count - done ≡ suc (count - (done + 1)) = omega arith in
    rw (further, some, bad) refl

-- a line names a delivery
pub orders-next : (plant : Plant) (count done line above number : ℕ) (kept : List Bool) (rest : List ℕ) → done < count → has_feed rest ≡ true → named_by plant above (line_of rest) ≡ Ok number
    → orders_of plant (count - done) line above kept rest ≡ orders_of plant (count - (done + 1)) (line + 1) number (slice_set kept (number - 1) true) (rest_of rest)
unfolding orders_of
orders-next plant count done line above number kept rest less some named =
    let further : count - done ≡ suc (count - (done + 1)) = omega arith in
    rw (further, some, named) refl

-- all lines were read, and nothing follows
pub orders-end : (plant : Plant) (count done line above : ℕ) (kept : List Bool) (rest : List ℕ) → count ≤ done → (length rest == 0) ≡ true → orders_of plant (count - done) line above kept rest ≡ Ok kept
unfolding orders_of
orders-end plant count done line above kept rest all none =
    let further : count - done ≡ 0 = omega arith in
    rw (further, none) refl

-- or something does
pub orders-more : (plant : Plant) (count done line above : ℕ) (kept : List Bool) (rest : List ℕ) → count ≤ done → (length rest == 0) ≡ false → orders_of plant (count - done) line above kept rest ≡ bad_line line
unfolding orders_of
orders-more plant count done line above kept rest all some =
    let further : count - done ≡ 0 = omega arith in
    rw (further, some) refl

-- the defect of a line is that of the text
pub stop_is : (expected : Result (List Bool) Defect) (line : ℕ) (named : Result ℕ ℕ) (stop : OrderStop) → IsLineStop line named stop
    → ((kind : ℕ) → named ≡ Err kind → expected ≡ Err (record { line = line; kind = kind })) → IsStop expected stop
stop_is expected line named (Bad defect) is follows =
    follows defect.kind is.0 ∙ ap (λ (l : ℕ). Err (record { line = l; kind = defect.kind })) (sym is.1)
stop_is expected line named Memory is follows = tt

-- the numbers below n + 1 are those below n, and n
range_next : (n : ℕ) → range_with_len 0 (n + 1) ≡ range_with_len 0 n ++ n ∷ []
range_next n =
    sym (map-id (range_with_len 0 (n + 1))) ∙ map-range_with_len_more (λ k. k) 0 n n (omega arith)
    ∙ ap (λ ks. ks ++ n ∷ []) (map-id (range_with_len 0 n))

-- a text that had the lines of the places below n, and gets the one of n
pub lines_next : (f : ℕ → List ℕ) (old text new : List ℕ) (n : ℕ) → text ≡ old ++ flat_map f (range_with_len 0 n) → new ≡ text ++ f n → new ≡ old ++ flat_map f (range_with_len 0 (n + 1))
lines_next f old text new n before more =
    more ∙ ap (λ xs. xs ++ f n) before ∙ flat_map_more f old (range_with_len 0 n) n
    ∙ ap (λ ks. old ++ flat_map f ks) (sym (range_next n))
