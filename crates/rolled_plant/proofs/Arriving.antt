-- What comes and goes by a time of the rolled plant.
use Rattle.std.proofs.Common.{◌≡◌, ℕ, zero, suc, ◌+◌, ◌-◌, ◌*◌, ◌<◌, ◌≤◌, Bool, true, false, cond, leb, ltb, List, [], ◌∷◌, length, get_or, map, filter, sum_by, refl, sym, ap, ap₂, ◌∙◌, inl, inr, arith}
use Rattle.std.specs.Prelude.{All, ◌&&◌, ◌==◌, replicate, ◌/◌, ◌%◌}
use Rattle.std.proofs.lemmas.Bool.{cases_lt, cases_eq, cond-true, cond-false, and_right, and_left, le-leb, lt-leb, leb-true, eq-eqb, ne_eqb, false≢true}
use Rattle.std.proofs.lemmas.Nat.{div-add-mod'}
use Rattle.std.proofs.lemmas.List.Sums.{sum_by-cons, sum_by-append, sum_by-le-sum_by}
use Rattle.std.proofs.lemmas.List.Folds.{sum_by-replicate}
use Rattle.stn_model.specs.declared.plant.Plant.{Plant}
use Rattle.stn_model.specs.declared.plant.Receipt.{Receipt}
use Rattle.stn_model.specs.declared.plant.Delivery.{Delivery}
use Rattle.stn_model.specs.declared.start.Start.{Start}
use Rattle.stn_model.specs.Sums.{sum_below}
use Rattle.stn_model.specs.Plant.{task_at}
use Rattle.stn_model.specs.Stock.{brought, received, carried_off, delivered, given, given_by, taken, inflow, outflow}
use Rattle.rolled_plant.specs.Begin.{inflow_before, outflow_before, stock_before}
use Rattle.rolled_plant.specs.Receipts.{arriving_at, coming, one_receipt, some_receipt, receipts_of, receipts_at, receipts_from}
use Rattle.rolled_plant.specs.RolledPlant.{rolled_plant, sooner_delivery, deliveries_from}
use Rattle.rolled_plant.proofs.Basics.{leb_agree, sum_by-same, sum_by-none, sum_by-agree, sum_by-listed_below, sum_below-same, sum_below-one, sum_below-more}
use Rattle.rolled_plant.proofs.Given.{taken_past}

-- ---- deliveries

-- what a delivery before a period has carried off
carried_before : ℕ → ℕ → Delivery → ℕ
carried_before state period delivery = cond (delivery.state == state && ltb delivery.time period) delivery.amount 0

early_delivery : (period : ℕ) (delivery : Delivery) (deliveries : List Delivery) → delivery.time < period → deliveries_from period (delivery ∷ deliveries) ≡ deliveries_from period deliveries
early_delivery period delivery deliveries early =
    let rest = filter (λ (other : Delivery). leb period other.time) deliveries in
    ap (map (sooner_delivery period)) (cond-false {A = List Delivery} (leb period delivery.time) (delivery ∷ rest) rest (lt-leb period delivery.time early))

late_delivery : (period : ℕ) (delivery : Delivery) (deliveries : List Delivery) → period ≤ delivery.time → deliveries_from period (delivery ∷ deliveries) ≡ sooner_delivery period delivery ∷ deliveries_from period deliveries
late_delivery period delivery deliveries late =
    let rest = filter (λ (other : Delivery). leb period other.time) deliveries in
    ap (map (sooner_delivery period)) (cond-true {A = List Delivery} (leb period delivery.time) (delivery ∷ rest) rest (le-leb period delivery.time late))

carried_early : (period state time : ℕ) (delivery : Delivery) → delivery.time < period → carried_off state (period + time) delivery ≡ carried_before state period delivery
unfolding carried_before
carried_early period state time delivery early =
    ap (λ (b : Bool). cond (delivery.state == state && b) delivery.amount 0)
    (leb_agree delivery.time (period + time) (suc delivery.time) period (λ l. early) (λ l. omega arith))

carried_late : (period state time : ℕ) (delivery : Delivery) → period ≤ delivery.time → carried_off state (period + time) delivery ≡ carried_off state time (sooner_delivery period delivery)
carried_late period state time delivery late =
    ap (λ (b : Bool). cond (delivery.state == state && b) delivery.amount 0)
    (leb_agree delivery.time (period + time) (delivery.time - period) time (λ l. omega arith) (λ l. omega arith))

carried_none : (period state : ℕ) (delivery : Delivery) → period ≤ delivery.time → carried_before state period delivery ≡ 0
unfolding carried_before
carried_none period state delivery late =
    cond-false {A = ℕ} (delivery.state == state && ltb delivery.time period) delivery.amount 0
    (and_right (delivery.state == state) (ltb delivery.time period) (lt-leb (suc delivery.time) period (omega arith)))

delivered_parts : (period state time : ℕ) (deliveries : List Delivery)
    → sum_by (carried_off state (period + time)) deliveries ≡ sum_by (carried_before state period) deliveries + sum_by (carried_off state time) (deliveries_from period deliveries)
delivered_parts period state time [] = refl
delivered_parts period state time (delivery ∷ deliveries) =
    let whole = sum_by-cons (carried_off state (period + time)) delivery deliveries in
    let parts = sum_by-cons (carried_before state period) delivery deliveries in
    let ih = delivered_parts period state time deliveries in
    elim (cases_lt delivery.time period) [
      | inl early ↦
          let left = ap (sum_by (carried_off state time)) (early_delivery period delivery deliveries early) in
          omega (arith, whole, parts, ih, left, carried_early period state time delivery early)
      | inr late ↦
          let left = ap (sum_by (carried_off state time)) (late_delivery period delivery deliveries late) in
          let own = sum_by-cons (carried_off state time) (sooner_delivery period delivery) (deliveries_from period deliveries) in
          omega (arith, whole, parts, ih, left, own, carried_late period state time delivery late, carried_none period state delivery late)
    ]

-- what has been delivered before a period
delivered_before : Plant → ℕ → ℕ → ℕ
delivered_before plant state period = sum_by (carried_before state period) plant.deliveries

delivered_later : (plant : Plant) (before : List Start) (period state time : ℕ)
    → delivered plant state (period + time) ≡ delivered_before plant state period + delivered (rolled_plant plant before period) state time
unfolding delivered delivered_before rolled_plant
delivered_later plant before period state time = delivered_parts period state time plant.deliveries

delivered_before_zero : (plant : Plant) (state : ℕ) → delivered_before plant state 0 ≡ 0
unfolding delivered_before
delivered_before_zero plant state = sum_by-none (carried_before state 0) plant.deliveries (λ k d l. carried_none 0 state (get_or plant.deliveries k d) (omega arith))

delivered_before_suc : (plant : Plant) (state time : ℕ) → delivered_before plant state (suc time) ≡ delivered plant state time
unfolding delivered_before delivered carried_before
delivered_before_suc plant state time =
    sum_by-same (carried_before state (suc time)) (carried_off state time) plant.deliveries
    (λ delivery. ap (λ (b : Bool). cond (delivery.state == state && b) delivery.amount 0)
    (leb_agree (suc delivery.time) (suc time) delivery.time time (λ l. omega arith) (λ l. omega arith)))

-- nothing is before the first period
pub none_before : (before : List Start) → All (λ start. start.period < 0) before → before ≡ []
none_before [] early = refl
none_before (x ∷ xs) early = absurd (let l = early 0 x (omega arith) in omega arith)

-- all that goes out by a time of the rolled plant: what went out before, and what is delivered there
pub outflow_later : (plant : Plant) (before : List Start) (period state time : ℕ) → All (λ start. start.period < period) before
    → outflow plant before state (period + time) ≡ outflow_before plant before state period + delivered (rolled_plant plant before period) state time
unfolding outflow
outflow_later plant before zero state time early =
    let none = none_before before early in
    let parts = delivered_later plant before 0 state time in
    let zero_before = delivered_before_zero plant state in
    let takes : sum_by (taken plant state (0 + time)) before ≡ 0 = ap (sum_by (taken plant state (0 + time))) none in
    omega (arith, parts, zero_before, takes)
outflow_later plant before (suc period) state time early =
    let parts = delivered_later plant before (suc period) state time in
    let own = delivered_before_suc plant state period in
    let takes : sum_by (taken plant state (suc period + time)) before ≡ sum_by (taken plant state period) before =
    sum_by-agree (taken plant state (suc period + time)) (taken plant state period) before
    (λ k d l. let is = early k d l in taken_past plant state (suc period + time) period (get_or before k d) (omega arith) (omega arith)) in
    omega (arith, parts, own, takes)

-- ---- receipts

some_brings : (state time from at amount : ℕ) → sum_by (brought state time) (some_receipt from at amount) ≡ cond (from == state && leb at time) amount 0
some_brings state time from at amount =
    elim (cases_eq amount 0) [
      | inl e ↦
          ap (sum_by (brought state time)) (cond-true {A = List Receipt} (amount == 0) [] (one_receipt from at amount ∷ []) (eq-eqb amount 0 e))
          ∙ sym (ap (λ (n : ℕ). cond (from == state && leb at time) n 0) e ∙ none (from == state && leb at time))
      | inr other ↦
          ap (sum_by (brought state time)) (cond-false {A = List Receipt} (amount == 0) [] (one_receipt from at amount ∷ []) (ne_eqb amount 0 other))
          ∙ sum_by-cons (brought state time) (one_receipt from at amount) [] ∙ omega arith
    ]
  where
    none : (b : Bool) → ◌≡◌ {A = ℕ} (cond b 0 0) 0
    none true = refl
    none false = refl

-- the receipts of an amount bring it
receipts_bring : (state time from at amount : ℕ) → sum_by (brought state time) (receipts_of from at amount) ≡ cond (from == state && leb at time) amount 0
unfolding receipts_of
receipts_bring state time from at amount =
    let whole = one_receipt from at 1000000000 in
    let parts = sum_by-append (brought state time) (replicate (amount / 1000000000) whole) (some_receipt from at (amount % 1000000000)) in
    let many = sum_by-replicate (brought state time) (amount / 1000000000) whole in
    let rest = some_brings state time from at (amount % 1000000000) in
    parts ∙ ap₂ (λ m n. m + n) many rest ∙ made (from == state && leb at time) amount
  where
    made : (b : Bool) (amount : ℕ) → (amount / 1000000000) * cond b 1000000000 0 + cond b (amount % 1000000000) 0 ≡ cond b amount 0
    made true amount = div-add-mod' amount 1000000000
    made false amount = omega arith

-- the receipts at a time bring what comes in then
at_brings : (plant : Plant) (before : List Start) (period state time at : ℕ) → state < length plant.states
    → sum_by (brought state time) (receipts_at plant before period at) ≡ cond (leb at time) (coming plant before period state at) 0
unfolding receipts_at
at_brings plant before period state time at there =
    let each = λ (from : ℕ). receipts_of from at (coming plant before period from at) in
    let bring = λ (from : ℕ). cond (from == state && leb at time) (coming plant before period from at) 0 in
    sum_by-listed_below (brought state time) each (length plant.states)
    ∙ sum_below-same (λ from. sum_by (brought state time) (each from)) bring (length plant.states) (λ from l. receipts_bring state time from at (coming plant before period from at))
    ∙ sum_below-one bring (length plant.states) state there
    (λ from l other. cond-false {A = ℕ} (from == state && leb at time) (coming plant before period from at) 0 (and_left (from == state) (leb at time) (ne_eqb from state other)))
    ∙ ap (λ (b : Bool). cond (b && leb at time) (coming plant before period state at) 0) (eq-eqb state state refl)

-- what comes into a state by a time
came_by : Plant → List Start → ℕ → ℕ → ℕ → ℕ
came_by plant before period state time = sum_below (coming plant before period state) (suc time)

received_is : (plant : Plant) (before : List Start) (period state time : ℕ) → state < length plant.states → time ≤ plant.periods - period
    → received (rolled_plant plant before period) state time ≡ came_by plant before period state time
unfolding received receipts_from came_by rolled_plant
received_is plant before period state time there within =
    let at = receipts_at plant before period in
    let bring = λ (k : ℕ). cond (leb k time) (coming plant before period state k) 0 in
    let last = suc (plant.periods - period) in
    sum_by-listed_below (brought state time) at last
    ∙ sum_below-same (λ k. sum_by (brought state time) (at k)) bring last (λ k l. at_brings plant before period state time k there)
    ∙ sum_below-more bring (suc time) last (omega arith) (λ k l. cond-false {A = ℕ} (leb k time) (coming plant before period state k) 0 (lt-leb k time (omega arith)))
    ∙ sum_below-same bring (coming plant before period state) (suc time) (λ k l. cond-true {A = ℕ} (leb k time) (coming plant before period state k) 0 (le-leb k time (omega arith)))

-- ---- all that comes in

cond_rises : (s b c : Bool) (n : ℕ) → (b ≡ true → c ≡ true) → cond (s && b) n 0 ≤ cond (s && c) n 0
cond_rises false b c n to = omega arith
cond_rises true false c n to = omega arith
cond_rises true true true n to = omega arith
cond_rises true true false n to = absurd (false≢true (to refl))

later_too : (a time : ℕ) → leb a time ≡ true → leb a (suc time) ≡ true
later_too a time e = let l = leb-true a time e in le-leb a (suc time) (omega arith)

inflow_rises : (plant : Plant) (before : List Start) (state time : ℕ) → inflow plant before state time ≤ inflow plant before state (suc time)
unfolding inflow received given
inflow_rises plant before state time =
    let comes = sum_by-le-sum_by (brought state time) (brought state (suc time)) plant.receipts
    (λ receipt. cond_rises (receipt.state == state) (leb receipt.time time) (leb receipt.time (suc time)) receipt.amount (later_too receipt.time time)) in
    let gives = sum_by-le-sum_by (given plant state time) (given plant state (suc time)) before
    (λ x. sum_by-le-sum_by (given_by state time x) (given_by state (suc time) x) (task_at plant x.task).outputs
    (λ output. cond_rises (output.state == state) (leb (x.period + output.delay) time) (leb (x.period + output.delay) (suc time)) (x.quanta * output.amount) (later_too (x.period + output.delay) time))) in
    omega (arith, comes, gives)

-- no less has come in by a time than before it
pub inflow_grows : (plant : Plant) (before : List Start) (state time : ℕ) → inflow_before plant before state time ≤ inflow plant before state time
unfolding inflow
inflow_grows plant before state zero = omega arith
inflow_grows plant before state (suc time) = inflow_rises plant before state time

-- what comes at once, and what comes later
coming_first : (plant : Plant) (before : List Start) (period state : ℕ)
    → coming plant before period state 0 + inflow_before plant before state period ≡ (stock_before plant before state period - 1000000000) + inflow plant before state period
unfolding coming arriving_at
coming_first plant before period state =
    let e : period + 0 ≡ period = omega arith in
    let first = ap (λ (n : ℕ). inflow plant before state n - inflow_before plant before state n) e in
    let grows = inflow_grows plant before state period in
    let whole = cond-true {A = ℕ} (0 == 0) (stock_before plant before state period - 1000000000) 0 refl in
    omega (arith, first, grows, whole)

coming_next : (plant : Plant) (before : List Start) (period state time : ℕ)
    → coming plant before period state (suc time) + inflow plant before state (period + time) ≡ inflow plant before state (period + suc time)
unfolding coming arriving_at
coming_next plant before period state time =
    let e : period + suc time ≡ suc (period + time) = omega arith in
    let next = ap (λ (n : ℕ). inflow plant before state n - inflow_before plant before state n) e in
    let last = ap (inflow plant before state) e in
    let grows = inflow_rises plant before state (period + time) in
    let none = cond-false {A = ℕ} (suc time == 0) (stock_before plant before state period - 1000000000) 0 (ne_eqb (suc time) 0 (λ z. omega arith)) in
    omega (arith, next, last, grows, none)

-- all that comes by a time of the rolled plant: what came by then, less what had come before the period
came_is : (plant : Plant) (before : List Start) (period state time : ℕ)
    → came_by plant before period state time + inflow_before plant before state period ≡ (stock_before plant before state period - 1000000000) + inflow plant before state (period + time)
unfolding came_by
came_is plant before period state zero =
    let e : period + 0 ≡ period = omega arith in
    let first = coming_first plant before period state in
    let here = ap (inflow plant before state) e in
    omega (arith, first, here)
came_is plant before period state (suc time) =
    let ih = came_is plant before period state time in
    let next = coming_next plant before period state time in
    omega (arith, ih, next)

-- what is received by a time of the rolled plant
pub received_later : (plant : Plant) (before : List Start) (period state time : ℕ) → state < length plant.states → time ≤ plant.periods - period
    → received (rolled_plant plant before period) state time + inflow_before plant before state period ≡ (stock_before plant before state period - 1000000000) + inflow plant before state (period + time)
received_later plant before period state time there within =
    let is = received_is plant before period state time there within in
    let came = came_is plant before period state time in
    omega (arith, is, came)
