-- How large the profit of a plan of one start is at most.
use Rattle.std.proofs.Common.{◌≡◌, ℕ, zero, suc, ◌+◌, ◌-◌, ◌*◌, ◌<◌, ◌≤◌, ◌^◌, Bool, true, false, Option, Some, None, IfSome, List, [], ◌∷◌, length, get_or, slice_index, sum_by, ℤ, pos, ◌*ℤ◌, unsigned_abs, refl, arith, inl, inr, eqb, ◌==◌, ◌&&◌, nat_le, if◌then◌else◌, mul-le-mul, mul-add, le_refl, le_trans}
use Rattle.std.specs.List.{All}
use Rattle.std.proofs.lemmas.Int.{ints, unsigned_abs-mul}
use Rattle.std.proofs.lemmas.List.{get_or_past}
use Rattle.std.proofs.lemmas.List.Elements.{All-head, All-tail, All-nil}
use Rattle.std.proofs.lemmas.List.Sums.{sum_by-le, sum_by-le-sum_by}
use Rattle.std.proofs.lemmas.Bool.{cases_lt}
use Rattle.stn_model.specs.declared.plant.Plant.{Plant}
use Rattle.stn_model.specs.declared.plant.Run.{Run}
use Rattle.stn_model.specs.declared.start.Start.{Start}
use Rattle.stn_model.specs.Plant.{state_at, utility_at, rate_in, task_at, no_task, no_state, run_on}
use Rattle.stn_model.specs.Stock.{brought, carried_off, received, delivered, given, taken, inflow, outflow, stock}
use Rattle.stn_model.specs.Load.{drawn_in, drawn, load}
use Rattle.stn_model.specs.Sums.{total, total_below, sum_below}
use Rattle.stn_model.specs.Profit.{end_value, payments, holding_cost, utility_cost, cost_of, start_cost, change_costs, profit}
use Rattle.stn_model.specs.Sound.{Sound, SoundTask}
use Rattle.stn_model.proofs.Small.{inputs_small, outputs_small, run_costs_small, rate_small}
use Rattle.plain_plan.proofs.Classes.{below-add, below-most, classes_below}

-- a start of a task that is there, of a size that a batch may have
pub record SmallStart (plant : Plant) (start : Start) : Type 0 where
  pub task : start.task < length plant.tasks
  pub quanta : start.quanta ≤ 255

sum-small : {X : Type 0} (f : X → ℕ) (m n : ℕ) (xs : List X) → length xs ≤ n → All (λ x. f x ≤ m) xs → sum_by f xs ≤ n * m
sum-small f m n xs l h = let a = sum_by-le f m xs h in let b : length xs * m ≤ n * m = mul-le-mul l (le_refl m) in omega (arith, a, b)

if-small : (b : Bool) (x m : ℕ) → x ≤ m → (if b then x else 0) ≤ m
if-small true x m h = h
if-small false x m h = omega arith

index-small : (xs : List ℕ) (m k : ℕ) → All (λ x. x ≤ m) xs → slice_index xs k ≤ m
index-small xs m k h =
    elim (cases_lt k (length xs)) [ inl l ↦ h k 0 l | inr l ↦ let e : get_or xs k 0 ≡ 0 = get_or_past xs k 0 l in omega (arith, e) ]

total-small : {X : Type 0} (f : X → ℤ) (m : ℕ) (xs : List X) → All (λ x. unsigned_abs (f x) ≤ m) xs → unsigned_abs (total f xs) ≤ length xs * m
total-small f m [] h = omega arith
total-small f m (x ∷ xs) h =
    let a : unsigned_abs (f x) ≤ m = All-head (λ y. unsigned_abs (f y) ≤ m) x xs h in
    let b = total-small f m xs (All-tail (λ y. unsigned_abs (f y) ≤ m) x xs h) in
    omega (arith, ints, a, b)

below-small : (f : ℕ → ℤ) (m n : ℕ) → ((k : ℕ) → k < n → unsigned_abs (f k) ≤ m) → unsigned_abs (total_below f n) ≤ n * m
below-small f m zero h = omega arith
below-small f m (suc n) h =
    let a : unsigned_abs (f n) ≤ m = h n (omega arith) in
    let b = below-small f m n (λ k l. h k (omega arith)) in
    omega (arith, ints, a, b)

below-times : (f : ℕ → ℤ) (c : ℕ) (m : ℕ → ℕ) (n : ℕ) → ((k : ℕ) → k < n → unsigned_abs (f k) ≤ c * m k) → unsigned_abs (total_below f n) ≤ c * sum_below m n
below-times f c m zero h = omega arith
below-times f c m (suc n) h =
    let a : unsigned_abs (f n) ≤ c * m n = h n (omega arith) in
    let b = below-times f c m n (λ k l. h k (omega arith)) in
    omega (arith, ints, a, b, mul-add c (sum_below m n) (m n))

first-test : (a b : Bool) (n : ℕ) → (if a && b then n else 0) ≤ (if a then n else 0)
first-test true b n = if-small b n n (le_refl n)
first-test false b n = omega arith

-- a product of two small numbers
pub times-small : (x y : ℤ) (m n : ℕ) → unsigned_abs x ≤ m → unsigned_abs y ≤ n → unsigned_abs (x *ℤ y) ≤ m * n
times-small x y m n a b = rw (unsigned_abs-mul x y) (mul-le-mul a b)

-- all that ever comes into a state from outside
abbrev all_received : Plant → ℕ → ℕ
all_received plant state = sum_by (λ receipt. if receipt.state == state then receipt.amount else 0) plant.receipts

-- all that ever goes out of a state to customers
abbrev all_delivered : Plant → ℕ → ℕ
all_delivered plant state = sum_by (λ delivery. if delivery.state == state then delivery.amount else 0) plant.deliveries

-- what the stock of a state is at most, above or below zero: its own receipts and deliveries, what is there first, and one batch
abbrev most_stock : Plant → ℕ → ℕ
most_stock plant state = (all_received plant state + all_delivered plant state) + ((state_at plant state).initial + 2 ^ 31)

received-most : (plant : Plant) (state time : ℕ) → received plant state time ≤ all_received plant state
unfolding received
received-most plant state time =
    sum_by-le-sum_by (brought state time) (λ receipt. if receipt.state == state then receipt.amount else 0) plant.receipts
    (λ receipt. first-test (receipt.state == state) (nat_le receipt.time time) receipt.amount)

delivered-most : (plant : Plant) (state time : ℕ) → delivered plant state time ≤ all_delivered plant state
unfolding delivered
delivered-most plant state time =
    sum_by-le-sum_by (carried_off state time) (λ delivery. if delivery.state == state then delivery.amount else 0) plant.deliveries
    (λ delivery. first-test (delivery.state == state) (nat_le delivery.time time) delivery.amount)

-- over all states each receipt and each delivery counts once
all-stocks : (plant : Plant) → Sound plant → sum_below (most_stock plant) (length plant.states) ≤ 2400000000000
all-stocks plant sound =
    let n = length plant.states in
    let moved : ℕ → ℕ = λ state. all_received plant state + all_delivered plant state in
    let own : ℕ → ℕ = λ state. (state_at plant state).initial + 2 ^ 31 in
    let whole = below-add moved own n in
    let both = below-add (all_received plant) (all_delivered plant) n in
    let come = classes_below (λ receipt. receipt.state) (λ receipt. receipt.amount) plant.receipts n in
    let gone = classes_below (λ delivery. delivery.state) (λ delivery. delivery.amount) plant.deliveries n in
    let receipts = sum-small (λ receipt. receipt.amount) 1000000000 900 plant.receipts sound.counts.receipts (λ k d l. (sound.receipts k d l).amount.1) in
    let deliveries = sum-small (λ delivery. delivery.amount) 1000000000 900 plant.deliveries sound.counts.deliveries (λ k d l. (sound.deliveries k d l).amount.1) in
    let first = below-most own 3147483648 n (λ k l. omega (arith, (sound.states k no_state l).initial)) in
    omega (arith, whole, both, come, gone, receipts, deliveries, first, sound.counts.states)

module _ (plant : Plant) (sound : Sound plant) (plan : List Start) (one : length plan ≤ 1) (small : All (SmallStart plant) plan) where
  task_sound : (start : Start) → SmallStart plant start → SoundTask plant (task_at plant start.task)
  task_sound start is = sound.tasks start.task no_task is.task

  given-small : (state time : ℕ) → All (λ start. given plant state time start ≤ 2 ^ 31) plan
  unfolding given
  given-small state time k d l =
      let start = get_or plan k d in
      let is = small k d l in
      let task = task_sound start is in
      let each = sum-small (λ output. if eqb output.state state && nat_le (start.period + output.delay) time then start.quanta * output.amount else 0) (255 * 2 ^ 20) 8 (task_at plant start.task).outputs task.outputs.1
      (λ j e m. if-small _ _ _ (mul-le-mul is.quanta (outputs_small plant (task_at plant start.task) task j e m))) in
      omega (arith, each)

  taken-small : (state time : ℕ) → All (λ start. taken plant state time start ≤ 2 ^ 31) plan
  unfolding taken
  taken-small state time k d l =
      let start = get_or plan k d in
      let is = small k d l in
      let task = task_sound start is in
      let each = sum-small (λ input. if eqb input.state state && nat_le start.period time then start.quanta * input.amount else 0) (255 * 2 ^ 20) 8 (task_at plant start.task).inputs task.inputs.1
      (λ j e m. if-small _ _ _ (mul-le-mul is.quanta (inputs_small plant (task_at plant start.task) task j e m))) in
      omega (arith, each)

  stock-small : (state time : ℕ) → unsigned_abs (stock plant plan state time) ≤ most_stock plant state
  unfolding stock inflow outflow
  stock-small state time =
      let come = received-most plant state time in
      let gone = delivered-most plant state time in
      let made = sum-small (given plant state time) (2 ^ 31) 1 plan one (given-small state time) in
      let used = sum-small (taken plant state time) (2 ^ 31) 1 plan one (taken-small state time) in
      omega (arith, ints, come, gone, made, used)

  drawn-small : (utility period : ℕ) → All (λ start. drawn plant utility period start ≤ 2 ^ 31) plan
  unfolding drawn
  drawn-small utility period k d l =
      let start = get_or plan k d in
      let is = small k d l in
      let task = task_sound start is in
      let each = sum-small (drawn_in utility start.quanta (period - start.period)) (1000000 + 255 * 1000000) 8 (task_at plant start.task).draws task.draws
      (λ j e m.
      let draw = get_or (task_at plant start.task).draws j e in
      let is2 = task.draw j e m in
      let fixed = index-small draw.fixed 1000000 (period - start.period) is2.fixed_small in
      let per = mul-le-mul is.quanta (index-small draw.each 1000000 (period - start.period) is2.each_small) in
      let both : slice_index draw.fixed (period - start.period) + start.quanta * slice_index draw.each (period - start.period) ≤ 1000000 + 255 * 1000000 = omega (arith, fixed, per) in
      if-small _ _ _ both) in
      let all : sum_by (drawn_in utility start.quanta (period - start.period)) (task_at plant start.task).draws ≤ 2 ^ 31 = omega (arith, each) in
      if-small _ _ _ all

  load-small : (utility period : ℕ) → load plant plan utility period ≤ 2 ^ 31
  unfolding load
  load-small utility period = let h = sum-small (drawn plant utility period) (2 ^ 31) 1 plan one (drawn-small utility period) in omega (arith, h)

  worth-small : unsigned_abs (end_value plant plan) ≤ 2400000000000000000
  unfolding end_value
  worth-small =
      let h = below-times (λ state. (state_at plant state).price *ℤ stock plant plan state plant.periods) 1000000 (most_stock plant) (length plant.states)
      (λ k l. times-small (state_at plant k).price (stock plant plan k plant.periods) 1000000 (most_stock plant k) (sound.states k no_state l).price (stock-small k plant.periods)) in
      omega (arith, h, all-stocks plant sound)

  holding-small : unsigned_abs (holding_cost plant plan) ≤ 806400000000000000000
  unfolding holding_cost
  holding-small =
      let inner : (state : ℕ) → state < length plant.states → unsigned_abs (total_below (λ time. (state_at plant state).holding *ℤ stock plant plan state time) plant.periods) ≤ 336000000 * most_stock plant state =
      λ state l.
      let most = 1000000 * most_stock plant state in
      let h = below-small (λ time. (state_at plant state).holding *ℤ stock plant plan state time) most plant.periods
      (λ time m. times-small (state_at plant state).holding (stock plant plan state time) 1000000 (most_stock plant state) (sound.states state no_state l).holding (stock-small state time)) in
      let n : plant.periods * most ≤ 336 * most = mul-le-mul sound.counts.periods.1 (le_refl most) in
      omega (arith, le_trans h n) in
      let h = below-times (λ state. total_below (λ time. (state_at plant state).holding *ℤ stock plant plan state time) plant.periods) 336000000 (most_stock plant) (length plant.states) inner in
      omega (arith, h, all-stocks plant sound)

  utility-small : unsigned_abs (utility_cost plant plan) ≤ 48000000000000000000
  unfolding utility_cost
  utility-small =
      let inner : (utility : ℕ) → utility < length plant.utilities → unsigned_abs (total_below (λ period. rate_in (utility_at plant utility) period *ℤ pos (load plant plan utility period)) plant.periods) ≤ 336 * (1000000 * 2 ^ 31) =
      λ utility l.
      let h = below-small (λ period. rate_in (utility_at plant utility) period *ℤ pos (load plant plan utility period)) (1000000 * 2 ^ 31) plant.periods
      (λ period m. times-small (rate_in (utility_at plant utility) period) (pos (load plant plan utility period)) 1000000 (2 ^ 31) (rate_small plant sound utility period l) (load-small utility period)) in
      let n : plant.periods * (1000000 * 2 ^ 31) ≤ 336 * (1000000 * 2 ^ 31) = mul-le-mul sound.counts.periods.1 (le_refl _) in
      omega (arith, h, n) in
      let h = below-small (λ utility. total_below (λ period. rate_in (utility_at plant utility) period *ℤ pos (load plant plan utility period)) plant.periods) (336 * (1000000 * 2 ^ 31)) (length plant.utilities) inner in
      let n : length plant.utilities * (336 * (1000000 * 2 ^ 31)) ≤ 64 * (336 * (1000000 * 2 ^ 31)) = mul-le-mul sound.counts.utilities (le_refl _) in
      omega (arith, h, n)

  start-small : unsigned_abs (start_cost plant plan) ≤ 2 ^ 20
  unfolding start_cost
  start-small =
      let h = total-small (λ start. cost_of (run_on plant start.task start.unit)) (2 ^ 20) plan
      (λ k d l. cost-small (run_on plant (get_or plan k d).task (get_or plan k d).unit) (run_costs_small plant sound (get_or plan k d).task (get_or plan k d).unit)) in
      let n : length plan * 2 ^ 20 ≤ 1 * 2 ^ 20 = mul-le-mul one (le_refl _) in
      omega (arith, h, n)
    where
      cost-small : (o : Option Run) → IfSome o (λ run. unsigned_abs run.cost ≤ 2 ^ 20) → unsigned_abs (cost_of o) ≤ 2 ^ 20
      cost-small None h = omega arith
      cost-small (Some run) h = h

  payments-small : unsigned_abs (payments plant) ≤ 2 ^ 40
  unfolding payments
  payments-small =
      let h = total-small (λ delivery. delivery.payment) 1000000000 plant.deliveries (λ k d l. (sound.deliveries k d l).payment) in
      let n : length plant.deliveries * 1000000000 ≤ 900 * 1000000000 = mul-le-mul sound.counts.deliveries (le_refl _) in
      omega (arith, h, n)

-- no changeover costs anything where there is no start
pub change_costs-nil : (plant : Plant) → change_costs plant [] ≡ 0
unfolding change_costs
change_costs-nil plant = refl

-- the profit of the empty plan
pub idle-small : (plant : Plant) → Sound plant → unsigned_abs (profit plant []) ≤ 10000000000000000000000
unfolding profit
idle-small plant sound =
    let small = All-nil (SmallStart plant) in
    omega (
      arith,
      ints,
      worth-small plant sound [] (omega arith) small,
      holding-small plant sound [] (omega arith) small,
      utility-small plant sound [] (omega arith) small,
      start-small plant sound [] (omega arith) small,
      payments-small plant sound [] (omega arith) small,
      change_costs-nil plant,
    )
