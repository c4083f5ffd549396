-- What a start in a slot gains: its fixed part, and its part for each quantum.
use Rattle.std.proofs.Common.{◌≡◌, ℕ, zero, suc, ◌+◌, ◌-◌, ◌*◌, ◌<◌, ◌≤◌, ◌==◌, ◌&&◌, nat_le, nat_lt, min, Bool, true, false, cond, List, [], ◌∷◌, length, get_or, sum_by, slice_index, sym, refl, ap, ap₂, ◌∙◌, arith, ℤ, pos, ◌+ℤ◌, ◌-ℤ◌, ◌*ℤ◌}
use Rattle.std.specs.List.{All}
use Rattle.std.proofs.lemmas.Int.{ints}
use Rattle.std.proofs.Math.IntN.{*ℤ-zero, zero-*ℤ}
use Rattle.std.proofs.lemmas.Bool.{cond-true, le-leb, leb-true}
use Rattle.stn_model.specs.declared.plant.Plant.{Plant}
use Rattle.stn_model.specs.declared.plant.Task.{Task}
use Rattle.stn_model.specs.declared.plant.Input.{Input}
use Rattle.stn_model.specs.declared.plant.Output.{Output}
use Rattle.stn_model.specs.declared.plant.Draw.{Draw}
use Rattle.stn_model.specs.declared.start.Start.{Start}
use Rattle.stn_model.specs.Plant.{state_at, utility_at, rate_in, task_at, no_task, duration_of, run_on, end_of, no_run, run_at}
use Rattle.stn_model.specs.Stock.{given, taken, inflow, outflow, stock}
use Rattle.stn_model.specs.Load.{drawn_in, drawn, load}
use Rattle.stn_model.specs.Points.{has_slot, least_start}
use Rattle.stn_model.specs.Sums.{total, total_below}
use Rattle.stn_model.specs.Profit.{end_value, holding_cost, utility_cost, cost_of, start_cost, profit}
use Rattle.stn_model.specs.Sound.{Sound, SoundTask}
use Rattle.plain_plan.proofs.SmallProfit.{change_costs-nil}
use Rattle.plain_plan.proofs.Linear.{gain_alone}
use Rattle.time_grid.specs.Slots.{IsSlotOf}
use Rattle.time_grid.specs.PlanPoint.{start_in}
use Rattle.time_grid.proofs.SlotList.{sum_by-same}
use Rattle.time_grid.proofs.PointPlan.{found_run}
use Rattle.row_set.specs.ProfitParts.{worth_from, output_worth, input_worth, cost_from, fixed_cost, each_cost, fixed_profit, each_profit}
use Rattle.row_set.proofs.Signed.{times-add, times-sub, times-plus, parts-worth, quanta-parts, quanta-price, scale-add, scale-sub, total-scale}
use Rattle.stn_model.proofs.Totals.{total_below-agree}
use Rattle.stn_model.proofs.Fitting.{delay-within, fit_parts}
use Rattle.row_set.proofs.Below.{total-agree, below-add, below-sub, total-add, total-sub, below-zero, below-turn, below-total, by_items, below-from, below-window}

both-tests : (a b : Bool) (n : ℕ) → cond (a && b) n 0 ≡ cond a (cond b n 0) 0
both-tests true b n = refl
both-tests false b n = refl

-- things that move in or out of states: each of a state, from a time on, of an amount for each quantum
module _ {X : Type 0} (key from amount : X → ℕ) (v : ℕ) where
  moved : ℕ → ℕ → List X → ℕ
  moved s t xs = sum_by (λ x. cond (key x == s && nat_le (from x) t) (v * amount x) 0) xs

  moved-by_state : (s t : ℕ) (xs : List X) → moved s t xs ≡ sum_by (λ x. cond (key x == s) (cond (nat_le (from x) t) (v * amount x) 0) 0) xs
  unfolding moved
  moved-by_state s t xs =
      sum_by-same (λ x. cond (key x == s && nat_le (from x) t) (v * amount x) 0) (λ x. cond (key x == s) (cond (nat_le (from x) t) (v * amount x) 0) 0)
      (λ x. both-tests (key x == s) (nat_le (from x) t) (v * amount x)) xs

  at_time : (c : ℕ → ℤ) (t m : ℕ) (xs : List X) → All (λ x. key x < m) xs →
      total_below (λ s. c s *ℤ pos (moved s t xs)) m ≡ total (λ x. c (key x) *ℤ pos (cond (nat_le (from x) t) (v * amount x) 0)) xs
  at_time c t m xs there =
      total_below-agree (λ s. c s *ℤ pos (moved s t xs)) (λ s. c s *ℤ pos (sum_by (λ x. cond (key x == s) (cond (nat_le (from x) t) (v * amount x) 0) 0) xs)) m
      (λ s l. ap (λ n. c s *ℤ pos n) (moved-by_state s t xs))
      ∙ by_items c key (λ x. cond (nat_le (from x) t) (v * amount x) 0) xs m there

  -- all that has moved by a time by which each has
  by_end : (c : ℕ → ℤ) (t m : ℕ) (xs : List X) → All (λ x. key x < m) xs → All (λ x. from x ≤ t) xs →
      total_below (λ s. c s *ℤ pos (moved s t xs)) m ≡ total (λ x. c (key x) *ℤ pos (v * amount x)) xs
  by_end c t m xs there before =
      at_time c t m xs there
      ∙ total-agree (λ x. c (key x) *ℤ pos (cond (nat_le (from x) t) (v * amount x) 0)) (λ x. c (key x) *ℤ pos (v * amount x)) xs
      (λ k d l. ap (λ n. c (key (get_or xs k d)) *ℤ pos n) (cond-true {A = ℕ} (nat_le (from (get_or xs k d)) t) (v * amount (get_or xs k d)) 0 (le-leb (from (get_or xs k d)) t (before k d l))))

  -- what has moved by each of the first times, together
  at_times : (c : ℕ → ℤ) (n m : ℕ) (xs : List X) → All (λ x. key x < m) xs →
      total_below (λ s. total_below (λ t. c s *ℤ pos (moved s t xs)) n) m ≡ total (λ x. c (key x) *ℤ pos ((v * amount x) * (n - from x))) xs
  at_times c n m xs there =
      below-turn (λ s t. c s *ℤ pos (moved s t xs)) m n
      ∙ total_below-agree (λ t. total_below (λ s. c s *ℤ pos (moved s t xs)) m) (λ t. total (λ x. c (key x) *ℤ pos (cond (nat_le (from x) t) (v * amount x) 0)) xs) n (λ t l. at_time c t m xs there)
      ∙ below-total (λ t x. c (key x) *ℤ pos (cond (nat_le (from x) t) (v * amount x) 0)) xs n
      ∙ total-agree (λ x. total_below (λ t. c (key x) *ℤ pos (cond (nat_le (from x) t) (v * amount x) 0)) n) (λ x. c (key x) *ℤ pos ((v * amount x) * (n - from x))) xs
      (λ k d l. below-from (c (key (get_or xs k d))) (v * amount (get_or xs k d)) (from (get_or xs k d)) n)

  -- what they are worth, by their prices and by what they cost to hold, is what a quantum is worth, v times
  worth-parts : (p h : ℕ → ℤ) (n : ℕ) (xs : List X) →
      total (λ x. pos (amount x) *ℤ (p (key x) -ℤ (h (key x) *ℤ pos (n - from x)))) xs *ℤ pos v
      ≡ total (λ x. p (key x) *ℤ pos (v * amount x)) xs -ℤ total (λ x. h (key x) *ℤ pos ((v * amount x) * (n - from x))) xs
  worth-parts p h n xs =
      total-scale (λ x. pos (amount x) *ℤ (p (key x) -ℤ (h (key x) *ℤ pos (n - from x)))) (pos v) xs
      ∙ total-agree (λ x. (pos (amount x) *ℤ (p (key x) -ℤ (h (key x) *ℤ pos (n - from x)))) *ℤ pos v) (λ x. (p (key x) *ℤ pos (v * amount x)) -ℤ (h (key x) *ℤ pos ((v * amount x) * (n - from x)))) xs
      (λ k d l.
      let x = get_or xs k d in
      sym (quanta-parts v (amount x) (p (key x) -ℤ (h (key x) *ℤ pos (n - from x)))) ∙ parts-worth (v * amount x) (n - from x) (p (key x)) (h (key x)))
      ∙ total-sub (λ x. p (key x) *ℤ pos (v * amount x)) (λ x. h (key x) *ℤ pos ((v * amount x) * (n - from x))) xs

-- a stock with one batch
stock-one : (plant : Plant) (a : Start) (s t : ℕ) → stock plant (a ∷ []) s t ≡ stock plant [] s t +ℤ (pos (given plant s t a) -ℤ pos (taken plant s t a))
unfolding stock inflow outflow
stock-one plant a s t = omega (arith, ints)

load-one : (plant : Plant) (a : Start) (u t : ℕ) → load plant (a ∷ []) u t ≡ drawn plant u t a
unfolding load
load-one plant a u t = omega arith

load-none : (plant : Plant) (u t : ℕ) → load plant [] u t ≡ 0
unfolding load
load-none plant u t = refl

-- a product with a stock of one batch more
priced : (c x g k : ℤ) → c *ℤ (x +ℤ (g -ℤ k)) ≡ (c *ℤ x) +ℤ ((c *ℤ g) -ℤ (c *ℤ k))
priced c x g k = times-add c x (g -ℤ k) ∙ ap (λ y. (c *ℤ x) +ℤ y) (times-sub c g k)

-- the sum of stocks, each with its price, with one batch more
stocks-one : (plant : Plant) (a : Start) (c : ℕ → ℤ) (t n : ℕ) →
    total_below (λ s. c s *ℤ stock plant (a ∷ []) s t) n
    ≡ total_below (λ s. c s *ℤ stock plant [] s t) n +ℤ (total_below (λ s. c s *ℤ pos (given plant s t a)) n -ℤ total_below (λ s. c s *ℤ pos (taken plant s t a)) n)
stocks-one plant a c t n =
    total_below-agree (λ s. c s *ℤ stock plant (a ∷ []) s t) (λ s. (c s *ℤ stock plant [] s t) +ℤ ((c s *ℤ pos (given plant s t a)) -ℤ (c s *ℤ pos (taken plant s t a)))) n
    (λ s l. ap (λ x. c s *ℤ x) (stock-one plant a s t) ∙ priced (c s) (stock plant [] s t) (pos (given plant s t a)) (pos (taken plant s t a)))
    ∙ below-add (λ s. c s *ℤ stock plant [] s t) (λ s. (c s *ℤ pos (given plant s t a)) -ℤ (c s *ℤ pos (taken plant s t a))) n
    ∙ ap (λ x. total_below (λ s. c s *ℤ stock plant [] s t) n +ℤ x) (below-sub (λ s. c s *ℤ pos (given plant s t a)) (λ s. c s *ℤ pos (taken plant s t a)) n)

-- the holding of stocks, with one batch more
holding-one : (plant : Plant) (a : Start) (c : ℕ → ℤ) (n m : ℕ) →
    total_below (λ s. total_below (λ t. c s *ℤ stock plant (a ∷ []) s t) n) m
    ≡ total_below (λ s. total_below (λ t. c s *ℤ stock plant [] s t) n) m
    +ℤ (total_below (λ s. total_below (λ t. c s *ℤ pos (given plant s t a)) n) m -ℤ total_below (λ s. total_below (λ t. c s *ℤ pos (taken plant s t a)) n) m)
holding-one plant a c n m =
    let none : ℕ → ℤ = λ t. total_below (λ s. c s *ℤ stock plant [] s t) m in
    let come : ℕ → ℤ = λ t. total_below (λ s. c s *ℤ pos (given plant s t a)) m in
    let gone : ℕ → ℤ = λ t. total_below (λ s. c s *ℤ pos (taken plant s t a)) m in
    below-turn (λ s t. c s *ℤ stock plant (a ∷ []) s t) m n
    ∙ total_below-agree (λ t. total_below (λ s. c s *ℤ stock plant (a ∷ []) s t) m) (λ t. none t +ℤ (come t -ℤ gone t)) n (λ t l. stocks-one plant a c t m)
    ∙ below-add none (λ t. come t -ℤ gone t) n
    ∙ ap₂ (λ x y. x +ℤ y) (sym (below-turn (λ s t. c s *ℤ stock plant [] s t) m n))
    (below-sub come gone n ∙ ap₂ (λ x y. x -ℤ y) (sym (below-turn (λ s t. c s *ℤ pos (given plant s t a)) m n)) (sym (below-turn (λ s t. c s *ℤ pos (taken plant s t a)) m n)))

-- the task of a slot
abbrev pub task_in : Plant → ℕ × ℕ → Task
task_in plant slot = task_at plant (run_at plant slot.0).task

abbrev price_of : Plant → ℕ → ℤ
price_of plant s = (state_at plant s).price

abbrev holding_of : Plant → ℕ → ℤ
holding_of plant s = (state_at plant s).holding

abbrev rate_of : Plant → ℕ → ℕ → ℤ
rate_of plant t u = rate_in (utility_at plant u) t

-- what a slot's batch gives and takes, as things that move
given-moved : (plant : Plant) (slot : ℕ × ℕ) (v s t : ℕ) → given plant s t (start_in plant slot v) ≡ moved (λ (o : Output). o.state) (λ (o : Output). slot.1 + o.delay) (λ (o : Output). o.amount) v s t (task_in plant slot).outputs
unfolding given moved
given-moved plant slot v s t = refl

taken-moved : (plant : Plant) (slot : ℕ × ℕ) (v s t : ℕ) → taken plant s t (start_in plant slot v) ≡ moved (λ (i : Input). i.state) (λ (i : Input). slot.1) (λ (i : Input). i.amount) v s t (task_in plant slot).inputs
unfolding taken moved
taken-moved plant slot v s t = refl

-- a slot's batch ends by the horizon, and so do its outputs
pub record EndsBy (plant : Plant) (slot : ℕ × ℕ) : Type 0 where
  pub ends : slot.1 + duration_of (task_in plant slot) ≤ plant.periods
  pub outputs : All (λ output. slot.1 + output.delay ≤ plant.periods) (task_in plant slot).outputs

pub ends_by : (plant : Plant) (slot : ℕ × ℕ) → IsSlotOf plant slot → EndsBy plant slot
unfolding has_slot end_of
ends_by plant slot is =
    let ends : slot.1 + duration_of (task_in plant slot) ≤ plant.periods = (fit_parts plant (least_start (run_at plant slot.0) slot.1) is.has).ends in
    record {
      ends = ends;
      outputs = λ k d l. let h = delay-within (task_in plant slot) k d l in omega (arith, h, ends);
    }

-- a sum of which all terms are there where a test holds, and else none
let_in : (b : Bool) (c : ℕ → ℤ) (g : ℕ → ℕ) (n : ℕ) (x : ℤ) → (b ≡ true → total_below (λ u. c u *ℤ pos (g u)) n ≡ x) → total_below (λ u. c u *ℤ pos (cond b (g u) 0)) n ≡ cond b x (pos 0)
let_in true c g n x e = e refl
let_in false c g n x e = total_below-agree (λ u. c u *ℤ pos 0) (λ u. pos 0) n (λ u l. *ℤ-zero (c u)) ∙ below-zero n

first_true : (a b : Bool) → (a && b) ≡ true → a ≡ true
first_true true b h = refl
first_true false b h = h

-- at a price for each place, a fixed part and a part for each quantum cost what the fixed part costs, and what the other costs for each
prices-split : (r : ℕ → ℤ) (f g : ℕ → ℕ) (v n : ℕ) →
    total_below (λ k. r k *ℤ pos (f k + v * g k)) n ≡ total_below (λ k. r k *ℤ pos (f k)) n +ℤ (total_below (λ k. r k *ℤ pos (g k)) n *ℤ pos v)
prices-split r f g v zero = omega (arith, ints, zero-*ℤ (pos v))
prices-split r f g v (suc n) =
    let before = prices-split r f g v n in
    let last = times-plus (r n) (f n) (v * g n) ∙ ap (λ x. (r n *ℤ pos (f n)) +ℤ x) (quanta-price v (g n) (r n)) in
    let both = scale-add (total_below (λ k. r k *ℤ pos (g k)) n) (r n *ℤ pos (g n)) (pos v) in
    omega (arith, ints, before, last, both)

-- the sums that a slot's batch adds to the parts of the profit
module _ (plant : Plant) (sound : Sound plant) (slot : ℕ × ℕ) (is : IsSlotOf plant slot) (v : ℕ) where
  batch : Start
  batch = start_in plant slot v

  fine : SoundTask plant (task_in plant slot)
  fine = sound.tasks (run_at plant slot.0).task no_task (sound.runs slot.0 no_run is.run).task

  prices_out : ℤ
  prices_out = total (λ o. price_of plant o.state *ℤ pos (v * o.amount)) (task_in plant slot).outputs

  prices_in : ℤ
  prices_in = total (λ i. price_of plant i.state *ℤ pos (v * i.amount)) (task_in plant slot).inputs

  holds_out : ℤ
  holds_out = total (λ o. holding_of plant o.state *ℤ pos ((v * o.amount) * (plant.periods - (slot.1 + o.delay)))) (task_in plant slot).outputs

  holds_in : ℤ
  holds_in = total (λ i. holding_of plant i.state *ℤ pos ((v * i.amount) * (plant.periods - slot.1))) (task_in plant slot).inputs

  end_value-one : end_value plant (batch ∷ []) ≡ end_value plant [] +ℤ (prices_out -ℤ prices_in)
  unfolding end_value batch prices_out prices_in
  end_value-one =
      let n = length plant.states in
      stocks-one plant (start_in plant slot v) (price_of plant) plant.periods n
      ∙ ap (λ x. end_value plant [] +ℤ x) (ap₂ (λ x y. x -ℤ y)
      (total_below-agree (λ s. price_of plant s *ℤ pos (given plant s plant.periods (start_in plant slot v)))
      (λ s. price_of plant s *ℤ pos (moved (λ (o : Output). o.state) (λ (o : Output). slot.1 + o.delay) (λ (o : Output). o.amount) v s plant.periods (task_in plant slot).outputs)) n
      (λ s l. ap (λ k. price_of plant s *ℤ pos k) (given-moved plant slot v s plant.periods))
      ∙ by_end (λ (o : Output). o.state) (λ (o : Output). slot.1 + o.delay) (λ (o : Output). o.amount) v (price_of plant) plant.periods n (task_in plant slot).outputs
      (λ k d l. (fine.output k d l).state) (ends_by plant slot is).outputs)
      (total_below-agree (λ s. price_of plant s *ℤ pos (taken plant s plant.periods (start_in plant slot v)))
      (λ s. price_of plant s *ℤ pos (moved (λ (i : Input). i.state) (λ (i : Input). slot.1) (λ (i : Input). i.amount) v s plant.periods (task_in plant slot).inputs)) n
      (λ s l. ap (λ k. price_of plant s *ℤ pos k) (taken-moved plant slot v s plant.periods))
      ∙ by_end (λ (i : Input). i.state) (λ (i : Input). slot.1) (λ (i : Input). i.amount) v (price_of plant) plant.periods n (task_in plant slot).inputs
      (λ k d l. (fine.input k d l).state) (λ k d l. let h = is.period in omega (arith, h))))

  holding_cost-one : holding_cost plant (batch ∷ []) ≡ holding_cost plant [] +ℤ (holds_out -ℤ holds_in)
  unfolding holding_cost batch holds_out holds_in
  holding_cost-one =
      let n = length plant.states in
      holding-one plant (start_in plant slot v) (holding_of plant) plant.periods n
      ∙ ap (λ x. holding_cost plant [] +ℤ x) (ap₂ (λ x y. x -ℤ y)
      (total_below-agree (λ s. total_below (λ t. holding_of plant s *ℤ pos (given plant s t (start_in plant slot v))) plant.periods)
      (λ s. total_below (λ t. holding_of plant s *ℤ pos (moved (λ (o : Output). o.state) (λ (o : Output). slot.1 + o.delay) (λ (o : Output). o.amount) v s t (task_in plant slot).outputs)) plant.periods) n
      (λ s l. total_below-agree (λ t. holding_of plant s *ℤ pos (given plant s t (start_in plant slot v)))
      (λ t. holding_of plant s *ℤ pos (moved (λ (o : Output). o.state) (λ (o : Output). slot.1 + o.delay) (λ (o : Output). o.amount) v s t (task_in plant slot).outputs)) plant.periods
      (λ t m. ap (λ k. holding_of plant s *ℤ pos k) (given-moved plant slot v s t)))
      ∙ at_times (λ (o : Output). o.state) (λ (o : Output). slot.1 + o.delay) (λ (o : Output). o.amount) v (holding_of plant) plant.periods n (task_in plant slot).outputs (λ k d l. (fine.output k d l).state))
      (total_below-agree (λ s. total_below (λ t. holding_of plant s *ℤ pos (taken plant s t (start_in plant slot v))) plant.periods)
      (λ s. total_below (λ t. holding_of plant s *ℤ pos (moved (λ (i : Input). i.state) (λ (i : Input). slot.1) (λ (i : Input). i.amount) v s t (task_in plant slot).inputs)) plant.periods) n
      (λ s l. total_below-agree (λ t. holding_of plant s *ℤ pos (taken plant s t (start_in plant slot v)))
      (λ t. holding_of plant s *ℤ pos (moved (λ (i : Input). i.state) (λ (i : Input). slot.1) (λ (i : Input). i.amount) v s t (task_in plant slot).inputs)) plant.periods
      (λ t m. ap (λ k. holding_of plant s *ℤ pos k) (taken-moved plant slot v s t)))
      ∙ at_times (λ (i : Input). i.state) (λ (i : Input). slot.1) (λ (i : Input). i.amount) v (holding_of plant) plant.periods n (task_in plant slot).inputs (λ k d l. (fine.input k d l).state)))

  -- what the outputs and the inputs are worth
  outputs-worth : total (output_worth plant slot.1) (task_in plant slot).outputs *ℤ pos v ≡ prices_out -ℤ holds_out
  unfolding worth_from prices_out holds_out
  outputs-worth = worth-parts (λ (o : Output). o.state) (λ (o : Output). slot.1 + o.delay) (λ (o : Output). o.amount) v (price_of plant) (holding_of plant) plant.periods (task_in plant slot).outputs

  inputs-worth : total (input_worth plant slot.1) (task_in plant slot).inputs *ℤ pos v ≡ prices_in -ℤ holds_in
  unfolding worth_from prices_in holds_in
  inputs-worth = worth-parts (λ (i : Input). i.state) (λ (i : Input). slot.1) (λ (i : Input). i.amount) v (price_of plant) (holding_of plant) plant.periods (task_in plant slot).inputs

  -- what a draw takes in a period of the batch, at the rate of that period
  drawn_at : ℕ → Draw → ℤ
  drawn_at k draw = rate_of plant (slot.1 + k) draw.utility *ℤ pos (slice_index draw.fixed k + v * slice_index draw.each k)

  draws-at : (k : ℕ) → total_below (λ u. rate_of plant (slot.1 + k) u *ℤ pos (sum_by (drawn_in u v k) (task_in plant slot).draws)) (length plant.utilities) ≡ total (drawn_at k) (task_in plant slot).draws
  unfolding drawn_at
  draws-at k = by_items (rate_of plant (slot.1 + k)) (λ (d : Draw). d.utility) (λ (d : Draw). slice_index d.fixed k + v * slice_index d.each k) (task_in plant slot).draws (length plant.utilities) (λ j d l. (fine.draw j d l).utility)

  -- the same in a period in which the batch runs
  draws-in : (t : ℕ) → slot.1 ≤ t → total_below (λ u. rate_of plant t u *ℤ pos (sum_by (drawn_in u v (t - slot.1)) (task_in plant slot).draws)) (length plant.utilities) ≡ total (drawn_at (t - slot.1)) (task_in plant slot).draws
  draws-in t h =
      let same : t ≡ slot.1 + (t - slot.1) = omega arith in
      ap (λ p. total_below (λ u. rate_of plant p u *ℤ pos (sum_by (drawn_in u v (t - slot.1)) (task_in plant slot).draws)) (length plant.utilities)) same ∙ draws-at (t - slot.1)

  -- what a draw costs over all periods of the batch
  draw-cost : All (λ draw. total_below (λ k. drawn_at k draw) (duration_of (task_in plant slot)) ≡ fixed_cost plant slot.1 draw +ℤ (each_cost plant slot.1 draw *ℤ pos v)) (task_in plant slot).draws
  unfolding drawn_at cost_from
  draw-cost j d l =
      let draw = get_or (task_in plant slot).draws j d in
      let rate : ℕ → ℤ = λ k. rate_of plant (slot.1 + k) draw.utility in
      prices-split rate (λ k. slice_index draw.fixed k) (λ k. slice_index draw.each k) v (duration_of (task_in plant slot))
      ∙ ap₂ (λ m n. total_below (λ k. rate k *ℤ pos (slice_index draw.fixed k)) m +ℤ (total_below (λ k. rate k *ℤ pos (slice_index draw.each k)) n *ℤ pos v))
      (sym (fine.draw j d l).fixed) (sym (fine.draw j d l).each)

  utility_cost-one : utility_cost plant (batch ∷ []) ≡ total (fixed_cost plant slot.1) (task_in plant slot).draws +ℤ (total (each_cost plant slot.1) (task_in plant slot).draws *ℤ pos v)
  unfolding utility_cost batch drawn end_of
  utility_cost-one =
      let n = length plant.utilities in
      let draws = (task_in plant slot).draws in
      let long = duration_of (task_in plant slot) in
      let runs : ℕ → Bool = λ t. nat_le slot.1 t && nat_lt t (slot.1 + long) in
      let all : ℕ → ℤ = λ k. total (drawn_at k) draws in
      let whole : min (plant.periods - slot.1) long ≡ long = let h = (ends_by plant slot is).ends in omega (arith, h) in
      below-turn (λ u t. rate_of plant t u *ℤ pos (load plant (start_in plant slot v ∷ []) u t)) n plant.periods
      ∙ total_below-agree (λ t. total_below (λ u. rate_of plant t u *ℤ pos (load plant (start_in plant slot v ∷ []) u t)) n) (λ t. cond (runs t) (all (t - slot.1)) (pos 0)) plant.periods
      (λ t l.
      total_below-agree (λ u. rate_of plant t u *ℤ pos (load plant (start_in plant slot v ∷ []) u t)) (λ u. rate_of plant t u *ℤ pos (cond (runs t) (sum_by (drawn_in u v (t - slot.1)) draws) 0)) n
      (λ u m. ap (λ k. rate_of plant t u *ℤ pos k) (load-one plant (start_in plant slot v) u t))
      ∙ let_in (runs t) (rate_of plant t) (λ u. sum_by (drawn_in u v (t - slot.1)) draws) n (all (t - slot.1))
      (λ h. draws-in t (leb-true slot.1 t (first_true (nat_le slot.1 t) (nat_lt t (slot.1 + long)) h))))
      ∙ below-window all slot.1 long plant.periods
      ∙ ap (total_below all) whole
      ∙ below-total drawn_at draws long
      ∙ total-agree (λ draw. total_below (λ k. drawn_at k draw) long) (λ draw. fixed_cost plant slot.1 draw +ℤ (each_cost plant slot.1 draw *ℤ pos v)) draws draw-cost
      ∙ total-add (fixed_cost plant slot.1) (λ draw. each_cost plant slot.1 draw *ℤ pos v) draws
      ∙ ap (λ x. total (fixed_cost plant slot.1) draws +ℤ x) (sym (total-scale (each_cost plant slot.1) (pos v) draws))

  utility_cost-none : utility_cost plant [] ≡ pos 0
  unfolding utility_cost
  utility_cost-none =
      total_below-agree (λ u. total_below (λ t. rate_of plant t u *ℤ pos (load plant [] u t)) plant.periods) (λ u. pos 0) (length plant.utilities)
      (λ u l. total_below-agree (λ t. rate_of plant t u *ℤ pos (load plant [] u t)) (λ t. pos 0) plant.periods
      (λ t m. ap (λ k. rate_of plant t u *ℤ pos k) (load-none plant u t) ∙ *ℤ-zero (rate_of plant t u)) ∙ below-zero plant.periods)
      ∙ below-zero (length plant.utilities)

  start_cost-one : start_cost plant (batch ∷ []) ≡ (run_at plant slot.0).cost
  unfolding start_cost batch
  start_cost-one =
      let found : cost_of (run_on plant (run_at plant slot.0).task (run_at plant slot.0).unit) ≡ (run_at plant slot.0).cost = ap cost_of (found_run plant slot.0 sound is.run) in
      omega (arith, ints, found)

  start_cost-none : start_cost plant [] ≡ pos 0
  unfolding start_cost
  start_cost-none = refl

  -- a start in the slot gains its fixed part, and its part for each quantum
  pub gain-parts : fixed_profit plant slot +ℤ (each_profit plant slot *ℤ pos v) ≡ gain_alone plant (start_in plant slot v)
  unfolding batch fixed_profit each_profit profit
  gain-parts =
      let outs : ℤ = total (output_worth plant slot.1) (task_in plant slot).outputs in
      let ins : ℤ = total (input_worth plant slot.1) (task_in plant slot).inputs in
      let each : ℤ = total (each_cost plant slot.1) (task_in plant slot).draws in
      let split : ((outs -ℤ ins) -ℤ each) *ℤ pos v ≡ ((outs *ℤ pos v) -ℤ (ins *ℤ pos v)) -ℤ (each *ℤ pos v) =
      scale-sub (outs -ℤ ins) each (pos v) ∙ ap (λ x. x -ℤ (each *ℤ pos v)) (scale-sub outs ins (pos v)) in
      omega (
        arith,
        ints,
        split,
        outputs-worth,
        inputs-worth,
        end_value-one,
        holding_cost-one,
        utility_cost-one,
        utility_cost-none,
        start_cost-one,
        start_cost-none,
        change_costs-nil plant,
      )
