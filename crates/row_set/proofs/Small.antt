-- How large prices, amounts and profits are.
use Rattle.std.proofs.Common.{◌≡◌, ℕ, zero, suc, ◌+◌, ◌-◌, ◌*◌, ◌<◌, ◌≤◌, ◌^◌, List, [], ◌∷◌, length, get_or, take, slice_index, sum_by, sym, ap, ap₂, ◌∙◌, subst, arith, ℤ, pos, ◌+ℤ◌, ◌-ℤ◌, ◌*ℤ◌, unsigned_abs, FitsSigned, to_z, of_z, mul-le-mul, le_refl}
use Rattle.std.specs.List.{All}
use Rattle.std.proofs.lemmas.Int.{ints, to_z-of_z, to_z_pos, fits_signed_from_abs}
use mir.Syntax.{w64}
use Rattle.std.proofs.lemmas.List.Elements.{All-head, All-tail, All-take}
use Rattle.std.proofs.lemmas.List.Sums.{sum_by-cons, sum_by-le, sum_by-take-le}
use Rattle.stn_model.specs.declared.plant.Plant.{Plant}
use Rattle.stn_model.specs.declared.plant.Task.{Task}
use Rattle.stn_model.specs.declared.plant.Output.{Output}
use Rattle.stn_model.specs.declared.plant.Draw.{Draw}
use Rattle.stn_model.specs.declared.plant.State.{State}
use Rattle.stn_model.specs.Plant.{state_at, no_state, utility_at, rate_in, task_at, no_task, duration_of, no_run, run_at}
use Rattle.stn_model.specs.Sums.{total, total_below, greatest_by}
use Rattle.stn_model.specs.Sound.{Sound, SoundTask}
use Rattle.plain_plan.proofs.SmallProfit.{times-small}
use Rattle.stn_model.proofs.Totals.{total_more}
use Rattle.stn_model.proofs.Small.{rate_small}
use Rattle.stn_model.proofs.Fitting.{delay-within}
use Rattle.row_set.proofs.GainParts.{task_in}
use Rattle.row_kit.proofs.Gathered.{IsPartWithin}
use Rattle.time_grid.specs.Slots.{IsSlotOf}
use Rattle.std.proofs.Math.Seq.{take-length}
use Rattle.std.proofs.lemmas.List.{get_or_default}
use Rattle.stn_model.specs.declared.plant.Run.{Run}
use Rattle.row_set.specs.ProfitParts.{worth_from, output_worth, input_worth, cost_from, fixed_cost, each_cost, fixed_profit, each_profit, profit_part}

pub amount-small : (a : ℕ) (w : ℤ) → unsigned_abs w ≤ 337000000 → unsigned_abs (pos a *ℤ w) ≤ a * 337000000
amount-small a w h = times-small (pos a) w a 337000000 (omega arith) h

-- a sum whose terms are bounded by multiples of what adds up to no more than a whole
pub total-weighted : {X : Type 0} (f : X → ℤ) (n : X → ℕ) (m : ℕ) (xs : List X) → All (λ x. unsigned_abs (f x) ≤ n x * m) xs → unsigned_abs (total f xs) ≤ sum_by n xs * m
total-weighted f n m [] h = omega arith
total-weighted f n m (x ∷ xs) h =
    let here = All-head (λ y. unsigned_abs (f y) ≤ n y * m) x xs h in
    let rest = total-weighted f n m xs (All-tail (λ y. unsigned_abs (f y) ≤ n y * m) x xs h) in
    let all = sum_by-cons n x xs in
    let split : (n x + sum_by n xs) * m ≡ n x * m + sum_by n xs * m = omega arith in
    omega (arith, ints, here, rest, ap (λ k. k * m) all, split)

-- a task's batch takes 96 periods at most
pub duration-small : (plant : Plant) (task : Task) → SoundTask plant task → duration_of task ≤ 96
unfolding duration_of
duration-small plant task fine = most task.outputs (λ k d l. (fine.output k d l).delay.1)
  where
    most : (outputs : List Output) → All (λ output. output.delay ≤ 96) outputs → greatest_by (λ output. output.delay) outputs ≤ 96
    most [] h = omega arith
    most (output ∷ outputs) h =
        let here = All-head (λ o. o.delay ≤ 96) output outputs h in
        let rest = most outputs (All-tail (λ o. o.delay ≤ 96) output outputs h) in
        omega (arith, here, rest)

-- what the machine makes of small numbers
machine : (x : ℤ) → unsigned_abs x < 2 ^ 63 → to_z w64 (of_z w64 x) ≡ x
machine x h = to_z-of_z w64 x (fits_signed_from_abs w64 x (omega arith))

pub machine-sub : (x y : ℤ) → unsigned_abs x ≤ 2 ^ 61 → unsigned_abs y ≤ 2 ^ 61 → to_z w64 (of_z w64 (to_z w64 (of_z w64 x) -ℤ to_z w64 (of_z w64 y))) ≡ x -ℤ y
machine-sub x y h k = rw (machine x (omega (arith, h)), machine y (omega (arith, k))) (machine (x -ℤ y) (omega (arith, ints, h, k)))

machine-less : (s x : ℤ) → unsigned_abs s ≤ 2 ^ 61 → unsigned_abs x ≤ 2 ^ 61 → to_z w64 (of_z w64 (s -ℤ to_z w64 (of_z w64 x))) ≡ s -ℤ x
machine-less s x h k = rw (machine x (omega (arith, k))) (machine (s -ℤ x) (omega (arith, ints, h, k)))

pub machine-add : (s x : ℤ) → unsigned_abs s ≤ 2 ^ 61 → unsigned_abs x ≤ 2 ^ 61 → to_z w64 (of_z w64 (s +ℤ to_z w64 (of_z w64 x))) ≡ s +ℤ x
machine-add s x h k = rw (machine x (omega (arith, k))) (machine (s +ℤ x) (omega (arith, ints, h, k)))

pub machine-add_fits : (s x : ℤ) → unsigned_abs s ≤ 2 ^ 61 → unsigned_abs x ≤ 2 ^ 61 → FitsSigned w64 (s +ℤ to_z w64 (of_z w64 x))
machine-add_fits s x h k = rw (machine x (omega (arith, k))) (fits_signed_from_abs w64 (s +ℤ x) (omega (arith, ints, h, k)))

pub machine-scale : (a : ℕ) (x : ℤ) → a ≤ 1000000 → unsigned_abs x ≤ 337000000 → to_z w64 (of_z w64 (to_z w64 a *ℤ to_z w64 (of_z w64 x))) ≡ pos a *ℤ x
machine-scale a x h k =
    let small = amount-small a x k in
    let most : a * 337000000 ≤ 337000000000000 = omega (arith, h) in
    rw (to_z_pos w64 a (omega (arith, h)), machine x (omega (arith, k))) (machine (pos a *ℤ x) (omega (arith, small, most)))

-- a state's price less what the holding costs is what a mass unit is worth, and small
pub worth-is : (plant : Plant) (s : State) (state time : ℕ) (r : ℤ) → Sound plant → state < length plant.states → s ≡ state_at plant state → r ≡ s.holding *ℤ pos (plant.periods - time) → unsigned_abs r ≤ 336000000 →
    (to_z w64 (of_z w64 (to_z w64 (of_z w64 s.price) -ℤ to_z w64 (of_z w64 r))) ≡ worth_from plant state time)
    × (unsigned_abs (to_z w64 (of_z w64 (to_z w64 (of_z w64 s.price) -ℤ to_z w64 (of_z w64 r)))) ≤ 337000000)
unfolding worth_from
worth-is plant s state time r sound l e f h =
    let fine = sound.states state no_state l in
    let price : s.price ≡ (state_at plant state).price = ap (λ (x : State). x.price) e in
    let small : unsigned_abs s.price ≤ 1000000 = omega (arith, ap unsigned_abs price, fine.price) in
    let is = machine-sub s.price r (omega (arith, small)) (omega (arith, h)) in (
      is ∙ ap₂ (λ x y. x -ℤ y) price (f ∙ ap (λ (x : State). x.holding *ℤ pos (plant.periods - time)) e),
      rw is (omega (arith, ints, small, h)),
    )

-- the first terms of a sum whose terms are bounded by multiples of what adds up to no more than a whole
first-terms : {X : Type 0} (f : X → ℤ) (n : X → ℕ) (m most i : ℕ) (xs : List X) → All (λ x. unsigned_abs (f x) ≤ n x * m) xs → sum_by n xs * m ≤ most → unsigned_abs (total f (take i xs)) ≤ most
first-terms f n m most i xs each whole =
    let part = total-weighted f n m (take i xs) (All-take (λ x. unsigned_abs (f x) ≤ n x * m) i xs each) in
    let less : sum_by n (take i xs) * m ≤ sum_by n xs * m = mul-le-mul (sum_by-take-le n xs i) (le_refl m) in
    omega (arith, part, less, whole)

-- what a mass unit is worth is small
worth_from-small : (plant : Plant) (state time : ℕ) → Sound plant → state < length plant.states → unsigned_abs (worth_from plant state time) ≤ 337000000
unfolding worth_from
worth_from-small plant state time sound l =
    let fine = sound.states state no_state l in
    let held = times-small (state_at plant state).holding (pos (plant.periods - time)) 1000000 336 fine.holding (omega (arith, sound.counts.periods)) in
    omega (arith, ints, fine.price, held)

-- the first outputs, inputs and draws of a task
pub outputs-part : (plant : Plant) (task : Task) (period i : ℕ) → Sound plant → SoundTask plant task → unsigned_abs (total (output_worth plant period) (take i task.outputs)) ≤ 337000000000000
outputs-part plant task period i sound fine =
    first-terms (output_worth plant period) (λ output. output.amount) 337000000 337000000000000 i task.outputs
    (λ k d l.
    let output = get_or task.outputs k d in
    amount-small output.amount (worth_from plant output.state (period + output.delay)) (worth_from-small plant output.state (period + output.delay) sound (fine.output k d l).state))
    (omega (arith, fine.given, fine.quantum))

pub inputs-part : (plant : Plant) (task : Task) (period i : ℕ) → Sound plant → SoundTask plant task → unsigned_abs (total (input_worth plant period) (take i task.inputs)) ≤ 337000000000000
inputs-part plant task period i sound fine =
    first-terms (input_worth plant period) (λ input. input.amount) 337000000 337000000000000 i task.inputs
    (λ k d l.
    let input = get_or task.inputs k d in
    amount-small input.amount (worth_from plant input.state period) (worth_from-small plant input.state period sound (fine.input k d l).state))
    (omega (arith, fine.taken, fine.quantum))

-- the first of the amounts that are drawn in a row of periods cost little
pub cost-part : (plant : Plant) (utility period i : ℕ) (amounts : List ℕ) → Sound plant → utility < length plant.utilities → All (λ amount. amount ≤ 1000000) amounts → i ≤ length amounts →
    unsigned_abs (total_below (λ k. rate_in (utility_at plant utility) (period + k) *ℤ pos (slice_index amounts k)) i) ≤ i * 1000000000000
cost-part plant utility period zero amounts sound there each l = omega arith
cost-part plant utility period (suc i) amounts sound there each l =
    let before = cost-part plant utility period i amounts sound there each (omega arith) in
    let last = times-small (rate_in (utility_at plant utility) (period + i)) (pos (slice_index amounts i)) 1000000 1000000 (rate_small plant sound utility (period + i) there) (each i 0 l) in
    omega (arith, ints, before, last)

pub cost_from-small : (plant : Plant) (utility period : ℕ) (amounts : List ℕ) → Sound plant → utility < length plant.utilities → length amounts ≤ 96 → All (λ amount. amount ≤ 1000000) amounts →
    unsigned_abs (cost_from plant utility period amounts) ≤ 96000000000000
unfolding cost_from
cost_from-small plant utility period amounts sound there few each = omega (arith, few, cost-part plant utility period (length amounts) amounts sound there each (le_refl (length amounts)))

pub fixed-part : (plant : Plant) (task : Task) (period i : ℕ) → Sound plant → SoundTask plant task → unsigned_abs (total (fixed_cost plant period) (take i task.draws)) ≤ 768000000000000
fixed-part plant task period i sound fine =
    first-terms (fixed_cost plant period) (λ draw. 1) 96000000000000 768000000000000 i task.draws
    (λ k d l.
    let draw = get_or task.draws k d in
    let is = fine.draw k d l in
    let cost = cost_from-small plant draw.utility period draw.fixed sound is.utility (omega (arith, is.fixed, duration-small plant task fine)) is.fixed_small in
    omega (arith, cost))
    (omega (arith, sum_by-le (λ draw. 1) 1 task.draws (λ k d l. omega arith), fine.draws))

pub each-part : (plant : Plant) (task : Task) (period i : ℕ) → Sound plant → SoundTask plant task → unsigned_abs (total (each_cost plant period) (take i task.draws)) ≤ 768000000000000
each-part plant task period i sound fine =
    first-terms (each_cost plant period) (λ draw. 1) 96000000000000 768000000000000 i task.draws
    (λ k d l.
    let draw = get_or task.draws k d in
    let is = fine.draw k d l in
    let cost = cost_from-small plant draw.utility period draw.each sound is.utility (omega (arith, is.each, duration-small plant task fine)) is.each_small in
    omega (arith, cost))
    (omega (arith, sum_by-le (λ draw. 1) 1 task.draws (λ k d l. omega arith), fine.draws))

-- the machine's sum with one more term
pub machine-step : {X : Type 0} (f : X → ℤ) (xs : List X) (i : ℕ) (d : X) (s x : ℤ) (m n : ℕ) → i < length xs → s ≡ total f (take i xs) → unsigned_abs (total f (take i xs)) ≤ m → m ≤ 2 ^ 61 → x ≡ f (get_or xs i d) → unsigned_abs x ≤ n → n ≤ 2 ^ 61 →
    to_z w64 (of_z w64 (s +ℤ to_z w64 (of_z w64 x))) ≡ total f (take (i + 1) xs)
machine-step f xs i d s x m n l e small k is tiny j =
    machine-add s x (omega (arith, ap unsigned_abs e, small, k)) (omega (arith, tiny, j)) ∙ sym (total_more f xs i d l ∙ ap₂ (λ a b. a +ℤ b) (sym e) (sym is))

pub machine-step_fits : (s t x : ℤ) (m n : ℕ) → s ≡ t → unsigned_abs t ≤ m → m ≤ 2 ^ 61 → unsigned_abs x ≤ n → n ≤ 2 ^ 61 → FitsSigned w64 (s +ℤ to_z w64 (of_z w64 x))
machine-step_fits s t x m n e small k tiny j = machine-add_fits s x (omega (arith, ap unsigned_abs e, small, k)) (omega (arith, tiny, j))

-- an output of a batch that ends by the horizon comes by the horizon
pub output-ends : (plant : Plant) (task : Task) (outputs : List Output) (period i : ℕ) (d : Output) → outputs ≡ task.outputs → period + duration_of task ≤ plant.periods → i < length outputs → period + (get_or outputs i d).delay ≤ plant.periods
output-ends plant task outputs period i d e ends l =
    let each : All (λ output. output.delay ≤ duration_of task) outputs =
    subst (λ (os : List Output). All (λ output. output.delay ≤ duration_of task) os) (sym e) (delay-within task) in
    omega (arith, each i d l, ends)

-- a draw of a task has a few amounts of each kind
pub draw-few : (plant : Plant) (task : Task) (draws : List Draw) (i : ℕ) (draw : Draw) → SoundTask plant task → draws ≡ task.draws → i < length draws → draw ≡ get_or draws i draw → (length draw.fixed ≤ 96) × (length draw.each ≤ 96)
draw-few plant task draws i draw fine e l is =
    let here : draw ≡ get_or task.draws i draw = is ∙ ap (λ ds. get_or ds i draw) e in
    let sound = fine.draw i draw (omega (arith, l, ap length e)) in
    let long = duration-small plant task fine in (
      omega (arith, ap (λ (d : Draw). length d.fixed) here, sound.fixed, long),
      omega (arith, ap (λ (d : Draw). length d.each) here, sound.each, long),
    )

-- the task of a slot's run is the slot's task
pub task-is : (plant : Plant) (slot : ℕ × ℕ) (run : Run) (task : Task) → Sound plant → IsSlotOf plant slot → run ≡ get_or plant.runs slot.0 run → task ≡ get_or plant.tasks run.task task → task ≡ task_in plant slot
task-is plant slot run task sound is e f =
    let same : run ≡ run_at plant slot.0 = e ∙ get_or_default plant.runs slot.0 run no_run is.run in
    let there : run.task < length plant.tasks = omega (arith, ap (λ (r : Run). r.task) same, (sound.runs slot.0 no_run is.run).task) in
    f ∙ get_or_default plant.tasks run.task task no_task there ∙ ap (λ (r : Run). task_at plant r.task) same

-- what a slot's start earns for each quantum, by the machine
pub machine-profit : (plant : Plant) (slot : ℕ × ℕ) (task : Task) (o i e : ℤ) → task ≡ task_in plant slot →
    o ≡ total (output_worth plant slot.1) task.outputs → unsigned_abs o ≤ 337000000000000 →
    i ≡ total (input_worth plant slot.1) task.inputs → unsigned_abs i ≤ 337000000000000 →
    e ≡ total (each_cost plant slot.1) task.draws → unsigned_abs e ≤ 768000000000000 →
    to_z w64 (of_z w64 (to_z w64 (of_z w64 (to_z w64 (of_z w64 o) -ℤ to_z w64 (of_z w64 i))) -ℤ to_z w64 (of_z w64 e))) ≡ each_profit plant slot
unfolding each_profit
machine-profit plant slot task o i e same os om is im es em =
    let first = machine-sub o i (omega (arith, om)) (omega (arith, im)) in
    let both : unsigned_abs (o -ℤ i) ≤ 674000000000000 = omega (arith, ints, om, im) in
    rw first (machine-less (o -ℤ i) e (omega (arith, both)) (omega (arith, em))
    ∙ ap₂ (λ x y. x -ℤ y)
    (ap₂ (λ x y. x -ℤ y) (os ∙ ap (λ (t : Task). total (output_worth plant slot.1) t.outputs) same) (is ∙ ap (λ (t : Task). total (input_worth plant slot.1) t.inputs) same))
    (es ∙ ap (λ (t : Task). total (each_cost plant slot.1) t.draws) same))

-- the parts of the profit are small
whole : {X : Type 0} (f : X → ℤ) (xs : List X) (most : ℕ) → ((i : ℕ) → unsigned_abs (total f (take i xs)) ≤ most) → unsigned_abs (total f xs) ≤ most
whole {X} f xs most h = subst (λ (ys : List X). unsigned_abs (total f ys) ≤ most) (take-length xs) (h (length xs))

pub profit-small : (plant : Plant) (slot : ℕ × ℕ) → Sound plant → IsSlotOf plant slot → IsPartWithin 2000000000000000 (profit_part plant slot)
unfolding fixed_profit each_profit
profit-small plant slot sound is =
    let task = task_in plant slot in
    let fine : SoundTask plant task = sound.tasks (run_at plant slot.0).task no_task (sound.runs slot.0 no_run is.run).task in
    let cost = (sound.runs slot.0 no_run is.run).cost in
    let o = whole (output_worth plant slot.1) task.outputs 337000000000000 (λ i. outputs-part plant task slot.1 i sound fine) in
    let i = whole (input_worth plant slot.1) task.inputs 337000000000000 (λ i. inputs-part plant task slot.1 i sound fine) in
    let f = whole (fixed_cost plant slot.1) task.draws 768000000000000 (λ i. fixed-part plant task slot.1 i sound fine) in
    let e = whole (each_cost plant slot.1) task.draws 768000000000000 (λ i. each-part plant task slot.1 i sound fine) in
    record { fixed = omega (arith, ints, cost, f); per = omega (arith, ints, o, i, e) }
