-- What batches that start so many periods later give, take and draw, and when they end.
use Rattle.std.proofs.Common.{◌≡◌, ℕ, suc, ◌+◌, ◌-◌, ◌*◌, ◌<◌, ◌≤◌, Bool, cond, leb, ltb, List, get_or, map, sum_by, refl, ap, ap₂, ◌∙◌, arith}
use Rattle.std.specs.Prelude.{◌&&◌, ◌==◌}
use Rattle.std.proofs.lemmas.Bool.{cond-false, and_right, and_left, lt-leb}
use Rattle.std.proofs.lemmas.List.Sums.{sum_by-append}
use Rattle.stn_model.specs.declared.plant.Plant.{Plant}
use Rattle.stn_model.specs.declared.plant.Input.{Input}
use Rattle.stn_model.specs.declared.plant.Output.{Output}
use Rattle.stn_model.specs.declared.start.Start.{Start}
use Rattle.stn_model.specs.Plant.{task_at, end_of, duration_of}
use Rattle.stn_model.specs.Stock.{given, given_by, taken, taken_by}
use Rattle.stn_model.specs.Load.{drawn, drawn_in}
use Rattle.rolled_plant.specs.Kept.{later, joined}
use Rattle.rolled_plant.specs.RolledPlant.{rolled_plant}
use Rattle.rolled_plant.proofs.Basics.{leb_agree, sum_by-same, sum_by-none, sum_by-map}

-- a sum over starts that are so many periods later
sum_by-later : (f g : Start → ℕ) (period : ℕ) (plan : List Start) → ((x : Start) → f (later period x) ≡ g x) → sum_by f (map (later period) plan) ≡ sum_by g plan
sum_by-later f g period plan same = sum_by-map f (later period) plan ∙ sum_by-same (λ x. f (later period x)) g plan same

-- a sum over the starts before and those of a plan behind them
pub sum_by-joined : (f g : Start → ℕ) (before : List Start) (period : ℕ) (plan : List Start) → ((x : Start) → f (later period x) ≡ g x) → sum_by f (joined before period plan) ≡ sum_by f before + sum_by g plan
sum_by-joined f g before period plan same = sum_by-append f before (map (later period) plan) ∙ ap (λ n. sum_by f before + n) (sum_by-later f g period plan same)

-- and where later starts count nothing
pub sum_by-joined_none : (f : Start → ℕ) (before : List Start) (period : ℕ) (plan : List Start) → ((x : Start) → f (later period x) ≡ 0) → sum_by f (joined before period plan) ≡ sum_by f before
sum_by-joined_none f before period plan none =
    let whole = sum_by-joined f (λ x. 0) before period plan none in
    let zeros = sum_by-none {X = Start} (λ x. 0) plan (λ k d l. refl) in
    omega (arith, whole, zeros)

given_by_later : (state time period : ℕ) (x : Start) (output : Output) → given_by state (period + time) (later period x) output ≡ given_by state time x output
given_by_later state time period x output =
    ap (λ (b : Bool). cond (output.state == state && b) (x.quanta * output.amount) 0)
    (leb_agree (period + x.period + output.delay) (period + time) (x.period + output.delay) time (λ l. omega arith) (λ l. omega arith))

given_by_none : (state time period : ℕ) (x : Start) (output : Output) → time < period → given_by state time (later period x) output ≡ 0
given_by_none state time period x output early =
    cond-false {A = ℕ} (output.state == state && leb (period + x.period + output.delay) time) (x.quanta * output.amount) 0
    (and_right (output.state == state) (leb (period + x.period + output.delay) time) (lt-leb (period + x.period + output.delay) time (omega arith)))

taken_by_later : (state time period : ℕ) (x : Start) (input : Input) → taken_by state (period + time) (later period x) input ≡ taken_by state time x input
taken_by_later state time period x input =
    ap (λ (b : Bool). cond (input.state == state && b) (x.quanta * input.amount) 0)
    (leb_agree (period + x.period) (period + time) x.period time (λ l. omega arith) (λ l. omega arith))

taken_by_none : (state time period : ℕ) (x : Start) (input : Input) → time < period → taken_by state time (later period x) input ≡ 0
taken_by_none state time period x input early =
    cond-false {A = ℕ} (input.state == state && leb (period + x.period) time) (x.quanta * input.amount) 0
    (and_right (input.state == state) (leb (period + x.period) time) (lt-leb (period + x.period) time (omega arith)))

taken_by_past : (state time other : ℕ) (x : Start) (input : Input) → x.period ≤ time → x.period ≤ other → taken_by state time x input ≡ taken_by state other x input
taken_by_past state time other x input one two =
    ap (λ (b : Bool). cond (input.state == state && b) (x.quanta * input.amount) 0)
    (leb_agree x.period time x.period other (λ l. two) (λ l. one))

-- what a batch gives to a state by a time of the rolled plant
pub given_later : (plant : Plant) (before : List Start) (period state time : ℕ) (x : Start) → given plant state (period + time) (later period x) ≡ given (rolled_plant plant before period) state time x
unfolding given rolled_plant
given_later plant before period state time x =
    sum_by-same (given_by state (period + time) (later period x)) (given_by state time x) (task_at plant x.task).outputs (given_by_later state time period x)

-- a later batch gives nothing before
pub given_none : (plant : Plant) (period state time : ℕ) (x : Start) → time < period → given plant state time (later period x) ≡ 0
unfolding given
given_none plant period state time x early =
    sum_by-none (given_by state time (later period x)) (task_at plant x.task).outputs (λ k d l. given_by_none state time period x (get_or (task_at plant x.task).outputs k d) early)

-- what a batch takes from a state by a time of the rolled plant
pub taken_later : (plant : Plant) (before : List Start) (period state time : ℕ) (x : Start) → taken plant state (period + time) (later period x) ≡ taken (rolled_plant plant before period) state time x
unfolding taken rolled_plant
taken_later plant before period state time x =
    sum_by-same (taken_by state (period + time) (later period x)) (taken_by state time x) (task_at plant x.task).inputs (taken_by_later state time period x)

-- a later batch takes nothing before
pub taken_none : (plant : Plant) (period state time : ℕ) (x : Start) → time < period → taken plant state time (later period x) ≡ 0
unfolding taken
taken_none plant period state time x early =
    sum_by-none (taken_by state time (later period x)) (task_at plant x.task).inputs (λ k d l. taken_by_none state time period x (get_or (task_at plant x.task).inputs k d) early)

-- a batch takes all that it takes at its start
pub taken_past : (plant : Plant) (state time other : ℕ) (x : Start) → x.period ≤ time → x.period ≤ other → taken plant state time x ≡ taken plant state other x
unfolding taken
taken_past plant state time other x one two =
    sum_by-same (taken_by state time x) (taken_by state other x) (task_at plant x.task).inputs (λ input. taken_by_past state time other x input one two)

-- a batch ends so many periods later
pub end_later : (plant : Plant) (before : List Start) (period : ℕ) (x : Start) → end_of plant (later period x) ≡ period + end_of (rolled_plant plant before period) x
unfolding end_of rolled_plant
end_later plant before period x = omega arith

-- what a batch draws of a utility in a period of the rolled plant
pub drawn_later : (plant : Plant) (before : List Start) (period utility time : ℕ) (x : Start) → drawn plant utility (period + time) (later period x) ≡ drawn (rolled_plant plant before period) utility time x
unfolding drawn end_of rolled_plant
drawn_later plant before period utility time x =
    let ending : ℕ = x.period + duration_of (task_at plant x.task) in
    let begun : leb (period + x.period) (period + time) ≡ leb x.period time =
    leb_agree (period + x.period) (period + time) x.period time (λ l. omega arith) (λ l. omega arith) in
    let ended : ltb (period + time) (period + x.period + duration_of (task_at plant x.task)) ≡ ltb time ending =
    leb_agree (suc (period + time)) (period + x.period + duration_of (task_at plant x.task)) (suc time) ending (λ l. omega arith) (λ l. omega arith) in
    let age : period + time - (period + x.period) ≡ time - x.period = omega arith in
    ap₂ (λ (b : Bool) (n : ℕ). cond b n 0) (ap₂ (λ (b c : Bool). b && c) begun ended)
    (ap (λ (k : ℕ). sum_by (drawn_in utility x.quanta k) (task_at plant x.task).draws) age)

-- a later batch draws nothing before
pub drawn_none : (plant : Plant) (period utility time : ℕ) (x : Start) → time < period → drawn plant utility time (later period x) ≡ 0
unfolding drawn
drawn_none plant period utility time x early =
    cond-false {A = ℕ} (leb (period + x.period) time && ltb time (end_of plant (later period x)))
    (sum_by (drawn_in utility x.quanta (time - (period + x.period))) (task_at plant x.task).draws) 0
    (and_left (leb (period + x.period) time) (ltb time (end_of plant (later period x))) (lt-leb (period + x.period) time (omega arith)))
