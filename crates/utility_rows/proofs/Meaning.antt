-- What the rows say: the point of a plan keeps them exactly where the plan keeps every load.
use Rattle.std.proofs.Common.{◌≡◌, ℕ, ◌+◌, ◌-◌, ◌*◌, ◌<◌, ◌↔◌, Bool, true, false, cond, eqb, List, [], ◌∷◌, length, map, get_or, sum_by, sym, refl, ap, ◌∙◌, inl, inr, arith, ℤ, pos, ◌+ℤ◌}
use Rattle.std.specs.List.{All}
use Rattle.std.proofs.lemmas.Int.{ints}
use Rattle.std.proofs.lemmas.Bool.{cases_eq, eq-eqb, ne_eqb}
use Rattle.std.proofs.lemmas.List.{length-map}
use Rattle.std.proofs.lemmas.List.Sums.{sum_by-cons}
use Rattle.std.proofs.Math.IntN.{pos-*ℤ-pos}
use Rattle.stn_model.specs.declared.plant.Plant.{Plant}
use Rattle.stn_model.specs.declared.start.Start.{Start}
use Rattle.stn_model.specs.Plant.{utility_at, task_at, end_of, run_at}
use Rattle.stn_model.specs.Load.{drawn_in, drawn, load}
use Rattle.stn_model.specs.Feasible.{LoadKept}
use Rattle.stn_model.specs.Sound.{Sound}
use Rattle.time_grid.specs.Slots.{slots}
use Rattle.time_grid.specs.PlanPoint.{HasPoint, plan_point, start_in}
use Rattle.time_grid.proofs.PlanPoints.{length-plan_point}
use Rattle.time_grid.proofs.PointSums.{counted_at, total_zip-is, sum-plan_point}
use Rattle.row_kit.specs.declared.row.Row.{Row}
use Rattle.row_kit.specs.Row.{part_at, parts_sum, entries_sum, IsKept}
use Rattle.row_kit.proofs.Gathered.{entries_sum-from}
use Rattle.row_kit.proofs.Tables.{All-row_table, row_table-each}
use Rattle.utility_rows.specs.LoadRows.{is_running, fixed_drawn, each_in, each_drawn, load_parts, load_row, load_rows}

-- a sum of terms that each have a fixed part and v times another
sum_by-parts : {X : Type 0} (f a b : X → ℕ) (v : ℕ) → ((x : X) → f x ≡ a x + v * b x) → (xs : List X) → sum_by f xs ≡ sum_by a xs + v * sum_by b xs
sum_by-parts f a b v each [] = omega arith
sum_by-parts f a b v each (x ∷ xs) =
    let rest : sum_by f xs ≡ sum_by a xs + v * sum_by b xs = sum_by-parts f a b v each xs in
    rw (sum_by-cons b x xs) (omega (arith, each x, rest, sum_by-cons f x xs, sum_by-cons a x xs))

-- what a test lets through, by its parts
let_parts : (t : Bool) (v x a b : ℕ) → x ≡ a + v * b → cond t x 0 ≡ cond t a 0 + v * cond t b 0
let_parts true v x a b e = e
let_parts false v x a b e = omega arith

-- a batch draws a part whatever its size, and a part for each quantum
pub drawn-parts : (plant : Plant) (utility period : ℕ) (slot : ℕ × ℕ) (v : ℕ) → drawn plant utility period (start_in plant slot v) ≡ fixed_drawn plant utility period slot + v * each_drawn plant utility period slot
unfolding drawn fixed_drawn each_drawn end_of
drawn-parts plant utility period slot v =
    let k = period - slot.1 in
    let draws = (task_at plant (run_at plant slot.0).task).draws in
    let_parts (is_running plant period slot) v (sum_by (drawn_in utility v k) draws) (sum_by (drawn_in utility 0 k) draws) (sum_by (each_in utility k) draws)
    (sum_by-parts (drawn_in utility v k) (drawn_in utility 0 k) (each_in utility k) v
    (λ draw. let_parts (eqb draw.utility utility) v (get_or draw.fixed k 0 + v * get_or draw.each k 0) (get_or draw.fixed k 0 + 0 * get_or draw.each k 0) (get_or draw.each k 0) (omega arith)) draws)

-- what a start counts
abbrev draws_of : Plant → ℕ → ℕ → Start → ℤ
draws_of plant utility period start = pos (drawn plant utility period start)

-- a slot counts at a value what its start of that size draws
counts_start : (plant : Plant) (utility period : ℕ) (slot : ℕ × ℕ) (v : ℕ) → part_at (load_parts plant utility period slot) v ≡ counted_at plant (draws_of plant utility period) slot v
unfolding load_parts
counts_start plant utility period slot v =
    let fixed = fixed_drawn plant utility period slot in
    let each = each_drawn plant utility period slot in
    elim (cases_eq v 0) [
      | inl z ↦ rw (eq-eqb v 0 z) refl
      | inr n ↦ rw (ne_eqb v 0 n) (omega (arith, ints, pos-*ℤ-pos each v, drawn-parts plant utility period slot v))
    ]

-- at a plan's point a load row's entries sum to the load
pub load_sum : (plant : Plant) (plan : List Start) (utility period : ℕ) → Sound plant → HasPoint plant plan →
    entries_sum (load_row plant utility period).entries (plan_point plant plan) ≡ pos (load plant plan utility period)
unfolding load_row load
load_sum plant plan utility period sound has =
    let parts = load_parts plant utility period in
    entries_sum-from (map parts (slots plant)) (plan_point plant plan) (length-map (slots plant) parts ∙ sym (length-plan_point plant plan))
    ∙ total_zip-is (counted_at plant (draws_of plant utility period)) (λ grid values. parts_sum (map parts grid) values) (λ ys. refl) (λ x xs. refl)
    (λ x xs y ys. ap (λ n. n +ℤ parts_sum (map parts xs) ys) (counts_start plant utility period x y)) (slots plant) (plan_point plant plan)
    ∙ sum-plan_point plant (drawn plant utility period) plan sound has

load_limit : (plant : Plant) (utility period : ℕ) → (load_row plant utility period).limit ≡ pos (get_or (utility_at plant utility).limits period 0)
unfolding load_row
load_limit plant utility period = refl

-- at a plan's point a load row is kept exactly where the load is
pub load_kept : (plant : Plant) (plan : List Start) (utility period : ℕ) → Sound plant → HasPoint plant plan →
    IsKept (plan_point plant plan) (load_row plant utility period) ↔ LoadKept plant plan utility period
load_kept plant plan utility period sound has =
    let sum = load_sum plant plan utility period sound has in
    let limit = load_limit plant utility period in
    (λ h. omega (arith, ints), λ h. omega (arith, ints))

-- the point of a plan keeps the load rows exactly where the plan keeps every load
pub load_rows-kept : (plant : Plant) (plan : List Start) → Sound plant → HasPoint plant plan →
    All (IsKept (plan_point plant plan)) (load_rows plant) ↔ ((utility period : ℕ) → utility < length plant.utilities → period < plant.periods → LoadKept plant plan utility period)
unfolding load_rows
load_rows-kept plant plan sound has =
    let kept : Row → Type 0 = IsKept (plan_point plant plan) in
    let periods : ℕ → ℕ = λ utility. plant.periods in (
      λ all utility period l m. (load_kept plant plan utility period sound has).0 (row_table-each kept (load_row plant) periods (length plant.utilities) all utility period l m),
      λ keeps. All-row_table kept (load_row plant) periods (length plant.utilities) (λ utility period l m. (load_kept plant plan utility period sound has).1 (keeps utility period l m)),
    )
