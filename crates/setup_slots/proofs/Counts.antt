-- How many slots and rows the setup of a unit has at most.
use Rattle.std.proofs.Common.{ℕ, ◌*◌, ◌≤◌, Bool, List, length, get_or, map, filter, arith}
use Rattle.std.specs.List.{flat_map, list_any, range_with_len}
use Rattle.std.proofs.lemmas.List.{length-append, length-map}
use Rattle.std.proofs.lemmas.List.Concat.{length-flat_map}
use Rattle.std.proofs.lemmas.List.FromFn.{length-range_with_len}
use Rattle.std.proofs.lemmas.List.Sums.{count_by-le-length, length-filter, sum_by-le}
use Rattle.stn_model.specs.declared.plant.Plant.{Plant}
use Rattle.stn_model.specs.Sound.{Sound}
use Rattle.setup_slots.specs.declared.setup.SetupRow.TheVariants.{Held, Begun}
use Rattle.setup_slots.specs.declared.setup.SetupSlot.{SetupSlot}
use Rattle.setup_slots.specs.declared.setup.SetupSlot.TheVariants.{First, Change}
use Rattle.setup_slots.specs.Rows.{begun_rows, held_rows, is_change_to, rows_among, setup_rows}
use Rattle.setup_slots.specs.Slots.{changes_among, changes_between, has_slots, is_change, setup_slots, setup_tasks}

-- a filter keeps no more than there is
kept_most : {X : Type 0} (p : X → Bool) (xs : List X) → length (filter p xs) ≤ length xs
kept_most p xs = omega (arith, length-filter p xs, count_by-le-length p xs)

-- parts of at most so many items each
parts_most : {X Y : Type 0} (f : X → List Y) (most : ℕ) (xs : List X) → ((x : X) → length (f x) ≤ most) → length (flat_map f xs) ≤ length xs * most
parts_most f most xs each = omega (arith, length-flat_map f xs, sum_by-le (λ x. length (f x)) most xs (λ k d l. each (get_or xs k d)))

-- what a range passes to is no more than it
range_most : {Y : Type 0} (f : ℕ → Y) (p : ℕ → Bool) (n : ℕ) → length (map f (filter p (range_with_len 0 n))) ≤ n
range_most f p n = omega (arith, length-map (filter p (range_with_len 0 n)) f, kept_most p (range_with_len 0 n), length-range_with_len 0 n)

tasks_most : (plant : Plant) (unit : ℕ) → Sound plant → length (setup_tasks plant unit) ≤ 160
unfolding setup_tasks
tasks_most plant unit sound = omega (arith, sound.counts.tasks, kept_most (has_slots plant unit) (range_with_len 0 (length plant.tasks)), length-range_with_len 0 (length plant.tasks))

between_most : (plant : Plant) (unit from to : ℕ) → Sound plant → length (changes_between plant unit from to) ≤ 336
unfolding changes_between
between_most plant unit from to sound = let periods = sound.counts.periods in omega (arith, periods, range_most (Change from to) (is_change plant unit from to) plant.periods)

from_most : (plant : Plant) (unit from : ℕ) (tasks : List ℕ) → Sound plant → length tasks ≤ 160 → length (flat_map (changes_between plant unit from) tasks) ≤ 53760
from_most plant unit from tasks sound few = omega (arith, few, parts_most (changes_between plant unit from) 336 tasks (λ to. between_most plant unit from to sound))

pub slots-most : (plant : Plant) (unit : ℕ) → Sound plant → length (setup_slots plant unit) ≤ 9000000
unfolding setup_slots changes_among
slots-most plant unit sound =
    let tasks = setup_tasks plant unit in
    let few = tasks_most plant unit sound in
    let changes = parts_most (λ from. flat_map (changes_between plant unit from) tasks) 53760 tasks (λ from. from_most plant unit from tasks sound few) in
    omega (arith, few, changes, length-append (map First tasks) (flat_map (λ from. flat_map (changes_between plant unit from) tasks) tasks), length-map tasks First)

held_most : (plant : Plant) (task : ℕ) → Sound plant → length (held_rows plant.periods task) ≤ 336
unfolding held_rows
held_most plant task sound = let periods = sound.counts.periods in omega (arith, periods, length-map (range_with_len 0 plant.periods) (Held task), length-range_with_len 0 plant.periods)

begun_most : (plant : Plant) (setups : List SetupSlot) (task : ℕ) → Sound plant → length (begun_rows setups plant.periods task) ≤ 336
unfolding begun_rows
begun_most plant setups task sound = let periods = sound.counts.periods in omega (arith, periods, range_most (Begun task) (λ period. list_any (is_change_to task period) setups) plant.periods)

pub rows-most : (plant : Plant) (unit : ℕ) → Sound plant → length (setup_rows plant unit) ≤ 9000000
unfolding rows_among
rows-most plant unit sound =
    let tasks = setup_tasks plant unit in
    let setups = setup_slots plant unit in
    let few = tasks_most plant unit sound in
    let held = parts_most (held_rows plant.periods) 336 tasks (λ task. held_most plant task sound) in
    let begun = parts_most (begun_rows setups plant.periods) 336 tasks (λ task. begun_most plant setups task sound) in
    omega (arith, few, held, begun, length-append (flat_map (held_rows plant.periods) tasks) (flat_map (begun_rows setups plant.periods) tasks))
