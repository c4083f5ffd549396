-- What entries and rows of a setup sum to at a point with an image behind it.
use Rattle.std.proofs.Common.{◌≡◌, ℕ, zero, suc, ◌-◌, ◌<◌, ◌≤◌, ◌==◌, Bool, true, false, cond, List, [], ◌∷◌, ◌++◌, length, get_or, map, take, drop, replicate, count_by, refl, sym, ap, ap₂, ◌∙◌, arith, append_assoc, ℤ, pos, neg_ℤ, ◌+ℤ◌, ◌*ℤ◌}
use Rattle.std.specs.List.{All}
use Rattle.std.proofs.lemmas.Int.{ints}
use Rattle.std.proofs.lemmas.List.{get_or_append_left, length-append, length-drop, length-map, length-replicate, take-append-drop}
use Rattle.std.proofs.lemmas.List.Elements.{All-head, All-tail}
use Rattle.stn_model.specs.declared.plant.Plant.{Plant}
use Rattle.stn_model.specs.declared.start.Start.{Start}
use Rattle.stn_model.specs.Plant.{end_of}
use Rattle.stn_model.specs.Sound.{Sound}
use Rattle.stn_model.specs.Sums.{total}
use Rattle.time_grid.specs.PlanPoint.{HasPoint, plan_point, start_in}
use Rattle.time_grid.specs.Slots.{slots}
use Rattle.time_grid.proofs.PlanPoints.{length-plan_point}
use Rattle.time_grid.proofs.PointSums.{counted_at, total_zip-agree, total_zip-is, total-plan_point}
use Rattle.row_kit.specs.declared.row.Entry.{Entry}
use Rattle.row_kit.specs.Row.{counted, entries_sum, part_at, parts_sum}
use Rattle.row_kit.proofs.Gathered.{entries_sum-from}
use Rattle.row_kit.proofs.Values.{part_at-nothing}
use Rattle.setup_slots.specs.declared.setup.SetupRow.{SetupRow}
use Rattle.setup_slots.specs.declared.setup.SetupRow.TheVariants.{Single, Held, Begun}
use Rattle.setup_slots.specs.declared.setup.SetupSlot.{SetupSlot}
use Rattle.setup_slots.specs.declared.task_slot.TaskSlot.{TaskSlot}
use Rattle.setup_slots.specs.Rows.{fixed_part, one_if, profit_entries, row_over, row_parts, setup_part, setup_profit, slot_part}
use Rattle.setup_slots.specs.Slots.{setup_slots, task_slot, task_slots}
use Rattle.setup_slots.proofs.Exchange.{count-cons}
use Rattle.setup_slots.proofs.Steps.{is_running, is_start}

-- entries of the first slots count what they did
pub sum-first : (es : List Entry) (point more : List ℕ) → All (λ e. e.slot < length point) es → entries_sum es (point ++ more) ≡ entries_sum es point
sum-first [] point more named = refl
sum-first (e ∷ es) point more named =
    ap₂ (λ (x y : ℤ). x +ℤ y) (ap (counted e) (get_or_append_left point more 0 e.slot (All-head (λ (x : Entry). x.slot < length point) e es named)))
    (sum-first es point more (All-tail (λ (x : Entry). x.slot < length point) e es named))

pub sum-append : (es fs : List Entry) (point : List ℕ) → entries_sum (es ++ fs) point ≡ entries_sum es point +ℤ entries_sum fs point
sum-append [] fs point = omega (arith, ints)
sum-append (e ∷ es) fs point = omega (arith, ints, sum-append es fs point)

-- two lists of parts, one after the other
parts_sum-append : (xs ys : List (ℤ × ℤ)) (p q : List ℕ) → length xs ≡ length p → parts_sum (xs ++ ys) (p ++ q) ≡ parts_sum xs p +ℤ parts_sum ys q
parts_sum-append [] ys [] q same = omega (arith, ints)
parts_sum-append [] ys (v ∷ p) q same = absurd (omega arith)
parts_sum-append (x ∷ xs) ys [] q same = absurd (omega arith)
parts_sum-append (x ∷ xs) ys (v ∷ p) q same = let more = parts_sum-append xs ys p q (omega arith) in omega (arith, ints, more)

parts_sum-nothing : (n : ℕ) (p : List ℕ) → parts_sum (replicate n (fixed_part (pos 0))) p ≡ pos 0
parts_sum-nothing zero p = refl
parts_sum-nothing (suc n) [] = refl
parts_sum-nothing (suc n) (v ∷ p) = ap₂ (λ (x y : ℤ). x +ℤ y) (part_at-nothing v) (parts_sum-nothing n p) ∙ omega (arith, ints)

-- a point that begins with that of the plan, and an image behind it
pub record IsBehind (plant : Plant) (plan : List Start) (setups : List SetupSlot) (first : ℕ) (point image : List ℕ) : Type 0 where
  pub begins : take (length (slots plant)) point ≡ plan_point plant plan
  pub long : length point ≡ first
  pub room : length (task_slots plant) ≤ first
  pub image_long : length image ≡ length setups

task_slots-length : (plant : Plant) → length (task_slots plant) ≡ length (slots plant)
task_slots-length plant = length-map (slots plant) (task_slot plant)

-- what a row of a setup sums to: what the plan's starts count, and what the image does
pub row-sum : (plant : Plant) (plan : List Start) (setups : List SetupSlot) (unit first : ℕ) (row : SetupRow) (point image : List ℕ) → IsBehind plant plan setups first point image →
    entries_sum (row_over (task_slots plant) setups unit first row).entries (point ++ image)
    ≡ parts_sum (map (λ s. fixed_part (slot_part unit row s)) (task_slots plant)) (plan_point plant plan) +ℤ parts_sum (map (λ s. fixed_part (setup_part row s)) setups) image
unfolding row_over row_parts
row-sum plant plan setups unit first row point image is =
    let own = task_slots plant in
    let n = length own in
    let f : TaskSlot → ℤ × ℤ = λ s. fixed_part (slot_part unit row s) in
    let g : SetupSlot → ℤ × ℤ = λ s. fixed_part (setup_part row s) in
    let none = replicate (first - n) (fixed_part (pos 0)) in
    let front = plan_point plant plan in
    let mid = drop (length (slots plant)) point in
    let parts = map f own ++ (none ++ map g setups) in
    let few = task_slots-length plant in
    let room = is.room in
    let long = is.long in
    let whole : point ++ image ≡ front ++ (mid ++ image) =
    ap (λ p. p ++ image) (sym (take-append-drop (length (slots plant)) point) ∙ ap (λ p. p ++ mid) is.begins) ∙ append_assoc front mid image in
    let same : length parts ≡ length (point ++ image) = omega (
      arith,
      length-append (map f own) (none ++ map g setups),
      length-append none (map g setups),
      length-map own f,
      length-map setups g,
      length-replicate (first - n) (fixed_part (pos 0)),
      length-append point image,
      is.image_long,
      room,
      long,
    ) in
    let first_same : length (map f own) ≡ length front = omega (arith, length-map own f, few, length-plan_point plant plan) in
    let mid_same : length none ≡ length mid = omega (arith, length-replicate (first - n) (fixed_part (pos 0)), length-drop (length (slots plant)) point, few, long) in
    entries_sum-from parts (point ++ image) same
    ∙ ap (parts_sum parts) whole
    ∙ parts_sum-append (map f own) (none ++ map g setups) front (mid ++ image) first_same
    ∙ ap (λ (x : ℤ). parts_sum (map f own) front +ℤ x) (parts_sum-append none (map g setups) mid image mid_same ∙ omega (arith, ints, parts_sum-nothing (first - n) mid))

-- what the profits of a setup sum to: what the image earns
pub profit-sum : (plant : Plant) (unit first : ℕ) (point image : List ℕ) → length point ≡ first → length image ≡ length (setup_slots plant unit) →
    entries_sum (profit_entries plant unit first) (point ++ image) ≡ parts_sum (map (λ s. fixed_part (setup_profit plant unit s)) (setup_slots plant unit)) image
unfolding profit_entries
profit-sum plant unit first point image long image_long =
    let setups = setup_slots plant unit in
    let g : SetupSlot → ℤ × ℤ = λ s. fixed_part (setup_profit plant unit s) in
    let none = replicate first (fixed_part (pos 0)) in
    let same : length (none ++ map g setups) ≡ length (point ++ image) = omega (arith, length-append none (map g setups), length-replicate first (fixed_part (pos 0)), length-map setups g, length-append point image, long, image_long) in
    entries_sum-from (none ++ map g setups) (point ++ image) same
    ∙ parts_sum-append none (map g setups) point image (omega (arith, length-replicate first (fixed_part (pos 0)), long))
    ∙ omega (arith, ints, parts_sum-nothing first point)

map-both : {X Y Z : Type 0} (f : Y → Z) (g : X → Y) (xs : List X) → map f (map g xs) ≡ map (λ x. f (g x)) xs
map-both f g [] = refl
map-both f g (x ∷ xs) = ap (λ ys. f (g x) ∷ ys) (map-both f g xs)

fixed_counts : (c : ℤ) (n : ℕ) → c +ℤ (pos 0 *ℤ pos n) ≡ c
fixed_counts c n = omega (arith, ints)

-- what the slots of the plant count at the plan's point is what its starts do
slots-sum : (plant : Plant) (plan : List Start) (f : TaskSlot → ℤ) (g : Start → ℤ) → Sound plant → HasPoint plant plan → ((slot : ℕ × ℕ) (value : ℕ) → f (task_slot plant slot) ≡ g (start_in plant slot value)) →
    parts_sum (map (λ s. fixed_part (f s)) (task_slots plant)) (plan_point plant plan) ≡ total g plan
slots-sum plant plan f g sound has agree =
    let part : ℕ × ℕ → ℤ × ℤ = λ slot. fixed_part (f (task_slot plant slot)) in
    ap (λ ps. parts_sum ps (plan_point plant plan)) (map-both (λ s. fixed_part (f s)) (task_slot plant) (slots plant))
    ∙ total_zip-is (λ slot value. part_at (part slot) value) (λ grid values. parts_sum (map part grid) values) (λ ys. refl) (λ x xs. refl) (λ x xs y ys. refl) (slots plant) (plan_point plant plan)
    ∙ total_zip-agree (λ slot value. part_at (part slot) value) (counted_at plant g) (slots plant) (plan_point plant plan)
    (λ k d l value. let slot = get_or (slots plant) k d in ap (cond (value == 0) (pos 0)) (fixed_counts (f (task_slot plant slot)) value ∙ agree slot value))
    ∙ total-plan_point plant g plan sound has

-- a sum of ones is a count
one_is : (t : Bool) → one_if t ≡ pos (cond t 1 0)
one_is true = refl
one_is false = refl

total-count : (q : Start → Bool) (xs : List Start) → total (λ x. one_if (q x)) xs ≡ pos (count_by q xs)
total-count q [] = refl
total-count q (x ∷ xs) = omega (arith, ints, one_is (q x), total-count q xs, count-cons q x xs)

total-negated : (q : Start → Bool) (xs : List Start) → total (λ x. neg_ℤ (one_if (q x))) xs ≡ neg_ℤ (pos (count_by q xs))
total-negated q [] = refl
total-negated q (x ∷ xs) = omega (arith, ints, one_is (q x), total-negated q xs, count-cons q x xs)

total-zeros : (xs : List Start) → total (λ x. pos 0) xs ≡ pos 0
total-zeros [] = refl
total-zeros (x ∷ xs) = omega (arith, ints, total-zeros xs)

-- what the plan's starts count in each kind of row
pub slots-single : (plant : Plant) (plan : List Start) (unit : ℕ) → Sound plant → HasPoint plant plan →
    parts_sum (map (λ s. fixed_part (slot_part unit Single s)) (task_slots plant)) (plan_point plant plan) ≡ pos 0
slots-single plant plan unit sound has = slots-sum plant plan (slot_part unit Single) (λ a. pos 0) sound has (λ slot value. refl) ∙ total-zeros plan

pub slots-held : (plant : Plant) (plan : List Start) (unit task period : ℕ) → Sound plant → HasPoint plant plan →
    parts_sum (map (λ s. fixed_part (slot_part unit (Held task period) s)) (task_slots plant)) (plan_point plant plan) ≡ pos (count_by (is_running plant unit task period) plan)
unfolding end_of
slots-held plant plan unit task period sound has =
    slots-sum plant plan (slot_part unit (Held task period)) (λ a. one_if (is_running plant unit task period a)) sound has (λ slot value. refl)
    ∙ total-count (is_running plant unit task period) plan

pub slots-begun : (plant : Plant) (plan : List Start) (unit task period : ℕ) → Sound plant → HasPoint plant plan →
    parts_sum (map (λ s. fixed_part (slot_part unit (Begun task period) s)) (task_slots plant)) (plan_point plant plan) ≡ neg_ℤ (pos (count_by (is_start unit task period) plan))
slots-begun plant plan unit task period sound has =
    slots-sum plant plan (slot_part unit (Begun task period)) (λ a. neg_ℤ (one_if (is_start unit task period a))) sound has (λ slot value. refl)
    ∙ total-negated (is_start unit task period) plan
