-- The law of setups: rows, domains and values of an image.
use Rattle.std.proofs.Common.{◌≡◌, ℕ, zero, suc, ◌+◌, ◌-◌, ◌<◌, ◌≤◌, ◌==◌, ◌&&◌, nat_le, nat_lt, Bool, true, false, cond, List, [], ◌∷◌, ◌++◌, length, get_or, map, filter, count_by, sum_by, refl, sym, ap, ap₂, ◌∙◌, arith, inl, inr, subst, ℤ, pos, neg_ℤ, ◌+ℤ◌, ◌≤ℤ◌}
use Rattle.std.specs.List.{All, flat_map, list_any, range_with_len}
use Rattle.std.proofs.lemmas.Bool.{and_from, and_parts, cases_lt, eqb-true, leb-true, lt-ltb}
use Rattle.std.proofs.lemmas.Int.{ints}
use Rattle.std.proofs.lemmas.List.{get_or_append_left, get_or-append_right, length-append, length-map}
use Rattle.std.proofs.lemmas.List.Elements.{All-append, All-cons, All-filter, All-map, All-nil, All-weaker}
use Rattle.std.proofs.lemmas.List.Sums.{sum_by-le-sum_by}
use Rattle.stn_model.specs.declared.plant.Plant.{Plant}
use Rattle.stn_model.specs.declared.start.Start.{Start}
use Rattle.stn_model.specs.Feasible.{Feasible}
use Rattle.stn_model.specs.Fits.{Fits}
use Rattle.stn_model.specs.Plant.{end_of}
use Rattle.stn_model.specs.Profit.{change_costs, changeover, first_change}
use Rattle.stn_model.specs.Sound.{Sound}
use Rattle.stn_model.specs.Sums.{total}
use Rattle.time_grid.specs.PlanPoint.{HasPoint, plan_point}
use Rattle.time_grid.proofs.Lists.{All-below, All-flat_map}
use Rattle.time_grid.proofs.OnePlan.{has_point-feasible}
use Rattle.time_grid.proofs.SlotList.{sum_by-same}
use Rattle.row_kit.specs.declared.domain.Domain.{Domain}
use Rattle.row_kit.specs.declared.program.Program.{Program}
use Rattle.row_kit.specs.Domain.{Holds, domain_at, no_values}
use Rattle.row_kit.specs.Point.{LiesIn}
use Rattle.row_kit.specs.Row.{IsKept, entries_sum, parts_sum}
use Rattle.setup_slots.specs.declared.setup.SetupRow.{SetupRow}
use Rattle.setup_slots.specs.declared.setup.SetupRow.TheVariants.{Single, Held, Begun}
use Rattle.setup_slots.specs.declared.setup.SetupSlot.{SetupSlot}
use Rattle.setup_slots.specs.Image.{is_same, plan_setup, setup_image, setup_of, start_changes, starts_before, unit_costs}
use Rattle.setup_slots.specs.Larger.{setup_domain}
use Rattle.setup_slots.specs.Law.{BeginsWith, SetupsHaveImages, UnitCostsLess}
use Rattle.setup_slots.specs.Rows.{begun_rows, fixed_part, held_rows, is_change_to, most_of, profit_entries, row_over, rows_among, setup_part, setup_profit, setup_row, setup_rows, slot_part}
use Rattle.setup_slots.specs.Slots.{setup_slots, setup_tasks, task_slots}
use Rattle.setup_slots.proofs.Costs.{costs-setup, pairs_sum}
use Rattle.setup_slots.proofs.Events.{AreOn, events-once}
use Rattle.setup_slots.proofs.Exchange.{exchange}
use Rattle.setup_slots.proofs.Points.{IsBehind, profit-sum, row-sum, slots-begun, slots-held, slots-single, sum-append, sum-first}
use Rattle.setup_slots.proofs.Starts.{All-starts, is_before, period_less, starts-follow, starts-on, starts-open, starts-sum, sum_by-two}
use Rattle.setup_slots.proofs.Steps.{FollowAll, begun-setup, held-setup, is_running, is_start, running-most, setup-once, single-setup}

-- values that lie in domains, one part after the other
lies_both : (ds es : List Domain) (first second : List ℕ) → LiesIn ds first → LiesIn es second → LiesIn (ds ++ es) (first ++ second)
lies_both ds es first second in_ds in_es = record {
  same_length = length-append first second ∙ ap₂ (λ (m n : ℕ). m + n) in_ds.same_length in_es.same_length ∙ sym (length-append ds es);
  held = λ k lt. elim (cases_lt k (length ds)) [
    | inl low ↦
        subst (λ (d : Domain). Holds d (get_or (first ++ second) k 0)) (sym (get_or_append_left ds es no_values k low))
        (subst (Holds (domain_at ds k)) (sym (get_or_append_left first second 0 k (omega (arith, in_ds.same_length)))) (in_ds.held k low))
    | inr high ↦
        let n = length ds in
        subst (λ (d : Domain). Holds d (get_or (first ++ second) k 0)) (sym (get_or-append_right ds es n k no_values refl high))
        (subst (Holds (domain_at es (k - n))) (sym (get_or-append_right first second n k 0 in_ds.same_length high)) (in_es.held (k - n) (omega (arith, length-append ds es))))
  ];
}

-- a slot of a setup holds 0 and 1
holds_one : (v : ℕ) → v ≤ 1 → Holds setup_domain v
holds_one v most = record { at_zero = λ e. refl; above_zero = λ some. (omega arith, omega arith) }

lies_ones : (v : SetupSlot → ℕ) → ((s : SetupSlot) → v s ≤ 1) → (ss : List SetupSlot) → LiesIn (map (λ s. setup_domain) ss) (map v ss)
lies_ones v most [] = record { same_length = refl; held = λ k lt. absurd (omega arith) }
lies_ones v most (s ∷ ss) =
    let rest = lies_ones v most ss in
    record { same_length = (let h = rest.same_length in omega (arith, h)); held = each rest }
  where
    each : LiesIn (map (λ x. setup_domain) ss) (map v ss) → (k : ℕ) → k < length (map (λ x. setup_domain) (s ∷ ss)) → Holds (domain_at (map (λ x. setup_domain) (s ∷ ss)) k) (get_or (map v (s ∷ ss)) k 0)
    each rest zero lt = holds_one (v s) (most s)
    each rest (suc k) lt = rest.held k (omega arith)

-- a plan, its starts on the unit, and a point that begins with it
record IsPlaced (plant : Plant) (unit : ℕ) (plan : List Start) (first : ℕ) (point : List ℕ) : Type 0 where
  sound : Sound plant
  feasible : Feasible plant plan
  begins : BeginsWith plant plan point
  long : length point ≡ first
  room : length (task_slots plant) ≤ first

abbrev own_starts : Plant → ℕ → List Start → List Start
own_starts plant unit plan = starts_before unit plan plant.periods

follow : (plant : Plant) (unit : ℕ) (plan : List Start) (first : ℕ) (point : List ℕ) → IsPlaced plant unit plan first point → FollowAll plant unit plan (own_starts plant unit plan)
follow plant unit plan first point is = starts-follow plant unit plan is.sound is.feasible

are_on : (plant : Plant) (unit : ℕ) (plan : List Start) (first : ℕ) (point : List ℕ) → IsPlaced plant unit plan first point → AreOn plant unit (own_starts plant unit plan)
are_on plant unit plan first point is = record {
  fits = All-starts (Fits plant) unit plan plant.periods is.feasible.fits;
  on = starts-on unit plan plant.periods;
  within = All-starts (λ c. c.period < plant.periods) unit plan plant.periods (period_less plant plan is.sound is.feasible);
}

image_length : (plant : Plant) (unit : ℕ) (plan : List Start) → length (setup_image plant unit plan) ≡ length (setup_slots plant unit)
unfolding setup_image
image_length plant unit plan = length-map (setup_slots plant unit) (λ s. count_by (is_same s) (plan_setup plant unit plan))

image_most : (plant : Plant) (unit : ℕ) (plan : List Start) (first : ℕ) (point : List ℕ) → IsPlaced plant unit plan first point → (s : SetupSlot) → count_by (is_same s) (plan_setup plant unit plan) ≤ 1
image_most plant unit plan first point is s = setup-once plant unit plan (own_starts plant unit plan) (follow plant unit plan first point is) s

-- the image counts what the plan's setup does
image_sum : (plant : Plant) (unit : ℕ) (plan : List Start) (first : ℕ) (point : List ℕ) → IsPlaced plant unit plan first point → (f : SetupSlot → ℤ) →
    parts_sum (map (λ s. fixed_part (f s)) (setup_slots plant unit)) (setup_image plant unit plan) ≡ total f (plan_setup plant unit plan)
unfolding setup_image
image_sum plant unit plan first point is f =
    exchange f (setup_slots plant unit) (plan_setup plant unit plan) (image_most plant unit plan first point is)
    (events-once plant unit plan (own_starts plant unit plan) is.sound (are_on plant unit plan first point is) (follow plant unit plan first point is))

behind : (plant : Plant) (unit : ℕ) (plan : List Start) (first : ℕ) (point : List ℕ) → IsPlaced plant unit plan first point → IsBehind plant plan (setup_slots plant unit) first point (setup_image plant unit plan)
behind plant unit plan first point is = record { begins = is.begins; long = is.long; room = is.room; image_long = image_length plant unit plan }

has_point : (plant : Plant) (unit : ℕ) (plan : List Start) (first : ℕ) (point : List ℕ) → IsPlaced plant unit plan first point → HasPoint plant plan
has_point plant unit plan first point is = has_point-feasible plant plan is.sound is.feasible

-- what a row sums to at the image
row_at_image : (plant : Plant) (unit : ℕ) (plan : List Start) (first : ℕ) (point : List ℕ) (row : SetupRow) → IsPlaced plant unit plan first point →
    entries_sum (setup_row plant unit first row).entries (point ++ setup_image plant unit plan)
    ≡ parts_sum (map (λ s. fixed_part (slot_part unit row s)) (task_slots plant)) (plan_point plant plan) +ℤ total (setup_part row) (plan_setup plant unit plan)
row_at_image plant unit plan first point row is =
    let slots_count : ℤ = parts_sum (map (λ s. fixed_part (slot_part unit row s)) (task_slots plant)) (plan_point plant plan) in
    row-sum plant plan (setup_slots plant unit) unit first row point (setup_image plant unit plan) (behind plant unit plan first point is)
    ∙ ap (λ (x : ℤ). slots_count +ℤ x) (image_sum plant unit plan first point is (setup_part row))

limit_is : (plant : Plant) (unit first : ℕ) (row : SetupRow) → (setup_row plant unit first row).limit ≡ most_of row
unfolding row_over
limit_is plant unit first row = refl

kept_from : (plant : Plant) (unit : ℕ) (plan : List Start) (first : ℕ) (point : List ℕ) (row : SetupRow) (count : ℤ) → IsPlaced plant unit plan first point →
    parts_sum (map (λ s. fixed_part (slot_part unit row s)) (task_slots plant)) (plan_point plant plan) ≡ count → (count +ℤ total (setup_part row) (plan_setup plant unit plan)) ≤ℤ most_of row →
    IsKept (point ++ setup_image plant unit plan) (setup_row plant unit first row)
kept_from plant unit plan first point row count is slots_count most =
    let here = row_at_image plant unit plan first point row is in
    let limit = limit_is plant unit first row in
    omega (arith, ints, here, limit, slots_count, most)

-- what passes a test is counted among the starts on the unit, where the test says that it is one of them
both_tests : (t u : Bool) → (u ≡ true → t ≡ true) → ◌≡◌ {A = ℕ} (cond t (cond u 1 0) 0) (cond u 1 0)
both_tests true u h = refl
both_tests false true h = absurd (let bad : false ≡ true = h refl in cc)
both_tests false false h = refl

count_own : (unit : ℕ) (plan : List Start) (n : ℕ) (q : Start → Bool) → ((a : Start) → q a ≡ true → is_before unit n a ≡ true) → count_by q (starts_before unit plan n) ≡ count_by q plan
count_own unit plan n q own =
    starts-sum unit plan (λ a. cond (q a) 1 0) n
    ∙ sum_by-same (λ a. cond (is_before unit n a) (cond (q a) 1 0) 0) (λ a. cond (q a) 1 0) (λ a. both_tests (is_before unit n a) (q a) (own a)) plan

running_own : (plant : Plant) (unit task period n : ℕ) (a : Start) → period < n → is_running plant unit task period a ≡ true → is_before unit n a ≡ true
running_own plant unit task period n a less t =
    let three = and_parts (a.unit == unit && a.task == task && nat_le a.period period) (nat_lt period (end_of plant a)) t in
    let two = and_parts (a.unit == unit && a.task == task) (nat_le a.period period) three.0 in
    let one = and_parts (a.unit == unit) (a.task == task) two.0 in
    let begun = leb-true a.period period two.1 in
    and_from (a.unit == unit) (nat_lt a.period n) one.0 (lt-ltb a.period n (omega arith))

start_own : (unit task period n : ℕ) (a : Start) → period < n → is_start unit task period a ≡ true → is_before unit n a ≡ true
start_own unit task period n a less t =
    let two = and_parts (a.unit == unit && a.task == task) (a.period == period) t in
    let one = and_parts (a.unit == unit) (a.task == task) two.0 in
    let at = eqb-true a.period period two.1 in
    and_from (a.unit == unit) (nat_lt a.period n) one.0 (lt-ltb a.period n (omega arith))

-- each row is kept
single_kept : (plant : Plant) (unit : ℕ) (plan : List Start) (first : ℕ) (point : List ℕ) → IsPlaced plant unit plan first point → IsKept (point ++ setup_image plant unit plan) (setup_row plant unit first Single)
single_kept plant unit plan first point is =
    let most = single-setup (own_starts plant unit plan) in
    kept_from plant unit plan first point Single (pos 0) is (slots-single plant plan unit is.sound (has_point plant unit plan first point is)) (omega (arith, ints, most))

held_both : (plant : Plant) (unit : ℕ) (plan : List Start) (task period : ℕ) (starts : List Start) → FollowAll plant unit plan starts →
    (pos (count_by (is_running plant unit task period) starts) +ℤ total (setup_part (Held task period)) (setup_of starts)) ≤ℤ pos 0
held_both plant unit plan task period [] follows = omega (arith, ints)
held_both plant unit plan task period (a ∷ rest) follows =
    omega (arith, ints, running-most plant unit plan task period a rest follows, held-setup plant unit plan task period a rest follows)

held_kept : (plant : Plant) (unit : ℕ) (plan : List Start) (first : ℕ) (point : List ℕ) (task period : ℕ) → period < plant.periods → IsPlaced plant unit plan first point →
    IsKept (point ++ setup_image plant unit plan) (setup_row plant unit first (Held task period))
held_kept plant unit plan first point task period less is =
    let q = is_running plant unit task period in
    let counts = count_own unit plan plant.periods q (λ a t. running_own plant unit task period plant.periods a less t) in
    let most = held_both plant unit plan task period (own_starts plant unit plan) (follow plant unit plan first point is) in
    kept_from plant unit plan first point (Held task period) (pos (count_by q plan)) is (slots-held plant plan unit task period is.sound (has_point plant unit plan first point is)) (omega (arith, ints, counts, most))

begun_kept : (plant : Plant) (unit : ℕ) (plan : List Start) (first : ℕ) (point : List ℕ) (task period : ℕ) → period < plant.periods → IsPlaced plant unit plan first point →
    IsKept (point ++ setup_image plant unit plan) (setup_row plant unit first (Begun task period))
begun_kept plant unit plan first point task period less is =
    let q = is_start unit task period in
    let counts = count_own unit plan plant.periods q (λ a t. start_own unit task period plant.periods a less t) in
    let most = begun-setup unit task period (own_starts plant unit plan) (starts-on unit plan plant.periods) in
    kept_from plant unit plan first point (Begun task period) (neg_ℤ (pos (count_by q plan))) is (slots-begun plant plan unit task period is.sound (has_point plant unit plan first point is)) (omega (arith, ints, counts, most))

-- what holds of each kind of row holds of all rows
pub All-rows : (P : SetupRow → Type 0) (tasks : List ℕ) (setups : List SetupSlot) (periods : ℕ) → P Single → ((task period : ℕ) → period < periods → P (Held task period)) → ((task period : ℕ) → period < periods → P (Begun task period)) →
    All P (rows_among tasks setups periods)
unfolding rows_among held_rows begun_rows
All-rows P tasks setups periods single held begun =
    let range = range_with_len 0 periods in
    All-append P (Single ∷ []) (flat_map (held_rows periods) tasks ++ flat_map (begun_rows setups periods) tasks)
    (All-cons P Single [] single (All-nil P))
    (All-append P (flat_map (held_rows periods) tasks) (flat_map (begun_rows setups periods) tasks)
    (All-flat_map P (held_rows periods) tasks (λ k d l.
    let task = get_or tasks k d in
    All-map P (Held task) range (All-weaker (λ t. t < periods) (λ t. P (Held task t)) (λ t less. held task t less) range (All-below periods))))
    (All-flat_map P (begun_rows setups periods) tasks (λ k d l.
    let task = get_or tasks k d in
    let test : ℕ → Bool = λ t. list_any (is_change_to task t) setups in
    All-map P (Begun task) (filter test range)
    (All-weaker (λ t. t < periods) (λ t. P (Begun task t)) (λ t less. begun task t less) (filter test range) (All-filter test (λ t. t < periods) range (All-below periods))))))

rows_kept : (plant : Plant) (unit : ℕ) (plan : List Start) (first : ℕ) (point : List ℕ) → IsPlaced plant unit plan first point →
    All (IsKept (point ++ setup_image plant unit plan)) (map (setup_row plant unit first) (setup_rows plant unit))
rows_kept plant unit plan first point is =
    All-map (IsKept (point ++ setup_image plant unit plan)) (setup_row plant unit first) (setup_rows plant unit)
    (All-rows (λ row. IsKept (point ++ setup_image plant unit plan) (setup_row plant unit first row)) (setup_tasks plant unit) (setup_slots plant unit) plant.periods
    (single_kept plant unit plan first point is)
    (λ task period less. held_kept plant unit plan first point task period less is)
    (λ task period less. begun_kept plant unit plan first point task period less is))

-- what the changes of the plan cost is at most what its changeovers on the unit do
cond_most : (t u : Bool) (n : ℕ) → cond (t && u) n 0 ≤ cond t n 0
cond_most true true n = omega arith
cond_most true false n = omega arith
cond_most false u n = omega arith

cond_less : (t : Bool) (m n : ℕ) → m ≤ n → cond t m 0 ≤ cond t n 0
cond_less true m n less = less
cond_less false m n less = omega arith

cond_all : (t : Bool) (n : ℕ) → cond t n 0 ≤ n
cond_all true n = omega arith
cond_all false n = omega arith

starts_less : (unit : ℕ) (plan : List Start) (n : ℕ) (f : Start → ℕ) → sum_by f (starts_before unit plan n) ≤ sum_by f plan
starts_less unit plan n f =
    omega (arith, starts-sum unit plan f n, sum_by-le-sum_by (λ a. cond (is_before unit n a) (f a) 0) f plan (λ a. cond_all (is_before unit n a) (f a)))

own-less : (plant : Plant) (unit : ℕ) (plan : List Start) → pairs_sum (changeover plant plan) (own_starts plant unit plan) + sum_by (first_change plant plan) (own_starts plant unit plan) ≤ unit_costs plant unit plan
unfolding unit_costs
own-less plant unit plan =
    let n = plant.periods in
    let starts = starts_before unit plan n in
    let f = start_changes plant plan in
    let own : Start → ℕ = λ a. sum_by (changeover plant plan a) starts in
    let inner = sum_by-le-sum_by (λ a. own a + first_change plant plan a) f starts (λ a. omega (arith, starts_less unit plan n (changeover plant plan a))) in
    let outer = sum_by-le-sum_by (λ a. cond (is_before unit n a) (f a) 0) (λ a. cond (a.unit == unit) (f a) 0) plan (λ a. cond_most (a.unit == unit) (nat_lt a.period n) (f a)) in
    omega (arith, sum_by-two own (first_change plant plan) starts, inner, starts-sum unit plan f n, outer)

-- what all changeovers cost, start by start
pub costs-are : (plant : Plant) (plan : List Start) → change_costs plant plan ≡ sum_by (start_changes plant plan) plan
unfolding change_costs
costs-are plant plan = sym (sum_by-two (λ a. sum_by (changeover plant plan a) plan) (first_change plant plan) plan)

pub costs-less : UnitCostsLess
unfolding unit_costs
costs-less plant unit plan =
    let f = start_changes plant plan in
    omega (arith, costs-are plant plan, sum_by-le-sum_by (λ a. cond (a.unit == unit) (f a) 0) f plan (λ a. cond_all (a.unit == unit) (f a)))

-- the image's value
profit_at_image : (plant : Plant) (unit : ℕ) (plan : List Start) (first : ℕ) (point : List ℕ) → IsPlaced plant unit plan first point →
    pos 0 ≤ℤ (entries_sum (profit_entries plant unit first) (point ++ setup_image plant unit plan) +ℤ pos (unit_costs plant unit plan))
profit_at_image plant unit plan first point is =
    let sum = profit-sum plant unit first point (setup_image plant unit plan) is.long (image_length plant unit plan) in
    let image = image_sum plant unit plan first point is (setup_profit plant unit) in
    let costs = costs-setup plant unit plan (own_starts plant unit plan) (follow plant unit plan first point is) (starts-open plant unit plan is.sound is.feasible) (starts-on unit plan plant.periods) in
    omega (arith, ints, sum, image, costs, own-less plant unit plan)

-- rows of the given program are kept as before
old_kept : (program : Program) (point more : List ℕ) → length point ≡ length program.root → All (IsKept point) program.rows → All (IsKept (point ++ more)) program.rows
old_kept program point more long kept k d l =
    let row = get_or program.rows k d in
    let named = program.rows_bounded k d l in
    subst (λ (x : ℤ). x ≤ℤ row.limit) (sym (sum-first row.entries point more (subst (λ (n : ℕ). All (λ e. e.slot < n) row.entries) (sym long) named.entries.named))) (kept k d l)

-- the law of setups
pub law : SetupsHaveImages
unfolding setup_image
law plant unit program larger plan point sound room with_setups feasible begins lawful =
    let first = length program.root in
    let image = setup_image plant unit plan in
    let long = lawful.lies.same_length in
    let is : IsPlaced plant unit plan first point = record { sound = sound; feasible = feasible; begins = begins; long = long; room = room } in
    let setups = setup_slots plant unit in
    let lies = lies_both program.root (map (λ s. setup_domain) setups) point image lawful.lies (lies_ones (λ s. count_by (is_same s) (plan_setup plant unit plan)) (image_most plant unit plan first point is) setups) in
    let rows = All-append (IsKept (point ++ image)) program.rows (map (setup_row plant unit first) (setup_rows plant unit)) (old_kept program point image long lawful.keeps) (rows_kept plant unit plan first point is) in
    let named = subst (λ (n : ℕ). All (λ e. e.slot < n) program.profit) (sym long) program.profit_bounded.named in
    let profit : entries_sum larger.profit (point ++ image) ≡ entries_sum program.profit point +ℤ entries_sum (profit_entries plant unit first) (point ++ image) =
    ap (λ es. entries_sum es (point ++ image)) with_setups.profit ∙ sum-append program.profit (profit_entries plant unit first) (point ++ image)
    ∙ ap (λ (x : ℤ). x +ℤ entries_sum (profit_entries plant unit first) (point ++ image)) (sum-first program.profit point image named) in
    let costs = profit_at_image plant unit plan first point is in
    record {
      lawful = record {
        lies = subst (λ ds. LiesIn ds (point ++ image)) (sym with_setups.root) lies;
        keeps = subst (All (IsKept (point ++ image))) (sym with_setups.rows) rows;
      };
      value = omega (arith, ints, profit, costs, with_setups.base);
    }
