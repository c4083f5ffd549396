-- The changeovers of the plant are those of the starts before and those of the rolled plant.
use Rattle.std.proofs.Common.{◌≡◌, ℕ, ◌+◌, ◌-◌, ◌<◌, ◌≤◌, Bool, true, false, cond, List, get_or, map, sum_by, refl, sym, ap, ap₂, ◌∙◌, inl, inr, arith, Option, Some, None}
use Rattle.std.specs.Prelude.{◌&&◌, ◌==◌}
use Rattle.std.proofs.lemmas.Bool.{cases_eq, cond-false, and_left, ne_eqb}
use Rattle.std.proofs.lemmas.List.Sums.{sum_by-append}
use Rattle.stn_model.specs.declared.plant.Plant.{Plant}
use Rattle.stn_model.specs.declared.start.Start.{Start}
use Rattle.stn_model.specs.Plant.{unit_at, cost_between, cost_after, first_cost}
use Rattle.stn_model.specs.Batches.{is_next, is_first}
use Rattle.stn_model.specs.Profit.{changeover, first_change, change_costs}
use Rattle.stn_model.specs.Sound.{Sound}
use Rattle.rolled_plant.specs.Kept.{later, joined, IsMendable}
use Rattle.rolled_plant.specs.Begin.{is_last, is_latest, latest, last_after, last_behind}
use Rattle.rolled_plant.specs.RolledPlant.{rolled_plant}
use Rattle.rolled_plant.proofs.Basics.{sum_by-same, sum_by-agree, sum_by-none, sum_by-map, sum_by-both, sum_by-exchange}
use Rattle.rolled_plant.proofs.Joined.{number_of, sum_only}
use Rattle.rolled_plant.proofs.Follows.{is_free, next_early, next_back, next_later, next_across, first_early, first_later}
use Rattle.rolled_plant.proofs.Latest.{one_latest, free_where_none, held_where_some}
use Rattle.rolled_plant.proofs.Ready.{first_cost_is}

module _ (plant : Plant) (before : List Start) (period : ℕ) (plan : List Start) (sound : Sound plant) (on : IsMendable plant before period) where
  -- the changeover from a start before to a later one
  across : Start → Start → ℕ
  across a y = cond (a.unit == y.unit && (is_last before a && is_first plan y)) (cost_between plant a.unit a.task y.task) 0

  -- the first changeover of a later start, where its unit is free
  freed : Start → ℕ
  freed y = cond (is_free before y.unit && is_first plan y) (first_cost plant y.unit y.task) 0

  change_early : (a b : Start) → b.period < period → changeover plant (joined before period plan) a b ≡ changeover plant before a b
  unfolding changeover
  change_early a b early = ap (λ (t : Bool). cond t (cost_between plant a.unit a.task b.task) 0) (next_early before period plan a b (let l : b.period ≤ period = omega arith in l))

  change_across : (a y : Start) → a.period < period → changeover plant (joined before period plan) a (later period y) ≡ across a y
  unfolding changeover across
  change_across a y early = ap (λ (t : Bool). cond t (cost_between plant a.unit a.task y.task) 0) (next_across before period plan a y on.earlier early)

  change_back : (x b : Start) → b.period < period → changeover plant (joined before period plan) (later period x) b ≡ 0
  unfolding changeover
  change_back x b early =
      cond-false {A = ℕ} (is_next (joined before period plan) (later period x) b) (cost_between plant x.unit x.task b.task) 0
      (next_back before period plan x b (let l : b.period ≤ period = omega arith in l))

  change_later : (x y : Start) → changeover plant (joined before period plan) (later period x) (later period y) ≡ changeover (rolled_plant plant before period) plan x y
  unfolding changeover cost_between rolled_plant
  change_later x y = ap (λ (t : Bool). cond t (cost_between plant x.unit x.task y.task) 0) (next_later before period plan x y on.earlier)

  first_change_early : (b : Start) → b.period < period → first_change plant (joined before period plan) b ≡ first_change plant before b
  unfolding first_change
  first_change_early b early = ap (λ (t : Bool). cond t (first_cost plant b.unit b.task) 0) (first_early before period plan b (let l : b.period ≤ period = omega arith in l))

  first_change_later : (y : Start) → first_change plant (joined before period plan) (later period y) ≡ freed y
  unfolding first_change freed
  first_change_later y = ap (λ (t : Bool). cond t (first_cost plant y.unit y.task) 0) (first_later before period plan y on.earlier)

  -- what follows a start before
  after_early : (a : Start) → a.period < period → sum_by (changeover plant (joined before period plan) a) (joined before period plan) ≡ sum_by (changeover plant before a) before + sum_by (across a) plan
  after_early a early =
      sum_by-append (changeover plant (joined before period plan) a) before (map (later period) plan)
      ∙ ap₂ (λ m n. m + n)
      (sum_by-agree (changeover plant (joined before period plan) a) (changeover plant before a) before (λ k d l. change_early a (get_or before k d) (on.earlier k d l)))
      (sum_by-map (changeover plant (joined before period plan) a) (later period) plan
      ∙ sum_by-same (λ y. changeover plant (joined before period plan) a (later period y)) (across a) plan (λ y. change_across a y early))

  -- what follows a later start
  after_later : (x : Start) → sum_by (changeover plant (joined before period plan) (later period x)) (joined before period plan) ≡ sum_by (changeover (rolled_plant plant before period) plan x) plan
  after_later x =
      let parts = sum_by-append (changeover plant (joined before period plan) (later period x)) before (map (later period) plan) in
      let none = sum_by-none (changeover plant (joined before period plan) (later period x)) before (λ k d l. change_back x (get_or before k d) (on.earlier k d l)) in
      let rest = sum_by-map (changeover plant (joined before period plan) (later period x)) (later period) plan
      ∙ sum_by-same (λ y. changeover plant (joined before period plan) (later period x) (later period y)) (changeover (rolled_plant plant before period) plan x) plan (change_later x) in
      omega (arith, parts, none, rest)

  -- all changeovers between batches
  between : sum_by (λ a. sum_by (changeover plant (joined before period plan) a) (joined before period plan)) (joined before period plan)
      ≡ sum_by (λ a. sum_by (changeover plant before a) before) before + sum_by (λ y. sum_by (λ a. across a y) before) plan
      + sum_by (λ x. sum_by (changeover (rolled_plant plant before period) plan x) plan) plan
  between =
      let whole = λ (a : Start). sum_by (changeover plant (joined before period plan) a) (joined before period plan) in
      let own = λ (a : Start). sum_by (changeover plant before a) before in
      let next = λ (a : Start). sum_by (across a) plan in
      let parts = sum_by-append whole before (map (later period) plan) in
      let first = sum_by-agree whole (λ a. own a + next a) before (λ k d l. after_early (get_or before k d) (on.earlier k d l)) in
      let both = sum_by-both own next before in
      let turned = sum_by-exchange across before plan in
      let rest = sum_by-map whole (later period) plan ∙ sum_by-same (λ x. whole (later period x)) (λ x. sum_by (changeover (rolled_plant plant before period) plan x) plan) plan after_later in
      omega (arith, parts, first, both, turned, rest)

  -- all first changeovers
  firsts : sum_by (first_change plant (joined before period plan)) (joined before period plan) ≡ sum_by (first_change plant before) before + sum_by freed plan
  firsts =
      sum_by-append (first_change plant (joined before period plan)) before (map (later period) plan)
      ∙ ap₂ (λ m n. m + n)
      (sum_by-agree (first_change plant (joined before period plan)) (first_change plant before) before (λ k d l. first_change_early (get_or before k d) (on.earlier k d l)))
      (sum_by-map (first_change plant (joined before period plan)) (later period) plan
      ∙ sum_by-same (λ y. first_change plant (joined before period plan) (later period y)) freed plan first_change_later)

  -- what a changeover to this start costs, after one before that is the latest on its unit
  from_latest : Start → Start → ℕ
  from_latest y a = cond (is_first plan y) (cost_between plant y.unit a.task y.task) 0

  across_is : (y a : Start) → across a y ≡ cond (is_latest before y.unit a) (from_latest y a) 0
  unfolding across from_latest
  across_is y a =
      elim (cases_eq a.unit y.unit) [
        | inl same ↦ tests (a.unit == y.unit) (is_last before a) (is_first plan y) (cost_between plant a.unit a.task y.task) (cost_between plant y.unit a.task y.task) (ap (λ (u : ℕ). cost_between plant u a.task y.task) same)
        | inr other ↦
            cond-false {A = ℕ} (a.unit == y.unit && (is_last before a && is_first plan y)) (cost_between plant a.unit a.task y.task) 0
            (and_left (a.unit == y.unit) (is_last before a && is_first plan y) (ne_eqb a.unit y.unit other))
            ∙ sym (cond-false {A = ℕ} (is_latest before y.unit a) (cond (is_first plan y) (cost_between plant y.unit a.task y.task) 0) 0 (and_left (a.unit == y.unit) (is_last before a) (ne_eqb a.unit y.unit other)))
      ]
    where
      tests : (s l f : Bool) (m n : ℕ) → m ≡ n → cond (s && (l && f)) m 0 ≡ cond (s && l) (cond f n 0) 0
      tests true true f m n e = ap (λ (k : ℕ). cond f k 0) e
      tests true false f m n e = refl
      tests false l f m n e = refl

  across_all : (y : Start) → sum_by (λ a. across a y) before ≡ number_of (from_latest y) (latest before y.unit)
  unfolding latest
  across_all y =
      sum_by-same (λ a. across a y) (λ a. cond (is_latest before y.unit a) (from_latest y a) 0) before (across_is y)
      ∙ sum_only (is_latest before y.unit) (from_latest y) before (one_latest plant before period y.unit sound on)

  -- the changeover to a first start of the rolled plant: from the latest start before, or from the batch that held its unit before all
  first_is : (y : Start) (o : Option Start) → latest before y.unit ≡ o
      → number_of (from_latest y) o + freed y ≡ cond (is_first plan y) (cost_after plant y.unit y.task (last_after plant o (unit_at plant y.unit).last)) 0
  unfolding freed from_latest first_cost
  first_is y None is =
      ap (λ (t : Bool). 0 + cond (t && is_first plan y) (cost_after plant y.unit y.task (unit_at plant y.unit).last) 0) (free_where_none plant before period y.unit sound on is)
      ∙ (let e : 0 + cond (is_first plan y) (cost_after plant y.unit y.task (unit_at plant y.unit).last) 0 ≡ cond (is_first plan y) (cost_after plant y.unit y.task (unit_at plant y.unit).last) 0 = omega arith in e)
  first_is y (Some a) is =
      ap (λ (t : Bool). cond (is_first plan y) (cost_between plant y.unit a.task y.task) 0 + cond (t && is_first plan y) (cost_after plant y.unit y.task (unit_at plant y.unit).last) 0) (held_where_some before y.unit a is)
      ∙ (let e : cond (is_first plan y) (cost_between plant y.unit a.task y.task) 0 + 0 ≡ cond (is_first plan y) (cost_between plant y.unit a.task y.task) 0 = omega arith in e)

  first_both : (y : Start) → sum_by (λ a. across a y) before + freed y ≡ first_change (rolled_plant plant before period) plan y
  unfolding first_change last_behind
  first_both y =
      ap (λ (n : ℕ). n + freed y) (across_all y)
      ∙ first_is y (latest before y.unit) refl
      ∙ ap (λ (n : ℕ). cond (is_first plan y) n 0) (sym (first_cost_is plant before period y.unit y.task sound on))

  -- the changeovers of the plant are those of the starts before, and those of the rolled plant
  pub changes_are : change_costs plant (joined before period plan) ≡ change_costs plant before + change_costs (rolled_plant plant before period) plan
  unfolding change_costs
  changes_are =
      let crossing = λ (y : Start). sum_by (λ a. across a y) before in
      let both = sum_by-both crossing freed plan in
      let same = sum_by-same (λ y. crossing y + freed y) (first_change (rolled_plant plant before period) plan) plan first_both in
      omega (arith, between, firsts, both, same)
