-- What a plan earns on the plant and on the rolled plant.
use Rattle.std.proofs.Common.{◌≡◌, ℕ, zero, suc, ◌+◌, ◌-◌, ◌<◌, List, [], length, map, sym, ap, ap₂, ◌∙◌, arith, append-nil}
use Rattle.std.specs.Prelude.{ℤ, pos, ◌+ℤ◌, ◌*ℤ◌}
use Rattle.std.proofs.lemmas.Int.{ints}
use Rattle.std.proofs.Math.IntN.{suc_ℤ-*ℤ, *ℤ-zero, *ℤ_comm}
use Rattle.stn_model.specs.declared.plant.Plant.{Plant}
use Rattle.stn_model.specs.declared.plant.State.{State}
use Rattle.stn_model.specs.declared.start.Start.{Start}
use Rattle.stn_model.specs.Sums.{total, total_below}
use Rattle.stn_model.specs.Plant.{state_at, utility_at, rate_in, run_on}
use Rattle.stn_model.specs.Stock.{stock}
use Rattle.stn_model.specs.Load.{load}
use Rattle.stn_model.specs.Profit.{end_value, holding_cost, utility_cost, cost_of, start_cost, change_costs, profit}
use Rattle.stn_model.specs.Sound.{Sound}
use Rattle.stn_model.proofs.Totals.{total_below-agree}
use Rattle.rolled_plant.specs.Kept.{later, joined, IsMendable}
use Rattle.rolled_plant.specs.RolledPlant.{rolled_plant}
use Rattle.rolled_plant.specs.RollLaw.{earned_before}
use Rattle.rolled_plant.proofs.Basics.{total-append, total-map, total_below-split, total_below-both}
use Rattle.rolled_plant.proofs.Stocks.{state_is, states_are, stock_later, stock_early}
use Rattle.rolled_plant.proofs.Loads.{utilities_are, load_later, load_early, rate_later}
use Rattle.rolled_plant.proofs.Feasibility.{periods_are}
use Rattle.rolled_plant.proofs.Changeovers.{changes_are}

times_suc : (c : ℤ) (n : ℕ) → c *ℤ pos (suc n) ≡ (c *ℤ pos n) +ℤ c
times_suc c n = *ℤ_comm c (pos (suc n)) ∙ suc_ℤ-*ℤ (pos n) c ∙ ap (λ x. x +ℤ c) (*ℤ_comm (pos n) c)

-- a price of a sum
times_sum : (c : ℤ) (m n : ℕ) → c *ℤ pos (m + n) ≡ (c *ℤ pos m) +ℤ (c *ℤ pos n)
times_sum c m zero = let e : m + 0 ≡ m = omega arith in ap (λ (k : ℕ). c *ℤ pos k) e ∙ omega (arith, ints, *ℤ-zero c)
times_sum c m (suc n) =
    let e : m + suc n ≡ suc (m + n) = omega arith in
    ap (λ (k : ℕ). c *ℤ pos k) e ∙ omega (arith, ints, times_suc c (m + n), times_suc c n, times_sum c m n)

module _ (plant : Plant) (before : List Start) (period : ℕ) (sound : Sound plant) (within : period < plant.periods) (on : IsMendable plant before period) where
  rest_is : period + (plant.periods - period) ≡ plant.periods
  rest_is = omega arith

  -- ---- end stocks

  last_stock : (plan : List Start) (state : ℕ) → state < length plant.states
      → stock (rolled_plant plant before period) plan state (rolled_plant plant before period).periods ≡ stock plant (joined before period plan) state plant.periods
  last_stock plan state there =
      ap (stock (rolled_plant plant before period) plan state) (periods_are plant before period)
      ∙ stock_later plant before period plan state (plant.periods - period) on there (omega arith)
      ∙ ap (stock plant (joined before period plan) state) rest_is

  ends_are : (plan : List Start) → end_value (rolled_plant plant before period) plan ≡ end_value plant (joined before period plan)
  unfolding end_value
  ends_are plan =
      let here = λ (state : ℕ). (state_at (rolled_plant plant before period) state).price *ℤ stock (rolled_plant plant before period) plan state (rolled_plant plant before period).periods in
      let there = λ (state : ℕ). (state_at plant state).price *ℤ stock plant (joined before period plan) state plant.periods in
      ap (total_below here) (states_are plant before period)
      ∙ total_below-agree here there (length plant.states)
      (λ state l. ap₂ (λ (a b : ℤ). a *ℤ b) (ap (λ (s : State). s.price) (state_is plant before period state l)) (last_stock plan state l))

  -- ---- holding

  held_at : List Start → ℕ → ℕ → ℤ
  held_at plan state time = (state_at plant state).holding *ℤ stock plant plan state time

  -- what holding costs before the period
  held_before : ℤ
  held_before = total_below (λ state. total_below (held_at before state) period) (length plant.states)

  held_row : (plan : List Start) (state : ℕ) → state < length plant.states
      → total_below (held_at (joined before period plan) state) plant.periods
      ≡ total_below (held_at before state) period
      +ℤ total_below (λ time. (state_at (rolled_plant plant before period) state).holding *ℤ stock (rolled_plant plant before period) plan state time) (rolled_plant plant before period).periods
  unfolding held_at
  held_row plan state there =
      let whole = held_at (joined before period plan) state in
      let here = λ (time : ℕ). (state_at (rolled_plant plant before period) state).holding *ℤ stock (rolled_plant plant before period) plan state time in
      ap (total_below whole) (sym rest_is)
      ∙ total_below-split whole period (plant.periods - period)
      ∙ ap₂ (λ (a b : ℤ). a +ℤ b)
      (total_below-agree whole (held_at before state) period (λ time l. ap (λ (z : ℤ). (state_at plant state).holding *ℤ z) (stock_early plant before period plan state time l)))
      (total_below-agree (λ k. whole (period + k)) here (plant.periods - period)
      (λ time l. sym (ap₂ (λ (a b : ℤ). a *ℤ b) (ap (λ (s : State). s.holding) (state_is plant before period state there)) (stock_later plant before period plan state time on there (omega arith))))
      ∙ ap (total_below here) (sym (periods_are plant before period)))

  held_are : (plan : List Start) → holding_cost plant (joined before period plan) ≡ held_before +ℤ holding_cost (rolled_plant plant before period) plan
  unfolding holding_cost held_before held_at
  held_are plan =
      let row = λ (state : ℕ). total_below (λ time. (state_at (rolled_plant plant before period) state).holding *ℤ stock (rolled_plant plant before period) plan state time) (rolled_plant plant before period).periods in
      let early = λ (state : ℕ). total_below (held_at before state) period in
      total_below-agree (λ state. total_below (held_at (joined before period plan) state) plant.periods) (λ state. early state +ℤ row state) (length plant.states) (held_row plan)
      ∙ total_below-both early row (length plant.states)
      ∙ ap (λ (n : ℕ). total_below early (length plant.states) +ℤ total_below row n) (sym (states_are plant before period))

  -- ---- utilities

  cost_at : List Start → ℕ → ℕ → ℤ
  cost_at plan utility time = rate_in (utility_at plant utility) time *ℤ pos (load plant plan utility time)

  cost_here : List Start → ℕ → ℕ → ℤ
  cost_here plan utility time = rate_in (utility_at (rolled_plant plant before period) utility) time *ℤ pos (load (rolled_plant plant before period) plan utility time)

  cost_later : (plan : List Start) (utility time : ℕ) → utility < length plant.utilities → cost_at (joined before period plan) utility (period + time) ≡ cost_at before utility (period + time) +ℤ cost_here plan utility time
  unfolding cost_at cost_here
  cost_later plan utility time there =
      let rate = rate_in (utility_at plant utility) (period + time) in
      ap (λ (n : ℕ). rate *ℤ pos n) (load_later plant before period plan utility time)
      ∙ times_sum rate (load plant before utility (period + time)) (load (rolled_plant plant before period) plan utility time)
      ∙ ap (λ (r : ℤ). (rate *ℤ pos (load plant before utility (period + time))) +ℤ (r *ℤ pos (load (rolled_plant plant before period) plan utility time))) (sym (rate_later plant before period utility time there))

  cost_row : (plan : List Start) (utility : ℕ) → utility < length plant.utilities
      → total_below (cost_at (joined before period plan) utility) plant.periods ≡ total_below (cost_at before utility) plant.periods +ℤ total_below (cost_here plan utility) (rolled_plant plant before period).periods
  unfolding cost_at
  cost_row plan utility there =
      let whole = cost_at (joined before period plan) utility in
      let own = cost_at before utility in
      let rest = plant.periods - period in
      let all = ap (total_below whole) (sym rest_is) ∙ total_below-split whole period rest in
      let all_own = ap (total_below own) (sym rest_is) ∙ total_below-split own period rest in
      let early = total_below-agree whole own period (λ time l. ap (λ (n : ℕ). rate_in (utility_at plant utility) time *ℤ pos n) (load_early plant before period plan utility time l)) in
      let late = total_below-agree (λ k. whole (period + k)) (λ k. own (period + k) +ℤ cost_here plan utility k) rest (λ time l. cost_later plan utility time there) in
      let both = total_below-both (λ k. own (period + k)) (cost_here plan utility) rest in
      let last = ap (total_below (cost_here plan utility)) (periods_are plant before period) in
      omega (arith, ints, all, all_own, early, late, both, last)

  costs_are : (plan : List Start) → utility_cost plant (joined before period plan) ≡ utility_cost plant before +ℤ utility_cost (rolled_plant plant before period) plan
  unfolding utility_cost cost_at cost_here
  costs_are plan =
      let own = λ (utility : ℕ). total_below (cost_at before utility) plant.periods in
      let row = λ (utility : ℕ). total_below (cost_here plan utility) (rolled_plant plant before period).periods in
      total_below-agree (λ utility. total_below (cost_at (joined before period plan) utility) plant.periods) (λ utility. own utility +ℤ row utility) (length plant.utilities) (cost_row plan)
      ∙ total_below-both own row (length plant.utilities)
      ∙ ap (λ (n : ℕ). total_below own (length plant.utilities) +ℤ total_below row n) (sym (utilities_are plant before period))

  -- ---- starts

  starts_are : (plan : List Start) → start_cost plant (joined before period plan) ≡ start_cost plant before +ℤ start_cost (rolled_plant plant before period) plan
  unfolding start_cost run_on rolled_plant
  starts_are plan =
      let cost = λ (x : Start). cost_of (run_on plant x.task x.unit) in
      total-append cost before (map (later period) plan) ∙ ap (λ (z : ℤ). total cost before +ℤ z) (total-map cost (later period) plan)

  -- ---- the profit

  none_behind : joined before period [] ≡ before
  none_behind = append-nil before

  -- the profit of the plant is that of the rolled plant, and what was earned before
  pub earns : (plan : List Start) → profit plant (joined before period plan) ≡ profit (rolled_plant plant before period) plan +ℤ earned_before plant before period
  unfolding profit earned_before
  earns plan =
      let nothing = none_behind in
      let ends = ends_are plan in
      let ends_none = ends_are [] ∙ ap (end_value plant) nothing in
      let held = held_are plan in
      let held_none = sym (ap (holding_cost plant) nothing) ∙ held_are [] in
      let costs = costs_are plan in
      let costs_none = sym (ap (utility_cost plant) nothing) ∙ costs_are [] in
      let starts = starts_are plan in
      let starts_none = sym (ap (start_cost plant) nothing) ∙ starts_are [] in
      let changes = changes_are plant before period plan sound on in
      let changes_none = sym (ap (change_costs plant) nothing) ∙ changes_are plant before period [] sound on in
      omega (arith, ints, ends, ends_none, held, held_none, costs, costs_none, starts, starts_none, changes, changes_none)
