-- A plan earns the same on plants that are alike.
use Rattle.std.proofs.Common.{◌≡◌, ℕ, ℤ, ◌+◌, pos, ◌*ℤ◌, if◌then◌else◌, List, sum_by, refl, ap, ◌∙◌}
use Rattle.std.proofs.Math.Path.{fun_ext, ap₂}
use Rattle.stn_model.specs.declared.plant.Plant.{Plant}
use Rattle.stn_model.specs.declared.plant.State.{State}
use Rattle.stn_model.specs.declared.plant.Utility.{Utility}
use Rattle.stn_model.specs.declared.start.Start.{Start}
use Rattle.stn_model.specs.Plant.{utility_at, rate_in}
use Rattle.stn_model.specs.Batches.{is_first, is_next}
use Rattle.stn_model.specs.Stock.{stock}
use Rattle.stn_model.specs.Sums.{total, total_below}
use Rattle.stn_model.specs.Profit.{end_value, payments, holding_cost, utility_cost, cost_of, start_cost, changeover, first_change, change_costs, profit}
use Rattle.plant_labels.proofs.Alike.{AreAlike, states_length, utilities_length, state_same, utility_same}
use Rattle.plant_labels.proofs.SameBatches.{run_same, cost_same, first_cost_same}
use Rattle.plant_labels.proofs.SameStocks.{stock_same, load_same}

end_value_same : (a b : Plant) → AreAlike a b → (plan : List Start) → end_value a plan ≡ end_value b plan
unfolding end_value
end_value_same a b same plan =
    ap₂ total_below
    (fun_ext (λ state.
    ap₂ (λ (one : State) (amount : ℤ). one.price *ℤ amount)
    (state_same a b same state)
    (stock_same a b same plan state a.periods ∙ ap (stock b plan state) same.periods)))
    (states_length a b same)

payments_same : (a b : Plant) → AreAlike a b → payments a ≡ payments b
unfolding payments
payments_same a b same = rw same.deliveries refl

holding_same : (a b : Plant) → AreAlike a b → (plan : List Start) → holding_cost a plan ≡ holding_cost b plan
unfolding holding_cost
holding_same a b same plan =
    ap₂ total_below
    (fun_ext (λ state.
    ap₂ total_below
    (fun_ext (λ time.
    ap₂ (λ (one : State) (amount : ℤ). one.holding *ℤ amount)
    (state_same a b same state)
    (stock_same a b same plan state time)))
    same.periods))
    (states_length a b same)

rate_same : (a b : Plant) → AreAlike a b → (utility period : ℕ) → rate_in (utility_at a utility) period ≡ rate_in (utility_at b utility) period
unfolding rate_in
rate_same a b same utility period = ap (λ (one : Utility). rate_in one period) (utility_same a b same utility)

utility_cost_same : (a b : Plant) → AreAlike a b → (plan : List Start) → utility_cost a plan ≡ utility_cost b plan
unfolding utility_cost
utility_cost_same a b same plan =
    ap₂ total_below
    (fun_ext (λ utility.
    ap₂ total_below
    (fun_ext (λ period.
    ap₂ (λ (rate : ℤ) (amount : ℕ). rate *ℤ pos amount)
    (rate_same a b same utility period)
    (load_same a b same plan utility period)))
    same.periods))
    (utilities_length a b same)

start_cost_same : (a b : Plant) → AreAlike a b → (plan : List Start) → start_cost a plan ≡ start_cost b plan
unfolding start_cost
start_cost_same a b same plan =
    ap (λ (cost : Start → ℤ). total cost plan) (fun_ext (λ start. ap cost_of (run_same a b same start.task start.unit)))

changeover_same : (a b : Plant) → AreAlike a b → (plan : List Start) (one : Start) → changeover a plan one ≡ changeover b plan one
unfolding changeover
changeover_same a b same plan one =
    fun_ext (λ other. ap (λ (cost : ℕ). if is_next plan one other then cost else 0) (cost_same a b same one.unit one.task other.task))

first_change_same : (a b : Plant) → AreAlike a b → (plan : List Start) → first_change a plan ≡ first_change b plan
unfolding first_change
first_change_same a b same plan =
    fun_ext (λ one. ap (λ (cost : ℕ). if is_first plan one then cost else 0) (first_cost_same a b same one.unit one.task))

change_costs_same : (a b : Plant) → AreAlike a b → (plan : List Start) → change_costs a plan ≡ change_costs b plan
unfolding change_costs
change_costs_same a b same plan =
    ap₂ (λ (between first : ℕ). between + first)
    (ap (λ (cost : Start → ℕ). sum_by cost plan)
    (fun_ext (λ one. ap (λ (cost : Start → ℕ). sum_by cost plan) (changeover_same a b same plan one))))
    (ap (λ (cost : Start → ℕ). sum_by cost plan) (first_change_same a b same plan))

pub profit_same : (a b : Plant) → AreAlike a b → (plan : List Start) → profit a plan ≡ profit b plan
unfolding profit
profit_same a b same plan =
    rw (
      end_value_same a b same plan,
      payments_same a b same,
      holding_same a b same plan,
      utility_cost_same a b same plan,
      start_cost_same a b same plan,
      change_costs_same a b same plan,
    )
    refl
