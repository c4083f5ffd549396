-- The money of the tables is the money of the plan.
use Rattle.std.proofs.Common.{◌≡◌, ℕ, List, length, ap, arith, ◌∙◌}
use Rattle.std.specs.Prelude.{ℤ, pos, ◌*ℤ◌, ◌+ℤ◌, ◌-ℤ◌}
use Rattle.stn_model.specs.declared.plant.Plant.{Plant}
use Rattle.stn_model.specs.declared.start.Start.{Start}
use Rattle.stn_model.specs.Plant.{state_at, utility_at, rate_in}
use Rattle.stn_model.specs.Profit.{end_value, payments, holding_cost, utility_cost, start_cost, change_costs, profit}
use Rattle.plan_sim.specs.Money.{levels_worth, levels_held, uses_cost}
use Rattle.plan_sim.specs.Tables.{IsStockTable, IsLoadTable}
use Rattle.stn_model.proofs.Totals.{total_below-agree}

module _ (plant : Plant) (plan : List Start) (stocks : List ℤ) (loads : List ℕ) (s : IsStockTable plant plan stocks) (l : IsLoadTable plant plan loads) where
  worth_is : levels_worth plant stocks ≡ end_value plant plan
  unfolding end_value
  worth_is = total_below-agree _ _ (length plant.states) (λ state h. ap (λ (x : ℤ). (state_at plant state).price *ℤ x) (s.level state plant.periods h (omega arith)))

  held_is : levels_held plant stocks ≡ holding_cost plant plan
  unfolding holding_cost
  held_is = total_below-agree _ _ (length plant.states) (λ state h. total_below-agree _ _ plant.periods (λ time k. ap (λ (x : ℤ). (state_at plant state).holding *ℤ x) (s.level state time h (omega arith))))

  uses_is : uses_cost plant loads ≡ utility_cost plant plan
  unfolding utility_cost
  uses_is = total_below-agree _ _ (length plant.utilities) (λ utility h. total_below-agree _ _ plant.periods (λ period k. ap (λ (n : ℕ). rate_in (utility_at plant utility) period *ℤ pos n) (l.level utility period h k)))

  pub profit_is : (x : ℤ) (costs : ℕ) → x ≡ (((levels_worth plant stocks +ℤ payments plant) -ℤ levels_held plant stocks) -ℤ uses_cost plant loads) -ℤ start_cost plant plan → costs ≡ change_costs plant plan → x -ℤ pos costs ≡ profit plant plan
  unfolding profit
  profit_is x costs e c =
      let a : x ≡ (((end_value plant plan +ℤ payments plant) -ℤ holding_cost plant plan) -ℤ utility_cost plant plan) -ℤ start_cost plant plan =
      e ∙ ap (λ (y : ℤ). (((y +ℤ payments plant) -ℤ levels_held plant stocks) -ℤ uses_cost plant loads) -ℤ start_cost plant plan) worth_is
      ∙ ap (λ (y : ℤ). (((end_value plant plan +ℤ payments plant) -ℤ y) -ℤ uses_cost plant loads) -ℤ start_cost plant plan) held_is
      ∙ ap (λ (y : ℤ). (((end_value plant plan +ℤ payments plant) -ℤ holding_cost plant plan) -ℤ y) -ℤ start_cost plant plan) uses_is in
      ap (λ (y : ℤ). y -ℤ pos costs) a ∙ ap (λ (n : ℕ). ((((end_value plant plan +ℤ payments plant) -ℤ holding_cost plant plan) -ℤ utility_cost plant plan) -ℤ start_cost plant plan) -ℤ pos n) c
