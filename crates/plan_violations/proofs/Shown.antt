-- The tables of a plan show what the plan breaks.
use Rattle.std.proofs.Common.{◌≡◌, ℕ, ◌+◌, ◌<◌, ◌≤◌, List, [], ◌++◌, length, arith, sym, ap, ◌∙◌, inl, inr, Bool, cond, ltb}
use Rattle.std.specs.Prelude.{ℤ}
use Rattle.std.proofs.lemmas.Bool.{cases_lt, le-ltb}
use Rattle.stn_model.specs.declared.plant.Plant.{Plant}
use Rattle.stn_model.specs.declared.start.Start.{Start}
use Rattle.plan_sim.specs.Tables.{IsStockTable, IsLoadTable}
use Rattle.plan_violations.specs.declared.breach.Breach.{Breach}
use Rattle.plan_violations.specs.Lists.{listed_below}
use Rattle.plan_violations.specs.Breaches.{of_level, of_load, stock_at, load_at, amounts_at}
use Rattle.plan_violations.specs.Shown.{level_shown, use_shown, amounts_shown}
use Rattle.plan_violations.proofs.Leads.{below_same}

module _ (plant : Plant) (plan : List Start) (stocks : List ℤ) (loads : List ℕ) (table : IsStockTable plant plan stocks) (uses : IsLoadTable plant plan loads) where
  levels_same : (time : ℕ) → time ≤ plant.periods → listed_below (level_shown plant stocks time) (length plant.states) ≡ listed_below (stock_at plant plan time) (length plant.states)
  unfolding stock_at level_shown
  levels_same time within =
      below_same (level_shown plant stocks time) (stock_at plant plan time) (length plant.states)
      (λ state there. ap (of_level plant time state) (table.level state time there within))

  uses_same : (period : ℕ) → period < plant.periods → listed_below (use_shown plant loads period) (length plant.utilities) ≡ listed_below (load_at plant plan period) (length plant.utilities)
  unfolding load_at use_shown
  uses_same period within =
      below_same (use_shown plant loads period) (load_at plant plan period) (length plant.utilities)
      (λ utility there. ap (of_load plant period utility) (uses.level utility period there within))

  later_same : (time : ℕ) → cond (ltb time plant.periods) (listed_below (use_shown plant loads time) (length plant.utilities)) [] ≡ cond (ltb time plant.periods) (listed_below (load_at plant plan time) (length plant.utilities)) []
  later_same time = elim (cases_lt time plant.periods) [
    | inl within ↦ ap (λ (xs : List Breach). cond (ltb time plant.periods) xs []) (uses_same time within)
    | inr past ↦ ap (λ (b : Bool). cond b (listed_below (use_shown plant loads time) (length plant.utilities)) []) (le-ltb time plant.periods past)
        ∙ sym (ap (λ (b : Bool). cond b (listed_below (load_at plant plan time) (length plant.utilities)) []) (le-ltb time plant.periods past))
  ]

  amounts_same : (time : ℕ) → time < plant.periods + 1 → amounts_shown plant stocks loads time ≡ amounts_at plant plan time
  unfolding amounts_at amounts_shown
  amounts_same time h =
      let within : time ≤ plant.periods = omega arith in
      ap (λ (xs : List Breach). xs ++ cond (ltb time plant.periods) (listed_below (use_shown plant loads time) (length plant.utilities)) []) (levels_same time within)
      ∙ ap (λ (ys : List Breach). listed_below (stock_at plant plan time) (length plant.states) ++ ys) (later_same time)

  pub all_same : listed_below (amounts_shown plant stocks loads) (plant.periods + 1) ≡ listed_below (amounts_at plant plan) (plant.periods + 1)
  all_same = below_same (amounts_shown plant stocks loads) (amounts_at plant plan) (plant.periods + 1) amounts_same
