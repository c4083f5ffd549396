-- A plan that one plant can carry out, one that is alike can carry out.
use Rattle.std.proofs.Common.{◌≡◌, ℕ, ℤ, ◌+◌, ◌≤◌, ◌≤ℤ◌, ◌⊎◌, pos, Bool, IsTrue, List, All, AllPairs, slice_get, slice_index, IfSome, subst, arith}
use Rattle.std.proofs.Math.Path.{fun_ext, ap₂}
use Rattle.stn_model.specs.declared.plant.Plant.{Plant}
use Rattle.stn_model.specs.declared.plant.State.{State}
use Rattle.stn_model.specs.declared.plant.Utility.{Utility}
use Rattle.stn_model.specs.declared.start.Start.{Start}
use Rattle.stn_model.specs.Plant.{state_at, utility_at}
use Rattle.stn_model.specs.Batches.{is_first, is_next}
use Rattle.stn_model.specs.Stock.{stock}
use Rattle.stn_model.specs.Load.{load}
use Rattle.stn_model.specs.Feasible.{StockKept, LoadKept, Feasible}
use Rattle.plant_labels.proofs.Alike.{AreAlike, states_length, utilities_length, state_same, utility_same}
use Rattle.plant_labels.proofs.SameBatches.{fit_same, end_same, gap_same, ready_same}
use Rattle.plant_labels.proofs.SameStocks.{stock_same, load_same}

stock_kept : (a b : Plant) → AreAlike a b → (plan : List Start) (state time : ℕ) → StockKept a plan state time → StockKept b plan state time
stock_kept a b same plan state time kept = record {
  low = subst (λ (amount : ℤ). pos 0 ≤ℤ amount) (stock_same a b same plan state time) kept.low;
  high =
      subst (λ (one : State). IfSome (slice_get one.limits time) (λ limit. stock b plan state time ≤ℤ pos limit)) (state_same a b same state)
      (subst (λ (amount : ℤ). IfSome (slice_get (state_at a state).limits time) (λ limit. amount ≤ℤ pos limit)) (stock_same a b same plan state time) kept.high);
}

load_kept : (a b : Plant) → AreAlike a b → (plan : List Start) (utility period : ℕ) → LoadKept a plan utility period → LoadKept b plan utility period
load_kept a b same plan utility period kept =
    subst (λ (one : Utility). load b plan utility period ≤ slice_index one.limits period) (utility_same a b same utility)
    (subst (λ (amount : ℕ). amount ≤ slice_index (utility_at a utility).limits period) (load_same a b same plan utility period) kept)

pub feasible_same : (a b : Plant) → AreAlike a b → (plan : List Start) → Feasible a plan → Feasible b plan
feasible_same a b same plan feasible = record {
  fits = subst (λ (fits : Start → Bool). All (λ start. IsTrue (fits start)) plan) (fun_ext (fit_same a b same)) feasible.fits;
  apart =
      subst (λ (end : Start → ℕ). AllPairs (λ x y. x.unit ≡ y.unit → (end x ≤ y.period) ⊎ (end y ≤ x.period)) plan)
      (fun_ext (end_same a b same)) feasible.apart;
  cleaned =
      subst (λ (free : Start → Start → ℕ). All (λ x. All (λ y. IsTrue (is_next plan x y) → free x y ≤ y.period) plan) plan)
      (fun_ext (λ x. fun_ext (λ y. ap₂ (λ (end gap : ℕ). end + gap) (end_same a b same x) (gap_same a b same x.unit x.task y.task))))
      feasible.cleaned;
  begun =
      subst (λ (ready : Start → ℕ). All (λ y. IsTrue (is_first plan y) → ready y ≤ y.period) plan)
      (fun_ext (λ y. ready_same a b same y.unit y.task)) feasible.begun;
  stocks = λ state time within early.
      stock_kept a b same plan state time
      (feasible.stocks state time (omega (arith, within, states_length a b same)) (omega (arith, early, same.periods)));
  loads = λ utility period within early.
      load_kept a b same plan utility period
      (feasible.loads utility period (omega (arith, within, utilities_length a b same)) (omega (arith, early, same.periods)));
}
