-- What plans of the rolled plant are to the plant.
use Rattle.std.proofs.Common.{◌≡◌, ℕ, ◌+◌, ◌-◌, ◌≤◌, Bool, true, not, List, [], ◌∷◌, ◌++◌, map, filter, refl, sym, ap, ap₂, ◌∙◌, subst, arith, All}
use Rattle.std.specs.Prelude.{IsPermutation}
use Rattle.std.proofs.lemmas.Bool.{ltb-false, not-true}
use Rattle.std.proofs.lemmas.List.Elements.{All-head, All-tail, filter_passes}
use Rattle.std.proofs.lemmas.List.Sorted.{IsPermutation-filter_both, IsPermutation-sym}
use Rattle.stn_model.specs.declared.start.Start.{Start}
use Rattle.time_grid.proofs.Reordered.{Feasible-permutation, profit-permutation}
use Rattle.rolled_plant.specs.Kept.{is_before, joined, kept, later, moved, sooner}
use Rattle.rolled_plant.specs.RollLaw.{RestLaw, RollLaw}
use Rattle.rolled_plant.proofs.Earned.{earns}
use Rattle.rolled_plant.proofs.Feasibility.{here, there}

pub of_lists : RollLaw
of_lists plant before period sound within on plan = record {
  feasible = (there plant before period plan sound on within, here plant before period plan sound on within);
  earns = earns plant before period sound within on plan;
}

-- a start that is moved is as it was so many periods later
back : (period : ℕ) (start : Start) → not (is_before period start) ≡ true → later period (sooner period start) ≡ start
back period start late =
    let from : period ≤ start.period = ltb-false start.period period (not-true (is_before period start) late) in
    let same : period + (start.period - period) ≡ start.period = omega arith in
    ap (λ (n : ℕ). record start { period = n }) same

all_back : (period : ℕ) (plan : List Start) → All (λ start. not (is_before period start) ≡ true) plan → map (later period) (map (sooner period) plan) ≡ plan
all_back period [] late = refl
all_back period (start ∷ plan) late =
    ap₂ (λ (x : Start) (xs : List Start). x ∷ xs) (back period start (All-head (λ x. not (is_before period x) ≡ true) start plan late))
    (all_back period plan (All-tail (λ x. not (is_before period x) ≡ true) start plan late))

-- the starts before a period, and behind them those that were moved, are the plan in another order
parted : (plan : List Start) (period : ℕ) → IsPermutation plan (joined (kept plan period) period (moved plan period))
unfolding kept moved
parted plan period =
    let late : Start → Bool = λ start. not (is_before period start) in
    subst (λ (rest : List Start). IsPermutation plan (filter (is_before period) plan ++ rest))
    (sym (all_back period (filter late plan) (filter_passes late plan)))
    (IsPermutation-filter_both (is_before period) late (λ start. refl) plan)

pub of_plans : RestLaw
of_plans plant plan period sound within on =
    let law = of_lists plant (kept plan period) period sound within on (moved plan period) in
    let whole = joined (kept plan period) period (moved plan period) in
    let order = parted plan period in
    record {
      feasible = (λ is. Feasible-permutation plant whole plan (IsPermutation-sym plan whole order) (law.feasible.0 is), λ is. law.feasible.1 (Feasible-permutation plant plan whole order is));
      earns = profit-permutation plant plan whole order ∙ law.earns;
    }
