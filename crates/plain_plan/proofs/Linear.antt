-- The profit of a list of starts: without the changeover costs it is that of doing nothing and what its starts gain.
use Rattle.std.proofs.Common.{◌≡◌, ℕ, zero, suc, List, [], ◌∷◌, length, ℤ, pos, negsuc, ◌+ℤ◌, ◌-ℤ◌, ◌*ℤ◌, refl, arith}
use lib.IntN.{suc_ℤ-*ℤ, pred_ℤ-*ℤ, zero-*ℤ}
use Rattle.std.proofs.lemmas.Int.{ints}
use Rattle.std.proofs.lemmas.List.Sums.{sum_by-cons}
use Rattle.stn_model.specs.declared.plant.Plant.{Plant}
use Rattle.stn_model.specs.declared.start.Start.{Start}
use Rattle.stn_model.specs.Plant.{state_at, utility_at, rate_in}
use Rattle.stn_model.specs.Stock.{given, taken, inflow, outflow, stock}
use Rattle.stn_model.specs.Load.{drawn, load}
use Rattle.stn_model.specs.Sums.{total, total_below}
use Rattle.stn_model.specs.Profit.{end_value, holding_cost, utility_cost, start_cost, change_costs, profit}
use Rattle.plain_plan.proofs.SmallProfit.{change_costs-nil}

-- equal sums stay equal where each part is multiplied
pub times-parts : (p x y z w : ℤ) → x +ℤ y ≡ z +ℤ w → p *ℤ x +ℤ p *ℤ y ≡ p *ℤ z +ℤ p *ℤ w
times-parts (pos zero) x y z w e = rw (zero-*ℤ x, zero-*ℤ y, zero-*ℤ z, zero-*ℤ w) refl
times-parts (pos (suc n)) x y z w e =
    let ih = times-parts (pos n) x y z w e in
    let a : pos (suc n) *ℤ x ≡ pos n *ℤ x +ℤ x = suc_ℤ-*ℤ (pos n) x in
    let b : pos (suc n) *ℤ y ≡ pos n *ℤ y +ℤ y = suc_ℤ-*ℤ (pos n) y in
    let c : pos (suc n) *ℤ z ≡ pos n *ℤ z +ℤ z = suc_ℤ-*ℤ (pos n) z in
    let d : pos (suc n) *ℤ w ≡ pos n *ℤ w +ℤ w = suc_ℤ-*ℤ (pos n) w in
    rw (a, b, c, d) (sums (pos n *ℤ x) (pos n *ℤ y) (pos n *ℤ z) (pos n *ℤ w) x y z w ih e)
  where
    sums : (a b c d x y z w : ℤ) → a +ℤ b ≡ c +ℤ d → x +ℤ y ≡ z +ℤ w → (a +ℤ x) +ℤ (b +ℤ y) ≡ (c +ℤ z) +ℤ (d +ℤ w)
    sums a b c d x y z w e f = omega (arith, ints, e, f)
times-parts (negsuc zero) x y z w e =
    let a : negsuc zero *ℤ x ≡ pos zero *ℤ x -ℤ x = pred_ℤ-*ℤ (pos zero) x in
    let b : negsuc zero *ℤ y ≡ pos zero *ℤ y -ℤ y = pred_ℤ-*ℤ (pos zero) y in
    let c : negsuc zero *ℤ z ≡ pos zero *ℤ z -ℤ z = pred_ℤ-*ℤ (pos zero) z in
    let d : negsuc zero *ℤ w ≡ pos zero *ℤ w -ℤ w = pred_ℤ-*ℤ (pos zero) w in
    rw (a, b, c, d) (rw (zero-*ℤ x, zero-*ℤ y, zero-*ℤ z, zero-*ℤ w) (omega (arith, ints, e)))
times-parts (negsuc (suc n)) x y z w e =
    let ih = times-parts (negsuc n) x y z w e in
    let a : negsuc (suc n) *ℤ x ≡ negsuc n *ℤ x -ℤ x = pred_ℤ-*ℤ (negsuc n) x in
    let b : negsuc (suc n) *ℤ y ≡ negsuc n *ℤ y -ℤ y = pred_ℤ-*ℤ (negsuc n) y in
    let c : negsuc (suc n) *ℤ z ≡ negsuc n *ℤ z -ℤ z = pred_ℤ-*ℤ (negsuc n) z in
    let d : negsuc (suc n) *ℤ w ≡ negsuc n *ℤ w -ℤ w = pred_ℤ-*ℤ (negsuc n) w in
    rw (a, b, c, d) (sums (negsuc n *ℤ x) (negsuc n *ℤ y) (negsuc n *ℤ z) (negsuc n *ℤ w) x y z w ih e)
  where
    sums : (a b c d x y z w : ℤ) → a +ℤ b ≡ c +ℤ d → x +ℤ y ≡ z +ℤ w → (a -ℤ x) +ℤ (b -ℤ y) ≡ (c -ℤ z) +ℤ (d -ℤ w)
    sums a b c d x y z w e f = omega (arith, ints, e, f)

-- equal sums at each place add up to equal sums
below-parts : (f g h k : ℕ → ℤ) → ((j : ℕ) → f j +ℤ g j ≡ h j +ℤ k j) → (n : ℕ) → total_below f n +ℤ total_below g n ≡ total_below h n +ℤ total_below k n
below-parts f g h k e zero = refl
below-parts f g h k e (suc n) = let a = e n in let ih = below-parts f g h k e n in omega (arith, ints, a, ih)

module _ (plant : Plant) (a : Start) (P : List Start) where
  stock-parts : (state time : ℕ) → stock plant (a ∷ P) state time +ℤ stock plant [] state time ≡ stock plant P state time +ℤ stock plant (a ∷ []) state time
  unfolding stock inflow outflow
  stock-parts state time =
      let come = sum_by-cons (given plant state time) a P in
      let gone = sum_by-cons (taken plant state time) a P in
      omega (arith, ints, come, gone)

  load-parts : (utility period : ℕ) → pos (load plant (a ∷ P) utility period) +ℤ pos (load plant [] utility period) ≡ pos (load plant P utility period) +ℤ pos (load plant (a ∷ []) utility period)
  unfolding load
  load-parts utility period = let more = sum_by-cons (drawn plant utility period) a P in omega (arith, ints, more)

  worth-parts : end_value plant (a ∷ P) +ℤ end_value plant [] ≡ end_value plant P +ℤ end_value plant (a ∷ [])
  unfolding end_value
  worth-parts = below-parts (λ state. (state_at plant state).price *ℤ stock plant (a ∷ P) state plant.periods) (λ state. (state_at plant state).price *ℤ stock plant [] state plant.periods)
      (λ state. (state_at plant state).price *ℤ stock plant P state plant.periods) (λ state. (state_at plant state).price *ℤ stock plant (a ∷ []) state plant.periods)
      (λ state. times-parts (state_at plant state).price (stock plant (a ∷ P) state plant.periods) (stock plant [] state plant.periods) (stock plant P state plant.periods) (stock plant (a ∷ []) state plant.periods) (stock-parts state plant.periods))
      (length plant.states)

  holding-parts : holding_cost plant (a ∷ P) +ℤ holding_cost plant [] ≡ holding_cost plant P +ℤ holding_cost plant (a ∷ [])
  unfolding holding_cost
  holding-parts =
      let held : List Start → ℕ → ℕ → ℤ = λ plan state time. (state_at plant state).holding *ℤ stock plant plan state time in
      below-parts (λ state. total_below (held (a ∷ P) state) plant.periods) (λ state. total_below (held [] state) plant.periods)
      (λ state. total_below (held P state) plant.periods) (λ state. total_below (held (a ∷ []) state) plant.periods)
      (λ state. below-parts (held (a ∷ P) state) (held [] state) (held P state) (held (a ∷ []) state)
      (λ time. times-parts (state_at plant state).holding (stock plant (a ∷ P) state time) (stock plant [] state time) (stock plant P state time) (stock plant (a ∷ []) state time) (stock-parts state time))
      plant.periods)
      (length plant.states)

  utility-parts : utility_cost plant (a ∷ P) +ℤ utility_cost plant [] ≡ utility_cost plant P +ℤ utility_cost plant (a ∷ [])
  unfolding utility_cost
  utility-parts =
      let used : List Start → ℕ → ℕ → ℤ = λ plan utility period. rate_in (utility_at plant utility) period *ℤ pos (load plant plan utility period) in
      below-parts (λ utility. total_below (used (a ∷ P) utility) plant.periods) (λ utility. total_below (used [] utility) plant.periods)
      (λ utility. total_below (used P utility) plant.periods) (λ utility. total_below (used (a ∷ []) utility) plant.periods)
      (λ utility. below-parts (used (a ∷ P) utility) (used [] utility) (used P utility) (used (a ∷ []) utility)
      (λ period. times-parts (rate_in (utility_at plant utility) period) (pos (load plant (a ∷ P) utility period)) (pos (load plant [] utility period)) (pos (load plant P utility period)) (pos (load plant (a ∷ []) utility period)) (load-parts utility period))
      plant.periods)
      (length plant.utilities)

  start-parts : start_cost plant (a ∷ P) +ℤ start_cost plant [] ≡ start_cost plant P +ℤ start_cost plant (a ∷ [])
  unfolding start_cost
  start-parts = omega (arith, ints)

-- the profit of a list of starts with its changeover costs put back
abbrev pub plain_profit : Plant → List Start → ℤ
plain_profit plant P = profit plant P +ℤ pos (change_costs plant P)

-- what a start alone earns more than doing nothing, without changeover costs
abbrev pub gain_alone : Plant → Start → ℤ
gain_alone plant start = plain_profit plant (start ∷ []) -ℤ profit plant []

profit-parts : (plant : Plant) (a : Start) (P : List Start) → plain_profit plant (a ∷ P) ≡ plain_profit plant P +ℤ gain_alone plant a
unfolding profit
profit-parts plant a P =
    let none = change_costs-nil plant in
    omega (arith, ints, worth-parts plant a P, holding-parts plant a P, utility-parts plant a P, start-parts plant a P, none)

-- the profit without changeover costs: that of doing nothing, and what each start gains
pub profit-gains : (plant : Plant) (P : List Start) → plain_profit plant P ≡ profit plant [] +ℤ total (gain_alone plant) P
profit-gains plant [] = let none = change_costs-nil plant in omega (arith, ints, none)
profit-gains plant (a ∷ P) = let ih = profit-gains plant P in let parts = profit-parts plant a P in omega (arith, ints, parts, ih)
