-- What the changes along starts cost, and what the changeovers of a plan on the unit do.
use Rattle.std.proofs.Common.{◌≡◌, ℕ, ◌+◌, ◌≤◌, true, List, [], ◌∷◌, sum_by, ap, ◌∙◌, arith, pos, ◌+ℤ◌, ◌≤ℤ◌}
use Rattle.std.specs.List.{All}
use Rattle.std.proofs.lemmas.Bool.{cond-true}
use Rattle.std.proofs.lemmas.Int.{ints}
use Rattle.std.proofs.lemmas.List.Elements.{All-head, All-tail}
use Rattle.std.proofs.lemmas.List.Sums.{sum_by-cons, sum_by-le-sum_by}
use Rattle.stn_model.specs.declared.plant.Plant.{Plant}
use Rattle.stn_model.specs.declared.start.Start.{Start}
use Rattle.stn_model.specs.Batches.{is_first, is_next}
use Rattle.stn_model.specs.Plant.{cost_between, first_cost}
use Rattle.stn_model.specs.Profit.{changeover, first_change}
use Rattle.stn_model.specs.Sums.{total}
use Rattle.setup_slots.specs.Image.{changes_along, setup_of}
use Rattle.setup_slots.specs.Rows.{setup_profit}
use Rattle.setup_slots.proofs.Starts.{Opens}
use Rattle.setup_slots.proofs.Steps.{FollowAll, Follows, total_next}

-- the sum over all pairs of starts
abbrev pub pairs_sum : (Start → Start → ℕ) → List Start → ℕ
pairs_sum g starts = sum_by (λ a. sum_by (g a) starts) starts

-- one start more adds at least its pairs with the others
pairs_more : (g : Start → Start → ℕ) (a : Start) (starts : List Start) → sum_by (g a) starts + pairs_sum g starts ≤ pairs_sum g (a ∷ starts)
pairs_more g a starts =
    let first = sum_by-cons (λ x. sum_by (g x) (a ∷ starts)) a starts in
    let own = sum_by-cons (g a) a starts in
    let others = sum_by-le-sum_by (λ x. sum_by (g x) starts) (λ x. sum_by (g x) (a ∷ starts)) starts (λ x. omega (arith, sum_by-cons (g x) a starts)) in
    omega (arith, first, own, others)

-- a step costs what the plan's changeover does
step_cost : (plant : Plant) (unit : ℕ) (plan : List Start) (a b : Start) → a.unit ≡ unit → is_next plan a b ≡ true → changeover plant plan a b ≡ cost_between plant unit a.task b.task
unfolding changeover
step_cost plant unit plan a b on next = cond-true {A = ℕ} (is_next plan a b) (cost_between plant a.unit a.task b.task) 0 next ∙ ap (λ u. cost_between plant u a.task b.task) on

costs_along : (plant : Plant) (unit : ℕ) (plan : List Start) (a : Start) (rest : List Start) → Follows plant unit plan a rest → All (λ c. c.unit ≡ unit) (a ∷ rest) →
    pos 0 ≤ℤ (total (setup_profit plant unit) (changes_along a rest) +ℤ pos (pairs_sum (changeover plant plan) (a ∷ rest)))
costs_along plant unit plan a [] follows on = omega (arith, ints)
costs_along plant unit plan a (b ∷ rest) follows on =
    let f = setup_profit plant unit in
    let g = changeover plant plan in
    let more = costs_along plant unit plan b rest follows.1 (All-tail (λ c. c.unit ≡ unit) a (b ∷ rest) on) in
    let pairs = pairs_more g a (b ∷ rest) in
    let first = sum_by-cons (g a) b rest in
    let cost = step_cost plant unit plan a b (All-head (λ c. c.unit ≡ unit) a (b ∷ rest) on) follows.0.next in
    let all : ℕ = pairs_sum g (a ∷ (b ∷ rest)) in
    total_next f a b rest (λ n. pos 0 ≤ℤ (n +ℤ pos all)) (λ e. omega (arith, ints, more, pairs)) (omega (arith, ints, more, pairs, first, cost))

-- a start that comes first costs the changeover to it
opening_cost : (plant : Plant) (unit : ℕ) (plan : List Start) (a : Start) → a.unit ≡ unit → is_first plan a ≡ true → first_change plant plan a ≡ first_cost plant unit a.task
unfolding first_change
opening_cost plant unit plan a on first = cond-true {A = ℕ} (is_first plan a) (first_cost plant a.unit a.task) 0 first ∙ ap (λ u. first_cost plant u a.task) on

-- the setup of starts earns no less than what their changeovers cost, negated
pub costs-setup : (plant : Plant) (unit : ℕ) (plan starts : List Start) → FollowAll plant unit plan starts → Opens plan starts → All (λ c. c.unit ≡ unit) starts →
    pos 0 ≤ℤ (total (setup_profit plant unit) (setup_of starts) +ℤ pos (pairs_sum (changeover plant plan) starts + sum_by (first_change plant plan) starts))
costs-setup plant unit plan [] follows opens on = omega (arith, ints)
costs-setup plant unit plan (a ∷ rest) follows opens on =
    let first = opening_cost plant unit plan a (All-head (λ c. c.unit ≡ unit) a rest on) opens in
    omega (arith, ints, costs_along plant unit plan a rest follows on, first, sum_by-cons (first_change plant plan) a rest)
