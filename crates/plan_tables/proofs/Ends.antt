-- By when the batches of a table begin and end.
use Rattle.std.proofs.Common.{◌≡◌, ℕ, zero, suc, ◌+◌, ◌<◌, ◌≤◌, List, [], ◌∷◌, length, inl, inr, eqb, true, All, arith, sym, subst}
use Rattle.std.specs.List.{flat_map, range_with_len}
use Rattle.std.proofs.lemmas.Bool.{cases_lt, eqb-true}
use Rattle.std.proofs.lemmas.List.{get_or_past}
use Rattle.std.proofs.lemmas.List.Elements.{All-nil, All-append, All-head, All-tail, All-weaker, filter_passes}
use Rattle.stn_model.specs.declared.plant.Plant.{Plant}
use Rattle.stn_model.specs.declared.plant.Output.{Output}
use Rattle.stn_model.specs.declared.start.Start.{Start}
use Rattle.stn_model.specs.Plant.{duration_of, end_of, task_at, no_task}
use Rattle.stn_model.specs.Sound.{Sound}
use Rattle.stn_model.specs.Sums.{greatest_by}
use Rattle.plan_tables.specs.Batches.{starting}
use Rattle.plan_tables.proofs.Orders.{pieces_more}

-- the batches of a period begin before the next
starting_early : (batches : List Start) (period : ℕ) → All (λ b. b.period < suc period) (starting batches period)
starting_early batches period =
    All-weaker (λ (b : Start). eqb b.period period ≡ true) (λ (b : Start). b.period < suc period)
    (λ b is. omega (arith, eqb-true b.period period is))
    (starting batches period) (filter_passes (λ (b : Start). eqb b.period period) batches)

-- the batches of all periods below a number begin before it
pub all_early : (batches : List Start) (n : ℕ) → All (λ b. b.period < n) (flat_map (starting batches) (range_with_len 0 n))
all_early batches zero = All-nil (λ (b : Start). b.period < 0)
all_early batches (suc n) =
    let e : n + 1 ≡ suc n = omega arith in
    let before : List Start = flat_map (starting batches) (range_with_len 0 n) in
    subst (λ (m : ℕ). All (λ (b : Start). b.period < suc n) (flat_map (starting batches) (range_with_len 0 m))) e
    (subst (λ (bs : List Start). All (λ (b : Start). b.period < suc n) bs) (sym (pieces_more (starting batches) n))
    (All-append (λ (b : Start). b.period < suc n) before (starting batches n)
    (All-weaker (λ (b : Start). b.period < n) (λ (b : Start). b.period < suc n) (λ b l. omega (arith, l)) before (all_early batches n))
    (starting_early batches n)))

most_delay : (outputs : List Output) → All (λ output. output.delay ≤ 96) outputs → greatest_by (λ output. output.delay) outputs ≤ 96
most_delay [] each = omega arith
most_delay (output ∷ outputs) each =
    let here = All-head (λ (one : Output). one.delay ≤ 96) output outputs each in
    let rest = most_delay outputs (All-tail (λ (one : Output). one.delay ≤ 96) output outputs each) in
    omega (arith, here, rest)

-- a batch takes 96 periods at most
duration_most : (plant : Plant) (task : ℕ) → Sound plant → duration_of (task_at plant task) ≤ 96
unfolding duration_of
duration_most plant task sound =
    elim (cases_lt task (length plant.tasks)) [
      | inl there ↦ most_delay (task_at plant task).outputs (λ k d l. ((sound.tasks task no_task there).output k d l).delay.1)
      | inr past ↦ rw (get_or_past plant.tasks task no_task past) (omega arith)
    ]

-- a batch that begins within the horizon ends by the last time for which a calendar shows a moment
pub end_within : (plant : Plant) (b : Start) → Sound plant → b.period < plant.periods → end_of plant b ≤ 1000
unfolding end_of
end_within plant b sound early = omega (arith, duration_most plant b.task sound, sound.counts.periods, early)
