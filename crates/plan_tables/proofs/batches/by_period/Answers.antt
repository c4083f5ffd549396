use Rattle.std.proofs.Common.{◌≡◌, ◌<◌, ℕ, List, All, arith, subst}
use Rattle.std.proofs.lemmas.List.Elements.{All-same}
use Rattle.std.specs.List.{flat_map, range_with_len}
use Rattle.stn_model.specs.declared.start.Start.{Start}
use Rattle.plan_tables.specs.Batches.{starting}
use Rattle.plan_tables.proofs.Ends.{all_early}
use Rattle.plan_tables.proofs.batches.by_period.Goals as goal

pub returns-clause-early : goal.returns-clause-early
returns-clause-early c =
    let n : ℕ = c.loop-period.period in
    let ordered : List Start = c.loop-period.ordered.items in
    let last : n ≡ c.args.periods = omega arith in
    subst (λ (m : ℕ). All (λ (b : Start). b.period < m) ordered) last
    (All-same (λ (b : Start). b.period < n) ordered (flat_map (starting c.args.batches.now) (range_with_len 0 n))
    c.loop-period.invariant (all_early c.args.batches.now n))
