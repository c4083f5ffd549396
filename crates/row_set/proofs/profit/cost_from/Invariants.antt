use Rattle.std.proofs.Common.{◌≡◌, ◌+◌, pos, ◌*ℤ◌, slice_index}
use Rattle.stn_model.specs.Plant.{utility_at, rate_in}
use Rattle.stn_model.specs.Sums.{total_below}
use Rattle.row_set.proofs.profit.cost_from.Given as goal

abbrev pub invariant-loop-place : goal.invariant-loop-place
invariant-loop-place l = l.sum ≡ total_below (λ k. rate_in (utility_at l.plant l.utility) (l.period + k) *ℤ pos (slice_index l.amounts k)) l.place
