use Rattle.std.proofs.Common.{refl}
use Rattle.plain_plan.proofs.feasible.is_feasible.Goals as goal

pub returns : goal.returns
returns c = (
  λ loads. record {
    fits = c.if-not-all_fit.ensures.0 refl;
    apart = c.if-not-all_apart.ensures.0 refl;
    cleaned = c.if-not-all_cleaned.ensures.0 refl;
    begun = c.if-not-all_begun.ensures.0 refl;
    stocks = c.if-not-all_stocks_kept.ensures.0 refl;
    loads = c.all_loads_kept.ensures.0 loads;
  },
  λ feasible. c.all_loads_kept.ensures.1 feasible.loads,
)
