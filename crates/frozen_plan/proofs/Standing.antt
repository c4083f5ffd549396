-- Starts that stand together, and those that do not.
use Rattle.std.proofs.Common.{◌≡◌, ℕ, ◌<◌, ◌≤◌, List, filter, length, sym, ap, ◌∙◌, inl, inr, arith}
use Rattle.std.specs.Prelude.{◌⊎◌, MatchOption}
use Rattle.std.proofs.lemmas.Bool.{cases_Bool, cases_lt, false≢true}
use Rattle.std.proofs.lemmas.List.Elements.{All-filter}
use Rattle.std.proofs.lemmas.List.Kept.{AllPairs-filter}
use Rattle.std.proofs.lemmas.List.Sorted.{All-permutation}
use Rattle.std.proofs.lemmas.List.Sums.{length-filter, count_by-le-length}
use Rattle.stn_model.specs.declared.plant.Plant.{Plant}
use Rattle.stn_model.specs.declared.start.Start.{Start}
use Rattle.stn_model.specs.declared.violation.Violation.{Violation}
use Rattle.stn_model.specs.declared.violation.Violation.TheVariants.{Unfit, Busy, Early, Gap, StockLow, StockHigh, Load}
use Rattle.stn_model.specs.Plant.{end_of}
use Rattle.stn_model.specs.Fits.{Fits, is_fit}
use Rattle.stn_model.specs.Batches.{Apart}
use Rattle.stn_model.specs.Sound.{Sound}
use Rattle.stn_model.specs.Violations.{BreaksFirst, Before, order_of, start_at, no_start}
use Rattle.stn_model.proofs.Fitting.{ends_later}
use Rattle.plan_sim.specs.declared.verdict.Verdict.{Verdict}
use Rattle.plan_sim.specs.declared.verdict.Verdict.TheVariants as verdict
use Rattle.plan_sim.specs.Verdicts.{IsPlanVerdict}
use Rattle.plan_sim.proofs.Firsts.{fit_all, apart_all}
use Rattle.time_grid.specs.PlanPoint.{HasPoint}
use Rattle.time_grid.proofs.Reordered.{AllPairs-permutation}
use Rattle.frozen_plan.specs.Frozen.{is_before, kept_starts}
use Rattle.frozen_plan.specs.Keeping.{Keeps, StandTogether, IsOfStarts, CannotStand, broken_start}

-- ---- what a verdict says

-- a start that can't but fit does
fits-stable : (plant : Plant) (start : Start) → ¬ (¬ Fits plant start) → Fits plant start
fits-stable plant start holds = elim (cases_Bool (is_fit plant start)) [
  | inl fits ↦ fits
  | inr out ↦ absurd (holds (λ fits. false≢true (sym out ∙ fits)))
]

-- two batches that can't but keep apart do
apart-stable : (plant : Plant) (a b : Start) → ¬ (¬ Apart plant a b) → Apart plant a b
apart-stable plant a b holds unit = elim (cases_lt b.period (end_of plant a)) [
  | inr after ↦ inl after
  | inl meets ↦ elim (cases_lt a.period (end_of plant b)) [
    | inr after ↦ inr after
    | inl meets2 ↦ absurd (holds (λ apart. elim (apart unit) [ inl x ↦ omega arith | inr y ↦ omega arith ]))
  ]
]

-- starts that break something first that comes after starts that don't fit and batches that meet stand together
later-together : (plant : Plant) (starts : List Start) (violation : Violation) → BreaksFirst plant starts violation → ((place : ℕ) → Before (order_of (Unfit place)) (order_of violation))
    → ((first second : ℕ) → Before (order_of (Busy first second)) (order_of violation)) → StandTogether plant starts
later-together plant starts violation breaks unfit busy = record {
  fits = fit_all plant starts (λ place within. fits-stable plant (start_at starts place) (λ fails. breaks.first (Unfit place) (within, fails) (unfit place)));
  apart = apart_all plant starts (λ first within second after there. apart-stable plant (start_at starts first) (start_at starts second)
      (λ meets. breaks.first (Busy first second) (after, there, meets) (busy first second)));
}

-- a right verdict on starts says what they break alone, or they stand together
pub verdict-starts : (plant : Plant) (starts : List Start) (said : Verdict) → IsPlanVerdict plant starts said
    → MatchOption (broken_start said) (StandTogether plant starts) (λ violation. IsOfStarts violation × BreaksFirst plant starts violation)
verdict-starts plant starts (verdict.Feasible earned) right = record { fits = right.0.fits; apart = right.0.apart }
verdict-starts plant starts (verdict.Broken (Unfit place)) right = (tt, right)
verdict-starts plant starts (verdict.Broken (Busy first second)) right = (tt, right)
verdict-starts plant starts (verdict.Broken (Early place)) right = later-together plant starts (Early place) right (λ p. inl (omega arith)) (λ f s. inl (omega arith))
verdict-starts plant starts (verdict.Broken (Gap first second)) right = later-together plant starts (Gap first second) right (λ p. inl (omega arith)) (λ f s. inl (omega arith))
verdict-starts plant starts (verdict.Broken (StockLow state time)) right = later-together plant starts (StockLow state time) right (λ p. inl (omega arith)) (λ f s. inl (omega arith))
verdict-starts plant starts (verdict.Broken (StockHigh state time)) right = later-together plant starts (StockHigh state time) right (λ p. inl (omega arith)) (λ f s. inl (omega arith))
verdict-starts plant starts (verdict.Broken (Load utility period)) right = later-together plant starts (Load utility period) right (λ p. inl (omega arith)) (λ f s. inl (omega arith))

-- ---- what follows

-- the starts that a feasible plan keeps stand together
keeps-together : (plant : Plant) (period : ℕ) (kept plan : List Start) → Keeps plant period kept plan → StandTogether plant kept
keeps-together plant period kept plan keeps =
    let before = filter (is_before period) plan in
    record {
      fits = All-permutation (Fits plant) before kept keeps.1 (All-filter (is_before period) (Fits plant) plan keeps.0.fits);
      apart = AllPairs-permutation (Apart plant) (λ a b apart unit. turned a b (apart (sym unit))) before kept keeps.1
          (AllPairs-filter (Apart plant) (is_before period) plan keeps.0.apart);
    }
  where
    turned : (a b : Start) → (end_of plant a ≤ b.period) ⊎ (end_of plant b ≤ a.period) → (end_of plant b ≤ a.period) ⊎ (end_of plant a ≤ b.period)
    turned a b (inl x) = inr x
    turned a b (inr y) = inl y

-- starts that break this don't stand together
broken-apart : (plant : Plant) (starts : List Start) (violation : Violation) → IsOfStarts violation → BreaksFirst plant starts violation → ¬ StandTogether plant starts
broken-apart plant starts (Unfit place) of first together = first.breaks.1 (together.fits place no_start first.breaks.0)
broken-apart plant starts (Busy first second) of breaks together = breaks.breaks.2 (together.apart first second no_start breaks.breaks.0 breaks.breaks.1)
broken-apart plant starts (Early place) of breaks together = of
broken-apart plant starts (Gap first second) of breaks together = of
broken-apart plant starts (StockLow state time) of breaks together = of
broken-apart plant starts (StockHigh state time) of breaks together = of
broken-apart plant starts (Load utility period) of breaks together = of

-- no feasible plan keeps starts that break this
pub cannot-stand : (plant : Plant) (period : ℕ) (kept : List Start) (violation : Violation) → IsOfStarts violation → BreaksFirst plant kept violation → CannotStand plant period kept violation
cannot-stand plant period kept violation of first = record {
  of_starts = of;
  first = first;
  none = λ plan keeps. broken-apart plant kept violation of first (keeps-together plant period kept plan keeps);
}

-- starts that stand together share no slot
pub together-has : (plant : Plant) (starts : List Start) → Sound plant → StandTogether plant starts → HasPoint plant starts
together-has plant starts sound together = record {
  fits = together.fits;
  apart = λ i j d before within share.
      let first = ends_later plant _ sound (together.fits i d (omega arith)) in
      let second = ends_later plant _ sound (together.fits j d within) in
      elim (together.apart i j d before within share.unit) [
        | inl ends ↦ omega (arith, first, ends, share.period)
        | inr ends ↦ omega (arith, second, ends, share.period)
      ];
}

-- the kept starts of a plan are no more than its starts
pub few-kept : (period : ℕ) (plan kept : List Start) (most : ℕ) → kept ≡ kept_starts period plan → length plan < most → length kept < most
few-kept period plan kept most is few =
    let same = ap length is in
    let count = length-filter (is_before period) plan in
    let all = count_by-le-length (is_before period) plan in
    omega (arith, same, count, all)
