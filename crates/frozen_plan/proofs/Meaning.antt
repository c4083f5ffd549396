-- What the rows over kept starts mean.
use Rattle.std.proofs.Common.{◌≡◌, ℕ, ◌<◌, List, get_or, sym, subst, inl, inr}
use Rattle.std.specs.Prelude.{◌↔◌}
use Rattle.std.specs.List.{All, AllZip}
use Rattle.std.proofs.lemmas.Bool.{cases_lt}
use Rattle.stn_model.specs.declared.plant.Plant.{Plant}
use Rattle.stn_model.specs.declared.start.Start.{Start}
use Rattle.stn_model.specs.Feasible.{Feasible}
use Rattle.stn_model.specs.Sound.{Sound}
use Rattle.time_grid.specs.Slots.{slots}
use Rattle.time_grid.specs.PlanPoint.{quanta_in, HasPoint, plan_point}
use Rattle.time_grid.proofs.OnePlan.{has_point-feasible}
use Rattle.time_grid.proofs.PointPlan.{quanta_in-choice}
use Rattle.time_grid.proofs.SlotList.{slots-are}
use Rattle.row_kit.specs.declared.domain.Domain.{Domain}
use Rattle.row_kit.specs.declared.program.Program.{Program}
use Rattle.row_kit.specs.Domain.{Holds, IsOpen}
use Rattle.row_kit.specs.Point.{LiesIn, IsLawful}
use Rattle.row_set.specs.Parts.{IsWithin, IsButRoot, IsPartOf, IsAdmitted}
use Rattle.row_set.specs.PlantProgram.{IsMadeOf, IsProgramOf}
use Rattle.row_set.proofs.Roots.{holds-of}
use Rattle.row_set.proofs.PartPoints.{admitted-lawful, lawful-admitted}
use Rattle.frozen_plan.specs.Frozen.{Agrees, only, frozen_domain, frozen_root, IsAgreedPoint}
use Rattle.frozen_plan.proofs.Before.{agrees-from, agreed-quanta}
use Rattle.frozen_plan.proofs.Domains.{holds-only, only-holds, domain-before, domain-later, frozen-open, frozen-within, lies-each, each-lies}

-- the plant's program with the root over kept starts is a part of the plant's choices
pub frozen-part : (plant : Plant) (period : ℕ) (kept : List Start) (whole part : Program) → Sound plant → HasPoint plant kept → IsMadeOf plant whole → IsProgramOf plant whole → IsButRoot whole part →
    part.root ≡ frozen_root plant period kept → IsPartOf plant part
frozen-part plant period kept whole part sound has made means but root = record {
  whole = whole;
  made = made;
  means = means;
  but_root = but;
  within =
      subst (λ (ds : List Domain). AllZip IsWithin ds whole.root) (sym root)
      (subst (AllZip IsWithin (frozen_root plant period kept)) (sym made.root_is) (frozen-within plant period kept sound has));
  each_open = subst (All IsOpen) (sym root) (frozen-open plant period kept);
}

-- a plan whose point lies in the root agrees with the kept starts
agrees-lies : (plant : Plant) (period : ℕ) (kept plan : List Start) → Sound plant → All (λ start. start.period < period) kept → HasPoint plant kept → HasPoint plant plan →
    LiesIn (frozen_root plant period kept) (plan_point plant plan) → Agrees period kept plan
unfolding frozen_root plan_point
agrees-lies plant period kept plan sound early has own lies =
    let each = lies-each (frozen_domain plant period kept) (quanta_in plant plan) (slots plant) lies in
    agrees-from plant period kept plan sound early has own
    (λ k d l before.
    let slot = get_or (slots plant) k d in
    holds-only (quanta_in plant kept slot) (quanta_in plant plan slot) (subst (λ (domain : Domain). Holds domain (quanta_in plant plan slot)) (domain-before plant period kept slot before) (each k d l)))

-- the point of a plan that agrees with the kept starts lies in the root
lies-agrees : (plant : Plant) (period : ℕ) (kept plan : List Start) → Sound plant → HasPoint plant plan → Agrees period kept plan → LiesIn (frozen_root plant period kept) (plan_point plant plan)
unfolding frozen_root plan_point
lies-agrees plant period kept plan sound own agrees =
    each-lies (frozen_domain plant period kept) (quanta_in plant plan) (slots plant)
    (λ k d l.
    let slot = get_or (slots plant) k d in
    let value = quanta_in plant plan slot in
    elim (cases_lt slot.1 period) [
      | inl before ↦
          subst (λ (domain : Domain). Holds domain value) (sym (domain-before plant period kept slot before))
          (subst (λ (v : ℕ). Holds (only v) value) (agreed-quanta plant period kept plan slot agrees before) (only-holds value))
      | inr later ↦
          subst (λ (domain : Domain). Holds domain value) (sym (domain-later plant period kept slot later))
          (holds-of plant slot value (quanta_in-choice plant plan slot sound own (slots-are plant k d l)))
    ])

-- the admitted plans are exactly the feasible ones that agree
pub frozen-exact : (plant : Plant) (period : ℕ) (kept : List Start) (part : Program) (plan : List Start) → Sound plant → All (λ start. start.period < period) kept → HasPoint plant kept →
    part.root ≡ frozen_root plant period kept → IsAdmitted plant part plan ↔ (Feasible plant plan × Agrees period kept plan)
frozen-exact plant period kept part plan sound early has root = (
  λ admitted. (
    admitted.feasible,
    agrees-lies plant period kept plan sound early has (has_point-feasible plant plan sound admitted.feasible) (subst (λ (ds : List Domain). LiesIn ds (plan_point plant plan)) root admitted.lies),
  ),
  λ both. record {
    feasible = both.0;
    lies = subst (λ (ds : List Domain). LiesIn ds (plan_point plant plan)) (sym root) (lies-agrees plant period kept plan sound (has_point-feasible plant plan sound both.0) both.1);
  },
)

-- the lawful points are exactly the points of the feasible plans that agree
pub frozen-lawful : (plant : Plant) (period : ℕ) (kept : List Start) (part : Program) (point : List ℕ) → Sound plant → All (λ start. start.period < period) kept → HasPoint plant kept → IsPartOf plant part →
    part.root ≡ frozen_root plant period kept → IsLawful part point ↔ IsAgreedPoint plant period kept point
frozen-lawful plant period kept part point sound early has is root = (
  λ lawful.
      let found = lawful-admitted plant part point is lawful in
      let both = (frozen-exact plant period kept part found.0 sound early has root).0 found.1.0 in
      (found.0, (both.0, both.1, found.1.1)),
  λ agreed. subst (IsLawful part) agreed.1.2 (admitted-lawful plant part agreed.0 is ((frozen-exact plant period kept part agreed.0 sound early has root).1 (agreed.1.0, agreed.1.1))),
)
