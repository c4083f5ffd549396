-- The points of a part of a plant's choices, and the plans that it admits.
use Rattle.std.proofs.Common.{◌≡◌, ℕ, zero, suc, ◌<◌, List, [], ◌∷◌, length, get_or, sym, ap, ap₂, ◌∙◌, subst, arith}
use Rattle.std.specs.List.{All, AllZip}
use Rattle.std.proofs.lemmas.Int.{ints}
use Rattle.stn_model.specs.declared.plant.Plant.{Plant}
use Rattle.stn_model.specs.declared.start.Start.{Start}
use Rattle.stn_model.specs.Profit.{profit}
use Rattle.stn_model.specs.Sound.{Sound}
use Rattle.time_grid.specs.Slots.{slots}
use Rattle.time_grid.specs.PlanPoint.{HasPoint, plan_point, point_starts}
use Rattle.time_grid.proofs.PointPlan.{starts-of_point}
use Rattle.row_kit.specs.declared.domain.Domain.{Domain}
use Rattle.row_kit.specs.declared.program.Program.{Program}
use Rattle.row_kit.specs.declared.row.Tag.{Tag}
use Rattle.row_kit.specs.declared.row.Change.{Change}
use Rattle.row_kit.specs.declared.row.Entry.{Entry}
use Rattle.row_kit.specs.Row.{entries_sum, IsKept}
use Rattle.row_kit.specs.Change.{changeovers}
use Rattle.row_kit.specs.Domain.{Holds, no_values}
use Rattle.row_kit.specs.Point.{LiesIn, IsLawful, worth_of}
use Rattle.row_set.specs.Parts.{IsWithin, IsButRoot, IsPartOf, IsAdmitted, plan_of_values}
use Rattle.row_set.proofs.Roots.{point-of_root}

-- a point of domains is one of domains that hold more
pub lies-within : (small large : List Domain) (point : List ℕ) → AllZip IsWithin small large → LiesIn small point → LiesIn large point
lies-within [] [] point within lies = lies
lies-within [] (l ∷ ls) point within lies = absurd within
lies-within (s ∷ ss) [] point within lies = absurd within
lies-within (s ∷ ss) (l ∷ ls) [] within lies = absurd (let h = lies.same_length in omega (arith, h))
lies-within (s ∷ ss) (l ∷ ls) (value ∷ values) within lies =
    let rest = lies-within ss ls values within.1 (record { same_length = (let h = lies.same_length in omega (arith, h)); held = λ k m. lies.held (suc k) (omega arith) }) in
    record { same_length = (let h = rest.same_length in omega (arith, h)); held = each rest }
  where
    each : LiesIn ls values → (k : ℕ) → k < length (l ∷ ls) → Holds (get_or (l ∷ ls) k no_values) (get_or (value ∷ values) k 0)
    each rest zero m = within.0 value (lies.held 0 (omega arith))
    each rest (suc k) m = rest.held k (omega arith)

-- a point is worth in a part what it is worth in the whole
pub worth-part : (whole part : Program) (point : List ℕ) → IsButRoot whole part → worth_of part point ≡ worth_of whole point
worth-part whole part point but =
    let entries = ap (λ (es : List Entry). entries_sum es point) but.profit in
    let costs = ap₂ (λ (cs : List Change) (ts : List Tag). changeovers cs ts point) but.changes but.tags in
    omega (arith, ints, entries, costs, but.base)

-- a lawful point of a part is one of the whole
pub lawful-whole : (plant : Plant) (part : Program) (point : List ℕ) (is : IsPartOf plant part) → IsLawful part point → IsLawful is.whole point
lawful-whole plant part point is lawful = record {
  lies = lies-within part.root is.whole.root point is.within lawful.lies;
  keeps = subst (All (IsKept point)) is.but_root.rows lawful.keeps;
}

-- the point of an admitted plan is lawful in the part
pub admitted-lawful : (plant : Plant) (part : Program) (plan : List Start) → IsPartOf plant part → IsAdmitted plant part plan → IsLawful part (plan_point plant plan)
admitted-lawful plant part plan is admitted = record {
  lies = admitted.lies;
  keeps = subst (All (IsKept (plan_point plant plan))) (sym is.but_root.rows) ((is.means.feasible plan).0 admitted.feasible).1.keeps;
}

-- an admitted plan earns what its point is worth in the part
pub admitted-worth : (plant : Plant) (part : Program) (plan : List Start) → IsPartOf plant part → IsAdmitted plant part plan → worth_of part (plan_point plant plan) ≡ profit plant plan
admitted-worth plant part plan is admitted =
    worth-part is.whole part (plan_point plant plan) is.but_root ∙ is.means.worth plan ((is.means.feasible plan).0 admitted.feasible).0

-- a lawful point of a part is the point of an admitted plan
pub lawful-admitted : (plant : Plant) (part : Program) (point : List ℕ) → IsPartOf plant part → IsLawful part point → (plan : List Start) × (IsAdmitted plant part plan × (plan_point plant plan ≡ point))
lawful-admitted plant part point is lawful =
    let found = is.means.some point (lawful-whole plant part point is lawful) in (
      found.0,
      (record { feasible = found.1.0; lies = subst (LiesIn part.root) (sym found.1.1) lawful.lies }, found.1.1),
    )

-- the plan of a lawful point's values is admitted, and earns what the point is worth
pub values-admitted : (plant : Plant) (part : Program) (point : List ℕ) → Sound plant → IsPartOf plant part → IsLawful part point →
    IsAdmitted plant part (plan_of_values plant point) × (profit plant (plan_of_values plant point) ≡ worth_of part point)
unfolding plan_of_values
values-admitted plant part point sound is lawful =
    let plan = point_starts plant (slots plant) point in
    let whole = lawful-whole plant part point is lawful in
    let own : HasPoint plant plan × (plan_point plant plan ≡ point) =
    starts-of_point plant point sound (point-of_root plant point (subst (λ (ds : List Domain). LiesIn ds point) is.made.root_is whole.lies)) in (
      record {
        feasible = (is.means.feasible plan).1 (own.0, subst (IsLawful is.whole) (sym own.1) whole);
        lies = subst (LiesIn part.root) (sym own.1) lawful.lies;
      },
      sym (is.means.worth plan own.0) ∙ ap (worth_of is.whole) own.1 ∙ sym (worth-part is.whole part point is.but_root),
    )
