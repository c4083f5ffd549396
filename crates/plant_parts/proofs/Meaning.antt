-- What the rows of a part mean.
use Rattle.std.proofs.Common.{◌≡◌, ℕ, ◌<◌, ◌≤◌, ◌^◌, List, length, get_or, map, refl, sym, ap, ◌∙◌, subst, arith}
use Rattle.std.specs.Prelude.{◌↔◌}
use Rattle.std.specs.List.{All, AllZip}
use Rattle.std.proofs.lemmas.List.{get_or-map, length-map}
use Rattle.stn_model.specs.declared.plant.Plant.{Plant}
use Rattle.stn_model.specs.declared.start.Start.{Start}
use Rattle.stn_model.specs.Feasible.{Feasible}
use Rattle.stn_model.specs.Plant.{no_run}
use Rattle.stn_model.specs.Sound.{Sound}
use Rattle.time_grid.specs.Slots.{slots}
use Rattle.time_grid.specs.PlanPoint.{quanta_in, plan_point}
use Rattle.time_grid.proofs.OnePlan.{has_point-feasible}
use Rattle.time_grid.proofs.PlanPoints.{plan_point-at, length-plan_point}
use Rattle.time_grid.proofs.PointPlan.{quanta_in-choice}
use Rattle.time_grid.proofs.SlotList.{slots-are}
use Rattle.row_kit.specs.declared.domain.Domain.{Domain}
use Rattle.row_kit.specs.declared.program.Program.{Program}
use Rattle.row_kit.specs.Bounds.{KeepsBounds, AreBounded, IsBoundedRow}
use Rattle.row_kit.specs.Domain.{Holds, IsNormal, IsOpen, domain_at, no_values}
use Rattle.row_kit.specs.Point.{LiesIn}
use Rattle.row_set.specs.Parts.{IsWithin, IsButRoot, IsPartOf, IsAdmitted}
use Rattle.row_set.specs.PlantProgram.{slot_domain, IsMadeOf, IsProgramOf}
use Rattle.row_set.proofs.Roots.{holds-of}
use Rattle.plant_parts.specs.PlantParts.{digit, cut_domain, cut_root, part_root, StartsIn, IsOfPart, IsOfSomePart}
use Rattle.plant_parts.proofs.Cutting.{AreOfSlots, IsOfSlot, length-cut, cut-at, cut-holds, holds-cut, root-normal, root-open, root-within}
use Rattle.plant_parts.proofs.Digits.{number_of, number-below, digit-number, same-number}

-- the domain of a slot in the plant
own-at : (plant : Plant) (k : ℕ) → k < length (slots plant) → domain_at (map (slot_domain plant) (slots plant)) k ≡ slot_domain plant (get_or (slots plant) k (0, 0))
own-at plant k l = get_or-map (slot_domain plant) (slots plant) k (0, 0) no_values l

-- the domains of the plant are those of slots
pub plant-slots : (plant : Plant) → Sound plant → AreOfSlots (map (slot_domain plant) (slots plant))
plant-slots plant sound k l =
    let there : k < length (slots plant) = omega (arith, l, length-map (slots plant) (slot_domain plant)) in
    let slot = get_or (slots plant) k (0, 0) in
    let run = sound.runs slot.0 no_run (slots-are plant k (0, 0) there).run in
    subst IsOfSlot (sym (own-at plant k there))
    (record {
      none = refl;
      some = run.range;
      normal = record { positive = run.least; byte = omega (arith, run.most); bare = λ h. absurd (omega (arith, h, run.range)) };
    })

-- the plant's program with a part's root keeps the bounds
pub part-bounds : (plant : Plant) (levels part : ℕ) (whole : Program) (root : List Domain) → Sound plant → whole.root ≡ map (slot_domain plant) (slots plant) →
    root ≡ cut_root levels part whole.root → KeepsBounds whole.rows whole.profit whole.base root whole.tags whole.changes
part-bounds plant levels part whole root sound own_is root_is =
    let same : length root ≡ length whole.root = ap length root_is ∙ length-cut levels part whole.root in
    let few : length whole.root ≤ 4096 = whole.few_slots in
    let are : AreOfSlots whole.root = subst AreOfSlots (sym own_is) (plant-slots plant sound) in
    record {
      few_slots = omega arith;
      root_normal = subst (All IsNormal) (sym root_is) (root-normal levels part whole.root are);
      few_rows = whole.few_rows;
      rows_bounded = subst (λ (n : ℕ). All (IsBoundedRow n) whole.rows) (sym same) whole.rows_bounded;
      profit_bounded = subst (λ (n : ℕ). AreBounded n 2000000000000000 whole.profit) (sym same) whole.profit_bounded;
      base_bounded = whole.base_bounded;
      one_tag = whole.one_tag ∙ sym same;
      costs_bounded = whole.costs_bounded;
      openings_bounded = whole.openings_bounded;
    }

-- the plant's program with a part's root is a part of the plant's choices
pub part-part : (plant : Plant) (levels number : ℕ) (whole part : Program) → Sound plant → IsMadeOf plant whole → IsProgramOf plant whole → IsButRoot whole part →
    part.root ≡ cut_root levels number whole.root → IsPartOf plant part
part-part plant levels number whole part sound made means but root =
    let are : AreOfSlots whole.root = subst AreOfSlots (sym made.root_is) (plant-slots plant sound) in
    record {
      whole = whole;
      made = made;
      means = means;
      but_root = but;
      within = subst (λ (ds : List Domain). AllZip IsWithin ds whole.root) (sym root) (root-within levels number whole.root are);
      each_open = subst (All IsOpen) (sym root) (root-open levels number whole.root are);
    }

-- the domain of a slot in the part's root
part-at : (plant : Plant) (levels part k : ℕ) → k < length (slots plant) →
    domain_at (part_root plant levels part) k ≡ cut_domain levels part k (slot_domain plant (get_or (slots plant) k (0, 0)))
part-at plant levels part k l =
    let there : k < length (map (slot_domain plant) (slots plant)) = omega (arith, l, length-map (slots plant) (slot_domain plant)) in
    cut-at levels part (map (slot_domain plant) (slots plant)) k no_values there ∙ ap (cut_domain levels part k) (own-at plant k l)

-- the first slots of a plan whose point lies in the part's root are as the digits say
digits-lies : (plant : Plant) (levels part : ℕ) (plan : List Start) → levels ≤ length (slots plant) → LiesIn (part_root plant levels part) (plan_point plant plan) →
    (place : ℕ) → place < levels → StartsIn plant plan place ↔ digit levels part place ≡ 1
digits-lies plant levels part plan most lies place l =
    let there : place < length (slots plant) = omega (arith, l, most) in
    let within : place < length (part_root plant levels part) =
    omega (arith, there, length-cut levels part (map (slot_domain plant) (slots plant)), length-map (slots plant) (slot_domain plant)) in
    let slot = get_or (slots plant) place (0, 0) in
    holds-cut levels part place (slot_domain plant slot) (quanta_in plant plan slot)
    (subst (λ (v : ℕ). Holds (cut_domain levels part place (slot_domain plant slot)) v) (plan_point-at plant plan place 0 there)
    (subst (λ (domain : Domain). Holds domain (get_or (plan_point plant plan) place 0)) (part-at plant levels part place there) (lies.held place within))) l

-- the point of a plan of the part lies in the part's root
lies-digits : (plant : Plant) (levels part : ℕ) (plan : List Start) → Sound plant → IsOfPart plant levels part plan → LiesIn (part_root plant levels part) (plan_point plant plan)
lies-digits plant levels part plan sound is =
    let long = length-map (slots plant) (slot_domain plant) in
    let cut = length-cut levels part (map (slot_domain plant) (slots plant)) in
    let has = has_point-feasible plant plan sound is.feasible in
    record {
      same_length = omega (arith, long, cut, length-plan_point plant plan);
      held = λ k l.
          let there : k < length (slots plant) = omega (arith, l, long, cut) in
          let slot = get_or (slots plant) k (0, 0) in
          let value = quanta_in plant plan slot in
          subst (λ (v : ℕ). Holds (domain_at (part_root plant levels part) k) v) (sym (plan_point-at plant plan k 0 there))
          (subst (λ (domain : Domain). Holds domain value) (sym (part-at plant levels part k there))
          (cut-holds levels part k (slot_domain plant slot) value
          (holds-of plant slot value (quanta_in-choice plant plan slot sound has (slots-are plant k (0, 0) there))) (is.digits k)));
    }

-- the admitted plans are exactly those of the part
pub part-exact : (plant : Plant) (levels number : ℕ) (part : Program) (plan : List Start) → Sound plant → levels ≤ length (slots plant) → part.root ≡ part_root plant levels number →
    IsAdmitted plant part plan ↔ IsOfPart plant levels number plan
part-exact plant levels number part plan sound most root = (
  λ admitted. record {
    feasible = admitted.feasible;
    digits = digits-lies plant levels number plan most (subst (λ (ds : List Domain). LiesIn ds (plan_point plant plan)) root admitted.lies);
  },
  λ is. record {
    feasible = is.feasible;
    lies = subst (λ (ds : List Domain). LiesIn ds (plan_point plant plan)) (sym root) (lies-digits plant levels number plan sound is);
  },
)

-- each feasible plan is of some part
pub of-some : (plant : Plant) (levels : ℕ) (plan : List Start) → Feasible plant plan → IsOfSomePart plant levels plan
of-some plant levels plan feasible =
    let quanta : ℕ → ℕ = λ place. quanta_in plant plan (get_or (slots plant) place (0, 0)) in (
      number_of quanta levels,
      (number-below quanta levels, record { feasible = feasible; digits = digit-number quanta levels }),
    )

-- two parts that have a plan are the same
pub of-one : (plant : Plant) (levels first second : ℕ) (plan : List Start) → first < 2 ^ levels → second < 2 ^ levels →
    IsOfPart plant levels first plan → IsOfPart plant levels second plan → first ≡ second
of-one plant levels first second plan l m is also =
    same-number levels first second l m
    (λ place k one. (also.digits place k).0 ((is.digits place k).1 one))
    (λ place k one. (is.digits place k).0 ((also.digits place k).1 one))
