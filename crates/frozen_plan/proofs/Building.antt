-- How the root over kept starts is made, slot after slot.
use Rattle.std.proofs.Common.{◌≡◌, ℕ, ◌<◌, ◌≤◌, Option, Some, List, length, get_or, map, sym, ap, ap₂, ◌∙◌, subst, arith}
use Rattle.std.specs.Prelude.{◌↔◌, nat_lt, if◌then◌else◌, is_some, IsSome, IfSome}
use Rattle.std.specs.List.{All}
use Rattle.std.proofs.lemmas.List.{get_or-map, get_or_default, length-map}
use Rattle.stn_model.specs.declared.plant.Plant.{Plant}
use Rattle.stn_model.specs.declared.start.Start.{Start}
use Rattle.time_grid.specs.Slots.{slots}
use Rattle.stn_model.specs.Sound.{Sound}
use Rattle.time_grid.specs.PlanPoint.{quanta_in, plan_point, HasPoint}
use Rattle.time_grid.proofs.PlanPoints.{plan_point-at}
use Rattle.row_kit.specs.declared.domain.Domain.{Domain}
use Rattle.row_kit.specs.declared.program.Program.{Program}
use Rattle.row_kit.specs.Domain.{IsNormal}
use Rattle.row_kit.specs.Bounds.{KeepsBounds, AreBounded, IsBoundedRow}
use Rattle.row_set.specs.PlantProgram.{slot_domain}
use Rattle.frozen_plan.specs.Frozen.{only, frozen_domain, frozen_root}
use Rattle.frozen_plan.proofs.Domains.{frozen-normal}

-- the domain that is made at a place is the one of its slot
pub domain-made : (plant : Plant) (period : ℕ) (kept : List Start) (whole : List Domain) (point : List ℕ) (place : ℕ) (slot : ℕ × ℕ) (own made : Domain) →
    whole ≡ map (slot_domain plant) (slots plant) → point ≡ plan_point plant kept → place < length (slots plant) → slot ≡ get_or (slots plant) place slot → own ≡ get_or whole place own →
    made ≡ (if nat_lt slot.1 period then only (get_or point place 0) else own) → made ≡ frozen_domain plant period kept slot
domain-made plant period kept whole point place slot own made whole_is point_is there slot_is own_is made_is =
    let domain : own ≡ slot_domain plant slot =
    own_is ∙ ap (λ (ds : List Domain). get_or ds place own) whole_is ∙ get_or-map (slot_domain plant) (slots plant) place slot own there ∙ ap (slot_domain plant) (sym slot_is) in
    let value : get_or point place 0 ≡ quanta_in plant kept slot =
    ap (λ (values : List ℕ). get_or values place 0) point_is ∙ plan_point-at plant kept place 0 there ∙ ap (quanta_in plant kept) (get_or_default (slots plant) place (0, 0) slot there ∙ sym slot_is) in
    made_is ∙ ap₂ (λ (v : ℕ) (d : Domain). if nat_lt slot.1 period then only v else d) value domain

-- where there is a root, it is the one over the kept starts
pub some-root : (plant : Plant) (period : ℕ) (kept : List Start) (found : Option (List Domain)) (root : List Domain) → found ≡ Some root → IfSome found (λ own. own ≡ frozen_root plant period kept) → root ≡ frozen_root plant period kept
some-root plant period kept found root is all = subst (λ (o : Option (List Domain)). IfSome o (λ own. own ≡ frozen_root plant period kept)) is all

-- where there is a root, the kept starts have a point
pub some-has : (plant : Plant) (kept : List Start) (found : Option (List Domain)) (root : List Domain) → found ≡ Some root → IsSome found ↔ HasPoint plant kept → HasPoint plant kept
some-has plant kept found root is iff = iff.0 (ap is_some is)

-- the root over kept starts has as many slots as the plant's own
same-slots : (plant : Plant) (period : ℕ) (kept : List Start) (own root : List Domain) → own ≡ map (slot_domain plant) (slots plant) → root ≡ frozen_root plant period kept → length root ≡ length own
unfolding frozen_root
same-slots plant period kept own root own_is root_is =
    ap length root_is ∙ length-map (slots plant) (frozen_domain plant period kept) ∙ sym (length-map (slots plant) (slot_domain plant)) ∙ sym (ap length own_is)

-- the program with the root over kept starts keeps the bounds
pub frozen-bounds : (plant : Plant) (period : ℕ) (kept : List Start) (whole : Program) (root : List Domain) → Sound plant → HasPoint plant kept → whole.root ≡ map (slot_domain plant) (slots plant) →
    root ≡ frozen_root plant period kept → KeepsBounds whole.rows whole.profit whole.base root whole.tags whole.changes
frozen-bounds plant period kept whole root sound has own_is root_is =
    let same = same-slots plant period kept whole.root root own_is root_is in
    let few : length whole.root ≤ 4096 = whole.few_slots in
    record {
      few_slots = omega arith;
      root_normal = subst (All IsNormal) (sym root_is) (frozen-normal plant period kept sound has);
      few_rows = whole.few_rows;
      rows_bounded = subst (λ (n : ℕ). All (IsBoundedRow n) whole.rows) (sym same) whole.rows_bounded;
      profit_bounded = subst (λ (n : ℕ). AreBounded n 2000000000000000 whole.profit) (sym same) whole.profit_bounded;
      base_bounded = whole.base_bounded;
      one_tag = whole.one_tag ∙ sym same;
      costs_bounded = whole.costs_bounded;
      openings_bounded = whole.openings_bounded;
    }
