-- The programs of a plant and of its part, with the setups of the same units.
use Rattle.std.proofs.Common.{◌≡◌, ℕ, ◌+◌, ◌≤◌, List, [], ◌∷◌, ◌++◌, length, length-append, map, refl, sym, ap, ap₂, ◌∙◌, subst, arith}
use Rattle.std.specs.List.{All}
use Rattle.std.proofs.lemmas.List.{length-map}
use Rattle.std.proofs.lemmas.List.Elements.{All-append}
use Rattle.stn_model.specs.declared.plant.Plant.{Plant}
use Rattle.row_kit.specs.declared.domain.Domain.{Domain}
use Rattle.row_kit.specs.declared.program.Program.{Program}
use Rattle.row_kit.specs.declared.row.Entry.{Entry}
use Rattle.row_kit.specs.declared.row.Row.{Row}
use Rattle.row_kit.specs.declared.row.Tag.{Tag}
use Rattle.row_kit.specs.Bounds.{AreBounded, IsBoundedRow}
use Rattle.row_kit.specs.Domain.{IsNormal}
use Rattle.row_set.specs.Parts.{IsButRoot}
use Rattle.sum_slots.proofs.Joined.{All-second}
use Rattle.setup_slots.specs.Larger.{IsWithSetups, setup_domain, setup_tag}
use Rattle.setup_slots.specs.Rows.{profit_entries, setup_row, setup_rows}
use Rattle.setup_slots.specs.Several.{AreSetUp, domains_with, slots_with}
use Rattle.setup_slots.specs.Slots.{setup_slots}
use Rattle.plant_parts.specs.PlantParts.{cut_root}
use Rattle.log_parts.proofs.CutFronts.{cut-front}

-- ---- what is the same in both

-- a program has the rows and the profit of another, and as many slots
pub record IsAlmost (whole part : Program) : Type 0 where
  pub rows : part.rows ≡ whole.rows
  pub profit : part.profit ≡ whole.profit
  pub base : part.base ≡ whole.base
  pub slots : length part.root ≡ length whole.root

-- the domains of a unit's slots
abbrev own_domains : Plant → ℕ → List Domain
own_domains plant unit = map (λ slot. setup_domain) (setup_slots plant unit)

-- how many slots a program with a unit's setup has
setup-slots : (plant : Plant) (unit : ℕ) (program next : Program) → IsWithSetups plant unit program next → length next.root ≡ length program.root + length (own_domains plant unit)
setup-slots plant unit program next is = ap length is.root ∙ length-append program.root (own_domains plant unit)

-- so it is with a unit's setup
setup-almost : (plant : Plant) (unit : ℕ) (whole part a b : Program) → IsAlmost whole part → IsWithSetups plant unit whole a → IsWithSetups plant unit part b → IsAlmost a b
setup-almost plant unit whole part a b same w w2 = record {
  rows = w2.rows ∙ ap₂ (λ (rs : List Row) (n : ℕ). rs ++ map (setup_row plant unit n) (setup_rows plant unit)) same.rows same.slots ∙ sym w.rows;
  profit = w2.profit ∙ ap₂ (λ (es : List Entry) (n : ℕ). es ++ profit_entries plant unit n) same.profit same.slots ∙ sym w.profit;
  base = w2.base ∙ same.base ∙ sym w.base;
  slots = setup-slots plant unit part b w2 ∙ ap (λ (n : ℕ). n + length (own_domains plant unit)) same.slots ∙ sym (setup-slots plant unit whole a w);
}

-- and with those of units
pub setups-almost : (plant : Plant) (units : List ℕ) (whole part a b : Program) → IsAlmost whole part → AreSetUp plant units whole a → AreSetUp plant units part b → IsAlmost a b
setups-almost plant [] whole part a b same w w2 = record {
  rows = ap (λ (p : Program). p.rows) w2 ∙ same.rows ∙ sym (ap (λ (p : Program). p.rows) w);
  profit = ap (λ (p : Program). p.profit) w2 ∙ same.profit ∙ sym (ap (λ (p : Program). p.profit) w);
  base = ap (λ (p : Program). p.base) w2 ∙ same.base ∙ sym (ap (λ (p : Program). p.base) w);
  slots = ap (λ (p : Program). length p.root) w2 ∙ same.slots ∙ sym (ap (λ (p : Program). length p.root) w);
}
setups-almost plant (unit ∷ units) whole part a b same w w2 = setups-almost plant units w.0 w2.0 a b (setup-almost plant unit whole part w.0 w2.0 same w.1.0 w2.1.0) w.1.1 w2.1.1

-- ---- the whole with the setups, from a part with them

-- a program is another but for its root, which has as many slots
pub record IsSameBut (whole part : Program) : Type 0 where
  pub but : IsButRoot whole part
  pub slots : length part.root ≡ length whole.root

pub almost : (whole part : Program) → IsSameBut whole part → IsAlmost whole part
almost whole part same = record { rows = same.but.rows; profit = same.but.profit; base = same.but.base; slots = same.slots }

whole-next : (plant : Plant) (unit : ℕ) (whole part next : Program) → IsSameBut whole part → IsWithSetups plant unit part next → (wide : Program) × (IsWithSetups plant unit whole wide × IsSameBut wide next)
whole-next plant unit whole part next same is =
    let own = own_domains plant unit in
    let root = whole.root ++ own in
    let but = same.but in
    let long : length next.root ≡ length root = setup-slots plant unit part next is ∙ ap (λ (n : ℕ). n + length own) same.slots ∙ sym (length-append whole.root own) in
    let normal : All IsNormal own = All-second IsNormal part.root own (subst (All IsNormal) is.root next.root_normal) in
    let few = next.few_slots in
    let wide : Program = record {
      rows = next.rows;
      profit = next.profit;
      base = next.base;
      root = root;
      tags = next.tags;
      changes = next.changes;
      few_slots = (omega (arith, few, long));
      root_normal = All-append IsNormal whole.root own whole.root_normal normal;
      few_rows = next.few_rows;
      rows_bounded = subst (λ (n : ℕ). All (IsBoundedRow n) next.rows) long next.rows_bounded;
      profit_bounded = subst (λ (n : ℕ). AreBounded n 2000000000000000 next.profit) long next.profit_bounded;
      base_bounded = next.base_bounded;
      one_tag = next.one_tag ∙ long;
      costs_bounded = next.costs_bounded;
      openings_bounded = next.openings_bounded;
    } in (
      wide,
      (
        record {
          lane = is.lane;
          free = subst (All (λ (t : Tag). t.lane ≡ is.lane → ⊥)) but.tags is.free;
          tags = is.tags ∙ ap (λ (tags : List Tag). tags ++ map (λ slot. setup_tag is.lane) (setup_slots plant unit)) but.tags;
          root = refl;
          rows = is.rows ∙ ap₂ (λ (rs : List Row) (n : ℕ). rs ++ map (setup_row plant unit n) (setup_rows plant unit)) but.rows same.slots;
          profit = is.profit ∙ ap₂ (λ (es : List Entry) (n : ℕ). es ++ profit_entries plant unit n) but.profit same.slots;
          base = is.base ∙ but.base;
          changes = is.changes ∙ but.changes;
        },
        record { but = record { rows = refl; profit = refl; base = refl; tags = refl; changes = refl }; slots = long },
      ),
    )

pub whole-setups : (plant : Plant) (units : List ℕ) (whole part wide : Program) → IsSameBut whole part → AreSetUp plant units part wide → (own : Program) × (AreSetUp plant units whole own × IsSameBut own wide)
whole-setups plant [] whole part wide same is = (whole, (refl, subst (IsSameBut whole) (sym is) same))
whole-setups plant (unit ∷ units) whole part wide same is =
    let one = whole-next plant unit whole part is.0 same is.1.0 in
    let rest = whole-setups plant units one.0 is.0 wide one.1.1 is.1.1 in
    (rest.0, ((one.0, (one.1.0, rest.1.0)), rest.1.1))

-- ---- domains

-- how many domains there are with those of setups
pub domains-long : (plant : Plant) (units : List ℕ) (ds : List Domain) → length (domains_with plant units ds) ≡ slots_with plant units (length ds)
domains-long plant [] ds = refl
domains-long plant (unit ∷ units) ds =
    let own = own_domains plant unit in
    domains-long plant units (ds ++ own) ∙ ap (slots_with plant units) (length-append ds own ∙ ap (λ (n : ℕ). length ds + n) (length-map (setup_slots plant unit) (λ slot. setup_domain)))

-- cutting the first slots leaves those of setups
pub cut-setups : (plant : Plant) (units : List ℕ) (levels number : ℕ) (ds : List Domain) → levels ≤ length ds → cut_root levels number (domains_with plant units ds) ≡ domains_with plant units (cut_root levels number ds)
cut-setups plant [] levels number ds few = refl
cut-setups plant (unit ∷ units) levels number ds few =
    let own = own_domains plant unit in
    cut-setups plant units levels number (ds ++ own) (omega (arith, few, length-append ds own)) ∙ ap (domains_with plant units) (cut-front levels number ds own few)
