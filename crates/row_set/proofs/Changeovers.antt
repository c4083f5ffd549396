-- The changeovers of a plan's point, and its first starts on units, cost what the plan's do.
use Rattle.std.proofs.Common.{◌≡◌, ℕ, ◌+◌, ◌==◌, ◌&&◌, ◌||◌, not, nat_lt, max, Bool, true, false, cond, if◌then◌else◌, List, [], ◌∷◌, map, filter, sum_by, sym, refl, ap, ap₂, ◌∙◌, inl, inr, arith}
use Rattle.std.specs.List.{list_all, list_any}
use Rattle.std.proofs.lemmas.Bool.{eq-eqb, ne_eqb, ltb-false, cond-true, cond-false, cases_Bool, cases_eq}
use Rattle.stn_model.specs.declared.plant.Plant.{Plant}
use Rattle.stn_model.specs.declared.plant.Gap.{Gap}
use Rattle.stn_model.specs.declared.start.Start.{Start}
use Rattle.stn_model.specs.Plant.{is_between, cost_between, first_cost}
use Rattle.stn_model.specs.Batches.{is_amid, is_earlier, is_first, is_next}
use Rattle.stn_model.specs.Sums.{greatest_by}
use Rattle.stn_model.specs.Profit.{changeover, first_change, change_costs}
use Rattle.stn_model.specs.Sound.{Sound}
use Rattle.time_grid.specs.Slots.{slots}
use Rattle.time_grid.specs.PlanPoint.{HasPoint, plan_point, point_starts}
use Rattle.time_grid.proofs.SlotList.{sum_by-map, sum_by-same}
use Rattle.time_grid.proofs.OnePlan.{starts-permutation}
use Rattle.time_grid.proofs.Reordered.{change_costs-permutation}
use Rattle.row_kit.specs.declared.row.Tag.{Tag}
use Rattle.row_kit.specs.Change.{started, is_between as lies_between, is_after, comes_next, comes_first, listed_cost, pair_cost, opening_cost, costs_of, changeovers}
use Rattle.unit_rows.proofs.Counts.{sum_by-add}
use Rattle.row_set.specs.PlantProgram.{slot_tag, gap_change, has_cost, plant_changes}

-- the tag of a start
abbrev tag_of : Plant → Start → Tag
tag_of plant start = record { lane = start.unit; place = start.period; kind = start.task; opening = first_cost plant start.unit start.task }

-- the tags of the slots that a point has a start in are those of its starts
started-are : (plant : Plant) (grid : List (ℕ × ℕ)) (values : List ℕ) → started (map (slot_tag plant) grid) values ≡ map (tag_of plant) (point_starts plant grid values)
started-are plant [] values = refl
started-are plant (slot ∷ grid) [] = refl
started-are plant (slot ∷ grid) (value ∷ values) =
    let rest = started-are plant grid values in
    elim (cases_eq value 0) [
      | inl e ↦ rw (eq-eqb value 0 e) rest
      | inr e ↦ rw (ne_eqb value 0 e) (ap (λ ts. slot_tag plant slot ∷ ts) rest)
    ]

turned : (m n : ℕ) → (m == n) ≡ (n == m)
turned m n = elim (cases_eq m n) [ inl e ↦ eq-eqb m n e ∙ sym (eq-eqb n m (sym e)) | inr e ↦ ne_eqb m n e ∙ sym (ne_eqb n m (λ f. e (sym f))) ]

negated : (a b : Bool) → (not a && not b) ≡ not (a || b)
negated true b = refl
negated false b = refl

-- no start passes a test exactly where no tag passes one that says the same of it
none_passes : (plant : Plant) (p : Start → Bool) (q : Tag → Bool) → ((c : Start) → p c ≡ q (tag_of plant c)) → (plan : List Start) → list_all (λ c. not (p c)) plan ≡ not (list_any q (map (tag_of plant) plan))
none_passes plant p q same [] = refl
none_passes plant p q same (c ∷ plan) =
    ap₂ (λ s t. not s && t) (same c) (none_passes plant p q same plan) ∙ negated (q (tag_of plant c)) (list_any q (map (tag_of plant) plan))

-- a start is a next one exactly where its tag is
next_is : (plant : Plant) (a b : Start) (plan : List Start) → is_next plan a b ≡ comes_next (map (tag_of plant) plan) (tag_of plant a) (tag_of plant b)
unfolding is_next
next_is plant a b plan =
    ap₂ (λ s t. s && nat_lt a.period b.period && t) (turned a.unit b.unit)
    (none_passes plant (is_amid a b) (lies_between (tag_of plant a) (tag_of plant b)) (λ c. refl) plan)

-- a start is a first one exactly where its tag is
first_is : (plant : Plant) (b : Start) (plan : List Start) → is_first plan b ≡ comes_first (map (tag_of plant) plan) (tag_of plant b)
unfolding is_first
first_is plant b plan =
    none_passes plant (λ a. is_earlier a b) (λ a. is_after a (tag_of plant b)) (λ a. ap (λ t. t && nat_lt a.period b.period) (turned a.unit b.unit)) plan

-- the costs that are listed for two tasks on a unit: those of the gaps
listed_is : (unit from to : ℕ) (gaps : List Gap) → listed_cost (map gap_change (filter has_cost gaps)) unit from to ≡ greatest_by (λ gap. if is_between unit from to gap then gap.cost else 0) gaps
listed_is unit from to [] = refl
listed_is unit from to (gap ∷ gaps) =
    let rest = listed_is unit from to gaps in
    let all : ℕ = greatest_by (λ g. if is_between unit from to g then g.cost else 0) gaps in
    elim (cases_Bool (has_cost gap)) [
      | inl t ↦
          ap (λ gs. listed_cost (map gap_change gs) unit from to) (cond-true (has_cost gap) (gap ∷ filter has_cost gaps) (filter has_cost gaps) t)
          ∙ (elim (cases_Bool (is_between unit from to gap)) [
            | inl u ↦ cond-true {A = ℕ} (is_between unit from to gap) (max gap.cost (listed_cost (map gap_change (filter has_cost gaps)) unit from to)) (listed_cost (map gap_change (filter has_cost gaps)) unit from to) u
                ∙ ap (λ n. max gap.cost n) rest ∙ ap (λ n. max n all) (sym (cond-true {A = ℕ} (is_between unit from to gap) gap.cost 0 u))
            | inr u ↦ cond-false {A = ℕ} (is_between unit from to gap) (max gap.cost (listed_cost (map gap_change (filter has_cost gaps)) unit from to)) (listed_cost (map gap_change (filter has_cost gaps)) unit from to) u
                ∙ rest ∙ (let z : max 0 all ≡ all = omega arith in sym z) ∙ ap (λ n. max n all) (sym (cond-false {A = ℕ} (is_between unit from to gap) gap.cost 0 u))
          ])
      | inr t ↦
          let none : gap.cost ≡ 0 = let h = ltb-false 0 gap.cost t in omega (arith, h) in
          let nothing : (if is_between unit from to gap then gap.cost else 0) ≡ 0 = elim (cases_Bool (is_between unit from to gap)) [
            | inl u ↦ cond-true {A = ℕ} (is_between unit from to gap) gap.cost 0 u ∙ none
            | inr u ↦ cond-false {A = ℕ} (is_between unit from to gap) gap.cost 0 u
          ] in
          ap (λ gs. listed_cost (map gap_change gs) unit from to) (cond-false (has_cost gap) (gap ∷ filter has_cost gaps) (filter has_cost gaps) t)
          ∙ rest ∙ (let z : max 0 all ≡ all = omega arith in sym z) ∙ ap (λ n. max n all) (sym nothing)
    ]

-- a pair of tags costs what its starts' changeover does
pair_is : (plant : Plant) (plan : List Start) (a b : Start) → pair_cost (plant_changes plant) (map (tag_of plant) plan) (tag_of plant a) (tag_of plant b) ≡ changeover plant plan a b
unfolding plant_changes changeover cost_between
pair_is plant plan a b =
    ap₂ (λ t n. cond t n 0) (sym (next_is plant a b plan)) (listed_is a.unit a.task b.task plant.gaps)

-- a tag that comes first costs what its start's changeover does, from the batch that held the unit before
opening_is : (plant : Plant) (plan : List Start) (b : Start) → opening_cost (map (tag_of plant) plan) (tag_of plant b) ≡ first_change plant plan b
unfolding first_change
opening_is plant plan b = ap (λ t. cond t (first_cost plant b.unit b.task) 0) (sym (first_is plant b plan))

-- what a start's tag costs is what its changeovers do
cost_is : (plant : Plant) (plan : List Start) (a : Start) →
    costs_of (plant_changes plant) (map (tag_of plant) plan) (tag_of plant a) ≡ sum_by (changeover plant plan a) plan + first_change plant plan a
cost_is plant plan a =
    ap₂ (λ m n. m + n)
    (sum_by-map (pair_cost (plant_changes plant) (map (tag_of plant) plan) (tag_of plant a)) (tag_of plant) plan
    ∙ sum_by-same (λ b. pair_cost (plant_changes plant) (map (tag_of plant) plan) (tag_of plant a) (tag_of plant b)) (changeover plant plan a) (pair_is plant plan a) plan)
    (opening_is plant plan a)

-- what the changeovers of a list of starts cost, by their tags
costs_are : (plant : Plant) (plan : List Start) → sum_by (costs_of (plant_changes plant) (map (tag_of plant) plan)) (map (tag_of plant) plan) ≡ change_costs plant plan
unfolding change_costs
costs_are plant plan =
    sum_by-map (costs_of (plant_changes plant) (map (tag_of plant) plan)) (tag_of plant) plan
    ∙ sum_by-same (λ a. costs_of (plant_changes plant) (map (tag_of plant) plan) (tag_of plant a)) (λ a. sum_by (changeover plant plan a) plan + first_change plant plan a) (cost_is plant plan) plan
    ∙ sum_by-add (λ a. sum_by (changeover plant plan a) plan) (first_change plant plan) plan

-- the changeovers of a plan's point cost what the plan's do
pub changeovers-are : (plant : Plant) (plan : List Start) → Sound plant → HasPoint plant plan →
    changeovers (plant_changes plant) (map (slot_tag plant) (slots plant)) (plan_point plant plan) ≡ change_costs plant plan
changeovers-are plant plan sound has =
    let starts = point_starts plant (slots plant) (plan_point plant plan) in
    ap (λ ts. sum_by (costs_of (plant_changes plant) ts) ts) (started-are plant (slots plant) (plan_point plant plan))
    ∙ costs_are plant starts
    ∙ sym (change_costs-permutation plant plan starts (starts-permutation plant plan sound has))
