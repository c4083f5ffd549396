-- The rows with the sums, setups and derivations of a head.
use Rattle.std.proofs.Common.{◌≡◌, ℕ, ◌+◌, ◌*◌, ◌<◌, ◌≤◌, ◌^◌, List, [], ◌∷◌, ◌++◌, ◌-◌, length, map, take, drop, inl, inr, refl, sym, ap, ap₂, ◌∙◌, subst, true, arith, append_assoc}
use Rattle.std.specs.Prelude.{slice_index, slice_index_or, Option, Result, Ok, Err, IfOk}
use Rattle.std.specs.List.{All}
use Rattle.std.specs.Result.{MatchResult}
use Rattle.std.proofs.Math.Seq.{drop-append_seam}
use Rattle.std.proofs.lemmas.List.{get_or_read, length-append, length-drop, length-map, take_all}
use Rattle.std.proofs.lemmas.List.Elements.{All-head, All-tail}
use Rattle.std.proofs.lemmas.List.FromFn.{get_or-map-range_with_len, length-map-range_with_len}
use Rattle.std.proofs.lemmas.Bool.Decides.{nat_tests}
use Rattle.stn_model.specs.declared.plant.Plant.{Plant}
use Rattle.log_lines.specs.declared.defect.Defect.{Defect}
use Rattle.log_lines.specs.declared.grammar.Limits.{Limits}
use Rattle.row_kit.specs.declared.domain.Domain.{Domain}
use Rattle.row_kit.specs.declared.program.Program.{Program}
use Rattle.time_grid.specs.Slots.{slots}
use Rattle.row_set.specs.Parts.{IsPartOf}
use Rattle.row_set.specs.PlantProgram.{slot_domain}
use Rattle.row_relax.specs.declared.rows.Rows.{Rows}
use Rattle.sum_slots.specs.declared.sum.Sum.{Sum}
use Rattle.sum_slots.specs.Larger.{IsWithSums, sum_domain, sum_rows}
use Rattle.sum_slots.specs.Shown.{AreRanges, IsShown}
use Rattle.sum_slots.specs.Sum.{IsDeclared}
use Rattle.sum_slots.proofs.Bounds.{two_rows}
use Rattle.setup_slots.specs.Larger.{HasPlantSlots, setup_domain}
use Rattle.setup_slots.specs.Several.{AreSetUp, HaveRoom, choices_before, domains_with, rows_with, slots_with}
use Rattle.setup_slots.specs.Slots.{setup_slots, task_slot}
use Rattle.setup_slots.proofs.ManyUnits.{roots-several, rows-several, slots-grow, slots-several}
use Rattle.derivations.specs.declared.derivation.Derivation.{Derivation}
use Rattle.derivations.specs.declared.derivation.Derivation.TheVariants.{Cut, Row}
use Rattle.derivations.specs.Growth.{AreShown, rows_of}
use Rattle.derivations.specs.Grown.{IsFirstUnshown}
use Rattle.derivations.specs.Larger.{IsWithDerivations, begun}
use Rattle.sum_lines.specs.declared.head.Head.{Head}
use Rattle.sum_lines.specs.Head.{IsKeptHead}
use Rattle.setup_lines.specs.declared.setups.SetupSize.{SetupSize}
use Rattle.setup_lines.specs.declared.setups.Setups.{Setups}
use Rattle.setup_lines.specs.Setups.{limits_set_up, setups_of, size_of, with_setup}
use Rattle.derivation_lines.specs.declared.tail.Tail.{Tail}
use Rattle.derivation_lines.specs.Tail.{AreKeptAfter, has_row_room}
use Rattle.valid_log.specs.Heads.{HasHeadDefect, IsWithHead, head_domains, limits_with, setup_size, setup_sizes, wide_domains}
use Rattle.valid_log.proofs.AnyVersions.{small_set, small_sums}
use Rattle.valid_log.proofs.Fronts.{AreSmall}
use Rattle.valid_log.proofs.Holding.{head-ranges, setup-ranges}
use Rattle.valid_log.proofs.PlantRanges.{part-ranges}
use Rattle.plant_check.specs.Heads.{AreDerived, IsHeadHeld, IsJudged, IsSetupsHeld, IsTailHeld, IsUnderivedAt}

-- ---- what is held of a head with its setups

pub held_of : (plant : Plant) (program : Program) (depth : ℕ) (head : Head) (setups : Setups) → IsKeptHead (limits_with program depth 0) head → IsSetupsHeld (limits_with program depth (length head.sums)) (setup_sizes plant) head setups → IsHeadHeld plant program depth setups
held_of plant program depth head setups kept held =
    let limits = limits_with program depth (length head.sums) in
    let sizes = setup_sizes plant in
    let own : IsHeadHeld plant program depth (setups_of limits sizes head setups.units) = record {
      version = kept.version;
      sums = kept.sums;
      lines = kept.lines;
      units = held.kept.units;
      limits = refl;
      none = held.none;
      count = omega (arith, kept.count);
      bytes = subst (λ (s : Setups). s.head.bytes < 2 ^ 64) held.kept.is held.kept.bytes_most;
    } in
    subst (IsHeadHeld plant program depth) (sym held.kept.is) own

-- ---- room

-- what is held of a head leaves few slots and rows: with its sums, and with its setups
pub summed_small : (plant : Plant) (program : Program) (depth : ℕ) (setups : Setups) → IsHeadHeld plant program depth setups → AreSmall (limits_with program depth (length setups.head.sums))
summed_small plant program depth setups held = small_sums program depth setups.head.version setups.head.sums held.version held.sums

pub held_small : (plant : Plant) (program : Program) (depth : ℕ) (setups : Setups) → IsHeadHeld plant program depth setups → AreSmall setups.limits
held_small plant program depth setups held =
    subst AreSmall (sym held.limits) (small_set (limits_with program depth (length setups.head.sums)) (setup_sizes plant) setups.units (summed_small plant program depth setups held) held.units)

-- sums are declared over a program's slots
pub declared_over : (plant : Plant) (program : Program) (depth : ℕ) (setups : Setups) → IsHeadHeld plant program depth setups → All (IsDeclared (length program.root)) setups.head.sums
declared_over plant program depth setups held = λ k d h.
    let e : length program.root + 0 ≡ length program.root = omega arith in subst (λ (n : ℕ). IsDeclared n (slice_index_or setups.head.sums k d)) e (held.sums.declared k d h)

-- how many slots and rows a program with sums has
summed_slots : (program between : Program) (judged : List Domain) (sums : List Sum) → IsWithSums program judged sums between → length between.root ≡ length program.root + length sums
summed_slots program between judged sums with' = omega (arith, ap length with'.root, length-append program.root (map (sum_domain program judged) sums), length-map sums (sum_domain program judged))

summed_rows : (program between : Program) (judged : List Domain) (sums : List Sum) → IsWithSums program judged sums between → length between.rows ≡ length program.rows + 2 * length sums
summed_rows program between judged sums with' = omega (arith, ap length with'.rows, length-append program.rows (sum_rows (length program.root) sums), two_rows (length program.root) sums)

-- the size of a unit that is there
size-there : (plant : Plant) (unit : ℕ) → unit < length (setup_sizes plant) → size_of (setup_sizes plant) unit ≡ setup_size plant unit
size-there plant unit less =
    get_or-map-range_with_len (setup_size plant) 0 (length plant.units) unit unit (record { slots = 0; rows = 0 }) (omega (arith, less, length-map-range_with_len (setup_size plant) 0 (length plant.units))) (omega arith)

-- limits with the setups of units that are there count their slots and rows
limits-slots : (plant : Plant) (limits : Limits) (units : List ℕ) → All (λ unit. unit < length (setup_sizes plant)) units → (limits_set_up limits (setup_sizes plant) units).slots ≡ slots_with plant units limits.slots
limits-slots plant limits [] there = refl
limits-slots plant limits (unit ∷ units) there =
    limits-slots plant (with_setup limits (size_of (setup_sizes plant) unit)) units (All-tail (λ u. u < length (setup_sizes plant)) unit units there)
    ∙ ap (λ (s : SetupSize). slots_with plant units (limits.slots + s.slots)) (size-there plant unit (All-head (λ u. u < length (setup_sizes plant)) unit units there))

limits-rows : (plant : Plant) (limits : Limits) (units : List ℕ) → All (λ unit. unit < length (setup_sizes plant)) units → (limits_set_up limits (setup_sizes plant) units).rows ≡ rows_with plant units limits.rows
limits-rows plant limits [] there = refl
limits-rows plant limits (unit ∷ units) there =
    limits-rows plant (with_setup limits (size_of (setup_sizes plant) unit)) units (All-tail (λ u. u < length (setup_sizes plant)) unit units there)
    ∙ ap (λ (s : SetupSize). rows_with plant units (limits.rows + s.rows)) (size-there plant unit (All-head (λ u. u < length (setup_sizes plant)) unit units there))

-- so there is room for setups that are held
pub room_held : (plant : Plant) (program between : Program) (judged : List Domain) (depth : ℕ) (setups : Setups) → IsHeadHeld plant program depth setups → IsWithSums program judged setups.head.sums between → HaveRoom plant setups.units between
room_held plant program between judged depth setups held with' =
    let limits = limits_with program depth (length setups.head.sums) in
    let small = subst AreSmall held.limits (held_small plant program depth setups held) in
    let slots = limits-slots plant limits setups.units held.units.there ∙ ap (slots_with plant setups.units) (sym (summed_slots program between judged setups.head.sums with')) in
    let rows = limits-rows plant limits setups.units held.units.there ∙ ap (rows_with plant setups.units) (sym (summed_rows program between judged setups.head.sums with')) in
    record { slots = subst (λ (n : ℕ). n ≤ 4096) slots small.slots; rows = subst (λ (n : ℕ). n ≤ 400000) rows small.rows }

-- the program of a part of a plant's choices begins with the plant's slots
pub part_begins : (plant : Plant) (part : Program) → IsPartOf plant part → HasPlantSlots plant part
part_begins plant part is = omega (arith, (part-ranges plant part is).same_length, length-map (slots plant) (slot_domain plant), length-map (slots plant) (task_slot plant))

-- a program of a plant's slots has them with sums too
pub begins_held : (plant : Plant) (program between : Program) (judged : List Domain) (sums : List Sum) → HasPlantSlots plant program → IsWithSums program judged sums between → HasPlantSlots plant between
begins_held plant program between judged sums has with' = omega (arith, has, summed_slots program between judged sums with')

-- there is room for a derived row
room : (limits : Limits) (count : ℕ) → has_row_room limits count ≡ true → limits.rows + count ≤ 400000
room limits count is = grind (arith, nat_tests)

-- so there is for all of derivations that are kept
few_rows : (limits : Limits) (before : ℕ) (ds : List Derivation) → limits.rows + before ≤ 400000 → AreKeptAfter limits before ds → limits.rows + (before + rows_of ds) ≤ 400000
few_rows limits before [] most kept = omega (arith, most)
few_rows limits before (Cut cut ∷ ds) most kept = omega (arith, few_rows limits (before + 0) ds (omega (arith, most)) kept.1)
few_rows limits before (Row derived ∷ ds) most kept = omega (arith, few_rows limits (before + 1) ds (room limits (before + 1) kept.0.1) kept.1)

-- the rows of a head with its derivations are not too many
pub few_derived : (plant : Plant) (program : Program) (depth : ℕ) (setups : Setups) (tail : Tail) → IsHeadHeld plant program depth setups → IsTailHeld setups.limits setups.head tail → setups.limits.rows + rows_of tail.derivations ≤ 400000
few_derived plant program depth setups tail held tailed =
    let small = held_small plant program depth setups held in
    omega (arith, few_rows setups.limits 0 tail.derivations (omega (arith, small.rows)) tailed.kept.derivations)

pub rows_fit : (plant : Plant) (program between wide : Program) (judged : List Domain) (depth : ℕ) (setups : Setups) (tail : Tail) → IsHeadHeld plant program depth setups → IsTailHeld setups.limits setups.head tail → IsWithSums program judged setups.head.sums between
    → AreSetUp plant setups.units between wide → length wide.rows + rows_of tail.derivations ≤ 400000
rows_fit plant program between wide judged depth setups tail held tailed with' set =
    let limits = limits_with program depth (length setups.head.sums) in
    let rows : setups.limits.rows ≡ length wide.rows =
    ap (λ (l : Limits). l.rows) held.limits ∙ limits-rows plant limits setups.units held.units.there ∙ ap (rows_with plant setups.units) (sym (summed_rows program between judged setups.head.sums with'))
    ∙ sym (rows-several plant setups.units between wide set) in
    omega (arith, rows, few_derived plant program depth setups tail held tailed)

-- ---- domains

-- domains with those of setups, where they begin with others
domains-tail : (plant : Plant) (units : List ℕ) (xs ys : List Domain) → domains_with plant units (xs ++ ys) ≡ xs ++ domains_with plant units ys
domains-tail plant [] xs ys = refl
domains-tail plant (unit ∷ units) xs ys =
    let own = map (λ slot. setup_domain) (setup_slots plant unit) in
    ap (domains_with plant units) (append_assoc xs ys own) ∙ domains-tail plant units xs (ys ++ own)

-- the domains before any derivation, as they are put together
pub domains_are : (plant : Plant) (program between wide : Program) (judged : List Domain) (sums : List Sum) (units : List ℕ) (slots : ℕ) (root domains : List Domain) → slots ≡ length program.root → root ≡ wide.root → IsWithSums program judged sums between
    → AreSetUp plant units between wide → domains ≡ judged ++ take (length root - slots) (drop slots root) → domains ≡ wide_domains plant program judged sums units
domains_are plant program between wide judged sums units slots root domains all same with' set is =
    let own = map (sum_domain program judged) sums in
    let rest = take_all (length root - slots) (drop slots root) (omega (arith, length-drop slots root)) in
    let whole : root ≡ program.root ++ domains_with plant units own = same ∙ roots-several plant units between wide set ∙ ap (domains_with plant units) with'.root ∙ domains-tail plant units program.root own in
    is ∙ ap (λ (ds : List Domain). judged ++ ds) rest ∙ ap₂ (λ (n : ℕ) (ds : List Domain). judged ++ drop n ds) all whole
    ∙ ap (λ (ds : List Domain). judged ++ ds) (drop-append_seam program.root (domains_with plant units own)) ∙ sym (domains-tail plant units judged own)

-- the program with setups has the slots of the one without sums
pub slots_there : (plant : Plant) (program between wide : Program) (judged : List Domain) (sums : List Sum) (units : List ℕ) (slots : ℕ) (root : List Domain) → slots ≡ length program.root → root ≡ wide.root → IsWithSums program judged sums between
    → AreSetUp plant units between wide → slots ≤ length root
slots_there plant program between wide judged sums units slots root all same with' set =
    omega (arith, all, ap length same, slots-several plant units between wide set, slots-grow plant units (length between.root), summed_slots program between judged sums with')

-- the points of the program with setups lie in them
pub wide_ranges : (plant : Plant) (program between wide : Program) (judged : List Domain) (sums : List Sum) (units : List ℕ) → AreRanges program judged → IsWithSums program judged sums between → AreSetUp plant units between wide
    → AreRanges wide (wide_domains plant program judged sums units)
wide_ranges plant program between wide judged sums units ranges with' set = setup-ranges plant units between wide (head_domains program judged sums) (head-ranges program between judged sums ranges with') set

-- ---- heads

-- with no derivation each is shown
none_shown : (program : Program) (domains : List Domain) (derivations : List Derivation) → derivations ≡ [] → AreShown (begun program domains) derivations
none_shown program domains derivations none = subst (AreShown (begun program domains)) (sym none) tt

-- the rows of a head of version 3
pub with_sums_alone : (plant : Plant) (version : ℕ) (program between : Program) (judged : List Domain) (sums : List Sum) (units : List ℕ) (derivations : List Derivation) (rows : Rows) → version ≡ 3 → units ≡ [] → derivations ≡ [] → All (IsShown program judged) sums
    → IsWithSums program judged sums between → AreSetUp plant units between rows.program → rows.choices ≡ choices_before units between → IsWithHead plant version program judged sums units derivations rows
with_sums_alone plant version program between judged sums units derivations rows three none derived shown with' set choices = record {
  sums_shown = shown;
  between = between;
  with_sums = with';
  wide = rows.program;
  with_setups = set;
  derivations_shown = none_shown rows.program (wide_domains plant program judged sums units) derivations derived;
  grown = inl (three, none, refl);
  choices = choices;
}

-- and those of one of version 4
pub with_derived : (plant : Plant) (version : ℕ) (program between wide : Program) (choices : Option Program) (judged domains : List Domain) (sums : List Sum) (units : List ℕ) (tail : Tail) (rows : Rows) → version ≡ 4 → All (IsShown program judged) sums
    → IsWithSums program judged sums between → AreSetUp plant units between wide → choices ≡ choices_before units between → domains ≡ wide_domains plant program judged sums units → AreDerived wide choices domains tail rows
    → IsWithHead plant version program judged sums units tail.derivations rows
with_derived plant version program between wide choices judged domains sums units tail rows four shown with' set before same derived = record {
  sums_shown = shown;
  between = between;
  with_sums = with';
  wide = wide;
  with_setups = set;
  derivations_shown = subst (λ (ds : List Domain). AreShown (begun wide ds) tail.derivations) same derived.shown;
  grown = inr (four, subst (λ (ds : List Domain). IsWithDerivations wide ds tail.derivations rows.program) same derived.grown);
  choices = derived.choices_are ∙ before;
}

-- the first derivation that is not shown begins on its line
pub underived : (plant : Plant) (program between wide : Program) (judged domains : List Domain) (setups : Setups) (tail : Tail) (defect : Defect) → All (IsShown program judged) setups.head.sums → IsWithSums program judged setups.head.sums between
    → AreSetUp plant setups.units between wide → domains ≡ wide_domains plant program judged setups.head.sums setups.units → IsUnderivedAt wide domains tail defect → HasHeadDefect plant program judged setups tail defect.line defect.kind
underived plant program between wide judged domains setups tail defect shown with' set same at = inr (
  at.kind,
  record {
    sums_shown = shown;
    between = between;
    with_sums = with';
    wide = wide;
    with_setups = set;
    place = at.place;
    first = subst (λ (ds : List Domain). IsFirstUnshown (begun wide ds) tail.derivations at.place) same at.first;
    begins = at.begins;
  },
)

-- what derivations lead to is what the head does
pub judged_by : {E : Type 0} (plant : Plant) (program between wide : Program) (choices : Option Program) (judged domains : List Domain) (setups : Setups) (tail : Tail) (r : Result (Result Rows Defect) E) → setups.head.version ≡ 4
    → All (IsShown program judged) setups.head.sums → IsWithSums program judged setups.head.sums between → AreSetUp plant setups.units between wide → choices ≡ choices_before setups.units between
    → domains ≡ wide_domains plant program judged setups.head.sums setups.units → IfOk r (λ own. MatchResult own (AreDerived wide choices domains tail) (IsUnderivedAt wide domains tail)) → IfOk r (IsJudged plant program judged setups tail)
judged_by plant program between wide choices judged domains setups tail (Ok (Ok rows)) four shown with' set before same derived =
    with_derived plant setups.head.version program between wide choices judged domains setups.head.sums setups.units tail rows four shown with' set before same derived
judged_by plant program between wide choices judged domains setups tail (Ok (Err defect)) four shown with' set before same at = underived plant program between wide judged domains setups tail defect shown with' set same at
judged_by plant program between wide choices judged domains setups tail (Err e) four shown with' set before same is = tt

-- the line at a place
pub line_at : (given : Program) (domains : List Domain) (tail : Tail) (place line : ℕ) → length tail.lines ≡ length tail.derivations → IsFirstUnshown (begun given domains) tail.derivations place → line ≡ slice_index_or tail.lines place line
    → line ≡ slice_index tail.lines place
line_at given domains tail place line same first is =
    let long : length tail.derivations ≡ length first.before + (1 + length first.later) = ap length first.listed ∙ length-append first.before (first.derivation ∷ first.later) ∙ ap (λ (n : ℕ). length first.before + n) (omega arith) in
    get_or_read tail.lines place line (omega (arith, same, long, first.stands)) is 0
