-- What the sums, the setups and the derivations that are chosen for a part keep.
use Rattle.std.proofs.Common.{◌≡◌, ℕ, suc, ◌+◌, ◌-◌, ◌*◌, ◌^◌, ◌<◌, ◌≤◌, leb, true, List, [], ◌∷◌, ◌++◌, length, map, take, drop, Option, Some, None, ℤ, refl, sym, ap, ◌∙◌, subst, ⊎_elim, inr, append_assoc, arith}
use Rattle.std.specs.Prelude.{MatchOption}
use Rattle.std.specs.List.{All, AllZip, sum_by}
use Rattle.std.proofs.lemmas.Bool.{and_from, cases_lt, le-leb}
use Rattle.std.proofs.Math.Seq.{drop-append_seam}
use Rattle.std.proofs.lemmas.Bool.Decides.{nat_tests}
use Rattle.std.proofs.lemmas.List.{get_or_past, length-append, length-drop, length-map, take_all}
use Rattle.std.proofs.lemmas.List.Elements.{All-head, All-tail, All-weaker}
use Rattle.stn_model.specs.declared.plant.Plant.{Plant}
use Rattle.stn_model.specs.Points.{depth_limit, slot_limit}
use Rattle.stn_model.specs.Sound.{Sound}
use Rattle.time_grid.specs.Slots.{slots}
use Rattle.row_kit.specs.declared.domain.Domain.{Domain}
use Rattle.row_kit.specs.declared.program.Program.{Program}
use Rattle.row_kit.specs.declared.row.Entry.{Entry}
use Rattle.row_kit.specs.declared.row.Row.{Row}
use Rattle.row_kit.specs.Domain.{IsNormal}
use Rattle.row_kit.specs.Row.{no_row}
use Rattle.row_kit.proofs.Ascending.{few_entries}
use Rattle.row_set.specs.Parts.{IsPartOf, IsWithin}
use Rattle.row_set.specs.PlantProgram.{slot_domain}
use Rattle.row_relax.specs.declared.rows.Rows.{Rows}
use Rattle.branch_tree.specs.Searched.{spared}
use Rattle.branch_tree.specs.Splits.{splits_of}
use Rattle.log_lines.specs.declared.grammar.Limits.{Limits}
use Rattle.sum_slots.specs.declared.sum.Sum.{Sum}
use Rattle.sum_slots.specs.Larger.{IsWithSums, sum_domain, sum_rows}
use Rattle.sum_slots.specs.Shown.{AreRanges, IsShown, most_by_row, most_count, opposites}
use Rattle.sum_slots.proofs.Bounds.{two_rows}
use Rattle.sum_lines.specs.Head.{HasRows, IsThere}
use Rattle.sum_lines.specs.Line.{IsShort}
use Rattle.setup_slots.specs.Larger.{HasPlantSlots}
use Rattle.setup_slots.specs.Several.{AreSetUp, choices_before, domains_with, rows_with, slots_with}
use Rattle.setup_slots.specs.Slots.{task_slot}
use Rattle.setup_slots.proofs.ManyUnits.{rows-several, slots-several}
use Rattle.setup_lines.specs.Setups.{AreSetupsKept}
use Rattle.derived_rows.specs.declared.derived.Derived.{Derived}
use Rattle.derived_rows.specs.declared.derived.Group.{Group}
use Rattle.derived_rows.specs.declared.derived.Members.{Members}
use Rattle.derived_rows.specs.declared.derived.Members.TheVariants.{One, OfRow}
use Rattle.derived_rows.specs.Groups.{AreMembers}
use Rattle.derived_rows.specs.Shown.{IsGroup, IsShownRow, derived_row}
use Rattle.derivations.specs.declared.derivation.Derivation.{Derivation}
use Rattle.derivations.specs.declared.derivation.Derivation.TheVariants as derivation
use Rattle.derivations.specs.Anew.{IsWithAnew}
use Rattle.derivations.specs.Growth.{AreShown, Growth, after, after_all, rows_of}
use Rattle.derivations.specs.Larger.{IsWithDerivations, begun, grown_by, met}
use Rattle.derivations.proofs.Again.{shown-stand}
use Rattle.derivations.proofs.Holding.{slots-after_all}
use Rattle.derivation_lines.specs.Tail.{AreKeptAfter, AreNamed, IsNamedGroup, IsRowKept, has_row_room}
use Rattle.valid_log.specs.Heads.{head_domains, limits_with, setup_sizes, wide_domains}
use Rattle.valid_log.proofs.Holding.{head-ranges, setup-ranges}
use Rattle.plan_told.specs.Heads.{CanHead, limits_before, whole_head}
use Rattle.head_choice.specs.declared.widening.Widened.{Widened}
use Rattle.head_choice.specs.Heading.{AreChosen, AreDeclared, CanSetUp, HasForm, HasUnitRoom, IsWidened}
use Rattle.head_choice.proofs.Limits.{limits-nine, slots-within}
use Rattle.head_choice.proofs.UnitsSet.{domains-more, limits-rows, limits-slots, root-more, setups-all, sizes-long, splits-met}

-- a row that is not there shows nothing
shows_nothing : (terms : List Entry) (P : ℤ → Type 0) → MatchOption (most_by_row terms no_row) ⊥ P → ⊥
shows_nothing [] P shown = shown
shows_nothing (term ∷ terms) P shown = shown

-- so a row that shows something is there
shows_there : (program : Program) (ranges : List Domain) (by : Option ℕ) (terms : List Entry) (P : ℤ → Type 0) → MatchOption (most_count program ranges by terms) ⊥ P → IsThere (length program.rows) by
shows_there program ranges None terms P shown = tt
shows_there program ranges (Some number) terms P shown =
    ⊎_elim
    (λ (there : number < length program.rows). there)
    (λ (past : length program.rows ≤ number). absurd (shows_nothing terms P (subst (λ (row : Row). MatchOption (most_by_row terms row) ⊥ P) (get_or_past program.rows number no_row past) shown)))
    (cases_lt number (length program.rows))

-- the rows of a shown sum are there
shown_there : (program : Program) (ranges : List Domain) (sum : Sum) → IsShown program ranges sum → HasRows (length program.rows) sum
shown_there program ranges sum shown = (shows_there program ranges sum.low (opposites sum.terms) _ shown.low, shows_there program ranges sum.high sum.terms _ shown.high)

-- ---- derivations

-- the members of a group name what is there
named_members : (rows : List Row) (slots : ℕ) (members : Members) → AreMembers rows slots members → AreNamed slots (length rows) members
named_members rows slots (One slot) are = are
named_members rows slots (OfRow row) are = are.0

named_group : (rows : List Row) (slots : ℕ) (group : Group) → IsGroup rows slots group → IsNamedGroup slots (length rows) group
named_group rows slots group is = record { there = named_members rows slots group.members is.members; small = is.small }

-- a shown row that has the form of a log's keeps its limits
row_kept : (g : Growth) (derived : Derived) → length g.domains ≤ 4096 → IsShownRow g.rows g.domains derived → HasForm (derivation.Row derived) → IsRowKept (length g.domains) (length g.rows) derived
row_kept g derived few shown formed =
    let d = shown.declared in
    let entries = few_entries (length g.domains) 10000000 derived.entries d.entries in
    record {
      line = (d.divisor, d.rest, d.up, d.down, (d.factor_count.0, d.factor_count.1, d.few_groups, omega (arith, entries, few)));
      few_entries = entries;
      parts = record {
        factors = d.factors;
        ascending = formed.0;
        groups = All-weaker (IsGroup g.rows (length g.domains)) (IsNamedGroup (length g.domains) (length g.rows)) (named_group g.rows (length g.domains)) derived.groups d.groups;
        entries = record { count = formed.1; bounded = d.entries };
      };
    }

has_room : (limits : Limits) (count : ℕ) → limits.rows + count ≤ 400000 → count ≤ 4096 → has_row_room limits count ≡ true
has_room limits count rows derived =
    let one : leb (limits.rows + count) 400000 ≡ true = grind (arith, nat_tests) in
    let other : leb count 4096 ≡ true = grind (arith, nat_tests) in
    rw (one, other) refl

-- so do derivations that are shown, have that form, and for which there is room
kept_after : (limits : Limits) (before : ℕ) (g : Growth) (ds : List Derivation) → length g.rows ≡ limits.rows + before → length g.domains ≡ limits.slots → limits.slots ≤ 4096 → limits.rows + before + rows_of ds ≤ 400000 → before + rows_of ds ≤ 4096
    → AreShown g ds → All HasForm ds → AreKeptAfter limits before ds
kept_after limits before g [] rows slots few most derived shown formed = tt
kept_after limits before g (derivation.Cut cut ∷ ds) rows slots few most derived shown formed = (
  (omega (arith, shown.0.0, rows), omega (arith, shown.0.1, slots)),
  kept_after limits (before + 0) (after g (derivation.Cut cut)) ds (omega (arith, rows)) (slots-after_all g (derivation.Cut cut ∷ []) ∙ slots) few (omega (arith, most)) (omega (arith, derived)) shown.1
      (All-tail HasForm (derivation.Cut cut) ds formed),
)
kept_after limits before g (derivation.Row row ∷ ds) rows slots few most derived shown formed =
    let own = row_kept g row (omega (arith, slots, few)) shown.0 (All-head HasForm (derivation.Row row) ds formed) in
    let kept = subst (λ (n : ℕ). IsRowKept n (limits.rows + before) row) slots (subst (λ (n : ℕ). IsRowKept (length g.domains) n row) rows own) in
    let long : length (after g (derivation.Row row)).rows ≡ limits.rows + (before + 1) = omega (arith, length-append g.rows (derived_row g.rows row ∷ []), rows) in (
      (kept, has_room limits (before + 1) (omega (arith, most)) (omega (arith, derived))),
      kept_after limits (before + 1) (after g (derivation.Row row)) ds long slots few (omega (arith, most)) (omega (arith, derived)) shown.1
          (All-tail HasForm (derivation.Row row) ds formed),
    )

-- ---- heads

-- what is left of a root behind a part's slots
behind_part : (part between wide : Program) (plant : Plant) (judged : List Domain) (sums : List Sum) (units : List ℕ) → IsWithSums part judged sums between → AreSetUp plant units between wide
    → drop (length part.root) wide.root ≡ map (sum_domain part judged) sums ++ domains_with plant units []
behind_part part between wide plant judged sums units with' set =
    let own = map (sum_domain part judged) sums in
    let more = domains_with plant units [] in
    ap (drop (length part.root)) (root-more plant units between wide set ∙ ap (λ (ds : List Domain). ds ++ more) with'.root ∙ append_assoc part.root own more) ∙ drop-append_seam part.root (own ++ more)

-- the domains before any derivation, as they are put together
pub domains-are : (plant : Plant) (part between wide : Program) (judged : List Domain) (sums : List Sum) (units : List ℕ) (given : ℕ) (root domains : List Domain) → given ≡ length part.root → root ≡ wide.root → IsWithSums part judged sums between
    → AreSetUp plant units between wide → domains ≡ judged ++ take (length root - given) (drop given root) → domains ≡ wide_domains plant part judged sums units
domains-are plant part between wide judged sums units given root domains all same with' set is =
    let own = map (sum_domain part judged) sums in
    let more = domains_with plant units [] in
    let rest = take_all (length root - given) (drop given root) (omega (arith, length-drop given root)) in
    is ∙ ap (λ (ds : List Domain). judged ++ ds) rest ∙ ap (λ (n : ℕ). judged ++ drop n root) all ∙ ap (λ (ds : List Domain). judged ++ drop (length part.root) ds) same
    ∙ ap (λ (ds : List Domain). judged ++ ds) (behind_part part between wide plant judged sums units with' set) ∙ sym (append_assoc judged own more) ∙ sym (domains-more plant units (judged ++ own))

-- a root with setups has the part's slots
pub given-there : (plant : Plant) (part between wide : Program) (judged : List Domain) (sums : List Sum) (units : List ℕ) (given : ℕ) (root : List Domain) → given ≡ length part.root → root ≡ wide.root → IsWithSums part judged sums between
    → AreSetUp plant units between wide → given ≤ length root
given-there plant part between wide judged sums units given root all same with' set =
    omega (arith, all, ap length same, ap length (root-more plant units between wide set), length-append between.root (domains_with plant units []), ap length with'.root, length-append part.root (map (sum_domain part judged) sums))

module _ (most : ℕ) (part between : Program) (judged : List Domain) (sums : List Sum) (chosen : AreChosen most part judged sums between) where
  -- as many slots and rows as the sums add
  between_slots : length between.root ≡ length part.root + length sums
  between_slots = ap length chosen.with_sums.root ∙ length-append part.root (map (sum_domain part judged) sums) ∙ ap (λ (n : ℕ). length part.root + n) (length-map sums (sum_domain part judged))

  between_rows : length between.rows ≡ length part.rows + 2 * length sums
  between_rows = omega (arith, ap length chosen.with_sums.rows, length-append part.rows (sum_rows (length part.root) sums), two_rows (length part.root) sums)

  -- the program begins with the slots of the plant
  pub plant-slots : (plant : Plant) → IsPartOf plant part → HasPlantSlots plant between
  plant-slots plant is =
      let own = length_within part.root is.whole.root is.within ∙ ap length is.made.root_is ∙ length-map (slots plant) (slot_domain plant) in
      omega (arith, own, between_slots, length-map (slots plant) (task_slot plant))
    where
      length_within : (small large : List Domain) → AllZip IsWithin small large → length small ≡ length large
      length_within [] [] within = refl
      length_within [] (e ∷ large) within = absurd within
      length_within (d ∷ small) [] within = absurd within
      length_within (d ∷ small) (e ∷ large) within = ap suc (length_within small large within.1)

  module _ (plant : Plant) (limit : most ≡ slot_limit plant) (wide : Program) (units : List ℕ) (domains : List Domain) (may : CanSetUp plant between units) (set : AreSetUp plant units between wide) (are : domains ≡ wide_domains plant part judged sums units) where
    wide_slots : length wide.root ≡ slots_with plant units (length between.root)
    wide_slots = slots-several plant units between wide set

    wide_rows : length wide.rows ≡ rows_with plant units (length between.rows)
    wide_rows = rows-several plant units between wide set

    wide_ranges : AreRanges wide domains
    wide_ranges = subst (AreRanges wide) (sym are) (setup-ranges plant units between wide (head_domains part judged sums) (head-ranges part between judged sums chosen.ranges chosen.with_sums) set)

    -- a domain for each slot
    pub chosen-slots : length domains ≡ length wide.root
    chosen-slots = wide_ranges.same_length

    -- which is normal
    pub chosen-normal : All IsNormal domains
    chosen-normal = wide_ranges.normal

    module _ (larger : Program) (derivations : List Derivation) (made : AreDeclared wide domains derivations) (anew : IsWithAnew wide domains derivations larger) where
      grown : IsWithDerivations wide domains derivations larger
      grown = shown-stand wide larger domains derivations made.shown anew

      -- the units are there
      there : All (λ unit. unit < length (setup_sizes plant)) units
      there = All-weaker (λ (u : ℕ). u < length plant.units) (λ (u : ℕ). u < length (setup_sizes plant)) (λ u lt. omega (arith, lt, sizes-long plant)) units may.there

      -- the limits of logs behind the setups are the program's slots and rows
      limits_slots : (limits_before plant part 0 sums units).slots ≡ length wide.root
      limits_slots = limits-slots plant (limits_with part 0 (length sums)) units there ∙ ap (slots_with plant units) (sym between_slots) ∙ sym wide_slots

      limits_rows : (limits_before plant part 0 sums units).rows ≡ length wide.rows
      limits_rows = limits-rows plant (limits_with part 0 (length sums)) units there ∙ ap (rows_with plant units) (sym between_rows) ∙ sym wide_rows

      -- the setups keep the limits
      units_kept : Sound plant → AreSetupsKept (limits_with part 0 (length sums)) (setup_sizes plant) units
      units_kept sound = record {
        short = All-weaker (λ (u : ℕ). u < length plant.units) IsShort (λ u lt. short_unit u lt) units may.there;
        ascending = may.ascending;
        there = there;
        room = λ some.
            let slots : leb (limits_before plant part 0 sums units).slots 4096 ≡ true = (let few = (may.room some).slots in le-leb (limits_before plant part 0 sums units).slots 4096 (omega (arith, limits_slots, wide_slots, few))) in
            let rows : leb (limits_before plant part 0 sums units).rows 400000 ≡ true = (let few = (may.room some).rows in le-leb (limits_before plant part 0 sums units).rows 400000 (omega (arith, limits_rows, wide_rows, few))) in
            and_from (leb (limits_before plant part 0 sums units).slots 4096) (leb (limits_before plant part 0 sums units).rows 400000) slots rows;
      }
        where
          short_unit : (unit : ℕ) → unit < length plant.units → IsShort unit
          short_unit unit lt = (let few = sound.counts.units in omega (arith, lt, few))

      -- a head can declare them
      pub can-head : Sound plant → (choices : Option Program) → choices ≡ choices_before units between → length (whole_head sums units derivations) < 2 ^ 64
          → CanHead plant part judged sums units derivations (record { program = larger; choices = choices })
      can-head sound choices judged_by few_bytes =
          let limits = limits_before plant part 0 sums units in
          let slots : length domains ≡ limits.slots = chosen-slots ∙ sym limits_slots in
          let rows : length wide.rows ≡ limits.rows + 0 = omega (arith, limits_rows) in
          let few : limits.slots ≤ 4096 = omega (arith, limits_slots, wide.few_slots) in
          let enough : limits.rows + 0 + rows_of derivations ≤ 400000 = omega (arith, limits_rows, made.few_rows) in
          record {
            sums_kept = record {
              declared = chosen.declared;
              rows_there = All-weaker (IsShown part judged) (HasRows (length part.rows)) (shown_there part judged) sums chosen.shown;
              slots = λ some. (let within = slots-within plant in omega (arith, chosen.few_slots, limit, within));
              rows = λ some. (let within = chosen.few_rows some in omega (arith, within));
            };
            units_kept = units_kept sound;
            derivations_kept = kept_after limits 0 (begun wide domains) derivations rows slots few enough (omega (arith, made.few_derived)) made.shown made.formed;
            few_bytes = few_bytes;
            enlarged = record {
              sums_shown = chosen.shown;
              between = between;
              with_sums = chosen.with_sums;
              wide = wide;
              with_setups = set;
              derivations_shown = subst (λ (ds : List Domain). AreShown (begun wide ds) derivations) are made.shown;
              grown = inr (refl, subst (λ (ds : List Domain). IsWithDerivations wide ds derivations larger) are grown);
              choices = judged_by;
            };
          }

      -- its slots can't be split more often than a search takes up
      pub head-splits : sum_by splits_of larger.root + sum_by spared larger.root ≤ depth_limit plant
      head-splits =
          let left = (grown_by wide domains derivations).domains in
          let own = domains_with plant units [] in
          let long : length wide.root ≡ length between.root + length own = ap length (root-more plant units between wide set) ∙ length-append between.root own in
          let root : larger.root ≡ met (between.root ++ own) left = grown.root ∙ ap (λ (ds : List Domain). met ds left) (root-more plant units between wide set) in
          let splits = few_splits units may.room in
          let all : sum_by splits_of (met (between.root ++ own) left) + sum_by spared (met (between.root ++ own) left) ≤ depth_limit plant = omega (arith, splits-met between.root own left (setups-all plant units), long, wide_slots, splits) in
          subst (λ (ds : List Domain). sum_by splits_of ds + sum_by spared ds ≤ depth_limit plant) (sym root) all
        where
          -- without setups each slot is split at most 9 times
          few_splits : (us : List ℕ) → (0 < length us → HasUnitRoom plant between us) → 8 * length between.root + slots_with plant us (length between.root) ≤ depth_limit plant
          few_splits [] room = (let nine = limits-nine plant in omega (arith, between_slots, chosen.few_slots, limit, nine))
          few_splits (unit ∷ us) room = (room (omega arith)).splits

-- ---- a part with its sums and setups

module _ (plant : Plant) (part : Program) (judged : List Domain) (wide : Widened) (is : IsWidened plant part judged wide) where
  -- a domain for each slot
  pub wide-slots : length wide.domains ≡ length wide.set.program.root
  wide-slots = chosen-slots (slot_limit plant) part is.between judged wide.sums is.chosen plant refl wide.set.program wide.units wide.domains is.may is.set is.domains

  -- which is normal
  pub wide-normal : All IsNormal wide.domains
  wide-normal = chosen-normal (slot_limit plant) part is.between judged wide.sums is.chosen plant refl wide.set.program wide.units wide.domains is.may is.set is.domains

  module _ (rows : Rows) (derivations : List Derivation) (made : AreDeclared wide.set.program wide.domains derivations) (anew : IsWithAnew wide.set.program wide.domains derivations rows.program) where
    -- a head can declare them
    pub wide-can : Sound plant → rows.choices ≡ wide.set.choices → length (whole_head wide.sums wide.units derivations) < 2 ^ 64 → CanHead plant part judged wide.sums wide.units derivations rows
    wide-can sound same few = can-head (slot_limit plant) part is.between judged wide.sums is.chosen plant refl wide.set.program wide.units wide.domains is.may is.set is.domains rows.program derivations made anew sound rows.choices (same ∙ is.choices) few

    -- its slots can't be split more often than a search takes up
    pub wide-splits : sum_by splits_of rows.program.root + sum_by spared rows.program.root ≤ depth_limit plant
    wide-splits = head-splits (slot_limit plant) part is.between judged wide.sums is.chosen plant refl wide.set.program wide.units wide.domains is.may is.set is.domains rows.program derivations made anew
