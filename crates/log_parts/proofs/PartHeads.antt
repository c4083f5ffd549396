-- The rows of a plant and of its part, both with the sums, setups and derivations of one head.
use Rattle.std.proofs.Common.{◌≡◌, ◌⊎◌, ℕ, ◌+◌, ◌-◌, ◌*◌, ◌<◌, ◌≤◌, Bool, true, false, ◌&&◌, leb, List, [], ◌∷◌, ◌++◌, length, map, Option, Some, None, refl, sym, ap, ◌∙◌, subst, inl, inr, arith, append-nil, length-append}
use Rattle.std.specs.Prelude.{ℤ, MatchOption, pos, neg_ℤ, ◌≤ℤ◌, min, max, unwrap_or}
use Rattle.std.specs.List.{All, AllZip}
use Rattle.std.proofs.lemmas.Bool.{cases_eq, cases_lt, cond-true, cond-false}
use Rattle.std.proofs.lemmas.Bool.Decides.{nat_tests}
use Rattle.std.proofs.lemmas.List.{get_or_append_left, length-map}
use Rattle.std.proofs.lemmas.List.Elements.{All-append, All-cons, All-nil, All-weaker}
use Rattle.stn_model.specs.declared.plant.Plant.{Plant}
use Rattle.row_kit.specs.declared.domain.Domain.{Domain}
use Rattle.row_kit.specs.declared.program.Program.{Program}
use Rattle.row_kit.specs.declared.row.Entry.{Entry}
use Rattle.row_kit.specs.declared.row.Row.{Row}
use Rattle.row_kit.specs.declared.row.Tag.{Tag}
use Rattle.row_kit.specs.Bounds.{AreBounded, IsBoundedRow}
use Rattle.row_kit.specs.Domain.{Holds, IsNormal, domain_at, no_values, normal as normal-domain, shared}
use Rattle.row_kit.specs.Point.{IsLawful, worth_of}
use Rattle.row_kit.specs.Row.{row_at}
use Rattle.row_kit.proofs.Parts.{shared_within}
use Rattle.row_relax.specs.declared.rows.Rows.{Rows}
use Rattle.row_relax.specs.Choices.{choices_of}
use Rattle.row_set.specs.Parts.{IsButRoot, IsWithin}
use Rattle.row_set.proofs.PartPoints.{worth-part}
use Rattle.sum_slots.specs.declared.sum.Sum.{Sum}
use Rattle.sum_slots.specs.Larger.{IsWithSums, completed, given_of, sum_domain, sum_rows, sum_tag}
use Rattle.sum_slots.specs.Shown.{IsShown, most_by_row, most_count, opposites, value_up_to}
use Rattle.sum_slots.specs.Sum.{IsByte, value_at}
use Rattle.sum_slots.proofs.Joined.{All-second}
use Rattle.setup_slots.specs.Several.{AreSetUp, choices_before, domains_with, rows_with, slots_with}
use Rattle.setup_slots.specs.Slots.{setup_slots}
use Rattle.setup_slots.proofs.ManyUnits.{begins-several, roots-several, rows-several, slots-several}
use Rattle.derived_rows.specs.Shown.{derived_row}
use Rattle.derivations.specs.declared.derivation.Derivation.{Derivation}
use Rattle.derivations.specs.declared.derivation.Derivation.TheVariants as derivation
use Rattle.derivations.specs.Growth.{AreShown, Growth, after, after_all, rows_of}
use Rattle.derivations.specs.Larger.{IsWithDerivations, begun, grown_by, met}
use Rattle.derivations.proofs.Holding.{slots-after_all}
use Rattle.derivations.proofs.Shares.{length-met, met-at}
use Rattle.valid_log.specs.Heads.{IsWithHead, wide_domains}
use Rattle.plan_images.proofs.Imaging.{HaveSamePoints}
use Rattle.plant_parts.specs.PlantParts.{cut_domain, cut_root, digit, kept_off, kept_on}
use Rattle.plant_parts.proofs.Cutting.{AreFirstOfSlots, IsOfSlot, cut-at, cut-off, cut-on, cut-rest, length-cut}
use Rattle.log_parts.proofs.CutFronts.{cut-front}
use Rattle.log_parts.proofs.MetRoots.{met-normal, met-stays, met-within, shared-self}
use Rattle.log_parts.proofs.PartCaps.{AreParts, AreRowsAlike, IsPart, lawful-part}
use Rattle.log_parts.proofs.PartSetups.{IsAlmost, IsSameBut, almost, cut-setups, domains-long, setups-almost, whole-setups}
use Rattle.log_parts.proofs.RootSplits.{left_root}

-- ---- what is shown, by the rows alone

count_same : (a b : Program) (ranges : List Domain) (by : Option ℕ) (terms : List Entry) → a.rows ≡ b.rows → most_count a ranges by terms ≡ most_count b ranges by terms
count_same a b ranges None terms same = refl
count_same a b ranges (Some number) terms same = ap (λ (rows : List Row). most_by_row terms (row_at rows number)) same

pub shown-same : (a b : Program) (ranges : List Domain) (sum : Sum) → a.rows ≡ b.rows → IsShown a ranges sum → IsShown b ranges sum
shown-same a b ranges sum same is = record {
  low = subst (λ (o : Option ℤ). MatchOption o ⊥ (λ count. pos 0 ≤ℤ value_at sum (neg_ℤ count))) (count_same a b ranges sum.low (opposites sum.terms) same) is.low;
  high = subst (λ (o : Option ℤ). MatchOption o ⊥ (λ count. IsByte (value_at sum count))) (count_same a b ranges sum.high sum.terms same) is.high;
}

domain-same : (a b : Program) (ranges : List Domain) (sum : Sum) → a.rows ≡ b.rows → sum_domain a ranges sum ≡ sum_domain b ranges sum
domain-same a b ranges sum same = ap (λ (o : Option ℤ). record { zero = true; lo = 1; hi = value_up_to sum o }) (count_same a b ranges sum.high sum.terms same)

pub domains-same : (a b : Program) (ranges : List Domain) (sums : List Sum) → a.rows ≡ b.rows → map (sum_domain a ranges) sums ≡ map (sum_domain b ranges) sums
domains-same a b ranges [] same = refl
domains-same a b ranges (sum ∷ sums) same =
    ap (λ (d : Domain). d ∷ map (sum_domain a ranges) sums) (domain-same a b ranges sum same) ∙ ap (λ (ds : List Domain). sum_domain b ranges sum ∷ ds) (domains-same a b ranges sums same)

-- ---- a program without sums

-- a lane above all others
free_lane : (tags : List Tag) → (lane : ℕ) × All (λ tag. tag.lane < lane) tags
free_lane [] = (0, All-nil (λ (tag : Tag). tag.lane < 0))
free_lane (tag ∷ tags) =
    let rest = free_lane tags in
    let lane = tag.lane + 1 + rest.0 in
    (lane, All-cons (λ (t : Tag). t.lane < lane) tag tags (omega arith) (All-weaker (λ (t : Tag). t.lane < rest.0) (λ (t : Tag). t.lane < lane) (λ t below. omega (arith, below)) tags rest.1))

-- a program is itself without sums
pub none-enlarged : (program : Program) (ranges : List Domain) → IsWithSums program ranges [] program
none-enlarged program ranges =
    let lane = free_lane program.tags in
    record {
      lane = lane.0;
      free = All-weaker (λ (t : Tag). t.lane < lane.0) (λ (t : Tag). t.lane ≡ lane.0 → ⊥) (λ t below is. omega (arith, below, is)) program.tags lane.1;
      tags = sym (append-nil program.tags);
      root = sym (append-nil program.root);
      rows = sym (append-nil program.rows);
      profit = refl;
      base = refl;
      changes = refl;
    }

-- ---- the whole with the sums, from a part with them

-- as many slots
long-larger : (whole part larger : Program) (ranges : List Domain) (sums : List Sum) → length part.root ≡ length whole.root → IsWithSums part ranges sums larger
    → length larger.root ≡ length (whole.root ++ map (sum_domain whole ranges) sums)
long-larger whole part larger ranges sums same added =
    ap length added.root ∙ length-append part.root (map (sum_domain part ranges) sums)
    ∙ (let a = length-map sums (sum_domain part ranges) in let b = length-map sums (sum_domain whole ranges) in let c = length-append whole.root (map (sum_domain whole ranges) sums) in omega (arith, a, b, c, same))

-- the whole's program with the sums
pub larger-whole : (whole part larger : Program) (ranges : List Domain) (sums : List Sum) → IsButRoot whole part → length part.root ≡ length whole.root → IsWithSums part ranges sums larger
    → (wide : Program) × (IsWithSums whole ranges sums wide × IsSameBut wide larger)
larger-whole whole part larger ranges sums but same added =
    let domains = map (sum_domain whole ranges) sums in
    let root = whole.root ++ domains in
    let long = long-larger whole part larger ranges sums same added in
    let own = domains-same part whole ranges sums but.rows in
    let normal : All IsNormal domains = subst (All IsNormal) own (All-second IsNormal part.root (map (sum_domain part ranges) sums) (subst (All IsNormal) added.root larger.root_normal)) in
    let few = larger.few_slots in
    let wide : Program = record {
      rows = larger.rows;
      profit = larger.profit;
      base = larger.base;
      root = root;
      tags = larger.tags;
      changes = larger.changes;
      few_slots = (omega (arith, few, long));
      root_normal = All-append IsNormal whole.root domains whole.root_normal normal;
      few_rows = larger.few_rows;
      rows_bounded = subst (λ (n : ℕ). All (IsBoundedRow n) larger.rows) long larger.rows_bounded;
      profit_bounded = subst (λ (n : ℕ). AreBounded n 2000000000000000 larger.profit) long larger.profit_bounded;
      base_bounded = larger.base_bounded;
      one_tag = larger.one_tag ∙ long;
      costs_bounded = larger.costs_bounded;
      openings_bounded = larger.openings_bounded;
    } in (
      wide,
      (
        record {
          lane = added.lane;
          free = subst (All (λ (t : Tag). t.lane ≡ added.lane → ⊥)) but.tags added.free;
          tags = added.tags ∙ ap (λ (tags : List Tag). tags ++ map (λ (sum : Sum). sum_tag added.lane) sums) but.tags;
          root = refl;
          rows = added.rows ∙ ap (λ (rows : List Row). rows ++ sum_rows (length part.root) sums) but.rows ∙ ap (λ (n : ℕ). whole.rows ++ sum_rows n sums) same;
          profit = added.profit ∙ but.profit;
          base = added.base ∙ but.base;
          changes = added.changes ∙ but.changes;
        },
        record { but = record { rows = refl; profit = refl; base = refl; tags = refl; changes = refl }; slots = long },
      ),
    )

-- ---- what derivations lead to

-- as many rows as there are derived ones are added
rows-after_all : (growth : Growth) (derivations : List Derivation) → length (after_all growth derivations).rows ≡ length growth.rows + rows_of derivations
rows-after_all growth [] = omega arith
rows-after_all growth (derivation.Cut cut ∷ later) = rows-after_all (after growth (derivation.Cut cut)) later
rows-after_all growth (derivation.Row derived ∷ later) =
    let rest = rows-after_all (after growth (derivation.Row derived)) later in omega (arith, rest, length-append growth.rows (derived_row growth.rows derived ∷ []))

-- what a head of version 4 leads to
pub derived-of : (plant : Plant) (program : Program) (judged : List Domain) (sums : List Sum) (units : List ℕ) (derivations : List Derivation) (rows : Rows) (is : IsWithHead plant 4 program judged sums units derivations rows)
    → IsWithDerivations is.wide (wide_domains plant program judged sums units) derivations rows.program
derived-of plant program judged sums units derivations rows is = by 4 refl is.grown
  where
    domains : List Domain
    domains = wide_domains plant program judged sums units

    by : (version : ℕ) → version ≡ 4 → ((version ≡ 3) × (units ≡ []) × (rows.program ≡ is.wide)) ⊎ ((version ≡ 4) × IsWithDerivations is.wide domains derivations rows.program) → IsWithDerivations is.wide domains derivations rows.program
    by version four (inl three) = absurd (omega (arith, four, three.0))
    by version four (inr own) = own.1

-- a head of version 3 leads to what one of version 4 without derivations does, where the domains hold the whole root
pub as-four : (plant : Plant) (version : ℕ) (program : Program) (judged : List Domain) (sums : List Sum) (units : List ℕ) (derivations : List Derivation) (rows : Rows) (is : IsWithHead plant version program judged sums units derivations rows)
    → (version ≡ 3 → derivations ≡ []) → (units ≡ [] → met is.wide.root (wide_domains plant program judged sums units) ≡ is.wide.root) → IsWithHead plant 4 program judged sums units derivations rows
as-four plant version program judged sums units derivations rows is none stays = record {
  sums_shown = is.sums_shown;
  between = is.between;
  with_sums = is.with_sums;
  wide = is.wide;
  with_setups = is.with_setups;
  derivations_shown = is.derivations_shown;
  grown = inr (refl, by is.grown);
  choices = is.choices;
}
  where
    domains : List Domain
    domains = wide_domains plant program judged sums units

    by : ((version ≡ 3) × (units ≡ []) × (rows.program ≡ is.wide)) ⊎ ((version ≡ 4) × IsWithDerivations is.wide domains derivations rows.program) → IsWithDerivations is.wide domains derivations rows.program
    by (inl three) =
        subst (λ (p : Program). IsWithDerivations is.wide domains derivations p) (sym three.2)
        (subst (λ (ds : List Derivation). IsWithDerivations is.wide domains ds is.wide) (sym (none three.0)) (record { rows = refl; root = sym (stays three.1); profit = refl; base = refl; tags = refl; changes = refl }))
    by (inr four) = four.1

-- two rows for each sum
length-sum_rows : (slot : ℕ) (sums : List Sum) → length (sum_rows slot sums) ≡ 2 * length sums
length-sum_rows slot [] = refl
length-sum_rows slot (sum ∷ sums) = let rest = length-sum_rows (slot + 1) sums in omega (arith, rest)

-- how many slots and rows a program with sums has
slots-between : (program between : Program) (judged : List Domain) (sums : List Sum) → IsWithSums program judged sums between → length between.root ≡ length program.root + length sums
slots-between program between judged sums is = omega (arith, ap length is.root, length-append program.root (map (sum_domain program judged) sums), length-map sums (sum_domain program judged))

rows-between : (program between : Program) (judged : List Domain) (sums : List Sum) → IsWithSums program judged sums between → length between.rows ≡ length program.rows + 2 * length sums
rows-between program between judged sums is = omega (arith, ap length is.rows, length-append program.rows (sum_rows (length program.root) sums), length-sum_rows (length program.root) sums)

-- how many slots, rows and slots of points a log behind a head of version 4 has
pub record HasCounts (plant : Plant) (program : Program) (sums : List Sum) (units : List ℕ) (derivations : List Derivation) (rows : Rows) : Type 0 where
  pub slots : length rows.program.root ≡ slots_with plant units (length program.root + length sums)
  pub rows_are : length rows.program.rows ≡ rows_with plant units (length program.rows + 2 * length sums) + rows_of derivations
  pub points : length (choices_of rows).root ≡ length program.root + length sums

-- the domains of a head are as many as the slots of the program with its setups
pub wide-long : (plant : Plant) (program between wide : Program) (judged : List Domain) (sums : List Sum) (units : List ℕ) → length judged ≡ length program.root → IsWithSums program judged sums between → AreSetUp plant units between wide
    → length (wide_domains plant program judged sums units) ≡ length wide.root
wide-long plant program between wide judged sums units same added set =
    let own = map (sum_domain program judged) sums in
    let first : length (judged ++ own) ≡ length between.root = length-append judged own ∙ ap (λ (n : ℕ). n + length own) same ∙ sym (length-append program.root own) ∙ sym (ap length added.root) in
    domains-long plant units (judged ++ own) ∙ ap (slots_with plant units) first ∙ sym (slots-several plant units between wide set)

pub head-counts : (plant : Plant) (program : Program) (judged : List Domain) (sums : List Sum) (units : List ℕ) (derivations : List Derivation) (rows : Rows) → length judged ≡ length program.root → IsWithHead plant 4 program judged sums units derivations rows
    → HasCounts plant program sums units derivations rows
head-counts plant program judged sums units derivations rows same is = record {
  slots = slots;
  rows_are = ap length derived.rows ∙ rows-after_all (begun is.wide domains) derivations ∙ ap (λ (n : ℕ). n + rows_of derivations) (rows-several plant units is.between is.wide is.with_setups ∙ ap (rows_with plant units) (rows-between program is.between judged sums is.with_sums));
  points = points units is.with_setups is.choices slots;
}
  where
    domains : List Domain
    domains = wide_domains plant program judged sums units

    derived : IsWithDerivations is.wide domains derivations rows.program
    derived = derived-of plant program judged sums units derivations rows is

    left : length (grown_by is.wide domains derivations).domains ≡ length is.wide.root
    left = slots-after_all (begun is.wide domains) derivations ∙ wide-long plant program is.between is.wide judged sums units same is.with_sums is.with_setups

    slots : length rows.program.root ≡ slots_with plant units (length program.root + length sums)
    slots =
        ap length derived.root ∙ length-met is.wide.root (grown_by is.wide domains derivations).domains left ∙ slots-several plant units is.between is.wide is.with_setups
        ∙ ap (slots_with plant units) (slots-between program is.between judged sums is.with_sums)

    points : (us : List ℕ) → AreSetUp plant us is.between is.wide → rows.choices ≡ choices_before us is.between → length rows.program.root ≡ slots_with plant us (length program.root + length sums) → length (choices_of rows).root ≡ length program.root + length sums
    points [] set none all = ap (λ (c : Option Program). length (unwrap_or c rows.program).root) none ∙ all
    points (u ∷ us) set some all = ap (λ (c : Option Program). length (unwrap_or c rows.program).root) some ∙ slots-between program is.between judged sums is.with_sums

-- ---- a head over a part and over the whole

-- programs with the same sums are almost the same
sums-almost : (whole part one other : Program) (ranges : List Domain) (sums : List Sum) → IsAlmost whole part → IsWithSums whole ranges sums one → IsWithSums part ranges sums other → IsAlmost one other
sums-almost whole part one other ranges sums same of_whole of_part = record {
  rows = of_part.rows ∙ ap (λ (rs : List Row). rs ++ sum_rows (length part.root) sums) same.rows ∙ ap (λ (n : ℕ). whole.rows ++ sum_rows n sums) same.slots ∙ sym of_whole.rows;
  profit = of_part.profit ∙ same.profit ∙ sym of_whole.profit;
  base = of_part.base ∙ same.base ∙ sym of_whole.base;
  slots = slots-between part other ranges sums of_part ∙ ap (λ (n : ℕ). n + length sums) same.slots ∙ sym (slots-between whole one ranges sums of_whole);
}

-- and so they are with setups
heads-almost : (plant : Plant) (whole part : Program) (ranges : List Domain) (sums : List Sum) (units : List ℕ) (one other wide_one wide_other : Program) → IsAlmost whole part → IsWithSums whole ranges sums one → IsWithSums part ranges sums other
    → AreSetUp plant units one wide_one → AreSetUp plant units other wide_other → IsAlmost wide_one wide_other
heads-almost plant whole part ranges sums units one other wide_one wide_other same of_whole of_part set set_other =
    setups-almost plant units one other wide_one wide_other (sums-almost whole part one other ranges sums same of_whole of_part) set set_other

-- derivations begin with the same rows and domains
growth-same : (plant : Plant) (whole part one other : Program) (ranges : List Domain) (sums : List Sum) (units : List ℕ) → part.rows ≡ whole.rows → other.rows ≡ one.rows
    → begun other (wide_domains plant part ranges sums units) ≡ begun one (wide_domains plant whole ranges sums units)
growth-same plant whole part one other ranges sums units rows own =
    let made : List Row → List Domain → Growth = λ rs ds. record { rows = rs; domains = ds } in
    ap (λ (rs : List Row). made rs (wide_domains plant part ranges sums units)) own
    ∙ ap (λ (ds : List Domain). made one.rows (domains_with plant units (ranges ++ ds))) (domains-same part whole ranges sums rows)

-- the whole's rows with a head, from a part's
pub head-whole : (plant : Plant) (whole part : Program) (ranges : List Domain) (sums : List Sum) (units : List ℕ) (derivations : List Derivation) (larger : Rows) → IsButRoot whole part → length part.root ≡ length whole.root → length ranges ≡ length whole.root
    → IsWithHead plant 4 part ranges sums units derivations larger → (rows : Rows) × IsWithHead plant 4 whole ranges sums units derivations rows
head-whole plant whole part ranges sums units derivations larger but same all is =
    let between = larger-whole whole part is.between ranges sums but same is.with_sums in
    let set = whole-setups plant units between.0 is.between is.wide between.1.1 is.with_setups in
    let alike = almost set.0 is.wide set.1.1 in
    let derived = derived-of plant part ranges sums units derivations larger is in
    let growth = growth-same plant whole part set.0 is.wide ranges sums units but.rows alike.rows in
    let judged = wide_domains plant whole ranges sums units in
    let left = (grown_by set.0 judged derivations).domains in
    let left_all : length left ≡ length set.0.root = slots-after_all (begun set.0 judged) derivations ∙ wide-long plant whole between.0 set.0 ranges sums units all between.1.0 set.1.0 in
    let root = met set.0.root left in
    let root_all : length root ≡ length set.0.root = length-met set.0.root left left_all in
    let domains = wide_domains plant part ranges sums units in
    let own_left : length (grown_by is.wide domains derivations).domains ≡ length is.wide.root =
    slots-after_all (begun is.wide domains) derivations ∙ wide-long plant part is.between is.wide ranges sums units (all ∙ sym same) is.with_sums is.with_setups in
    let long : length larger.program.root ≡ length root = ap length derived.root ∙ length-met is.wide.root (grown_by is.wide domains derivations).domains own_left ∙ alike.slots ∙ sym root_all in
    let few = set.0.few_slots in
    let wide : Program = record {
      rows = larger.program.rows;
      profit = set.0.profit;
      base = set.0.base;
      root = root;
      tags = set.0.tags;
      changes = set.0.changes;
      few_slots = (omega (arith, few, root_all));
      root_normal = met-normal set.0.root left left_all set.0.root_normal;
      few_rows = larger.program.few_rows;
      rows_bounded = subst (λ (n : ℕ). All (IsBoundedRow n) larger.program.rows) long larger.program.rows_bounded;
      profit_bounded = subst (λ (n : ℕ). AreBounded n 2000000000000000 set.0.profit) (sym root_all) set.0.profit_bounded;
      base_bounded = set.0.base_bounded;
      one_tag = set.0.one_tag ∙ sym root_all;
      costs_bounded = set.0.costs_bounded;
      openings_bounded = set.0.openings_bounded;
    } in (
      record { program = wide; choices = choices_before units between.0 },
      record {
        sums_shown = All-weaker (IsShown part ranges) (IsShown whole ranges) (λ sum shown. shown-same part whole ranges sum but.rows shown) sums is.sums_shown;
        between = between.0;
        with_sums = between.1.0;
        wide = set.0;
        with_setups = set.1.0;
        derivations_shown = subst (λ (g : Growth). AreShown g derivations) growth is.derivations_shown;
        grown = inr (
          refl,
          record { rows = derived.rows ∙ ap (λ (g : Growth). (after_all g derivations).rows) growth; root = refl; profit = refl; base = refl; tags = refl; changes = refl },
        );
        choices = refl;
      },
    )

-- ---- a part with a head is a part of the whole with it

zip-same : (ds : List Domain) → AllZip IsWithin ds ds
zip-same [] = tt
zip-same (d ∷ ds) = ((λ value holds. holds), zip-same ds)

zip-append : (xs ys ds : List Domain) → AllZip IsWithin xs ys → AllZip IsWithin (xs ++ ds) (ys ++ ds)
zip-append [] [] ds within = zip-same ds
zip-append [] (y ∷ ys) ds within = absurd within
zip-append (x ∷ xs) [] ds within = absurd within
zip-append (x ∷ xs) (y ∷ ys) ds within = (within.0, zip-append xs ys ds within.1)

-- a lawful point of a part with the head is worth there what it is worth in the whole with it
larger-worth : (whole part wide larger : Program) (sums : List Sum) → IsButRoot whole part → IsPart whole part
    → HaveSamePoints whole wide (completed sums) (given_of whole) → HaveSamePoints part larger (completed sums) (given_of part) → (point : List ℕ) → IsLawful larger point → worth_of larger point ≡ worth_of wide point
larger-worth whole part wide larger sums but is of_whole of_part point lawful =
    let own = of_part.back_is point lawful in
    let given = given_of part point in
    sym own.1 ∙ worth-part whole part given but ∙ sym (of_whole.there_is given (lawful-part whole part given is own.0)).1 ∙ ap (worth_of wide) (of_part.back_there point lawful)

-- the root of a part with the sums lies within that of the whole with them
between-within : (whole part one other : Program) (ranges : List Domain) (sums : List Sum) → part.rows ≡ whole.rows → AllZip IsWithin part.root whole.root → IsWithSums whole ranges sums one → IsWithSums part ranges sums other → AllZip IsWithin other.root one.root
between-within whole part one other ranges sums rows within of_whole of_part =
    subst (λ (ds : List Domain). AllZip IsWithin ds one.root) (sym of_part.root)
    (subst (AllZip IsWithin (part.root ++ map (sum_domain part ranges) sums)) (sym of_whole.root)
    (subst (λ (ds : List Domain). AllZip IsWithin (part.root ++ ds) (whole.root ++ map (sum_domain whole ranges) sums)) (sym (domains-same part whole ranges sums rows))
    (zip-append part.root whole.root (map (sum_domain whole ranges) sums) within)))

-- with setups there are no fewer slots
slots-more : (plant : Plant) (units : List ℕ) (count : ℕ) → count ≤ slots_with plant units count
slots-more plant [] count = omega arith
slots-more plant (unit ∷ units) count = let rest = slots-more plant units (count + length (setup_slots plant unit)) in omega (arith, rest)

-- a part with a head has the rows and the profit of the whole with it
rows-alike : (plant : Plant) (whole part : Program) (ranges : List Domain) (sums : List Sum) (units : List ℕ) (derivations : List Derivation) (rows larger : Rows) → IsButRoot whole part → length part.root ≡ length whole.root
    → (of_whole : IsWithHead plant 4 whole ranges sums units derivations rows) (of_part : IsWithHead plant 4 part ranges sums units derivations larger) → AreRowsAlike rows.program larger.program
rows-alike plant whole part ranges sums units derivations rows larger but same of_whole of_part =
    let near : IsAlmost whole part = record { rows = but.rows; profit = but.profit; base = but.base; slots = same } in
    let wide = heads-almost plant whole part ranges sums units of_whole.between of_part.between of_whole.wide of_part.wide near of_whole.with_sums of_part.with_sums of_whole.with_setups of_part.with_setups in
    let growth = growth-same plant whole part of_whole.wide of_part.wide ranges sums units but.rows wide.rows in
    let one = derived-of plant whole ranges sums units derivations rows of_whole in
    let other = derived-of plant part ranges sums units derivations larger of_part in
    record {
      rows = other.rows ∙ ap (λ (g : Growth). (after_all g derivations).rows) growth ∙ sym one.rows;
      profit = other.profit ∙ wide.profit ∙ sym one.profit;
      base = other.base ∙ wide.base ∙ sym one.base;
    }

-- and its root lies within that, where it does with the setups alone
roots-within : (plant : Plant) (whole part : Program) (ranges : List Domain) (sums : List Sum) (units : List ℕ) (derivations : List Derivation) (rows larger : Rows) → IsButRoot whole part → length part.root ≡ length whole.root
    → (of_whole : IsWithHead plant 4 whole ranges sums units derivations rows) (of_part : IsWithHead plant 4 part ranges sums units derivations larger) → AllZip IsWithin of_part.wide.root of_whole.wide.root → AllZip IsWithin larger.program.root rows.program.root
roots-within plant whole part ranges sums units derivations rows larger but same of_whole of_part within =
    let near : IsAlmost whole part = record { rows = but.rows; profit = but.profit; base = but.base; slots = same } in
    let wide = heads-almost plant whole part ranges sums units of_whole.between of_part.between of_whole.wide of_part.wide near of_whole.with_sums of_part.with_sums of_whole.with_setups of_part.with_setups in
    let growth = growth-same plant whole part of_whole.wide of_part.wide ranges sums units but.rows wide.rows in
    let one = derived-of plant whole ranges sums units derivations rows of_whole in
    let other = derived-of plant part ranges sums units derivations larger of_part in
    let left = (grown_by of_whole.wide (wide_domains plant whole ranges sums units) derivations).domains in
    subst (λ (ds : List Domain). AllZip IsWithin ds rows.program.root) (sym other.root)
    (subst (AllZip IsWithin (met of_part.wide.root (grown_by of_part.wide (wide_domains plant part ranges sums units) derivations).domains)) (sym one.root)
    (subst (λ (g : Growth). AllZip IsWithin (met of_part.wide.root (after_all g derivations).domains) (met of_whole.wide.root left)) (sym growth) (met-within of_part.wide.root of_whole.wide.root left within)))

-- the choices of a part with a head are a part of those of the whole with it
choices-part : (plant : Plant) (whole part : Program) (ranges : List Domain) (sums : List Sum) (units : List ℕ) (derivations : List Derivation) (rows larger : Rows) → IsButRoot whole part → AllZip IsWithin part.root whole.root → length part.root ≡ length whole.root
    → (of_whole : IsWithHead plant 4 whole ranges sums units derivations rows) (of_part : IsWithHead plant 4 part ranges sums units derivations larger) → HaveSamePoints whole (choices_of rows) (completed sums) (given_of whole)
    → HaveSamePoints part (choices_of larger) (completed sums) (given_of part) → IsPart (choices_of rows) (choices_of larger)
choices-part plant whole part ranges sums units derivations rows larger but within same of_whole of_part same_whole same_part =
    by units of_whole.with_setups of_part.with_setups of_whole.choices of_part.choices
  where
    is : IsPart whole part
    is = record { rows = but.rows; profit = but.profit; base = but.base; worth = λ point lawful. worth-part whole part point but; within = within }

    near : IsAlmost whole part
    near = record { rows = but.rows; profit = but.profit; base = but.base; slots = same }

    worth : (point : List ℕ) → IsLawful (choices_of larger) point → worth_of (choices_of larger) point ≡ worth_of (choices_of rows) point
    worth = larger-worth whole part (choices_of rows) (choices_of larger) sums but is same_whole same_part

    inner : AllZip IsWithin of_part.between.root of_whole.between.root
    inner = between-within whole part of_whole.between of_part.between ranges sums but.rows within of_whole.with_sums of_part.with_sums

    -- what the first programs have their choices have, where these are they
    over : (one other : Program) → choices_of rows ≡ one → choices_of larger ≡ other → AreRowsAlike one other → AllZip IsWithin other.root one.root → IsPart (choices_of rows) (choices_of larger)
    over one other first second alike inside = record {
      rows = ap (λ (p : Program). p.rows) second ∙ alike.rows ∙ sym (ap (λ (p : Program). p.rows) first);
      profit = ap (λ (p : Program). p.profit) second ∙ alike.profit ∙ sym (ap (λ (p : Program). p.profit) first);
      base = ap (λ (p : Program). p.base) second ∙ alike.base ∙ sym (ap (λ (p : Program). p.base) first);
      worth = worth;
      within = subst (λ (p : Program). AllZip IsWithin p.root (choices_of rows).root) (sym second) (subst (λ (p : Program). AllZip IsWithin other.root p.root) (sym first) inside);
    }

    by : (us : List ℕ) → AreSetUp plant us of_whole.between of_whole.wide → AreSetUp plant us of_part.between of_part.wide → rows.choices ≡ choices_before us of_whole.between → larger.choices ≡ choices_before us of_part.between
        → IsPart (choices_of rows) (choices_of larger)
    by [] set set_part none none_part =
        let outer : AllZip IsWithin of_part.wide.root of_whole.wide.root =
        subst (λ (p : Program). AllZip IsWithin p.root of_whole.wide.root) (sym set_part) (subst (λ (p : Program). AllZip IsWithin of_part.between.root p.root) (sym set) inner) in
        over rows.program larger.program (ap (λ (c : Option Program). unwrap_or c rows.program) none) (ap (λ (c : Option Program). unwrap_or c larger.program) none_part)
        (rows-alike plant whole part ranges sums units derivations rows larger but same of_whole of_part) (roots-within plant whole part ranges sums units derivations rows larger but same of_whole of_part outer)
    by (u ∷ us) set set_part some some_part =
        let alike = sums-almost whole part of_whole.between of_part.between ranges sums near of_whole.with_sums of_part.with_sums in
        over of_whole.between of_part.between (ap (λ (c : Option Program). unwrap_or c rows.program) some) (ap (λ (c : Option Program). unwrap_or c larger.program) some_part)
        (record { rows = alike.rows; profit = alike.profit; base = alike.base }) inner

-- the first slots of rows with a head lie within those of their choices
choices-first : (plant : Plant) (program : Program) (judged : List Domain) (sums : List Sum) (units : List ℕ) (derivations : List Derivation) (rows : Rows) → length judged ≡ length program.root → IsWithHead plant 4 program judged sums units derivations rows
    → (k : ℕ) → k < length (choices_of rows).root → IsWithin (domain_at rows.program.root k) (domain_at (choices_of rows).root k)
choices-first plant program judged sums units derivations rows same is = by units is.with_setups is.choices
  where
    domains : List Domain
    domains = wide_domains plant program judged sums units

    left : List Domain
    left = (grown_by is.wide domains derivations).domains

    left_all : length left ≡ length is.wide.root
    left_all = slots-after_all (begun is.wide domains) derivations ∙ wide-long plant program is.between is.wide judged sums units same is.with_sums is.with_setups

    root : rows.program.root ≡ met is.wide.root left
    root = (derived-of plant program judged sums units derivations rows is).root

    by : (us : List ℕ) → AreSetUp plant us is.between is.wide → rows.choices ≡ choices_before us is.between → (k : ℕ) → k < length (choices_of rows).root → IsWithin (domain_at rows.program.root k) (domain_at (choices_of rows).root k)
    by [] set none k lt =
        subst (λ (c : Option Program). IsWithin (domain_at rows.program.root k) (domain_at (unwrap_or c rows.program).root k)) (sym none) (λ value holds. holds)
    by (u ∷ us) set some k lt =
        let begins = begins-several plant (u ∷ us) is.between is.wide set in
        let there : k < length is.between.root = subst (λ (c : Option Program). k < length (unwrap_or c rows.program).root) some lt in
        let low : k < length is.wide.root = omega (arith, there, ap length begins.root, length-append is.between.root begins.slots) in
        let here : domain_at rows.program.root k ≡ shared (domain_at is.wide.root k) (domain_at left k) = ap (λ (ds : List Domain). domain_at ds k) root ∙ met-at is.wide.root left k no_values left_all low in
        let own : domain_at is.wide.root k ≡ domain_at is.between.root k = ap (λ (ds : List Domain). domain_at ds k) begins.root ∙ get_or_append_left is.between.root begins.slots no_values k there in
        subst (λ (c : Option Program). IsWithin (domain_at rows.program.root k) (domain_at (unwrap_or c rows.program).root k)) (sym some)
        (λ value holds. subst (λ (d : Domain). Holds d value) own (shared_within (domain_at is.wide.root k) (domain_at left k) value (subst (λ (d : Domain). Holds d value) here holds)))

pub part-larger : (plant : Plant) (whole part : Program) (ranges : List Domain) (sums : List Sum) (units : List ℕ) (derivations : List Derivation) (rows larger : Rows) → IsButRoot whole part → AllZip IsWithin part.root whole.root → length part.root ≡ length whole.root
    → length ranges ≡ length whole.root → IsWithHead plant 4 whole ranges sums units derivations rows → IsWithHead plant 4 part ranges sums units derivations larger → HaveSamePoints whole (choices_of rows) (completed sums) (given_of whole)
    → HaveSamePoints part (choices_of larger) (completed sums) (given_of part) → AreParts rows larger
part-larger plant whole part ranges sums units derivations rows larger but within same all of_whole of_part same_whole same_part =
    let one = head-counts plant whole ranges sums units derivations rows all of_whole in
    let other = head-counts plant part ranges sums units derivations larger (all ∙ sym same) of_part in
    record {
      alike = rows-alike plant whole part ranges sums units derivations rows larger but same of_whole of_part;
      judged = choices-part plant whole part ranges sums units derivations rows larger but within same of_whole of_part same_whole same_part;
      points = other.points ∙ ap (λ (n : ℕ). n + length sums) same ∙ sym one.points;
      slots = other.slots ∙ ap (λ (n : ℕ). slots_with plant units (n + length sums)) same ∙ sym one.slots;
      few = omega (arith, other.points, other.slots, slots-more plant units (length part.root + length sums));
      first = choices-first plant part ranges sums units derivations larger (all ∙ sym same) of_part;
    }

-- ---- the roots

-- the root of a part with the sums is that of the whole with them, cut
root-between : (whole part one other : Program) (ranges : List Domain) (sums : List Sum) (levels number : ℕ) → levels ≤ length whole.root → part.rows ≡ whole.rows → part.root ≡ cut_root levels number whole.root
    → IsWithSums whole ranges sums one → IsWithSums part ranges sums other → other.root ≡ cut_root levels number one.root
root-between whole part one other ranges sums levels number few rows root of_whole of_part =
    of_part.root ∙ ap (λ (ds : List Domain). ds ++ map (sum_domain part ranges) sums) root
    ∙ ap (λ (ds : List Domain). cut_root levels number whole.root ++ ds) (domains-same part whole ranges sums rows)
    ∙ sym (cut-front levels number whole.root (map (sum_domain whole ranges) sums) few)
    ∙ ap (cut_root levels number) (sym of_whole.root)

-- and with the setups
root-wide : (plant : Plant) (units : List ℕ) (one other wide_one wide_other : Program) (levels number : ℕ) → levels ≤ length one.root → other.root ≡ cut_root levels number one.root → AreSetUp plant units one wide_one → AreSetUp plant units other wide_other
    → wide_other.root ≡ cut_root levels number wide_one.root
root-wide plant units one other wide_one wide_other levels number few root set set_other =
    roots-several plant units other wide_other set_other ∙ ap (domains_with plant units) root ∙ sym (cut-setups plant units levels number one.root few) ∙ sym (ap (cut_root levels number) (roots-several plant units one wide_one set))

-- the root of a part with a head is what the head leaves of that of the whole with its sums and setups, cut
pub root-larger : (plant : Plant) (whole part : Program) (ranges : List Domain) (sums : List Sum) (units : List ℕ) (derivations : List Derivation) (larger : Rows) (one wide : Program) (levels number : ℕ) → levels ≤ length whole.root → IsButRoot whole part
    → part.root ≡ cut_root levels number whole.root → IsWithSums whole ranges sums one → AreSetUp plant units one wide → IsWithHead plant 4 part ranges sums units derivations larger
    → larger.program.root ≡ left_root wide.root (grown_by wide (wide_domains plant whole ranges sums units) derivations).domains levels number
root-larger plant whole part ranges sums units derivations larger one wide levels number few but root of_whole set of_part =
    let long : length part.root ≡ length whole.root = ap length root ∙ length-cut levels number whole.root in
    let near : IsAlmost whole part = record { rows = but.rows; profit = but.profit; base = but.base; slots = long } in
    let alike = heads-almost plant whole part ranges sums units one of_part.between wide of_part.wide near of_whole of_part.with_sums set of_part.with_setups in
    let growth = growth-same plant whole part wide of_part.wide ranges sums units but.rows alike.rows in
    let first = root-between whole part one of_part.between ranges sums levels number few but.rows root of_whole of_part.with_sums in
    let enough : levels ≤ length one.root = omega (arith, few, slots-between whole one ranges sums of_whole) in
    (derived-of plant part ranges sums units derivations larger of_part).root
    ∙ ap (λ (ds : List Domain). met ds (grown_by of_part.wide (wide_domains plant part ranges sums units) derivations).domains) (root-wide plant units one of_part.between wide of_part.wide levels number enough first set of_part.with_setups)
    ∙ ap (λ (g : Growth). met (cut_root levels number wide.root) (after_all g derivations).domains) growth

-- what the domains of a head hold of a cut root with its sums, where the first slots are those of slots and all are normal
pub cut-stays : (whole left : List Domain) (levels number : ℕ) → left ≡ whole → AreFirstOfSlots levels whole → All IsNormal whole → met (cut_root levels number whole) left ≡ cut_root levels number whole
cut-stays whole left levels number is are normal =
    met-stays (cut_root levels number whole) left (ap length is ∙ sym (length-cut levels number whole))
    (λ k l.
    let within : k < length whole = omega (arith, l, length-cut levels number whole) in
    let here = cut-at levels number whole k no_values within in
    let one = cut-shares levels number k (domain_at whole k) (λ low. are k low) (normal k no_values within) in
    ap (λ (ds : List Domain). shared (domain_at (cut_root levels number whole) k) (domain_at ds k)) is
    ∙ subst (λ (d : Domain). shared d (domain_at whole k) ≡ d) (sym here) one)
  where
    off : (own : Domain) → IsOfSlot own → shared kept_off own ≡ kept_off
    off own is =
        let test : leb (max 1 own.lo) (min 0 own.hi) ≡ false = grind (arith, nat_tests) in
        cond-false _ _ _ test ∙ ap (λ (b : Bool). record { zero = true && b; lo = 1; hi = 0 }) is.none

    on : (own : Domain) → IsOfSlot own → shared (kept_on own) own ≡ kept_on own
    on own is =
        let lo : max own.lo own.lo ≡ own.lo = omega arith in
        let hi : min own.hi own.hi ≡ own.hi = omega arith in
        let some = is.some in
        let test : leb own.lo own.hi ≡ true = grind (arith, nat_tests, some) in
        ap (λ (n : ℕ). normal-domain false n (min own.hi own.hi)) lo ∙ ap (λ (n : ℕ). normal-domain false own.lo n) hi ∙ cond-true _ _ _ test

    cut-shares : (levels number place : ℕ) (own : Domain) → (place < levels → IsOfSlot own) → IsNormal own → shared (cut_domain levels number place own) own ≡ cut_domain levels number place own
    cut-shares levels number place own is normal =
        elim (cases_lt place levels) [
          | inl low ↦ elim (cases_eq (digit levels number place) 0) [
            | inl none ↦ subst (λ (d : Domain). shared d own ≡ d) (sym (cut-off levels number place own low none)) (off own (is low))
            | inr some ↦ subst (λ (d : Domain). shared d own ≡ d) (sym (cut-on levels number place own low some)) (on own (is low))
          ]
          | inr high ↦ subst (λ (d : Domain). shared d own ≡ d) (sym (cut-rest levels number place own high)) (shared-self own normal)
        ]
