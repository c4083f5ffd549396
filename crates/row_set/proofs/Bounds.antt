-- The parts of a plant's program keep the bounds of programs.
use Rattle.std.proofs.Common.{◌≡◌, ℕ, ◌≤◌, cond, Option, Some, None, List, [], ◌∷◌, ◌++◌, length, get_or, map, filter, sym, ap, ◌∙◌, subst, arith, append_assoc, ℤ, unsigned_abs, to_z, of_z}
use mir.Syntax.{w128}
use Rattle.std.specs.List.{All}
use Rattle.std.proofs.lemmas.Int.{ints, to_z-of_z, fits_signed_from_abs}
use Rattle.std.proofs.lemmas.List.{length-map, length-append}
use Rattle.std.proofs.lemmas.List.Elements.{All-head, All-tail, All-map, All-filter}
use Rattle.stn_model.specs.declared.plant.Plant.{Plant}
use Rattle.stn_model.specs.declared.plant.Last.{Last}
use Rattle.stn_model.specs.Plant.{is_between, cost_between, cost_after, first_cost, run_at, unit_at}
use Rattle.stn_model.specs.Profit.{profit}
use Rattle.stn_model.specs.Sums.{greatest_by}
use Rattle.stn_model.specs.Sound.{Sound, SoundGap}
use Rattle.plain_plan.proofs.SmallProfit.{idle-small}
use Rattle.time_grid.specs.Slots.{slots}
use Rattle.time_grid.proofs.SlotList.{few-slots, slots-are}
use Rattle.row_kit.specs.declared.domain.Domain.{Domain}
use Rattle.row_kit.specs.declared.row.Row.{Row}
use Rattle.row_kit.specs.declared.row.Tag.{Tag}
use Rattle.row_kit.specs.declared.row.Change.{Change}
use Rattle.row_kit.specs.declared.row.Entry.{Entry}
use Rattle.row_kit.specs.Row.{entries_from}
use Rattle.row_kit.specs.Bounds.{AreBounded, IsBoundedRow, IsBoundedChange, IsBoundedTag, KeepsBounds}
use Rattle.row_kit.proofs.Gathered.{IsPartWithin, AreBounded-from}
use Rattle.balance_rows.specs.StockRows.{stock_rows}
use Rattle.balance_rows.proofs.Bounds.{stock_rows-bounded, length-stock_rows}
use Rattle.utility_rows.specs.LoadRows.{load_rows}
use Rattle.utility_rows.proofs.Bounds.{load_rows-bounded, length-load_rows}
use Rattle.unit_rows.specs.Busy.{busy_rows}
use Rattle.unit_rows.specs.Gaps.{gap_rows}
use Rattle.unit_rows.specs.Firsts.{first_rows}
use Rattle.unit_rows.proofs.RowCounts.{if_most, busy_rows-bounded, gap_rows-bounded, first_rows-bounded, length-busy_rows, length-gap_rows, length-first_rows}
use Rattle.row_set.specs.ProfitParts.{profit_part}
use Rattle.row_set.specs.PlantProgram.{plant_rows, slot_domain, slot_tag, gap_change, has_cost, plant_changes}
use Rattle.row_set.proofs.Roots.{root-normal}
use Rattle.row_set.proofs.Meaning.{all_rows}
use Rattle.row_set.proofs.Small.{profit-small}

-- the families one after another
pub joined : (start one two three four five a b c d e : List Row) → start ≡ [] → one ≡ start ++ a → two ≡ one ++ b → three ≡ two ++ c → four ≡ three ++ d → five ≡ four ++ e → five ≡ a ++ (b ++ (c ++ (d ++ e)))
joined start one two three four five a b c d e s f g h k m =
    let first : one ≡ a = f ∙ ap (λ xs. xs ++ a) s in
    m ∙ ap (λ xs. xs ++ e) (k ∙ ap (λ xs. xs ++ d) (h ∙ ap (λ xs. xs ++ c) (g ∙ ap (λ xs. xs ++ b) first)))
    ∙ append_assoc ((a ++ b) ++ c) d e ∙ append_assoc (a ++ b) c (d ++ e) ∙ append_assoc a b (c ++ (d ++ e))

-- how many rows a plant has at most
pub length-plant_rows : (plant : Plant) → Sound plant → length (plant_rows plant) ≤ 198464
unfolding plant_rows
length-plant_rows plant sound =
    omega (
      arith,
      length-append (busy_rows plant) (stock_rows plant ++ (load_rows plant ++ (gap_rows plant ++ first_rows plant))),
      length-append (stock_rows plant) (load_rows plant ++ (gap_rows plant ++ first_rows plant)),
      length-append (load_rows plant) (gap_rows plant ++ first_rows plant),
      length-append (gap_rows plant) (first_rows plant),
      length-busy_rows plant sound,
      length-stock_rows plant sound,
      length-load_rows plant sound,
      length-gap_rows plant sound,
      length-first_rows plant sound,
    )

changes-bounded : (plant : Plant) → Sound plant → All IsBoundedChange (plant_changes plant)
unfolding plant_changes
changes-bounded plant sound =
    All-map IsBoundedChange gap_change (filter has_cost plant.gaps) (λ k d l.
    let gap = All-filter has_cost (SoundGap plant) plant.gaps sound.gaps k d l in
    let cost = gap.cost in
    record { least = omega (arith, ints); most = omega (arith, ints, cost) })

-- what a changeover costs is bounded
greatest_most : {X : Type 0} (f : X → ℕ) (most : ℕ) (xs : List X) → All (λ x. f x ≤ most) xs → greatest_by f xs ≤ most
greatest_most f most [] all = omega arith
greatest_most f most (x ∷ xs) all =
    let first = All-head (λ y. f y ≤ most) x xs all in
    let rest = greatest_most f most xs (All-tail (λ y. f y ≤ most) x xs all) in
    omega (arith, first, rest)

pub cost_most : (plant : Plant) (unit from to : ℕ) → Sound plant → cost_between plant unit from to ≤ 1000000
unfolding cost_between
cost_most plant unit from to sound =
    greatest_most (λ gap. cond (is_between unit from to gap) gap.cost 0) 1000000 plant.gaps
    (λ k d l.
    let gap = get_or plant.gaps k d in
    let fine = sound.gaps k d l in
    let less = if_most (is_between unit from to gap) gap.cost in
    omega (arith, less, fine.cost))

pub first_cost_most : (plant : Plant) (unit task : ℕ) → Sound plant → first_cost plant unit task ≤ 1000000
unfolding first_cost
first_cost_most plant unit task sound = after (unit_at plant unit).last
  where
    after : (last : Option Last) → cost_after plant unit task last ≤ 1000000
    after None = omega arith
    after (Some last) = cost_most plant unit last.task task sound

tags-bounded : (plant : Plant) → Sound plant → All IsBoundedTag (map (slot_tag plant) (slots plant))
tags-bounded plant sound =
    All-map IsBoundedTag (slot_tag plant) (slots plant) (λ k d l. let run = run_at plant (get_or (slots plant) k d).0 in first_cost_most plant run.unit run.task sound)

profit-bounded : (plant : Plant) → Sound plant → AreBounded (length (slots plant)) 2000000000000000 (entries_from 0 (map (profit_part plant) (slots plant)))
profit-bounded plant sound =
    subst (λ (n : ℕ). AreBounded n 2000000000000000 (entries_from 0 (map (profit_part plant) (slots plant)))) (length-map (slots plant) (profit_part plant))
    (AreBounded-from 2000000000000000 (map (profit_part plant) (slots plant))
    (All-map (IsPartWithin 2000000000000000) (profit_part plant) (slots plant) (λ k d l. profit-small plant (get_or (slots plant) k d) sound (slots-are plant k d l))))

-- the parts of a plant's program keep the bounds
parts-bounded : (plant : Plant) → Sound plant →
    KeepsBounds (plant_rows plant) (entries_from 0 (map (profit_part plant) (slots plant))) (profit plant []) (map (slot_domain plant) (slots plant)) (map (slot_tag plant) (slots plant)) (plant_changes plant)
parts-bounded plant sound =
    let long : length (map (slot_domain plant) (slots plant)) ≡ length (slots plant) = length-map (slots plant) (slot_domain plant) in
    record {
      few_slots = (let few = few-slots plant sound in omega (arith, long, few));
      root_normal = root-normal plant sound;
      few_rows = (let few = length-plant_rows plant sound in omega (arith, few));
      rows_bounded = subst (λ (n : ℕ). All (IsBoundedRow n) (plant_rows plant)) (sym long)
          (all_rows plant (IsBoundedRow (length (slots plant))) (busy_rows-bounded plant) (stock_rows-bounded plant sound) (load_rows-bounded plant sound) (gap_rows-bounded plant) (first_rows-bounded plant));
      profit_bounded = subst (λ (n : ℕ). AreBounded n 2000000000000000 (entries_from 0 (map (profit_part plant) (slots plant)))) (sym long) (profit-bounded plant sound);
      base_bounded = idle-small plant sound;
      one_tag = length-map (slots plant) (slot_tag plant) ∙ sym long;
      costs_bounded = changes-bounded plant sound;
      openings_bounded = tags-bounded plant sound;
    }

-- so do parts that are equal to them
pub bounds-kept : (plant : Plant) (rows : List Row) (entries : List Entry) (base : ℤ) (root : List Domain) (tags : List Tag) (changes : List Change) → Sound plant →
    rows ≡ plant_rows plant → entries ≡ entries_from 0 (map (profit_part plant) (slots plant)) → base ≡ profit plant [] →
    root ≡ map (slot_domain plant) (slots plant) → tags ≡ map (slot_tag plant) (slots plant) → changes ≡ plant_changes plant →
    KeepsBounds rows entries base root tags changes
bounds-kept plant rows entries base root tags changes sound a b c d e f =
    subst (λ (x : List Row). KeepsBounds x entries base root tags changes) (sym a)
    (subst (λ (x : List Entry). KeepsBounds (plant_rows plant) x base root tags changes) (sym b)
    (subst (λ (x : ℤ). KeepsBounds (plant_rows plant) (entries_from 0 (map (profit_part plant) (slots plant))) x root tags changes) (sym c)
    (subst (λ (x : List Domain). KeepsBounds (plant_rows plant) (entries_from 0 (map (profit_part plant) (slots plant))) (profit plant []) x tags changes) (sym d)
    (subst (λ (x : List Tag). KeepsBounds (plant_rows plant) (entries_from 0 (map (profit_part plant) (slots plant))) (profit plant []) (map (slot_domain plant) (slots plant)) x changes) (sym e)
    (subst (λ (x : List Change). KeepsBounds (plant_rows plant) (entries_from 0 (map (profit_part plant) (slots plant))) (profit plant []) (map (slot_domain plant) (slots plant)) (map (slot_tag plant) (slots plant)) x) (sym f)
    (parts-bounded plant sound))))))

-- the base as the machine keeps it
pub base-is : (plant : Plant) (base : ℤ) → Sound plant → base ≡ profit plant [] → to_z w128 (of_z w128 base) ≡ profit plant []
base-is plant base sound e = to_z-of_z w128 base (fits_signed_from_abs w128 base (omega (arith, ap unsigned_abs e, idle-small plant sound))) ∙ e
