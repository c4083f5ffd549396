-- A program with setups is a relaxation of the plans, and the program without them judges its points.
use Rattle.std.proofs.Common.{◌≡◌, ℕ, ◌+◌, ◌<◌, ◌≤◌, List, ◌++◌, length, map, take, drop, get_or, sym, ap, ap₂, ◌∙◌, subst, arith, ℤ, pos, ◌+ℤ◌, ◌-ℤ◌, ◌≤ℤ◌}
use Rattle.std.specs.Prelude.{unsigned_abs}
use Rattle.std.specs.List.{All}
use Rattle.std.specs.List.Sorted.{IsStrictlyIncreasing}
use Rattle.std.proofs.lemmas.Int.{ints}
use Rattle.std.proofs.lemmas.List.{length-append, length-map, take-append-drop, take_all, take_at}
use Rattle.stn_model.specs.declared.plant.Plant.{Plant}
use Rattle.stn_model.specs.declared.start.Start.{Start}
use Rattle.stn_model.specs.Profit.{change_costs, profit}
use Rattle.stn_model.specs.Sound.{Sound}
use Rattle.time_grid.specs.PlanPoint.{plan_point}
use Rattle.time_grid.specs.Slots.{slots}
use Rattle.time_grid.proofs.OnePlan.{has_point-feasible}
use Rattle.time_grid.proofs.PlanPoints.{length-plan_point}
use Rattle.row_kit.specs.declared.domain.Domain.{Domain}
use Rattle.row_kit.specs.declared.program.Program.{Program}
use Rattle.row_kit.specs.declared.row.Change.{Change}
use Rattle.row_kit.specs.declared.row.Entry.{Entry}
use Rattle.row_kit.specs.declared.row.Row.{Row}
use Rattle.row_kit.specs.declared.row.Tag.{Tag}
use Rattle.row_kit.specs.Change.{changeovers}
use Rattle.row_kit.specs.Point.{IsLawful, LiesIn, value_of, worth_of}
use Rattle.row_kit.specs.Row.{IsKept, entries_sum}
use Rattle.row_set.specs.Parts.{IsAdmitted, IsPartOf}
use Rattle.row_set.proofs.Changeovers.{changeovers-are}
use Rattle.row_set.proofs.PartPoints.{admitted-lawful, admitted-worth}
use Rattle.row_relax.specs.Settle.{settled}
use Rattle.row_relax.specs.View.{domains_of}
use Rattle.row_relax.specs.laws.Laws.{first-bounds}
use Rattle.sum_slots.specs.declared.sum.Sum.{Sum}
use Rattle.sum_slots.specs.Larger.{IsWithSums, completed, sum_domain}
use Rattle.sum_slots.specs.Shown.{AreRanges, IsShown}
use Rattle.sum_slots.specs.Sum.{IsDeclared, sum_value}
use Rattle.sum_slots.proofs.Joined.{All-first, lies_first}
use Rattle.setup_slots.specs.Larger.{HasPlantSlots}
use Rattle.setup_slots.specs.Law.{BeginsWith, HasSetupImages}
use Rattle.setup_slots.specs.Several.{AreSetUp, costs_on, set_up}
use Rattle.setup_slots.specs.Slots.{task_slot}
use Rattle.setup_slots.proofs.Points.{sum-first}
use Rattle.setup_slots.proofs.ManyUnits.{BeginsAs, begins-several, set_up-begins, several-costs, several-law}
use Rattle.derivations.specs.declared.derivation.Derivation.{Derivation}
use Rattle.derivations.specs.Growth.{AreShown}
use Rattle.derivations.specs.Larger.{IsWithDerivations, begun}
use Rattle.derivations.proofs.Holding.{holds}
use Rattle.plan_images.specs.Boxes.{Judges, worth_by}
use Rattle.plan_images.specs.Images.{IsImage, IsRelaxation}
use Rattle.plan_images.specs.Law.{ChoicesSettle, DerivationsAreJudged, SetupsAreJudged, SetupsRelax}
use Rattle.plan_images.proofs.Allowing.{allows-one}
use Rattle.plan_images.proofs.Imaging.{shown-points}

-- ---- the images of plans

-- the values of sums at a point, which complete it
abbrev values_of : List Sum → List ℕ → List ℕ
values_of sums point = map (λ sum. unsigned_abs (sum_value sum point)) sums

-- a program with sums counts of a completed point what the one without them does
value-sums : (part between : Program) (ranges : List Domain) (sums : List Sum) (point : List ℕ) → IsWithSums part ranges sums between → length point ≡ length part.root → value_of between (completed sums point) ≡ value_of part point
value-sums part between ranges sums point is long =
    let more = completed sums point in
    let named = subst (λ (n : ℕ). All (λ e. e.slot < n) part.profit) (sym long) part.profit_bounded.named in
    ap₂ (λ (base : ℤ) (es : List Entry). base +ℤ entries_sum es more) is.base is.profit ∙ ap (λ (n : ℤ). part.base +ℤ n) (sum-first part.profit point (values_of sums point) named)

-- the changeovers of an admitted plan cost its point what they cost the plan
costs-part : (plant : Plant) (part : Program) (plan : List Start) → Sound plant → IsPartOf plant part → IsAdmitted plant part plan → changeovers part.changes part.tags (plan_point plant plan) ≡ change_costs plant plan
costs-part plant part plan sound is admitted =
    let has = has_point-feasible plant plan sound admitted.feasible in
    ap₂ (λ (cs : List Change) (ts : List Tag). changeovers cs ts (plan_point plant plan)) (is.but_root.changes ∙ is.made.changes_are) (is.but_root.tags ∙ is.made.tags_are) ∙ changeovers-are plant plan sound has

-- what an admitted plan earns is at most the value of an image whose changeovers cost no more than the plan's
enough : (value worth earned larger : ℤ) (costs own : ℕ) → worth ≡ (value -ℤ pos costs) → worth ≡ earned → own ≤ costs → (value -ℤ pos own) ≤ℤ larger → earned ≤ℤ larger
enough value worth earned larger costs own is same less most = omega (arith, ints, is, same, less, most)

no_less : (a b : ℤ) → a ≡ b → b ≤ℤ a
no_less a b same = omega (arith, ints, same)

module _ (plant : Plant) (part between wide : Program) (ranges : List Domain) (sums : List Sum) (units : List ℕ) (sound : Sound plant) (of_part : IsPartOf plant part) (judged : AreRanges part ranges) (declared : All (IsDeclared (length part.root)) sums)
    (shown : All (IsShown part ranges) sums) (with_sums : IsWithSums part ranges sums between) (up : IsStrictlyIncreasing units) (with_setups : AreSetUp plant units between wide) (plan : List Start) (admitted : IsAdmitted plant part plan) where
  abbrev own : List ℕ
  own = plan_point plant plan

  abbrev summed : List ℕ
  summed = completed sums own

  own_lawful : IsLawful part own
  own_lawful = admitted-lawful plant part plan of_part admitted

  own_long : length own ≡ length part.root
  own_long = own_lawful.lies.same_length

  with_values : IsLawful between summed × (worth_of between summed ≡ worth_of part own)
  with_values = (shown-points part between ranges sums judged declared shown with_sums).there_is own own_lawful

  begins : BeginsWith plant plan summed
  begins = take_at own (values_of sums own) (length (slots plant)) (length-plan_point plant plan)

  room : HasPlantSlots plant between
  room =
      omega (arith, length-map (slots plant) (task_slot plant), length-plan_point plant plan, own_long, ap length with_sums.root, length-append part.root (map (sum_domain part ranges) sums))

  setups : HasSetupImages plant units plan between wide summed
  setups = several-law plant units between wide plan summed sound room with_setups admitted.feasible begins with_values.0

  value : profit plant plan ≤ℤ value_of wide (set_up plant units plan summed)
  value =
      enough (value_of part own) (worth_of part own) (profit plant plan) (value_of wide (set_up plant units plan summed)) (change_costs plant plan) (costs_on plant units plan)
      (ap (λ (n : ℕ). value_of part own -ℤ pos n) (costs-part plant part plan sound of_part admitted)) (admitted-worth plant part plan of_part admitted) (several-costs plant units plan up)
      (subst (λ (v : ℤ). (v -ℤ pos (costs_on plant units plan)) ≤ℤ value_of wide (set_up plant units plan summed)) (value-sums part between ranges sums own with_sums own_long) setups.value)

  first : take (length between.root) (set_up plant units plan summed) ≡ summed
  first =
      let long = with_values.0.lies.same_length in
      set_up-begins plant units plan summed (length between.root) (omega (arith, long)) ∙ take_all (length between.root) summed (omega (arith, long))

  pub setup-image : IsImage wide (worth_by between) (profit plant plan) (set_up plant units plan summed)
  setup-image = record {
    lawful = setups.lawful;
    value = value;
    said = no_less (worth_by between (set_up plant units plan summed)) (profit plant plan) (ap (worth_of between) first ∙ with_values.1 ∙ admitted-worth plant part plan of_part admitted);
  }

pub setups-relax : SetupsRelax
setups-relax plant part between wide ranges sums units sound of_part judged declared shown with_sums up with_setups = record {
  image = λ plan. set_up plant units plan (completed sums (plan_point plant plan));
  is = λ plan admitted. setup-image plant part between wide ranges sums units sound of_part judged declared shown with_sums up with_setups plan admitted;
}

-- ---- derivations

-- a program with derivations that are shown has the lawful points of the one without them, which count the same
derived-image : (given larger : Program) (alone : List ℕ → ℤ) (domains : List Domain) (derivations : List Derivation) (earned : ℤ) (point : List ℕ) → AreRanges given domains → AreShown (begun given domains) derivations
    → IsWithDerivations given domains derivations larger → IsImage given alone earned point → IsImage larger alone earned point
derived-image given larger alone domains derivations earned point wide shown enlarged is = record {
  lawful = ((holds given larger domains derivations wide.same_length wide.normal wide.hold shown enlarged).points point).1 is.lawful;
  value = subst (λ (v : ℤ). earned ≤ℤ v) (ap₂ (λ (base : ℤ) (es : List Entry). base +ℤ entries_sum es point) (sym enlarged.base) (sym enlarged.profit)) is.value;
  said = is.said;
}

-- so a relaxation stays one
pub derived-keep : {X : Type 0} (admits : X → Type 0) (earned : X → ℤ) (given larger : Program) (alone : List ℕ → ℤ) (domains : List Domain) (derivations : List Derivation) → AreRanges given domains → AreShown (begun given domains) derivations
    → IsWithDerivations given domains derivations larger → IsRelaxation admits earned given alone → IsRelaxation admits earned larger alone
derived-keep admits earned given larger alone domains derivations wide shown enlarged first = record {
  image = first.image;
  is = λ x admitted. derived-image given larger alone domains derivations (earned x) (first.image x) wide shown enlarged (first.is x admitted);
}

-- ---- points and their first values

-- the first values of a lawful point are lawful over a program with which the other begins
first-lawful : (program larger : Program) → BeginsAs program larger → Judges program larger
first-lawful program larger is point lawful =
    let n = length program.root in
    let lies : LiesIn program.root (take n point) = lies_first program.root is.slots point (subst (λ (ds : List Domain). LiesIn ds point) is.root lawful.lies) in
    let keeps = All-first (IsKept point) program.rows is.others (subst (All (IsKept point)) is.rows lawful.keeps) in
    record { lies = lies; keeps = λ k d l. kept (take n point) (drop n point) lies.same_length k d l (subst (λ (p : List ℕ). IsKept p (get_or program.rows k d)) (sym (take-append-drop n point)) (keeps k d l)) }
  where
    kept : (point more : List ℕ) → length point ≡ length program.root → (k : ℕ) (d : Row) → k < length program.rows → IsKept (point ++ more) (get_or program.rows k d) → IsKept point (get_or program.rows k d)
    kept point more long k d l is' =
        let row = get_or program.rows k d in
        let named = subst (λ (n : ℕ). All (λ e. e.slot < n) row.entries) (sym long) (program.rows_bounded k d l).entries.named in
        subst (λ (x : ℤ). x ≤ℤ row.limit) (sum-first row.entries point more named) is'

pub setups-judged : SetupsAreJudged
setups-judged plant units between wide is = first-lawful between wide (begins-several plant units between wide is)

pub derived-judged : DerivationsAreJudged
derived-judged choices given larger domains derivations wide shown enlarged judges point lawful =
    judges point (((holds given larger domains derivations wide.same_length wide.normal wide.hold shown enlarged).points point).0 lawful)

pub choices-settle : ChoicesSettle
choices-settle program choices judges v point fits lies lawful =
    let n = length choices.root in
    allows-one (LiesIn (domains_of v)) (λ p. IsLawful choices (take n p)) (λ p. worth_of choices (take n p)) (settled choices (take n (domains_of v))) (first-bounds choices (domains_of v) fits.normal) point lies (judges point lawful)
