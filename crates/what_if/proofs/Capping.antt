-- What bounds the worths of the lawful points of rows caps the plans of their plant.
use Rattle.std.proofs.Common.{◌≡◌, ◌⊎◌, ◌+◌, ◌*◌, ◌≤◌, ℕ, false, true, length, map, take, ◌++◌, sym, List, [], ◌∷◌, Option, Some, None, ℤ, ◌≤ℤ◌, ◌+ℤ◌, refl, ap, ap₂, ◌∙◌, subst, inl, inr, arith}
use Rattle.std.specs.Prelude.{IfOk, Result, Ok, Err}
use Rattle.std.specs.List.{All, list_any}
use Rattle.std.proofs.lemmas.Bool.{ne_eqb}
use Rattle.std.proofs.lemmas.List.{take_all}
use Rattle.std.proofs.lemmas.List.Elements.{All-weaker}
use Rattle.std.proofs.lemmas.List.Folds.{list_any_none}
use Rattle.stn_model.specs.declared.plant.Plant.{Plant}
use Rattle.stn_model.specs.declared.start.Start.{Start}
use Rattle.stn_model.specs.Feasible.{Feasible}
use Rattle.stn_model.specs.Profit.{profit}
use Rattle.stn_model.specs.Sound.{Sound}
use Rattle.row_kit.specs.declared.domain.Domain.{Domain}
use Rattle.row_kit.specs.declared.program.Program.{Program}
use Rattle.row_kit.specs.declared.row.Entry.{Entry}
use Rattle.row_kit.specs.Domain.{IsNormal, IsOpen, count_of}
use Rattle.row_kit.specs.Point.{LiesIn, value_of, worth_of}
use Rattle.row_kit.specs.Row.{entries_sum}
use Rattle.range_prop.specs.Cut.{is_bare}
use Rattle.proof_tree.specs.declared.capped.Capped.{Capped}
use Rattle.proof_tree.specs.declared.capped.Capped.TheVariants.{AtMost, NoPoint, Bad}
use Rattle.row_relax.specs.declared.rows.Rows.{Rows}
use Rattle.row_relax.specs.Choices.{IsLawfulIn, IsLawfulWith, plain, worth_in, worth_with}
use Rattle.row_relax.specs.RowProofs.{RowTree}
use Rattle.row_relax.specs.Steps.{row_steps}
use Rattle.row_relax.specs.View.{IsIn, view_of}
use Rattle.row_relax.specs.laws.Shown.{domains_of-view_of}
use Rattle.row_set.specs.Parts.{IsAdmitted, IsPartOf}
use Rattle.row_set.specs.PlantProgram.{IsMadeOf, IsProgramOf, plant_root}
use Rattle.row_set.proofs.Limits.{made-open}
use Rattle.sum_slots.specs.declared.sum.Sum.{Sum}
use Rattle.sum_slots.specs.Larger.{IsWithSums, sum_domain}
use Rattle.sum_slots.specs.Shown.{AreRanges, IsShown}
use Rattle.sum_slots.specs.Sum.{IsDeclared}
use Rattle.sum_slots.proofs.Ranges.{own-ranges}
use Rattle.setup_slots.specs.Several.{AreSetUp, choices_before, domains_with}
use Rattle.setup_slots.proofs.ManyUnits.{roots-several}
use Rattle.derivations.specs.declared.derivation.Derivation.{Derivation}
use Rattle.derivations.specs.Anew.{IsWithAnew}
use Rattle.derivations.specs.Law.{IsSame}
use Rattle.derivations.proofs.Again.{anew-holds}
use Rattle.plan_images.specs.Boxes.{Judges, worth_by}
use Rattle.plan_images.specs.Caps.{Caps}
use Rattle.plan_images.specs.Images.{IsImage, IsRelaxation}
use Rattle.plan_images.proofs.Allowing.{allows-less, allows-one}
use Rattle.plan_images.proofs.Losing.{root-lies}
use Rattle.plan_images.proofs.Plans.{plant-relaxes}
use Rattle.plan_images.proofs.Setups.{setups-judged, setups-relax}
use Rattle.plan_images.proofs.Telling.{bounds-cap}
use Rattle.valid_log.specs.Heads.{head_domains, wide_domains}
use Rattle.valid_log.proofs.Saying.{whole-is_part}
use Rattle.what_if.specs.declared.old.LogHead.{LogHead}
use Rattle.what_if.specs.Estimate.{AreTaken, CapsPlans, IsCapOver, IsDerivedAnew, IsEstimate, IsSumOf, IsWithHeadAnew}
use Rattle.what_if.specs.Loose.{IsPlainBelow, as_cap, loosened, no_mults, or_else}
use Rattle.what_if.specs.laws.Rooted.{BoundsRoot, IsRootCap, plain_proof}
use Rattle.what_if.proofs.Bounding.{allows_min}

-- a cap, none of which says that there is no point, is one of plans
of_plans : (plant : Plant) (cap : Option ℤ) → Caps (Feasible plant) (profit plant) (as_cap cap) → CapsPlans plant cap
of_plans plant None caps = caps
of_plans plant (Some cap) caps = caps

-- what bounds the lawful points of a program's root caps its plant's plans
caps_plans : (plant : Plant) (program : Program) (cap : Option ℤ) → IsProgramOf plant program → BoundsRoot (plain program) cap → CapsPlans plant cap
caps_plans plant program cap means bounds =
    of_plans plant cap (bounds-cap (Feasible plant) (profit plant) program (IsIn (view_of program.root)) (as_cap cap) (plant-relaxes plant program means) (root-lies program) bounds)

-- the domains before any derivation are the root, where sums are judged over the root
domains-root : (program between : Program) (ranges : List Domain) (sums : List Sum) → ranges ≡ program.root → IsWithSums program ranges sums between → between.root ≡ head_domains program ranges sums
domains-root program between ranges sums whole with' = with'.root ∙ ap (λ (ds : List Domain). ds ++ map (sum_domain program ranges) sums) (sym whole)

-- and so they are with setups
pub wide-root : (plant : Plant) (program between wide : Program) (ranges : List Domain) (sums : List Sum) (units : List ℕ) → ranges ≡ program.root → IsWithSums program ranges sums between → AreSetUp plant units between wide
    → wide.root ≡ wide_domains plant program ranges sums units
wide-root plant program between wide ranges sums units whole with' up =
    roots-several plant units between wide up ∙ ap (domains_with plant units) (domains-root program between ranges sums whole with')

-- ---- derivations that are looked at anew

-- a program has the lawful points of another, which count the same in it
record CountsAs (given larger : Program) : Type 0 where
  same : IsSame given larger
  value : (point : List ℕ) → value_of larger point ≡ value_of given point

counts_own : (program : Program) → CountsAs program program
counts_own program = record { same = record { points = λ point. (λ lawful. lawful, λ lawful. lawful); worth = λ point. refl }; value = λ point. refl }

counts_anew : (wide larger : Program) (domains : List Domain) (head : LogHead) → wide.root ≡ domains → IsDerivedAnew wide domains head larger → CountsAs wide larger
counts_anew wide larger domains head own (inl none) = subst (CountsAs wide) (sym none.1) (counts_own wide)
counts_anew wide larger domains head own (inr anew) = record {
  same = anew-holds wide larger domains head.derivations (ap length (sym own)) (subst (All IsNormal) own wide.root_normal) (λ point lies. subst (λ (ds : List Domain). LiesIn ds point) own lies) anew.1;
  value = λ point. ap₂ (λ (base : ℤ) (es : List Entry). base +ℤ entries_sum es point) anew.1.grown.base anew.1.grown.profit;
}

-- the program in which they are looked at anew, over its root
pub derived-if : {E : Type 0} (wide : Program) (domains : List Domain) (head : LogHead) (derivations : List Derivation) (r : Result Program E) → head.capped ≡ true → domains ≡ wide.root → derivations ≡ head.derivations
    → IfOk r (IsWithAnew wide domains derivations) → IfOk r (IsDerivedAnew wide wide.root head)
derived-if wide domains head derivations (Ok larger) some over same anew =
    inr (some, subst (λ (ds : List Domain). IsWithAnew wide ds head.derivations larger) over (subst (λ (ds : List Derivation). IsWithAnew wide domains ds larger) same anew))
derived-if wide domains head derivations (Err e) some over same anew = tt

-- ---- the images of plans

-- a point is an image among rows of what earns so much: it is lawful there, and worth no less
record IsImageOf (rows : Rows) (earned : ℤ) (point : List ℕ) : Type 0 where
  lawful : IsLawfulIn rows point
  lies : IsIn (view_of rows.program.root) point
  worth : earned ≤ℤ worth_in rows point

-- what is worth so much by the choices that judge the points of a program is an image there
judged-image : (plant : Plant) (program between wide : Program) (units : List ℕ) (choices : Option Program) (earned : ℤ) (point : List ℕ) → AreSetUp plant units between wide → choices ≡ choices_before units between → CountsAs wide program
    → IsImage wide (worth_by between) earned point → IsImageOf (record { program = program; choices = choices }) earned point
judged-image plant program between wide [] choices earned point up none counts is =
    let own = (counts.same.points point).1 is.lawful in
    let long : length point ≡ length between.root = is.lawful.lies.same_length ∙ ap (λ (p : Program). length p.root) up in
    let whole : take (length between.root) point ≡ point = take_all (length between.root) point (omega (arith, long)) in
    let worth : worth_by between point ≡ worth_of program point = ap (worth_of between) whole ∙ ap (λ (p : Program). worth_of p point) (sym up) ∙ sym (counts.same.worth point) in
    record {
      lawful = subst (λ (c : Option Program). IsLawfulWith program c point) (sym none) own;
      lies = root-lies program point own;
      worth = subst (λ (c : Option Program). earned ≤ℤ worth_with program c point) (sym none) (subst (λ (n : ℤ). earned ≤ℤ n) worth is.said);
    }
judged-image plant program between wide (unit ∷ units) choices earned point up some counts is =
    let own = (counts.same.points point).1 is.lawful in
    let judged : Judges between wide = setups-judged plant (unit ∷ units) between wide up in
    let value : earned ≤ℤ value_of program point = subst (λ (n : ℤ). earned ≤ℤ n) (sym (counts.value point)) is.value in
    record {
      lawful = subst (λ (c : Option Program). IsLawfulWith program c point) (sym some) (own, judged point is.lawful);
      lies = root-lies program point own;
      worth = subst (λ (c : Option Program). earned ≤ℤ worth_with program c point) (sym some) (allows_min (value_of program point) (worth_by between point) earned value is.said);
    }

module _ (plant : Plant) (program : Program) (ranges : List Domain) (head : LogHead) (rows : Rows) (sound : Sound plant) (made : IsMadeOf plant program) (means : IsProgramOf plant program) (whole : ranges ≡ program.root) (taken : AreTaken plant program ranges head)
    (is : IsWithHeadAnew plant program ranges head rows) where
  part : IsPartOf plant program
  part = whole-is_part plant program made means

  -- the program with the sums and the setups is a relaxation of the plans
  relaxes : IsRelaxation (IsAdmitted plant program) (profit plant) is.wide (worth_by is.between)
  relaxes =
      setups-relax plant program is.between is.wide ranges head.sums head.units sound part (subst (AreRanges program) (sym whole) (own-ranges program)) (All-weaker (IsSumOf program ranges) (IsDeclared (length program.root)) (λ sum each. each.0) head.sums taken.each)
      (All-weaker (IsSumOf program ranges) (IsShown program ranges) (λ sum each. each.1) head.sums taken.each) is.with_sums taken.ascending is.with_setups

  counts : CountsAs is.wide rows.program
  counts = counts_anew is.wide rows.program (wide_domains plant program ranges head.sums head.units) head (wide-root plant program is.between is.wide ranges head.sums head.units whole is.with_sums is.with_setups) is.grown

  -- so each plan has an image among the rows
  image-of : (plan : List Start) (feasible : Feasible plant plan) → (point : List ℕ) × IsImageOf rows (profit plant plan) point
  image-of plan feasible =
      let admitted : IsAdmitted plant program plan = record { feasible = feasible; lies = ((means.feasible plan).0 feasible).1.lies } in (
        relaxes.image plan,
        judged-image plant rows.program is.between is.wide head.units rows.choices (profit plant plan) (relaxes.image plan) is.with_setups is.choices counts (relaxes.is plan admitted),
      )

  -- and what bounds their lawful points caps the plans
  pub caps_anew : (cap : Option ℤ) → BoundsRoot rows cap → CapsPlans plant cap
  caps_anew cap bounds = of_plans plant cap (λ plan feasible.
      let own = image-of plan feasible in
      allows-less (as_cap cap) (profit plant plan) (worth_in rows own.0) own.1.worth
      (allows-one (IsIn (view_of rows.program.root)) (IsLawfulIn rows) (worth_in rows) (as_cap cap) bounds own.0 own.1.lies own.1.lawful))

  -- where splits have no caps of their own, points are judged by the rows themselves
  pub plain-below : IsPlainBelow head.capped rows
  plain-below none = is.choices ∙ ap (λ (units : List ℕ). choices_before units is.between) (taken.below none)

-- the loose cap over the root of the rows with the head
pub loose_with : {E : Type 0} (plant : Plant) (program : Program) (ranges : List Domain) (head : LogHead) (rows : Rows) (proof : RowTree) (r : Result (Option ℤ) E) → Sound plant → IsMadeOf plant program → IsProgramOf plant program → ranges ≡ program.root
    → AreTaken plant program ranges head → IsWithHeadAnew plant program ranges head rows → IfOk r (IsRootCap head.capped rows proof) → IfOk r (IsCapOver plant program ranges head proof)
loose_with plant program ranges head rows proof (Ok cap) sound made means whole taken enlarged root =
    inl (record { taken = taken; rows = rows; enlarged = enlarged; is = root.is; own = root.own (plain-below plant program ranges head rows sound made means whole taken enlarged) })
loose_with plant program ranges head rows proof (Err e) sound made means whole taken enlarged root = tt

-- which caps the plans of the plant
pub loose_caps : {E : Type 0} (plant : Plant) (program : Program) (ranges : List Domain) (head : LogHead) (rows : Rows) (proof : RowTree) (r : Result (Option ℤ) E) → Sound plant → IsMadeOf plant program → IsProgramOf plant program → ranges ≡ program.root
    → AreTaken plant program ranges head → IsWithHeadAnew plant program ranges head rows → IfOk r (IsRootCap head.capped rows proof) → IfOk r (CapsPlans plant)
loose_caps plant program ranges head rows proof (Ok cap) sound made means whole taken enlarged root = caps_anew plant program ranges head rows sound made means whole taken enlarged cap root.bounds
loose_caps plant program ranges head rows proof (Err e) sound made means whole taken enlarged root = tt

-- a cap that serves in its own place
or_else-same : (cap : Capped) → or_else cap cap ≡ cap
or_else-same Bad = refl
or_else-same NoPoint = refl
or_else-same (AtMost n) = refl

-- a domain that holds a value is not empty
open_not_bare : (domain : Domain) → IsOpen domain → is_bare domain ≡ false
open_not_bare domain some = ne_eqb (count_of domain) 0 (λ none. omega (arith, some, none))

-- no domain of a root is empty of which each holds a value
root_open : (program : Program) → All IsOpen program.root → (row_steps program).empty (view_of program.root) ≡ false
unfolding row_steps
root_open program open' =
    ap (list_any is_bare) (domains_of-view_of program.root)
    ∙ list_any_none is_bare program.root (All-weaker IsOpen (λ domain. is_bare domain ≡ false) open_not_bare program.root open')

-- so the proof that says nothing gives the cap of scale 1 without multipliers
plain_root : (program : Program) → All IsOpen program.root → loosened program (view_of program.root) ((row_steps program).cap (view_of program.root) no_mults) ≡ (row_steps program).cap (view_of program.root) no_mults
plain_root program open' = rw (root_open program open') (or_else-same ((row_steps program).cap (view_of program.root) no_mults))

-- which serves where the head cannot be taken
pub plain_without : {E : Type 0} (plant : Plant) (program : Program) (ranges : List Domain) (head : LogHead) (proof : RowTree) (r : Result (Option ℤ) E) → IsMadeOf plant program → ¬ AreTaken plant program ranges head
    → IfOk r (IsRootCap false (plain program) plain_proof) → IfOk r (IsCapOver plant program ranges head proof)
plain_without plant program ranges head proof (Ok cap) made untaken root = inr (record { untaken = untaken; is = root.is ∙ plain_root program (made-open plant program made) })
plain_without plant program ranges head proof (Err e) made untaken root = tt

-- and caps the plans as well
pub plain_caps : {E : Type 0} (plant : Plant) (program : Program) (r : Result (Option ℤ) E) → IsProgramOf plant program → IfOk r (IsRootCap false (plain program) plain_proof) → IfOk r (CapsPlans plant)
plain_caps plant program (Ok cap) means root = caps_plans plant program cap means root.bounds
plain_caps plant program (Err e) means root = tt

-- a cap for the plant's program is an estimate
pub is_estimate : {E : Type 0} (plant : Plant) (program : Program) (ranges : List Domain) (head : LogHead) (proof : RowTree) (r : Result (Option ℤ) E) → IsMadeOf plant program → ranges ≡ plant_root plant
    → IfOk r (IsCapOver plant program ranges head proof) → IfOk r (CapsPlans plant) → IfOk r (IsEstimate plant head proof)
is_estimate plant program ranges head proof (Ok cap) made own is caps = record {
  program = program;
  made = made;
  is = subst (λ (ds : List Domain). IsCapOver plant program ds head proof cap) own is;
  caps = caps;
}
is_estimate plant program ranges head proof (Err e) made own is caps = tt
