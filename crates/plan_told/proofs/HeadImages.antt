-- Each lawful point of a part with sums has an image among the rows of a head: that of the plan for which it stands, with the setups.
use Rattle.std.proofs.Common.{◌≡◌, ◌⊎◌, inl, inr, ℕ, List, [], ◌∷◌, length, map, Some, Option, ℤ, ◌+ℤ◌, ◌≤ℤ◌, sym, ap, ap₂, ◌∙◌, subst, arith}
use Rattle.std.specs.List.{All}
use Rattle.std.specs.List.Sorted.{IsStrictlyIncreasing}
use Rattle.std.proofs.lemmas.List.{take_all}
use Rattle.stn_model.specs.declared.plant.Plant.{Plant}
use Rattle.stn_model.specs.declared.start.Start.{Start}
use Rattle.stn_model.specs.Profit.{profit}
use Rattle.stn_model.specs.Sound.{Sound}
use Rattle.time_grid.specs.PlanPoint.{plan_point}
use Rattle.time_grid.specs.Slots.{slots}
use Rattle.time_grid.proofs.PointPlan.{starts-of_point}
use Rattle.row_kit.specs.declared.domain.Domain.{Domain}
use Rattle.row_kit.specs.declared.program.Program.{Program}
use Rattle.row_kit.specs.declared.row.Entry.{Entry}
use Rattle.row_kit.specs.Point.{IsLawful, LiesIn, value_of}
use Rattle.row_kit.specs.Row.{entries_sum}
use Rattle.row_set.specs.Parts.{IsPartOf, plan_of_values}
use Rattle.row_set.specs.PlantProgram.{slot_domain}
use Rattle.row_set.proofs.PartPoints.{lies-within, values-admitted}
use Rattle.row_set.proofs.Roots.{point-of_root}
use Rattle.row_relax.specs.declared.rows.Rows.{Rows}
use Rattle.row_relax.specs.Choices.{HaveImages}
use Rattle.row_relax.proofs.Choosing.{plain-images}
use Rattle.sum_slots.specs.declared.sum.Sum.{Sum}
use Rattle.sum_slots.specs.Larger.{completed, given_of}
use Rattle.sum_slots.specs.Shown.{AreRanges}
use Rattle.sum_slots.specs.Sum.{IsDeclared}
use Rattle.setup_slots.specs.Several.{set_up}
use Rattle.setup_slots.proofs.ManyUnits.{set_up-begins}
use Rattle.derivations.specs.declared.derivation.Derivation.{Derivation}
use Rattle.derivations.specs.Growth.{AreShown}
use Rattle.derivations.specs.Larger.{IsWithDerivations, begun}
use Rattle.plan_images.proofs.Imaging.{derived-points, shown-points}
use Rattle.plan_images.proofs.Setups.{setup-image}
use Rattle.valid_log.specs.Heads.{IsWithHead, head_domains, wide_domains}
use Rattle.valid_log.proofs.Holding.{head-ranges, setup-ranges}
use Rattle.plan_told.specs.Heads.{CanHead}

-- a lawful point of a part is that of the plan for which its values stand
own-point : (plant : Plant) (part : Program) (point : List ℕ) → Sound plant → IsPartOf plant part → IsLawful part point → plan_point plant (plan_of_values plant point) ≡ point
unfolding plan_of_values
own-point plant part point sound is lawful =
    let whole : LiesIn (map (slot_domain plant) (slots plant)) point
    = subst (λ (ds : List Domain). LiesIn ds point) is.made.root_is (lies-within part.root is.whole.root point is.within lawful.lies) in
    (starts-of_point plant point sound (point-of_root plant point whole)).1

-- an image of a program is one of what grows from it by derivations that are shown, and has the same value
grown-image : (wide larger : Program) (domains : List Domain) (derivations : List Derivation) (earned : ℤ) (point : List ℕ) → AreRanges wide domains → AreShown (begun wide domains) derivations
    → ((◌≡◌ {A = ℕ} 4 3) × (larger ≡ wide)) ⊎ ((◌≡◌ {A = ℕ} 4 4) × IsWithDerivations wide domains derivations larger) → IsLawful wide point → earned ≤ℤ value_of wide point
    → IsLawful larger point × (earned ≤ℤ value_of larger point)
grown-image wide larger domains derivations earned point ranges shown (inl three) lawful low = absurd (omega (arith, three.0))
grown-image wide larger domains derivations earned point ranges shown (inr four) lawful low =
    let grown = four.1 in (
      ((derived-points wide larger domains derivations ranges shown grown).there_is point lawful).0,
      subst (λ (v : ℤ). earned ≤ℤ v) (ap₂ (λ (base : ℤ) (es : List Entry). base +ℤ entries_sum es point) (sym grown.base) (sym grown.profit)) low,
    )

module _ (plant : Plant) (part : Program) (rows : Rows) (judged : List Domain) (sums : List Sum) (derivations : List Derivation) (sound : Sound plant) (of_part : IsPartOf plant part) (ranges : AreRanges part judged) (declared : All (IsDeclared (length part.root)) sums) where
  images_in : (units : List ℕ) → IsStrictlyIncreasing units → IsWithHead plant 4 part judged sums units derivations rows → HaveImages rows
  images_in [] up is = plain-images rows is.choices
  images_in (unit ∷ units) up is =
      subst HaveImages (sym same_rows) (λ point lawful.
      let all = unit ∷ units in
      let between = is.between in
      let same = shown-points part between judged sums ranges declared is.sums_shown is.with_sums in
      let own = given_of part point in
      let back = same.back_is point lawful in
      let plan : List Start = plan_of_values plant own in
      let has = values-admitted plant part own sound of_part back.0 in
      let own_is : plan_point plant plan ≡ own = own-point plant part own sound of_part back.0 in
      let point_is : completed sums (plan_point plant plan) ≡ point = ap (completed sums) own_is ∙ same.back_there point lawful in
      let image = setup-image plant part between is.wide judged sums all sound of_part ranges declared is.sums_shown is.with_sums up is.with_setups plan has.0 in
      let point_image = set_up plant all plan point in
      let lawful_wide : IsLawful is.wide point_image = subst (λ (p : List ℕ). IsLawful is.wide (set_up plant all plan p)) point_is image.lawful in
      let value_wide : profit plant plan ≤ℤ value_of is.wide point_image = subst (λ (p : List ℕ). profit plant plan ≤ℤ value_of is.wide (set_up plant all plan p)) point_is image.value in
      let domains = wide_domains plant part judged sums all in
      let wide_ranges = setup-ranges plant all between is.wide (head_domains part judged sums) (head-ranges part between judged sums ranges is.with_sums) is.with_setups in
      let larger = grown-image is.wide rows.program domains derivations (profit plant plan) point_image wide_ranges is.derivations_shown (by_version is.grown) lawful_wide value_wide in
      let long = lawful.lies.same_length in (
        point_image,
        record {
          first = set_up-begins plant all plan point (length between.root) (omega (arith, long)) ∙ take_all (length between.root) point (omega (arith, long));
          lawful = larger.0;
          value = subst (λ (v : ℤ). v ≤ℤ value_of rows.program point_image) (has.1 ∙ back.1) larger.1;
        },
      ))
    where
      with_choices : Option Program → Rows
      with_choices choices = record { program = rows.program; choices = choices }

      same_rows : rows ≡ with_choices (Some is.between)
      same_rows = ap with_choices is.choices

      by_version : ((◌≡◌ {A = ℕ} 4 3) × (◌≡◌ {A = List ℕ} (unit ∷ units) []) × (rows.program ≡ is.wide)) ⊎ ((◌≡◌ {A = ℕ} 4 4) × IsWithDerivations is.wide (wide_domains plant part judged sums (unit ∷ units)) derivations rows.program)
          → ((◌≡◌ {A = ℕ} 4 3) × (rows.program ≡ is.wide)) ⊎ ((◌≡◌ {A = ℕ} 4 4) × IsWithDerivations is.wide (wide_domains plant part judged sums (unit ∷ units)) derivations rows.program)
      by_version (inl three) = inl (three.0, three.2)
      by_version (inr four) = inr four

-- each lawful point of a part with sums has an image among the rows of a head
pub head-images : (plant : Plant) (part : Program) (rows : Rows) (judged : List Domain) (sums : List Sum) (units : List ℕ) (derivations : List Derivation) → Sound plant → IsPartOf plant part → AreRanges part judged
    → CanHead plant part judged sums units derivations rows → HaveImages rows
head-images plant part rows judged sums units derivations sound of_part ranges can =
    images_in plant part rows judged sums derivations sound of_part ranges can.sums_kept.declared units can.units_kept.ascending can.enlarged
