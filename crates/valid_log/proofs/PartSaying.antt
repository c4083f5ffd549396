-- What a proof bears out over the program of a part of a plant's choices, or over the rows of a head over it, it says of all plans that the part admits.
use Rattle.std.proofs.Common.{inl, inr, ℕ, List, [], ◌∷◌, length, take, ◌∙◌, sym, subst}
use Rattle.std.specs.Prelude.{ℤ, Option, unwrap_or, Result, Ok, Err, IfOk}
use Rattle.std.specs.List.{All}
use Rattle.std.specs.List.Sorted.{IsStrictlyIncreasing}
use Rattle.stn_model.specs.declared.plant.Plant.{Plant}
use Rattle.stn_model.specs.declared.start.Start.{Start}
use Rattle.stn_model.specs.Sound.{Sound}
use Rattle.stn_model.specs.Profit.{profit}
use Rattle.row_kit.specs.declared.domain.Domain.{Domain}
use Rattle.row_kit.specs.declared.program.Program.{Program}
use Rattle.row_kit.specs.Point.{worth_of}
use Rattle.row_set.specs.Parts.{IsAdmitted, IsPartOf, plan_of_values}
use Rattle.row_set.proofs.PartPoints.{values-admitted}
use Rattle.row_relax.specs.declared.rows.Rows.{Rows}
use Rattle.row_relax.specs.Choices.{choices_of, plain, settle_of, settled_with, steps_of}
use Rattle.row_relax.specs.RowProofs.{RowTree}
use Rattle.row_relax.specs.View.{domains_of, view_of}
use Rattle.proof_tree.specs.Tree.{tree_cap}
use Rattle.sum_slots.specs.declared.sum.Sum.{Sum}
use Rattle.sum_slots.specs.Larger.{completed, given_of}
use Rattle.sum_slots.specs.Shown.{AreRanges}
use Rattle.sum_slots.specs.Sum.{IsDeclared}
use Rattle.derivations.specs.declared.derivation.Derivation.{Derivation}
use Rattle.derivations.specs.Growth.{AreShown}
use Rattle.derivations.specs.Larger.{begun}
use Rattle.proof_log.specs.declared.claim.Claim.{Claim}
use Rattle.proof_log.specs.declared.claim.Claim.TheVariants.{Optimal, Infeasible, Between, Below}
use Rattle.proof_log.specs.ClaimSays.{ClaimSays}
use Rattle.plan_images.specs.Boxes.{Judges, SettlesBy, worth_by}
use Rattle.plan_images.specs.Caps.{Caps}
use Rattle.plan_images.specs.Images.{IsRelaxation}
use Rattle.plan_images.specs.Told.{ReadsAs}
use Rattle.plan_images.proofs.Imaging.{HaveSamePoints, same-relaxes}
use Rattle.plan_images.proofs.Losing.{plain-settle, tree-caps}
use Rattle.plan_images.proofs.Plans.{part-relaxes}
use Rattle.plan_images.proofs.Setups.{choices-settle, derived-judged, derived-keep, setups-judged, setups-relax}
use Rattle.plan_images.proofs.Telling.{borne, borne-read}
use Rattle.valid_log.specs.declared.verdict.LogVerdict.{LogVerdict}
use Rattle.valid_log.specs.declared.verdict.LogVerdict.TheVariants.{Yes, No}
use Rattle.valid_log.specs.Verdict.{YesHolds}
use Rattle.valid_log.specs.Heads.{IsWithHead, head_domains, wide_domains}
use Rattle.valid_log.specs.AnyVersion.{given_claim, given_verdict}
use Rattle.valid_log.specs.Claims.{HeadsSay, PartsSay, SaysOf, YesSaysOf}
use Rattle.valid_log.proofs.Alike.{IsGrownIn, grown_in}
use Rattle.valid_log.proofs.Holding.{head-points, head-ranges, setup-ranges}

-- ---- a part's own program

-- the points of a part stand for the plans that it admits
part-reads : (plant : Plant) (part : Program) → Sound plant → IsPartOf plant part → ReadsAs part (IsAdmitted plant part) (profit plant) (plan_of_values plant)
part-reads plant part sound is point lawful = values-admitted plant part point sound is lawful

pub parts-say : PartsSay
parts-say plant part claim sound is out =
    let cap = tree_cap (steps_of (plain part)) (view_of part.root) out.tree in
    borne (IsAdmitted plant part) (profit plant) (plan_of_values plant) cap claim out.defined
    (tree-caps (IsAdmitted plant part) (profit plant) part (worth_of part) (settle_of (plain part)) (plain-settle part) (part-relaxes plant part is) out.tree)
    (borne-read (IsAdmitted plant part) (profit plant) part (plan_of_values plant) cap claim (part-reads plant part sound is) out.borne)

-- ---- the rows of a head

-- a claim's point cut back stands for the plan that its first values stand for
cut_says : (plant : Plant) (admits : List Start → Type 0) (slots : ℕ) (claim : Claim) → ClaimSays admits (profit plant) (λ point. plan_of_values plant (take slots point)) claim → SaysOf plant admits (given_claim slots claim)
cut_says plant admits slots (Optimal earned point) says = says
cut_says plant admits slots Infeasible says = says
cut_says plant admits slots (Between earned most point) says = says
cut_says plant admits slots (Below most) says = says

-- what grows from a program with setups is a relaxation of what that is one of, and what judges the one judges the other
grown-relaxes : {X : Type 0} (admits : X → Type 0) (earned : X → ℤ) (version : ℕ) (given larger : Program) (alone : List ℕ → ℤ) (domains : List Domain) (derivations : List Derivation) → AreRanges given domains → AreShown (begun given domains) derivations
    → IsGrownIn version given domains derivations larger → IsRelaxation admits earned given alone → IsRelaxation admits earned larger alone
grown-relaxes admits earned version given larger alone domains derivations ranges shown (inl three) first = subst (λ (p : Program). IsRelaxation admits earned p alone) (sym three.1) first
grown-relaxes admits earned version given larger alone domains derivations ranges shown (inr four) first = derived-keep admits earned given larger alone domains derivations ranges shown four.1 first

grown-judged : (version : ℕ) (choices given larger : Program) (domains : List Domain) (derivations : List Derivation) → AreRanges given domains → AreShown (begun given domains) derivations → IsGrownIn version given domains derivations larger → Judges choices given
    → Judges choices larger
grown-judged version choices given larger domains derivations ranges shown (inl three) judges = subst (Judges choices) (sym three.1) judges
grown-judged version choices given larger domains derivations ranges shown (inr four) judges = derived-judged choices given larger domains derivations ranges shown four.1 judges

module _ (plant : Plant) (version : ℕ) (part : Program) (judged : List Domain) (sums : List Sum) (derivations : List Derivation) (rows : Rows) (sound : Sound plant) (of_part : IsPartOf plant part) (ranges : AreRanges part judged) (declared : All (IsDeclared (length part.root)) sums) where
  -- the cap of a proof over the rows of a head allows what each admitted plan earns
  head_caps : (units : List ℕ) → IsStrictlyIncreasing units → IsWithHead plant version part judged sums units derivations rows → (tree : RowTree) → Caps (IsAdmitted plant part) (profit plant) (tree_cap (steps_of rows) (view_of rows.program.root) tree)
  head_caps [] up is tree =
      let same = subst (λ (c : Option Program). HaveSamePoints part (unwrap_or c rows.program) (completed sums) (given_of part)) is.choices (head-points plant version part judged sums [] derivations rows ranges declared is) in
      let relaxes = same-relaxes (IsAdmitted plant part) (profit plant) part rows.program (completed sums) (given_of part) same (part-relaxes plant part of_part) in
      let settles = subst (λ (c : Option Program). SettlesBy rows.program (λ v. settled_with rows.program c (domains_of v)) (worth_of rows.program)) (sym is.choices) (plain-settle rows.program) in
      tree-caps (IsAdmitted plant part) (profit plant) rows.program (worth_of rows.program) (settle_of rows) settles relaxes tree
  head_caps (unit ∷ units) up is tree =
      let all = unit ∷ units in
      let domains = wide_domains plant part judged sums all in
      let wide_ranges = setup-ranges plant all is.between is.wide (head_domains part judged sums) (head-ranges part is.between judged sums ranges is.with_sums) is.with_setups in
      let grown = grown_in plant version part judged sums all derivations rows is in
      let wide = setups-relax plant part is.between is.wide judged sums all sound of_part ranges declared is.sums_shown is.with_sums up is.with_setups in
      let relaxes = grown-relaxes (IsAdmitted plant part) (profit plant) version is.wide rows.program (worth_by is.between) domains derivations wide_ranges is.derivations_shown grown wide in
      let judges = grown-judged version is.between is.wide rows.program domains derivations wide_ranges is.derivations_shown grown (setups-judged plant all is.between is.wide is.with_setups) in
      let settles = subst (λ (c : Option Program). SettlesBy rows.program (λ v. settled_with rows.program c (domains_of v)) (worth_by is.between)) (sym is.choices) (choices-settle rows.program is.between judges) in
      tree-caps (IsAdmitted plant part) (profit plant) rows.program (worth_by is.between) (settle_of rows) settles relaxes tree

  -- the points of its choices stand for the plans that the part admits
  head_reads : (units : List ℕ) → IsWithHead plant version part judged sums units derivations rows → ReadsAs (choices_of rows) (IsAdmitted plant part) (profit plant) (λ point. plan_of_values plant (given_of part point))
  head_reads units is point lawful =
      let back = (head-points plant version part judged sums units derivations rows ranges declared is).back_is point lawful in
      let own = part-reads plant part sound of_part (given_of part point) back.0 in
      (own.0, own.1 ∙ back.1)

pub heads-say : HeadsSay
heads-say plant version part judged sums units derivations rows claim sound of_part ranges declared up is out =
    let cap = tree_cap (steps_of rows) (view_of rows.program.root) out.tree in
    let of_values : List ℕ → List Start = λ point. plan_of_values plant (given_of part point) in
    cut_says plant (IsAdmitted plant part) (length part.root) claim
    (borne (IsAdmitted plant part) (profit plant) of_values cap claim out.defined
    (head_caps plant version part judged sums derivations rows sound of_part ranges declared units up is out.tree)
    (borne-read (IsAdmitted plant part) (profit plant) (choices_of rows) of_values cap claim (head_reads plant version part judged sums derivations rows sound of_part ranges declared units is) out.borne))

-- ---- what checks answer

-- a yes over a part's own program holds of all plans that it admits
pub part_yes : (plant : Plant) (part : Program) (verdict : LogVerdict) → Sound plant → IsPartOf plant part → YesHolds (plain part) verdict → YesSaysOf plant part verdict
part_yes plant part (Yes claim) sound is holds = parts-say plant part claim sound is holds
part_yes plant part (No defect) sound is holds = tt

-- so does one over the rows of a head
pub head_yes : (plant : Plant) (version : ℕ) (part : Program) (judged : List Domain) (sums : List Sum) (units : List ℕ) (derivations : List Derivation) (rows : Rows) (count : ℕ) (own : LogVerdict) → Sound plant → IsPartOf plant part → AreRanges part judged
    → All (IsDeclared (length part.root)) sums → IsStrictlyIncreasing units → IsWithHead plant version part judged sums units derivations rows → YesHolds rows own → YesSaysOf plant part (given_verdict (length part.root) count own)
head_yes plant version part judged sums units derivations rows count (No defect) sound of_part ranges declared up is holds = tt
head_yes plant version part judged sums units derivations rows count (Yes claim) sound of_part ranges declared up is holds =
    heads-say plant version part judged sums units derivations rows claim sound of_part ranges declared up is holds

-- the same of what a check answers
pub part_yes_if : {E : Type 0} (plant : Plant) (part : Program) (r : Result LogVerdict E) → Sound plant → IsPartOf plant part → IfOk r (YesHolds (plain part)) → IfOk r (YesSaysOf plant part)
part_yes_if plant part (Ok verdict) sound is holds = part_yes plant part verdict sound is holds
part_yes_if plant part (Err e) sound is holds = tt
