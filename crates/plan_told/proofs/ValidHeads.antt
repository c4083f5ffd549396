-- The text of a proof over the rows of a head, with a claim that its cap bears out, is a valid log of the given program.
use Rattle.std.proofs.Common.{◌≡◌, ◌≢◌, ◌⊎◌, inl, inr, ℕ, ◌≤◌, true, List, [], ◌∷◌, length, map, refl, sym, ap, ◌∙◌, arith}
use Rattle.std.specs.List.{sum_by}
use Rattle.std.proofs.lemmas.List.Sums.{sum_by-append}
use Rattle.stn_model.specs.declared.plant.Plant.{Plant}
use Rattle.stn_model.specs.Points.{depth_limit}
use Rattle.stn_model.specs.Profit.{profit}
use Rattle.row_kit.specs.declared.domain.Domain.{Domain}
use Rattle.row_kit.specs.declared.program.Program.{Program}
use Rattle.row_set.specs.Parts.{IsAdmitted, IsPartOf}
use Rattle.row_set.specs.PlantProgram.{plant_root}
use Rattle.row_relax.specs.declared.rows.Rows.{Rows}
use Rattle.row_relax.specs.Choices.{choices_of, steps_of}
use Rattle.row_relax.specs.RowProofs.{RowTree}
use Rattle.row_relax.specs.View.{view_of}
use Rattle.proof_tree.specs.Items.{tree_items}
use Rattle.proof_tree.specs.Tree.{tree_cap}
use Rattle.proof_tree.specs.declared.capped.Capped.{Capped}
use Rattle.proof_tree.specs.declared.capped.Capped.TheVariants.{Bad}
use Rattle.branch_tree.specs.Searched.{IsWritable, spared}
use Rattle.proof_log.specs.declared.claim.Claim.{Claim}
use Rattle.proof_log.specs.declared.claim.Claim.TheVariants.{Optimal, Infeasible, Between, Below}
use Rattle.proof_log.specs.Log.{log_text}
use Rattle.valid_log.specs.declared.verdict.LogVerdict.TheVariants.{Yes}
use Rattle.valid_log.specs.Meaning.{IsSoundClaim}
use Rattle.sum_slots.specs.declared.sum.Sum.{Sum}
use Rattle.sum_slots.specs.Larger.{completed, given_of, sum_domain}
use Rattle.sum_slots.specs.Shown.{AreRanges}
use Rattle.setup_slots.specs.Larger.{setup_domain}
use Rattle.setup_slots.specs.Several.{AreSetUp}
use Rattle.setup_slots.specs.Slots.{setup_slots}
use Rattle.derivations.specs.declared.derivation.Derivation.{Derivation}
use Rattle.derivations.specs.Larger.{IsWithDerivations, begun, grown_by}
use Rattle.derivations.proofs.Holding.{slots-after_all}
use Rattle.plan_images.specs.Images.{Relaxes}
use Rattle.plan_images.proofs.Imaging.{HaveSamePoints, same-relaxes}
use Rattle.plan_images.proofs.Plans.{part-relaxes}
use Rattle.valid_log.specs.Heads.{head_domains, wide_domains}
use Rattle.valid_log.specs.AnyVersion.{IsAnyVerdict, given_claim}
use Rattle.valid_log.specs.SumTexts.{larger_claim}
use Rattle.valid_log.proofs.Deeper.{yes-deeper}
use Rattle.valid_log.proofs.Holding.{head-points, head-ranges, setup-ranges}
use Rattle.plan_told.specs.Heads.{CanHead, headed_text}
use Rattle.plan_told.specs.Proofs.{depth_over}
use Rattle.plan_told.proofs.HeadTexts.{headed-valid}
use Rattle.plan_told.proofs.Narrowed.{spared-met}
use Rattle.plan_told.proofs.SmallClaim.{IsSmallClaim}
use Rattle.plan_told.proofs.ValidLog.{valid-tree}

module _ (part larger : Program) (sums : List Sum) (same : HaveSamePoints part larger (completed sums) (given_of part)) where
  -- a claim that a cap bears out over the part is so over the larger program, with its point completed
  sound_larger : (cap : Capped) (claim : Claim) → IsSoundClaim part cap claim → IsSoundClaim larger cap (larger_claim sums claim)
  sound_larger cap (Optimal profit point) sound = (let is = same.there_is point sound.0.0 in ((is.0, is.1 ∙ sound.0.1), sound.1))
  sound_larger cap Infeasible sound = sound
  sound_larger cap (Between profit most point) sound = (let is = same.there_is point sound.0.0 in ((is.0, is.1 ∙ sound.0.1), sound.1))
  sound_larger cap (Below most) sound = sound

  -- that claim cut back is the given one
  cut_same : (cap : Capped) (claim : Claim) → IsSoundClaim part cap claim → given_claim (length part.root) (larger_claim sums claim) ≡ claim
  cut_same cap (Optimal profit point) sound = ap (Optimal profit) (same.there_back point sound.0.0)
  cut_same cap Infeasible sound = refl
  cut_same cap (Between profit most point) sound = ap (Between profit most) (same.there_back point sound.0.0)
  cut_same cap (Below most) sound = refl

-- its cap has at most 30 digits where that of the given claim has
small_larger : (sums : List Sum) (claim : Claim) → IsSmallClaim claim → IsSmallClaim (larger_claim sums claim)
small_larger sums (Optimal profit point) small = small
small_larger sums Infeasible small = small
small_larger sums (Between profit most point) small = small
small_larger sums (Below most) small = small

-- the setups of units spare no less
spared_set_up : (plant : Plant) (units : List ℕ) (program wide : Program) → AreSetUp plant units program wide → sum_by spared program.root ≤ sum_by spared wide.root
spared_set_up plant [] program wide is = omega (arith, ap (λ (p : Program). sum_by spared p.root) is)
spared_set_up plant (unit ∷ units) program wide is =
    let more = sum_by-append spared program.root (map (λ slot. setup_domain) (setup_slots plant unit)) in
    omega (arith, ap (sum_by spared) is.1.0.root, more, spared_set_up plant units is.0 wide is.1.1)

module _ (plant : Plant) (part : Program) (rows : Rows) (judged : List Domain) (sums : List Sum) (units : List ℕ) (derivations : List Derivation) (ranges : AreRanges part judged) (can : CanHead plant part judged sums units derivations rows) where
  -- the program with the sums, and that with the setups
  abbrev between : Program
  between = can.enlarged.between

  abbrev wide : Program
  wide = can.enlarged.wide

  abbrev domains : List Domain
  domains = wide_domains plant part judged sums units

  -- a head of version 4 leads to the program with its derivations
  grown : IsWithDerivations wide domains derivations rows.program
  grown = by_version can.enlarged.grown
    where
      by_version : ((◌≡◌ {A = ℕ} 4 3) × (◌≡◌ {A = List ℕ} units []) × (rows.program ≡ wide)) ⊎ ((◌≡◌ {A = ℕ} 4 4) × IsWithDerivations wide domains derivations rows.program) → IsWithDerivations wide domains derivations rows.program
      by_version (inl three) = absurd (omega (arith, three.0))
      by_version (inr four) = four.1

  -- it lets no more splits be open
  depth_less : depth_over (depth_limit plant) rows.program.root ≤ depth_over (depth_limit plant) part.root
  depth_less =
      let own = map (sum_domain part judged) sums in
      let left = (grown_by wide domains derivations).domains in
      let wide_ranges = setup-ranges plant units between wide (head_domains part judged sums) (head-ranges part between judged sums ranges can.enlarged.with_sums) can.enlarged.with_setups in
      let same : length left ≡ length wide.root = slots-after_all (begun wide domains) derivations ∙ wide_ranges.same_length in
      omega (
        arith,
        ap (sum_by spared) grown.root,
        spared-met wide.root left same,
        spared_set_up plant units between wide can.enlarged.with_setups,
        ap (sum_by spared) can.enlarged.with_sums.root,
        sum_by-append spared part.root own,
      )

  -- its choices have the same points, each completed
  pub head-same : HaveSamePoints part (choices_of rows) (completed sums) (given_of part)
  head-same = head-points plant 4 part judged sums units derivations rows ranges can.sums_kept.declared can.enlarged

  -- so they are a relaxation of the plans of the part
  pub head-relaxes : IsPartOf plant part → Relaxes (IsAdmitted plant part) (profit plant) (choices_of rows)
  head-relaxes is = same-relaxes (IsAdmitted plant part) (profit plant) part (choices_of rows) (completed sums) (given_of part) head-same (part-relaxes plant part is)

  -- the text of a proof over it, with a claim over the part that its cap bears out, is a valid log
  pub valid-head : (tree : RowTree) (cap : Capped) (claim : Claim) → IsWritable (depth_limit plant) rows true tree → cap ≡ tree_cap (steps_of rows) (view_of rows.program.root) tree → cap ≢ Bad → IsSoundClaim part cap claim → IsSmallClaim claim
      → IsAnyVerdict plant part (plant_root plant) judged (depth_over (depth_limit plant) part.root) (headed_text sums units derivations tree (larger_claim sums claim)) (Yes claim)
  valid-head tree cap claim writable is defined sound small =
      let whole = larger_claim sums claim in
      let valid = valid-tree (depth_limit plant) rows true tree cap writable is whole defined (sound_larger part (choices_of rows) sums head-same cap claim sound) (small_larger sums claim small) in
      headed-valid plant part rows (plant_root plant) judged sums units derivations (depth_over (depth_limit plant) part.root) tree whole claim can
      (yes-deeper rows (depth_over (depth_limit plant) rows.program.root) (depth_over (depth_limit plant) part.root) (log_text 4 (tree_items tree) whole) whole depth_less valid)
      (sym (cut_same part (choices_of rows) sums head-same cap claim sound))
