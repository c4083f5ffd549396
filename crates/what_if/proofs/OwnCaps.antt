-- An estimate of the plant that a valid log is of answers to the cap of the log's own proof.
use Rattle.std.proofs.Common.{◌≡◌, ◌≢◌, ◌⊎◌, ℕ, Bool, false, List, [], sym, ap, ◌∙◌, subst, inl, inr, ℤ, Option, arith}
use Rattle.std.specs.Prelude.{if◌then◌else◌}
use Rattle.stn_model.specs.declared.plant.Plant.{Plant}
use Rattle.row_kit.specs.declared.area.Area.{Area}
use Rattle.row_kit.specs.declared.domain.Domain.{Domain}
use Rattle.row_kit.specs.declared.found.Found.{Found}
use Rattle.row_kit.specs.declared.program.Program.{Program}
use Rattle.row_kit.specs.declared.row.Row.{Row}
use Rattle.proof_tree.specs.declared.capped.Capped.{Capped}
use Rattle.proof_tree.specs.declared.capped.Capped.TheVariants.{Bad}
use Rattle.proof_tree.specs.Items.{tree_items}
use Rattle.proof_tree.specs.Tree.{tree_cap}
use Rattle.proof_tree.specs.Walk.{ended, outcome_of}
use Rattle.proof_tree.proofs.WalkLaw.{walked-whole}
use Rattle.row_relax.specs.declared.pick.RowPick.{RowPick}
use Rattle.row_relax.specs.declared.rows.Rows.{Rows}
use Rattle.row_relax.specs.RowProofs.{RowTree}
use Rattle.row_relax.specs.Choices.{choices_of, steps_of}
use Rattle.row_relax.specs.View.{view_of}
use Rattle.row_set.specs.PlantProgram.{IsMadeOf, plant_root}
use Rattle.derivations.specs.Growth.{AreShown}
use Rattle.derivations.specs.Larger.{IsWithDerivations, begun}
use Rattle.derivations.proofs.Again.{shown-stand}
use Rattle.proof_log.specs.declared.claim.Claim.{Claim}
use Rattle.valid_log.specs.Heads.{IsWithHead, wide_domains}
use Rattle.valid_log.specs.Meaning.{IsProved}
use Rattle.valid_log.proofs.Again.{same-program}
use Rattle.valid_log.proofs.Alike.{alike, proved_alike, setups_shape, sums_alike}
use Rattle.what_if.specs.declared.old.LogHead.{LogHead}
use Rattle.what_if.specs.Estimate.{AreTaken, IsDerivedAnew, IsEstimate, IsLooseWith, IsProofCap, IsWithHeadAnew}
use Rattle.what_if.specs.Head.{version_of}
use Rattle.what_if.specs.OldLogs.{IsValidFor}

-- ---- the head of a valid log over the plant's program

-- programs that are made of one plant are the same
same_made : (plant : Plant) (a b : Program) → IsMadeOf plant a → IsMadeOf plant b → a ≡ b
same_made plant a b one other = same-program a b
    (one.rows_are ∙ sym other.rows_are) (one.profit_is ∙ sym other.profit_is) (one.base_is ∙ sym other.base_is)
    (one.root_is ∙ sym other.root_is) (one.tags_are ∙ sym other.tags_are) (one.changes_are ∙ sym other.changes_are)

-- a head below version 4 sets no unit up
no_units : (plant : Plant) (program : Program) (ranges : List Domain) (head : LogHead) (rows : Rows) → IsWithHead plant (version_of head) program ranges head.sums head.units head.derivations rows → head.capped ≡ false → head.units ≡ []
no_units plant program ranges head rows is none = by_version is.grown
  where
    three : version_of head ≡ 3
    three = ap (λ (capped : Bool). if capped then 4 else 3) none

    by_version : ((version_of head ≡ 3) × (head.units ≡ []) × (rows.program ≡ is.wide)) ⊎ ((version_of head ≡ 4) × IsWithDerivations is.wide (wide_domains plant program ranges head.sums head.units) head.derivations rows.program) → head.units ≡ []
    by_version (inl own) = own.1
    by_version (inr four) = absurd (omega (arith, three, four.0))

-- where the derivations of a head are shown, the rows with it are also those in which they are looked at anew
shown-head : (plant : Plant) (program : Program) (one rows : Rows) (ranges : List Domain) (head : LogHead) → IsWithHead plant (version_of head) program ranges head.sums head.units head.derivations one → IsWithHeadAnew plant program ranges head rows
    → IsWithHead plant (version_of head) program ranges head.sums head.units head.derivations rows
shown-head plant program one rows ranges head is anew = record {
  sums_shown = is.sums_shown;
  between = anew.between;
  with_sums = anew.with_sums;
  wide = anew.wide;
  with_setups = anew.with_setups;
  derivations_shown = shown;
  grown = by_caps anew.grown;
  choices = anew.choices;
}
  where
    domains : List Domain
    domains = wide_domains plant program ranges head.sums head.units

    same : is.wide.rows ≡ anew.wide.rows
    same = (setups_shape plant head.units is.between anew.between is.wide anew.wide (sums_alike program is.between anew.between ranges head.sums is.with_sums anew.with_sums).shape is.with_setups anew.with_setups).rows

    shown : AreShown (begun anew.wide domains) head.derivations
    shown = subst (λ (rs : List Row). AreShown (record { rows = rs; domains = domains }) head.derivations) same is.derivations_shown

    by_caps : IsDerivedAnew anew.wide domains head rows.program
        → ((version_of head ≡ 3) × (head.units ≡ []) × (rows.program ≡ anew.wide)) ⊎ ((version_of head ≡ 4) × IsWithDerivations anew.wide domains head.derivations rows.program)
    by_caps (inl none) = inl (ap (λ (capped : Bool). if capped then 4 else 3) none.0, no_units plant program ranges head one is none.0, none.1)
    by_caps (inr some) = inr (ap (λ (capped : Bool). if capped then 4 else 3) some.0, shown-stand anew.wide rows.program domains head.derivations shown some.1)

-- ---- its proof has a cap there

-- what ends with a cap has one
real : (own proof_cap : Capped) → outcome_of {P = RowPick} own ≡ ended proof_cap → own ≢ Bad
real own proof_cap is bad = let undefined_is = subst (λ (c : Capped). outcome_of {P = RowPick} c ≡ ended proof_cap) bad is in absurd (cc)

-- a proof without a defect has a cap
defined : (rows : Rows) (tree : RowTree) (proof_cap : Capped) → IsProved (steps_of rows) (choices_of rows) (view_of rows.program.root) (tree_items tree) proof_cap → tree_cap (steps_of rows) (view_of rows.program.root) tree ≢ Bad
defined rows tree proof_cap proved =
    real (tree_cap (steps_of rows) (view_of rows.program.root) tree) proof_cap
    (sym (walked-whole Rows Area Found (steps_of rows) tree (view_of rows.program.root)) ∙ proved.led)

-- an estimate of the plant answers to the cap of the log's proof
pub own_cap : (plant : Plant) (bytes : List ℕ) (head : LogHead) (proof : RowTree) (claim : Claim) (cap : Option ℤ) → IsValidFor plant bytes head proof claim → IsEstimate plant head proof cap → IsProofCap plant head proof cap
own_cap plant bytes head proof claim cap valid estimate =
    elim estimate.is [
      | inl loose ↦ loosely loose
      | inr plain ↦ absurd (plain.untaken (subst (λ (p : Program). AreTaken plant p (plant_root plant) head) same valid.taken))
    ]
  where
    same : valid.checked.program ≡ estimate.program
    same = same_made plant valid.checked.program estimate.program valid.checked.of_plant.made estimate.made

    loosely : IsLooseWith plant estimate.program (plant_root plant) head proof cap → IsProofCap plant head proof cap
    loosely loose =
        let log = valid.sound_log in
        let version = version_of head in
        let over = subst (λ (p : Program). IsWithHead plant version p (plant_root plant) head.sums head.units head.derivations log.rows) same log.enlarged in
        let own = shown-head plant estimate.program log.rows loose.rows (plant_root plant) head over loose.enlarged in
        let proved = proved_alike log.rows loose.rows (tree_items proof) log.sound_log.proof_cap (alike plant version estimate.program (plant_root plant) head.sums head.units head.derivations log.rows loose.rows over own) log.sound_log.proved in
        let is_defined = defined loose.rows proof log.sound_log.proof_cap proved in
        record {
          program = estimate.program;
          made = estimate.made;
          rows = loose.rows;
          enlarged = own;
          defined = is_defined;
          is = loose.own is_defined;
        }
