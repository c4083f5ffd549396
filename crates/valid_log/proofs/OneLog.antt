-- Bytes are the text of one log alone, of any version.
use Rattle.std.proofs.Common.{◌≡◌, ℕ, List, length, sym, ap, ◌∙◌, subst}
use Rattle.stn_model.specs.declared.plant.Plant.{Plant}
use Rattle.row_kit.specs.declared.domain.Domain.{Domain}
use Rattle.row_kit.specs.declared.program.Program.{Program}
use Rattle.row_relax.specs.Choices.{plain}
use Rattle.row_relax.specs.RowProofs.{RowTree}
use Rattle.sum_slots.specs.declared.sum.Sum.{Sum}
use Rattle.derivations.specs.declared.derivation.Derivation.{Derivation}
use Rattle.proof_log.specs.declared.claim.Claim.{Claim}
use Rattle.proof_log.specs.Behind.{behind}
use Rattle.sum_lines.specs.declared.head.Front.{Front}
use Rattle.sum_lines.specs.declared.head.Front.TheVariants.{Plain, Headed, Bad}
use Rattle.sum_lines.specs.declared.head.Head.{Head}
use Rattle.sum_lines.specs.Front.{IsFront}
use Rattle.sum_lines.specs.Head.{IsKeptHead}
use Rattle.derivation_lines.specs.declared.tail.Tail.{Tail}
use Rattle.derivation_lines.specs.declared.tail.TailFront.TheVariants.{Whole}
use Rattle.setup_lines.specs.declared.setups.SetupFront.TheVariants as setting
use Rattle.setup_lines.specs.declared.setups.Setups.{Setups}
use Rattle.valid_log.specs.Heads.{IsTail, IsWithHead, judged_over, limits_with, setup_sizes}
use Rattle.valid_log.specs.AnyVersion.{IsLogBehind, IsLogWith, IsOneLog, given_claim}
use Rattle.valid_log.specs.Law.{AnyLogsHaveOneText}
use Rattle.valid_log.specs.Verdict.{IsLog}
use Rattle.valid_log.proofs.Alike.{alike, log_alike}
use Rattle.valid_log.proofs.AnyVersions.{setups_same, small_behind, small_of, small_with, tail_same}
use Rattle.valid_log.proofs.Excluded.{same_text}
use Rattle.valid_log.proofs.Fronts.{head_first, heads_same}

-- derivations that are one stand in one place
whole_same : (s t : Tail) → Whole s ≡ Whole t → s ≡ t
whole_same s t same = cc

-- so do setups
setups_one : (s t : Setups) → setting.Whole s ≡ setting.Whole t → s ≡ t
setups_one s t same = cc

module _ (plant : Plant) (program : Program) (ranges root : List Domain) (bytes : List ℕ) (sums other_sums : List Sum) (units other_units : List ℕ) (derivations other_derivations : List Derivation) (tree other_tree : RowTree) (claim other_claim : Claim) where
  -- logs behind one head are one
  one_behind : (head : Head) → IsKeptHead (limits_with program 0 0) head → IsLogBehind plant program (judged_over ranges root head.version) bytes head sums units derivations tree claim
      → IsLogBehind plant program (judged_over ranges root head.version) bytes head other_sums other_units other_derivations other_tree other_claim
      → IsOneLog sums other_sums units other_units derivations other_derivations tree other_tree claim other_claim
  one_behind head kept log other =
      let judged = judged_over ranges root head.version in
      let limits = limits_with program 0 (length head.sums) in
      let sizes = setup_sizes plant in
      let same_setups : other.setups ≡ log.setups = setups_one other.setups log.setups (setups_same limits sizes head bytes log.setups (setting.Whole other.setups) log.set_up other.set_up) in
      let small = small_behind limits sizes bytes head log.setups (small_with program 0 head kept) log.set_up in
      let same_tail : other.tail ≡ log.tail =
      whole_same other.tail log.tail
      (tail_same log.setups.limits log.setups.head bytes log.tail (Whole other.tail) small log.follows (subst (λ (s : Setups). IsTail s.limits s.head bytes (Whole other.tail)) same_setups other.follows)) in
      let declared : sums ≡ other_sums = log.declares ∙ sym other.declares in
      let set_up : units ≡ other_units = log.sets_up ∙ ap (λ (s : Setups). s.units) (sym same_setups) ∙ sym other.sets_up in
      let derived : derivations ≡ other_derivations = log.derives ∙ ap (λ (t : Tail). t.derivations) (sym same_tail) ∙ sym other.derives in
      let enlarged =
      subst (λ (s : List Sum). IsWithHead plant head.version program judged s units derivations other.rows) (sym declared)
      (subst (λ (us : List ℕ). IsWithHead plant head.version program judged other_sums us derivations other.rows) (sym set_up)
      (subst (λ (d : List Derivation). IsWithHead plant head.version program judged other_sums other_units d other.rows) (sym derived) other.enlarged)) in
      let text = subst (λ (t : Tail). IsLog other.rows (behind head.version t.bytes bytes) other_tree other.own) same_tail other.is_log in
      let second =
      log_alike other.rows log.rows (behind head.version log.tail.bytes bytes) other_tree other.own (alike plant head.version program judged sums units derivations other.rows log.rows enlarged log.enlarged) text in
      let same = same_text log.rows (behind head.version log.tail.bytes bytes) tree other_tree log.own other.own log.is_log second in
      record {
        sums_same = declared;
        units_same = set_up;
        derivations_same = derived;
        tree_same = same.tree_same;
        claim_same = log.claim_is ∙ ap (given_claim (length program.root)) same.claim_same ∙ sym other.claim_is;
      }

  -- logs with fronts are one
  one_with : (f g : Front) → IsFront (limits_with program 0 0) bytes f → IsFront (limits_with program 0 0) bytes g → IsLogWith plant program ranges root bytes f sums units derivations tree claim
      → IsLogWith plant program ranges root bytes g other_sums other_units other_derivations other_tree other_claim → IsOneLog sums other_sums units other_units derivations other_derivations tree other_tree claim other_claim
  one_with Plain Plain stands other log second =
      let same = same_text (plain program) bytes tree other_tree claim other_claim log.3 second.3 in
      record { sums_same = log.0 ∙ sym second.0; units_same = log.1 ∙ sym second.1; derivations_same = log.2 ∙ sym second.2; tree_same = same.tree_same; claim_same = same.claim_same }
  one_with Plain (Headed head) stands other log second = absurd (head_first (limits_with program 0 0) bytes head other stands)
  one_with Plain (Bad defect) stands other log second = absurd second
  one_with (Headed head) Plain stands other log second = absurd (head_first (limits_with program 0 0) bytes head stands other)
  one_with (Headed head) (Headed next) stands other log second =
      let same = heads_same (limits_with program 0 0) bytes next head (small_of program 0) other stands in
      one_behind head stands.kept log (subst (λ (h : Head). IsLogBehind plant program (judged_over ranges root h.version) bytes h other_sums other_units other_derivations other_tree other_claim) same second)
  one_with (Headed head) (Bad defect) stands other log second = absurd second
  one_with (Bad defect) g stands other log second = absurd log

-- the text of a log of any version is that of no other
pub one_log : AnyLogsHaveOneText
one_log plant program ranges root bytes sums other_sums units other_units derivations other_derivations tree other_tree claim other_claim log other =
    one_with plant program ranges root bytes sums other_sums units other_units derivations other_derivations tree other_tree claim other_claim log.front other.front log.stands other.stands log.is_log other.is_log
