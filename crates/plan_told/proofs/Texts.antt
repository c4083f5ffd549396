-- A proof of an outcome, and the text of its log.
use Rattle.std.proofs.Common.{◌≡◌, Bool, true, false, refl, sym, ap, subst, List, [], ℕ, Option, IfSome}
use Rattle.stn_model.specs.declared.plant.Plant.{Plant}
use Rattle.stn_model.specs.declared.answer.Outcome.{Outcome}
use Rattle.row_kit.specs.declared.domain.Domain.{Domain}
use Rattle.row_kit.specs.declared.program.Program.{Program}
use Rattle.proof_tree.specs.Items.{tree_items}
use Rattle.row_relax.specs.Choices.{plain}
use Rattle.row_relax.specs.RowProofs.{RowTree}
use Rattle.proof_log.specs.declared.claim.Claim.{Claim}
use Rattle.proof_log.specs.Log.{log_text}
use Rattle.sum_slots.specs.declared.sum.Sum.{Sum}
use Rattle.sum_choice.specs.Headed.{is_headed}
use Rattle.derivations.specs.declared.derivation.Derivation.{Derivation}
use Rattle.valid_log.specs.SumTexts.{larger_claim}
use Rattle.valid_log.proofs.Holding.{larger-none}
use Rattle.plan_told.specs.Proofs.{HasProof, IsHeadedProofOf, IsLogText, IsProofOf, IsProofOver, headed_proof_text, proof_text}

-- the text of a log of version 2 is one over the part's own program
pub plain-is : (plant : Plant) (part : Program) (judged : List Domain) (tree : RowTree) (claim : Claim) → IsLogText false plant part judged [] [] [] (plain part) tree (larger_claim [] claim) (log_text 2 (tree_items tree) claim)
plain-is plant part judged tree claim = (refl, refl, refl, refl, ap (log_text 2 (tree_items tree)) (sym (larger-none claim)))

-- a proof over the part's own program, whose text is told, where the part's log has no head
pub plain-has : (plant : Plant) (part : Program) (judged : List Domain) (levels : ℕ) (log : Option (List ℕ)) (outcome : Outcome) (tree : RowTree) → is_headed part levels ≡ false → IsProofOf plant part outcome tree
    → IfSome log (λ bytes. bytes ≡ proof_text plant outcome.answer tree) → HasProof plant part judged levels log outcome
plain-has plant part judged levels log outcome tree none proof told =
    let text = proof_text plant outcome.answer tree in
    let over = subst (λ (headed : Bool). IsProofOver headed plant part judged [] [] [] (plain part) outcome tree text) (sym none) (proof judged) in
    record { sums = []; units = []; derivations = []; rows = plain part; tree = tree; text = text; proof = over; told = told }

-- the same over the rows with what a head declares, where it has one
pub headed-has : (plant : Plant) (part : Program) (judged : List Domain) (levels : ℕ) (sums : List Sum) (units : List ℕ) (derivations : List Derivation) (log : Option (List ℕ)) (outcome : Outcome) (tree : RowTree) → is_headed part levels ≡ true
    → IsHeadedProofOf plant part judged sums units derivations outcome tree → IfSome log (λ bytes. bytes ≡ headed_proof_text plant outcome.answer sums units derivations tree) → HasProof plant part judged levels log outcome
headed-has plant part judged levels sums units derivations log outcome tree has proof told =
    let text = headed_proof_text plant outcome.answer sums units derivations tree in
    let over = subst (λ (headed : Bool). IsProofOver headed plant part judged sums units derivations proof.0 outcome tree text) (sym has) proof.1 in
    record { sums = sums; units = units; derivations = derivations; rows = proof.0; tree = tree; text = text; proof = over; told = told }
