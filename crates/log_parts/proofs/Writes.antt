-- What a writer of a log has after more items.
use Rattle.std.proofs.Common.{◌≡◌, ◌≢◌, inl, inr, refl, ℕ, List, [], ◌∷◌, ◌++◌, flat_map, append_assoc, append-nil, Option, None, Some, IfSome, sym, ap, ◌∙◌, subst}
use Rattle.std.specs.Option.{option_map}
use Rattle.std.proofs.lemmas.Grind.{flat_map-append}
use Rattle.std.specs.FinMap.{get}
use Rattle.stn_edge.specs.Files.{FileMap, file_of, cleared, MayClear, OthersStay}
use Rattle.stn_edge.proofs.FileLemmas.{get-cleared_other}
use Rattle.row_relax.specs.RowProofs.{RowItem}
use Rattle.log_lines.specs.declared.line.Line.TheVariants.{Header, End}
use Rattle.log_lines.specs.Line.{line_text}
use Rattle.std.proofs.lemmas.Bool.{cond-true, cond-false, eq-eqb, ne_eqb}
use Rattle.sum_lines.specs.Head.{head_text}
use Rattle.setup_lines.specs.Line.{setups_text}
use Rattle.derivation_lines.specs.Tail.{tail_text}
use Rattle.log_parts.specs.declared.heads.Declared.{Declared}
use Rattle.log_parts.specs.Heads.{front_text}
use Rattle.proof_log.specs.declared.claim.Claim.{Claim}
use Rattle.proof_log.specs.Log.{item_lines, claim_lines, lines_text}
use Rattle.proof_log.specs.Writer.{Writing, IsWhole, Took, Broke, whole}
use Rattle.proof_log.proofs.Lines.{lines_text-append, lines_text-one}
use Rattle.proof_log.proofs.Writing.{IsWhole-took}
use Rattle.log_parts.specs.laws.Copying.{begun_text, whole_text, IsBegun, IsFinishedInPart}

-- the text of items is followed by that of more
pub text_more : (front : List ℕ) (items added : List RowItem) → begun_text front items ++ lines_text (flat_map item_lines added) ≡ begun_text front (items ++ added)
text_more front items added =
    append_assoc front (lines_text (flat_map item_lines items)) (lines_text (flat_map item_lines added))
    ∙ ap (λ (text : List ℕ). front ++ text)
    (sym (lines_text-append (flat_map item_lines items) (flat_map item_lines added)) ∙ ap lines_text (sym (flat_map-append item_lines items added)))

-- the text of items is followed by that of a claim and the end
pub text_ended : (front : List ℕ) (items : List RowItem) (claim : Claim) → begun_text front items ++ lines_text (claim_lines claim ++ End ∷ []) ≡ whole_text front items claim
text_ended front items claim =
    append_assoc front (lines_text (flat_map item_lines items)) (lines_text (claim_lines claim ++ End ∷ []))
    ∙ ap (λ (text : List ℕ). front ++ text) (sym (lines_text-append (flat_map item_lines items) (claim_lines claim ++ End ∷ [])))

-- a front that is held back is that of a log with no items yet
pub has_front : (at : Writing) (front : List ℕ) → IsWhole at front → IsWhole at (begun_text front [])
unfolding lines_text
has_front at front is = subst (IsWhole at) (sym (append-nil front)) is

-- a writer that took more items has them too
pub has_more : (front : List ℕ) (before after : Writing) (items added : List RowItem) → IsWhole before (begun_text front items) → Took before after (lines_text (flat_map item_lines added)) → IsWhole after (begun_text front (items ++ added))
has_more front before after items added is took =
    subst (IsWhole after) (text_more front items added) (IsWhole-took before after (begun_text front items) (lines_text (flat_map item_lines added)) is took)

-- a file whose text and a rest are what was there and more
pub begun_at : (name : List ℕ) (files : Option FileMap) (rest text first all_text : List ℕ) (old : Option (List ℕ)) → option_map (λ (m : FileMap). file_of m name ++ rest) files ≡ option_map (λ (all : List ℕ). all ++ text) old
    → IfSome old (λ all. all ≡ first) → first ++ text ≡ all_text → IfSome files (λ m. (later : List ℕ) × (file_of m name ++ later ≡ all_text))
begun_at name None rest text first all_text old same is more = tt
begun_at name (Some m) rest text first all_text None same is more = absurd cc
begun_at name (Some m) rest text first all_text (Some all) same is more =
    let here : file_of m name ++ rest ≡ all ++ text = cc in
    (rest, here ∙ ap (λ (a : List ℕ). a ++ text) is ∙ more)

-- where more items were not taken, or in part, the file is a first part of them
pub begun_more : (front : List ℕ) (before after : Writing) (items added : List RowItem) → IsWhole before (begun_text front items) → Broke before after (lines_text (flat_map item_lines added)) → IsBegun front before.name after.files (items ++ added)
begun_more front before after items added is broke =
    subst (λ (name : List ℕ). IsBegun front name after.files (items ++ added)) broke.keeps.name
    (begun_at after.name after.files broke.part.0 (lines_text (flat_map item_lines added)) (begun_text front items) (begun_text front (items ++ added)) (whole before) broke.part.1 is (text_more front items added))

-- where the claim was not written, or in part, the file is a first part of the log
pub finish_broken : (front : List ℕ) (before after : Writing) (items : List RowItem) (claim : Claim) → IsWhole before (begun_text front items) → Broke before after (lines_text (claim_lines claim ++ End ∷ [])) → IsFinishedInPart front before.name items claim after.files
finish_broken front before after items claim is broke =
    subst (λ (name : List ℕ). IsFinishedInPart front name items claim after.files) broke.keeps.name
    (begun_at after.name after.files broke.part.0 (lines_text (claim_lines claim ++ End ∷ [])) (begun_text front items) (whole_text front items claim) (whole before) broke.part.1 is (text_ended front items claim))

-- the first line is the front of a log of version 2
pub front_two : (version : ℕ) (declared : Declared) (old new : List ℕ) → version ≡ 2 → new ≡ old ++ (line_text (Header 2) ++ 10 ∷ []) → new ≡ old ++ front_text version declared
front_two version declared old new two is = is ∙ ap (λ (text : List ℕ). old ++ text) (sym (lines_text-one (Header 2)) ∙ sym (cond-true _ _ _ (eq-eqb version 2 two)))

-- and a head that of a later one
pub front_other : (version : ℕ) (declared : Declared) (old mid mid2 new : List ℕ) → version ≢ 2 → mid ≡ old ++ head_text version declared.sums → mid2 ≡ mid ++ setups_text declared.units → new ≡ mid2 ++ tail_text declared.derivations
    → new ≡ old ++ front_text version declared
front_other version declared old mid mid2 new other head setups tail =
    let first = head_text version declared.sums in
    let second = setups_text declared.units in
    let third = tail_text declared.derivations in
    tail ∙ ap (λ (text : List ℕ). text ++ third) (setups ∙ ap (λ (text : List ℕ). text ++ second) head) ∙ append_assoc (old ++ first) second third ∙ append_assoc old first (second ++ third)
    ∙ ap (λ (text : List ℕ). old ++ text) (sym (cond-false _ _ _ (ne_eqb version 2 other)))
