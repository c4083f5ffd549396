-- Texts of lines, one after another.
use Rattle.std.proofs.Common.{◌≡◌, ℕ, ◌+◌, ◌<◌, List, [], ◌∷◌, ◌++◌, length, take, refl, sym, ap, ◌∙◌, append_assoc, append-nil, add-zero, arith, get_or, flat_map, Result, Ok, Err, OnOk, if◌then◌else◌}
use Rattle.std.specs.Result.{is_ok}
use Rattle.std.proofs.lemmas.Grind.{common_steps, flat_map-append}
use Rattle.std.proofs.lemmas.List.{take_more}
use Rattle.log_lines.specs.declared.line.Line.{Line}
use Rattle.log_lines.specs.declared.line.Line.TheVariants.{Header, End}
use Rattle.log_lines.specs.Line.{line_text}
use Rattle.proof_log.specs.declared.claim.Claim.{Claim}
use Rattle.row_relax.specs.RowProofs.{RowItem}
use Rattle.proof_log.specs.Log.{item_lines, claim_lines, lines_text, log_lines, log_text, value_line, value_lines}

-- the text of some lines and then of others
pub lines_text-append : (a b : List Line) → lines_text (a ++ b) ≡ lines_text a ++ lines_text b
unfolding lines_text
lines_text-append a b = flat_map-append _ a b

-- the text of a line and then of others
pub lines_text-cons : (line : Line) (lines : List Line) → lines_text (line ∷ lines) ≡ (line_text line ++ 10 ∷ []) ++ lines_text lines
unfolding lines_text
lines_text-cons line lines = refl

-- the text of one line
pub lines_text-one : (line : Line) → lines_text (line ∷ []) ≡ line_text line ++ 10 ∷ []
unfolding lines_text
lines_text-one line = append-nil _

pub lines_text-none : lines_text [] ≡ []
unfolding lines_text
lines_text-none = refl

-- the lines of the values of two parts of a point
pub value_lines-append : (slot : ℕ) (a b : List ℕ) → value_lines slot (a ++ b) ≡ value_lines slot a ++ value_lines (slot + length a) b
value_lines-append slot [] b = ap (λ (n : ℕ). value_lines n b) (sym (add-zero slot))
value_lines-append slot (value ∷ a) b =
    let further : value_lines (slot + 1 + length a) b ≡ value_lines (slot + length (value ∷ a)) b = ap (λ (n : ℕ). value_lines n b) (omega arith) in
    ap (λ (lines : List Line). value_line slot value ++ lines) (value_lines-append (slot + 1) a b ∙ ap (λ (lines : List Line). value_lines (slot + 1) a ++ lines) further)
    ∙ sym (append_assoc (value_line slot value) (value_lines (slot + 1) a) (value_lines (slot + length (value ∷ a)) b))

-- the lines of the values of a point up to a place, and of the one there
pub value_lines_more : (point : List ℕ) (place : ℕ) → place < length point → value_lines 0 (take (place + 1) point) ≡ value_lines 0 (take place point) ++ value_line place (get_or point place 0)
value_lines_more point place below =
    let value = get_or point place 0 in
    let long : 0 + length (take place point) ≡ place = grind (arith, common_steps) in
    ap (value_lines 0) (take_more point place 0 below)
    ∙ value_lines-append 0 (take place point) (value ∷ [])
    ∙ ap (λ (n : ℕ). value_lines 0 (take place point) ++ value_lines n (value ∷ [])) long
    ∙ ap (λ (lines : List Line). value_lines 0 (take place point) ++ lines) (append-nil (value_line place value))

-- the texts of two further lists of lines are one text
pub text_more : (text a b : List ℕ) (xs ys : List Line) → a ≡ text ++ lines_text xs → b ≡ a ++ lines_text ys → b ≡ text ++ lines_text (xs ++ ys)
text_more text a b xs ys first second =
    second ∙ ap (λ (t : List ℕ). t ++ lines_text ys) first ∙ append_assoc text (lines_text xs) (lines_text ys)
    ∙ ap (λ (t : List ℕ). text ++ t) (sym (lines_text-append xs ys))

-- the lines of a proof, and then those of a claim and the end, are the text of a log
pub log_text-parts : (version : ℕ) (items : List RowItem) (claim : Claim) → lines_text (Header version ∷ flat_map item_lines items) ++ lines_text (claim_lines claim ++ End ∷ []) ≡ log_text version items claim
unfolding log_lines log_text
log_text-parts version items claim = sym (lines_text-append (Header version ∷ flat_map item_lines items) (claim_lines claim ++ End ∷ []))

-- the same, where they stand behind other bytes
pub log_text-behind : (before old new : List ℕ) (items : List RowItem) (claim : Claim) → old ≡ before ++ lines_text (Header 2 ∷ flat_map item_lines items) → new ≡ old ++ lines_text (claim_lines claim ++ End ∷ []) → new ≡ before ++ log_text 2 items claim
log_text-behind before old new items claim first second =
    let text = lines_text (claim_lines claim ++ End ∷ []) in
    second ∙ ap (λ (bytes : List ℕ). bytes ++ text) first ∙ append_assoc before (lines_text (Header 2 ∷ flat_map item_lines items)) text ∙ ap (λ (bytes : List ℕ). before ++ bytes) (log_text-parts 2 items claim)

-- where they were put behind the lines of a proof
pub log_text-extended : {T E : Type 0} (r : Result T E) (old new slice : List ℕ) (claim : Claim) → new ≡ (if is_ok r then old ++ slice else old) → slice ≡ lines_text (claim_lines claim ++ End ∷ [])
    → OnOk r ((before : List ℕ) (items : List RowItem) → old ≡ before ++ lines_text (Header 2 ∷ flat_map item_lines items) → new ≡ before ++ log_text 2 items claim)
log_text-extended (Ok x) old new slice claim is text = λ before items first. log_text-behind before old new items claim first (is ∙ ap (λ (bytes : List ℕ). old ++ bytes) text)
log_text-extended (Err e) old new slice claim is text = tt
