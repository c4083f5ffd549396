-- A log without a meaning defect has none.
use Rattle.std.proofs.Common.{◌≡◌, ℕ, List, [], ◌∷◌, ◌++◌, length, Option, Some, None, refl, ap, sym, ◌∙◌, subst, append-nil, ⊎_elim}
use Rattle.std.specs.Prelude.{◌↔◌}
use Rattle.row_kit.specs.declared.program.Program.{Program}
use Rattle.proof_tree.specs.declared.capped.Capped.{Capped}
use Rattle.proof_tree.specs.Items.{tree_items}
use Rattle.proof_tree.specs.Walk.{Outcome, ended, after, walked, start}
use Rattle.row_relax.specs.declared.pick.RowPick.{RowPick}
use Rattle.row_relax.specs.declared.rows.Rows.{Rows}
use Rattle.row_relax.specs.Choices.{choices_of, steps_of}
use Rattle.row_relax.specs.View.{view_of}
use Rattle.log_lines.specs.TextDefect.{log_text_defect}
use Rattle.proof_log.specs.declared.claim.Claim.{Claim}
use Rattle.log_lines.specs.declared.defect.Defect.{Defect}
use Rattle.row_relax.specs.RowProofs.{RowItem, RowTree}
use Rattle.proof_log.specs.Log.{log_text}
use Rattle.proof_log.specs.OneText.{SameLog}
use Rattle.proof_log.proofs.OneText.{logs_same}
use Rattle.valid_log.specs.declared.verdict.LogVerdict.{LogVerdict}
use Rattle.valid_log.specs.declared.verdict.LogVerdict.TheVariants.{Yes, No}
use Rattle.valid_log.specs.Meaning.{RowSteps, HasDefect, HaveNone, IsItemDefect, IsClaimDefect, IsMeaningDefect, ClaimDefect}
use Rattle.valid_log.specs.Verdict.{IsLog, IsSoundLog, IsValid, IsMeaningVerdict, IsVerdictGiven, IsVerdict, IsValidLog, limits_of}

-- where no item has a defect, none among them has
none_has : (s : RowSteps) (program : Program) (outcome : Outcome RowPick) (before : List RowItem) (item : RowItem) (later : List RowItem) (kind : ℕ) → HaveNone s program outcome (before ++ item ∷ later) → HasDefect s program (walked s outcome before) item kind → ⊥
none_has s program outcome [] item later kind none has = none.0 kind has
none_has s program outcome (x ∷ before) item later kind none has = none_has s program (after s outcome x) before item later kind none.1 has

-- a walk ends with one cap
one_cap : (outcome : Outcome RowPick) (a b : Capped) → outcome ≡ ended a → outcome ≡ ended b → a ≡ b
one_cap outcome a b first second = cc

-- a proof and a claim without a meaning defect have none
excluded : (rows : Rows) (tree : RowTree) (claim : Claim) (defect : Defect) → IsSoundLog rows tree claim → IsMeaningDefect (steps_of rows) (choices_of rows) (view_of rows.program.root) (tree_items tree) claim defect → ⊥
excluded rows tree claim defect sound meaning =
    ⊎_elim
    (λ (item : IsItemDefect (steps_of rows) (choices_of rows) (view_of rows.program.root) (tree_items tree) defect).
    none_has (steps_of rows) (choices_of rows) (start (view_of rows.program.root)) item.before item.item item.later defect.kind
    (subst (HaveNone (steps_of rows) (choices_of rows) (start (view_of rows.program.root))) item.listed sound.proved.sound) item.has)
    (λ (is : IsClaimDefect (steps_of rows) (choices_of rows) (view_of rows.program.root) (tree_items tree) claim defect).
    let same = one_cap (walked (steps_of rows) (start (view_of rows.program.root)) (tree_items tree)) is.proof_cap sound.proof_cap is.proved.led sound.proved.led in
    sound.sound defect.kind (subst (λ (c : Capped). ClaimDefect (choices_of rows) c claim defect.kind) same is.has))
    meaning

-- two logs with one text are the same
pub same_text : (rows : Rows) (bytes : List ℕ) (tree other_tree : RowTree) (claim other : Claim) (is_log : IsLog rows bytes tree claim) (other_log : IsLog rows bytes other_tree other) → SameLog is_log.version other_log.version tree other_tree claim other []
same_text rows bytes tree other_tree claim other is_log other_log =
    logs_same (length (choices_of rows).root) is_log.version other_log.version tree other_tree claim other [] is_log.over other_log.over
    (sym is_log.text ∙ other_log.text ∙ sym (append-nil (log_text other_log.version (tree_items other_tree) other)))

-- the answer for a valid log without a text defect is yes with its claim
valid_yes : (rows : Rows) (bytes : List ℕ) (verdict : LogVerdict) (claim : Claim) → IsValid rows bytes claim → IsMeaningVerdict rows bytes verdict → verdict ≡ Yes claim
valid_yes rows bytes (Yes own) claim valid is = ap Yes (sym (same_text rows bytes valid.tree is.tree claim own valid.is_log is.is_log).claim_same)
valid_yes rows bytes (No defect) claim valid is =
    let same = same_text rows bytes valid.tree is.tree claim is.claim valid.is_log is.is_log in
    let meaning = subst (λ c. IsMeaningDefect (steps_of rows) (choices_of rows) (view_of rows.program.root) (tree_items is.tree) c defect) (sym same.claim_same) is.meaning in
    absurd (excluded rows valid.tree claim defect valid.sound_log (subst (λ t. IsMeaningDefect (steps_of rows) (choices_of rows) (view_of rows.program.root) (tree_items t) claim defect) (sym same.tree_same) meaning))

-- a yes is that on a valid log
yes_valid : (rows : Rows) (depth : ℕ) (bytes : List ℕ) (claim : Claim) (found : Option (ℕ × ℕ)) → log_text_defect (limits_of rows depth) bytes ≡ found → IsVerdictGiven rows bytes found (Yes claim) → IsValidLog rows depth bytes claim
yes_valid rows depth bytes claim None is judged = record { clean = is; valid = judged }
yes_valid rows depth bytes claim (Some at) is judged = absurd judged

-- a right answer is yes with a claim exactly where the bytes are a valid log of it
pub exact : (rows : Rows) (depth : ℕ) (bytes : List ℕ) (verdict : LogVerdict) (claim : Claim) → IsVerdict rows depth bytes verdict → (verdict ≡ Yes claim) ↔ IsValidLog rows depth bytes claim
exact rows depth bytes verdict claim right = (
  λ is. yes_valid rows depth bytes claim (log_text_defect (limits_of rows depth) bytes) refl (subst (IsVerdict rows depth bytes) is right),
  λ is. valid_yes rows bytes verdict claim is.valid (subst (λ o. IsVerdictGiven rows bytes o verdict) is.clean right),
)
