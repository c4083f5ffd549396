-- The answer on a log that has come to its end.
use Rattle.std.proofs.Common.{◌≡◌, ◌≢◌, inl, inr, ℕ, List, Option, Some, None, IfSome, refl, ap, sym, ◌∙◌, subst}
use Rattle.row_kit.specs.declared.area.Area.{Area}
use Rattle.row_kit.specs.declared.found.Found.{Found}
use Rattle.proof_tree.specs.declared.capped.Capped.{Capped}
use Rattle.proof_tree.specs.declared.capped.Capped.TheVariants.{Bad}
use Rattle.proof_tree.specs.Views.{View}
use Rattle.proof_tree.specs.Form.{AreWhole}
use Rattle.proof_tree.specs.Items.{tree_items}
use Rattle.proof_tree.specs.Tree.{tree_cap}
use Rattle.proof_tree.specs.Walk.{Outcome, ended, undefined, outcome_of, walked, start, stage_of}
use Rattle.proof_tree.proofs.Forms.{whole_tree, whole-not_going}
use Rattle.proof_tree.proofs.WalkLaw.{walked-whole}
use Rattle.proof_tree.proofs.WalkTree.{walked-is_tree}
use Rattle.row_relax.specs.declared.pick.RowPick.{RowPick}
use Rattle.row_relax.specs.declared.rows.Rows.{Rows}
use Rattle.row_relax.specs.Choices.{choices_of, steps_of}
use Rattle.row_relax.specs.View.{view_of}
use Rattle.stn_edge.specs.Files.{FileMap, file_of}
use Rattle.proof_log.specs.Behind.{behind}
use Rattle.log_lines.specs.TextDefect.{log_text_defect}
use Rattle.proof_log.specs.declared.claim.Claim.{Claim}
use Rattle.log_lines.specs.declared.defect.Defect.{Defect}
use Rattle.row_relax.specs.RowProofs.{RowItem, RowTree}
use Rattle.proof_log.specs.Log.{line_after}
use Rattle.proof_log.specs.LogReading.{IsClean}
use Rattle.log_check.specs.declared.course.Course.{Course}
use Rattle.log_check.specs.declared.course.Course.TheVariants.{Going, Ended, Faulty}
use Rattle.valid_log.specs.declared.verdict.LogVerdict.{LogVerdict}
use Rattle.valid_log.specs.declared.verdict.LogVerdict.TheVariants.{Yes, No}
use Rattle.valid_log.proofs.FoundSound.{claim_sound}
use Rattle.log_check.specs.Course.{RowWalk, StandsAt, IsEndVerdict}
use Rattle.valid_log.specs.Meaning.{RowSteps, ClaimDefect, IsSoundClaim, IsProved}
use Rattle.valid_log.specs.Verdict.{IsBorneOut, IsLog, IsMeaningVerdict, IsVerdictGiven, IsVerdict, YesHolds, limits_of}

-- a text without a defect is that of a log over the rows's slots
log_of : (rows : Rows) (depth : ℕ) (bytes : List ℕ) (version : ℕ) (tree : RowTree) (claim : Claim) → IsClean (limits_of rows depth) bytes version (tree_items tree) claim → IsLog rows bytes tree claim
log_of rows depth bytes version tree claim clean = record {
  version = version;
  text = clean.text;
  over = record { items = clean.over; claim_over = clean.claim_over; lines = clean.lines };
}

-- a walk does not end without a cap
ended_real : (s : RowSteps) (v : View) (items : List RowItem) (proof_cap : Capped) → walked s (start v) items ≡ ended proof_cap → proof_cap ≢ Bad
ended_real s v items proof_cap led is =
    let whole = walked-is_tree Rows Area Found s v items proof_cap led in
    let to : walked {R = Rows} {A = Area} s (start v) (tree_items whole.0) ≡ outcome_of (tree_cap s v whole.0) = walked-whole Rows Area Found s whole.0 v in
    let same : ◌≡◌ {A = Outcome RowPick} (ended proof_cap) (outcome_of (tree_cap s v whole.0)) = sym led ∙ (ap (walked s (start v)) whole.1 ∙ to) in
    let none : ◌≡◌ {A = Outcome RowPick} (outcome_of (tree_cap s v whole.0)) undefined = ap outcome_of (whole.2 ∙ is) in
    let clash : ◌≡◌ {A = Outcome RowPick} (ended proof_cap) undefined = same ∙ none in
    cc

-- a sound claim of a proof is borne out
proved_out : (rows : Rows) (items : List RowItem) (proof_cap : Capped) (claim : Claim) → IsProved (steps_of rows) (choices_of rows) (view_of rows.program.root) items proof_cap → IsSoundClaim (choices_of rows) proof_cap claim → IsBorneOut rows claim
proved_out rows items proof_cap claim proved sound =
    let s = steps_of rows in
    let v = view_of rows.program.root in
    let whole = walked-is_tree Rows Area Found s v items proof_cap proved.led in
    record {
      tree = whole.0;
      defined = λ bad. ended_real s v items proof_cap proved.led (sym whole.2 ∙ bad);
      borne = subst (λ (c : Capped). IsSoundClaim (choices_of rows) c claim) (sym whole.2) sound;
    }

-- the answer on a log that has come to its end is right of its text, which has no text defect
meant_of : (rows : Rows) (depth : ℕ) (bytes : List ℕ) (version : ℕ) (tree : RowTree) (claim : Claim) (course : Course) (walk : RowWalk) (views : List View) (began : ℕ) (verdict : LogVerdict)
    → IsClean (limits_of rows depth) bytes version (tree_items tree) claim
    → StandsAt (steps_of rows) (choices_of rows) (view_of rows.program.root) (tree_items tree) course walk views → began ≡ line_after (tree_items tree)
    → IsEndVerdict (choices_of rows) course began claim verdict → IsMeaningVerdict rows bytes verdict
meant_of rows depth bytes version tree claim Going walk views began verdict clean stand at answer = absurd answer
meant_of rows depth bytes version tree claim (Faulty defect) walk views began verdict clean stand at answer =
    subst (IsMeaningVerdict rows bytes) (sym answer) (record { tree = tree; claim = claim; is_log = log_of rows depth bytes version tree claim clean; meaning = inl stand })
meant_of rows depth bytes version tree claim (Ended proof_cap) walk views began (Yes own) clean stand at answer = record {
  tree = tree;
  is_log = subst (IsLog rows bytes tree) (sym answer.0) (log_of rows depth bytes version tree claim clean);
  sound_log = record { proof_cap = proof_cap; proved = stand; sound = subst (λ c. (kind : ℕ) → ¬ ClaimDefect (choices_of rows) proof_cap c kind) (sym answer.0) (claim_sound (choices_of rows) proof_cap claim answer.1) };
}
meant_of rows depth bytes version tree claim (Ended proof_cap) walk views began (No defect) clean stand at answer = record {
  tree = tree;
  claim = claim;
  is_log = log_of rows depth bytes version tree claim clean;
  meaning = inr (record { proof_cap = proof_cap; proved = stand; line = answer.0 ∙ at; has = answer.1 });
}

-- the answer on whole items and their claim is the verdict on the log behind a head of the file
pub end_verdict : (told : Option FileMap) (name : List ℕ) (version head : ℕ) (rows : Rows) (depth own : ℕ) (items : List RowItem) (claim : Claim) (course : Course) (walk : RowWalk) (views : List View) (began : ℕ) (verdict : LogVerdict)
    → AreWhole items → IfSome told (λ m. IsClean (limits_of rows depth) (behind version head (file_of m name)) own items claim)
    → StandsAt (steps_of rows) (choices_of rows) (view_of rows.program.root) items course walk views → began ≡ line_after items
    → IsEndVerdict (choices_of rows) course began claim verdict → IfSome told (λ m. IsVerdict rows depth (behind version head (file_of m name)) verdict)
end_verdict None name version head rows depth own items claim course walk views began verdict whole clean stand at answer = tt
end_verdict (Some m) name version head rows depth own items claim course walk views began verdict whole clean stand at answer =
    let tree = whole_tree items whole in
    let bytes = behind version head (file_of m name) in
    subst (λ o. IsVerdictGiven rows bytes o verdict) (sym clean.clean)
    (meant_of rows depth bytes own tree.0 claim course walk views began verdict
    (subst (λ xs. IsClean (limits_of rows depth) bytes own xs claim) tree.1 clean)
    (subst (λ xs. StandsAt (steps_of rows) (choices_of rows) (view_of rows.program.root) xs course walk views) tree.1 stand)
    (subst (λ xs. began ≡ line_after xs) tree.1 at) answer)

-- a text defect is the verdict on the log behind a head of the file
pub bad_verdict : (told : Option FileMap) (name : List ℕ) (version head : ℕ) (rows : Rows) (depth : ℕ) (defect : Defect)
    → IfSome told (λ m. log_text_defect (limits_of rows depth) (behind version head (file_of m name)) ≡ Some (defect.line, defect.kind)) → IfSome told (λ m. IsVerdict rows depth (behind version head (file_of m name)) (No defect))
bad_verdict None name version head rows depth defect is = tt
bad_verdict (Some m) name version head rows depth defect is = subst (λ o. IsVerdictGiven rows (behind version head (file_of m name)) o (No defect)) (sym is) (refl, refl)

-- where the answer is yes, the claim is borne out
pub end_holds : (rows : Rows) (items : List RowItem) (claim : Claim) (course : Course) (walk : RowWalk) (views : List View) (began : ℕ) (verdict : LogVerdict)
    → StandsAt (steps_of rows) (choices_of rows) (view_of rows.program.root) items course walk views → IsEndVerdict (choices_of rows) course began claim verdict → YesHolds rows verdict
end_holds rows items claim Going walk views began verdict stand answer = absurd answer
end_holds rows items claim (Faulty defect) walk views began verdict stand answer = subst (YesHolds rows) (sym answer) tt
end_holds rows items claim (Ended proof_cap) walk views began (Yes own) stand answer = subst (IsBorneOut rows) (sym answer.0) (proved_out rows items proof_cap claim stand answer.1)
end_holds rows items claim (Ended proof_cap) walk views began (No defect) stand answer = tt

-- after whole items a check does not go on
pub not_going : (rows : Rows) (items : List RowItem) (course : Course) (walk : RowWalk) (views : List View)
    → AreWhole items → StandsAt (steps_of rows) (choices_of rows) (view_of rows.program.root) items course walk views → course ≢ Going
not_going rows items Going walk views whole stand is = whole-not_going (steps_of rows) (view_of rows.program.root) items (stage_of walk views) whole stand.1
not_going rows items (Ended proof_cap) walk views whole stand is = cc
not_going rows items (Faulty defect) walk views whole stand is = cc
