-- What writing the joined log comes to.
use Rattle.std.proofs.Common.{◌≡◌, ◌≢◌, ℕ, ◌-◌, ◌^◌, ◌<◌, List, [], ◌∷◌, ◌++◌, Option, None, Some, IfSome, refl, sym, ap, ◌∙◌, subst, inl, inr, arith, append_assoc}
use Rattle.stn_edge.specs.Files.{FileMap, file_of, MayClear, OthersStay}
use Rattle.stn_edge.proofs.FileLemmas.{file_of-cleared}
use Rattle.proof_tree.specs.Items.{tree_items}
use Rattle.row_relax.specs.RowProofs.{RowItem, RowTree}
use Rattle.log_lines.specs.declared.grammar.Limits.{Limits}
use Rattle.log_lines.specs.declared.line.Line.TheVariants.{End}
use Rattle.proof_log.specs.declared.claim.Claim.{Claim}
use Rattle.proof_log.specs.declared.writer.LogWriter.{LogWriter}
use Rattle.proof_log.specs.Log.{claim_lines, lines_text}
use Rattle.proof_log.specs.LogNames.{log_name}
use Rattle.log_parts.specs.declared.joins.Joined.{Joined}
use Rattle.log_parts.specs.declared.joins.Joined.TheVariants.{Done}
use Rattle.log_parts.specs.declared.writing.BadPart.{BadPart}
use Rattle.log_parts.specs.PartLogs.{tree_over}
use Rattle.log_parts.specs.laws.Copying.{name_of, items_over, joined_text, whole_text, HasItems, IsBegun, HasJoined, HasJoinBroken, HasWritten, HasLeft, IsFinished, IsFinishedInPart}
use Rattle.log_parts.proofs.Writes.{text_ended}
use Rattle.log_parts.proofs.PartsCopied.{logs_stay, still_told}

-- the log was not begun
pub left_begin : (limits : Limits) (levels : ℕ) (stem heads name front : List ℕ) (larger : Claim) (old new : Option FileMap) → MayClear name old new → HasLeft limits levels stem heads name front larger old new
left_begin limits levels stem heads name front larger None new may = tt
left_begin limits levels stem heads name front larger (Some m) new (inl same) = λ trees are. inl same
left_begin limits levels stem heads name front larger (Some m) new (inr is) = λ trees are.
    inr (subst (λ (told : Option FileMap). IfSome told (λ n. (rest : List ℕ) × (file_of n name ++ rest ≡ joined_text front levels trees larger))) (sym is)
    (joined_text front levels trees larger, ap (λ (bytes : List ℕ). bytes ++ joined_text front levels trees larger) (file_of-cleared name m)))

-- nothing was begun
pub left_same : (limits : Limits) (levels : ℕ) (stem heads name front : List ℕ) (larger : Claim) (old : Option FileMap) → HasLeft limits levels stem heads name front larger old old
left_same limits levels stem heads name front larger None = tt
left_same limits levels stem heads name front larger (Some m) = λ trees are. inl refl

-- all items are those of the whole tree
all_items : (levels : ℕ) (trees : List RowTree) → items_over 0 (levels - 0) 0 trees ≡ tree_items (tree_over 0 levels trees)
all_items levels trees = ap (λ (n : ℕ). tree_items (tree_over 0 n trees)) (omega arith)

-- a file of first items is a first part of the log
longer : (front name : List ℕ) (new : Option FileMap) (items all_of : List RowItem) (claim : Claim) → items ≡ all_of → IsBegun front name new items → IfSome new (λ n. (rest : List ℕ) × (file_of n name ++ rest ≡ whole_text front all_of claim))
longer front name None items all_of claim same begun = tt
longer front name (Some n) items all_of claim same begun =
    let rest = lines_text (claim_lines claim ++ End ∷ []) in
    (begun.0 ++ rest, sym (append_assoc (file_of n name) begun.0 rest) ∙ ap (λ (bytes : List ℕ). bytes ++ rest) begun.1 ∙ text_ended front items claim ∙ ap (λ (own : List RowItem). whole_text front own claim) same)

-- the items were put in part
pub left_broken : (limits : Limits) (levels : ℕ) (stem heads name front : List ℕ) (larger : Claim) (old mid new : Option FileMap) (writer : LogWriter) → name_of writer ≡ name → 0 < 2 ^ levels → ((part : ℕ) → part < 2 ^ levels → name ≢ log_name stem part)
    → OthersStay name old mid → HasItems front writer mid [] → HasJoinBroken limits (2 ^ levels) stem heads (items_over 0 (levels - 0) 0) mid writer new → HasLeft limits levels stem heads name front larger old new
left_broken limits levels stem heads name front larger None mid new writer named some apart stay begun broken = tt
left_broken limits levels stem heads name front larger (Some m) None new writer named some apart stay begun broken = absurd (still_told name (log_name stem 0) m (λ is. apart 0 some (sym is)) stay)
left_broken limits levels stem heads name front larger (Some m) (Some n) new writer named some apart stay begun broken = λ trees are.
    let is = broken trees (logs_stay limits (2 ^ levels) stem heads name m n trees stay apart are) front [] begun in
    inr (longer front name new (items_over 0 (levels - 0) 0 trees) (tree_items (tree_over 0 levels trees)) larger (all_items levels trees) (subst (λ (w : List ℕ). IsBegun front w new (items_over 0 (levels - 0) 0 trees)) named is))

-- the claim was put in part
pub left_finish : (limits : Limits) (levels : ℕ) (stem heads name front : List ℕ) (larger : Claim) (old mid last new : Option FileMap) (writer later : LogWriter) → name_of later ≡ name → 0 < 2 ^ levels → ((part : ℕ) → part < 2 ^ levels → name ≢ log_name stem part)
    → OthersStay name old mid → HasItems front writer mid [] → HasJoined limits (2 ^ levels) stem heads (items_over 0 (levels - 0) 0) mid writer last later {D = BadPart} None
    → ((own : List ℕ) (items : List RowItem) → HasItems own later last items → IsFinishedInPart own (name_of later) items larger new) → HasLeft limits levels stem heads name front larger old new
left_finish limits levels stem heads name front larger None mid last new writer later named some apart stay begun joined finish = tt
left_finish limits levels stem heads name front larger (Some m) None last new writer later named some apart stay begun joined finish = absurd (still_told name (log_name stem 0) m (λ is. apart 0 some (sym is)) stay)
left_finish limits levels stem heads name front larger (Some m) (Some n) last new writer later named some apart stay begun joined finish = λ trees are.
    let is = joined trees (logs_stay limits (2 ^ levels) stem heads name m n trees stay apart are) front [] begun in
    inr (subst (λ (items : List RowItem). IsFinishedInPart front name items larger new) (all_items levels trees)
    (subst (λ (w : List ℕ). IsFinishedInPart front w (items_over 0 (levels - 0) 0 trees) larger new) named (finish front (items_over 0 (levels - 0) 0 trees) is.1)))

-- a part showed a defect, where the files are not told
pub bad_written : (limits : Limits) (levels : ℕ) (stem heads name front : List ℕ) (larger claim : Claim) (old mid new : Option FileMap) (writer later : LogWriter) (bad : BadPart) (said : Joined) → 0 < 2 ^ levels → ((part : ℕ) → part < 2 ^ levels → name ≢ log_name stem part)
    → OthersStay name old mid → HasItems front writer mid [] → HasJoined limits (2 ^ levels) stem heads (items_over 0 (levels - 0) 0) mid writer new later (Some bad) → HasWritten limits levels stem heads name front larger claim old new said
bad_written limits levels stem heads name front larger claim None mid new writer later bad said some apart stay begun joined = tt
bad_written limits levels stem heads name front larger claim (Some m) None new writer later bad said some apart stay begun joined = absurd (still_told name (log_name stem 0) m (λ is. apart 0 some (sym is)) stay)
bad_written limits levels stem heads name front larger claim (Some m) (Some n) new writer later bad said some apart stay begun joined = λ trees are.
    let no = (joined trees (logs_stay limits (2 ^ levels) stem heads name m n trees stay apart are) front [] begun).0 in absurd cc

-- the whole log was written
pub all_written : (limits : Limits) (levels : ℕ) (stem heads name front : List ℕ) (larger claim : Claim) (old mid last new : Option FileMap) (writer later : LogWriter) → name_of later ≡ name → 0 < 2 ^ levels → ((part : ℕ) → part < 2 ^ levels → name ≢ log_name stem part)
    → OthersStay name old mid → HasItems front writer mid [] → HasJoined limits (2 ^ levels) stem heads (items_over 0 (levels - 0) 0) mid writer last later {D = BadPart} None
    → ((own : List ℕ) (items : List RowItem) → HasItems own later last items → IsFinished own (name_of later) items larger new) → HasWritten limits levels stem heads name front larger claim old new (Done claim)
all_written limits levels stem heads name front larger claim None mid last new writer later named some apart stay begun joined finish = tt
all_written limits levels stem heads name front larger claim (Some m) None last new writer later named some apart stay begun joined finish = absurd (still_told name (log_name stem 0) m (λ is. apart 0 some (sym is)) stay)
all_written limits levels stem heads name front larger claim (Some m) (Some n) last new writer later named some apart stay begun joined finish = λ trees are.
    let is = joined trees (logs_stay limits (2 ^ levels) stem heads name m n trees stay apart are) front [] begun in (
      refl,
      subst (λ (items : List RowItem). IsFinished front name items larger new) (all_items levels trees)
          (subst (λ (w : List ℕ). IsFinished front w (items_over 0 (levels - 0) 0 trees) larger new) named (finish front (items_over 0 (levels - 0) 0 trees) is.1)),
    )
