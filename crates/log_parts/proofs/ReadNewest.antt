-- A log behind a head may be read as one of version 4.
use Rattle.std.proofs.Common.{◌≡◌, ℕ, zero, suc, ◌+◌, List, [], ◌∷◌, ◌++◌, drop, flat_map, None, Some, refl, sym, ap, ◌∙◌, subst, append_assoc, inl, arith}
use Rattle.std.proofs.lemmas.List.Elements.{All-head}
use Rattle.row_relax.specs.declared.rows.Rows.{Rows}
use Rattle.row_relax.specs.RowProofs.{RowTree}
use Rattle.proof_tree.specs.Items.{tree_items}
use Rattle.log_lines.specs.declared.grammar.Limits.{Limits}
use Rattle.log_lines.specs.declared.grammar.Place.TheVariants.{Node as AtNode}
use Rattle.log_lines.specs.declared.line.Line.{Line}
use Rattle.log_lines.specs.declared.line.Line.TheVariants.{Header, End}
use Rattle.log_lines.specs.Line.{IsLine, line_text}
use Rattle.log_lines.specs.TextDefect.{log_text_defect}
use Rattle.log_lines.proofs.LineBytes.{HasNoFeed-line_text}
use Rattle.proof_log.specs.declared.claim.Claim.{Claim}
use Rattle.proof_log.specs.Accepted.{leads}
use Rattle.proof_log.specs.Behind.{behind, version_behind}
use Rattle.proof_log.specs.Log.{claim_lines, item_lines, lines_text, log_lines, log_text, tree_lines}
use Rattle.proof_log.proofs.GrammarWalk.{at, closed}
use Rattle.proof_log.proofs.Headed.{header_written}
use Rattle.proof_log.proofs.Lines.{lines_text-append, lines_text-cons, lines_text-one}
use Rattle.proof_log.proofs.OneText.{feed_unique}
use Rattle.valid_log.specs.Verdict.{IsLog, limits_of}
use Rattle.log_parts.specs.laws.Copying.{IsLogOf}
use Rattle.log_parts.proofs.JoinedTexts.{log-leads, log-over, log-written, text-clean}
use Rattle.log_parts.proofs.PartTexts.{deeper, tree_within}

-- the lines of a log but its first
abbrev body : RowTree → Claim → List Line
body tree claim = flat_map item_lines (tree_items tree) ++ (claim_lines claim ++ End ∷ [])

-- what stands behind the head is the text of those lines
body_text : (rows : Rows) (version n : ℕ) (bytes : List ℕ) (tree : RowTree) (claim : Claim) → IsLog rows (behind version (suc n) bytes) tree claim → drop (suc n) bytes ≡ lines_text (body tree claim)
unfolding log_text log_lines
body_text rows version n bytes tree claim is =
    let first = Header (version_behind version) in
    let own = Header is.version in
    let rest = drop (suc n) bytes in
    let lines = body tree claim in
    let one : lines_text (first ∷ []) ++ rest ≡ line_text first ++ (10 ∷ rest) = ap (λ (text : List ℕ). text ++ rest) (lines_text-one first) ∙ append_assoc (line_text first) (10 ∷ []) rest in
    let other : lines_text (own ∷ lines) ≡ line_text own ++ (10 ∷ lines_text lines) = lines_text-cons own lines ∙ append_assoc (line_text own) (10 ∷ []) (lines_text lines) in
    (feed_unique (line_text first) rest (line_text own) (lines_text lines) (HasNoFeed-line_text first (header_written version)) (HasNoFeed-line_text own (All-head IsLine own lines is.over.lines))
    (sym one ∙ is.text ∙ other)).1

-- the text of the same lines behind the first line of version 4
newest_text : (bytes : List ℕ) (n : ℕ) (tree : RowTree) (claim : Claim) → drop (suc n) bytes ≡ lines_text (body tree claim) → behind 4 (suc n) bytes ≡ log_text 4 (tree_items tree) claim
unfolding log_text log_lines
newest_text bytes n tree claim is = ap (λ (text : List ℕ). lines_text (Header 4 ∷ []) ++ text) is ∙ sym (lines_text-append (Header 4 ∷ []) (body tree claim))

-- the lines of the proof lead through it in a log of version 4
newest_lead : (rows : Rows) (depth : ℕ) (bytes : List ℕ) (tree : RowTree) (claim : Claim) → IsLog rows bytes tree claim → log_text_defect (limits_of rows depth) bytes ≡ None
    → leads (limits_of rows depth) (at 4 AtNode []) (tree_lines tree) ≡ Some (closed 4 [])
newest_lead rows depth bytes tree claim is clean =
    let limits = limits_of rows depth in
    let found = log-leads rows depth bytes tree claim is clean in
    let made : ℕ → Limits = λ (most : ℕ). record { rows = limits.rows; slots = limits.slots; points = limits.points; depth = most } in
    let same : deeper limits 0 ≡ limits = ap made (let e : depth + 0 ≡ depth = omega arith in e) in
    subst (λ (l : Limits). leads l (at 4 AtNode []) (tree_lines tree) ≡ Some (closed 4 [])) same (tree_within 4 limits is.version tree claim found.0 [] (inl refl) found.1)

-- what is a log without a text defect behind a head of its version is one behind the same head as one of version 4
pub read-newest : (rows : Rows) (depth : ℕ) (bytes : List ℕ) (version head : ℕ) (tree : RowTree) (claim : Claim) → IsLog rows (behind version head bytes) tree claim
    → log_text_defect (limits_of rows depth) (behind version head bytes) ≡ None → IsLogOf (limits_of rows depth) (behind 4 head bytes) tree
read-newest rows depth bytes version zero tree claim is clean = record { version = is.version; claim = claim; text = is.text; over = is.over; clean = clean }
read-newest rows depth bytes version (suc n) tree claim is clean =
    let limits = limits_of rows depth in
    let text = newest_text bytes n tree claim (body_text rows version n bytes tree claim is) in
    let over = log-over 4 limits.points tree claim (omega arith, omega arith, omega arith) (log-written rows (behind version (suc n) bytes) tree claim is) in
    record {
      version = 4;
      claim = claim;
      text = text;
      over = over;
      clean = ap (log_text_defect limits) text ∙ text-clean 4 limits tree claim over (newest_lead rows depth (behind version (suc n) bytes) tree claim is clean);
    }
