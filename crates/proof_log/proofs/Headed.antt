-- A reader that begins behind a head of a file.
use Rattle.std.proofs.Common.{◌≡◌, ◌≢◌, ℕ, zero, suc, ◌==◌, ◌<◌, ◌^◌, Bool, true, false, if◌then◌else◌, List, [], ◌∷◌, ◌++◌, length, drop, flat_map, Option, Some, None, IfSome, refl, ap, sym, ◌∙◌, subst, append_assoc, arith, rules, ◌≤◌, MatchOption}
use Rattle.std.specs.Prelude.{pos}
use Rattle.std.proofs.Math.Seq.{drop-append_seam}
use Rattle.stn_edge.specs.Files.{FileMap, file_of}
use Rattle.log_lines.specs.declared.grammar.Limits.{Limits}
use Rattle.log_lines.specs.declared.grammar.Place.TheVariants.{Node as AtNode}
use Rattle.log_lines.specs.declared.line.Line.TheVariants.{Header, End}
use Rattle.log_lines.specs.Grammar.{Standing, new_standing, next, line_defect}
use Rattle.log_lines.specs.Line.{IsLine, IsVersion, line_text}
use Rattle.log_lines.specs.Reader.{Reading, IsAhead, new_reading}
use Rattle.log_lines.specs.TextDefect.{log_text_defect}
use Rattle.log_lines.proofs.LineBytes.{HasNoFeed-line_text, length-line_text}
use Rattle.log_lines.proofs.SaidLines.{line_said-line}
use Rattle.proof_log.specs.declared.gatherer.Gatherer.{Gatherer}
use Rattle.proof_log.specs.declared.group.Group.TheVariants.{Nothing}
use Rattle.proof_log.specs.declared.log_reader.LogReader.{LogReader}
use Rattle.proof_log.specs.declared.claim.Claim.{Claim}
use Rattle.row_relax.specs.RowProofs.{RowItem}
use Rattle.proof_log.specs.Behind.{behind, version_behind}
use Rattle.proof_log.specs.Gathered.{HasGathered}
use Rattle.proof_log.specs.Log.{item_lines, claim_lines, lines_text, log_lines, log_text}
use Rattle.proof_log.specs.LogReading.{HasRead, IsReadTo, IsDefectOfRest}
use Rattle.proof_log.specs.Text.{rest_defect}
use Rattle.proof_log.proofs.Lines.{lines_text-one, lines_text-append}
use Rattle.proof_log.proofs.Texts.{good_line}
use Rattle.proof_log.proofs.WrittenLines.{none, more, natural, one_line_of}

-- behind a head the log begins with its header
behind-some : (version head : ℕ) (bytes : List ℕ) → head ≢ 0 → behind version head bytes ≡ lines_text (Header (version_behind version) ∷ []) ++ drop head bytes
behind-some version zero bytes some = absurd (some refl)
behind-some version (suc n) bytes some = refl

-- the header may be written
known : (version : ℕ) → IsVersion (version_behind version)
known version = at (version == 4)
  where
    at : (newest : Bool) → IsVersion (if newest then 4 else 2)
    at true = (omega arith, omega arith, omega arith)
    at false = (omega arith, omega arith, omega arith)

pub header_written : (version : ℕ) → IsLine (Header (version_behind version))
header_written version =
    let is = known version in
    record { short = more (pos (version_behind version)) [] (natural (version_behind version) (below (version_behind version) is.1)) none; in_range = is }
  where
    below : (n : ℕ) → n ≤ 4 → n < 10 ^ 30
    below n low = omega arith

-- the first defect of the bytes after the header is that of both
header_left : (version : ℕ) (limits : Limits) (later : Standing) (bytes : List ℕ) → next new_standing (Header (version_behind version)) ≡ Some later → log_text_defect limits (lines_text (Header (version_behind version) ∷ []) ++ bytes) ≡ rest_defect limits later 2 bytes
header_left version limits later bytes to =
    let part = line_text (Header (version_behind version)) in
    let short : length part ≤ 200 = omega (arith, length-line_text (Header (version_behind version)) (header_written version)) in
    good_line limits new_standing 1 (lines_text (Header (version_behind version) ∷ []) ++ bytes) part bytes (Header (version_behind version)) later (HasNoFeed-line_text (Header (version_behind version)) (header_written version)) short
    (ap (λ text. text ++ bytes) (lines_text-one (Header (version_behind version))) ∙ append_assoc part (10 ∷ []) bytes) refl (line_said-line (Header (version_behind version)) (header_written version)) refl to

-- a grammar that has taken the header stands behind it
pub header_taken : (version own : ℕ) (limits : Limits) (old new : Standing) (kind : Option ℕ) → own ≡ version_behind version → old ≡ new_standing → kind ≡ line_defect limits old (Header own) → MatchOption kind (next old (Header own) ≡ Some new) (λ _. new ≡ old) → next new_standing (Header (version_behind version)) ≡ Some new
header_taken version own limits old new None same begun is moves =
    subst (λ (v : ℕ). next new_standing (Header v) ≡ Some new) same (subst (λ (o : Standing). next o (Header own) ≡ Some new) begun moves)
header_taken version own limits old new (Some kind) same begun is moves =
    let none : None ≡ Some kind = sym (is ∙ ap (λ (o : Standing). line_defect limits o (Header own)) begun) in absurd cc

-- a gatherer that has taken the header alone
pub headed : (version : ℕ) (g : Gatherer) → next new_standing (Header (version_behind version)) ≡ Some g.grammar → g.group ≡ Nothing → g.number ≡ 1 → g.began ≡ 2 → HasGathered (Header (version_behind version) ∷ []) [] None g
headed version g to group number began =
    let stands : g.grammar ≡ record { version = version_behind version; place = AtNode; sides = [] } = cc in
    record {
      listed = rw (stands, group) refl;
      written = one_line_of (Header (version_behind version)) (header_written version);
      number = number;
      over = search rules;
      claim_over = tt;
      fresh = rw stands tt;
      began = began;
      group = rw (stands, group) tt;
      claimed = rw stands tt;
      form = rw stands (record { expects = refl; splits = refl });
    }

-- the log is read to its header where the head ends
read_headed : (told : Option FileMap) (name : List ℕ) (version head : ℕ) → head ≢ 0 → IsReadTo told name version head (Header (version_behind version) ∷ []) head
read_headed None name version head some = tt
read_headed (Some m) name version head some = behind-some version head (file_of m name) some

-- and its first defect is that of what follows the head
left_headed : (told : Option FileMap) (name : List ℕ) (version head : ℕ) (limits : Limits) (later : Standing) → head ≢ 0 → next new_standing (Header (version_behind version)) ≡ Some later → IsDefectOfRest told name version head limits later 2 head
left_headed None name version head limits later some to = tt
left_headed (Some m) name version head limits later some to =
    ap (log_text_defect limits) (behind-some version head (file_of m name) some) ∙ header_left version limits later (drop head (file_of m name)) to

ahead_headed : (told : Option FileMap) (name : List ℕ) (head : ℕ) → IfSome told (λ m. IsAhead (file_of m name) head [])
ahead_headed None name head = tt
ahead_headed (Some m) name head = refl

-- a reader that begins behind a head has read no item
pub begun_behind : (told : Option FileMap) (name : List ℕ) (version head : ℕ) (limits : Limits) (r : LogReader) → head ≢ 0 → r.lines ≡ record new_reading { place = head } → next new_standing (Header (version_behind version)) ≡ Some r.gatherer.grammar
    → r.gatherer.limits ≡ limits → HasGathered (Header (version_behind version) ∷ []) [] None r.gatherer → HasRead told name version head limits [] None r
begun_behind told name version head limits r some lines to limited gathered = record {
  lines = Header (version_behind version) ∷ [];
  gathered = gathered;
  limited = limited;
  read = subst (λ (o : Reading). IsReadTo told name version head (Header (version_behind version) ∷ []) o.place) (sym lines) (read_headed told name version head some);
  left = subst (λ (o : Reading). IsDefectOfRest told name version head limits r.gatherer.grammar 2 o.place) (sym lines) (left_headed told name version head limits r.gatherer.grammar some to);
  ahead = subst (λ (o : Reading). IfSome told (λ m. IsAhead (file_of m name) o.place o.ahead)) (sym lines) (ahead_headed told name head);
  going = ap (λ (o : Reading). o.ended) lines;
}

-- what is read behind a head in front of the lines of a proof, a claim and the end is the text of their log
pub behind-head : (version : ℕ) (head : List ℕ) (items : List RowItem) (claim : Claim) → head ≢ [] → behind version (length head) (head ++ lines_text (flat_map item_lines items ++ (claim_lines claim ++ End ∷ []))) ≡ log_text (version_behind version) items claim
unfolding log_lines log_text
behind-head version head items claim some =
    let lines = flat_map item_lines items ++ (claim_lines claim ++ End ∷ []) in
    behind-some version (length head) (head ++ lines_text lines) (not_empty head some)
    ∙ ap (λ text. lines_text (Header (version_behind version) ∷ []) ++ text) (drop-append_seam head (lines_text lines))
    ∙ sym (lines_text-append (Header (version_behind version) ∷ []) lines)
  where
    not_empty : (xs : List ℕ) → xs ≢ [] → length xs ≢ 0
    not_empty [] some = absurd (some refl)
    not_empty (x ∷ xs) some = λ none. omega (arith, none)
