-- A log that is read while its items are put to another.
use Rattle.std.proofs.Common.{◌≡◌, ℕ, ◌+◌, List, [], ◌∷◌, ◌++◌, length, drop, flat_map, Option, None, Some, IfSome, refl, sym, ap, ◌∙◌, subst, append_assoc, append-nil}
use Rattle.std.specs.Prelude.{All, unwrap_or, Result, Ok, Err, IfOk, OnOk, OnErr}
use Rattle.std.specs.Option.{option_map}
use Rattle.std.specs.FinMap.{get}
use Rattle.stn_edge.specs.Files.{FileMap, file_of}
use Rattle.proof_tree.specs.Items.{tree_items}
use Rattle.proof_tree.proofs.Forms.{whole_tree}
use Rattle.row_relax.specs.RowProofs.{RowItem, RowTree}
use Rattle.log_lines.specs.declared.grammar.Limits.{Limits}
use Rattle.log_lines.specs.declared.grammar.Place.{Place}
use Rattle.log_lines.specs.declared.grammar.Place.TheVariants as place
use Rattle.log_lines.specs.declared.line.Line.{Line}
use Rattle.log_lines.specs.Line.{IsLine}
use Rattle.log_lines.specs.Reader.{IsAhead}
use Rattle.log_lines.specs.TextDefect.{log_text_defect}
use Rattle.proof_log.specs.declared.claim.Claim.{Claim}
use Rattle.log_lines.specs.declared.defect.Defect.{Defect}
use Rattle.proof_log.specs.declared.log_reader.LogReader.{LogReader}
use Rattle.proof_log.specs.declared.log_reader.LogPart.TheVariants.{Item as ItemPart, Claim as ClaimPart, End as EndPart, Bad as BadPart}
use Rattle.proof_log.specs.declared.writer.LogWriter.{LogWriter}
use Rattle.proof_log.specs.declared.group.Group.{Group}
use Rattle.proof_log.specs.Behind.{behind}
use Rattle.proof_log.specs.OneText.{IsOver, IsLogOver}
use Rattle.proof_log.specs.Log.{item_lines, lines_text, log_lines, log_text}
use Rattle.proof_log.specs.Gathered.{lines_at, tail_lines, IsFresh}
use Rattle.proof_log.specs.Text.{rest_defect}
use Rattle.proof_log.specs.LogReading.{HasRead, IsPartAfter}
use Rattle.proof_log.proofs.OneText.{logs_same, items_read}
use Rattle.log_nodes.proofs.Stays.{read_stays}
use Rattle.log_parts.proofs.Writes.{text_more}
use Rattle.log_parts.specs.laws.Copying.{name_of, HasItems, IsBegun, IsLogOf, HasCopied, HasBrokenOff}

-- the items whose lines stand in front of the text of a log are its first items
front_at : (limits : Limits) (version : ℕ) (p : Place) (group : Group) (claim : Option Claim) (bytes rest : List ℕ) (tree : RowTree) (items : List RowItem) (lines : List Line) → IsLogOf limits bytes tree → All (IsOver limits.points) items → IsFresh p items
    → lines ≡ lines_at version p items group claim → All IsLine lines → bytes ≡ lines_text lines ++ rest → (later : List RowItem) × (tree_items tree ≡ items ++ later)
front_at limits version place.Header group claim bytes rest tree items lines is over fresh listed written read =
    (tree_items tree, sym (ap (λ (own : List RowItem). own ++ tree_items tree) fresh))
front_at limits version p group claim bytes rest tree items lines is over fresh listed written read =
    items_read limits.points is.version version tree is.claim items (tail_lines group claim p) rest is.over over (subst (All IsLine) listed written)
    (sym is.text ∙ read ∙ ap (λ (own : List Line). lines_text own ++ rest) listed)

-- what a reader has read of a log are its first items
pub front_read : (limits : Limits) (head : ℕ) (name : List ℕ) (m : FileMap) (items : List RowItem) (claim : Option Claim) (r : LogReader) (tree : RowTree) → IsLogOf limits (behind 4 head (file_of m name)) tree → HasRead (Some m) name 4 head limits items claim r
    → (later : List RowItem) × (tree_items tree ≡ items ++ later)
front_read limits head name m items claim r tree is read =
    let g = r.gatherer in
    let over : All (IsOver limits.points) items = subst (λ (l : Limits). All (IsOver l.points) items) read.limited read.gathered.over in
    front_at limits g.grammar.version g.grammar.place g.group claim (behind 4 head (file_of m name)) (drop r.lines.place (file_of m name)) tree items read.lines is over read.gathered.fresh read.gathered.listed read.gathered.written read.read

-- A reader under the limits has read items of a file that may be told, and a writer, which began with others, has them too.
pub record HasReadOn (limits : Limits) (head : ℕ) (name : List ℕ) (old : Option FileMap) (writer : LogWriter) (new : Option FileMap) (later : LogWriter) (r : LogReader) : Type 0 where
  pub items : List RowItem
  pub claim : Option Claim
  pub read : HasRead new name 4 head limits items claim r
  pub same : option_map (λ (m : FileMap). file_of m name) new ≡ option_map (λ (m : FileMap). file_of m name) old
  pub has : (front : List ℕ) (before : List RowItem) → HasItems front writer old before → HasItems front later new (before ++ items)

-- a file of first items is one of first items of more
pub begun_longer : (front name : List ℕ) (files : Option FileMap) (items more : List RowItem) → IsBegun front name files items → IsBegun front name files (items ++ more)
begun_longer front name None items more is = tt
begun_longer front name (Some m) items more is =
    (is.0 ++ lines_text (flat_map item_lines more), sym (append_assoc (file_of m name) is.0 (lines_text (flat_map item_lines more))) ∙ ap (λ (text : List ℕ). text ++ lines_text (flat_map item_lines more)) is.1 ∙ text_more front items more)

-- what a writer has is written in part
pub has_begun : (front : List ℕ) (writer : LogWriter) (files : Option FileMap) (items : List RowItem) → HasItems front writer files items → IsBegun front (name_of writer) files items
has_begun front writer None items is = tt
has_begun front writer (Some m) items is = (writer.buffer.items, is)

-- where first items of a log were written in part behind others, the log was
pub begun_front : (front name : List ℕ) (files : Option FileMap) (before items later all_items : List RowItem) → all_items ≡ items ++ later → IsBegun front name files (before ++ items) → IsBegun front name files (before ++ all_items)
begun_front front name files before items later all_items is begun =
    subst (IsBegun front name files) (append_assoc before items later ∙ ap (λ (own : List RowItem). before ++ own) (sym is)) (begun_longer front name files (before ++ items) later begun)

-- the reading of a log broke off after some items, of which a first part was written
pub broken_off : (limits : Limits) (head : ℕ) (name own : List ℕ) (old now new : Option FileMap) (writer : LogWriter) (items : List RowItem) (claim : Option Claim) (r : LogReader) → own ≡ name_of writer
    → option_map (λ (m : FileMap). file_of m name) now ≡ option_map (λ (m : FileMap). file_of m name) old → HasRead now name 4 head limits items claim r
    → ((front : List ℕ) (before : List RowItem) → HasItems front writer old before → IsBegun front own new (before ++ items)) → HasBrokenOff limits head name old writer new
broken_off limits head name own None now new writer items claim r named same read begun = tt
broken_off limits head name own (Some m) None new writer items claim r named same read begun = absurd cc
broken_off limits head name own (Some m) (Some n) new writer items claim r named same read begun = λ tree is front before has.
    let here : file_of n name ≡ file_of m name = cc in
    let rest = front_read limits head name n items claim r tree (subst (λ (bytes : List ℕ). IsLogOf limits (behind 4 head bytes) tree) (sym here) is) read in
    subst (λ (w : List ℕ). IsBegun front w new (before ++ tree_items tree)) named (begun_front front own new before items rest.0 (tree_items tree) rest.1 (begun front before has))

-- the reader is at the end of a log whose items a writer has
pub copied_end : (limits : Limits) (head : ℕ) (name : List ℕ) (old new : Option FileMap) (writer later : LogWriter) (r s : LogReader) (version : ℕ) (on : HasReadOn limits head name old writer new later r)
    → IsPartAfter new name 4 head limits on.items on.claim s (EndPart version) → HasCopied limits head name old writer new later {D = Defect} None
copied_end limits head name None new writer later r s version on part = tt
copied_end limits head name (Some m) None writer later r s version on part = absurd (let same = on.same in cc)
copied_end limits head name (Some m) (Some n) writer later r s version on part = λ tree is front before has.
    let same = on.same in
    let here : file_of n name ≡ file_of m name = cc in
    let clean = part.1.2 in
    let found = whole_tree on.items part.0 in
    let text : log_text is.version (tree_items tree) is.claim ≡ log_text version (tree_items found.0) part.1.0 ++ [] =
    sym is.text ∙ sym (ap (behind 4 head) here) ∙ clean.text ∙ ap (λ (items : List RowItem). log_text version items part.1.0) found.1 ∙ sym (append-nil (log_text version (tree_items found.0) part.1.0)) in
    let over : IsLogOver limits.points version found.0 part.1.0 = record {
      items = subst (All (IsOver limits.points)) found.1 clean.over;
      claim_over = clean.claim_over;
      lines = subst (λ (items : List RowItem). All IsLine (log_lines version items part.1.0)) found.1 clean.lines;
    } in
    let one = logs_same limits.points is.version version tree found.0 is.claim part.1.0 [] is.over over text in
    let items_are : on.items ≡ tree_items tree = found.1 ∙ ap tree_items (sym one.tree_same) in
    (refl, subst (λ (items : List RowItem). HasItems front later (Some n) (before ++ items)) items_are (on.has front before has))

-- a log without a text defect shows none
pub copied_bad : (limits : Limits) (head : ℕ) (name : List ℕ) (old new : Option FileMap) (writer later : LogWriter) (r s : LogReader) (defect : Defect) (on : HasReadOn limits head name old writer new later r)
    → IsPartAfter new name 4 head limits on.items on.claim s (BadPart defect) → HasCopied limits head name old writer new later (Some defect)
copied_bad limits head name None new writer later r s defect on part = tt
copied_bad limits head name (Some m) None writer later r s defect on part = absurd (let same = on.same in cc)
copied_bad limits head name (Some m) (Some n) writer later r s defect on part = λ tree is front before has.
    let same = on.same in
    let here : file_of n name ≡ file_of m name = cc in
    let wrong : None ≡ Some (defect.line, defect.kind) = sym is.clean ∙ ap (λ (bytes : List ℕ). log_text_defect limits (behind 4 head bytes)) (sym here) ∙ part in
    absurd cc

-- the reader has read one more item, which the writer took
pub item_copied : (limits : Limits) (head : ℕ) (name : List ℕ) (old now new : Option FileMap) (writer mid later : LogWriter) (r s : LogReader) (line : ℕ) (item : RowItem) (on : HasReadOn limits head name old writer now mid r)
    → IsPartAfter now name 4 head limits on.items on.claim s (ItemPart line item) → option_map (λ (m : FileMap). file_of m name) new ≡ option_map (λ (m : FileMap). file_of m name) now
    → ((front : List ℕ) (items : List RowItem) → HasItems front mid now items → HasItems front later new (items ++ item ∷ [])) → HasReadOn limits head name old writer new later s
item_copied limits head name old now new writer mid later r s line item on part stays took = record {
  items = on.items ++ item ∷ [];
  claim = None;
  read = read_stays 4 head name limits (on.items ++ item ∷ []) None s now new stays part.4;
  same = stays ∙ on.same;
  has = λ front before has. subst (HasItems front later new) (append_assoc before on.items (item ∷ [])) (took front (before ++ on.items) (on.has front before has));
}

-- the reader has read the claim
pub claim_read : (limits : Limits) (head : ℕ) (name : List ℕ) (old now : Option FileMap) (writer mid : LogWriter) (r s : LogReader) (line : ℕ) (made : Claim) (on : HasReadOn limits head name old writer now mid r)
    → IsPartAfter now name 4 head limits on.items on.claim s (ClaimPart line made) → HasReadOn limits head name old writer now mid s
claim_read limits head name old now writer mid r s line made on part = record { items = on.items; claim = Some made; read = part.3; same = on.same; has = on.has }

-- a reader that begins
pub read_on : (limits : Limits) (head : ℕ) (name : List ℕ) (old : Option FileMap) (writer : LogWriter) (r : LogReader) → HasRead old name 4 head limits [] None r → HasReadOn limits head name old writer old writer r
read_on limits head name old writer r read = record { items = []; claim = None; read = read; same = refl; has = λ front before has. subst (HasItems front writer old) (sym (append-nil before)) has }

-- what holds holds after an error
pub err_of : {X E P : Type 0} (r : Result X E) → P → OnErr r P
err_of (Ok x) is = tt
err_of (Err e) is = is

-- nothing was begun: the writer has what it had
pub none_broken : (limits : Limits) (head : ℕ) (name : List ℕ) (old : Option FileMap) (writer : LogWriter) → HasBrokenOff limits head name old writer old
none_broken limits head name None writer = tt
none_broken limits head name (Some m) writer = λ tree is front before has. begun_longer front (name_of writer) (Some m) before (tree_items tree) (has_begun front writer (Some m) before has)

-- the reading broke off before the next part
pub on_broken : (limits : Limits) (head : ℕ) (name : List ℕ) (old now new : Option FileMap) (writer mid : LogWriter) (r : LogReader) → name_of mid ≡ name_of writer → new ≡ now → HasReadOn limits head name old writer now mid r → HasBrokenOff limits head name old writer new
on_broken limits head name old now new writer mid r named still on =
    broken_off limits head name (name_of mid) old now new writer on.items on.claim r named on.same on.read
    (λ front before has. subst (λ (told : Option FileMap). IsBegun front (name_of mid) told (before ++ on.items)) (sym still) (has_begun front mid now (before ++ on.items) (on.has front before has)))

-- the writer broke off in the next item
pub item_broken : (limits : Limits) (head : ℕ) (name : List ℕ) (old now next new : Option FileMap) (writer mid : LogWriter) (r s : LogReader) (line : ℕ) (item : RowItem) (on : HasReadOn limits head name old writer now mid r) → name_of mid ≡ name_of writer → next ≡ now
    → IsPartAfter now name 4 head limits on.items on.claim s (ItemPart line item) → ((front : List ℕ) (items : List RowItem) → HasItems front mid next items → IsBegun front (name_of mid) new (items ++ item ∷ [])) → HasBrokenOff limits head name old writer new
item_broken limits head name old now next new writer mid r s line item on named still part broke =
    broken_off limits head name (name_of mid) old now new writer (on.items ++ item ∷ []) None s named on.same part.4
    (λ front before has.
    let whole : HasItems front mid next (before ++ on.items) = subst (λ (told : Option FileMap). HasItems front mid told (before ++ on.items)) (sym still) (on.has front before has) in
    subst (IsBegun front (name_of mid) new) (append_assoc before on.items (item ∷ [])) (broke front (before ++ on.items) whole))

-- what holds where something is there holds of what follows from it
pub ok_then : {X E P Q : Type 0} (r : Result X E) → OnOk r P → (P → Q) → OnOk r Q
ok_then (Ok x) is then_ = then_ is
ok_then (Err e) is then_ = tt

pub err_then : {X E P Q : Type 0} (r : Result X E) → OnErr r P → (P → Q) → OnErr r Q
err_then (Ok x) is then_ = tt
err_then (Err e) is then_ = then_ is

pub ok_if : {X E : Type 0} {P Q : X → Type 0} (r : Result X E) → IfOk r P → ((x : X) → P x → Q x) → IfOk r Q
ok_if (Ok x) is then_ = then_ x is
ok_if (Err e) is then_ = tt
