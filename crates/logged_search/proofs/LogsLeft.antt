-- What the steps of writing a log leave of the files.
use Rattle.std.proofs.Common.{◌≡◌, ◌≢◌, ℕ, Bool, true, false, List, [], ◌∷◌, ◌++◌, flat_map, string_bytes, Option, None, Some, IfSome, refl, sym, ap, ◌∙◌, subst, inl, inr, arith}
use Rattle.std.specs.Prelude.{◌⊎◌, ◌≤◌}
use Rattle.std.specs.Option.{option_map}
use Rattle.std.specs.FinMap.{get}
use Rattle.std.proofs.lemmas.List.{append-nil}
use Rattle.stn_edge.specs.Files.{FileMap, MayClear, OthersStay, cleared, file_of}
use Rattle.stn_edge.specs.declared.shelf.Shelf.{Ghosts}
use Rattle.stn_edge.proofs.FileLemmas.{get-cleared_other}
use Rattle.store_frames.specs.Frames.{WritesOne}
use Rattle.stn_model.specs.declared.plant.Plant.{Plant}
use Rattle.stn_model.specs.Points.{depth_limit}
use Rattle.row_kit.specs.declared.domain.Domain.{Domain}
use Rattle.row_kit.specs.declared.program.Program.{Program}
use Rattle.row_relax.specs.declared.rows.Rows.{Rows}
use Rattle.row_relax.specs.Choices.{plain}
use Rattle.row_relax.specs.RowProofs.{RowItem, RowTree}
use Rattle.row_relax.proofs.Choosing.{plain-rows}
use Rattle.proof_tree.specs.Items.{tree_items}
use Rattle.branch_tree.specs.Searched.{IsWritable}
use Rattle.log_lines.specs.declared.line.Line.TheVariants.{Header, End}
use Rattle.proof_log.specs.declared.claim.Claim.{Claim}
use Rattle.proof_log.specs.Log.{claim_lines, item_lines, lines_text, log_lines, log_text}
use Rattle.proof_log.specs.declared.writer.LogWriter.{LogWriter}
use Rattle.proof_log.specs.Writer.{Broke, IsWhole, KeepsOthers, Took, Writing, writing, written}
use Rattle.proof_log.proofs.Lines.{lines_text-append}
use Rattle.proof_log.proofs.Writing.{IsWhole-took}
use Rattle.sum_slots.specs.declared.sum.Sum.{Sum}
use Rattle.sum_choice.specs.Headed.{is_headed}
use Rattle.derivations.specs.declared.derivation.Derivation.{Derivation}
use Rattle.plan_told.specs.Heads.{CanHead, whole_head}
use Rattle.plan_told.specs.Proofs.{IsLogText, LeavesSomeBegun, IsSomeLogBegun, bytes_in}
use Rattle.logged_search.specs.Logging.{IsBegun, IsLogged, LeavesBegun, stored}
use Rattle.logged_search.proofs.BegunLog.{begun-finish, begun-took}

others_cleared : (name other : List ℕ) (files : Option FileMap) → other ≢ name → option_map (λ (m : FileMap). get m other) (option_map (cleared name) files) ≡ option_map (λ (m : FileMap). get m other) files
others_cleared name other None apart = refl
others_cleared name other (Some files) apart = ap Some (get-cleared_other name files other apart)

-- to clear a file leaves the others as they are
others_clear : (name : List ℕ) (old new : Option FileMap) → new ≡ option_map (cleared name) old → OthersStay name old new
others_clear name old new is other apart = ap (option_map (λ (m : FileMap). get m other)) is ∙ others_cleared name other old apart

others_may_clear : (name : List ℕ) (old new : Option FileMap) → MayClear name old new → OthersStay name old new
others_may_clear name old new (inl same) other apart = ap (option_map (λ (m : FileMap). get m other)) same
others_may_clear name old new (inr is) other apart = others_clear name old new is other apart

module _ {F : Type 0} (S : Ghosts F) (name : List ℕ) (old new : F) (readable : S.may_read new ≡ S.may_read old) (writable : S.may_write new ≡ S.may_write old) (no_read : S.read_faults new ≡ S.read_faults old)
    (writes : S.write_faults old ≤ S.write_faults new) where
  -- what a call leaves of a store that cleared a file
  pub writes-cleared : S.files new ≡ option_map (cleared name) (S.files old) → WritesOne S name old new
  writes-cleared is = record { others = others_clear name (S.files old) (S.files new) is; readable = readable; writable = writable; no_read = no_read; writes = writes }

  -- or that may have done so
  pub writes-may_clear : MayClear name (S.files old) (S.files new) → WritesOne S name old new
  writes-may_clear may = record { others = others_may_clear name (S.files old) (S.files new) may; readable = readable; writable = writable; no_read = no_read; writes = writes }

-- a log that was begun is begun after an attempt that did not end
pub left-then : (most : ℕ) (rows : Rows) (floors : Bool) (head name : List ℕ) (mid new : Option FileMap) → IfSome (bytes_in name mid) (IsBegun most rows floors head) → LeavesBegun most rows floors head name mid new → IfSome (bytes_in name new) (IsBegun most rows floors head)
left-then most rows floors head name mid new begun (inl same) = subst (λ (files : Option FileMap). IfSome (bytes_in name files) (IsBegun most rows floors head)) (sym same) begun
left-then most rows floors head name mid new begun (inr is) = is

-- a log that lacks its claim is begun
pub logged-begun : {Is : RowTree → Type 0} (most : ℕ) (rows : Rows) (floors : Bool) (head name : List ℕ) (at : Writing) → IsLogged Is most rows floors head name at → IfSome (bytes_in name at.files) (IsBegun most rows floors head)
logged-begun most rows floors head name at is =
    let begun = begun-took most rows floors head is.first at is.tree (tree_items is.tree) [] is.header (sym (append-nil (tree_items is.tree))) is.writable is.took in
    subst (λ (own : List ℕ). IfSome (bytes_in own at.files) (IsBegun most rows floors head)) (sym is.took.keeps.name ∙ is.named) begun

-- a log whose claim was not written, or in part, is begun
pub logged-broke : {Is : RowTree → Type 0} (most : ℕ) (rows : Rows) (floors : Bool) (head name : List ℕ) (at new : Writing) (claim : Claim) → IsLogged Is most rows floors head name at
    → Broke at new (lines_text (claim_lines claim ++ End ∷ [])) → IfSome (bytes_in name new.files) (IsBegun most rows floors head)
logged-broke most rows floors head name at new claim is broke =
    let begun = begun-finish most rows floors head is.first at new is.tree claim is.header is.writable is.took broke in
    subst (λ (own : List ℕ). IfSome (bytes_in own new.files) (IsBegun most rows floors head)) (sym is.took.keeps.name ∙ is.named) begun

-- what was taken or not wholly taken keeps the rest
pub handed-keeps : (old new : Writing) (text : List ℕ) → Took old new text ⊎ Broke old new text → KeepsOthers old new
handed-keeps old new text (inl took) = took.keeps
handed-keeps old new text (inr broke) = broke.keeps

-- where nothing was done all stays
pub writes-none : {F : Type 0} (S : Ghosts F) (name : List ℕ) (at : F) → WritesOne S name at at
writes-none S name at = record { others = λ other apart. refl; readable = refl; writable = refl; no_read = refl; writes = omega arith }

-- what two calls that write one file leave of a store
pub writes-then : {F : Type 0} (S : Ghosts F) (name own : List ℕ) (a b c : F) → own ≡ name → WritesOne S name a b → WritesOne S own b c → WritesOne S name a c
writes-then S name own a b c same first second = record {
  others = λ other apart. second.others other (λ is. apart (is ∙ same)) ∙ first.others other apart;
  readable = second.readable ∙ first.readable;
  writable = second.writable ∙ first.writable;
  no_read = second.no_read ∙ first.no_read;
  writes = let one = first.writes in let two = second.writes in omega (arith, one, two);
}

-- what takes items for a log leaves of a store
pub writes-handed : {F : Type 0} (S : Ghosts F) (writer writer_after : LogWriter) (store store_after : F)
    → KeepsOthers (writing S.files S.read_faults S.may_read S.may_write writer store) (writing S.files S.read_faults S.may_read S.may_write writer_after store_after)
    → S.write_faults store ≤ S.write_faults store_after → WritesOne S (string_bytes writer.name) store store_after
writes-handed S writer writer_after store store_after keeps writes = record { others = keeps.others; readable = keeps.may_read; writable = keeps.may_write; no_read = keeps.reads; writes = writes }

-- and what writes the end of a log
pub writes-finished : {F : Type 0} (S : Ghosts F) (writer : LogWriter) (store store_after : F)
    → KeepsOthers (writing S.files S.read_faults S.may_read S.may_write writer store) (written S.files S.read_faults S.may_read S.may_write writer store_after)
    → S.write_faults store ≤ S.write_faults store_after → WritesOne S (string_bytes writer.name) store store_after
writes-finished S writer store store_after keeps writes = record { others = keeps.others; readable = keeps.may_read; writable = keeps.may_write; no_read = keeps.reads; writes = writes }

-- what a call that writes one file keeps, as a writer for that file finds it
pub kept-one : {F : Type 0} (S : Ghosts F) (name : List ℕ) (old new : F) → WritesOne S name old new
    → KeepsOthers (stored S.files S.read_faults S.may_read S.may_write name old) (stored S.files S.read_faults S.may_read S.may_write name new)
kept-one S name old new frame = record { name = refl; others = frame.others; reads = frame.no_read; may_read = frame.readable; may_write = frame.writable }

-- and the other way round
pub writes-kept : {F : Type 0} (S : Ghosts F) (name : List ℕ) (old new : F)
    → KeepsOthers (stored S.files S.read_faults S.may_read S.may_write name old) (stored S.files S.read_faults S.may_read S.may_write name new)
    → S.write_faults old ≤ S.write_faults new → WritesOne S name old new
writes-kept S name old new keeps writes = record { others = keeps.others; readable = keeps.may_read; writable = keeps.may_write; no_read = keeps.reads; writes = writes }

-- all items of the proof stand behind the head in the log that lacks its claim
pub logged-whole : {Is : RowTree → Type 0} (most : ℕ) (rows : Rows) (floors : Bool) (head name : List ℕ) (at : Writing) → (is : IsLogged Is most rows floors head name at)
    → IsWhole at (head ++ lines_text (flat_map item_lines (tree_items is.tree)))
logged-whole most rows floors head name at is = IsWhole-took is.first at head (lines_text (flat_map item_lines (tree_items is.tree))) is.header is.took

-- what is known of the bytes that are told, weaker
told_weaker : (told : Option (List ℕ)) (P Q : List ℕ → Type 0) → ((bytes : List ℕ) → P bytes → Q bytes) → IfSome told P → IfSome told Q
told_weaker None P Q step is = tt
told_weaker (Some bytes) P Q step is = step bytes is

-- the text of a log of version 2 is that of its lines behind the header
pub plain-text : (items : List RowItem) (claim : Claim) → lines_text (Header 2 ∷ []) ++ lines_text (flat_map item_lines items ++ (claim_lines claim ++ End ∷ [])) ≡ log_text 2 items claim
unfolding log_lines log_text
plain-text items claim = sym (lines_text-append (Header 2 ∷ []) (flat_map item_lines items ++ (claim_lines claim ++ End ∷ [])))

-- the same of a log of which more is known
pub logged-as : {Is Was : RowTree → Type 0} (most : ℕ) (rows : Rows) (floors : Bool) (head name : List ℕ) (at : Writing) → ((tree : RowTree) → Is tree → Was tree) → IsLogged Is most rows floors head name at → IsLogged Was most rows floors head name at
logged-as most rows floors head name at then' is =
    record { tree = is.tree; is = then' is.tree is.is; writable = is.writable; named = is.named; first = is.first; header = is.header; took = is.took }

-- what was begun is a first part of the part's log, with a head or without one as that has
some_begun : (headed : Bool) (plant : Plant) (part : Program) (rows : Rows) (judged : List Domain) (levels : ℕ) (sums : List Sum) (units : List ℕ) (derivations : List Derivation) (tree : RowTree) (own : Claim) (bytes rest : List ℕ) → is_headed part levels ≡ headed
    → IsLogText headed plant part judged sums units derivations rows tree own (bytes ++ rest) → IsWritable (depth_limit plant) rows headed tree → IsSomeLogBegun plant part judged levels bytes
some_begun headed plant part rows judged levels sums units derivations tree own bytes rest has is writable = record {
  sums = sums;
  units = units;
  derivations = derivations;
  rows = rows;
  tree = tree;
  own = own;
  rest = rest;
  is = subst (λ (h : Bool). IsLogText h plant part judged sums units derivations rows tree own (bytes ++ rest)) (sym has) is;
  writable = subst (λ (h : Bool). IsWritable (depth_limit plant) rows h tree) (sym has) writable;
}

module _ (plant : Plant) (rows : Rows) (judged : List Domain) (levels : ℕ) (head name : List ℕ) (bare : rows.choices ≡ None) (none : is_headed rows.program levels ≡ false) (is : head ≡ lines_text (Header 2 ∷ [])) where
  -- a log with the header that was begun is one of version 2
  plain_begun : (bytes : List ℕ) → IsBegun (depth_limit plant) rows false head bytes → IsSomeLogBegun plant rows.program judged levels bytes
  plain_begun bytes given =
      let begun : IsBegun (depth_limit plant) (plain rows.program) false (lines_text (Header 2 ∷ [])) bytes =
      subst (λ (r : Rows). IsBegun (depth_limit plant) r false (lines_text (Header 2 ∷ [])) bytes) (plain-rows rows bare) (subst (λ (h : List ℕ). IsBegun (depth_limit plant) rows false h bytes) is given) in
      some_begun false plant rows.program (plain rows.program) judged levels [] [] [] begun.tree begun.claim bytes begun.rest none
      (refl, refl, refl, refl, begun.text ∙ plain-text (tree_items begun.tree) begun.claim) begun.writable

  -- so it is what an attempt leaves that did not end
  pub plain-told : (files : Option FileMap) → IfSome (bytes_in name files) (IsBegun (depth_limit plant) rows false head) → IfSome (bytes_in name files) (IsSomeLogBegun plant rows.program judged levels)
  plain-told files begun = told_weaker (bytes_in name files) (IsBegun (depth_limit plant) rows false head) (IsSomeLogBegun plant rows.program judged levels) plain_begun begun

  pub plain-left : (old new : Option FileMap) → LeavesBegun (depth_limit plant) rows false head name old new → LeavesSomeBegun plant rows.program judged levels name old new
  plain-left old new (inl same) = inl same
  plain-left old new (inr begun) = inr (plain-told new begun)

module _ (plant : Plant) (part : Program) (rows : Rows) (judged : List Domain) (levels : ℕ) (sums : List Sum) (units : List ℕ) (derivations : List Derivation) (head name : List ℕ) (can : CanHead plant part judged sums units derivations rows)
    (has : is_headed part levels ≡ true) (is : head ≡ whole_head sums units derivations) where
  -- a log with a head that was begun is one of version 4
  headed_begun : (bytes : List ℕ) → IsBegun (depth_limit plant) rows true head bytes → IsSomeLogBegun plant part judged levels bytes
  headed_begun bytes given =
      let begun = subst (λ (h : List ℕ). IsBegun (depth_limit plant) rows true h bytes) is given in
      some_begun true plant part rows judged levels sums units derivations begun.tree begun.claim bytes begun.rest has (can.enlarged, begun.text) begun.writable

  -- so it is what an attempt leaves that did not end
  pub headed-told : (files : Option FileMap) → IfSome (bytes_in name files) (IsBegun (depth_limit plant) rows true head) → IfSome (bytes_in name files) (IsSomeLogBegun plant part judged levels)
  headed-told files begun = told_weaker (bytes_in name files) (IsBegun (depth_limit plant) rows true head) (IsSomeLogBegun plant part judged levels) headed_begun begun

  pub headed-left : (old new : Option FileMap) → LeavesBegun (depth_limit plant) rows true head name old new → LeavesSomeBegun plant part judged levels name old new
  headed-left old new (inl same) = inl same
  headed-left old new (inr begun) = inr (headed-told new begun)

-- the bytes of a file that is told are a text
pub told-bytes : (name own : List ℕ) (files : Option FileMap) (text whole_text : List ℕ) → own ≡ name → text ≡ whole_text → IfSome files (λ m. file_of m own ≡ text) → IfSome (bytes_in name files) (λ bytes. bytes ≡ whole_text)
told-bytes name own None text whole_text named same is = tt
told-bytes name own (Some m) text whole_text named same is = ap (file_of m) (sym named) ∙ is ∙ same
