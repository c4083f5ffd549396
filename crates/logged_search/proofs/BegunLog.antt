-- The bytes of a file after a writer of a log broke off are a first part of the text of a log.
use Rattle.std.proofs.Common.{◌≡◌, inl, inr, ⊎_elim, ℕ, ◌≤◌, Bool, List, [], ◌∷◌, ◌++◌, flat_map, Option, None, Some, IfSome, refl, sym, ap, ◌∙◌, subst, append_assoc}
use Rattle.std.specs.Prelude.{string_bytes}
use Rattle.std.specs.List.{sum_by}
use Rattle.std.specs.Option.{option_map}
use Rattle.std.proofs.lemmas.Grind.{flat_map-append}
use Rattle.stn_edge.specs.Files.{FileMap, MayClear, cleared, file_of}
use Rattle.stn_edge.proofs.FileLemmas.{file_of-cleared}
use Rattle.proof_tree.specs.Items.{tree_items}
use Rattle.row_relax.specs.declared.rows.Rows.{Rows}
use Rattle.row_relax.specs.RowProofs.{RowItem, RowTree}
use Rattle.branch_tree.specs.Searched.{IsBrokenOff, IsWritable, spared}
use Rattle.log_lines.specs.declared.line.Line.{Line}
use Rattle.log_lines.specs.declared.line.Line.TheVariants.{End}
use Rattle.proof_log.specs.declared.claim.Claim.{Claim}
use Rattle.proof_log.specs.declared.claim.Claim.TheVariants.{Infeasible}
use Rattle.proof_log.specs.declared.writer.LogWriter.{LogWriter}
use Rattle.proof_log.specs.Log.{item_lines, claim_lines, lines_text}
use Rattle.proof_log.specs.Writer.{Writing, writing, whole, IsWhole, Took, Broke}
use Rattle.proof_log.proofs.Lines.{lines_text-append}
use Rattle.proof_log.proofs.Writing.{Took-broke}
use Rattle.plan_told.specs.Ended.{empty_tree}
use Rattle.plan_told.specs.Proofs.{bytes_in}
use Rattle.plan_told.proofs.EmptyRoots.{empty-writable}
use Rattle.logged_search.specs.Logging.{IsBegun, LeavesBegun}

-- an empty file is a log that was begun
pub begun-empty : (most : ℕ) (rows : Rows) (floors : Bool) (head : List ℕ) → sum_by spared rows.program.root ≤ most → IsBegun most rows floors head []
begun-empty most rows floors head few = record {
  tree = empty_tree;
  claim = Infeasible;
  writable = empty-writable most rows floors few;
  rest = head ++ lines_text (flat_map item_lines (tree_items empty_tree) ++ (claim_lines Infeasible ++ End ∷ []));
  text = refl;
}

-- a writer that was not made leaves the files as they were, or its file empty
pub begun-clear : (most : ℕ) (rows : Rows) (floors : Bool) (head name : List ℕ) (old new : Option FileMap) → sum_by spared rows.program.root ≤ most → MayClear name old new → LeavesBegun most rows floors head name old new
begun-clear most rows floors head name old new few may =
    ⊎_elim (λ (same : new ≡ old). inl same)
    (λ (is : new ≡ option_map (cleared name) old). inr (subst (λ (told : Option FileMap). IfSome (bytes_in name told) (IsBegun most rows floors head)) (sym is) (at old)))
    may
  where
    at : (files : Option FileMap) → IfSome (bytes_in name (option_map (cleared name) files)) (IsBegun most rows floors head)
    at None = tt
    at (Some m) = subst (IsBegun most rows floors head) (sym (file_of-cleared name m)) (begun-empty most rows floors head few)

-- the lines of first items, and those of the later ones, of the claim and of the end are those of all items, of the claim and of the end
log_first : (items later : List RowItem) (tail : List Line) → lines_text (flat_map item_lines items) ++ lines_text (flat_map item_lines later ++ tail) ≡ lines_text (flat_map item_lines (items ++ later) ++ tail)
log_first items later tail =
    sym (lines_text-append (flat_map item_lines items) (flat_map item_lines later ++ tail))
    ∙ ap lines_text (sym (append_assoc (flat_map item_lines items) (flat_map item_lines later) tail) ∙ ap (λ (lines : List Line). lines ++ tail) (sym (flat_map-append item_lines items later)))

-- bytes that the rest of a head and of first items follows
begun_items : (most : ℕ) (rows : Rows) (floors : Bool) (head : List ℕ) (tree : RowTree) (items later : List RowItem) (bytes rest : List ℕ) → IsWritable most rows floors tree → tree_items tree ≡ items ++ later → bytes ++ rest ≡ head ++ lines_text (flat_map item_lines items) → IsBegun most rows floors head bytes
begun_items most rows floors head tree items later bytes rest writable first is =
    let tail = claim_lines Infeasible ++ End ∷ [] in
    let more = lines_text (flat_map item_lines later ++ tail) in
    record {
      tree = tree;
      claim = Infeasible;
      writable = writable;
      rest = rest ++ more;
      text =
          sym (append_assoc bytes rest more)
          ∙ ap (λ (text : List ℕ). text ++ more) is
          ∙ append_assoc head (lines_text (flat_map item_lines items)) more
          ∙ ap (λ (text : List ℕ). head ++ text) (log_first items later tail ∙ ap (λ (all : List RowItem). lines_text (flat_map item_lines all ++ tail)) (sym first));
    }

-- bytes that the rest of a head, of all items, of the claim and of the end follows
begun_claim : (most : ℕ) (rows : Rows) (floors : Bool) (head : List ℕ) (tree : RowTree) (claim : Claim) (bytes rest : List ℕ) → IsWritable most rows floors tree
    → bytes ++ rest ≡ head ++ (lines_text (flat_map item_lines (tree_items tree)) ++ lines_text (claim_lines claim ++ End ∷ [])) → IsBegun most rows floors head bytes
begun_claim most rows floors head tree claim bytes rest writable is = record {
  tree = tree;
  claim = claim;
  writable = writable;
  rest = rest;
  text = is ∙ ap (λ (text : List ℕ). head ++ text) (sym (lines_text-append (flat_map item_lines (tree_items tree)) (claim_lines claim ++ End ∷ [])));
}

-- a file with what is held back, and a text that follows
grown : (text more : List ℕ) (all : Option (List ℕ)) → IfSome all (λ x. x ≡ text) → IfSome (option_map (λ (x : List ℕ). x ++ more) all) (λ x. x ≡ text ++ more)
grown text more None is = tt
grown text more (Some all) is = ap (λ (x : List ℕ). x ++ more) is

-- a file that a rest follows
told : (most : ℕ) (rows : Rows) (floors : Bool) (head name rest text : List ℕ) (files : Option FileMap) → IfSome (option_map (λ (m : FileMap). file_of m name ++ rest) files) (λ x. x ≡ text) → ((bytes : List ℕ) → bytes ++ rest ≡ text → IsBegun most rows floors head bytes) → IfSome (bytes_in name files) (IsBegun most rows floors head)
told most rows floors head name rest text None is each = tt
told most rows floors head name rest text (Some m) is each = each (file_of m name) is

-- after the head a text was not taken, or in part
broken : (most : ℕ) (rows : Rows) (floors : Bool) (head : List ℕ) (old new : Writing) (text : List ℕ) → IsWhole old head → Broke old new text → ((bytes rest : List ℕ) → bytes ++ rest ≡ head ++ text → IsBegun most rows floors head bytes) → IfSome (bytes_in old.name new.files) (IsBegun most rows floors head)
broken most rows floors head old new text header broke each =
    let all = subst (λ (told : Option (List ℕ)). IfSome told (λ x. x ≡ head ++ text)) (sym broke.part.1) (grown head text (whole old) header) in
    subst (λ (name : List ℕ). IfSome (bytes_in name new.files) (IsBegun most rows floors head)) broke.keeps.name
    (told most rows floors head new.name broke.part.0 (head ++ text) new.files all (λ bytes. each bytes broke.part.0))

-- what was taken is also what was taken in part
broke_of : (old new : Writing) (text : List ℕ) → Took old new text → Broke old new text
broke_of old new text took = record { keeps = took.keeps; part = (new.held, took.grown) }

-- after the head some first items of a proof were not taken, or in part
pub begun-broke : (most : ℕ) (rows : Rows) (floors : Bool) (head : List ℕ) (old new : Writing) (tree : RowTree) (items later : List RowItem)
    → IsWhole old head → tree_items tree ≡ items ++ later → IsWritable most rows floors tree
    → Broke old new (lines_text (flat_map item_lines items)) → IfSome (bytes_in old.name new.files) (IsBegun most rows floors head)
begun-broke most rows floors head old new tree items later header first writable broke =
    broken most rows floors head old new (lines_text (flat_map item_lines items)) header broke (λ bytes rest is. begun_items most rows floors head tree items later bytes rest writable first is)

-- after the head some first items of a proof were taken
pub begun-took : (most : ℕ) (rows : Rows) (floors : Bool) (head : List ℕ) (old new : Writing) (tree : RowTree) (items later : List RowItem)
    → IsWhole old head → tree_items tree ≡ items ++ later → IsWritable most rows floors tree
    → Took old new (lines_text (flat_map item_lines items)) → IfSome (bytes_in old.name new.files) (IsBegun most rows floors head)
begun-took most rows floors head old new tree items later header first writable took =
    begun-broke most rows floors head old new tree items later header first writable (broke_of old new (lines_text (flat_map item_lines items)) took)

-- after the head and all items of a proof the lines of the claim and the end were not taken, or in part
pub begun-finish : (most : ℕ) (rows : Rows) (floors : Bool) (head : List ℕ) (old between new : Writing) (tree : RowTree) (claim : Claim)
    → IsWhole old head → IsWritable most rows floors tree → Took old between (lines_text (flat_map item_lines (tree_items tree)))
    → Broke between new (lines_text (claim_lines claim ++ End ∷ [])) → IfSome (bytes_in old.name new.files) (IsBegun most rows floors head)
begun-finish most rows floors head old between new tree claim header writable took broke =
    let items = lines_text (flat_map item_lines (tree_items tree)) in
    let tail = lines_text (claim_lines claim ++ End ∷ []) in
    broken most rows floors head old new (items ++ tail) header (Took-broke old between new items tail took broke) (λ bytes rest is. begun_claim most rows floors head tree claim bytes rest writable is)

-- a search that broke off while a writer took its proof: the file is a log that was begun
pub begun-broken : {S : Type 0} (files : S → Option FileMap) (reads : S → ℕ) (may_read may_write : S → List ℕ → Bool) (most : ℕ) (rows : Rows) (floors : Bool) (head : List ℕ) (writer writer_after : LogWriter) (store store_after : S)
    → IsWhole (writing files reads may_read may_write writer store) head
    → IsBrokenOff (λ (a : LogWriter) (s : S) (items : List RowItem) (b : LogWriter) (t : S). Took (writing files reads may_read may_write a s) (writing files reads may_read may_write b t) (lines_text (flat_map item_lines items)))
    (λ (a : LogWriter) (s : S) (items : List RowItem) (b : LogWriter) (t : S). Broke (writing files reads may_read may_write a s) (writing files reads may_read may_write b t) (lines_text (flat_map item_lines items)))
    most rows floors writer store writer_after store_after
    → IfSome (bytes_in (string_bytes writer.name) (files store_after)) (IsBegun most rows floors head)
begun-broken files reads may_read may_write most rows floors head writer writer_after store store_after header broke =
    let old = writing files reads may_read may_write writer store in
    let new = writing files reads may_read may_write writer_after store_after in
    ⊎_elim (λ took. begun-took most rows floors head old new broke.tree broke.items broke.later header broke.first broke.writable took)
    (λ part_of. begun-broke most rows floors head old new broke.tree broke.items broke.later header broke.first broke.writable part_of) broke.handed
