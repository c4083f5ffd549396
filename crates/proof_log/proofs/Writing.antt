-- What a writer takes, step by step.
use Rattle.std.proofs.Common.{◌≡◌, ◌≢◌, ℕ, Bool, List, [], ◌∷◌, ◌++◌, flat_map, Option, None, Some, IfSome, Result, Ok, Err, OnOk, OnErr, ⊎_elim, take, drop, refl, sym, ap, ◌∙◌, subst, append_assoc}
use Rattle.std.specs.Option.{option_map}
use Rattle.std.specs.FinMap.{get}
use Rattle.std.proofs.lemmas.List.{append-nil, take-append-drop}
use Rattle.std.proofs.lemmas.Grind.{flat_map-append}
use Rattle.stn_edge.specs.Files.{FileMap, file_of, cleared, appended, MayAppend}
use Rattle.stn_edge.proofs.FileLemmas.{file_of-cleared, file_of-appended, get-appended_other}
use Rattle.log_lines.specs.declared.line.Line.{Line}
use Rattle.log_lines.specs.declared.line.Line.TheVariants.{Header, End}
use Rattle.proof_log.specs.declared.claim.Claim.{Claim}
use Rattle.row_relax.specs.RowProofs.{RowItem}
use Rattle.proof_log.specs.Log.{item_lines, claim_lines, lines_text, log_text}
use Rattle.proof_log.specs.Writer.{Writing, whole, IsWhole, KeepsOthers, Took, Broke}
use Rattle.proof_log.proofs.Lines.{lines_text-append, log_text-parts}

-- what a write to the file leaves as it is: the count of read faults, and the names that may be read and written
pub record Rest : Type 0 where
  pub reads : ℕ
  pub may_read : List ℕ → Bool
  pub may_write : List ℕ → Bool

-- that of a store of which these calls tell it
abbrev pub rest_of : {S : Type 0} → (S → ℕ) → (S → List ℕ → Bool) → (S → List ℕ → Bool) → S → Rest
rest_of reads may_read may_write store = record { reads = reads store; may_read = may_read store; may_write = may_write store }

pub same_rest : (old new : Rest) → new.reads ≡ old.reads → new.may_read ≡ old.may_read → new.may_write ≡ old.may_write → new ≡ old
same_rest old new reads may_read may_write = rw (reads, may_read, may_write) refl

-- a writer of a file of this name that holds these bytes back
abbrev pub at : List ℕ → List ℕ → Option FileMap → Rest → Writing
at name held files rest = record {
  name = name;
  held = held;
  files = files;
  reads = rest.reads;
  may_read = rest.may_read;
  may_write = rest.may_write;
}

-- to keep twice is to keep
Keeps-then : (a b c : Writing) → KeepsOthers a b → KeepsOthers b c → KeepsOthers a c
Keeps-then a b c first second = record {
  name = second.name ∙ first.name;
  others = λ other apart. second.others other (λ is. apart (is ∙ first.name)) ∙ first.others other apart;
  reads = second.reads ∙ first.reads;
  may_read = second.may_read ∙ first.may_read;
  may_write = second.may_write ∙ first.may_write;
}

-- the files that an append to one of them leaves as they are
others-appended : (name bytes other : List ℕ) (files : Option FileMap) → other ≢ name → option_map (λ (m : FileMap). get m other) (option_map (appended name bytes) files) ≡ option_map (λ (m : FileMap). get m other) files
others-appended name bytes other None apart = refl
others-appended name bytes other (Some files) apart = ap Some (get-appended_other name bytes files other apart)

Keeps-appended : (name held later bytes : List ℕ) (files : Option FileMap) (rest : Rest) → KeepsOthers (at name held files rest) (at name later (option_map (appended name bytes) files) rest)
Keeps-appended name held later bytes files rest = record { name = refl; others = λ other apart. others-appended name bytes other files apart; reads = refl; may_read = refl; may_write = refl }

-- one text and then another
grown_twice : (t u : List ℕ) (all : Option (List ℕ)) → option_map (λ (x : List ℕ). x ++ u) (option_map (λ (x : List ℕ). x ++ t) all) ≡ option_map (λ (x : List ℕ). x ++ (t ++ u)) all
grown_twice t u None = refl
grown_twice t u (Some all) = ap Some (append_assoc all t u)

pub Took-then : (a b c : Writing) (t u : List ℕ) → Took a b t → Took b c u → Took a c (t ++ u)
Took-then a b c t u first second = record {
  keeps = Keeps-then a b c first.keeps second.keeps;
  grown = second.grown ∙ ap (option_map (λ (x : List ℕ). x ++ u)) first.grown ∙ grown_twice t u (whole a);
}

pub Took-broke : (a b c : Writing) (t u : List ℕ) → Took a b t → Broke b c u → Broke a c (t ++ u)
Took-broke a b c t u first second = record {
  keeps = Keeps-then a b c first.keeps second.keeps;
  part = (second.part.0, second.part.1 ∙ ap (option_map (λ (x : List ℕ). x ++ u)) first.grown ∙ grown_twice t u (whole a));
}

-- what is held back takes a text
held_more : (name held more : List ℕ) (files : Option FileMap) → option_map (λ (m : FileMap). file_of m name ++ (held ++ more)) files ≡ option_map (λ (x : List ℕ). x ++ more) (option_map (λ (m : FileMap). file_of m name ++ held) files)
held_more name held more None = refl
held_more name held more (Some files) = ap Some (sym (append_assoc (file_of files name) held more))

pub Took-held : (name held more later : List ℕ) (files : Option FileMap) (rest : Rest) → later ≡ held ++ more → Took (at name held files rest) (at name later files rest) more
Took-held name held more later files rest is = record {
  keeps = record { name = refl; others = λ other apart. refl; reads = refl; may_read = refl; may_write = refl };
  grown = ap (λ (bytes : List ℕ). option_map (λ (m : FileMap). file_of m name ++ bytes) files) is ∙ held_more name held more files;
}

-- where it takes none of it, the file is a first part
pub Broke-held : (name held more later : List ℕ) (files : Option FileMap) (rest : Rest) → Broke (at name held files rest) (at name later files rest) more
Broke-held name held more later files rest = record {
  keeps = record { name = refl; others = λ other apart. refl; reads = refl; may_read = refl; may_write = refl };
  part = (held ++ more, held_more name held more files);
}

-- a first part of what is held back is written, and this is the rest of it
written_part : (name held first rest : List ℕ) (files : Option FileMap) → first ++ rest ≡ held → option_map (λ (m : FileMap). file_of m name ++ rest) (option_map (appended name first) files) ≡ option_map (λ (x : List ℕ). x ++ []) (option_map (λ (m : FileMap). file_of m name ++ held) files)
written_part name held first rest None is = refl
written_part name held first rest (Some files) is =
    ap Some (ap (λ (x : List ℕ). x ++ rest) (file_of-appended name first files) ∙ append_assoc (file_of files name) first rest ∙ ap (λ (x : List ℕ). file_of files name ++ x) is ∙ sym (append-nil (file_of files name ++ held)))

-- all that is held back is written
pub Took-written : (name held later : List ℕ) (files new : Option FileMap) (rest : Rest) → later ≡ [] → new ≡ option_map (appended name held) files → Took (at name held files rest) (at name later new rest) []
Took-written name held later files new rest none is =
    let empty : Took (at name held files rest) (at name [] (option_map (appended name held) files) rest) [] = record {
      keeps = Keeps-appended name held [] held files rest;
      grown = written_part name held held [] files (append-nil held);
    } in
    subst (λ (bytes : List ℕ). Took (at name held files rest) (at name bytes new rest) []) (sym none)
    (subst (λ (told : Option FileMap). Took (at name held files rest) (at name [] told rest) []) (sym is) empty)

-- a first part of it is written
pub Broke-written : (name held later : List ℕ) (count : ℕ) (files new : Option FileMap) (rest : Rest) → new ≡ option_map (appended name (take count held)) files → Broke (at name held files rest) (at name later new rest) []
Broke-written name held later count files new rest is =
    let part : Broke (at name held files rest) (at name later (option_map (appended name (take count held)) files) rest) [] = record {
      keeps = Keeps-appended name held later (take count held) files rest;
      part = (drop count held, written_part name held (take count held) (drop count held) files (take-append-drop count held));
    } in
    subst (λ (told : Option FileMap). Broke (at name held files rest) (at name later told rest) []) (sym is) part

-- the lines of one item more
pub items_more : (items : List RowItem) (item : RowItem) → lines_text (flat_map item_lines items) ++ lines_text (item_lines item) ≡ lines_text (flat_map item_lines (items ++ item ∷ []))
items_more items item =
    sym (lines_text-append (flat_map item_lines items) (item_lines item))
    ∙ ap lines_text (ap (λ (lines : List Line). flat_map item_lines items ++ lines) (sym (append-nil (item_lines item))) ∙ sym (flat_map-append item_lines items (item ∷ [])))

-- a file with what is held back, and a text that is taken then
grown_from : (text more : List ℕ) (all : Option (List ℕ)) → IfSome all (λ x. x ≡ text) → IfSome (option_map (λ (x : List ℕ). x ++ more) all) (λ x. x ≡ text ++ more)
grown_from text more None is = tt
grown_from text more (Some all) is = ap (λ (x : List ℕ). x ++ more) is

pub IsWhole-took : (a b : Writing) (text more : List ℕ) → IsWhole a text → Took a b more → IsWhole b (text ++ more)
IsWhole-took a b text more is took =
    subst (λ (all : Option (List ℕ)). IfSome all (λ x. x ≡ text ++ more)) (sym took.grown) (grown_from text more (whole a) is)

-- a file behind which nothing is held back
file_alone : (name text : List ℕ) (files : Option FileMap) → IfSome (option_map (λ (m : FileMap). file_of m name ++ []) files) (λ x. x ≡ text) → IfSome files (λ m. file_of m name ≡ text)
file_alone name text None is = tt
file_alone name text (Some files) is = sym (append-nil (file_of files name)) ∙ is

-- the lines of a proof, and then those of a claim and the end, are the text of the log
pub log_written : (name held : List ℕ) (files new : Option FileMap) (rest later : Rest) (items : List RowItem) (claim : Claim) → Took (at name held files rest) (at name [] new later) (lines_text (claim_lines claim ++ End ∷ [])) → IsWhole (at name held files rest) (lines_text (Header 2 ∷ flat_map item_lines items)) → IfSome new (λ m. file_of m name ≡ log_text 2 items claim)
log_written name held files new rest later items claim took is =
    let front = Header 2 ∷ flat_map item_lines items in
    file_alone name (log_text 2 items claim) new
    (subst (IsWhole (at name [] new later)) (log_text-parts 2 items claim) (IsWhole-took (at name held files rest) (at name [] new later) (lines_text front) (lines_text (claim_lines claim ++ End ∷ [])) is took))

-- any text and the lines of a proof, and then those of a claim and the end
pub file_written : (name held text : List ℕ) (files new : Option FileMap) (rest later : Rest) (items : List RowItem) (claim : Claim) → Took (at name held files rest) (at name [] new later) (lines_text (claim_lines claim ++ End ∷ []))
    → IsWhole (at name held files rest) (text ++ lines_text (flat_map item_lines items)) → IfSome new (λ m. file_of m name ≡ text ++ lines_text (flat_map item_lines items ++ (claim_lines claim ++ End ∷ [])))
file_written name held text files new rest later items claim took is =
    let proof = lines_text (flat_map item_lines items) in
    let end = lines_text (claim_lines claim ++ End ∷ []) in
    let joined : (text ++ proof) ++ end ≡ text ++ lines_text (flat_map item_lines items ++ (claim_lines claim ++ End ∷ [])) =
    append_assoc text proof end ∙ ap (λ (bytes : List ℕ). text ++ bytes) (sym (lines_text-append (flat_map item_lines items) (claim_lines claim ++ End ∷ []))) in
    file_alone name (text ++ lines_text (flat_map item_lines items ++ (claim_lines claim ++ End ∷ []))) new
    (subst (IsWhole (at name [] new later)) joined (IsWhole-took (at name held files rest) (at name [] new later) (text ++ proof) end is took))

-- a text after which nothing is taken
pub Took-after : (a b c : Writing) (text : List ℕ) → Took a b text → Took b c [] → Took a c text
Took-after a b c text first second = subst (Took a c) (append-nil text) (Took-then a b c text [] first second)

pub Broke-after : (a b c : Writing) (text : List ℕ) → Took a b text → Broke b c [] → Broke a c text
Broke-after a b c text first second = subst (Broke a c) (append-nil text) (Took-broke a b c text [] first second)

-- an append of what is held back, in the words of the call
pub Took-append : (name held later title bytes : List ℕ) (files new : Option FileMap) (rest after : Rest) → title ≡ name → bytes ≡ held → later ≡ [] → after ≡ rest → new ≡ option_map (appended title bytes) files → Took (at name held files rest) (at name later new after) []
Took-append name held later title bytes files new rest after titled all none same is =
    let own : new ≡ option_map (appended name held) files = is ∙ ap (λ (t : List ℕ). option_map (appended t bytes) files) titled ∙ ap (λ (b : List ℕ). option_map (appended name b) files) all in
    subst (λ (r : Rest). Took (at name held files rest) (at name later new r) []) (sym same) (Took-written name held later files new rest none own)

Broke-may : (name held later : List ℕ) (files new : Option FileMap) (rest : Rest) → MayAppend name held files new → Broke (at name held files rest) (at name later new rest) []
Broke-may name held later files new rest may =
    ⊎_elim (λ (same : new ≡ files). subst (λ (told : Option FileMap). Broke (at name held files rest) (at name later told rest) []) (sym same) (Broke-held name held [] later files rest))
    (λ (count, is). Broke-written name held later count files new rest is) may

pub Broke-append : (name held later title bytes : List ℕ) (files new : Option FileMap) (rest after : Rest) → title ≡ name → bytes ≡ held → after ≡ rest → MayAppend title bytes files new → Broke (at name held files rest) (at name later new after) []
Broke-append name held later title bytes files new rest after titled all same may =
    let own : MayAppend name held files new = subst (λ (b : List ℕ). MayAppend name b files new) all (subst (λ (t : List ℕ). MayAppend t bytes files new) titled may) in
    subst (λ (r : Rest). Broke (at name held files rest) (at name later new r) []) (sym same) (Broke-may name held later files new rest own)

-- what is held back after a fault is of no account, and a name is its text
pub Broke-renamed : (a : Writing) (name own held later text : List ℕ) (files : Option FileMap) (rest : Rest) → own ≡ name → Broke a (at own held files rest) text → Broke a (at name later files rest) text
Broke-renamed a name own held later text files rest is broke =
    subst (λ (n : List ℕ). Broke a (at n later files rest) text) is (record { keeps = record { name = broke.keeps.name; others = broke.keeps.others; reads = broke.keeps.reads; may_read = broke.keeps.may_read; may_write = broke.keeps.may_write }; part = broke.part })

pub Took-renamed : (a : Writing) (name own held text : List ℕ) (files : Option FileMap) (rest : Rest) → own ≡ name → held ≡ [] → Took a (at own held files rest) text → Took a (at name [] files rest) text
Took-renamed a name own held text files rest is none took =
    subst (λ (n : List ℕ). Took a (at n [] files rest) text) is (subst (λ (bytes : List ℕ). Took a (at own bytes files rest) text) none took)

-- a file that was cleared, and what is held back
whole_cleared : (name held text : List ℕ) (old : Option FileMap) → held ≡ text → IfSome (option_map (λ (m : FileMap). file_of m name ++ held) (option_map (cleared name) old)) (λ all. all ≡ text)
whole_cleared name held text None is = tt
whole_cleared name held text (Some old) is = ap (λ (bytes : List ℕ). bytes ++ held) (file_of-cleared name old) ∙ is

pub IsWhole-cleared : (name own held text : List ℕ) (old new : Option FileMap) (rest : Rest) → own ≡ name → new ≡ option_map (cleared name) old → held ≡ text → IsWhole (at own held new rest) text
IsWhole-cleared name own held text old new rest named is holds =
    subst (λ (n : List ℕ). IsWhole (at n held new rest) text) (sym named)
    (subst (λ (told : Option FileMap). IsWhole (at name held told rest) text) (sym is) (whole_cleared name held text old holds))

-- what holds anyway holds after an error
pub OnErr-holds : {T E P : Type 0} (r : Result T E) → P → OnErr r P
OnErr-holds (Ok x) holds = tt
OnErr-holds (Err e) holds = holds

-- two facts after a success give a third
pub OnOk-both : {T E P Q S : Type 0} (r : Result T E) → (P → Q → S) → OnOk r P → OnOk r Q → OnOk r S
OnOk-both (Ok x) both first second = both first second
OnOk-both (Err e) both first second = tt
