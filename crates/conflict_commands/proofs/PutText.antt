-- A text that is put in the place of a file.
use Rattle.std.proofs.Common.{◌≡◌, ◌≢◌, ℕ, List, ◌++◌, length, take, Option, Some, None, inl, inr, refl, ap, sym, subst, ◌∙◌, arith}
use Rattle.std.specs.Prelude.{IfSome, Result, Ok, Err, OnOk, OnErr}
use Rattle.std.specs.Option.{option_map}
use Rattle.std.specs.FinMap.{get}
use Rattle.std.proofs.lemmas.List.{take_all}
use Rattle.stn_edge.specs.Files.{FileMap, file_of, cleared, appended, OthersStay, MayClear, MayAppend}
use Rattle.stn_edge.proofs.FileLemmas.{file_of-cleared, file_of-appended, get-cleared_other, get-appended_other}
use Rattle.plan_told.specs.Proofs.{bytes_in}
use Rattle.order_conflict.specs.Logged.{FileStays}
use Rattle.conflict_commands.specs.Logging.{IsTextBegun}

-- files that are as before have each file as before
pub stays_same : (name : List ℕ) (old new : Option FileMap) → new ≡ old → FileStays name old new
stays_same name old new same = ap (λ (files : Option FileMap). option_map (λ m. get m name) files) same

-- the bytes of a file that was cleared, and to which these were appended
put_whole : (name bytes : List ℕ) (old : Option FileMap) → IfSome (option_map (appended name bytes) (option_map (cleared name) old)) (λ m. file_of m name ≡ bytes)
put_whole name bytes None = tt
put_whole name bytes (Some m) = file_of-appended name bytes (cleared name m) ∙ ap (λ (front : List ℕ). front ++ bytes) (file_of-cleared name m)

pub put_ok : (name bytes : List ℕ) (old mid new : Option FileMap) → mid ≡ option_map (cleared name) old → new ≡ option_map (appended name bytes) mid → IfSome new (λ m. file_of m name ≡ bytes)
put_ok name bytes old mid new clear append =
    subst (λ (files : Option FileMap). IfSome files (λ m. file_of m name ≡ bytes)) (sym (append ∙ ap (option_map (appended name bytes)) clear)) (put_whole name bytes old)

-- a file that was cleared is a first part of any text
cleared_begun : (name bytes : List ℕ) (old : Option FileMap) → IfSome (bytes_in name (option_map (cleared name) old)) (λ own. own ≡ take 0 bytes)
cleared_begun name bytes None = tt
cleared_begun name bytes (Some m) = file_of-cleared name m

part_begun : (name bytes : List ℕ) (count : ℕ) (old : Option FileMap) → IfSome (bytes_in name (option_map (appended name (take count bytes)) (option_map (cleared name) old))) (λ own. own ≡ take count bytes)
part_begun name bytes count None = tt
part_begun name bytes count (Some m) = file_of-appended name (take count bytes) (cleared name m) ∙ ap (λ (front : List ℕ). front ++ take count bytes) (file_of-cleared name m)

-- what a clearing leaves that failed
pub clear_failed : (name bytes : List ℕ) (old new : Option FileMap) → MayClear name old new → IsTextBegun name bytes old new
clear_failed name bytes old new (inl same) = inl (stays_same name old new same)
clear_failed name bytes old new (inr is) = inr (0, subst (λ (files : Option FileMap). IfSome (bytes_in name files) (λ own. own ≡ take 0 bytes)) (sym is) (cleared_begun name bytes old))

-- what an appending leaves that failed
pub append_failed : (name bytes : List ℕ) (old mid new : Option FileMap) → mid ≡ option_map (cleared name) old → MayAppend name bytes mid new → IsTextBegun name bytes old new
append_failed name bytes old mid new clear (inl same) =
    inr (0, subst (λ (files : Option FileMap). IfSome (bytes_in name files) (λ own. own ≡ take 0 bytes)) (sym (same ∙ clear)) (cleared_begun name bytes old))
append_failed name bytes old mid new clear (inr is) =
    inr (is.0, subst (λ (files : Option FileMap). IfSome (bytes_in name files) (λ own. own ≡ take is.0 bytes)) (sym (is.1 ∙ ap (option_map (appended name (take is.0 bytes))) clear)) (part_begun name bytes is.0 old))

-- every other file is as before
others_cleared : (name other : List ℕ) (old : Option FileMap) → other ≢ name → FileStays other old (option_map (cleared name) old)
others_cleared name other None differs = refl
others_cleared name other (Some m) differs = ap (λ (o : Option (List ℕ)). Some o) (get-cleared_other name m other differs)

others_appended : (name bytes other : List ℕ) (old : Option FileMap) → other ≢ name → FileStays other old (option_map (appended name bytes) old)
others_appended name bytes other None differs = refl
others_appended name bytes other (Some m) differs = ap (λ (o : Option (List ℕ)). Some o) (get-appended_other name bytes m other differs)

pub clear_others : (name : List ℕ) (old new : Option FileMap) → MayClear name old new → OthersStay name old new
clear_others name old new (inl same) = λ other differs. stays_same other old new same
clear_others name old new (inr is) = λ other differs. stays_same other (option_map (cleared name) old) new is ∙ others_cleared name other old differs

pub cleared_others : (name : List ℕ) (old new : Option FileMap) → new ≡ option_map (cleared name) old → OthersStay name old new
cleared_others name old new is = clear_others name old new (inr is)

pub append_others : (name bytes : List ℕ) (old new : Option FileMap) → MayAppend name bytes old new → OthersStay name old new
append_others name bytes old new (inl same) = λ other differs. stays_same other old new same
append_others name bytes old new (inr is) = λ other differs. stays_same other (option_map (appended name (take is.0 bytes)) old) new is.1 ∙ others_appended name (take is.0 bytes) other old differs

pub appended_others : (name bytes : List ℕ) (old new : Option FileMap) → new ≡ option_map (appended name bytes) old → OthersStay name old new
appended_others name bytes old new is = λ other differs. stays_same other (option_map (appended name bytes) old) new is ∙ others_appended name bytes other old differs

-- two steps that leave every other file leave it
pub others_both : (name : List ℕ) (old mid new : Option FileMap) → OthersStay name old mid → OthersStay name mid new → OthersStay name old new
others_both name old mid new first second = λ other differs. second other differs ∙ first other differs

whole_begun : (name bytes : List ℕ) (files : Option FileMap) → IfSome files (λ m. file_of m name ≡ bytes) → IfSome (bytes_in name files) (λ own. own ≡ take (length bytes) bytes)
whole_begun name bytes None is = tt
whole_begun name bytes (Some m) is = is ∙ sym (take_all (length bytes) bytes (omega arith))

-- what an appending leaves, whole or not
pub put_begun : {X E : Type 0} (name bytes : List ℕ) (old mid new : Option FileMap) (r : Result X E) → mid ≡ option_map (cleared name) old → OnOk r (new ≡ option_map (appended name bytes) mid) → OnErr r (MayAppend name bytes mid new)
    → IsTextBegun name bytes old new
put_begun name bytes old mid new (Ok x) clear ok err = inr (length bytes, whole_begun name bytes new (put_ok name bytes old mid new clear ok))
put_begun name bytes old mid new (Err e) clear ok err = append_failed name bytes old mid new clear err

pub put_others : {X E : Type 0} (name bytes : List ℕ) (old mid new : Option FileMap) (r : Result X E) → mid ≡ option_map (cleared name) old → OnOk r (new ≡ option_map (appended name bytes) mid) → OnErr r (MayAppend name bytes mid new)
    → OthersStay name old new
put_others name bytes old mid new (Ok x) clear ok err = others_both name old mid new (cleared_others name old mid clear) (appended_others name bytes mid new ok)
put_others name bytes old mid new (Err e) clear ok err = others_both name old mid new (cleared_others name old mid clear) (append_others name bytes mid new err)
