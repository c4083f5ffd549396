-- What is under a name after the calls of a shelf, and how such calls follow one another.
-- `told` is what a shelf tells of its files, if it tells them.
use Rattle.std.proofs.Common.{◌≡◌, ◌≢◌, ℕ, ◌≤◌, cond, Bool, true, false, List, [], ◌++◌, Option, None, Some, refl, sym, ap, ◌∙◌, arith, append_assoc}
use Rattle.std.specs.Option.{option_map, unwrap_or}
use Rattle.std.specs.Ordering.{nat_cmp, eq_by_cmp}
use Rattle.std.specs.Cmp.Lexicographic.{slice_cmp, nat_list_cmp_total}
use Rattle.std.specs.FinMap.{get, insert, get-insert, same_map, nat_cmp-IsAntisymmetric, slice_cmp-IsAntisymmetric}
use Rattle.std.proofs.lemmas.Slice.Eq.{bytes_eq-Decides}
use Rattle.std.proofs.lemmas.Map.Text.{is_eq-slice_cmp}
use Rattle.stn_edge.specs.Count.{Rose}
use Rattle.stn_edge.specs.Files.{FileMap, file_of, cleared, appended}

same_name : (name : List ℕ) → eq_by_cmp (slice_cmp nat_cmp) name name ≡ true
same_name name = is_eq-slice_cmp name name ∙ (bytes_eq-Decides name name).1 refl

not_true : (b : Bool) → b ≢ true → b ≡ false
not_true true h = absurd (h refl)
not_true false h = refl

other_name : (other name : List ℕ) → other ≢ name → eq_by_cmp (slice_cmp nat_cmp) other name ≡ false
other_name other name apart = is_eq-slice_cmp other name ∙ not_true _ (λ e. apart ((bytes_eq-Decides other name).0 e))

pub get-insert_here : (files : FileMap) (name bytes : List ℕ) → get (insert files name bytes) name ≡ Some bytes
get-insert_here files name bytes =
    get-insert nat_list_cmp_total files name bytes name ∙ ap (λ b. cond b (Some bytes) (get files name)) (same_name name)

pub get-insert_other : (files : FileMap) (name bytes other : List ℕ) → other ≢ name → get (insert files name bytes) other ≡ get files other
get-insert_other files name bytes other apart =
    get-insert nat_list_cmp_total files name bytes other
    ∙ ap (λ b. cond b (Some bytes) (get files other)) (other_name other name apart)

-- the file that was put, cleared or appended to
pub file_of-insert : (files : FileMap) (name bytes : List ℕ) → file_of (insert files name bytes) name ≡ bytes
file_of-insert files name bytes = ap (λ o. unwrap_or o []) (get-insert_here files name bytes)

pub file_of-cleared : (name : List ℕ) (files : FileMap) → file_of (cleared name files) name ≡ []
unfolding cleared
file_of-cleared name files = file_of-insert files name []

pub file_of-appended : (name bytes : List ℕ) (files : FileMap) → file_of (appended name bytes files) name ≡ file_of files name ++ bytes
unfolding appended
file_of-appended name bytes files = file_of-insert files name (file_of files name ++ bytes)

-- every other file
pub get-cleared_other : (name : List ℕ) (files : FileMap) (other : List ℕ) → other ≢ name → get (cleared name files) other ≡ get files other
unfolding cleared
get-cleared_other name files other apart = get-insert_other files name [] other apart

pub get-appended_other : (name bytes : List ℕ) (files : FileMap) (other : List ℕ) → other ≢ name
    → get (appended name bytes files) other ≡ get files other
unfolding appended
get-appended_other name bytes files other apart = get-insert_other files name _ other apart

shadowed : (b : Bool) (x y z : Option (List ℕ)) → cond b x (cond b y z) ≡ cond b x z
shadowed true x y z = refl
shadowed false x y z = refl

-- one file after another under one name
pub insert-insert : (files : FileMap) (name first second : List ℕ) → insert (insert files name first) name second ≡ insert files name second
insert-insert files name first second =
    same_map nat_list_cmp_total (slice_cmp-IsAntisymmetric nat_cmp-IsAntisymmetric) _ _
    (λ q. get-insert nat_list_cmp_total (insert files name first) name second q
    ∙ ap (cond (eq_by_cmp (slice_cmp nat_cmp) q name) (Some second)) (get-insert nat_list_cmp_total files name first q)
    ∙ shadowed (eq_by_cmp (slice_cmp nat_cmp) q name) (Some second) (Some first) (get files q)
    ∙ sym (get-insert nat_list_cmp_total files name second q))

-- to append twice is to append both
pub appended-appended : (name first second : List ℕ) (files : FileMap)
    → appended name second (appended name first files) ≡ appended name (first ++ second) files
unfolding appended
appended-appended name first second files =
    insert-insert files name _ _
    ∙ ap (insert files name) (ap (λ bytes. bytes ++ second) (file_of-insert files name _) ∙ append_assoc (file_of files name) first second)

-- to append to a file that was cleared is to put it
pub appended-cleared : (name bytes : List ℕ) (files : FileMap) → appended name bytes (cleared name files) ≡ insert files name bytes
unfolding appended cleared
appended-cleared name bytes files =
    insert-insert files name [] _ ∙ ap (λ front. insert files name (front ++ bytes)) (file_of-insert files name [])

pub appended-appended_told : (name first second : List ℕ) (told : Option FileMap)
    → option_map (appended name second) (option_map (appended name first) told) ≡ option_map (appended name (first ++ second)) told
appended-appended_told name first second None = refl
appended-appended_told name first second (Some files) = ap Some (appended-appended name first second files)

pub appended-cleared_told : (name bytes : List ℕ) (told : Option FileMap)
    → option_map (appended name bytes) (option_map (cleared name) told) ≡ option_map (λ files. insert files name bytes) told
appended-cleared_told name bytes None = refl
appended-cleared_told name bytes (Some files) = ap Some (appended-cleared name bytes files)

-- a count that rose in a part of the work rose in all of it
pub Rose-later : (before middle after : ℕ) → Rose before middle → middle ≤ after → before ≤ middle → Rose before after
Rose-later before middle after rose more fewer = λ e. grind (arith, rose)

pub Rose-earlier : (before middle after : ℕ) → before ≤ middle → Rose middle after → Rose before after
Rose-earlier before middle after fewer rose = λ e. grind (arith, rose)
