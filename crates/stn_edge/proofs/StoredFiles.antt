-- The files that the entries of a map are: what a look-up finds, and what a change leaves.
use Rattle.std.proofs.Common.{◌≡◌, ℕ, Bool, true, false, cond, List, [], ◌∷◌, ◌++◌, map, Option, None, Some, Result, Ok, Err, OnOk, OnErr, is_ok, IsSome, String, Vec, Global, string_bytes, refl, sym, ap, ◌∙◌}
use Rattle.std.specs.Bool.{if◌then◌else◌}
use Rattle.std.specs.Option.{option_map}
use Rattle.std.specs.Ordering.{nat_cmp, is_eq, eq_by_cmp}
use Rattle.std.specs.Cmp.{eq_by_cmp_equiv}
use Rattle.std.specs.Cmp.Lexicographic.{slice_cmp, nat_list_cmp_total}
use Rattle.std.specs.BTreeMap.{BTreeMap, UpdatesBy, WritesThrough, get_by_text, is_at}
use Rattle.std.specs.Map.{lookup}
use Rattle.std.specs.Str.{bytes_eq}
use Rattle.std.specs.String.{string_cmp}
use Rattle.std.specs.FinMap.{get, insert, find, get-insert, get-from_entries, same_map, nat_cmp-IsAntisymmetric, slice_cmp-IsAntisymmetric}
use Rattle.std.proofs.lemmas.Slice.Eq.{bytes_eq-Decides}
use Rattle.std.proofs.lemmas.Map.Text.{btree_map_updates_text, is_eq-slice_cmp}
use Rattle.stn_edge.specs.Files.{appended}
use Rattle.stn_edge.specs.Entries.{files_of}

-- a map from texts to bytes
abbrev pub Stored : Type 0
Stored = BTreeMap (String Global) (Vec ℕ Global)

chosen : (b : Bool) (v : Vec ℕ Global) (x : Option (List ℕ)) (y : Option (Vec ℕ Global)) → x ≡ option_map (λ w. w.items) y
    → cond b (Some v.items) x ≡ option_map (λ w. w.items) (cond b (Some v) y)
chosen true v x y e = refl
chosen false v x y e = e

find-stored : (name : List ℕ) (es : List (String Global × Vec ℕ Global))
    → find (slice_cmp nat_cmp) name (map (λ e. (string_bytes e.0, e.1.items)) es)
    ≡ option_map (λ w. w.items) (lookup (is_at (λ k. slice_cmp nat_cmp name (string_bytes k))) es)
find-stored name [] = refl
find-stored name (e ∷ es) = chosen (is_eq (slice_cmp nat_cmp name (string_bytes e.0))) e.1 _ _ (find-stored name es)

-- the file of a name is what the map has at that text
pub get-files_of : (m : Stored) (name : List ℕ)
    → get (files_of m.entries) name ≡ option_map (λ w. w.items) (get_by_text m name)
get-files_of m name = get-from_entries nat_list_cmp_total _ name ∙ find-stored name m.entries

same_test : (name q : List ℕ) → bytes_eq name q ≡ eq_by_cmp (slice_cmp nat_cmp) q name
same_test name q = sym (is_eq-slice_cmp name q) ∙ (eq_by_cmp_equiv nat_list_cmp_total).symm name q

get_after : (m n : Stored) (name : List ℕ) (v : Vec ℕ Global)
    → UpdatesBy string_cmp (λ k. slice_cmp nat_cmp name (string_bytes k)) m n (Some v)
    → (q : List ℕ) → get (files_of n.entries) q ≡ get (insert (files_of m.entries) name v.items) q
get_after m n name v changes q =
    get-files_of n q ∙ ap (option_map (λ w. w.items)) (btree_map_updates_text name m n (Some v) changes q)
    ∙ sym (chosen (bytes_eq name q) v _ _ (get-files_of m q))
    ∙ ap (λ b. cond b (Some v.items) (get (files_of m.entries) q)) (same_test name q)
    ∙ sym (get-insert nat_list_cmp_total (files_of m.entries) name v.items q)

-- to set the value at a text is to put the file of that name
pub files_of-set : (m n : Stored) (name : List ℕ) (v : Vec ℕ Global)
    → UpdatesBy string_cmp (λ k. slice_cmp nat_cmp name (string_bytes k)) m n (Some v)
    → files_of n.entries ≡ insert (files_of m.entries) name v.items
files_of-set m n name v changes =
    same_map nat_list_cmp_total (slice_cmp-IsAntisymmetric nat_cmp-IsAntisymmetric) _ _ (get_after m n name v changes)

-- the test by which a text finds its key
abbrev pub Writes : List ℕ → Stored → Vec ℕ Global → Stored → Type 0
Writes name m v n = WritesThrough string_cmp (λ k. slice_cmp nat_cmp name (string_bytes k)) m v n

is_there : (m : Stored) (name : List ℕ) (v : Vec ℕ Global) → get_by_text m name ≡ Some v → IsSome (get_by_text m name)
is_there m name v found = rw found

file_there : (m : Stored) (name : List ℕ) (v : Vec ℕ Global) → get_by_text m name ≡ Some v
    → get (files_of m.entries) name ≡ Some v.items
file_there m name v found = get-files_of m name ∙ ap (option_map (λ w. w.items)) found

kept : (b : Bool) (x y : Option (List ℕ)) → (b ≡ true → x ≡ y) → cond b x y ≡ y
kept true x y e = e refl
kept false x y e = refl

same_text : (q name : List ℕ) → eq_by_cmp (slice_cmp nat_cmp) q name ≡ true → q ≡ name
same_text q name e = (bytes_eq-Decides q name).0 (sym (is_eq-slice_cmp q name) ∙ e)

-- to put the bytes that a file has changes nothing
insert-same : (m : Stored) (name bytes : List ℕ) → get (files_of m.entries) name ≡ Some bytes
    → insert (files_of m.entries) name bytes ≡ files_of m.entries
insert-same m name bytes found =
    same_map nat_list_cmp_total (slice_cmp-IsAntisymmetric nat_cmp-IsAntisymmetric) _ _
    (λ q. get-insert nat_list_cmp_total (files_of m.entries) name bytes q
    ∙ kept (eq_by_cmp (slice_cmp nat_cmp) q name) (Some bytes) (get (files_of m.entries) q)
    (λ e. sym found ∙ ap (get (files_of m.entries)) (sym (same_text q name e))))

-- to write the value at a text that is there is to put the file of that name
files_of-written : (m n : Stored) (name : List ℕ) (v w : Vec ℕ Global) → get_by_text m name ≡ Some v → Writes name m w n
    → files_of n.entries ≡ insert (files_of m.entries) name w.items
files_of-written m n name v w found writes =
    files_of-set m n name w (writes.3 (is_there m name v found))

-- what the file is once bytes were put to its end, or none for want of memory
pub grown : {T E : Type 0} (r : Result T E) (m n : Stored) (name bytes : List ℕ) (v w : Vec ℕ Global)
    → get_by_text m name ≡ Some v → Writes name m w n
    → w.items ≡ (if is_ok r then v.items ++ bytes else v.items)
    → OnOk r (files_of n.entries ≡ appended name bytes (files_of m.entries))
unfolding appended
grown (Ok x) m n name bytes v w found writes items =
    rw (file_there m name v found, ← items) (files_of-written m n name v w found writes)
grown (Err e) m n name bytes v w found writes items = tt

pub grown_not : {T E : Type 0} (r : Result T E) (m n : Stored) (name bytes : List ℕ) (v w : Vec ℕ Global)
    → get_by_text m name ≡ Some v → Writes name m w n
    → w.items ≡ (if is_ok r then v.items ++ bytes else v.items)
    → OnErr r (files_of n.entries ≡ files_of m.entries)
grown_not (Ok x) m n name bytes v w found writes items = tt
grown_not (Err e) m n name bytes v w found writes items =
    files_of-written m n name v w found writes
    ∙ ap (insert (files_of m.entries) name) items ∙ insert-same m name v.items (file_there m name v found)

-- to put a file that is not there is to put its bytes after none
pub appended_first : (m : Stored) (name bytes : List ℕ) → get_by_text m name ≡ None
    → insert (files_of m.entries) name bytes ≡ appended name bytes (files_of m.entries)
unfolding appended
appended_first m name bytes absent =
    let none : get (files_of m.entries) name ≡ None = get-files_of m name ∙ ap (option_map (λ w. w.items)) absent in
    rw none
