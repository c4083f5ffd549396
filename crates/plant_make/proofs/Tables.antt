-- What a table of entries holds at a key, which keys it has, and how deep it is.
use Rattle.std.proofs.Common.{◌≡◌, ℕ, ◌≤◌, Bool, true, false, not, ◌||◌, cond, List, [], ◌∷◌, Option, Some, None, is_none, Ordering, Less, Equal, Greater, nat_cmp, is_eq, refl, sym, ap, ◌∙◌, arith}
use Rattle.std.specs.Cmp.Lexicographic.{slice_cmp}
use Rattle.std.specs.List.{fold, list_all, AllByRecursion}
use Rattle.std.specs.Option.{option_or}
use Rattle.std.specs.Ordering.{match_ordering, ordering_reverse}
use Rattle.std.specs.Str.{bytes_eq}
use Rattle.std.proofs.lemmas.Bool.{and_parts}
use Rattle.std.proofs.lemmas.Cmp.{nat_list_cmp_total}
use Rattle.std.proofs.lemmas.Map.Text.{is_eq-slice_cmp}
use Rattle.std.proofs.lemmas.Slice.Eq.{bytes_eq-Decides}
use Rattle.toml.specs.Data.{Data, Members, no_members, member, get_member, depth, members_depth}
use Rattle.plant_text.specs.declared.fault.Place.{Place}
use Rattle.plant_text.specs.declared.fault.KeyName.{KeyName}
use Rattle.plant_text.specs.declared.find.Key.{Key}
use Rattle.plant_text.specs.Words.{key_word}
use Rattle.plant_text.specs.Tests.{first_fault}
use Rattle.plant_text.specs.Fields.{held, since, is_known, has_unknown, head_tests}
use Rattle.plant_make.specs.Entries.{Entry, with_member, with_entry, table_of}
use Rattle.plant_make.specs.Printed.{made_of}

-- what the entries give at a word: the last one of that word that holds something, else what was there
abbrev pub entry_or : List ℕ → List Entry → Option Data → Option Data
entry_or word [] old = old
entry_or word (e ∷ es) old = entry_or word es (cond (bytes_eq word (key_word e.0)) (option_or e.1 old) old)

same_word : (a b : List ℕ) → slice_cmp nat_cmp a b ≡ Equal → a ≡ b
same_word a b e = (bytes_eq-Decides a b).0 (sym (is_eq-slice_cmp a b) ∙ ap is_eq e)

looked : (o : Ordering) (rest found : Option Data) → match_ordering o rest found rest ≡ cond (is_eq o) found rest
looked Less rest found = refl
looked Equal rest found = refl
looked Greater rest found = refl

get_within : (word other l : List ℕ) (d e : Data) (more : Members) (o : Ordering) → slice_cmp nat_cmp other l ≡ o → get_member word (with_member other d more) ≡ cond (is_eq (slice_cmp nat_cmp word other)) (Some d) (get_member word more)
    → get_member word (match_ordering o (member other d (member l e more)) (member l d more) (member l e (with_member other d more))) ≡ cond (is_eq (slice_cmp nat_cmp word other)) (Some d) (get_member word (member l e more))
get_within word other l d e more Less is rest = looked (slice_cmp nat_cmp word other) (get_member word (member l e more)) (Some d)
get_within word other l d e more Equal is rest =
    let same : other ≡ l = same_word other l is in
    rw same (by_order (slice_cmp nat_cmp word l) (get_member word more))
  where
    by_order : (r : Ordering) (found : Option Data) → match_ordering r found (Some d) found ≡ cond (is_eq r) (Some d) (match_ordering r found (Some e) found)
    by_order Less found = refl
    by_order Equal found = refl
    by_order Greater found = refl
get_within word other l d e more Greater is rest = by_order (slice_cmp nat_cmp word l) refl
  where
    by_order : (r : Ordering) → slice_cmp nat_cmp word l ≡ r
        → match_ordering r (get_member word (with_member other d more)) (Some e) (get_member word (with_member other d more)) ≡ cond (is_eq (slice_cmp nat_cmp word other)) (Some d) (match_ordering r (get_member word more) (Some e) (get_member word more))
    by_order Less at = rest
    by_order Greater at = rest
    by_order Equal at =
        let here : word ≡ l = same_word word l at in
        let before : slice_cmp nat_cmp word other ≡ Less = rw here (nat_list_cmp_total.antisymm l other ∙ ap ordering_reverse is) in
        rw before refl

-- what is at a word after one more key
get_with : (word other : List ℕ) (d : Data) (ms : Members) → get_member word (with_member other d ms) ≡ cond (is_eq (slice_cmp nat_cmp word other)) (Some d) (get_member word ms)
get_with word other d no_members = looked (slice_cmp nat_cmp word other) None (Some d)
get_with word other d (member l e more) = get_within word other l d e more (slice_cmp nat_cmp other l) refl (get_with word other d more)

same_either : {X : Type 0} (b : Bool) (x : X) → cond b x x ≡ x
same_either true x = refl
same_either false x = refl

held_fold : (word : List ℕ) (entries : List Entry) (ms : Members) → get_member word (fold with_entry ms entries) ≡ entry_or word entries (get_member word ms)
held_fold word [] ms = refl
held_fold word ((which, None) ∷ es) ms = held_fold word es ms ∙ ap (entry_or word es) (sym (same_either (bytes_eq word (key_word which)) (get_member word ms)))
held_fold word ((which, Some d) ∷ es) ms =
    held_fold word es (with_member (key_word which) d ms)
    ∙ ap (entry_or word es) (get_with word (key_word which) d ms ∙ ap (λ (b : Bool). cond b (Some d) (get_member word ms)) (is_eq-slice_cmp word (key_word which)))

-- what a table of entries holds at a key that the file's version knows
pub held_is : (key : Key) (entries : List Entry) (o : Option Data) → key.known ≡ true → entry_or (key_word key.name) entries None ≡ o → held (table_of entries) key ≡ o
unfolding table_of
held_is key entries o known is = rw known (held_fold (key_word key.name) entries no_members ∙ is)

or_none : {X : Type 0} (o : Option X) → option_or o None ≡ o
or_none None = refl
or_none (Some x) = refl

-- the same of a key that may be left out
pub held_maybe : (key : Key) (entries : List Entry) (o : Option Data) → key.known ≡ true → entry_or (key_word key.name) entries None ≡ option_or o None → held (table_of entries) key ≡ o
held_maybe key entries o known is = held_is key entries (option_or o None) known is ∙ or_none o

-- and of one that the file's version may not know, where an entry that holds something says that it does
pub held_since : (known : Bool) (which : KeyName) (entries : List Entry) (o : Option Data) → entry_or (key_word which) entries None ≡ option_or o None → (known ≡ false → o ≡ None) → held (table_of entries) (since known which) ≡ o
held_since true which entries o is free = held_maybe (since true which) entries o refl is
held_since false which entries o is free = sym (free refl)

not_true : (b : Bool) → b ≡ true → not b ≡ false
not_true true e = refl
not_true false e = absurd cc

either_false : (a b : Bool) → (a || b) ≡ false → (a ≡ false) × (b ≡ false)
either_false true b e = absurd cc
either_false false b e = (refl, e)

unknown_match : (keys : List Key) (o : Ordering) (a b c : Members) → has_unknown keys a ≡ false → has_unknown keys b ≡ false → has_unknown keys c ≡ false → has_unknown keys (match_ordering o a b c) ≡ false
unknown_match keys Less a b c x y z = x
unknown_match keys Equal a b c x y z = y
unknown_match keys Greater a b c x y z = z

known_with : (keys : List Key) (word : List ℕ) (d : Data) (ms : Members) → is_known keys word ≡ true → has_unknown keys ms ≡ false → has_unknown keys (with_member word d ms) ≡ false
known_with keys word d no_members known rest = rw known refl
known_with keys word d (member l e more) known rest =
    let parts = either_false (not (is_known keys l)) (has_unknown keys more) rest in
    unknown_match keys (slice_cmp nat_cmp word l) _ _ _ (rw (known, rest) refl) rest (rw parts.0 (known_with keys word d more known parts.1))

or_false : (b : Bool) → (b || false) ≡ true → b ≡ true
or_false true e = refl
or_false false e = e

-- each entry is of a key that is known, or holds nothing
abbrev pub AreKnown : List Key → List Entry → Type 0
AreKnown keys entries = list_all (λ (e : Entry). is_known keys (key_word e.0) || is_none e.1) entries ≡ true

known_fold : (keys : List Key) (entries : List Entry) (ms : Members) → AreKnown keys entries → has_unknown keys ms ≡ false → has_unknown keys (fold with_entry ms entries) ≡ false
known_fold keys [] ms known rest = rest
known_fold keys ((which, None) ∷ es) ms known rest = known_fold keys es ms (and_parts _ _ known).1 rest
known_fold keys ((which, Some d) ∷ es) ms known rest =
    let parts = and_parts (is_known keys (key_word which) || false) (list_all (λ (e : Entry). is_known keys (key_word e.0) || is_none e.1) es) known in
    known_fold keys es (with_member (key_word which) d ms) parts.1 (known_with keys (key_word which) d ms (or_false (is_known keys (key_word which)) parts.0) rest)

-- a table of entries has no other keys
pub all_known : (keys : List Key) (entries : List Entry) → AreKnown keys entries → has_unknown keys (table_of entries) ≡ false
unfolding table_of
all_known keys entries known = known_fold keys entries no_members known refl

-- the tests of a table as a whole
pub head_ok : (place : Place) (keys : List Key) (entries : List Entry) → AreKnown keys entries → first_fault (head_tests place keys (made_of entries)) ≡ None
unfolding head_tests first_fault
head_ok place keys entries known = rw (all_known keys entries known) refl

-- how deep what an entry holds is
abbrev pub held_depth : Option Data → ℕ
held_depth None = 0
held_depth (Some d) = depth d

abbrev pub Shallow : ℕ → List Entry → Type 0
Shallow n entries = AllByRecursion (λ (e : Entry). held_depth e.1 ≤ n) entries

depth_match : (n : ℕ) (o : Ordering) (a b c : Members) → members_depth a ≤ n → members_depth b ≤ n → members_depth c ≤ n → members_depth (match_ordering o a b c) ≤ n
depth_match n Less a b c x y z = x
depth_match n Equal a b c x y z = y
depth_match n Greater a b c x y z = z

depth_with : (n : ℕ) (word : List ℕ) (d : Data) (ms : Members) → depth d ≤ n → members_depth ms ≤ n → members_depth (with_member word d ms) ≤ n
depth_with n word d no_members low rest = omega arith
depth_with n word d (member l e more) low rest =
    let here : depth e ≤ n = omega arith in
    let there : members_depth more ≤ n = omega arith in
    let deeper : members_depth (with_member word d more) ≤ n = depth_with n word d more low there in
    depth_match n (slice_cmp nat_cmp word l) _ _ _ (omega arith) (omega arith) (omega arith)

depth_fold : (n : ℕ) (entries : List Entry) (ms : Members) → Shallow n entries → members_depth ms ≤ n → members_depth (fold with_entry ms entries) ≤ n
depth_fold n [] ms low rest = rest
depth_fold n ((which, None) ∷ es) ms low rest = depth_fold n es ms low.1 rest
depth_fold n ((which, Some d) ∷ es) ms low rest = depth_fold n es (with_member (key_word which) d ms) low.1 (depth_with n (key_word which) d ms low.0 rest)

pub depth_of_entries : (n : ℕ) (entries : List Entry) → Shallow n entries → members_depth (table_of entries) ≤ n
unfolding table_of
depth_of_entries n entries low = depth_fold n entries no_members low (omega arith)
