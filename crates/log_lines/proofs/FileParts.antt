-- The bytes of a file up to a line feed, where the store may not tell it.
use Rattle.std.proofs.Common.{◌≡◌, ◌≢◌, ℕ, suc, ◌+◌, ◌<◌, false, eqb, List, [], ◌∷◌, ◌++◌, take, drop, length, length-take, set, Option, None, Some, MatchOption, IfSome, subst, sym, ap, ◌∙◌, arith, append_assoc}
use Rattle.std.proofs.Math.Seq.{take-suc-set}
use Rattle.std.proofs.lemmas.Bool.Decides.{nat_tests}
use Rattle.std.proofs.lemmas.List.Elements.{All-append, All-cons}
use Rattle.stn_edge.specs.Files.{FileMap, file_of}
use Rattle.log_lines.specs.Reader.{Held, GivesByte, HasNoFeed, IsAhead, line_length}

-- the part was read of the file, and the bytes that are held follow it
abbrev pub IsRead : Option FileMap → List ℕ → ℕ → Held → List ℕ → Type 0
IsRead told name place held part =
    IfSome told (λ m. (drop place (file_of m name) ≡ part ++ drop held.place (file_of m name)) × IsAhead (file_of m name) held.place held.bytes)

-- one more byte of the file
pub read_more : (told told' : Option FileMap) (name part part' : List ℕ) (place byte : ℕ) (held held' : Held) (answer : Option ℕ) → IsRead told name place held part → told' ≡ told
    → IfSome told' (λ m. GivesByte (file_of m name) held held' answer) → answer ≡ Some byte → part' ≡ part ++ byte ∷ [] → IsRead told name place held' part'
read_more None told' name part part' place byte held held' answer read same gives is grown = tt
read_more (Some files) told' name part part' place byte held held' answer read same gives is grown =
    let next : GivesByte (file_of files name) held held' (Some byte) = rw (same, is) at gives in
    (read.0 ∙ ap (λ w. part ++ w) next.0 ∙ sym (append_assoc part (byte ∷ []) (drop held'.place (file_of files name))) ∙ ap (λ w. w ++ drop held'.place (file_of files name)) (sym grown), next.1)

-- the place after one more byte
pub next_place : (answer : Option ℕ) (byte place place' : ℕ) → answer ≡ Some byte → MatchOption answer (place' ≡ place) (λ _. place' ≡ place + 1) → place' ≡ place + 1
next_place None byte place place' is next = cc
next_place (Some b) byte place place' is next = next

-- without a line feed the part goes on
no_feed_more : (part part' : List ℕ) (byte : ℕ) → HasNoFeed part → byte ≢ 10 → part' ≡ part ++ byte ∷ [] → HasNoFeed part'
no_feed_more part part' byte plain other grown =
    subst HasNoFeed (sym grown) (All-append (λ b. b ≢ 10) part (byte ∷ []) plain (All-cons (λ b. b ≢ 10) byte [] other (λ k d within. absurd (omega arith))))

-- a part that is written on
pub part_grows : (part : List ℕ) (count byte : ℕ) → count < length part → take (count + 1) (set part count byte) ≡ take count part ++ byte ∷ []
part_grows part count byte within = let next : count + 1 ≡ suc count = omega arith in ap (λ k. take k (set part count byte)) next ∙ take-suc-set part count byte within

pub no_feed_grows : (part : List ℕ) (count byte : ℕ) → count < length part → HasNoFeed (take count part) → byte ≢ 10 → HasNoFeed (take (count + 1) (set part count byte))
no_feed_grows part count byte within plain other = no_feed_more (take count part) (take (count + 1) (set part count byte)) byte plain other (part_grows part count byte within)

-- a part and one more byte without a line feed are shorter than the line
not_feed : (byte : ℕ) → byte ≢ 10 → eqb byte 10 ≡ false
not_feed byte other = grind (arith, nat_tests)

longer : (part rest : List ℕ) (byte : ℕ) → HasNoFeed part → byte ≢ 10 → length part < line_length (part ++ byte ∷ rest)
longer [] rest byte plain other = rw (not_feed byte other) (omega arith)
longer (b ∷ part) rest byte plain other =
    let first : b ≢ 10 = plain 0 0 (omega arith) in
    let others = longer part rest byte (λ k d within. plain (suc k) d (omega arith)) other in
    rw (not_feed b first) (omega arith)

pub part_long : (told told' : Option FileMap) (name part : List ℕ) (place byte count : ℕ) (held held' : Held) (answer : Option ℕ) → IsRead told name place held (take count part) → told' ≡ told
    → IfSome told' (λ m. GivesByte (file_of m name) held held' answer) → answer ≡ Some byte → HasNoFeed (take count part) → byte ≢ 10 → length part ≡ 200 → count ≡ 200
    → IfSome told (λ m. 200 < line_length (drop place (file_of m name)))
part_long None told' name part place byte count held held' answer read same gives is plain other room full = tt
part_long (Some files) told' name part place byte count held held' answer read same gives is plain other room full =
    let next : GivesByte (file_of files name) held held' (Some byte) = rw (same, is) at gives in
    let text : drop place (file_of files name) ≡ take count part ++ byte ∷ drop held'.place (file_of files name) = read.0 ∙ ap (λ w. take count part ++ w) next.0 in
    rw text (omega (arith, longer (take count part) (drop held'.place (file_of files name)) byte plain other, length-take count part))
