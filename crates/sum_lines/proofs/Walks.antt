-- A walk over the lines of a head.
use Rattle.std.proofs.Common.{◌≡◌, ◌≢◌, inl, inr, ℕ, ◌≤◌, ◌+◌, ◌<◌, List, [], ◌∷◌, ◌++◌, length, length-append, drop, Option, Some, None, MatchOption, IfSome, subst, sym, ap, ◌∙◌, refl, arith, append_assoc}
use Rattle.std.proofs.Math.Seq.{drop-append_seam}
use Rattle.std.proofs.lemmas.List.{drop-drop}
use Rattle.log_lines.specs.Reader.{EndsLine, HasNoFeed, IsEnd, Reading, line_length, new_reading}
use Rattle.log_lines.specs.declared.reader.LineEnd.{LineEnd}
use Rattle.log_lines.specs.declared.reader.LineEnd.TheVariants.{Whole, Cut, Long, Nothing}
use Rattle.stn_edge.specs.Files.{FileMap, file_of}
use Rattle.sum_lines.specs.declared.line.HeadLine.{HeadLine}
use Rattle.sum_lines.specs.declared.walk.Seen.{Seen}
use Rattle.sum_lines.specs.declared.walk.Seen.TheVariants as seen
use Rattle.sum_lines.specs.declared.walk.Walk.{Walk}
use Rattle.sum_lines.specs.Front.{BeginsWith, EndsEarly, NoneFirst}
use Rattle.sum_lines.specs.Head.{IsHeadVersion, first_line, lines_text, text_with}
use Rattle.sum_lines.specs.Line.{IsHeadLine, head_line_text}
use Rattle.sum_lines.specs.laws.Walk.{HasBegun, HasLooked, HasPassed, HasSeen, rest_after}
use Rattle.sum_lines.specs.Walk.{HasStepped, IsAfter, IsBehind, IsStepped}
use Rattle.sum_lines.proofs.Feeds.{begins_line, begins_none, line_late, long_late, long_none, tested, text_fits}
use Rattle.sum_lines.proofs.LineTexts.{lines_text-append, lines_text-nil, lines_text-one}

-- ---- a text of a file

begun_told : (files : Option FileMap) (name : List ℕ) (start : ℕ) (reader : Reading) → start + 0 ≡ start → reader.ahead ≡ [] → IfSome files (λ m. IsBehind start [] reader (file_of m name))
begun_told None name start reader none is = tt
begun_told (Some m) name start reader none is = (ap (λ k. drop k (file_of m name)) (sym none), rw is refl)

-- nothing was passed at a place
pub begun_after : (files : Option FileMap) (name : List ℕ) (start : ℕ) (walk : Walk) → walk.reader ≡ record new_reading { place = start } → walk.bytes ≡ start → IsAfter files name start [] walk
begun_after files name start walk is bytes =
    let none : start + 0 ≡ start = omega arith in
    record {
      going = ap (λ r. r.ended) is;
      bytes = bytes ∙ sym none;
      place = ap (λ r. r.place) is ∙ sym bytes;
      told = begun_told files name start walk.reader none (ap (λ r. r.ahead) is);
    }

-- a text, a line and what follows
joined : (text rest part after all : List ℕ) → all ≡ text ++ rest → rest ≡ part ++ 10 ∷ after → all ≡ (text ++ (part ++ 10 ∷ [])) ++ after
joined text rest part after all is next =
    is ∙ ap (λ w. text ++ w) next ∙ sym (append_assoc text (part ++ 10 ∷ []) after ∙ ap (λ w. text ++ w) (append_assoc part (10 ∷ []) after))

-- a line of a file that is passed
pass_file : (file : List ℕ) (start : ℕ) (text : List ℕ) (old new : Reading) → IsBehind start text old file → old.place ≡ start + length text → new.place ≡ start + length (text ++ (new.line ++ 10 ∷ [])) → EndsLine file old new Whole
    → IsBehind start (text ++ (new.line ++ 10 ∷ [])) new file
pass_file file start text old new behind place place2 ends =
    let next : drop (start + length text) file ≡ new.line ++ 10 ∷ drop new.place file = ap (λ k. drop k file) (sym place) ∙ ends.0 in
    let whole = joined text (drop (start + length text) file) new.line (drop new.place file) (drop start file) behind.0 next in
    (whole ∙ ap (λ k. (text ++ (new.line ++ 10 ∷ [])) ++ drop k file) place2, ends.1)

-- the same, where the store may not tell the file
pass_told : (files : Option FileMap) (name : List ℕ) (start : ℕ) (text : List ℕ) (old new : Reading) → IfSome files (λ m. IsBehind start text old (file_of m name)) → old.place ≡ start + length text → new.place ≡ start + length (text ++ (new.line ++ 10 ∷ []))
    → IfSome files (λ m. EndsLine (file_of m name) old new Whole) → IfSome files (λ m. IsBehind start (text ++ (new.line ++ 10 ∷ [])) new (file_of m name))
pass_told None name start text old new behind place place2 ends = tt
pass_told (Some m) name start text old new behind place place2 ends = pass_file (file_of m name) start text old new behind place place2 ends

-- a whole line was passed
whole_after : (files : Option FileMap) (name : List ℕ) (start : ℕ) (text : List ℕ) (old new : Walk) → IsAfter files name start text old → IsEnd old.reader new.reader Whole → IfSome files (λ m. EndsLine (file_of m name) old.reader new.reader Whole)
    → new.line ≡ old.line + 1 → new.bytes ≡ old.bytes + (length new.reader.line + 1) → HasStepped files name start text old new
whole_after files name start text old new after end ends count bytes =
    let long : length (text ++ (new.reader.line ++ 10 ∷ [])) ≡ length text + (length new.reader.line + 1) = length-append text (new.reader.line ++ 10 ∷ []) ∙ ap (λ n. length text + n) (length-append new.reader.line (10 ∷ [])) in
    let place2 : new.reader.place ≡ start + length (text ++ (new.reader.line ++ 10 ∷ [])) = omega (arith, after.place, after.bytes, end.1.2, long) in
    record {
      short = end.1.0;
      no_feed = end.1.1;
      count = count;
      after = record {
        going = end.0;
        bytes = omega (arith, bytes, after.bytes, long);
        place = omega (arith, bytes, after.place, end.1.2);
        told = pass_told files name start text old.reader new.reader after.told (after.place ∙ after.bytes) place2 ends;
      };
    }

-- the file ends early behind a text
early_told : (files : Option FileMap) (name : List ℕ) (start : ℕ) (text : List ℕ) (old : Walk) (new : Reading) → IsAfter files name start text old → IfSome files (λ m. drop old.reader.place (file_of m name) ≡ new.line) → HasNoFeed new.line → length new.line ≤ 200
    → IfSome files (λ m. EndsEarly (drop (start + length text) (file_of m name)))
early_told None name start text old new after ends plain short = tt
early_told (Some m) name start text old new after ends plain short =
    let is : drop (start + length text) (file_of m name) ≡ new.line = ap (λ k. drop k (file_of m name)) (sym (after.place ∙ after.bytes)) ∙ ends in
    (rw is plain, rw is short)

-- nothing stands behind a text
nothing_told : (files : Option FileMap) (name : List ℕ) (start : ℕ) (text : List ℕ) (old : Walk) → IsAfter files name start text old → IfSome files (λ m. drop old.reader.place (file_of m name) ≡ []) → IfSome files (λ m. EndsEarly (drop (start + length text) (file_of m name)))
nothing_told None name start text old after ends = tt
nothing_told (Some m) name start text old after ends =
    let is : drop (start + length text) (file_of m name) ≡ [] = ap (λ k. drop k (file_of m name)) (sym (after.place ∙ after.bytes)) ∙ ends in
    (rw is (λ k d within. absurd (omega arith)), rw is (omega arith))

-- a long line stands behind a text
long_behind : (files : Option FileMap) (name : List ℕ) (start : ℕ) (text : List ℕ) (old : Walk) → IsAfter files name start text old → IfSome files (λ m. 200 < line_length (drop old.reader.place (file_of m name))) → IfSome files (λ m. 200 < line_length (drop (start + length text) (file_of m name)))
long_behind None name start text old after ends = tt
long_behind (Some m) name start text old after ends = subst (λ k. 200 < line_length (drop k (file_of m name))) (after.place ∙ after.bytes) ends

-- what follows, where it is no whole line
pub other_step : (files : Option FileMap) (name : List ℕ) (start : ℕ) (text : List ℕ) (old new : Walk) (reader : Reading) (end : LineEnd) → end ≢ Whole → IsEnd old.reader reader end → IfSome files (λ m. EndsLine (file_of m name) old.reader reader end)
    → IsAfter files name start text old → IsStepped files name start text old new end
other_step files name start text old new reader Whole other is ends after = absurd (other refl)
other_step files name start text old new reader Cut other is ends after = early_told files name start text old reader after ends is.1.2 is.1.1
other_step files name start text old new reader Long other is ends after = long_behind files name start text old after ends
other_step files name start text old new reader Nothing other is ends after = nothing_told files name start text old after ends

-- what follows, where it is a whole line
pub whole_step : (files : Option FileMap) (name : List ℕ) (start : ℕ) (text : List ℕ) (old new : Walk) (reader : Reading) (end : LineEnd) → end ≡ Whole → IsEnd old.reader reader end → IfSome files (λ m. EndsLine (file_of m name) old.reader reader end)
    → new.reader ≡ reader → new.line ≡ old.line + 1 → new.bytes ≡ old.bytes + (length reader.line + 1) → IsAfter files name start text old → IsStepped files name start text old new end
whole_step files name start text old new reader end whole is ends same count bytes after =
    let is2 = subst (λ r. IsEnd old.reader r Whole) (sym same) (subst (IsEnd old.reader reader) whole is) in
    let ends2 = subst (λ r. IfSome files (λ m. EndsLine (file_of m name) old.reader r Whole)) (sym same) (subst (λ e. IfSome files (λ m. EndsLine (file_of m name) old.reader reader e)) whole ends) in
    subst (IsStepped files name start text old new) (sym whole)
    (whole_after files name start text old new after is2 ends2 count (bytes ∙ ap (λ r. old.bytes + (length r.line + 1)) (sym same)))

-- what is left of a file behind a text, by what follows it
left_is : (start : ℕ) (text file rest : List ℕ) → drop start file ≡ text ++ rest → drop (start + length text) file ≡ rest
left_is start text file rest is = sym (drop-drop (length text) start file) ∙ ap (drop (length text)) is ∙ drop-append_seam text rest

-- the line behind a text that was passed
pub next_is : (start : ℕ) (text line file : List ℕ) → drop start file ≡ (text ++ (line ++ 10 ∷ [])) ++ drop (start + length (text ++ (line ++ 10 ∷ []))) file
    → drop (start + length text) file ≡ line ++ 10 ∷ drop (start + length (text ++ (line ++ 10 ∷ []))) file
next_is start text line file is =
    let after : List ℕ = drop (start + length (text ++ (line ++ 10 ∷ []))) file in
    left_is start text file (line ++ 10 ∷ after) (is ∙ append_assoc text (line ++ 10 ∷ []) after ∙ ap (λ w. text ++ w) (append_assoc line (10 ∷ []) after))

-- ---- lines of a head

-- the text with more lines
pub text_with_on : (version : ℕ) (xs ys : List HeadLine) → text_with version (xs ++ ys) ≡ text_with version xs ++ lines_text ys
text_with_on version xs ys = ap (λ w. first_line version ++ 10 ∷ w) (lines_text-append xs ys) ∙ sym (append_assoc (first_line version) (10 ∷ lines_text xs) (lines_text ys))

-- the text with one line more
pub text_with_more : (version : ℕ) (lines : List HeadLine) (line : HeadLine) → text_with version (lines ++ line ∷ []) ≡ text_with version lines ++ (head_line_text line ++ 10 ∷ [])
text_with_more version lines line = text_with_on version lines (line ∷ []) ∙ ap (λ w. text_with version lines ++ w) (lines_text-one line)

-- what is left of a file after lines
pub rest_is : (version : ℕ) (lines : List HeadLine) (file rest : List ℕ) → file ≡ text_with version lines ++ rest → rest_after version lines file ≡ rest
rest_is version lines file rest is = ap (drop (length (text_with version lines))) is ∙ drop-append_seam (text_with version lines) rest

-- a place after the first byte
zero_plus : (n : ℕ) → 0 + n ≡ n
zero_plus n = omega arith

-- all of a list
drop_none : (xs : List ℕ) → drop 0 xs ≡ xs
drop_none [] = refl
drop_none (x ∷ xs) = refl

-- a text at the front of a file
pub front_is : (text : List ℕ) (reader : Reading) (file : List ℕ) → IsBehind 0 text reader file → file ≡ text ++ drop (length text) file
front_is text reader file behind = sym (drop_none file) ∙ behind.0 ∙ ap (λ k. text ++ drop k file) (zero_plus (length text))

-- the lines that a walk has passed stand at the front of the file
pub passed_file : (m : FileMap) (name : List ℕ) (version : ℕ) (lines : List HeadLine) (walk : Walk) → HasPassed (Some m) name version lines walk → file_of m name ≡ text_with version lines ++ rest_after version lines (file_of m name)
passed_file m name version lines walk passed = front_is (text_with version lines) walk.reader (file_of m name) passed.after.told

-- how many bytes a walk has passed
pub passed_bytes : (files : Option FileMap) (name : List ℕ) (version : ℕ) (lines : List HeadLine) (walk : Walk) → HasPassed files name version lines walk → walk.bytes ≡ length (text_with version lines)
passed_bytes files name version lines walk passed = passed.after.bytes ∙ zero_plus (length (text_with version lines))

-- what is told of what follows, at the front of a file
pub follows_front : (files : Option FileMap) (name : List ℕ) (text : List ℕ) (P : List ℕ → Type 0) → IfSome files (λ m. P (drop (0 + length text) (file_of m name))) → IfSome files (λ m. P (drop (length text) (file_of m name)))
follows_front None name text P told = tt
follows_front (Some m) name text P told = subst (λ k. P (drop k (file_of m name))) (zero_plus (length text)) told

-- a line that is none of a head
other_told : (files : Option FileMap) (name : List ℕ) (version : ℕ) (lines : List HeadLine) (old new : Walk) → HasStepped files name 0 (text_with version lines) old new → IfSome files (λ m. IsBehind 0 (text_with version lines) old.reader (file_of m name))
    → ((line : HeadLine) → IsHeadLine line → head_line_text line ≢ new.reader.line)
    → IfSome files (λ m. (¬ EndsEarly (rest_after version lines (file_of m name))) × NoneFirst IsHeadLine (rest_after version lines (file_of m name)))
other_told None name version lines old new stepped behind none = tt
other_told (Some m) name version lines old new stepped behind none =
    let file = file_of m name in
    let text = text_with version lines in
    let line = new.reader.line in
    let after = drop (length (text ++ (line ++ 10 ∷ []))) file in
    let next : rest_after version lines file ≡ line ++ 10 ∷ after = rest_is version lines file (line ++ 10 ∷ after) (front_is (text ++ (line ++ 10 ∷ [])) new.reader file stepped.after.told ∙ append_assoc text (line ++ 10 ∷ []) after ∙ ap (λ w. text ++ w) (append_assoc line (10 ∷ []) after)) in (
      line_late line (rest_after version lines file) after next,
      λ other is first. none other is (begins_line (head_line_text other) line (rest_after version lines file) after (text_fits other is).0 stepped.no_feed next first),
    )

-- a line that is too long
pub long_told : (files : Option FileMap) (name : List ℕ) (version : ℕ) (lines : List HeadLine) → IfSome files (λ m. 200 < line_length (rest_after version lines (file_of m name)))
    → IfSome files (λ m. (¬ EndsEarly (rest_after version lines (file_of m name))) × NoneFirst IsHeadLine (rest_after version lines (file_of m name)))
long_told None name version lines long = tt
long_told (Some m) name version lines long =
    let file = file_of m name in
    (long_late (rest_after version lines file) long, λ line is first. long_none (head_line_text line) (rest_after version lines file) (text_fits line is).1 long first)

-- a walk that has passed a line
line_passed : (files : Option FileMap) (name : List ℕ) (version : ℕ) (lines : List HeadLine) (line : HeadLine) (old new : Walk) → HasPassed files name version lines old → HasStepped files name 0 (text_with version lines) old new → head_line_text line ≡ new.reader.line
    → HasPassed files name version (lines ++ line ∷ []) new
line_passed files name version lines line old new passed stepped text =
    let same : text_with version lines ++ (new.reader.line ++ 10 ∷ []) ≡ text_with version (lines ++ line ∷ []) = ap (λ w. text_with version lines ++ (w ++ 10 ∷ [])) (sym text) ∙ sym (text_with_more version lines line) in
    record {
      line = omega (arith, passed.line, stepped.count, length-append lines (line ∷ []));
      after = subst (λ t. IsAfter files name 0 t new) same stepped.after;
    }

-- what is seen of a whole line
pub whole_seen : (files : Option FileMap) (name : List ℕ) (version : ℕ) (lines : List HeadLine) (old new : Walk) (shown : Seen) → HasPassed files name version lines old → HasStepped files name 0 (text_with version lines) old new → HasLooked new.reader.line shown
    → HasSeen files name version lines new shown
whole_seen files name version lines old new (seen.Line line) passed stepped looked = (looked.0, line_passed files name version lines line old new passed stepped looked.1)
whole_seen files name version lines old new seen.Other passed stepped looked = other_told files name version lines old new stepped passed.after.told looked
whole_seen files name version lines old new seen.Cut passed stepped looked = absurd looked

-- ---- the first line

plain_first : (version : ℕ) → IsHeadVersion version → HasNoFeed (first_line version)
plain_first version (inl is) = rw is (tested (first_line 3) refl)
plain_first version (inr is) = rw is (tested (first_line 4) refl)

-- bytes that do not begin with a head's first line
first_none : (files : Option FileMap) (name : List ℕ) (version : ℕ) (old new : Walk) → IsHeadVersion version → HasStepped files name 0 [] old new → new.reader.line ≢ first_line version → IfSome files (λ m. ¬ BeginsWith (first_line version) (file_of m name))
first_none None name version old new is stepped other = tt
first_none (Some m) name version old new is stepped other = λ first.
    let after = drop (length (new.reader.line ++ 10 ∷ [])) (file_of m name) in
    other (sym (begins_line (first_line version) new.reader.line (file_of m name) after (plain_first version is) stepped.no_feed (front_is (new.reader.line ++ 10 ∷ []) new.reader (file_of m name) stepped.after.told ∙ append_assoc new.reader.line (10 ∷ []) after) first))

both : (files : Option FileMap) (P Q : FileMap → Type 0) → IfSome files P → IfSome files Q → IfSome files (λ m. P m × Q m)
both None P Q one two = tt
both (Some m) P Q one two = (one, two)

-- a walk that begins
pub begun : (files : Option FileMap) (name : List ℕ) (old new : Walk) (answer : Option (Walk × ℕ)) → MatchOption answer ((new.reader.line ≢ first_line 3) × (new.reader.line ≢ first_line 4)) (λ b. (b.0 ≡ new) × IsHeadVersion b.1 × (new.reader.line ≡ first_line b.1))
    → old.line ≡ 1 → HasStepped files name 0 [] old new → HasBegun files name answer
begun files name old new None other line stepped =
    both files (λ m. ¬ BeginsWith (first_line 3) (file_of m name)) (λ m. ¬ BeginsWith (first_line 4) (file_of m name)) (first_none files name 3 old new (inl refl) stepped other.0) (first_none files name 4 old new (inr refl) stepped other.1)
begun files name old new (Some b) made line stepped =
    let same : new.reader.line ++ 10 ∷ [] ≡ text_with b.1 [] = ap (λ w. w ++ 10 ∷ []) made.2 ∙ ap (λ w. first_line b.1 ++ 10 ∷ w) (sym lines_text-nil) in
    (made.1, subst (HasPassed files name b.1 []) (sym made.0) (record { line = omega (arith, line, stepped.count); after = subst (λ t. IsAfter files name 0 t new) same stepped.after }))

-- what is told of all of a file
all_told : (m : FileMap) (name : List ℕ) (P : List ℕ → Type 0) → P (drop (0 + 0) (file_of m name)) → P (file_of m name)
all_told m name P told = subst P (drop_none (file_of m name)) (subst (λ k. P (drop k (file_of m name))) (zero_plus 0) told)

-- a head has at least its first line
pub first_long : (version : ℕ) → IsHeadVersion version → (lines : List HeadLine) → 10 ≤ length (text_with version lines)
first_long version (inl is) lines = rw is (omega arith)
first_long version (inr is) lines = rw is (omega arith)

-- a first line is short
short_first : (version : ℕ) → IsHeadVersion version → length (first_line version) ≤ 200
short_first version (inl is) = rw is (omega arith)
short_first version (inr is) = rw is (omega arith)

-- a file that does not begin with a whole line
no_version : (files : Option FileMap) (name : List ℕ) (version : ℕ) (old new : Walk) (end : LineEnd) → IsHeadVersion version → end ≢ Whole → IsStepped files name 0 [] old new end → IfSome files (λ m. ¬ BeginsWith (first_line version) (file_of m name))
no_version None name version old new end is other stepped = tt
no_version (Some m) name version old new Whole is other stepped = absurd (other refl)
no_version (Some m) name version old new Cut is other stepped = begins_none (first_line version) (file_of m name) (all_told m name HasNoFeed stepped.0)
no_version (Some m) name version old new Long is other stepped = long_none (first_line version) (file_of m name) (short_first version is) (all_told m name (λ w. 200 < line_length w) stepped)
no_version (Some m) name version old new Nothing is other stepped = begins_none (first_line version) (file_of m name) (all_told m name HasNoFeed stepped.0)

pub no_first : (files : Option FileMap) (name : List ℕ) (old new : Walk) (end : LineEnd) → end ≢ Whole → IsStepped files name 0 [] old new end → HasBegun files name None
no_first files name old new end other stepped =
    both files (λ m. ¬ BeginsWith (first_line 3) (file_of m name)) (λ m. ¬ BeginsWith (first_line 4) (file_of m name)) (no_version files name 3 old new end (inl refl) other stepped) (no_version files name 4 old new end (inr refl) other stepped)
