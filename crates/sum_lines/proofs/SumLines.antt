-- The sums of a head, one after another.
use Rattle.std.proofs.Common.{◌≡◌, inl, inr, ℕ, ◌+◌, ◌*◌, ◌-◌, ◌<◌, ◌≤◌, ◌^◌, suc, true, get_or, List, [], ◌∷◌, ◌++◌, length, length-append, map, drop, Option, Some, None, IfSome, subst, sym, ap, ◌∙◌, refl, arith, append_assoc}
use Rattle.std.specs.Prelude.{codes}
use Rattle.std.proofs.Math.Seq.{drop-append_seam}
use Rattle.std.proofs.lemmas.Bool.Decides.{nat_tests}
use Rattle.std.proofs.lemmas.List.Elements.{All-append, All-cons}
use Rattle.log_lines.specs.declared.grammar.Limits.{Limits}
use Rattle.log_lines.specs.declared.defect.Defect.{Defect}
use Rattle.row_kit.specs.declared.row.Entry.{Entry}
use Rattle.stn_edge.specs.Files.{FileMap, file_of}
use Rattle.sum_slots.specs.declared.sum.Sum.{Sum}
use Rattle.sum_slots.specs.Sum.{IsDeclared}
use Rattle.sum_lines.specs.declared.head.Head.{Head}
use Rattle.sum_lines.specs.declared.line.HeadLine.{HeadLine}
use Rattle.sum_lines.specs.declared.line.HeadLine.TheVariants as line
use Rattle.sum_lines.specs.declared.walk.Seen.{Seen}
use Rattle.sum_lines.specs.declared.walk.Seen.TheVariants as seen
use Rattle.sum_lines.specs.declared.walk.Walk.{Walk}
use Rattle.sum_lines.specs.Front.{IsBadAt, IsBadHead, IsHeaded, MayOpen, NoneFirst, has_room, opening_defect}
use Rattle.sum_lines.specs.Head.{AreKept, AreTerms, HasRows, IsHeadVersion, IsKeptHead, begins_on, head_of, head_text, lines_of, most_rows, most_slots, opening_line, sum_lines, term_line, text_with}
use Rattle.sum_lines.specs.Line.{IsHeadLine, head_line_text}
use Rattle.sum_lines.specs.laws.Sums.{IsSumKept}
use Rattle.sum_lines.specs.laws.Walk.{HasBadTerms, HasPassed, HasSeen, rest_after}
use Rattle.sum_lines.proofs.Feeds.{begins_none}
use Rattle.sum_lines.proofs.LineTexts.{lines_of-more}
use Rattle.sum_lines.proofs.Openings.{sound_is}
use Rattle.sum_lines.proofs.TermLines.{first_same, line_first}
use Rattle.sum_lines.proofs.Walks.{first_long, passed_bytes, passed_file}

-- a line that may open a sum may be written
may_open_line : (slots : ℕ) (line : HeadLine) → MayOpen slots line → IsHeadLine line
may_open_line slots (line.Sum _ _ _ _ _) may = may.0
may_open_line slots (line.Term _ _ _) may = absurd may

-- where what is seen may open no sum, no line does
pub none_opens : (files : Option FileMap) (name : List ℕ) (version : ℕ) (lines : List HeadLine) (walk2 : Walk) (shown : Seen) (slots : ℕ) → HasSeen files name version lines walk2 shown → ((line : HeadLine) → shown ≡ seen.Line line → ¬ MayOpen slots line)
    → IfSome files (λ m. NoneFirst (MayOpen slots) (rest_after version lines (file_of m name)))
none_opens None name version lines walk2 shown slots has none = tt
none_opens (Some m) name version lines walk2 (seen.Line line) slots has none = λ other may first.
    let file = file_of m name in
    none line refl (subst (MayOpen slots) (first_same other line (rest_after version lines file) (rest_after version (lines ++ line ∷ []) file) (may_open_line slots other may) has.0 (line_first version lines line file (passed_file m name version (lines ++ line ∷ []) walk2 has.1)) first) may)
none_opens (Some m) name version lines walk2 seen.Other slots has none = λ other may first. has.1 other (may_open_line slots other may) first
none_opens (Some m) name version lines walk2 seen.Cut slots has none = λ other may first. begins_none (head_line_text other) (rest_after version lines (file_of m name)) has.0 first

-- the defect of a line that opens a sum
pub opening_bad : (files : Option FileMap) (name : List ℕ) (version : ℕ) (limits : Limits) (before : ℕ) (lines : List HeadLine) (walk walk2 : Walk) (line : HeadLine) (kind : ℕ) → HasPassed files name version lines walk → HasSeen files name version lines walk2 (seen.Line line)
    → MayOpen limits.slots line → opening_defect version limits before line ≡ Some kind → IfSome files (λ m. IsBadAt version limits before lines (file_of m name) (record { line = walk.line; kind = kind }))
opening_bad None name version limits before lines walk walk2 line kind passed has may is = tt
opening_bad (Some m) name version limits before lines walk walk2 line kind passed has may is =
    let file = file_of m name in
    inl (record {
      rest = rest_after version lines file;
      is = passed_file m name version lines walk passed;
      line = passed.line;
      bad = record { line = line; opens = may; first = record { after = rest_after version (lines ++ line ∷ []) file; is = line_first version lines line file (passed_file m name version (lines ++ line ∷ []) walk2 has.1) }; defect = is };
    })

-- the defect of a line where a term of a sum is to come
pub terms_bad : (files : Option FileMap) (name : List ℕ) (version : ℕ) (limits : Limits) (before : ℕ) (lines : List HeadLine) (sum : Sum) (count : ℕ) (defect : Defect) → HasBadTerms files name version limits.slots count (lines ++ opening_line sum count ∷ []) defect
    → MayOpen limits.slots (opening_line sum count) → opening_defect version limits before (opening_line sum count) ≡ None → IfSome files (λ m. IsBadAt version limits before lines (file_of m name) defect)
terms_bad None name version limits before lines sum count defect has may sound = tt
terms_bad (Some m) name version limits before lines sum count defect has may sound =
    let file = file_of m name in
    let all = (lines ++ opening_line sum count ∷ []) ++ map term_line has.terms in
    let same : all ≡ lines ++ (opening_line sum count ∷ map term_line has.terms) = append_assoc lines (opening_line sum count ∷ []) (map term_line has.terms) in
    inr (record {
      sum = record sum { terms = has.terms };
      count = count;
      rest = rest_after version all file;
      opens = may;
      sound = sound;
      terms = has.are;
      fewer = has.fewer;
      is = has.bad.told.0 ∙ ap (λ ls. text_with version ls ++ rest_after version all file) same;
      line = has.bad.line ∙ ap (λ ls. 2 + length ls) same;
      bad = has.bad.told.1;
    })

-- a sum whose terms were read
pub sum_goes : (files : Option FileMap) (name : List ℕ) (version : ℕ) (lines : List HeadLine) (sum : Sum) (terms : List Entry) (count : ℕ) (walk : Walk) → length terms ≡ count
    → HasPassed files name version ((lines ++ opening_line sum count ∷ []) ++ map term_line terms) walk → HasPassed files name version (lines ++ sum_lines (record sum { terms = terms })) walk
sum_goes files name version lines sum terms count walk long passed =
    subst (λ n. HasPassed files name version (lines ++ (opening_line sum n ∷ map term_line terms)) walk) (sym long)
    (subst (λ ls. HasPassed files name version ls walk) (append_assoc lines (opening_line sum count ∷ []) (map term_line terms)) passed)

-- a sum that was read keeps the limits
pub sum_kept : (version : ℕ) (limits : Limits) (before : ℕ) (sum : Sum) (terms : List Entry) (count : ℕ) → MayOpen limits.slots (opening_line sum count) → opening_defect version limits before (opening_line sum count) ≡ None → length terms ≡ count → AreTerms limits.slots terms
    → IsSumKept version limits before (record sum { terms = terms })
sum_kept version limits before sum terms count may sound long are =
    let tells = sound_is version limits before sum.width sum.offset sum.low sum.high count sound in
    record {
      declared = record { width_some = may.0.0.0; width_most = may.0.0.1; offset_small = may.0.1; terms_some = omega (arith, may.0.4.0); terms_count = are.count; terms_bounded = are.bounded };
      rows = (tells.0, tells.1);
      room = tells.2;
    }

-- ---- whole sums

-- there is room for so many sums, by a test
room_is : (version : ℕ) (limits : Limits) (count : ℕ) → has_room version limits count ≡ true → (limits.slots + count ≤ most_slots version) × (limits.rows + 2 * count ≤ most_rows version)
room_is version limits count is = (grind (arith, nat_tests), grind (arith, nat_tests))

-- no sums keep the limits
pub none_kept : (version : ℕ) (limits : Limits) → AreKept version limits []
none_kept version limits = record { declared = λ k d within. absurd (omega arith); rows_there = λ k d within. absurd (omega arith); slots = λ some. absurd (omega arith); rows = λ some. absurd (omega arith) }

-- sums and one more keep the limits
pub more_kept : (version : ℕ) (limits : Limits) (sums : List Sum) (sum : Sum) → AreKept version limits sums → IsSumKept version limits (length sums) sum → AreKept version limits (sums ++ sum ∷ [])
more_kept version limits sums sum kept is =
    let room = room_is version limits (length sums + 1) is.room in
    let long = length-append sums (sum ∷ []) in
    record {
      declared = All-append (IsDeclared limits.slots) sums (sum ∷ []) kept.declared (All-cons (IsDeclared limits.slots) sum [] is.declared (λ k d within. absurd (omega arith)));
      rows_there = All-append (HasRows limits.rows) sums (sum ∷ []) kept.rows_there (All-cons (HasRows limits.rows) sum [] is.rows (λ k d within. absurd (omega arith)));
      slots = λ some. omega (arith, room.0, long);
      rows = λ some. omega (arith, room.1, long);
    }

-- as many lines as terms
lines_long : (terms : List Entry) → length (map term_line terms) ≡ length terms
lines_long [] = refl
lines_long (t ∷ terms) = ap suc (lines_long terms)

-- the lines on which sums and one more begin
begins_on-more : (first : ℕ) (sums : List Sum) (sum : Sum) → begins_on first (sums ++ sum ∷ []) ≡ begins_on first sums ++ (first + length (lines_of sums)) ∷ []
begins_on-more first [] sum = let same : first ≡ first + 0 = omega arith in ap (λ n. n ∷ []) same
begins_on-more first (s ∷ sums) sum =
    let next : (first + (1 + length s.terms)) + length (lines_of sums) ≡ first + length (lines_of (s ∷ sums)) = omega (arith, length-append (map term_line s.terms) (lines_of sums), lines_long s.terms) in
    ap (λ w. first ∷ w) (begins_on-more (first + (1 + length s.terms)) sums sum ∙ ap (λ n. begins_on (first + (1 + length s.terms)) sums ++ n ∷ []) next)

-- the lines of sums after one more, where its line is told
pub begins_next : (lines lines2 : List ℕ) (sums : List Sum) (sum : Sum) (at : ℕ) → lines ≡ begins_on 2 sums → lines2 ≡ lines ++ at ∷ [] → at ≡ 2 + length (lines_of sums) → lines2 ≡ begins_on 2 (sums ++ sum ∷ [])
begins_next lines lines2 sums sum at is is2 told = is2 ∙ ap (λ w. w ++ at ∷ []) is ∙ ap (λ n. begins_on 2 sums ++ n ∷ []) told ∙ sym (begins_on-more 2 sums sum)

-- one line for each sum
begins_long : (first : ℕ) (sums : List Sum) → length (begins_on first sums) ≡ length sums
begins_long first [] = refl
begins_long first (s ∷ sums) = ap suc (begins_long (first + (1 + length s.terms)) sums)

-- a walk that has passed one sum more
pub passed_sum : (files : Option FileMap) (name : List ℕ) (version : ℕ) (sums : List Sum) (sum : Sum) (walk : Walk) → HasPassed files name version (lines_of sums ++ sum_lines sum) walk → HasPassed files name version (lines_of (sums ++ sum ∷ [])) walk
passed_sum files name version sums sum walk passed = subst (λ ls. HasPassed files name version ls walk) (sym (lines_of-more sums sum)) passed

-- the head with sums that keep the limits
pub head_of_kept : (version : ℕ) (limits : Limits) (sums : List Sum) → IsHeadVersion version → AreKept version limits sums → length (head_text version sums) < 2 ^ 64 → IsKeptHead limits (head_of version sums)
head_of_kept version limits sums is_version kept small = record { version = is_version; is = refl; sums = kept; lines = begins_long 2 sums; count = omega arith; bytes_least = first_long version is_version (lines_of sums); bytes_most = small }

-- the head that a walk has passed
pub head_same : (files : Option FileMap) (name : List ℕ) (version : ℕ) (sums : List Sum) (lines : List ℕ) (walk : Walk) → lines ≡ begins_on 2 sums → HasPassed files name version (lines_of sums) walk
    → head_of version sums ≡ record { version = version; sums = sums; lines = lines; count = walk.line - 1; bytes = walk.bytes }
head_same files name version sums lines walk is passed =
    let count : 1 + length (lines_of sums) ≡ walk.line - 1 = omega (arith, passed.line) in
    let bytes : length (head_text version sums) ≡ walk.bytes = sym (passed_bytes files name version (lines_of sums) walk passed) in
    let begins : begins_on 2 sums ≡ lines = sym is in
    let made : ℕ → ℕ → List ℕ → Head = λ c b l. record { version = version; sums = sums; lines = l; count = c; bytes = b } in
    ap (λ c. made c (length (head_text version sums)) (begins_on 2 sums)) count ∙ ap (λ b. made (walk.line - 1) b (begins_on 2 sums)) bytes ∙ ap (λ l. made (walk.line - 1) walk.bytes l) begins

pub head_kept : (files : Option FileMap) (name : List ℕ) (version : ℕ) (limits : Limits) (sums : List Sum) (lines : List ℕ) (walk : Walk) → IsHeadVersion version → AreKept version limits sums → lines ≡ begins_on 2 sums → HasPassed files name version (lines_of sums) walk → walk.bytes < 2 ^ 64
    → IsKeptHead limits (record { version = version; sums = sums; lines = lines; count = walk.line - 1; bytes = walk.bytes })
head_kept files name version limits sums lines walk is_version kept is passed small =
    subst (IsKeptHead limits) (head_same files name version sums lines walk is passed) (head_of_kept version limits sums is_version kept (subst (λ n. n < 2 ^ 64) (passed_bytes files name version (lines_of sums) walk passed) small))

-- the same of the file
pub head_told : (files : Option FileMap) (name : List ℕ) (version : ℕ) (limits : Limits) (sums : List Sum) (lines : List ℕ) (walk : Walk) → IsKeptHead limits (record { version = version; sums = sums; lines = lines; count = walk.line - 1; bytes = walk.bytes }) → HasPassed files name version (lines_of sums) walk
    → IfSome files (λ m. NoneFirst (MayOpen limits.slots) (rest_after version (lines_of sums) (file_of m name))) → IfSome files (λ m. IsHeaded limits (file_of m name) (record { version = version; sums = sums; lines = lines; count = walk.line - 1; bytes = walk.bytes }))
head_told None name version limits sums lines walk kept passed none = tt
head_told (Some m) name version limits sums lines walk kept passed none =
    let file = file_of m name in
    let bytes : walk.bytes ≡ length (head_text version sums) = passed_bytes (Some m) name version (lines_of sums) walk passed in
    record {
      kept = kept;
      is = passed_file m name version (lines_of sums) walk passed ∙ ap (λ n. head_text version sums ++ drop n file) (sym bytes);
      ends = subst (λ n. NoneFirst (MayOpen limits.slots) (drop n file)) (sym bytes) none;
    }

-- a defect after whole sums
pub bad_head : (files : Option FileMap) (name : List ℕ) (version : ℕ) (limits : Limits) (sums : List Sum) (before : ℕ) (defect : Defect) → IsHeadVersion version → AreKept version limits sums → before ≡ length sums → IfSome files (λ m. IsBadAt version limits before (lines_of sums) (file_of m name) defect)
    → IfSome files (λ m. IsBadHead limits (file_of m name) defect)
bad_head None name version limits sums before defect is_version kept is bad = tt
bad_head (Some m) name version limits sums before defect is_version kept is bad = record { version = version; is_version = is_version; sums = sums; kept = kept; bad = subst (λ n. IsBadAt version limits n (lines_of sums) (file_of m name) defect) is bad }

-- ---- the law

-- no line that may open a sum stands first before a line `node`
node_none : (slots : ℕ) (rest : List ℕ) → NoneFirst (MayOpen slots) (codes "node" ++ 10 ∷ rest)
unfolding head_line_text
node_none slots rest (line.Sum w o l h c) may first = omega (arith, ap (λ w. get_or w 0 0) first.is)
node_none slots rest (line.Term s f p) may first = absurd may

pub heads_read : (version : ℕ) (limits : Limits) (sums : List Sum) (rest : List ℕ) → IsHeadVersion version → AreKept version limits sums → length (head_text version sums) < 2 ^ 64 → IsHeaded limits (head_text version sums ++ (codes "node" ++ 10 ∷ rest)) (head_of version sums)
heads_read version limits sums rest is_version kept small =
    let seam = drop-append_seam (head_text version sums) (codes "node" ++ 10 ∷ rest) in
    record {
      kept = head_of_kept version limits sums is_version kept small;
      is = ap (λ w. head_text version sums ++ w) (sym seam);
      ends = subst (NoneFirst (MayOpen limits.slots)) (sym seam) (node_none limits.slots rest);
    }
