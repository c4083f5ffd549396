-- Bytes have one front.
use Rattle.std.proofs.Common.{◌≡◌, ◌⊎◌, inl, inr, ℕ, ◌+◌, ◌*◌, ◌<◌, ◌≤◌, ◌^◌, Bool, true, ◌&&◌, cond, ap₂, List, [], ◌∷◌, ◌++◌, length, length-append, map, drop, get_or, Option, Some, None, refl, sym, ap, suc, ◌∙◌, subst, arith, append_assoc, append-nil}
use Rattle.std.specs.Prelude.{unsigned_abs, false, nat_le}
use Rattle.std.specs.List.{All}
use Rattle.std.specs.List.Sorted.{IsStrictlyIncreasing}
use Rattle.std.proofs.Math.Seq.{drop-append_seam}
use Rattle.std.proofs.lemmas.Bool.Decides.{nat_tests}
use Rattle.std.proofs.lemmas.List.Elements.{All-head, All-tail}
use Rattle.log_lines.specs.declared.grammar.Limits.{Limits}
use Rattle.log_lines.specs.Grammar.{follows}
use Rattle.log_lines.specs.declared.defect.Defect.{Defect}
use Rattle.row_kit.specs.Row.{is_nothing}
use Rattle.row_kit.specs.declared.row.Entry.{Entry}
use Rattle.row_kit.proofs.Ascending.{few_entries}
use Rattle.sum_slots.specs.declared.sum.Sum.{Sum}
use Rattle.sum_slots.specs.Sum.{IsDeclared}
use Rattle.sum_slots.proofs.Joined.{All-second}
use Rattle.sum_lines.specs.declared.head.Head.{Head}
use Rattle.sum_lines.specs.declared.line.HeadLine.{HeadLine}
use Rattle.sum_lines.specs.declared.line.HeadLine.TheVariants as line
use Rattle.sum_lines.specs.Front.{BeginsWith, IsBadAt, IsBadAtSum, IsBadAtTerm, IsBadHead, IsBadTerm, IsHeaded, MayOpen, NoneFirst, has_room, is_there, opening_defect}
use Rattle.sum_lines.specs.Head.{AreKept, HasRows, IsHeadVersion, IsThere, first_line, head_of, last_slot, lines_of, lines_text, most_rows, most_slots, open_lines, opening_line, term_line, text_with}
use Rattle.sum_lines.specs.Line.{IsHeadLine, head_line_text}
use Rattle.sum_lines.proofs.Feeds.{feed_unique, line_late, text_fits, text_unique}
use Rattle.sum_lines.proofs.LineTexts.{lines_text-append}
use Rattle.sum_lines.proofs.Openings.{there_wide}
use Rattle.sum_lines.proofs.TermLines.{first_same}

-- ---- lines of sums that are kept

-- a sum is declared and its rows are there
record IsWell (limits : Limits) (sum : Sum) : Type 0 where
  declared : IsDeclared limits.slots sum
  rows : HasRows limits.rows sum

-- limits of some program's logs
pub record AreSmall (limits : Limits) : Type 0 where
  pub slots : limits.slots ≤ 4096
  pub rows : limits.rows ≤ 400000

well : (version : ℕ) (limits : Limits) (sums : List Sum) → AreKept version limits sums → All (IsWell limits) sums
well version limits sums kept = λ k d within. record { declared = kept.declared k d within; rows = kept.rows_there k d within }

-- a term keeps the bounds of a sum's
record IsTerm (slots : ℕ) (term : Entry) : Type 0 where
  there : term.slot < slots
  fixed : unsigned_abs term.fixed ≤ 10000000
  per : unsigned_abs term.per ≤ 10000000
  counts : is_nothing (term.fixed, term.per) ≡ false

terms_are : (slots : ℕ) (sum : Sum) → IsDeclared slots sum → All (IsTerm slots) sum.terms
terms_are slots sum declared = λ k d within. record {
  there = declared.terms_bounded.named k d within;
  fixed = declared.terms_bounded.fixed_small k d within;
  per = declared.terms_bounded.per_small k d within;
  counts = declared.terms_count k d within;
}

-- its line may be written
term_written : (slots : ℕ) (term : Entry) → slots ≤ 4096 → IsTerm slots term → IsHeadLine (term_line term)
term_written slots term few is = (omega (arith, is.there), is.fixed, is.per, is.counts)

-- the first line of a sum may open it
may_open : (limits : Limits) (sum : Sum) → AreSmall limits → IsWell limits sum → MayOpen limits.slots (opening_line sum (length sum.terms))
may_open limits sum few is =
    let declared = is.declared in
    let most = few_entries limits.slots 10000000 sum.terms declared.terms_bounded in (
      (
        (declared.width_some, declared.width_most),
        declared.offset_small,
        there_wide limits.rows (10 ^ 30) sum.low (omega (arith, few.rows)) is.rows.0,
        there_wide limits.rows (10 ^ 30) sum.high (omega (arith, few.rows)) is.rows.1,
        (declared.terms_some, omega (arith, few.slots, most)),
      ),
      most,
    )

-- a line that may open a sum may be written
open_written : (slots : ℕ) (line : HeadLine) → MayOpen slots line → IsHeadLine line
open_written slots (line.Sum _ _ _ _ _) may = may.0
open_written slots (line.Term _ _ _) may = absurd may

-- ---- one text of lines

-- a line and what follows
line_front : (line : HeadLine) (lines : List HeadLine) (rest : List ℕ) → lines_text (line ∷ lines) ++ rest ≡ head_line_text line ++ 10 ∷ (lines_text lines ++ rest)
unfolding lines_text
line_front line lines rest = append_assoc (head_line_text line ++ 10 ∷ []) (lines_text lines) rest ∙ append_assoc (head_line_text line) (10 ∷ []) (lines_text lines ++ rest)

no_lines : (rest : List ℕ) → lines_text [] ++ rest ≡ rest
unfolding lines_text
no_lines rest = refl

-- where two lines stand first they are the same, and so is what follows
one_line : (a b : HeadLine) (x y : List ℕ) → IsHeadLine a → IsHeadLine b → head_line_text a ++ 10 ∷ x ≡ head_line_text b ++ 10 ∷ y → (a ≡ b) × (x ≡ y)
one_line a b x y is is2 same =
    let text = feed_unique (head_line_text a) (head_line_text b) x y (text_fits a is).0 (text_fits b is2).0 same in
    let t = head_line_text b in
    let own : t ++ 10 ∷ x ≡ t ++ 10 ∷ y = sym (ap (λ w. w ++ 10 ∷ x) text) ∙ same in
    (text_unique a b is is2 text, ap (drop 1) (sym (drop-append_seam t (10 ∷ x)) ∙ ap (drop (length t)) own ∙ drop-append_seam t (10 ∷ y)))

-- terms of one line are the same
one_term : (a b : Entry) → term_line a ≡ term_line b → a ≡ b
one_term a b same =
    let slot : a.slot ≡ b.slot = cc in
    let fixed : a.fixed ≡ b.fixed = cc in
    let per : a.per ≡ b.per = cc in
    λ i. record { slot = slot i; fixed = fixed i; per = per i }

-- later terms: those that stand behind others, and what is left before them
record HasMoreTerms (xs ys : List Entry) (x y : List ℕ) : Type 0 where
  more : List Entry
  are : ys ≡ xs ++ more
  rest : x ≡ lines_text (map term_line more) ++ y

-- of two lists of terms with one text the shorter is a first part of the longer
terms_front : (slots : ℕ) (xs ys : List Entry) (x y : List ℕ) → slots ≤ 4096 → All (IsTerm slots) xs → All (IsTerm slots) ys → length xs ≤ length ys
    → lines_text (map term_line xs) ++ x ≡ lines_text (map term_line ys) ++ y → HasMoreTerms xs ys x y
terms_front slots [] ys x y few are are2 short same = record { more = ys; are = refl; rest = sym (no_lines x) ∙ same }
terms_front slots (a ∷ xs) [] x y few are are2 short same = absurd (omega arith)
terms_front slots (a ∷ xs) (b ∷ ys) x y few are are2 short same =
    let first = one_line (term_line a) (term_line b) _ _ (term_written slots a few (All-head (IsTerm slots) a xs are)) (term_written slots b few (All-head (IsTerm slots) b ys are2))
    (sym (line_front (term_line a) (map term_line xs) x) ∙ same ∙ line_front (term_line b) (map term_line ys) y) in
    let later = terms_front slots xs ys x y few (All-tail (IsTerm slots) a xs are) (All-tail (IsTerm slots) b ys are2) (omega arith) first.1 in
    let one = one_term a b first.0 in
    record { more = later.more; are = ap (λ w. b ∷ w) later.are ∙ ap (λ c. c ∷ (xs ++ later.more)) (sym one); rest = later.rest }

-- nothing is added to a list of the same length
none_more : (xs ys more : List Entry) → length xs ≡ length ys → ys ≡ xs ++ more → more ≡ []
none_more xs ys [] same is = refl
none_more xs ys (z ∷ more) same is = absurd (omega (arith, ap length is, length-append xs (z ∷ more)))

-- as many terms with one text are the same
terms_same : (slots : ℕ) (xs ys : List Entry) (x y : List ℕ) → slots ≤ 4096 → All (IsTerm slots) xs → All (IsTerm slots) ys → length xs ≡ length ys
    → lines_text (map term_line xs) ++ x ≡ lines_text (map term_line ys) ++ y → (xs ≡ ys) × (x ≡ y)
terms_same slots xs ys x y few are are2 long same =
    let has = terms_front slots xs ys x y few are are2 (omega (arith, long)) same in
    let none = none_more xs ys has.more long has.are in
    (sym (has.are ∙ ap (λ w. xs ++ w) none ∙ append-nil xs), has.rest ∙ ap (λ w. lines_text (map term_line w) ++ y) none ∙ no_lines y)

-- ---- one text of sums

-- a sum's line, its terms, and what follows
sum_front : (sum : Sum) (sums : List Sum) (rest : List ℕ) → lines_text (lines_of (sum ∷ sums)) ++ rest
    ≡ head_line_text (opening_line sum (length sum.terms)) ++ 10 ∷ (lines_text (map term_line sum.terms) ++ (lines_text (lines_of sums) ++ rest))
sum_front sum sums rest =
    let opening = opening_line sum (length sum.terms) in
    line_front opening (map term_line sum.terms ++ lines_of sums) rest
    ∙ ap (λ w. head_line_text opening ++ 10 ∷ (w ++ rest)) (lines_text-append (map term_line sum.terms) (lines_of sums))
    ∙ ap (λ w. head_line_text opening ++ 10 ∷ w) (append_assoc (lines_text (map term_line sum.terms)) (lines_text (lines_of sums)) rest)

-- sums with the same numbers and terms are the same
one_sum : (a b : Sum) (m n : ℕ) → opening_line a m ≡ opening_line b n → a.terms ≡ b.terms → a ≡ b
one_sum a b m n same terms =
    let width : a.width ≡ b.width = cc in
    let offset : a.offset ≡ b.offset = cc in
    let low : a.low ≡ b.low = cc in
    let high : a.high ≡ b.high = cc in
    λ i. record { width = width i; offset = offset i; low = low i; high = high i; terms = terms i }

-- as many terms are declared by lines that are the same
one_count : (a b : Sum) (m n : ℕ) → opening_line a m ≡ opening_line b n → m ≡ n
one_count a b m n same = cc

-- later sums: those that stand behind others, and what is left before them
record HasMoreSums (xs ys : List Sum) (x y : List ℕ) : Type 0 where
  more : List Sum
  are : ys ≡ xs ++ more
  rest : x ≡ lines_text (lines_of more) ++ y

-- one sum before others
one_before : (a b : Sum) (xs ys : List Sum) (x y : List ℕ) → a ≡ b → HasMoreSums xs ys x y → HasMoreSums (a ∷ xs) (b ∷ ys) x y
one_before a b xs ys x y one later = record { more = later.more; are = ap (λ w. b ∷ w) later.are ∙ ap (λ c. c ∷ (xs ++ later.more)) (sym one); rest = later.rest }

-- of two lists of sums with one text one is a first part of the other
sums_front : (limits : Limits) (xs ys : List Sum) (x y : List ℕ) → AreSmall limits → All (IsWell limits) xs → All (IsWell limits) ys
    → lines_text (lines_of xs) ++ x ≡ lines_text (lines_of ys) ++ y → HasMoreSums xs ys x y ⊎ HasMoreSums ys xs y x
sums_front limits [] ys x y few are are2 same = inl (record { more = ys; are = refl; rest = sym (no_lines x) ∙ same })
sums_front limits (a ∷ xs) [] x y few are are2 same = inr (record { more = a ∷ xs; are = refl; rest = sym (no_lines y) ∙ sym same })
sums_front limits (a ∷ xs) (b ∷ ys) x y few are are2 same =
    let is = All-head (IsWell limits) a xs are in
    let is2 = All-head (IsWell limits) b ys are2 in
    let m = length a.terms in
    let n = length b.terms in
    let first = one_line (opening_line a m) (opening_line b n) _ _ (open_written limits.slots (opening_line a m) (may_open limits a few is)) (open_written limits.slots (opening_line b n) (may_open limits b few is2))
    (sym (sum_front a xs x) ∙ same ∙ sum_front b ys y) in
    let terms = terms_same limits.slots a.terms b.terms (lines_text (lines_of xs) ++ x) (lines_text (lines_of ys) ++ y) few.slots (terms_are limits.slots a is.declared) (terms_are limits.slots b is2.declared) (one_count a b m n first.0) first.1 in
    let one = one_sum a b m n first.0 terms.0 in
    elim (sums_front limits xs ys x y few (All-tail (IsWell limits) a xs are) (All-tail (IsWell limits) b ys are2) terms.1) [
      | inl later ↦ inl (one_before a b xs ys x y one later)
      | inr later ↦ inr (one_before b a ys xs y x (sym one) later)
    ]

-- no line that may open a sum stands first, so no sums do
none_open : (limits : Limits) (sums : List Sum) (x y : List ℕ) → AreSmall limits → All (IsWell limits) sums → NoneFirst (MayOpen limits.slots) x → x ≡ lines_text (lines_of sums) ++ y → sums ≡ []
none_open limits [] x y few are none is = refl
none_open limits (a ∷ sums) x y few are none is =
    absurd (none (opening_line a (length a.terms)) (may_open limits a few (All-head (IsWell limits) a sums are)) (record { after = _; is = is ∙ sum_front a sums y }))

-- the later ones of sums that are well are well
well_more : (limits : Limits) (xs ys more : List Sum) → ys ≡ xs ++ more → All (IsWell limits) ys → All (IsWell limits) more
well_more limits xs ys more is are = All-second (IsWell limits) xs more (subst (All (IsWell limits)) is are)

-- ---- one head

-- what follows the first line of a head's text
head_rest : (version : ℕ) (lines : List HeadLine) (bytes rest : List ℕ) → bytes ≡ text_with version lines ++ rest → bytes ≡ first_line version ++ 10 ∷ (lines_text lines ++ rest)
head_rest version lines bytes rest is = is ∙ append_assoc (first_line version) (10 ∷ lines_text lines) rest

-- what follows the first line of either version
after_first : (version : ℕ) (rest : List ℕ) → IsHeadVersion version → drop 10 (first_line version ++ 10 ∷ rest) ≡ rest
after_first version rest (inl is) = subst (λ (v : ℕ). drop 10 (first_line v ++ 10 ∷ rest) ≡ rest) (sym is) refl
after_first version rest (inr is) = subst (λ (v : ℕ). drop 10 (first_line v ++ 10 ∷ rest) ≡ rest) (sym is) refl

-- the digit of a version
version_digit : (version : ℕ) (rest : List ℕ) → IsHeadVersion version → get_or (first_line version ++ 10 ∷ rest) 8 0 ≡ version + 48
version_digit version rest (inl is) = subst (λ (v : ℕ). get_or (first_line v ++ 10 ∷ rest) 8 0 ≡ v + 48) (sym is) refl
version_digit version rest (inr is) = subst (λ (v : ℕ). get_or (first_line v ++ 10 ∷ rest) 8 0 ≡ v + 48) (sym is) refl

-- bytes begin with the first line of one version
same_version : (a b : ℕ) (bytes x y : List ℕ) → IsHeadVersion a → IsHeadVersion b → bytes ≡ first_line a ++ 10 ∷ x → bytes ≡ first_line b ++ 10 ∷ y → a ≡ b
same_version a b bytes x y is is2 one other =
    let first = ap (λ (l : List ℕ). get_or l 8 0) one ∙ version_digit a x is in
    let second = ap (λ (l : List ℕ). get_or l 8 0) other ∙ version_digit b y is2 in
    let e : a + 48 ≡ b + 48 = sym first ∙ second in
    omega (arith, e)

-- what follows it is one
rest_same : (a b : ℕ) (xs ys : List HeadLine) (bytes x y : List ℕ) → IsHeadVersion a → IsHeadVersion b → bytes ≡ text_with a xs ++ x → bytes ≡ text_with b ys ++ y → lines_text xs ++ x ≡ lines_text ys ++ y
rest_same a b xs ys bytes x y of_a of_b is is2 =
    sym (ap (drop 10) (head_rest a xs bytes x is) ∙ after_first a (lines_text xs ++ x) of_a)
    ∙ ap (drop 10) (head_rest b ys bytes y is2) ∙ after_first b (lines_text ys ++ y) of_b

-- sums behind which none may open are not a first part of others
not_more : (limits : Limits) (xs ys : List Sum) (x y : List ℕ) → AreSmall limits → All (IsWell limits) ys → NoneFirst (MayOpen limits.slots) x → HasMoreSums xs ys x y → ys ≡ xs
not_more limits xs ys x y few are none has =
    has.are ∙ ap (λ w. xs ++ w) (none_open limits has.more x y few (well_more limits xs ys has.more has.are are) none has.rest) ∙ append-nil xs

-- two heads of the same bytes are the same
pub heads_same : (limits : Limits) (bytes : List ℕ) (a b : Head) → AreSmall limits → IsHeaded limits bytes a → IsHeaded limits bytes b → a ≡ b
heads_same limits bytes a b few is is2 =
    let are = well a.version limits a.sums is.kept.sums in
    let are2 = well b.version limits b.sums is2.kept.sums in
    let x = drop a.bytes bytes in
    let y = drop b.bytes bytes in
    let version = same_version a.version b.version bytes _ _ is.kept.version is2.kept.version (head_rest a.version (lines_of a.sums) bytes x is.is) (head_rest b.version (lines_of b.sums) bytes y is2.is) in
    let sums : a.sums ≡ b.sums = elim (sums_front limits a.sums b.sums x y few are are2 (rest_same a.version b.version (lines_of a.sums) (lines_of b.sums) bytes x y is.kept.version is2.kept.version is.is is2.is)) [
      | inl has ↦ sym (not_more limits a.sums b.sums x y few are2 is.ends has)
      | inr has ↦ not_more limits b.sums a.sums y x few are is2.ends has
    ] in
    is.kept.is ∙ ap₂ head_of version sums ∙ sym is2.kept.is

-- no front has the first line of a head where there is none
no_first : (version : ℕ) (bytes : List ℕ) → IsHeadVersion version → (¬ BeginsWith (first_line 3) bytes) × (¬ BeginsWith (first_line 4) bytes) → ¬ BeginsWith (first_line version) bytes
no_first version bytes (inl is) none = subst (λ (v : ℕ). ¬ BeginsWith (first_line v) bytes) (sym is) none.0
no_first version bytes (inr is) none = subst (λ (v : ℕ). ¬ BeginsWith (first_line v) bytes) (sym is) none.1

-- a head begins with its first line
pub head_first : (limits : Limits) (bytes : List ℕ) (head : Head) → IsHeaded limits bytes head → ¬ ((¬ BeginsWith (first_line 3) bytes) × (¬ BeginsWith (first_line 4) bytes))
head_first limits bytes head is none =
    no_first head.version bytes is.kept.version none
    (record { after = lines_text (lines_of head.sums) ++ drop head.bytes bytes; is = head_rest head.version (lines_of head.sums) bytes (drop head.bytes bytes) is.is })

-- so does a head with a defect
bad_begins : (limits : Limits) (bytes : List ℕ) (defect : Defect) → (is : IsBadHead limits bytes defect) → BeginsWith (first_line is.version) bytes
bad_begins limits bytes defect is = at is.bad
  where
    at : IsBadAt is.version limits (length is.sums) (lines_of is.sums) bytes defect → BeginsWith (first_line is.version) bytes
    at (inl bad) = record { after = lines_text (lines_of is.sums) ++ bad.rest; is = head_rest is.version (lines_of is.sums) bytes bad.rest bad.is }
    at (inr bad) =
        record { after = lines_text (lines_of is.sums ++ open_lines bad.sum bad.count) ++ bad.rest; is = head_rest is.version (lines_of is.sums ++ open_lines bad.sum bad.count) bytes bad.rest bad.is }

pub bad_first : (limits : Limits) (bytes : List ℕ) (defect : Defect) → IsBadHead limits bytes defect → ¬ ((¬ BeginsWith (first_line 3) bytes) × (¬ BeginsWith (first_line 4) bytes))
bad_first limits bytes defect is none = no_first is.version bytes is.is_version none (bad_begins limits bytes defect is)

-- ---- a head has no defect

-- a row that is there passes the test
there_test : (rows : ℕ) (row : Option ℕ) → IsThere rows row → is_there rows row ≡ true
there_test rows None there = refl
there_test rows (Some row) there = grind (arith, nat_tests)

-- two tests that both pass
both_pass : (a b c d : ℕ) → a ≤ b → c ≤ d → nat_le a b && nat_le c d ≡ true
both_pass a b c d one other = grind (arith, nat_tests)

room_test : (version : ℕ) (limits : Limits) (count : ℕ) → limits.slots + count ≤ most_slots version → limits.rows + 2 * count ≤ most_rows version → has_room version limits count ≡ true
room_test version limits count slots rows = both_pass (limits.slots + count) (most_slots version) (limits.rows + 2 * count) (most_rows version) slots rows

-- the tests of a sum line all pass
all_pass : (a b r : Bool) → a ≡ true → b ≡ true → r ≡ true → cond {A = Option ℕ} (a && b) (cond {A = Option ℕ} r None (Some 21)) (Some 4) ≡ None
all_pass a b r e f g = rw (e, f, g) refl

less : (a b most : ℕ) → a + b ≤ most → (n : ℕ) → n ≤ b → a + n ≤ most
less a b most le n few = omega (arith, le, few)

less_twice : (a b most : ℕ) → a + 2 * b ≤ most → (n : ℕ) → n ≤ b → a + 2 * n ≤ most
less_twice a b most le n few = omega (arith, le, few)

-- the line of a sum that is kept after others has no defect
no_defect : (version : ℕ) (limits : Limits) (before later : List Sum) (sum : Sum) → AreKept version limits (before ++ sum ∷ later) → IsWell limits sum → opening_defect version limits (length before) (opening_line sum (length sum.terms)) ≡ None
no_defect version limits before later sum kept is =
    let all = before ++ sum ∷ later in
    let long : length all ≡ length before + (length later + 1) = omega (arith, length-append before (sum ∷ later)) in
    let some : 0 < length all = omega (arith, long) in
    let few : length before + 1 ≤ length all = omega (arith, long) in
    all_pass (is_there limits.rows sum.low) (is_there limits.rows sum.high) (has_room version limits (length before + 1)) (there_test limits.rows sum.low is.rows.0) (there_test limits.rows sum.high is.rows.1)
    (room_test version limits (length before + 1) (less limits.slots (length all) (most_slots version) (kept.slots some) (length before + 1) few) (less_twice limits.rows (length all) (most_rows version) (kept.rows some) (length before + 1) few))

-- no option is none and some
none_some : (found : Option ℕ) (kind : ℕ) → found ≡ None → found ≡ Some kind → ⊥
none_some found kind is is2 = cc

-- a head has no defect at a sum
no_bad_sum : (version : ℕ) (limits : Limits) (bytes : List ℕ) (head : Head) (sums : List Sum) (defect : Defect) → AreSmall limits → IsHeadVersion version → version ≡ head.version → IsHeaded limits bytes head → AreKept version limits sums
    → IsBadAtSum version limits (length sums) (lines_of sums) bytes defect → ⊥
no_bad_sum version limits bytes head sums defect few of_version same is kept bad =
    let are = well head.version limits head.sums is.kept.sums in
    let x = drop head.bytes bytes in
    elim (sums_front limits head.sums sums x bad.rest few are (well version limits sums kept) (rest_same head.version version (lines_of head.sums) (lines_of sums) bytes x bad.rest is.kept.version of_version is.is bad.is)) [
      | inl has ↦ first_none has.more has.rest (none_open limits has.more x bad.rest few (well_more limits head.sums sums has.more has.are (well version limits sums kept)) is.ends has.rest)
      | inr has ↦ later_none has.more has.are has.rest
    ]
  where
    first_none : (more : List Sum) → drop head.bytes bytes ≡ lines_text (lines_of more) ++ bad.rest → more ≡ [] → ⊥
    first_none more rest none =
        let same : drop head.bytes bytes ≡ bad.rest = rest ∙ ap (λ w. lines_text (lines_of w) ++ bad.rest) none ∙ no_lines bad.rest in
        is.ends bad.bad.line bad.bad.opens (subst (BeginsWith (head_line_text bad.bad.line)) (sym same) bad.bad.first)

    later_none : (more : List Sum) → head.sums ≡ sums ++ more → bad.rest ≡ lines_text (lines_of more) ++ drop head.bytes bytes → ⊥
    later_none [] are rest = first_none [] (sym (rest ∙ no_lines (drop head.bytes bytes)) ∙ sym (no_lines bad.rest)) refl
    later_none (a ∷ more) are rest =
        let one = All-head (IsWell limits) a more (well_more limits sums head.sums (a ∷ more) are (well head.version limits head.sums is.kept.sums)) in
        let opening = opening_line a (length a.terms) in
        let line = first_same bad.bad.line opening bad.rest _ (open_written limits.slots bad.bad.line bad.bad.opens) (open_written limits.slots opening (may_open limits a few one)) (rest ∙ sum_front a more (drop head.bytes bytes)) bad.bad.first in
        let own = subst (λ (v : ℕ). AreKept v limits head.sums) (sym same) is.kept.sums in
        none_some (opening_defect version limits (length sums) opening) defect.kind (no_defect version limits sums more a (subst (AreKept version limits) are own) one) (sym (ap (opening_defect version limits (length sums)) line) ∙ bad.bad.defect)

-- ---- nor at a term

-- numbers that ascend do so after the first
pub ascending_tail : (n : ℕ) (ns : List ℕ) → IsStrictlyIncreasing (n ∷ ns) → IsStrictlyIncreasing ns
ascending_tail n ns up = λ k within.
    let next : suc k + 1 ≡ suc (k + 1) = omega arith in
    subst (λ m. get_or ns k 0 < get_or (n ∷ ns) m 0) next (up (suc k) (omega (arith, within)))

-- the slot of a term is above that of the term before
next_above : (a first : Entry) (es : List Entry) → IsStrictlyIncreasing (map (λ (t : Entry). t.slot) (a ∷ first ∷ es)) → follows (Some a.slot) first.slot ≡ true
next_above a first es up = let less : a.slot < first.slot = up 0 (omega arith) in grind (arith, nat_tests)

-- a term follows those before it
follows_last : (above : Option ℕ) (xs : List Entry) (term : Entry) (later : List Entry) → IsStrictlyIncreasing (map (λ (t : Entry). t.slot) (xs ++ term ∷ later))
    → ((first : Entry) (es : List Entry) → xs ++ term ∷ later ≡ first ∷ es → follows above first.slot ≡ true) → follows (last_slot above xs) term.slot ≡ true
follows_last above [] term later up begins = begins term later refl
follows_last above (a ∷ xs) term later up begins =
    follows_last (Some a.slot) xs term later (ascending_tail a.slot (map (λ (t : Entry). t.slot) (xs ++ term ∷ later)) up)
    (λ first es is. next_above a first es (subst (λ (l : List Entry). IsStrictlyIncreasing (map (λ (t : Entry). t.slot) (a ∷ l))) is up))

-- a term that follows and is there is no defect
no_bad_term : (slots : ℕ) (above : Option ℕ) (term : Entry) (rest after : List ℕ) (kind : ℕ) → slots ≤ 4096 → IsTerm slots term → follows above term.slot ≡ true → rest ≡ head_line_text (term_line term) ++ 10 ∷ after → IsBadTerm slots above rest kind → ⊥
no_bad_term slots above term rest after kind few is above_last next (inl cut) = line_late (head_line_text (term_line term)) rest after next cut.1
no_bad_term slots above term rest after kind few is above_last next (inr (inl none)) = none.2 (term_line term) (term_written slots term few is, above_last) (record { after = after; is = next })
no_bad_term slots above term rest after kind few is above_last next (inr (inr far)) =
    let same = first_same (line.Term far.slot far.fixed far.per) (term_line term) rest after far.may_follow.0 (term_written slots term few is) next far.first in
    let slot : far.slot ≡ term.slot = cc in
    omega (arith, slot, is.there, far.far)

-- fewer terms than a sum has, where its next term stands, have no defect after them
no_bad_terms : (limits : Limits) (a : Sum) (xs : List Entry) (rest z : List ℕ) (kind : ℕ) → AreSmall limits → IsWell limits a → length xs < length a.terms → HasMoreTerms xs a.terms rest z → IsBadTerm limits.slots (last_slot None xs) rest kind → ⊥
no_bad_terms limits a xs rest z kind few is fewer has bad = at has.more has.are has.rest
  where
    at : (more : List Entry) → a.terms ≡ xs ++ more → rest ≡ lines_text (map term_line more) ++ z → ⊥
    at [] are next = omega (arith, fewer, ap length are, length-append xs [])
    at (t ∷ more) are next =
        let terms = subst (All (IsTerm limits.slots)) are (terms_are limits.slots a is.declared) in
        let up = subst (λ (l : List Entry). IsStrictlyIncreasing (map (λ (t : Entry). t.slot) l)) are is.declared.terms_bounded.ascending in
        no_bad_term limits.slots (last_slot None xs) t rest _ kind few.slots (All-head (IsTerm limits.slots) t more (All-second (IsTerm limits.slots) xs (t ∷ more) terms)) (follows_last None xs t more up (λ first es same. refl))
        (next ∙ line_front (term_line t) (map term_line more) z) bad

-- a head has no defect at a term
no_bad_at_term : (version : ℕ) (limits : Limits) (bytes : List ℕ) (head : Head) (sums : List Sum) (defect : Defect) → AreSmall limits → IsHeadVersion version → IsHeaded limits bytes head → AreKept version limits sums
    → IsBadAtTerm version limits (length sums) (lines_of sums) bytes defect → ⊥
no_bad_at_term version limits bytes head sums defect few of_version is kept bad =
    elim (sums_front limits head.sums sums x y few (well head.version limits head.sums is.kept.sums) (well version limits sums kept) same) [
      | inl has ↦ open_first (has.rest ∙ ap (λ w. lines_text (lines_of w) ++ y) (none_open limits has.more x y few (well_more limits head.sums sums has.more has.are (well version limits sums kept)) is.ends has.rest) ∙ no_lines y)
      | inr has ↦ later_first has.more has.are has.rest
    ]
  where
    x : List ℕ
    x = drop head.bytes bytes

    y : List ℕ
    y = lines_text (open_lines bad.sum bad.count) ++ bad.rest

    after : List ℕ
    after = lines_text (map term_line bad.sum.terms) ++ bad.rest

    opening : HeadLine
    opening = opening_line bad.sum bad.count

    begins : y ≡ head_line_text opening ++ 10 ∷ after
    begins = line_front opening (map term_line bad.sum.terms) bad.rest

    same : lines_text (lines_of head.sums) ++ x ≡ lines_text (lines_of sums) ++ y
    same =
        rest_same head.version version (lines_of head.sums) (lines_of sums ++ open_lines bad.sum bad.count) bytes x bad.rest is.kept.version of_version is.is bad.is
        ∙ ap (λ w. w ++ bad.rest) (lines_text-append (lines_of sums) (open_lines bad.sum bad.count)) ∙ append_assoc (lines_text (lines_of sums)) (lines_text (open_lines bad.sum bad.count)) bad.rest

    -- no sum's line stands first behind the head
    open_first : x ≡ y → ⊥
    open_first e = is.ends opening bad.opens (record { after = after; is = e ∙ begins })

    -- the terms of the open sum
    terms : All (IsTerm limits.slots) bad.sum.terms
    terms = λ k d within. record {
      there = bad.terms.bounded.named k d within;
      fixed = bad.terms.bounded.fixed_small k d within;
      per = bad.terms.bounded.per_small k d within;
      counts = bad.terms.count k d within;
    }

    later_first : (more : List Sum) → head.sums ≡ sums ++ more → y ≡ lines_text (lines_of more) ++ x → ⊥
    later_first [] are rest = open_first (sym (rest ∙ no_lines x))
    later_first (a ∷ more) are rest =
        let one = All-head (IsWell limits) a more (well_more limits sums head.sums (a ∷ more) are (well head.version limits head.sums is.kept.sums)) in
        let own = opening_line a (length a.terms) in
        let z = lines_text (lines_of more) ++ x in
        let first = one_line opening own after (lines_text (map term_line a.terms) ++ z) (open_written limits.slots opening bad.opens) (open_written limits.slots own (may_open limits a few one)) (sym begins ∙ rest ∙ sum_front a more x) in
        let count = one_count bad.sum a bad.count (length a.terms) first.0 in
        let fewer : length bad.sum.terms < length a.terms = omega (arith, bad.fewer, count) in
        no_bad_terms limits a bad.sum.terms bad.rest z defect.kind few one fewer
        (terms_front limits.slots bad.sum.terms a.terms bad.rest z few.slots terms (terms_are limits.slots a one.declared) (omega (arith, fewer)) first.1) bad.bad

-- bytes with a head have no defect of a head
pub head_sound : (limits : Limits) (bytes : List ℕ) (head : Head) (defect : Defect) → AreSmall limits → IsHeaded limits bytes head → IsBadHead limits bytes defect → ⊥
head_sound limits bytes head defect few is bad = at bad.bad
  where
    same : bad.version ≡ head.version
    same =
        let x = drop head.bytes bytes in
        let first = bad_begins limits bytes defect bad in
        same_version bad.version head.version bytes first.after _ bad.is_version is.kept.version first.is (head_rest head.version (lines_of head.sums) bytes x is.is)

    at : IsBadAt bad.version limits (length bad.sums) (lines_of bad.sums) bytes defect → ⊥
    at (inl here) = no_bad_sum bad.version limits bytes head bad.sums defect few bad.is_version same is bad.kept here
    at (inr here) = no_bad_at_term bad.version limits bytes head bad.sums defect few bad.is_version is bad.kept here
