-- The first defect of a head is what the function of its lines finds.
use Rattle.std.proofs.Common.{◌≡◌, ℕ, zero, suc, ◌+◌, ◌-◌, ◌*◌, ◌<◌, ◌≤◌, ◌^◌, Bool, true, false, cond, ltb, leb, ◌&&◌, ◌==◌, All, List, [], ◌∷◌, ◌++◌, length, length-append, get_or, map, bytes_eq, Option, Some, None, refl, sym, ap, ◌∙◌, subst, arith, append_assoc, unsigned_abs, inl, inr, ◌⊎◌}
use Rattle.std.specs.Prelude.{⊤}
use Rattle.std.specs.List.Sorted.{IsStrictlyIncreasing}
use Rattle.std.specs.Option.{option_map_or}
use Rattle.std.proofs.lemmas.Bool.{and_from, cases_Bool, cases_lt, cond-false, cond-true, le-leb, le-ltb, lt-leb, lt-ltb}
use Rattle.std.proofs.lemmas.List.{length-map}
use Rattle.std.proofs.lemmas.List.Elements.{All-head, All-tail}
use Rattle.std.proofs.lemmas.Slice.Eq.{bytes_eq-Decides}
use Rattle.log_lines.specs.declared.defect.Defect.{Defect}
use Rattle.log_lines.specs.declared.grammar.Limits.{Limits}
use Rattle.log_lines.specs.Grammar.{follows}
use Rattle.log_lines.specs.Reader.{HasNoFeed}
use Rattle.row_kit.specs.Row.{is_nothing}
use Rattle.row_kit.specs.declared.row.Entry.{Entry}
use Rattle.row_kit.proofs.Ascending.{few_entries}
use Rattle.sum_slots.specs.declared.sum.Sum.{Sum}
use Rattle.sum_slots.specs.Sum.{IsDeclared}
use Rattle.sum_lines.specs.declared.line.HeadLine.{HeadLine}
use Rattle.sum_lines.specs.declared.line.HeadLine.TheVariants as line
use Rattle.sum_lines.specs.Front.{IsBadAt, IsBadAtSum, IsBadAtTerm, IsBadHead, IsBadTerm, MayFollow, MayOpen, NoneFirst, has_room, is_there, opening_defect}
use Rattle.sum_lines.specs.Head.{AreKept, AreTerms, HasRows, IsHeadVersion, IsThere, first_line, last_slot, lines_of, lines_text, most_rows, most_slots, open_lines, opening_line, term_line, text_with}
use Rattle.sum_lines.specs.Line.{IsHeadLine, head_line_text}
use Rattle.sum_lines.specs.laws.Sums.{IsSumKept}
use Rattle.sum_lines.specs.laws.Walk.{IsTermAbove}
use Rattle.sum_lines.proofs.Feeds.{tested, text_fits}
use Rattle.sum_lines.proofs.LineTexts.{lines_text-append, lines_text-nil}
use Rattle.sum_lines.proofs.Openings.{there_wide}
use Rattle.head_laws.specs.HeadLines.{head_line_said}
use Rattle.head_laws.specs.HeadDefects.{count_of, head_defect, opening_said, opens, parts_defect, slot_after, sums_defect}
use Rattle.head_laws.proofs.HeadLinesSaid.{said_is, said_line}
use Rattle.head_laws.proofs.Parts.{First, first_of, last_parts, not_none, parts_of, some_part, whole_parts}

-- ---- one line

-- a line that may open a sum may be written
open_written : (slots : ℕ) (line : HeadLine) → MayOpen slots line → IsHeadLine line
open_written slots (line.Sum _ _ _ _ _) may = may.0
open_written slots (line.Term _ _ _) may = absurd may

-- it opens one
may_opens : (slots : ℕ) (line : HeadLine) → MayOpen slots line → opens slots (Some line) ≡ Some line
may_opens slots (line.Sum width offset low high count) may = cond-true (leb count slots) (Some (line.Sum width offset low high count)) None (le-leb count slots may.1)
may_opens slots (line.Term _ _ _) may = absurd may

opening_is : (slots : ℕ) (line : HeadLine) (later : ℕ) → MayOpen slots line → 0 < later → opening_said slots (head_line_text line) later ≡ Some line
opening_is slots line later may some =
    cond-true (ltb 0 later) (opens slots (head_line_said (head_line_text line))) None (lt-ltb 0 later some)
    ∙ ap (opens slots) (said_line line (open_written slots line may)) ∙ may_opens slots line may

-- the next line begins a sum
step_sum : (version : ℕ) (limits : Limits) (before : ℕ) (above : Option ℕ) (number : ℕ) (line : HeadLine) (bytes after : List ℕ) → MayOpen limits.slots line → bytes ≡ head_line_text line ++ 10 ∷ after
    → sums_defect version limits before zero above number (parts_of bytes)
    ≡ option_map_or (λ kind. Some (number, kind)) (opening_defect version limits before line) (sums_defect version limits (before + 1) (count_of line) None (number + 1) (parts_of after))
unfolding sums_defect
step_sum version limits before above number line bytes after may is =
    ap (sums_defect version limits before zero above number) (whole_parts bytes (head_line_text line) after (text_fits line (open_written limits.slots line may)).0 is)
    ∙ ap (λ (o : Option HeadLine). option_map_or (λ (l : HeadLine). option_map_or (λ (kind : ℕ). Some (number, kind)) (opening_defect version limits before l) (sums_defect version limits (before + 1) (count_of l) None (number + 1) (parts_of after))) o None)
    (opening_is limits.slots line (length (parts_of after)) may (some_part after))

-- the next line is that of a term that follows
step_term : (version : ℕ) (limits : Limits) (before left : ℕ) (above : Option ℕ) (number : ℕ) (term : Entry) (bytes after : List ℕ) → MayFollow above (term_line term) → bytes ≡ head_line_text (term_line term) ++ 10 ∷ after
    → sums_defect version limits before (suc left) above number (parts_of bytes)
    ≡ cond (leb limits.slots term.slot) (Some (number, 5)) (sums_defect version limits before left (Some term.slot) (number + 1) (parts_of after))
unfolding sums_defect
step_term version limits before left above number term bytes after may is =
    let part = head_line_text (term_line term) in
    let later : ℕ → Option (ℕ × ℕ) = λ slot. cond (leb limits.slots slot) (Some (number, 5)) (sums_defect version limits before left (Some slot) (number + 1) (parts_of after)) in
    ap (sums_defect version limits before (suc left) above number) (whole_parts bytes part after (text_fits (term_line term) may.0).0 is)
    ∙ cond-false (length (parts_of after) == 0) (Some (number, cond (ltb 200 (length part)) 1 2)) (option_map_or later (slot_after above (head_line_said part)) (Some (number, 1))) (not_none (length (parts_of after)) (some_part after))
    ∙ ap (λ (o : Option HeadLine). option_map_or later (slot_after above o) (Some (number, 1))) (said_line (term_line term) may.0)
    ∙ ap (λ (b : Bool). option_map_or later (cond b (Some term.slot) None) (Some (number, 1))) may.1

-- ---- terms

-- terms one after another, each above the last slot
abbrev pub TermsFrom : ℕ → Option ℕ → List Entry → Type 0
TermsFrom slots above [] = ⊤
TermsFrom slots above (term ∷ terms) = IsTermAbove slots above term × TermsFrom slots (Some term.slot) terms

-- its line may follow
term_follows : (slots : ℕ) (above : Option ℕ) (term : Entry) → slots ≤ 4096 → IsTermAbove slots above term → MayFollow above (term_line term)
term_follows slots above term few is = ((omega (arith, is.there), is.fixed, is.per, is.counts), is.above_last)

-- the text of a line and more
line_front : (line : HeadLine) (lines : List HeadLine) (rest : List ℕ) → lines_text (line ∷ lines) ++ rest ≡ head_line_text line ++ 10 ∷ (lines_text lines ++ rest)
unfolding lines_text
line_front line lines rest = append_assoc (head_line_text line ++ 10 ∷ []) (lines_text lines) rest ∙ append_assoc (head_line_text line) (10 ∷ []) (lines_text lines ++ rest)

walk_terms : (version : ℕ) (limits : Limits) (before : ℕ) (terms : List Entry) (n left : ℕ) (above : Option ℕ) (number : ℕ) (rest : List ℕ) → limits.slots ≤ 4096 → TermsFrom limits.slots above terms → n ≡ length terms + left
    → sums_defect version limits before n above number (parts_of (lines_text (map term_line terms) ++ rest)) ≡ sums_defect version limits before left (last_slot above terms) (number + length terms) (parts_of rest)
walk_terms version limits before [] n left above number rest few are long =
    let same : n ≡ left = omega (arith, long) in
    let on : number ≡ number + 0 = omega arith in
    ap (λ (m : ℕ). sums_defect version limits before m above number (parts_of (lines_text [] ++ rest))) same
    ∙ ap (λ (t : List ℕ). sums_defect version limits before left above number (parts_of (t ++ rest))) lines_text-nil
    ∙ ap (λ (m : ℕ). sums_defect version limits before left above m (parts_of rest)) on
walk_terms version limits before (term ∷ terms) zero left above number rest few are long = absurd (omega (arith, long))
walk_terms version limits before (term ∷ terms) (suc n) left above number rest few are long =
    let more = lines_text (map term_line terms) ++ rest in
    let there : leb limits.slots term.slot ≡ false = lt-leb limits.slots term.slot are.0.there in
    let on : number + 1 + length terms ≡ number + length (term ∷ terms) = omega arith in
    let fewer : n ≡ length terms + left = omega (arith, long) in
    step_term version limits before n above number term (lines_text (map term_line (term ∷ terms)) ++ rest) more (term_follows limits.slots above term few are.0) (line_front (term_line term) (map term_line terms) rest)
    ∙ cond-false (leb limits.slots term.slot) (Some (number, 5)) (sums_defect version limits before n (Some term.slot) (number + 1) (parts_of more)) there
    ∙ walk_terms version limits before terms n left (Some term.slot) (number + 1) rest few are.1 fewer
    ∙ ap (λ (m : ℕ). sums_defect version limits before left (last_slot (Some term.slot) terms) m (parts_of rest)) on

-- terms that keep the bounds of a sum's come one after another
above_next : (above : Option ℕ) (term : Entry) (terms : List Entry) → IsStrictlyIncreasing (map (λ (t : Entry). t.slot) (term ∷ terms)) → (next : Entry) (more : List Entry) → terms ≡ next ∷ more → follows (Some term.slot) next.slot ≡ true
above_next above term terms up next more is =
    let less : term.slot < next.slot = subst (λ (ts : List Entry). IsStrictlyIncreasing (map (λ (t : Entry). t.slot) (term ∷ ts))) is up 0 (omega arith) in
    lt-ltb term.slot next.slot less

pub tail_rises : (n : ℕ) (ns : List ℕ) → IsStrictlyIncreasing (n ∷ ns) → IsStrictlyIncreasing ns
tail_rises n ns up = λ k within.
    let next : suc k + 1 ≡ suc (k + 1) = omega arith in
    subst (λ m. get_or ns k 0 < get_or (n ∷ ns) m 0) next (up (suc k) (omega (arith, within)))

terms_chain : (slots : ℕ) (above : Option ℕ) (terms : List Entry) → AreTerms slots terms → ((next : Entry) (more : List Entry) → terms ≡ next ∷ more → follows above next.slot ≡ true) → TermsFrom slots above terms
terms_chain slots above [] are first = tt
terms_chain slots above (term ∷ terms) are first =
    let bounded = are.bounded in (
      record {
        there = All-head (λ (e : Entry). e.slot < slots) term terms bounded.named;
        above_last = first term terms refl;
        fixed = All-head (λ (e : Entry). unsigned_abs e.fixed ≤ 10000000) term terms bounded.fixed_small;
        per = All-head (λ (e : Entry). unsigned_abs e.per ≤ 10000000) term terms bounded.per_small;
        counts = All-head (λ (e : Entry). is_nothing (e.fixed, e.per) ≡ false) term terms are.count;
      },
      terms_chain slots (Some term.slot) terms
          (record {
            count = All-tail (λ (e : Entry). is_nothing (e.fixed, e.per) ≡ false) term terms are.count;
            bounded = record {
              named = All-tail (λ (e : Entry). e.slot < slots) term terms bounded.named;
              ascending = tail_rises term.slot (map (λ (t : Entry). t.slot) terms) bounded.ascending;
              fixed_small = All-tail (λ (e : Entry). unsigned_abs e.fixed ≤ 10000000) term terms bounded.fixed_small;
              per_small = All-tail (λ (e : Entry). unsigned_abs e.per ≤ 10000000) term terms bounded.per_small;
            };
          }) (above_next above term terms bounded.ascending),
    )

pub all_terms : (slots : ℕ) (terms : List Entry) → AreTerms slots terms → TermsFrom slots None terms
all_terms slots terms are = terms_chain slots None terms are (λ next more is. refl)

-- ---- sums

abbrev SumsFrom : ℕ → Limits → ℕ → List Sum → Type 0
SumsFrom version limits before [] = ⊤
SumsFrom version limits before (sum ∷ sums) = IsSumKept version limits before sum × SumsFrom version limits (before + 1) sums

room_test : (version : ℕ) (limits : Limits) (count : ℕ) → limits.slots + count ≤ most_slots version → limits.rows + 2 * count ≤ most_rows version → has_room version limits count ≡ true
room_test version limits count slots rows =
    and_from (leb (limits.slots + count) (most_slots version)) (leb (limits.rows + 2 * count) (most_rows version)) (le-leb (limits.slots + count) (most_slots version) slots) (le-leb (limits.rows + 2 * count) (most_rows version) rows)

sums_chain : (version : ℕ) (limits : Limits) (before : ℕ) (sums : List Sum) → All (IsDeclared limits.slots) sums → All (HasRows limits.rows) sums
    → (0 < length sums → limits.slots + (before + length sums) ≤ most_slots version) → (0 < length sums → limits.rows + 2 * (before + length sums) ≤ most_rows version) → SumsFrom version limits before sums
sums_chain version limits before [] declared rows slots_room rows_room = tt
sums_chain version limits before (sum ∷ sums) declared rows slots_room rows_room =
    let slots = slots_room (omega arith) in
    let room = rows_room (omega arith) in (
      record {
        declared = All-head (IsDeclared limits.slots) sum sums declared;
        rows = All-head (HasRows limits.rows) sum sums rows;
        room = room_test version limits (before + 1) (at_most limits.slots before (length sums) (most_slots version) slots) (at_most_twice limits.rows before (length sums) (most_rows version) room);
      },
      sums_chain version limits (before + 1) sums (All-tail (IsDeclared limits.slots) sum sums declared) (All-tail (HasRows limits.rows) sum sums rows)
          (λ some. shift limits.slots before (length sums) (most_slots version) slots) (λ some. shift_twice limits.rows before (length sums) (most_rows version) room),
    )
  where
    at_most : (a b n most : ℕ) → a + (b + suc n) ≤ most → a + (b + 1) ≤ most
    at_most a b n most le = omega (arith, le)

    at_most_twice : (a b n most : ℕ) → a + 2 * (b + suc n) ≤ most → a + 2 * (b + 1) ≤ most
    at_most_twice a b n most le = omega (arith, le)

    shift : (a b n most : ℕ) → a + (b + suc n) ≤ most → a + (b + 1 + n) ≤ most
    shift a b n most le = omega (arith, le)

    shift_twice : (a b n most : ℕ) → a + 2 * (b + suc n) ≤ most → a + 2 * (b + 1 + n) ≤ most
    shift_twice a b n most le = omega (arith, le)

all_sums : (version : ℕ) (limits : Limits) (sums : List Sum) → AreKept version limits sums → SumsFrom version limits 0 sums
all_sums version limits sums kept = sums_chain version limits 0 sums kept.declared kept.rows_there (λ some. omega (arith, kept.slots some)) (λ some. omega (arith, kept.rows some))

-- the first line of a sum that is kept may open it
may_open : (version : ℕ) (limits : Limits) (before : ℕ) (sum : Sum) → limits.slots ≤ 4096 → limits.rows ≤ 400000 → IsSumKept version limits before sum → MayOpen limits.slots (opening_line sum (length sum.terms))
may_open version limits before sum few few_rows kept =
    let declared = kept.declared in
    let most = few_entries limits.slots 10000000 sum.terms declared.terms_bounded in (
      (
        (declared.width_some, declared.width_most),
        declared.offset_small,
        there_wide limits.rows (10 ^ 30) sum.low (omega (arith, few_rows)) kept.rows.0,
        there_wide limits.rows (10 ^ 30) sum.high (omega (arith, few_rows)) kept.rows.1,
        (declared.terms_some, omega (arith, few, most)),
      ),
      most,
    )

there_test : (rows : ℕ) (row : Option ℕ) → IsThere rows row → is_there rows row ≡ true
there_test rows None there = refl
there_test rows (Some row) there = lt-ltb row rows there

all_pass : (a b r : Bool) → a ≡ true → b ≡ true → r ≡ true → cond {A = Option ℕ} (a && b) (cond {A = Option ℕ} r None (Some 21)) (Some 4) ≡ None
all_pass a b r e f g = rw (e, f, g) refl

no_defect : (version : ℕ) (limits : Limits) (before : ℕ) (sum : Sum) → IsSumKept version limits before sum → opening_defect version limits before (opening_line sum (length sum.terms)) ≡ None
no_defect version limits before sum kept =
    all_pass (is_there limits.rows sum.low) (is_there limits.rows sum.high) (has_room version limits (before + 1)) (there_test limits.rows sum.low kept.rows.0) (there_test limits.rows sum.high kept.rows.1) kept.room

-- where a sum is to come no last slot counts
free_above : (version : ℕ) (limits : Limits) (before : ℕ) (a b : Option ℕ) (number : ℕ) (parts : List (List ℕ)) → sums_defect version limits before zero a number parts ≡ sums_defect version limits before zero b number parts
unfolding sums_defect
free_above version limits before a b number [] = refl
free_above version limits before a b number (part ∷ parts) = refl

-- the text of a sum and more
sum_front : (sum : Sum) (sums : List Sum) (rest : List ℕ) → lines_text (lines_of (sum ∷ sums)) ++ rest
    ≡ head_line_text (opening_line sum (length sum.terms)) ++ 10 ∷ (lines_text (map term_line sum.terms) ++ (lines_text (lines_of sums) ++ rest))
sum_front sum sums rest =
    let opening = opening_line sum (length sum.terms) in
    line_front opening (map term_line sum.terms ++ lines_of sums) rest
    ∙ ap (λ (w : List ℕ). head_line_text opening ++ 10 ∷ (w ++ rest)) (lines_text-append (map term_line sum.terms) (lines_of sums))
    ∙ ap (λ (w : List ℕ). head_line_text opening ++ 10 ∷ w) (append_assoc (lines_text (map term_line sum.terms)) (lines_text (lines_of sums)) rest)

walk_sums : (version : ℕ) (limits : Limits) (sums : List Sum) (before : ℕ) (above : Option ℕ) (number : ℕ) (rest : List ℕ) → limits.slots ≤ 4096 → limits.rows ≤ 400000 → SumsFrom version limits before sums
    → sums_defect version limits before zero above number (parts_of (lines_text (lines_of sums) ++ rest)) ≡ sums_defect version limits (before + length sums) zero None (number + length (lines_of sums)) (parts_of rest)
walk_sums version limits [] before above number rest few few_rows are =
    let count : before ≡ before + 0 = omega arith in
    let on : number ≡ number + 0 = omega arith in
    ap (λ (t : List ℕ). sums_defect version limits before zero above number (parts_of (t ++ rest))) lines_text-nil
    ∙ free_above version limits before above None number (parts_of rest)
    ∙ ap (λ (m : ℕ). sums_defect version limits m zero None number (parts_of rest)) count
    ∙ ap (λ (m : ℕ). sums_defect version limits (before + 0) zero None m (parts_of rest)) on
walk_sums version limits (sum ∷ sums) before above number rest few few_rows are =
    let opening = opening_line sum (length sum.terms) in
    let others = lines_text (lines_of sums) ++ rest in
    let more = lines_text (map term_line sum.terms) ++ others in
    let later = sums_defect version limits (before + 1) (length sum.terms) None (number + 1) (parts_of more) in
    let terms : AreTerms limits.slots sum.terms = record { count = are.0.declared.terms_count; bounded = are.0.declared.terms_bounded } in
    let count : before + 1 + length sums ≡ before + length (sum ∷ sums) = omega arith in
    let on : number + 1 + length sum.terms + length (lines_of sums) ≡ number + length (lines_of (sum ∷ sums)) = omega (arith, length-append (map term_line sum.terms) (lines_of sums), length-map sum.terms term_line) in
    step_sum version limits before above number opening (lines_text (lines_of (sum ∷ sums)) ++ rest) more (may_open version limits before sum few few_rows are.0) (sum_front sum sums rest)
    ∙ ap (λ (o : Option ℕ). option_map_or (λ (kind : ℕ). Some (number, kind)) o later) (no_defect version limits before sum are.0)
    ∙ walk_terms version limits (before + 1) sum.terms (length sum.terms) 0 None (number + 1) others few (all_terms limits.slots sum.terms terms) (omega arith)
    ∙ walk_sums version limits sums (before + 1) (last_slot None sum.terms) (number + 1 + length sum.terms) rest few few_rows are.1
    ∙ ap (λ (m : ℕ). sums_defect version limits m zero None (number + 1 + length sum.terms + length (lines_of sums)) (parts_of rest)) count
    ∙ ap (λ (m : ℕ). sums_defect version limits (before + length (sum ∷ sums)) zero None m (parts_of rest)) on

-- ---- from the relation to the function

-- the test of a last part
last_test : (version : ℕ) (limits : Limits) (before left : ℕ) (above : Option ℕ) (number : ℕ) (bytes : List ℕ) → HasNoFeed bytes
    → sums_defect version limits before (suc left) above number (parts_of bytes) ≡ Some (number, cond (ltb 200 (length bytes)) 1 2)
unfolding sums_defect
last_test version limits before left above number bytes plain = ap (sums_defect version limits before (suc left) above number) (last_parts bytes plain)

-- the test of another part
other_test : (version : ℕ) (limits : Limits) (before left : ℕ) (above : Option ℕ) (number : ℕ) (bytes part after : List ℕ) → HasNoFeed part → bytes ≡ part ++ 10 ∷ after → slot_after above (head_line_said part) ≡ None
    → sums_defect version limits before (suc left) above number (parts_of bytes) ≡ Some (number, 1)
unfolding sums_defect
other_test version limits before left above number bytes part after plain is none =
    let later : ℕ → Option (ℕ × ℕ) = λ slot. cond (leb limits.slots slot) (Some (number, 5)) (sums_defect version limits before left (Some slot) (number + 1) (parts_of after)) in
    ap (sums_defect version limits before (suc left) above number) (whole_parts bytes part after plain is)
    ∙ cond-false (length (parts_of after) == 0) (Some (number, cond (ltb 200 (length part)) 1 2)) (option_map_or later (slot_after above (head_line_said part)) (Some (number, 1))) (not_none (length (parts_of after)) (some_part after))
    ∙ ap (λ (o : Option ℕ). option_map_or later o (Some (number, 1))) none

-- a part in front of which no term may follow says no slot
no_slot : (above : Option ℕ) (bytes part after : List ℕ) → bytes ≡ part ++ 10 ∷ after → NoneFirst (MayFollow above) bytes → (said : Option HeadLine) → head_line_said part ≡ said → slot_after above said ≡ None
no_slot above bytes part after is none None said = refl
no_slot above bytes part after is none (Some (line.Sum width offset low high count)) said = refl
no_slot above bytes part after is none (Some (line.Term slot fixed per)) said =
    elim (cases_Bool (follows above slot)) [
      | inl above_last ↦
          let tells = said_is part (line.Term slot fixed per) said in
          absurd (none (line.Term slot fixed per) (tells.0, above_last) (record { after = after; is = is ∙ ap (λ (t : List ℕ). t ++ 10 ∷ after) (sym tells.1) }))
      | inr not_after ↦ cond-false (follows above slot) (Some slot) None not_after
    ]

bad_term : (version : ℕ) (limits : Limits) (before left : ℕ) (above : Option ℕ) (number kind : ℕ) (bytes : List ℕ) → IsBadTerm limits.slots above bytes kind
    → sums_defect version limits before (suc left) above number (parts_of bytes) ≡ Some (number, kind)
bad_term version limits before left above number kind bytes (inl cut) =
    last_test version limits before left above number bytes cut.1.0
    ∙ ap (λ (b : Bool). Some (number, cond b 1 2)) (le-ltb 200 (length bytes) cut.1.1)
    ∙ ap (λ (k : ℕ). Some (number, k)) (sym cut.0)
bad_term version limits before left above number kind bytes (inr (inl none)) = at (first_of bytes)
  where
    at : HasNoFeed bytes ⊎ First bytes → sums_defect version limits before (suc left) above number (parts_of bytes) ≡ Some (number, kind)
    at (inl plain) =
        elim (cases_lt 200 (length bytes)) [
          | inl long ↦
              last_test version limits before left above number bytes plain
              ∙ ap (λ (b : Bool). Some (number, cond b 1 2)) (lt-ltb 200 (length bytes) long)
              ∙ ap (λ (k : ℕ). Some (number, k)) (sym none.0)
          | inr short ↦ absurd (none.1 (plain, short))
        ]
    at (inr first) =
        other_test version limits before left above number bytes first.part first.after first.plain first.is
        (no_slot above bytes first.part first.after first.is none.2 (head_line_said first.part) refl)
        ∙ ap (λ (k : ℕ). Some (number, k)) (sym none.0)
bad_term version limits before left above number kind bytes (inr (inr far)) =
    let term : Entry = record { slot = far.slot; fixed = far.fixed; per = far.per } in
    step_term version limits before left above number term bytes far.first.after far.may_follow far.first.is
    ∙ cond-true (leb limits.slots far.slot) (Some (number, 5)) (sums_defect version limits before left (Some far.slot) (number + 1) (parts_of far.first.after)) (le-leb limits.slots far.slot far.far)
    ∙ ap (λ (k : ℕ). Some (number, k)) (sym far.kind_is)

-- the first line of a version has no line feed
first_plain : (version : ℕ) → IsHeadVersion version → HasNoFeed (first_line version)
first_plain version (inl is) = subst (λ (v : ℕ). HasNoFeed (first_line v)) (sym is) (tested (first_line 3) refl)
first_plain version (inr is) = subst (λ (v : ℕ). HasNoFeed (first_line v)) (sym is) (tested (first_line 4) refl)

-- bytes begin with the first line of a version
begun : (version : ℕ) (limits : Limits) (lines : List HeadLine) (bytes rest : List ℕ) → IsHeadVersion version → bytes ≡ text_with version lines ++ rest
    → head_defect version limits bytes ≡ sums_defect version limits 0 zero None 2 (parts_of (lines_text lines ++ rest))
begun version limits lines bytes rest of_version is =
    let front = first_line version in
    let after = lines_text lines ++ rest in
    let parts = parts_of after in
    let text : bytes ≡ front ++ 10 ∷ after = is ∙ append_assoc front (10 ∷ lines_text lines) rest in
    ap (parts_defect version limits) (whole_parts bytes front after (first_plain version of_version) text)
    ∙ cond-true (bytes_eq front front && ltb 0 (length parts)) (sums_defect version limits 0 zero None 2 parts) None
    (and_from (bytes_eq front front) (ltb 0 (length parts)) ((bytes_eq-Decides front front).1 refl) (lt-ltb 0 (length parts) (some_part after)))

bad_sum : (version : ℕ) (limits : Limits) (sums : List Sum) (bytes : List ℕ) (defect : Defect) → limits.slots ≤ 4096 → limits.rows ≤ 400000 → IsHeadVersion version → AreKept version limits sums
    → IsBadAtSum version limits (length sums) (lines_of sums) bytes defect → head_defect version limits bytes ≡ Some (defect.line, defect.kind)
bad_sum version limits sums bytes defect few few_rows of_version kept bad =
    let opening = bad.bad.line in
    let number = 2 + length (lines_of sums) in
    let count : 0 + length sums ≡ length sums = omega arith in
    begun version limits (lines_of sums) bytes bad.rest of_version bad.is
    ∙ walk_sums version limits sums 0 None 2 bad.rest few few_rows (all_sums version limits sums kept)
    ∙ ap (λ (m : ℕ). sums_defect version limits m zero None number (parts_of bad.rest)) count
    ∙ step_sum version limits (length sums) None number opening bad.rest bad.bad.first.after bad.bad.opens bad.bad.first.is
    ∙ ap (λ (o : Option ℕ). option_map_or (λ (kind : ℕ). Some (number, kind)) o (sums_defect version limits (length sums + 1) (count_of opening) None (number + 1) (parts_of bad.bad.first.after))) bad.bad.defect
    ∙ ap (λ (m : ℕ). Some (m, defect.kind)) (sym bad.line)

bad_at_term : (version : ℕ) (limits : Limits) (sums : List Sum) (bytes : List ℕ) (defect : Defect) → limits.slots ≤ 4096 → limits.rows ≤ 400000 → IsHeadVersion version → AreKept version limits sums
    → IsBadAtTerm version limits (length sums) (lines_of sums) bytes defect → head_defect version limits bytes ≡ Some (defect.line, defect.kind)
bad_at_term version limits sums bytes defect few few_rows of_version kept bad =
    let opening = opening_line bad.sum bad.count in
    let terms = bad.sum.terms in
    let begun_lines = open_lines bad.sum bad.count in
    let number = 2 + length (lines_of sums) in
    let after = lines_text (map term_line terms) ++ bad.rest in
    let rest = lines_text begun_lines ++ bad.rest in
    let left = bad.count - length terms - 1 in
    let long : bad.count ≡ length terms + suc left = omega (arith, bad.fewer) in
    let count : 0 + length sums ≡ length sums = omega arith in
    let on : number + 1 + length terms ≡ defect.line = omega (arith, bad.line, length-append (lines_of sums) begun_lines, length-map terms term_line) in
    let text : lines_text (lines_of sums ++ begun_lines) ++ bad.rest ≡ lines_text (lines_of sums) ++ rest =
    ap (λ (w : List ℕ). w ++ bad.rest) (lines_text-append (lines_of sums) begun_lines) ∙ append_assoc (lines_text (lines_of sums)) (lines_text begun_lines) bad.rest in
    begun version limits (lines_of sums ++ begun_lines) bytes bad.rest of_version bad.is
    ∙ ap (λ (t : List ℕ). sums_defect version limits 0 zero None 2 (parts_of t)) text
    ∙ walk_sums version limits sums 0 None 2 rest few few_rows (all_sums version limits sums kept)
    ∙ ap (λ (m : ℕ). sums_defect version limits m zero None number (parts_of rest)) count
    ∙ step_sum version limits (length sums) None number opening rest after bad.opens (line_front opening (map term_line terms) bad.rest)
    ∙ ap (λ (o : Option ℕ). option_map_or (λ (kind : ℕ). Some (number, kind)) o (sums_defect version limits (length sums + 1) bad.count None (number + 1) (parts_of after))) bad.sound
    ∙ walk_terms version limits (length sums + 1) terms bad.count (suc left) None (number + 1) bad.rest few (all_terms limits.slots terms bad.terms) long
    ∙ bad_term version limits (length sums + 1) left (last_slot None terms) (number + 1 + length terms) defect.kind bad.rest bad.bad
    ∙ ap (λ (m : ℕ). Some (m, defect.kind)) on

pub to_function : (limits : Limits) (bytes : List ℕ) (defect : Defect) → limits.slots ≤ 4096 → limits.rows ≤ 400000 → IsBadHead limits bytes defect
    → (version : ℕ) × IsHeadVersion version × (head_defect version limits bytes ≡ Some (defect.line, defect.kind))
to_function limits bytes defect few few_rows bad = (bad.version, bad.is_version, at bad.bad)
  where
    at : IsBadAt bad.version limits (length bad.sums) (lines_of bad.sums) bytes defect → head_defect bad.version limits bytes ≡ Some (defect.line, defect.kind)
    at (inl is) = bad_sum bad.version limits bad.sums bytes defect few few_rows bad.is_version bad.kept is
    at (inr is) = bad_at_term bad.version limits bad.sums bytes defect few few_rows bad.is_version bad.kept is
