-- What the function of a head's lines finds is the first defect of the head.
use Rattle.std.proofs.Common.{◌≡◌, ℕ, ℤ, zero, suc, ◌+◌, ◌<◌, Bool, true, false, cond, ltb, leb, ◌&&◌, ◌==◌, List, [], ◌∷◌, ◌++◌, length, length-append, bytes_eq, Option, Some, None, refl, sym, ap, ◌∙◌, subst, arith, append_assoc, inl, inr, ◌⊎◌}
use Rattle.std.specs.Option.{option_map_or}
use Rattle.std.proofs.lemmas.Bool.{and_parts, cond-false, cond-true, leb-false, leb-true, ltb-false, ltb-true}
use Rattle.std.proofs.lemmas.List.{map-append}
use Rattle.std.proofs.lemmas.Slice.Eq.{bytes_eq-Decides}
use Rattle.log_lines.specs.declared.defect.Defect.{Defect}
use Rattle.log_lines.specs.declared.grammar.Limits.{Limits}
use Rattle.log_lines.specs.Grammar.{follows}
use Rattle.log_lines.specs.Reader.{HasNoFeed}
use Rattle.row_kit.specs.declared.row.Entry.{Entry}
use Rattle.sum_slots.specs.declared.sum.Sum.{Sum}
use Rattle.sum_lines.specs.declared.line.HeadLine.{HeadLine}
use Rattle.sum_lines.specs.declared.line.HeadLine.TheVariants as line
use Rattle.sum_lines.specs.Front.{EndsEarly, IsBadHead, IsBadTerm, MayFollow, MayOpen, NoneFirst, opening_defect}
use Rattle.sum_lines.specs.Head.{AreKept, AreTerms, IsHeadVersion, first_line, last_slot, lines_of, lines_text, open_lines, opening_line, term_line, text_with}
use Rattle.sum_lines.specs.Line.{head_line_text}
use Rattle.sum_lines.proofs.Feeds.{begins_line, begins_none, line_late, text_fits}
use Rattle.sum_lines.proofs.LineTexts.{lines_of-more, lines_text-append, lines_text-nil, lines_text-one}
use Rattle.sum_lines.proofs.SumLines.{more_kept, none_kept, sum_kept}
use Rattle.sum_lines.proofs.TermLines.{last_slot-more, terms_more}
use Rattle.head_laws.specs.HeadLines.{head_line_said}
use Rattle.head_laws.specs.HeadDefects.{HeadDefectsAre, count_of, head_defect, opening_said, opens, parts_defect, slot_after, sums_defect}
use Rattle.head_laws.proofs.HeadLinesSaid.{said_is, said_line}
use Rattle.head_laws.proofs.HeadDefects.{to_function}
use Rattle.head_laws.proofs.Parts.{Ahead, Alone, ahead, first_part, not_none, pairs_same, parts_of, some_part}

-- a text with one line more
text_more : (version : ℕ) (lines : List HeadLine) (line : HeadLine) (bytes rest after : List ℕ) → bytes ≡ text_with version lines ++ rest → rest ≡ head_line_text line ++ 10 ∷ after
    → bytes ≡ text_with version (lines ++ line ∷ []) ++ after
text_more version lines line bytes rest after is next =
    let front = first_line version ++ 10 ∷ [] in
    let one = head_line_text line ++ 10 ∷ [] in
    let more : lines_text (lines ++ line ∷ []) ≡ lines_text lines ++ one = lines_text-append lines (line ∷ []) ∙ ap (λ (t : List ℕ). lines_text lines ++ t) (lines_text-one line) in
    let own : (ls : List HeadLine) → text_with version ls ≡ front ++ lines_text ls = λ ls. sym (append_assoc (first_line version) (10 ∷ []) (lines_text ls)) in
    is
    ∙ ap (λ (t : List ℕ). text_with version lines ++ t) (next ∙ sym (append_assoc (head_line_text line) (10 ∷ []) after))
    ∙ sym (append_assoc (text_with version lines) one after)
    ∙ ap (λ (t : List ℕ). (t ++ one) ++ after) (own lines)
    ∙ ap (λ (t : List ℕ). t ++ after) (append_assoc front (lines_text lines) one ∙ ap (λ (t : List ℕ). front ++ t) (sym more) ∙ sym (own (lines ++ line ∷ [])))

-- ---- what lines say

-- a line that is said to open a sum does so
record Opening (slots : ℕ) (part : List ℕ) (later : ℕ) (line : HeadLine) : Type 0 where
  some : 0 < later
  may : MayOpen slots line
  is : head_line_text line ≡ part

opens_tells : (slots : ℕ) (part : List ℕ) (said : Option HeadLine) (begins : HeadLine) → head_line_said part ≡ said → opens slots said ≡ Some begins → MayOpen slots begins × (head_line_text begins ≡ part)
opens_tells slots part None begins said is = absurd cc
opens_tells slots part (Some (line.Term slot fixed per)) begins said is = absurd cc
opens_tells slots part (Some (line.Sum width offset low high count)) begins said is = at (leb count slots) refl is
  where
    own : HeadLine
    own = line.Sum width offset low high count

    at : (b : Bool) → leb count slots ≡ b → cond b (Some own) None ≡ Some begins → MayOpen slots begins × (head_line_text begins ≡ part)
    at true few e =
        let same : own ≡ begins = cc in
        let tells = said_is part own said in
        subst (λ (l : HeadLine). MayOpen slots l × (head_line_text l ≡ part)) same ((tells.0, leb-true count slots few), tells.1)
    at false many e = absurd cc

opening_tells : (slots : ℕ) (part : List ℕ) (later : ℕ) (line : HeadLine) → opening_said slots part later ≡ Some line → Opening slots part later line
opening_tells slots part later line is = at (ltb 0 later) refl is
  where
    at : (b : Bool) → ltb 0 later ≡ b → cond b (opens slots (head_line_said part)) None ≡ Some line → Opening slots part later line
    at true some e = let tells = opens_tells slots part (head_line_said part) line refl e in record { some = ltb-true 0 later some; may = tells.0; is = tells.1 }
    at false none e = absurd cc

-- a slot that is said is that of a term that follows
record Following (above : Option ℕ) (part : List ℕ) (slot : ℕ) : Type 0 where
  fixed : ℤ
  per : ℤ
  may : MayFollow above (line.Term slot fixed per)
  is : head_line_text (line.Term slot fixed per) ≡ part

slot_tells : (above : Option ℕ) (part : List ℕ) (said : Option HeadLine) (slot : ℕ) → head_line_said part ≡ said → slot_after above said ≡ Some slot → Following above part slot
slot_tells above part None slot said is = absurd cc
slot_tells above part (Some (line.Sum width offset low high count)) slot said is = absurd cc
slot_tells above part (Some (line.Term own fixed per)) slot said is = at (follows above own) refl is
  where
    at : (b : Bool) → follows above own ≡ b → cond b (Some own) None ≡ Some slot → Following above part slot
    at true after e =
        let same : own ≡ slot = cc in
        let tells = said_is part (line.Term own fixed per) said in
        subst (Following above part) same (record { fixed = fixed; per = per; may = (tells.0, after); is = tells.1 })
    at false before e = absurd cc

-- where no slot is said, no term that follows stands first
none_follows : (above : Option ℕ) (part bytes after : List ℕ) → HasNoFeed part → bytes ≡ part ++ 10 ∷ after → slot_after above (head_line_said part) ≡ None → NoneFirst (MayFollow above) bytes
none_follows above part bytes after plain is none (line.Sum width offset low high count) may first = may
none_follows above part bytes after plain is none (line.Term slot fixed per) may first =
    let own = line.Term slot fixed per in
    let text = begins_line (head_line_text own) part bytes after (text_fits own may.0).0 plain is first in
    let said : head_line_said part ≡ Some own = ap head_line_said (sym text) ∙ said_line own may.0 in
    let found : cond (follows above slot) (Some slot) None ≡ None = sym (ap (slot_after above) said) ∙ none in
    let yes : Some slot ≡ None = sym (ap (λ (b : Bool). cond b (Some slot) None) may.1) ∙ found in
    absurd cc

-- ---- from line to line

-- where a sum is to come after whole sums, what is found in these parts is the defect
abbrev AtSum : ℕ → Limits → List ℕ → ℕ → ℕ → List (List ℕ) → Type 0
AtSum version limits bytes on kind parts =
    (sums : List Sum) (above : Option ℕ) (rest : List ℕ) → AreKept version limits sums → bytes ≡ text_with version (lines_of sums) ++ rest → parts_of rest ≡ parts
    → sums_defect version limits (length sums) zero above (2 + length (lines_of sums)) parts ≡ Some (on, kind) → IsBadHead limits bytes (record { line = on; kind = kind })

-- where a term is to come after whole sums and an open one, too
abbrev AtTerm : ℕ → Limits → List ℕ → ℕ → ℕ → List (List ℕ) → Type 0
AtTerm version limits bytes on kind parts =
    (sums : List Sum) (sum : Sum) (count left : ℕ) (rest : List ℕ) → AreKept version limits sums → MayOpen limits.slots (opening_line sum count) → opening_defect version limits (length sums) (opening_line sum count) ≡ None
    → AreTerms limits.slots sum.terms → count ≡ length sum.terms + suc left → bytes ≡ text_with version (lines_of sums ++ open_lines sum count) ++ rest → parts_of rest ≡ parts
    → sums_defect version limits (length sums + 1) (suc left) (last_slot None sum.terms) (2 + length (lines_of sums ++ open_lines sum count)) parts ≡ Some (on, kind) → IsBadHead limits bytes (record { line = on; kind = kind })

-- no terms
no_terms : (slots : ℕ) → AreTerms slots []
no_terms slots = record {
  count = λ k d within. absurd (omega (arith, within));
  bounded = record { named = λ k d within. absurd (omega (arith, within)); ascending = λ k within. absurd (omega (arith, within)); fixed_small = λ k d within. absurd (omega (arith, within)); per_small = λ k d within. absurd (omega (arith, within)) };
}

module _ (version : ℕ) (limits : Limits) (bytes : List ℕ) (on kind : ℕ) (of_version : IsHeadVersion version) where
  -- a sum is opened, or has a defect
  opened : (sums : List Sum) (rest part after : List ℕ) (parts : List (List ℕ)) (opening : HeadLine) → AtTerm version limits bytes on kind parts → AreKept version limits sums → bytes ≡ text_with version (lines_of sums) ++ rest → MayOpen limits.slots opening
      → rest ≡ head_line_text opening ++ 10 ∷ after → parts_of after ≡ parts → opening_defect version limits (length sums) opening ≡ None
      → sums_defect version limits (length sums + 1) (count_of opening) None (2 + length (lines_of sums) + 1) parts ≡ Some (on, kind) → IsBadHead limits bytes (record { line = on; kind = kind })
  opened sums rest part after parts (line.Term slot fixed per) terms kept text may is later sound e = absurd may
  opened sums rest part after parts (line.Sum width offset low high zero) terms kept text may is later sound e = absurd (omega (arith, may.0.4.0))
  opened sums rest part after parts (line.Sum width offset low high (suc left)) terms kept text may is later sound e =
      let sum : Sum = record { width = width; offset = offset; low = low; high = high; terms = [] } in
      let opening = line.Sum width offset low high (suc left) in
      let number : 2 + length (lines_of sums) + 1 ≡ 2 + length (lines_of sums ++ opening ∷ []) = omega (arith, length-append (lines_of sums) (opening ∷ [])) in
      let long : suc left ≡ 0 + suc left = omega arith in
      terms sums sum (suc left) left after kept may sound (no_terms limits.slots) long (text_more version (lines_of sums) opening bytes rest after text is) later
      (sym (ap (λ (n : ℕ). sums_defect version limits (length sums + 1) (suc left) None n parts) number) ∙ e)

  at_sum : (part : List ℕ) (parts : List (List ℕ)) → AtTerm version limits bytes on kind parts → AtSum version limits bytes on kind (part ∷ parts)
  unfolding sums_defect
  at_sum part parts terms sums above rest kept text are is = by_line (opening_said limits.slots part (length parts)) refl is
    where
      number : ℕ
      number = 2 + length (lines_of sums)

      by_defect : (opening : HeadLine) → Opening limits.slots part (length parts) opening → (found : Option ℕ) → opening_defect version limits (length sums) opening ≡ found
          → option_map_or (λ k. Some (number, k)) found (sums_defect version limits (length sums + 1) (count_of opening) None (number + 1) parts) ≡ Some (on, kind) → IsBadHead limits bytes (record { line = on; kind = kind })
      by_defect opening tells None sound e =
          let next = ahead rest part parts are tells.some in
          opened sums rest part next.after parts opening terms kept text tells.may (next.is ∙ ap (λ (w : List ℕ). w ++ 10 ∷ next.after) (sym tells.is)) next.later sound e
      by_defect opening tells (Some k) bad e =
          let next = ahead rest part parts are tells.some in
          let same = pairs_same number k on kind e in
          record {
            version = version;
            is_version = of_version;
            sums = sums;
            kept = kept;
            bad = inl (record {
              rest = rest;
              is = text;
              line = sym same.0;
              bad = record {
                line = opening;
                opens = tells.may;
                first = record { after = next.after; is = next.is ∙ ap (λ (w : List ℕ). w ++ 10 ∷ next.after) (sym tells.is) };
                defect = bad ∙ ap (λ (n : ℕ). Some n) same.1;
              };
            });
          }

      by_line : (found : Option HeadLine) → opening_said limits.slots part (length parts) ≡ found
          → option_map_or (λ opening. option_map_or (λ k. Some (number, k)) (opening_defect version limits (length sums) opening) (sums_defect version limits (length sums + 1) (count_of opening) None (number + 1) parts)) found None ≡ Some (on, kind)
          → IsBadHead limits bytes (record { line = on; kind = kind })
      by_line None none e = absurd cc
      by_line (Some opening) one e = by_defect opening (opening_tells limits.slots part (length parts) opening one) (opening_defect version limits (length sums) opening) refl e

  -- where a term is to come, the next line has a defect
  bad_here : (sums : List Sum) (sum : Sum) (count left : ℕ) (rest : List ℕ) → AreKept version limits sums → MayOpen limits.slots (opening_line sum count) → opening_defect version limits (length sums) (opening_line sum count) ≡ None
      → AreTerms limits.slots sum.terms → count ≡ length sum.terms + suc left → bytes ≡ text_with version (lines_of sums ++ open_lines sum count) ++ rest → IsBadTerm limits.slots (last_slot None sum.terms) rest kind
      → 2 + length (lines_of sums ++ open_lines sum count) ≡ on → IsBadHead limits bytes (record { line = on; kind = kind })
  bad_here sums sum count left rest kept may sound are long text bad number = record {
    version = version;
    is_version = of_version;
    sums = sums;
    kept = kept;
    bad = inr (record {
      sum = sum;
      count = count;
      rest = rest;
      opens = may;
      sound = sound;
      terms = are;
      fewer = omega (arith, long);
      is = text;
      line = sym number;
      bad = bad;
    });
  }

  -- one term more
  more_terms : (sums : List Sum) (sum : Sum) (count left : ℕ) (rest after : List ℕ) (parts : List (List ℕ)) (term : Entry) → AtSum version limits bytes on kind parts → AtTerm version limits bytes on kind parts → AreKept version limits sums
      → MayOpen limits.slots (opening_line sum count) → opening_defect version limits (length sums) (opening_line sum count) ≡ None → AreTerms limits.slots (sum.terms ++ term ∷ []) → count ≡ length sum.terms + suc left
      → bytes ≡ text_with version (lines_of sums ++ open_lines sum count) ++ rest → rest ≡ head_line_text (term_line term) ++ 10 ∷ after → parts_of after ≡ parts
      → sums_defect version limits (length sums + 1) left (Some term.slot) (2 + length (lines_of sums ++ open_lines sum count) + 1) parts ≡ Some (on, kind) → IsBadHead limits bytes (record { line = on; kind = kind })
  more_terms sums sum count left rest after parts term sums_later terms_later kept may sound are long text is later e = by_left left long e
    where
      terms : List Entry
      terms = sum.terms ++ term ∷ []

      whole : Sum
      whole = record { width = sum.width; offset = sum.offset; low = sum.low; high = sum.high; terms = terms }

      long_terms : length terms ≡ length sum.terms + 1
      long_terms = length-append sum.terms (term ∷ [])

      lines : (lines_of sums ++ open_lines sum count) ++ term_line term ∷ [] ≡ lines_of sums ++ open_lines whole count
      lines =
          append_assoc (lines_of sums) (open_lines sum count) (term_line term ∷ [])
          ∙ ap (λ (ls : List HeadLine). lines_of sums ++ (opening_line sum count ∷ ls)) (sym (map-append term_line sum.terms (term ∷ [])))

      text_next : bytes ≡ text_with version (lines_of sums ++ open_lines whole count) ++ after
      text_next = text_more version (lines_of sums ++ open_lines sum count) (term_line term) bytes rest after text is ∙ ap (λ (ls : List HeadLine). text_with version ls ++ after) lines

      number : 2 + length (lines_of sums ++ open_lines sum count) + 1 ≡ 2 + length (lines_of sums ++ open_lines whole count)
      number = let long_lines = length-append (lines_of sums ++ open_lines sum count) (term_line term ∷ []) in omega (arith, ap length lines, long_lines)

      by_left : (left : ℕ) → count ≡ length sum.terms + suc left → sums_defect version limits (length sums + 1) left (Some term.slot) (2 + length (lines_of sums ++ open_lines sum count) + 1) parts ≡ Some (on, kind)
          → IsBadHead limits bytes (record { line = on; kind = kind })
      by_left zero long e =
          let full : length terms ≡ count = omega (arith, long, long_terms) in
          let all : lines_of sums ++ open_lines whole count ≡ lines_of (sums ++ whole ∷ []) =
          ap (λ (n : ℕ). lines_of sums ++ open_lines whole n) (sym full) ∙ sym (lines_of-more sums whole) in
          let before : length sums + 1 ≡ length (sums ++ whole ∷ []) = sym (length-append sums (whole ∷ [])) in
          let on_line : 2 + length (lines_of sums ++ open_lines sum count) + 1 ≡ 2 + length (lines_of (sums ++ whole ∷ [])) = number ∙ ap (λ (ls : List HeadLine). 2 + length ls) all in
          sums_later (sums ++ whole ∷ []) (Some term.slot) after
          (more_kept version limits sums whole kept (sum_kept version limits (length sums) sum terms count may sound full are))
          (text_next ∙ ap (λ (ls : List HeadLine). text_with version ls ++ after) all) later
          (sym (ap (λ (m : ℕ). sums_defect version limits m zero (Some term.slot) (2 + length (lines_of sums ++ open_lines sum count) + 1) parts) before
          ∙ ap (λ (m : ℕ). sums_defect version limits (length (sums ++ whole ∷ [])) zero (Some term.slot) m parts) on_line) ∙ e)
      by_left (suc more) long e =
          let left_over : count ≡ length terms + suc more = omega (arith, long, long_terms) in
          terms_later sums whole count more after kept may sound are left_over text_next later
          (ap (λ (o : Option ℕ). sums_defect version limits (length sums + 1) (suc more) o (2 + length (lines_of sums ++ open_lines whole count)) parts) (last_slot-more None sum.terms term)
          ∙ sym (ap (λ (m : ℕ). sums_defect version limits (length sums + 1) (suc more) (Some term.slot) m parts) number) ∙ e)

  at_term : (part : List ℕ) (parts : List (List ℕ)) → AtSum version limits bytes on kind parts → AtTerm version limits bytes on kind parts → AtTerm version limits bytes on kind (part ∷ parts)
  unfolding sums_defect
  at_term part parts sums_later terms_later sums sum count left rest kept may sound are long text is e = by_first (first_part rest part parts is)
    where
      above : Option ℕ
      above = last_slot None sum.terms

      number : ℕ
      number = 2 + length (lines_of sums ++ open_lines sum count)

      step : ℕ → Option (ℕ × ℕ)
      step slot = cond (leb limits.slots slot) (Some (number, 5)) (sums_defect version limits (length sums + 1) left (Some slot) (number + 1) parts)

      last : Option (ℕ × ℕ)
      last = Some (number, cond (ltb 200 (length part)) 1 2)

      other : Option (ℕ × ℕ)
      other = option_map_or step (slot_after above (head_line_said part)) (Some (number, 1))

      here : IsBadTerm limits.slots above rest kind → number ≡ on → IsBadHead limits bytes (record { line = on; kind = kind })
      here bad same = bad_here sums sum count left rest kept may sound are long text bad same

      by_length : HasNoFeed rest → rest ≡ part → (b : Bool) → ltb 200 (length part) ≡ b → ◌≡◌ {A = Option (ℕ × ℕ)} (Some (number, cond b 1 2)) (Some (on, kind)) → IsBadHead limits bytes (record { line = on; kind = kind })
      by_length plain same true long_part e =
          let found = pairs_same number 1 on kind e in
          let late : ¬ EndsEarly rest = λ early. omega (arith, early.1, ap length same, ltb-true 200 (length part) long_part) in
          here (inr (inl (sym found.1, late, λ line follows first. begins_none (head_line_text line) rest plain first))) found.0
      by_length plain same false short e =
          let found = pairs_same number 2 on kind e in
          here (inl (sym found.1, (plain, omega (arith, ap length same, ltb-false 200 (length part) short)))) found.0

      by_there : (slot : ℕ) → Following above part slot → (next : Ahead rest part parts) → (b : Bool) → leb limits.slots slot ≡ b
          → cond b (Some (number, 5)) (sums_defect version limits (length sums + 1) left (Some slot) (number + 1) parts) ≡ Some (on, kind) → IsBadHead limits bytes (record { line = on; kind = kind })
      by_there slot tells next true far e =
          let found = pairs_same number 5 on kind e in
          here (inr (inr (record {
            kind_is = sym found.1;
            slot = slot;
            fixed = tells.fixed;
            per = tells.per;
            may_follow = tells.may;
            first = record { after = next.after; is = next.is ∙ ap (λ (w : List ℕ). w ++ 10 ∷ next.after) (sym tells.is) };
            far = leb-true limits.slots slot far;
          }))) found.0
      by_there slot tells next false near e =
          let term : Entry = record { slot = slot; fixed = tells.fixed; per = tells.per } in
          let written = tells.may.0 in
          let more = terms_more limits.slots sum.terms term are (record { there = leb-false limits.slots slot near; above_last = tells.may.1; fixed = written.1; per = written.2; counts = written.3 }) in
          more_terms sums sum count left rest next.after parts term sums_later terms_later kept may sound more long text (next.is ∙ ap (λ (w : List ℕ). w ++ 10 ∷ next.after) (sym tells.is)) next.later e

      by_slot : (next : Ahead rest part parts) (found : Option ℕ) → slot_after above (head_line_said part) ≡ found → option_map_or step found (Some (number, 1)) ≡ Some (on, kind) → IsBadHead limits bytes (record { line = on; kind = kind })
      by_slot next None none e =
          let found = pairs_same number 1 on kind e in
          here (inr (inl (sym found.1, line_late part rest next.after next.is, none_follows above part rest next.after next.plain next.is none))) found.0
      by_slot next (Some slot) one e = by_there slot (slot_tells above part (head_line_said part) slot refl one) next (leb limits.slots slot) refl e

      by_first : Alone rest part parts ⊎ Ahead rest part parts → IsBadHead limits bytes (record { line = on; kind = kind })
      by_first (inl alone) =
          let empty : (length parts == 0) ≡ true = ap (λ (ps : List (List ℕ)). length ps == 0) alone.none in
          by_length alone.plain alone.is (ltb 200 (length part)) refl (sym (cond-true (length parts == 0) last other empty) ∙ e)
      by_first (inr next) =
          let some : 0 < length parts = subst (λ (ps : List (List ℕ)). 0 < length ps) next.later (some_part next.after) in
          by_slot next (slot_after above (head_line_said part)) refl (sym (cond-false (length parts == 0) last other (not_none (length parts) some)) ∙ e)

  back : (parts : List (List ℕ)) → AtSum version limits bytes on kind parts × AtTerm version limits bytes on kind parts
  back [] = (
    λ sums above rest kept text are e. absurd (omega (arith, some_part rest, ap length are)),
    λ sums sum count left rest kept may sound are long text is e. absurd (omega (arith, some_part rest, ap length is)),
  )
  back (part ∷ parts) = let later = back parts in (at_sum part parts later.1, at_term part parts later.0 later.1)

-- what the function finds is the defect
from_function : (version : ℕ) (limits : Limits) (bytes : List ℕ) (defect : Defect) → IsHeadVersion version → head_defect version limits bytes ≡ Some (defect.line, defect.kind) → IsBadHead limits bytes defect
from_function version limits bytes defect of_version is = by_parts (parts_of bytes) refl is
  where
    begun : (part : List ℕ) (parts : List (List ℕ)) → parts_of bytes ≡ part ∷ parts → (b : Bool) → (bytes_eq (first_line version) part && ltb 0 (length parts)) ≡ b
        → cond b (sums_defect version limits 0 zero None 2 parts) None ≡ Some (defect.line, defect.kind) → IsBadHead limits bytes defect
    begun part parts are false fails e = absurd cc
    begun part parts are true passes e =
        let tests = and_parts (bytes_eq (first_line version) part) (ltb 0 (length parts)) passes in
        let next = ahead bytes part parts are (ltb-true 0 (length parts) tests.1) in
        let front : part ≡ first_line version = sym ((bytes_eq-Decides (first_line version) part).0 tests.0) in
        let text : bytes ≡ text_with version [] ++ next.after =
        next.is ∙ ap (λ (w : List ℕ). w ++ 10 ∷ next.after) front
        ∙ sym (append_assoc (first_line version) (10 ∷ lines_text []) next.after ∙ ap (λ (t : List ℕ). first_line version ++ 10 ∷ (t ++ next.after)) lines_text-nil) in
        (back version limits bytes defect.line defect.kind of_version parts).0 [] None next.after (none_kept version limits) text next.later e

    by_parts : (parts : List (List ℕ)) → parts_of bytes ≡ parts → parts_defect version limits parts ≡ Some (defect.line, defect.kind) → IsBadHead limits bytes defect
    by_parts [] are e = absurd (omega (arith, some_part bytes, ap length are))
    by_parts (part ∷ parts) are e = begun part parts are (bytes_eq (first_line version) part && ltb 0 (length parts)) refl e

pub head_defects : HeadDefectsAre
head_defects limits bytes defect few few_rows = (to_function limits bytes defect few few_rows, λ found. from_function found.0 limits bytes defect found.1 found.2)
