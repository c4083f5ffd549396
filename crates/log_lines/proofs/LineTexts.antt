-- The text of a line: which form it is of, and which numbers follow.
use Rattle.std.proofs.Common.{◌≡◌, ◌≢◌, ◌⊎◌, inl, inr, ℕ, ℤ, pos, ◌+◌, ◌-◌, ◌<◌, ◌≤◌, Bool, true, false, cond, not, eqb, All, List, [], ◌∷◌, ◌++◌, take, drop, length, get_or, bytes_eq, Option, Some, None, MatchOption, subst, sym, ap, ◌∙◌, refl, arith}
use Rattle.std.specs.Prelude.{codes}
use Rattle.std.specs.List.{find, list_all}
use Rattle.std.proofs.Math.Seq.{take-append_seam, drop-append_seam}
use Rattle.std.proofs.lemmas.Bool.{false≢true}
use Rattle.std.proofs.lemmas.Bool.Decides.{nat_tests}
use Rattle.std.proofs.lemmas.List.{append-nil, take_all}
use Rattle.std.proofs.lemmas.List.Elements.{All-cons}
use Rattle.std.proofs.lemmas.List.Recursion.{and_at}
use Rattle.std.proofs.lemmas.Slice.Eq.{bytes_eq-Decides}
use Rattle.log_lines.specs.declared.form.Form.{Form}
use Rattle.log_lines.specs.declared.form.Form.TheVariants as form
use Rattle.log_lines.specs.declared.line.Line.{Line}
use Rattle.log_lines.specs.declared.line.Line.TheVariants.{Header, Node, Cut, Found, Value, Empty, Point, Dual, Pending, Floor, Split, Mult, ClaimOptimal, ClaimInfeasible, ClaimBetween, ClaimBelow, End}
use Rattle.log_lines.specs.Line.{all_forms, IsShort, IsLine, IsInRange, IsVersion, form_name, line_form, line_numbers, line_text, number_text}
use Rattle.log_lines.specs.Numbers.{IsRest, IsWord, IsCut, Fit, Reads}
use Rattle.log_lines.specs.Reading.{form_named, form_signs, IsLineOf, ReadsLine, IsNameCut}
use Rattle.log_lines.proofs.NumberTexts.{IsRest-number_text, word_unique, number_text_unique}

-- ---- forms

-- the form of a name is found
pub find_form : (form : Form) → form_named (form_name form) ≡ Some form
unfolding form_named
find_form form.Header = refl
find_form form.Node = refl
find_form form.Cut = refl
find_form form.Found = refl
find_form form.Value = refl
find_form form.Empty = refl
find_form form.Point = refl
find_form form.Dual = refl
find_form form.Pending = refl
find_form form.Floor = refl
find_form form.Split = refl
find_form form.Mult = refl
find_form form.ClaimOptimal = refl
find_form form.ClaimInfeasible = refl
find_form form.ClaimBetween = refl
find_form form.ClaimBelow = refl
find_form form.End = refl

-- the first that passes, or one of the others
chosen_passes : {X : Type 0} (p : X → Bool) (b : Bool) (y : X) (later : Option X) (x : X) → p y ≡ b → (later ≡ Some x → p x ≡ true) → cond b (Some y) later ≡ Some x → p x ≡ true
chosen_passes p true y later x is others found = let same : y ≡ x = cc in ap p (sym same) ∙ is
chosen_passes p false y later x is others found = others found

-- what is found passes
pub find_passes : {X : Type 0} (p : X → Bool) (xs : List X) (x : X) → find p xs ≡ Some x → p x ≡ true
find_passes p [] x found = cc
find_passes p (y ∷ ys) x found = chosen_passes p (p y) y (find p ys) x refl (find_passes p ys x) found

-- a text of which a test tells that it has no blank
IsWord-tested : (text : List ℕ) → list_all (λ b. not (eqb b 32)) text ≡ true → IsWord text
IsWord-tested text is = λ k d within. let tells : not (eqb (get_or text k d) 32) ≡ true = and_at (list_all (λ b. not (eqb b 32))) (λ b. not (eqb b 32)) refl (λ _ _. refl) text k d within is in grind (arith, nat_tests)

-- the name is one word that is not `claim`
pub record IsOne (name : List ℕ) : Type 0 where
  pub is_word : IsWord name
  pub other : bytes_eq name (codes "claim") ≡ false

-- the name is `claim` and one word
pub record IsTwo (name : List ℕ) : Type 0 where
  pub second : List ℕ
  pub is_word : IsWord second
  pub is : name ≡ codes "claim" ++ (32 ∷ second)

one : (name : List ℕ) → list_all (λ b. not (eqb b 32)) name ≡ true → bytes_eq name (codes "claim") ≡ false → IsOne name ⊎ IsTwo name
one name is other = inl (record { is_word = IsWord-tested name is; other = other })

two : (second : List ℕ) → list_all (λ b. not (eqb b 32)) second ≡ true → IsOne (codes "claim" ++ (32 ∷ second)) ⊎ IsTwo (codes "claim" ++ (32 ∷ second))
two second is = inr (record { second = second; is_word = IsWord-tested second is; is = refl })

name_words : (form : Form) → IsOne (form_name form) ⊎ IsTwo (form_name form)
name_words form.ClaimOptimal = two (codes "optimal") refl
name_words form.ClaimInfeasible = two (codes "infeasible") refl
name_words form.ClaimBetween = two (codes "between") refl
name_words form.ClaimBelow = two (codes "below") refl
name_words form.Header = one _ refl refl
name_words form.Node = one _ refl refl
name_words form.Cut = one _ refl refl
name_words form.Found = one _ refl refl
name_words form.Value = one _ refl refl
name_words form.Empty = one _ refl refl
name_words form.Point = one _ refl refl
name_words form.Dual = one _ refl refl
name_words form.Pending = one _ refl refl
name_words form.Floor = one _ refl refl
name_words form.Split = one _ refl refl
name_words form.Mult = one _ refl refl
name_words form.End = one _ refl refl

-- what is not told to be `claim` is not
other_word : (word : List ℕ) → bytes_eq word (codes "claim") ≡ false → word ≢ codes "claim"
other_word word other is = false≢true (sym other ∙ (bytes_eq-Decides word (codes "claim")).1 is)

is_word-claim : IsWord (codes "claim")
is_word-claim = IsWord-tested (codes "claim") refl

-- a text of `claim`, a word and more
claim_first : (second more : List ℕ) → (codes "claim" ++ (32 ∷ second)) ++ more ≡ codes "claim" ++ (32 ∷ (second ++ more))
claim_first second more = refl

-- the first word is the name, where it is not `claim`
pub name_one : (bytes first rest : List ℕ) → IsCut bytes first rest → bytes_eq first (codes "claim") ≡ false → IsNameCut bytes first rest
name_one bytes first rest cut other = record {
  is = cut.is;
  only = λ form numbers is_rest same. elim (name_words form) [
    | inl one ↦ word_unique first rest (form_name form) numbers cut.is_word one.is_word cut.is_rest is_rest (sym cut.is ∙ same)
    | inr two ↦
        let texts : first ++ rest ≡ codes "claim" ++ (32 ∷ (two.second ++ numbers)) = sym cut.is ∙ same ∙ ap (λ w. w ++ numbers) two.is in
        absurd (other_word first other (word_unique first rest (codes "claim") (32 ∷ (two.second ++ numbers)) cut.is_word is_word-claim cut.is_rest (λ some. refl) texts).0)
  ];
}

-- the first word and the second are the name, where the first is `claim`
pub name_two : (bytes rest more second after : List ℕ) → IsCut bytes (codes "claim") rest → rest ≡ 32 ∷ more → IsCut more second after → IsNameCut bytes (codes "claim" ++ (32 ∷ second)) after
name_two bytes rest more second after cut blank next = record {
  is = cut.is ∙ ap (λ w. codes "claim" ++ w) (blank ∙ ap (λ w. 32 ∷ w) next.is);
  only = λ form numbers is_rest same. elim (name_words form) [
    | inl one ↦ absurd (other_word (form_name form) one.other (word_unique (form_name form) numbers (codes "claim") rest one.is_word is_word-claim is_rest cut.is_rest (sym same ∙ cut.is)).0)
    | inr two ↦
        let texts : rest ≡ 32 ∷ (two.second ++ numbers) = (word_unique (codes "claim") rest (codes "claim") (32 ∷ (two.second ++ numbers)) is_word-claim is_word-claim cut.is_rest (λ some. refl) (sym cut.is ∙ same ∙ ap (λ w. w ++ numbers) two.is)).1 in
        let words = word_unique second after two.second numbers next.is_word two.is_word next.is_rest is_rest (sym next.is ∙ ap (drop 1) (sym blank ∙ texts)) in
        (ap (λ w. codes "claim" ++ (32 ∷ w)) words.0 ∙ sym two.is, words.1)
  ];
}

-- a text is its first byte and the others
first_and_others : (text : List ℕ) (byte : ℕ) → 1 ≤ length text → get_or text 0 0 ≡ byte → text ≡ byte ∷ take (length text - 1) (drop 1 text)
first_and_others [] byte some is = absurd (omega arith)
first_and_others (b ∷ text) byte some is = rw (take_all (length (b ∷ text) - 1) text (omega arith), is) refl

-- the same, where the bytes are cut after the second word
pub name_cut : (bytes rest second after : List ℕ) → IsCut bytes (codes "claim") rest → 1 ≤ length rest → get_or rest 0 0 ≡ 32 → IsCut (take (length rest - 1) (drop 1 rest)) second after
    → IsNameCut bytes (take (6 + length second) bytes) (drop (6 + length second) bytes)
name_cut bytes rest second after cut some blank next =
    let name : List ℕ = codes "claim" ++ (32 ∷ second) in
    let whole = name_two bytes rest (take (length rest - 1) (drop 1 rest)) second after cut (first_and_others rest 32 some blank) next in
    let end : length name ≡ 6 + length second = omega arith in
    let front : take (6 + length second) bytes ≡ name = ap (λ k. take k bytes) (sym end) ∙ ap (take (length name)) whole.is ∙ take-append_seam name after in
    let back : drop (6 + length second) bytes ≡ after = ap (λ k. drop k bytes) (sym end) ∙ ap (drop (length name)) whole.is ∙ drop-append_seam name after in
    rw (front, back) whole

-- `claim` alone is no name
pub name_none : (bytes rest : List ℕ) → IsCut bytes (codes "claim") rest → ((more : List ℕ) → rest ≢ 32 ∷ more) → IsNameCut bytes bytes []
name_none bytes rest cut none = record {
  is = sym (append-nil bytes);
  only = λ form numbers is_rest same. elim (name_words form) [
    | inl one ↦ absurd (other_word (form_name form) one.other (word_unique (form_name form) numbers (codes "claim") rest one.is_word is_word-claim is_rest cut.is_rest (sym same ∙ cut.is)).0)
    | inr two ↦ absurd (none (two.second ++ numbers) (word_unique (codes "claim") rest (codes "claim") (32 ∷ (two.second ++ numbers)) is_word-claim is_word-claim cut.is_rest (λ some. refl) (sym cut.is ∙ same ∙ ap (λ w. w ++ numbers) two.is)).1)
  ];
}

-- a form's words and its numbers are cut apart in one way
pub name_alone : (form : Form) (numbers : List ℕ) → IsRest numbers → IsNameCut (form_name form ++ numbers) (form_name form) numbers
name_alone form numbers is_rest = elim (name_words form) [
  | inl one ↦ name_one (form_name form ++ numbers) (form_name form) numbers (record { is_word = one.is_word; is_rest = is_rest; is = refl }) one.other
  | inr two ↦
      subst (λ name. IsNameCut (name ++ numbers) name numbers) (sym two.is)
      (name_two ((codes "claim" ++ (32 ∷ two.second)) ++ numbers) (32 ∷ (two.second ++ numbers)) (two.second ++ numbers) two.second numbers
      (record { is_word = is_word-claim; is_rest = λ some. refl; is = refl }) refl (record { is_word = two.is_word; is_rest = is_rest; is = refl }))
]

-- ---- lines

-- the numbers of a line are those of its form
pub Fit-line : (line : Line) → IsLine line → Fit (form_signs (line_form line)) (line_numbers line)
Fit-line (Header version) is = (is.short 0 (pos 0) (omega arith), tt, tt)
Fit-line Node is = tt
Fit-line (Cut row slot) is = (is.short 0 (pos 0) (omega arith), tt, (is.short 1 (pos 0) (omega arith), tt, tt))
Fit-line (Found value count) is = (is.short 0 (pos 0) (omega arith), tt, (is.short 1 (pos 0) (omega arith), tt, tt))
Fit-line (Value slot quanta) is = (is.short 0 (pos 0) (omega arith), tt, (is.short 1 (pos 0) (omega arith), tt, tt))
Fit-line Empty is = tt
Fit-line Point is = tt
Fit-line (Dual scale count) is = (is.short 0 (pos 0) (omega arith), tt, (is.short 1 (pos 0) (omega arith), tt, tt))
Fit-line (Pending scale count) is = (is.short 0 (pos 0) (omega arith), tt, (is.short 1 (pos 0) (omega arith), tt, tt))
Fit-line (Floor profit) is = (is.short 0 (pos 0) (omega arith), tt, tt)
Fit-line (Split slot max scale count) is = (is.short 0 (pos 0) (omega arith), tt, (is.short 1 (pos 0) (omega arith), tt, (is.short 2 (pos 0) (omega arith), tt, (is.short 3 (pos 0) (omega arith), tt, tt))))
Fit-line (Mult row factor) is = (is.short 0 (pos 0) (omega arith), tt, (is.short 1 (pos 0) (omega arith), tt, tt))
Fit-line (ClaimOptimal profit count) is = (is.short 0 (pos 0) (omega arith), tt, (is.short 1 (pos 0) (omega arith), tt, tt))
Fit-line ClaimInfeasible is = tt
Fit-line (ClaimBetween profit cap count) is = (is.short 0 (pos 0) (omega arith), tt, (is.short 1 (pos 0) (omega arith), tt, (is.short 2 (pos 0) (omega arith), tt, tt)))
Fit-line (ClaimBelow cap) is = (is.short 0 (pos 0) (omega arith), tt, tt)
Fit-line End is = tt

-- numbers that fit are short
All-Fit : (signs : List Bool) (numbers : List ℤ) → Fit signs numbers → All IsShort numbers
All-Fit [] [] fit = λ k d within. omega arith
All-Fit (sign ∷ signs) [] fit = absurd fit
All-Fit [] (number ∷ numbers) fit = absurd fit
All-Fit (sign ∷ signs) (number ∷ numbers) fit = All-cons IsShort number numbers fit.0 (All-Fit signs numbers fit.2)

-- numbers that were read are those of a line
pub line_read : (line : Line) (text : List ℕ) → IsInRange line → Reads (form_signs (line_form line)) text (Some (line_numbers line)) → IsLineOf (line_form line) text line
line_read line text in_range reads = record { is_form = refl; is_line = record { short = All-Fit (form_signs (line_form line)) (line_numbers line) reads.0; in_range = in_range }; is = reads.1 }

-- the numbers of a line of this form, where it has this text
Fit-line_of : {form : Form} {text : List ℕ} {line : Line} → IsLineOf form text line → Fit (form_signs form) (line_numbers line)
Fit-line_of {line = line} of = subst (λ f. Fit (form_signs f) (line_numbers line)) of.is_form (Fit-line line of.is_line)

-- where no numbers were read, there is no line
pub line_unread : (form : Form) (text : List ℕ) → Reads (form_signs form) text None → ReadsLine form text None
line_unread form text none line of = none (line_numbers line) (Fit-line_of of) of.is

-- where those were read that no line has, there is no line
line_refused : (form : Form) (text : List ℕ) (numbers : List ℤ) → Reads (form_signs form) text (Some numbers)
    → ((line : Line) → line_form line ≡ form → line_numbers line ≡ numbers → IsInRange line → ⊥) → ReadsLine form text None
line_refused form text numbers reads never line of =
    never line of.is_form (number_text_unique (form_signs form) (line_numbers line) numbers (Fit-line_of of) reads.0 (sym of.is ∙ reads.1)) of.is_line.in_range

-- what the number is that a line's range is asked of
header_range : (version : ℕ) (line : Line) → line_form line ≡ form.Header → line_numbers line ≡ pos version ∷ [] → IsInRange line → IsVersion version
header_range version (Header v) is same range = let e : v ≡ version = cc in subst IsVersion e range
header_range version _ is same range = cc

pub header_refused : (version : ℕ) (text : List ℕ) → Reads (form_signs form.Header) text (Some (pos version ∷ [])) → (¬ IsVersion version) → ReadsLine form.Header text None
header_refused version text reads out = line_refused form.Header text (pos version ∷ []) reads (λ line is same range. out (header_range version line is same range))

value_range : (slot quanta : ℕ) (line : Line) → line_form line ≡ form.Value → line_numbers line ≡ pos slot ∷ pos quanta ∷ [] → IsInRange line → (1 ≤ quanta) × (quanta ≤ 255)
value_range slot quanta (Value s q) is same range = let e : q ≡ quanta = cc in (omega arith, omega arith)
value_range slot quanta _ is same range = cc

pub value_refused : (slot quanta : ℕ) (text : List ℕ) → Reads (form_signs form.Value) text (Some (pos slot ∷ pos quanta ∷ [])) → ((1 ≤ quanta) → 255 < quanta) → ReadsLine form.Value text None
value_refused slot quanta text reads out =
    line_refused form.Value text (pos slot ∷ pos quanta ∷ []) reads (λ line is same range. let r = value_range slot quanta line is same range in let o = out r.0 in omega arith)

split_range : (slot most scale count : ℕ) (line : Line) → line_form line ≡ form.Split → line_numbers line ≡ pos slot ∷ pos most ∷ pos scale ∷ pos count ∷ [] → IsInRange line → most ≤ 254
split_range slot most scale count (Split s m a b) is same range = let e : m ≡ most = cc in omega arith
split_range slot most scale count _ is same range = cc

pub split_refused : (slot most scale count : ℕ) (text : List ℕ) → Reads (form_signs form.Split) text (Some (pos slot ∷ pos most ∷ pos scale ∷ pos count ∷ [])) → 254 < most → ReadsLine form.Split text None
split_refused slot most scale count text reads out =
    line_refused form.Split text (pos slot ∷ pos most ∷ pos scale ∷ pos count ∷ []) reads (λ line is same range. let r = split_range slot most scale count line is same range in omega arith)

mult_range : (row factor : ℕ) (line : Line) → line_form line ≡ form.Mult → line_numbers line ≡ pos row ∷ pos factor ∷ [] → IsInRange line → 1 ≤ factor
mult_range row factor (Mult r f) is same range = let e : f ≡ factor = cc in omega arith
mult_range row factor _ is same range = cc

pub mult_refused : (row factor : ℕ) (text : List ℕ) → Reads (form_signs form.Mult) text (Some (pos row ∷ pos factor ∷ [])) → factor ≡ 0 → ReadsLine form.Mult text None
mult_refused row factor text reads out =
    line_refused form.Mult text (pos row ∷ pos factor ∷ []) reads (λ line is same range. let r = mult_range row factor line is same range in omega arith)

-- a line without numbers
no_signs : (signs : List Bool) → Fit signs [] → signs ≡ []
no_signs [] fit = refl
no_signs (sign ∷ signs) fit = absurd fit

signs_bare : (line : Line) → line_numbers line ≡ [] → IsInRange line → form_signs (line_form line) ≡ []
signs_bare line bare in_range =
    let is : IsLine line = record { short = subst (All IsShort) (sym bare) (λ k d within. absurd (omega arith)); in_range = in_range } in
    no_signs (form_signs (line_form line)) (subst (Fit (form_signs (line_form line))) bare (Fit-line line is))

pub bare_read : (line : Line) (text : List ℕ) → line_numbers line ≡ [] → IsInRange line → length text ≡ 0 → IsLineOf (line_form line) text line
unfolding number_text
bare_read line [] bare in_range empty = line_read line [] in_range (rw (signs_bare line bare in_range, bare) (tt, refl))
bare_read line (byte ∷ text) bare in_range empty = absurd (omega arith)

no_numbers : (numbers : List ℤ) → Fit [] numbers → length (number_text numbers) ≡ 0
unfolding number_text
no_numbers [] fit = refl
no_numbers (number ∷ numbers) fit = absurd fit

pub bare_unread : (line : Line) (text : List ℕ) → line_numbers line ≡ [] → IsInRange line → 0 < length text → ReadsLine (line_form line) text None
bare_unread line text bare in_range some =
    line_unread (line_form line) text (rw (signs_bare line bare in_range) (λ numbers fit is. omega (arith, no_numbers numbers fit, ap length is)))

-- ---- bytes

-- a line of the form and the numbers that the bytes were cut to is the line that they are
pub line_found : {form : Form} {bytes name rest : List ℕ} {line : Line} → IsNameCut bytes name rest → form_name form ≡ name → IsLineOf form rest line → line_text line ≡ bytes
unfolding line_text
line_found {name = name} {line = line} cut is of = ap (λ f. form_name f ++ number_text (line_numbers line)) of.is_form ∙ ap (λ w. w ++ number_text (line_numbers line)) is ∙ ap (λ w. name ++ w) (sym of.is) ∙ sym cut.is

-- bytes that were cut to a form and numbers that no line of it has are no line
pub line_none : (form : Form) (bytes name rest : List ℕ) → IsNameCut bytes name rest → form_named name ≡ Some form → ReadsLine form rest None
    → (line : Line) → IsLine line → line_text line ≢ bytes
unfolding line_text
line_none form bytes name rest cut found none line is same =
    let only = cut.only (line_form line) (number_text (line_numbers line)) (IsRest-number_text (line_numbers line)) (sym same) in
    let named : form_named name ≡ Some (line_form line) = ap form_named only.0 ∙ find_form (line_form line) in
    none line (record { is_form = (let e : Some (line_form line) ≡ Some form = sym named ∙ found in cc); is_line = is; is = only.1 })

-- bytes that were cut to no form are no line
pub line_unnamed : (bytes name rest : List ℕ) → IsNameCut bytes name rest → form_named name ≡ None → (line : Line) → IsLine line → line_text line ≢ bytes
unfolding line_text
line_unnamed bytes name rest cut found line is same =
    let only = cut.only (line_form line) (number_text (line_numbers line)) (IsRest-number_text (line_numbers line)) (sym same) in
    let named : form_named name ≡ Some (line_form line) = ap form_named only.0 ∙ find_form (line_form line) in
    cc

-- what was read of bytes that were cut to a form and its numbers
pub line_answer : (form : Form) (bytes name rest : List ℕ) (answer : Option Line) → IsNameCut bytes name rest → form_named name ≡ Some form → ReadsLine form rest answer
    → MatchOption answer ((line : Line) → IsLine line → line_text line ≢ bytes) (λ line. IsLine line × (line_text line ≡ bytes))
unfolding form_named
line_answer form bytes name rest None cut found none = line_none form bytes name rest cut found none
line_answer form bytes name rest (Some line) cut found of = (of.is_line, line_found cut ((bytes_eq-Decides (form_name form) name).0 (find_passes (λ f. bytes_eq (form_name f) name) all_forms form found)) of)
