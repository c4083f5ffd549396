-- The line that some bytes are, as a function of them.
use Rattle.std.proofs.Common.{◌≡◌, ◌≢◌, ℕ, ℤ, pos, negsuc, neg_ℤ, zero, suc, ◌<◌, ◌≤◌, ◌^◌, nat_lt, nat_le, Bool, true, false, cond, not, ◌&&◌, ◌==◌, eqb, All, List, [], ◌∷◌, ◌++◌, length, get_or, map, bytes_eq, Option, Some, None, MatchOption, subst, sym, ap, ◌∙◌, refl, arith}
use Rattle.std.specs.Prelude.{find, unsigned_abs}
use Rattle.std.specs.Bool.{Decides}
use Rattle.std.specs.Fmt.{signed_decimal}
use Rattle.std.specs.List.{slice_split, list_all}
use Rattle.std.specs.Option.{option_map}
use Rattle.std.proofs.Math.Seq.{drop-append-add}
use Rattle.std.proofs.lemmas.Bool.Decides.{Decides-and, Decides-by_and, Decides-ltb, nat_tests}
use Rattle.std.proofs.lemmas.Fmt.{decimal_is_IsNumeral_wide}
use Rattle.std.proofs.lemmas.List.{append-nil}
use Rattle.std.proofs.lemmas.List.Splits.{slice_split_at, slice_split_none}
use Rattle.std.proofs.lemmas.Slice.Eq.{bytes_eq-Decides}
use Rattle.log_lines.specs.declared.form.Form.{Form}
use Rattle.log_lines.specs.declared.form.Form.TheVariants as form
use Rattle.log_lines.specs.declared.line.Line.{Line}
use Rattle.log_lines.specs.declared.line.Line.TheVariants.{Header, Node, Cut, Found, Value, Empty, Point, Dual, Pending, Floor, Split, Mult, ClaimOptimal, ClaimInfeasible, ClaimBetween, ClaimBelow, End}
use Rattle.log_lines.specs.Line.{all_forms, IsShort, IsLine, IsInRange, IsVersion, form_name, line_form, line_numbers, line_text, number_text}
use Rattle.log_lines.specs.Numbers.{Fit}
use Rattle.log_lines.specs.Reading.{form_named, form_signs}
use Rattle.log_lines.specs.Said.{word_number, numbers_after, line_with, is_in_range, is_line, is_text, line_said}
use Rattle.log_lines.proofs.SignedNumbers.{plain_first}
use Rattle.log_lines.proofs.NumberTexts.{IsWord-signed, IsRest-number_text, number_text_unique}
use Rattle.log_lines.proofs.LineTexts.{find_form, find_passes, name_alone, Fit-line}

-- ---- numbers

-- what is printed of a number is that number
word_number-signed : (number : ℤ) → IsShort number → word_number (signed_decimal number) ≡ number
unfolding word_number
word_number-signed (pos n) short = rw (plain_first n (omega arith)) (ap pos (decimal_is_IsNumeral_wide n (omega arith)).1)
word_number-signed (negsuc n) short = ap (λ m. neg_ℤ (pos m)) (decimal_is_IsNumeral_wide (suc n) (omega arith)).1

-- the words of numbers are these numbers
split_numbers : (number : ℤ) (numbers : List ℤ) → IsShort number → All IsShort numbers
    → map word_number (slice_split (λ b. eqb b 32) (signed_decimal number ++ number_text numbers)) ≡ number ∷ numbers
unfolding number_text
split_numbers number [] short shorts =
    ap (λ w. map word_number (slice_split (λ b. eqb b 32) w)) (append-nil (signed_decimal number))
    ∙ ap (map word_number) (slice_split_none (λ b. eqb b 32) (signed_decimal number) (IsWord-signed number short))
    ∙ ap (λ z. z ∷ []) (word_number-signed number short)
split_numbers number (next ∷ numbers) short shorts =
    ap (map word_number) (slice_split_at (λ b. eqb b 32) (signed_decimal number) 32 (signed_decimal next ++ number_text numbers) (IsWord-signed number short) refl)
    ∙ ap (λ z. z ∷ map word_number (slice_split (λ b. eqb b 32) (signed_decimal next ++ number_text numbers))) (word_number-signed number short)
    ∙ ap (λ zs. number ∷ zs) (split_numbers next numbers (shorts 0 (pos 0) (omega arith)) (λ k d within. shorts (suc k) d (omega arith)))

-- the numbers after the words of a line
numbers_after-text : (f : Form) (number : ℤ) (numbers : List ℤ) → IsShort number → All IsShort numbers → numbers_after f (form_name f ++ number_text (number ∷ numbers)) ≡ number ∷ numbers
unfolding numbers_after number_text
numbers_after-text f number numbers short shorts =
    ap (λ w. map word_number (slice_split (λ b. eqb b 32) w)) (drop-append-add (form_name f) (32 ∷ (signed_decimal number ++ number_text numbers)) 1)
    ∙ split_numbers number numbers short shorts

-- ---- lines

-- a line is that of its form with its numbers
line_with-own : (line : Line) → line_with (line_form line) (line_numbers line) ≡ line
line_with-own (Header a) = refl
line_with-own Node = refl
line_with-own (Cut a b) = refl
line_with-own (Found a b) = refl
line_with-own (Value a b) = refl
line_with-own Empty = refl
line_with-own Point = refl
line_with-own (Dual a b) = refl
line_with-own (Pending a b) = refl
line_with-own (Floor a) = refl
line_with-own (Split a b c d) = refl
line_with-own (Mult a b) = refl
line_with-own (ClaimOptimal a b) = refl
line_with-own ClaimInfeasible = refl
line_with-own (ClaimBetween a b c) = refl
line_with-own (ClaimBelow a) = refl
line_with-own End = refl

-- the numbers of a form without any do not matter
bare_with : (line : Line) (numbers : List ℤ) → line_numbers line ≡ [] → line_with (line_form line) numbers ≡ line
bare_with (Header a) ns bare = cc
bare_with Node ns bare = refl
bare_with (Cut a b) ns bare = cc
bare_with (Found a b) ns bare = cc
bare_with (Value a b) ns bare = cc
bare_with Empty ns bare = refl
bare_with Point ns bare = refl
bare_with (Dual a b) ns bare = cc
bare_with (Pending a b) ns bare = cc
bare_with (Floor a) ns bare = cc
bare_with (Split a b c d) ns bare = cc
bare_with (Mult a b) ns bare = cc
bare_with (ClaimOptimal a b) ns bare = cc
bare_with ClaimInfeasible ns bare = refl
bare_with (ClaimBetween a b c) ns bare = cc
bare_with (ClaimBelow a) ns bare = cc
bare_with End ns bare = refl

-- the line of its form with the numbers that are read of its text
with_numbers : (line : Line) (numbers : List ℤ) → line_numbers line ≡ numbers → All IsShort numbers → line_with (line_form line) (numbers_after (line_form line) (form_name (line_form line) ++ number_text numbers)) ≡ line
with_numbers line [] is short = bare_with line _ is
with_numbers line (number ∷ numbers) is short =
    ap (line_with (line_form line)) (numbers_after-text (line_form line) number numbers (short 0 (pos 0) (omega arith)) (λ k d within. short (suc k) d (omega arith)) ∙ sym is)
    ∙ line_with-own line

line_with-text : (line : Line) → IsLine line → line_with (line_form line) (numbers_after (line_form line) (line_text line)) ≡ line
unfolding line_text
line_with-text line is = with_numbers line (line_numbers line) refl is.short

-- what the tests tell
Decides-leb : (a b : ℕ) → Decides (nat_le a b) (a ≤ b)
Decides-leb a b = (λ is. grind (arith, nat_tests), λ below. grind (arith, nat_tests))

not_three : (a : ℕ) → Decides (not (a == 3)) (a ≢ 3)
not_three a = (λ is. grind (arith, nat_tests), λ other. grind (arith, nat_tests))

version_tells : (a : ℕ) → Decides (nat_le 1 a && (nat_le a 4 && not (a == 3))) (IsVersion a)
version_tells a =
    let both = Decides-and (nat_le 1 a) (nat_le a 4 && not (a == 3)) (Decides-leb 1 a) (Decides-and (nat_le a 4) (not (a == 3)) (Decides-leb a 4) (not_three a)) in
    (λ is. let parts = both.0 is in (parts.0, parts.1.0, parts.1.1), λ known. both.1 (known.0, (known.1, known.2)))

in_range_tells : (line : Line) → Decides (is_in_range line) (IsInRange line)
in_range_tells (Header a) = version_tells a
in_range_tells Node = (λ _. tt, λ _. refl)
in_range_tells (Cut a b) = (λ _. tt, λ _. refl)
in_range_tells (Found a b) = (λ _. tt, λ _. refl)
in_range_tells (Value a b) = Decides-and (nat_le 1 b) (nat_le b 255) (Decides-leb 1 b) (Decides-leb b 255)
in_range_tells Empty = (λ _. tt, λ _. refl)
in_range_tells Point = (λ _. tt, λ _. refl)
in_range_tells (Dual a b) = (λ _. tt, λ _. refl)
in_range_tells (Pending a b) = (λ _. tt, λ _. refl)
in_range_tells (Floor a) = (λ _. tt, λ _. refl)
in_range_tells (Split a b c d) = Decides-leb b 254
in_range_tells (Mult a b) = Decides-leb 1 b
in_range_tells (ClaimOptimal a b) = (λ _. tt, λ _. refl)
in_range_tells ClaimInfeasible = (λ _. tt, λ _. refl)
in_range_tells (ClaimBetween a b c) = (λ _. tt, λ _. refl)
in_range_tells (ClaimBelow a) = (λ _. tt, λ _. refl)
in_range_tells End = (λ _. tt, λ _. refl)

short_tells : (numbers : List ℤ) → Decides (list_all (λ number. nat_lt (unsigned_abs number) (10 ^ 30)) numbers) (All IsShort numbers)
short_tells =
    Decides-by_and (λ number. nat_lt (unsigned_abs number) (10 ^ 30)) IsShort (list_all (λ number. nat_lt (unsigned_abs number) (10 ^ 30))) (λ number. Decides-ltb (unsigned_abs number) (10 ^ 30)) refl (λ _ _. refl)

line_tells : (line : Line) → Decides (is_line line) (IsLine line)
line_tells line =
    let both = Decides-and (list_all (λ n. nat_lt (unsigned_abs n) (10 ^ 30)) (line_numbers line)) (is_in_range line) (short_tells (line_numbers line)) (in_range_tells line) in
    (λ is. record { short = (both.0 is).0; in_range = (both.0 is).1 }, λ line_is. both.1 (line_is.short, line_is.in_range))

text_tells : (bytes : List ℕ) (line : Line) → Decides (is_text bytes line) (IsLine line × (line_text line ≡ bytes))
unfolding is_text
text_tells bytes line = Decides-and (is_line line) (bytes_eq (line_text line) bytes) (line_tells line) (bytes_eq-Decides (line_text line) bytes)

-- ---- one line

-- forms of one name are one
one_form : (f g : Form) → form_name f ≡ form_name g → f ≡ g
one_form f g same = let e : Some f ≡ Some g = sym (find_form f) ∙ ap form_named same ∙ find_form g in cc

-- lines of one text are one
pub one_line : (line other : Line) → IsLine line → IsLine other → line_text line ≡ line_text other → line ≡ other
unfolding line_text
one_line line other is is' same =
    let cut = name_alone (line_form line) (number_text (line_numbers line)) (IsRest-number_text (line_numbers line)) in
    let only = cut.only (line_form other) (number_text (line_numbers other)) (IsRest-number_text (line_numbers other)) same in
    let form_is : line_form line ≡ line_form other = one_form (line_form line) (line_form other) only.0 in
    let fit' : Fit (form_signs (line_form line)) (line_numbers other) = subst (λ f. Fit (form_signs f) (line_numbers other)) (sym form_is) (Fit-line other is') in
    let numbers : line_numbers line ≡ line_numbers other = number_text_unique (form_signs (line_form line)) (line_numbers line) (line_numbers other) (Fit-line line is) fit' only.1 in
    sym (line_with-own line) ∙ ap (λ f. line_with f (line_numbers line)) form_is ∙ ap (line_with (line_form other)) numbers ∙ line_with-own other

either : (b : Bool) (f : Form) (later : Option Form) → ((g : Form) × (later ≡ Some g)) → (g : Form) × (cond b (Some f) later ≡ Some g)
either true f later found = (f, refl)
either false f later found = found

-- a form that passes is found, or one before it
find_at : (p : Form → Bool) (fs : List Form) (k : ℕ) (d : Form) → k < length fs → p (get_or fs k d) ≡ true → (f : Form) × (find p fs ≡ Some f)
find_at p [] k d within passes = absurd (omega arith)
find_at p (f ∷ fs) zero d within passes = (f, ap (λ b. cond b (Some f) (find p fs)) passes)
find_at p (f ∷ fs) (suc k) d within passes = either (p f) f (find p fs) (find_at p fs k d (omega arith) passes)

find_some : (p : Form → Bool) (f : Form) → p f ≡ true → (g : Form) × (find p all_forms ≡ Some g)
find_some p form.Header passes = find_at p all_forms 0 form.End (omega arith) passes
find_some p form.Node passes = find_at p all_forms 1 form.End (omega arith) passes
find_some p form.Cut passes = find_at p all_forms 2 form.End (omega arith) passes
find_some p form.Found passes = find_at p all_forms 3 form.End (omega arith) passes
find_some p form.Value passes = find_at p all_forms 4 form.End (omega arith) passes
find_some p form.Empty passes = find_at p all_forms 5 form.End (omega arith) passes
find_some p form.Point passes = find_at p all_forms 6 form.End (omega arith) passes
find_some p form.Dual passes = find_at p all_forms 7 form.End (omega arith) passes
find_some p form.Pending passes = find_at p all_forms 8 form.End (omega arith) passes
find_some p form.Floor passes = find_at p all_forms 9 form.End (omega arith) passes
find_some p form.Split passes = find_at p all_forms 10 form.End (omega arith) passes
find_some p form.Mult passes = find_at p all_forms 11 form.End (omega arith) passes
find_some p form.ClaimOptimal passes = find_at p all_forms 12 form.End (omega arith) passes
find_some p form.ClaimInfeasible passes = find_at p all_forms 13 form.End (omega arith) passes
find_some p form.ClaimBetween passes = find_at p all_forms 14 form.End (omega arith) passes
find_some p form.ClaimBelow passes = find_at p all_forms 15 form.End (omega arith) passes
find_some p form.End passes = find_at p all_forms 16 form.End (omega arith) passes

-- the line that bytes are is said of them
pub line_said-line : (line : Line) → IsLine line → line_said (line_text line) ≡ Some line
unfolding line_said
line_said-line line is =
    let bytes : List ℕ = line_text line in
    let line_of : Form → Line = λ f. line_with f (numbers_after f bytes) in
    let own = line_with-text line is in
    let passes : is_text bytes (line_of (line_form line)) ≡ true = ap (is_text bytes) own ∙ (text_tells bytes line).1 (is, refl) in
    let found = find_some (λ f. is_text bytes (line_of f)) (line_form line) passes in
    let tells = (text_tells bytes (line_of found.0)).0 (find_passes (λ f. is_text bytes (line_of f)) all_forms found.0 found.1) in
    ap (option_map line_of) found.1 ∙ ap Some (one_line (line_of found.0) line tells.0 is tells.1)

said_of : (bytes : List ℕ) (line_of : Form → Line) (found : Option Form) (line : Line) → found ≡ find (λ f. is_text bytes (line_of f)) all_forms → option_map line_of found ≡ Some line
    → IsLine line × (line_text line ≡ bytes)
said_of bytes line_of None line found said = cc
said_of bytes line_of (Some f) line found said =
    let same : line_of f ≡ line = cc in
    subst (λ l. IsLine l × (line_text l ≡ bytes)) same ((text_tells bytes (line_of f)).0 (find_passes (λ g. is_text bytes (line_of g)) all_forms f (sym found)))

-- what is said of bytes is the line that they are
pub line_said-is : (bytes : List ℕ) (line : Line) → line_said bytes ≡ Some line → IsLine line × (line_text line ≡ bytes)
unfolding line_said
line_said-is bytes line said =
    let line_of : Form → Line = λ f. line_with f (numbers_after f bytes) in
    said_of bytes line_of (find (λ f. is_text bytes (line_of f)) all_forms) line refl said

none_said : (bytes : List ℕ) (said : Option Line) → said ≡ line_said bytes → ((line : Line) → IsLine line → line_text line ≢ bytes) → None ≡ said
none_said bytes None is none = refl
none_said bytes (Some line) is none = let tells = line_said-is bytes line (sym is) in absurd (none line tells.0 tells.1)

-- what was read of bytes is what is said of them
pub read_said : (bytes : List ℕ) (answer : Option Line) → MatchOption answer ((line : Line) → IsLine line → line_text line ≢ bytes) (λ line. IsLine line × (line_text line ≡ bytes)) → answer ≡ line_said bytes
read_said bytes (Some line) is = sym (line_said-line line is.0) ∙ ap line_said is.1
read_said bytes None none = none_said bytes (line_said bytes) refl none
