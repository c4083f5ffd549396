-- The text of a line fits a line of a file.
use Rattle.std.proofs.Common.{◌≡◌, ◌≢◌, ℕ, ℤ, pos, negsuc, suc, ◌*◌, ◌<◌, ◌≤◌, ◌^◌, true, false, not, eqb, All, List, [], ◌∷◌, ◌++◌, length, length-append, get_or, decimal, refl, arith}
use Rattle.std.specs.Fmt.{signed_decimal}
use Rattle.std.specs.List.{list_all}
use Rattle.std.proofs.lemmas.Bool.Decides.{nat_tests}
use Rattle.std.proofs.lemmas.Fmt.{length-decimal-le_wide}
use Rattle.std.proofs.lemmas.List.Elements.{All-append, All-cons}
use Rattle.std.proofs.lemmas.List.Recursion.{and_at}
use Rattle.log_lines.specs.declared.form.Form.{Form}
use Rattle.log_lines.specs.declared.form.Form.TheVariants as form
use Rattle.log_lines.specs.declared.line.Line.{Line}
use Rattle.log_lines.specs.declared.line.Line.TheVariants.{Header, Node, Cut, Found, Value, Empty, Point, Dual, Pending, Floor, Split, Mult, ClaimOptimal, ClaimInfeasible, ClaimBetween, ClaimBelow, End}
use Rattle.log_lines.specs.Line.{IsShort, IsLine, form_name, line_form, line_numbers, line_text, number_text}
use Rattle.log_lines.specs.Reader.{HasNoFeed}
use Rattle.text_words.proofs.Printed.{decimal-lacks}

-- ---- no line feed

tested : (bytes : List ℕ) → list_all (λ b. not (eqb b 10)) bytes ≡ true → HasNoFeed bytes
tested bytes is = λ k d within. let tells : not (eqb (get_or bytes k d) 10) ≡ true = and_at (list_all (λ b. not (eqb b 10))) (λ b. not (eqb b 10)) refl (λ _ _. refl) bytes k d within is in grind (arith, nat_tests)

name_tested : (f : Form) → list_all (λ b. not (eqb b 10)) (form_name f) ≡ true
name_tested form.Header = refl
name_tested form.Node = refl
name_tested form.Cut = refl
name_tested form.Found = refl
name_tested form.Value = refl
name_tested form.Empty = refl
name_tested form.Point = refl
name_tested form.Dual = refl
name_tested form.Pending = refl
name_tested form.Floor = refl
name_tested form.Split = refl
name_tested form.Mult = refl
name_tested form.ClaimOptimal = refl
name_tested form.ClaimInfeasible = refl
name_tested form.ClaimBetween = refl
name_tested form.ClaimBelow = refl
name_tested form.End = refl

plain_decimal : (n : ℕ) → n < 10 ^ 64 → HasNoFeed (decimal n)
plain_decimal n small = λ k d within. let lacks : eqb (get_or (decimal n) k d) 10 ≡ false = decimal-lacks n 10 small (λ r. omega arith) k d within in grind (arith, nat_tests)

plain_signed : (number : ℤ) → IsShort number → HasNoFeed (signed_decimal number)
plain_signed (pos n) short = plain_decimal n (omega arith)
plain_signed (negsuc n) short = All-cons (λ b. b ≢ 10) 45 (decimal (suc n)) (omega arith) (plain_decimal (suc n) (omega arith))

plain_numbers : (numbers : List ℤ) → All IsShort numbers → HasNoFeed (number_text numbers)
unfolding number_text
plain_numbers [] short = λ k d within. absurd (omega arith)
plain_numbers (number ∷ numbers) short =
    All-cons (λ b. b ≢ 10) 32 (signed_decimal number ++ number_text numbers) (omega arith)
    (All-append (λ b. b ≢ 10) (signed_decimal number) (number_text numbers) (plain_signed number (short 0 (pos 0) (omega arith))) (plain_numbers numbers (λ k d within. short (suc k) d (omega arith))))

-- no byte of a line's text is a line feed
pub HasNoFeed-line_text : (line : Line) → IsLine line → HasNoFeed (line_text line)
unfolding line_text
HasNoFeed-line_text line is =
    All-append (λ b. b ≢ 10) (form_name (line_form line)) (number_text (line_numbers line)) (tested (form_name (line_form line)) (name_tested (line_form line))) (plain_numbers (line_numbers line) is.short)

-- ---- few bytes

name_few : (f : Form) → length (form_name f) ≤ 16
name_few form.Header = omega arith
name_few form.Node = omega arith
name_few form.Cut = omega arith
name_few form.Found = omega arith
name_few form.Value = omega arith
name_few form.Empty = omega arith
name_few form.Point = omega arith
name_few form.Dual = omega arith
name_few form.Pending = omega arith
name_few form.Floor = omega arith
name_few form.Split = omega arith
name_few form.Mult = omega arith
name_few form.ClaimOptimal = omega arith
name_few form.ClaimInfeasible = omega arith
name_few form.ClaimBetween = omega arith
name_few form.ClaimBelow = omega arith
name_few form.End = omega arith

numbers_few : (line : Line) → length (line_numbers line) ≤ 4
numbers_few (Header a) = omega arith
numbers_few Node = omega arith
numbers_few (Cut a b) = omega arith
numbers_few (Found a b) = omega arith
numbers_few (Value a b) = omega arith
numbers_few Empty = omega arith
numbers_few Point = omega arith
numbers_few (Dual a b) = omega arith
numbers_few (Pending a b) = omega arith
numbers_few (Floor a) = omega arith
numbers_few (Split a b c d) = omega arith
numbers_few (Mult a b) = omega arith
numbers_few (ClaimOptimal a b) = omega arith
numbers_few ClaimInfeasible = omega arith
numbers_few (ClaimBetween a b c) = omega arith
numbers_few (ClaimBelow a) = omega arith
numbers_few End = omega arith

few_signed : (number : ℤ) → IsShort number → length (signed_decimal number) ≤ 31
few_signed (pos n) short = omega (arith, length-decimal-le_wide 30 n (omega arith) (omega arith) (omega arith))
few_signed (negsuc n) short = omega (arith, length-decimal-le_wide 30 (suc n) (omega arith) (omega arith) (omega arith))

few_numbers : (numbers : List ℤ) → All IsShort numbers → length (number_text numbers) ≤ 32 * length numbers
unfolding number_text
few_numbers [] short = omega arith
few_numbers (number ∷ numbers) short =
    omega (arith, length-append (signed_decimal number) (number_text numbers), few_signed number (short 0 (pos 0) (omega arith)), few_numbers numbers (λ k d within. short (suc k) d (omega arith)))

-- a line's text has at most 144 bytes
pub length-line_text : (line : Line) → IsLine line → length (line_text line) ≤ 144
unfolding line_text
length-line_text line is =
    omega (arith, length-append (form_name (line_form line)) (number_text (line_numbers line)), name_few (line_form line), numbers_few line, few_numbers (line_numbers line) is.short)
