-- Which bytes are a line of a form.
use Rattle.std.specs.Prelude.{◌≡◌, ℕ, Bool, true, false, Option, MatchOption, bytes_eq, find, List, [], ◌∷◌, ◌++◌}
use Rattle.log_lines.specs.declared.form.Form.{Form}
use Rattle.log_lines.specs.declared.form.Form.TheVariants as form
use Rattle.log_lines.specs.declared.line.Line.{Line}
use Rattle.log_lines.specs.Line.{all_forms, IsLine, form_name, line_form, line_numbers, number_text}
use Rattle.log_lines.specs.Numbers.{IsRest}

-- the form of this name
unfoldable pub form_named : List ℕ → Option Form
form_named name = find (λ form. bytes_eq (form_name form) name) all_forms

-- the numbers of a form, each true where it may have a minus
abbrev pub form_signs : Form → List Bool
form_signs form.Header = false ∷ []
form_signs form.Node = []
form_signs form.Cut = false ∷ false ∷ []
form_signs form.Found = true ∷ false ∷ []
form_signs form.Value = false ∷ false ∷ []
form_signs form.Empty = []
form_signs form.Point = []
form_signs form.Dual = false ∷ false ∷ []
form_signs form.Pending = false ∷ false ∷ []
form_signs form.Floor = true ∷ []
form_signs form.Split = false ∷ false ∷ false ∷ false ∷ []
form_signs form.Mult = false ∷ false ∷ []
form_signs form.ClaimOptimal = true ∷ false ∷ []
form_signs form.ClaimInfeasible = []
form_signs form.ClaimBetween = true ∷ true ∷ false ∷ []
form_signs form.ClaimBelow = true ∷ []
form_signs form.End = []

-- the line is of this form, and its numbers are the text
pub record IsLineOf (form : Form) (text : List ℕ) (line : Line) : Type 0 where
  pub is_form : line_form line ≡ form
  pub is_line : IsLine line
  pub is : text ≡ number_text (line_numbers line)

-- the answer is the line of this form whose numbers the text is, and none only where there is no such line
abbrev pub ReadsLine : Form → List ℕ → Option Line → Type 0
ReadsLine form text answer = MatchOption answer ((line : Line) → ¬ IsLineOf form text line) (λ line. IsLineOf form text line)

-- the name is all that a form can have been, where its numbers follow
pub record IsNameCut (bytes name rest : List ℕ) : Type 0 where
  pub is : bytes ≡ name ++ rest
  pub only : (form : Form) (numbers : List ℕ) → IsRest numbers → bytes ≡ form_name form ++ numbers → (name ≡ form_name form) × (rest ≡ numbers)
