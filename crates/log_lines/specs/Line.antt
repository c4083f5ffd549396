-- The lines of a proof log, and their text.
use Rattle.std.specs.Prelude.{◌≢◌, ◌^◌, ◌<◌, ◌≤◌, ⊤, ℕ, ℤ, pos, unsigned_abs, List, [], ◌∷◌, ◌++◌, All, flat_map, codes}
use Rattle.std.specs.Fmt.{signed_decimal}
use Rattle.log_lines.specs.declared.form.Form.{Form}
use Rattle.log_lines.specs.declared.form.Form.TheVariants as form
use Rattle.log_lines.specs.declared.line.Line.{Line}
use Rattle.log_lines.specs.declared.line.Line.TheVariants.{Header, Node, Cut, Found, Value, Empty, Point, Dual, Pending, Floor, Split, Mult, ClaimOptimal, ClaimInfeasible, ClaimBetween, ClaimBelow, End}

-- the form of a line
abbrev pub line_form : Line → Form
line_form (Header _) = form.Header
line_form Node = form.Node
line_form (Cut _ _) = form.Cut
line_form (Found _ _) = form.Found
line_form (Value _ _) = form.Value
line_form Empty = form.Empty
line_form Point = form.Point
line_form (Dual _ _) = form.Dual
line_form (Pending _ _) = form.Pending
line_form (Floor _) = form.Floor
line_form (Split _ _ _ _) = form.Split
line_form (Mult _ _) = form.Mult
line_form (ClaimOptimal _ _) = form.ClaimOptimal
line_form ClaimInfeasible = form.ClaimInfeasible
line_form (ClaimBetween _ _ _) = form.ClaimBetween
line_form (ClaimBelow _) = form.ClaimBelow
line_form End = form.End

-- the words of a form, which stand before its numbers
abbrev pub form_name : Form → List ℕ
form_name form.Header = codes "stn-log"
form_name form.Node = codes "node"
form_name form.Cut = codes "cut"
form_name form.Found = codes "found"
form_name form.Value = codes "value"
form_name form.Empty = codes "empty"
form_name form.Point = codes "point"
form_name form.Dual = codes "dual"
form_name form.Pending = codes "pending"
form_name form.Floor = codes "floor"
form_name form.Split = codes "split"
form_name form.Mult = codes "mult"
form_name form.ClaimOptimal = codes "claim optimal"
form_name form.ClaimInfeasible = codes "claim infeasible"
form_name form.ClaimBetween = codes "claim between"
form_name form.ClaimBelow = codes "claim below"
form_name form.End = codes "end"

-- all forms of lines
abbrev pub all_forms : List Form
all_forms =
    form.Header ∷ form.Node ∷ form.Cut ∷ form.Found ∷ form.Value ∷ form.Empty ∷ form.Point ∷ form.Dual ∷ form.Pending ∷ form.Floor
    ∷ form.Split ∷ form.Mult ∷ form.ClaimOptimal ∷ form.ClaimInfeasible ∷ form.ClaimBetween ∷ form.ClaimBelow ∷ form.End ∷ []

-- the words of a line, which stand before its numbers
abbrev pub line_name : Line → List ℕ
line_name line = form_name (line_form line)

-- the numbers of a line, in their order
abbrev pub line_numbers : Line → List ℤ
line_numbers (Header version) = pos version ∷ []
line_numbers Node = []
line_numbers (Cut row slot) = pos row ∷ pos slot ∷ []
line_numbers (Found value count) = value ∷ pos count ∷ []
line_numbers (Value slot quanta) = pos slot ∷ pos quanta ∷ []
line_numbers Empty = []
line_numbers Point = []
line_numbers (Dual scale count) = pos scale ∷ pos count ∷ []
line_numbers (Pending scale count) = pos scale ∷ pos count ∷ []
line_numbers (Floor profit) = profit ∷ []
line_numbers (Split slot max scale count) = pos slot ∷ pos max ∷ pos scale ∷ pos count ∷ []
line_numbers (Mult row factor) = pos row ∷ pos factor ∷ []
line_numbers (ClaimOptimal profit count) = profit ∷ pos count ∷ []
line_numbers ClaimInfeasible = []
line_numbers (ClaimBetween profit cap count) = profit ∷ cap ∷ pos count ∷ []
line_numbers (ClaimBelow cap) = cap ∷ []
line_numbers End = []

-- numbers in decimal digits, each after a blank (32)
unfoldable pub number_text : List ℤ → List ℕ
number_text numbers = flat_map (λ number. 32 ∷ signed_decimal number) numbers

-- the text of a line, without its line feed: its words and numbers with single blanks between them
unfoldable pub line_text : Line → List ℕ
line_text line = line_name line ++ number_text (line_numbers line)

-- a number has at most 30 digits
abbrev pub IsShort : ℤ → Type 0
IsShort number = unsigned_abs number < 10 ^ 30

-- a version that the first line of a log may have, where nothing stands between it and the proof: 1, 2 or 4
abbrev pub IsVersion : ℕ → Type 0
IsVersion version = (1 ≤ version) × (version ≤ 4) × (version ≢ 3)

-- what some lines ask of their numbers besides
abbrev pub IsInRange : Line → Type 0
IsInRange (Header version) = IsVersion version
IsInRange (Value _ quanta) = (1 ≤ quanta) × (quanta ≤ 255)
IsInRange (Split _ max _ _) = max ≤ 254
IsInRange (Mult _ factor) = 1 ≤ factor
IsInRange _ = ⊤

-- the line may be written: each number has at most 30 digits, the version is 1, 2 or 4, quanta are 1 to 255, a max is at
-- most 254, and a factor is 1 or more
pub record IsLine (line : Line) : Type 0 where
  pub short : All IsShort (line_numbers line)
  pub in_range : IsInRange line
