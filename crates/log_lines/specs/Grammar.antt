-- Which line of a log may stand where, and which numbers are too large.
use Rattle.std.specs.Prelude.{ℕ, ◌-◌, ◌==◌, nat_lt, nat_le, Bool, true, false, if◌then◌else◌, Option, None, Some, List, [], ◌∷◌, length}
use Rattle.std.specs.Option.{option_map, option_map_or}
use Rattle.log_lines.specs.declared.grammar.Limits.{Limits}
use Rattle.log_lines.specs.declared.grammar.Place.{Place}
use Rattle.log_lines.specs.declared.grammar.Place.TheVariants as place
use Rattle.log_lines.specs.declared.step.Step.{Step}
use Rattle.log_lines.specs.declared.step.Step.TheVariants as step
use Rattle.log_lines.specs.declared.line.Line.{Line}
use Rattle.log_lines.specs.declared.line.Line.TheVariants.{Header, Node, Cut, Found, Value, Empty, Point, Dual, Pending, Floor, Split, Mult, ClaimOptimal, ClaimInfeasible, ClaimBetween, ClaimBelow, End}

-- how far a log has come: its version, what comes next, and the open splits, innermost first: false where the left part is
-- under way, true where the right part is
pub record Standing : Type 0 where
  pub version : ℕ
  pub place : Place
  pub sides : List Bool

-- where a log begins
abbrev pub new_standing : Standing
new_standing = record { version = 1; place = place.Header; sides = [] }

-- the open splits after a part that ended: a right part's split has ended too, and so on; after a left part the right part is
-- under way
abbrev pub after_part : List Bool → List Bool
after_part [] = []
after_part (false ∷ sides) = true ∷ sides
after_part (true ∷ sides) = after_part sides

-- the innermost part is a right one
abbrev pub is_right : List Bool → Bool
is_right [] = false
is_right (side ∷ _) = side

-- what comes after a part: the node of a right part, or where no split is open the claim
abbrev pub part_place : List Bool → Place
part_place [] = place.Claim
part_place (_ ∷ _) = place.Node

-- so many value lines come, above the last slot; where none is left, what comes after the group
abbrev pub values_step : ℕ → Option ℕ → Bool → Step
values_step left above of_claim =
    step.At (if left == 0 then (if of_claim then place.End else place.Ending) else place.Values left above of_claim)

-- so many mult lines come, above the last row; where none is left, a split opens or the part has ended
abbrev pub mults_step : ℕ → Option ℕ → Bool → Step
mults_step left above splits =
    if left == 0 then (if splits then step.Opens else step.Ends) else step.At (place.Mults left above splits)

-- a number is above the last one
abbrev pub follows : Option ℕ → ℕ → Bool
follows None _ = true
follows (Some last) number = nat_lt last number

-- what a split leads to
abbrev pub split_step : Line → Option Step
split_step (Split _ _ _ count) = Some (mults_step count None true)
split_step _ = None

-- what a floor leads to: its split, in version 4 alone
abbrev pub floor_step : ℕ → Option Step
floor_step version = if version == 4 then Some (step.At place.Floored) else None

-- what an ending, or the floor of a split, leads to
abbrev pub ending_step : ℕ → Line → Option Step
ending_step _ Empty = Some step.Ends
ending_step version Point = if nat_le 2 version then Some step.Ends else None
ending_step _ (Dual _ count) = Some (mults_step count None false)
ending_step _ (Pending _ count) = Some (mults_step count None false)
ending_step version (Floor _) = floor_step version
ending_step _ line = split_step line

-- what a cut, a found line or an ending leads to
abbrev pub inside_step : ℕ → Line → Option Step
inside_step _ (Cut _ _) = Some (step.At place.Inside)
inside_step _ (Found _ count) = Some (values_step count None false)
inside_step version line = ending_step version line

-- what a claim leads to
abbrev pub claim_step : Line → Option Step
claim_step (ClaimOptimal _ count) = Some (values_step count None true)
claim_step ClaimInfeasible = Some (step.At place.End)
claim_step (ClaimBetween _ _ count) = Some (values_step count None true)
claim_step (ClaimBelow _) = Some (step.At place.End)
claim_step _ = None

-- what a line leads to in a log of this version at this place; None where it may not stand there
abbrev pub step_of : ℕ → Place → Line → Option Step
step_of _ place.Header (Header version) = Some (step.Begins version)
step_of _ place.Node Node = Some (step.At place.Inside)
step_of version place.Inside line = inside_step version line
step_of version place.Ending line = ending_step version line
step_of _ place.Floored line = split_step line
step_of _ (place.Values left above of_claim) (Value slot _) =
    if follows above slot then Some (values_step (left - 1) (Some slot) of_claim) else None
step_of _ (place.Mults left above splits) (Mult row _) =
    if follows above row then Some (mults_step (left - 1) (Some row) splits) else None
step_of _ place.Claim line = claim_step line
step_of _ place.End End = Some (step.At place.Done)
step_of _ _ _ = None

-- the standing after a step
abbrev pub after_step : Standing → Step → Standing
after_step standing (step.Begins version) = record standing { version = version; place = place.Node }
after_step standing (step.At next) = record standing { place = next }
after_step standing step.Opens = record standing { place = place.Node; sides = false ∷ standing.sides }
after_step standing step.Ends = record standing { place = part_place (after_part standing.sides); sides = after_part standing.sides }

-- the standing after a line; None where it may not stand here
abbrev pub next : Standing → Line → Option Standing
next standing line = option_map (after_step standing) (step_of standing.version standing.place line)

-- the kind of the first test that holds
abbrev pub first_kind : List (Bool × ℕ) → Option ℕ
first_kind [] = None
first_kind (test ∷ tests) = if test.0 then Some test.1 else first_kind tests

-- the test of a row: kind 4 where it is not there
abbrev pub row_test : Limits → ℕ → Bool × ℕ
row_test limits row = (nat_le limits.rows row, 4)

-- the test of the slot of a cut or a split: kind 5 where it is not there
abbrev pub slot_test : Limits → ℕ → Bool × ℕ
slot_test limits slot = (nat_le limits.slots slot, 5)

-- the test of a slot of a point: kind 5 where points have no such slot
abbrev pub point_test : Limits → ℕ → Bool × ℕ
point_test limits slot = (nat_le limits.points slot, 5)

-- the tests of a certificate: kind 7 for a scale above 1,048,576, kind 8 for more than 50,000 multipliers
abbrev pub cert_tests : ℕ → ℕ → List (Bool × ℕ)
cert_tests scale count = (nat_lt 1048576 scale, 7) ∷ (nat_lt 50000 count, 8) ∷ []

-- the tests of a line where so many splits are open, in their order, each with its kind: also 9 for a node below too many
-- splits, and 6 for a factor above 1,099,511,627,776
abbrev pub tests_of : Limits → ℕ → Line → List (Bool × ℕ)
tests_of limits opened Node = (nat_lt limits.depth opened, 9) ∷ []
tests_of limits _ (Cut row slot) = row_test limits row ∷ slot_test limits slot ∷ []
tests_of limits _ (Value slot _) = point_test limits slot ∷ []
tests_of _ _ (Dual scale count) = cert_tests scale count
tests_of _ _ (Pending scale count) = cert_tests scale count
tests_of limits _ (Split slot _ scale count) = slot_test limits slot ∷ cert_tests scale count
tests_of limits _ (Mult row factor) = row_test limits row ∷ (nat_lt 1099511627776 factor, 6) ∷ []
tests_of _ _ _ = []

-- the kind of the first number of the line that is too large where so many splits are open
abbrev pub over_at : Limits → ℕ → Line → Option ℕ
over_at limits opened line = first_kind (tests_of limits opened line)

-- the same, in a log that has come so far
abbrev pub over : Limits → Standing → Line → Option ℕ
over limits standing line = over_at limits (length standing.sides) line

-- the kind of a line's defect: 1 where it may not stand here, else that of the first number that is too large
abbrev pub line_defect : Limits → Standing → Line → Option ℕ
line_defect limits standing line = option_map_or (λ _. over limits standing line) (next standing line) (Some 1)
