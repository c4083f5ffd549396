-- What a plan text says: its lines, the words of a line, and the first fault.
use Rattle.std.specs.Prelude.{◌≡◌, ℕ, ◌+◌, ◌==◌, ◌||◌, not, nat_lt, Bool, if◌then◌else◌, Option, Some, None, option_map, Result, Ok, Err, MatchResult, ⊤, List, [], ◌∷◌, ◌++◌, length, take, position, filter_map, count_by, slice_get, slice_index, slice_index_or, bytes_eq}
use Rattle.std.specs.List.{slice_split, range_with_len}
use Rattle.std.specs.Option.{option_map_or}
use Rattle.std.specs.Result.{result_ok, result_err}
use Rattle.text_words.specs.Faults.{fault_or}
use Rattle.text_words.specs.Numbers.{number_below}
use Rattle.stn_model.specs.declared.plant.Plant.{Plant}
use Rattle.stn_model.specs.declared.start.Start.{Start}
use Rattle.plan_text.specs.declared.fault.PlanFault.{PlanFault}
use Rattle.plan_text.specs.declared.fault.PlanStop.{PlanStop}
use Rattle.plan_text.specs.declared.fault.PlanStop.TheVariants.{Fault, Memory}
use Rattle.plan_text.specs.Published.{bad_line, unknown_name, too_many_lines, too_long, most_bytes, most_lines, number_limit}

-- there is no byte
abbrev pub is_empty : List ℕ → Bool
is_empty bytes = length bytes == 0

-- the lines that the parts between line feeds are: an empty part at the end is none
abbrev pub lines_of_parts : List (List ℕ) → List (List ℕ)
lines_of_parts [] = []
lines_of_parts (part ∷ []) = if is_empty part then [] else part ∷ []
lines_of_parts (part ∷ next ∷ parts) = part ∷ lines_of_parts (next ∷ parts)

-- the lines of a text: each ends with a line feed (10), which the last one may lack
unfoldable pub text_lines : List ℕ → List (List ℕ)
text_lines text = lines_of_parts (slice_split (λ byte. byte == 10) text)

-- the words of a line: what stands between its blanks (32)
abbrev pub line_words : List ℕ → List (List ℕ)
line_words line = slice_split (λ byte. byte == 32) line

-- a line that begins with '#' (35) is a comment
abbrev pub is_comment : List ℕ → Bool
is_comment line = slice_index line 0 == 35

-- the number of the unit of this name, the first if there are more
abbrev pub unit_named : Plant → List ℕ → Option ℕ
unit_named plant word = position (λ unit. bytes_eq unit.name word) plant.units

-- the number of the task of this name, the first if there are more
abbrev pub task_named : Plant → List ℕ → Option ℕ
task_named plant word = position (λ task. bytes_eq task.name word) plant.tasks

-- the start with these names and numbers; a name that the plant has not is an unknown name
abbrev pub named_start : Plant → ℕ → List ℕ → List ℕ → ℕ → Result Start ℕ
named_start plant period unit task quanta =
    option_map_or (λ u. option_map_or (λ t. Ok (record { period = period; unit = u; task = t; quanta = quanta })) (task_named plant task) (Err unknown_name))
    (unit_named plant unit) (Err unknown_name)

-- the start that four words say, or the kind of their fault: two numbers of at most nine digits, and
-- between them two names that are not empty
unfoldable pub start_of : Plant → List ℕ → List ℕ → List ℕ → List ℕ → Result Start ℕ
start_of plant period unit task quanta =
    if is_empty unit || is_empty task then Err bad_line
    else option_map_or (λ p. option_map_or (λ q. named_start plant p unit task q) (number_below number_limit quanta) (Err bad_line))
    (number_below number_limit period) (Err bad_line)

-- the start that words say: PERIOD UNIT TASK QUANTA, or the kind of their fault
abbrev pub start_of_words : Plant → List (List ℕ) → Result Start ℕ
start_of_words plant (period ∷ unit ∷ task ∷ quanta ∷ []) = start_of plant period unit task quanta
start_of_words plant words = Err bad_line

-- the start that a line says, or the kind of its fault
abbrev pub line_start : Plant → List ℕ → Result Start ℕ
line_start plant line = start_of_words plant (line_words line)

-- how many of the lines are no comments
abbrev pub start_count : List (List ℕ) → ℕ
start_count lines = count_by (λ line. not (is_comment line)) lines

-- the fault of the line at this place, if it has one: it is one line too many, or it says no start
unfoldable pub fault_at : Plant → List (List ℕ) → ℕ → Option PlanFault
fault_at plant lines place =
    let line = slice_index_or lines place []
    in if is_comment line then None
    else (if start_count (take place lines) == most_lines plant then Some (record { kind = too_many_lines; line = place + 1 })
    else option_map (λ kind. record { kind = kind; line = place + 1 }) (result_err (line_start plant line)))

-- the first fault of the lines, if there is one
unfoldable pub fault_of_lines : Plant → List (List ℕ) → Option PlanFault
fault_of_lines plant lines = slice_get (filter_map (fault_at plant lines) (range_with_len 0 (length lines))) 0

-- the start that a line says, if it is no comment and has no fault
abbrev pub said : Plant → List ℕ → Option Start
said plant line = if is_comment line then None else result_ok (line_start plant line)

-- the starts of the lines that are no comments, in their order, or the first fault
unfoldable pub plan_of_lines : Plant → List (List ℕ) → Result (List Start) PlanFault
plan_of_lines plant lines = fault_or (fault_of_lines plant lines) (filter_map (said plant) lines)

-- the plan that the text says, or its first fault: that it is too long comes before all others
unfoldable pub plan_of_text : Plant → List ℕ → Result (List Start) PlanFault
plan_of_text plant text =
    if nat_lt (most_bytes plant) (length text) then Err (record { kind = too_long; line = 0 }) else plan_of_lines plant (text_lines text)

-- the stop is the fault of the text, or want of memory
abbrev pub IsStop : Result (List Start) PlanFault → PlanStop → Type 0
IsStop expected (Fault fault) = expected ≡ Err fault
IsStop expected Memory = ⊤

-- the answer is what is expected, or want of memory
abbrev pub ReadsPlan : Result (List Start) PlanFault → Result (List Start) PlanStop → Type 0
ReadsPlan expected answer = MatchResult answer (λ plan. expected ≡ Ok plan) (IsStop expected)

-- the plan with one more start, or the fault of this line
abbrev pub with_start : ℕ → List Start → Result Start ℕ → Result (List Start) PlanFault
with_start number plan (Ok start) = Ok (plan ++ start ∷ [])
with_start number plan (Err kind) = Err (record { kind = kind; line = number })

-- the plan after one more line, which has this number, or the fault of the line
unfoldable pub after_line : Plant → ℕ → List Start → List ℕ → Result (List Start) PlanFault
after_line plant number plan line =
    if is_comment line then Ok plan
    else (if length plan == most_lines plant then Err (record { kind = too_many_lines; line = number }) else with_start number plan (line_start plant line))
