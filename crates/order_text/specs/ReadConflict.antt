-- What the text of a conflict says: which deliveries it names, or its first defect.
use Rattle.std.specs.Prelude.{◌≡◌, ℕ, zero, suc, ◌+◌, ◌==◌, ◌||◌, ◌&&◌, ◌-◌, nat_le, nat_lt, Bool, true, false, if◌then◌else◌, Option, Some, None, is_some, Result, Ok, Err, MatchResult, ⊤, List, [], ◌∷◌, ◌++◌, length, map, position, slice_set, slice_index_or, bytes_eq, codes}
use Rattle.std.specs.List.{before_first, after_first}
use Rattle.std.specs.Option.{option_map_or}
use Rattle.std.specs.Prelude.{Vec}
use Rattle.std.specs.Global.{Global}
use Rattle.text_words.specs.Numbers.{number_below}
use Rattle.log_lines.specs.declared.defect.Defect.{Defect}
use Rattle.stn_model.specs.declared.plant.Plant.{Plant}
use Rattle.stn_model.specs.declared.plant.Delivery.{Delivery}
use Rattle.plan_tables.specs.Deliveries.{no_delivery}
use Rattle.order_text.specs.declared.reading.OrderStop.{OrderStop}
use Rattle.order_text.specs.declared.reading.OrderStop.TheVariants.{Bad, Memory}
use Rattle.order_text.specs.ConflictText.{order_words}

-- numbers in the text of a conflict have at most nine digits
abbrev pub number_limit : ℕ
number_limit = 1000000000

-- the text of a conflict has at most so many bytes
abbrev pub most_bytes : ℕ
most_bytes = 65536

-- the text has a line feed (10)
unfoldable pub has_feed : List ℕ → Bool
has_feed text = is_some (position (λ b. b == 10) text)

-- the first line of a text, without its line feed
abbrev pub line_of : List ℕ → List ℕ
line_of text = before_first (λ b. b == 10) text

-- what stands behind the first line of a text
abbrev pub rest_of : List ℕ → List ℕ
rest_of text = after_first (λ b. b == 10) text

-- the first word of a line, before its first blank (32)
abbrev pub word_of : List ℕ → List ℕ
word_of line = before_first (λ b. b == 32) line

-- what stands behind the first word of a line
abbrev pub words_after : List ℕ → List ℕ
words_after line = after_first (λ b. b == 32) line

-- how many deliveries a first line `# conflict N` says
unfoldable pub count_of : List ℕ → Option ℕ
count_of line =
    if bytes_eq (word_of line) (codes "#") && bytes_eq (word_of (words_after line)) (codes "conflict") then number_below number_limit (words_after (words_after line)) else None

-- the number of a line that begins `delivery K`
unfoldable pub number_of : List ℕ → Option ℕ
number_of line = if bytes_eq (word_of line) (codes "delivery") then number_below number_limit (word_of (words_after line)) else None

-- a line is made of these words, with or without ` open` behind them
unfoldable pub has_words : List ℕ → List ℕ → Bool
has_words line words = bytes_eq line words || bytes_eq line (words ++ codes " open")

-- the line is that of the delivery of this number, which is there
unfoldable pub is_order : Plant → ℕ → List ℕ → Bool
is_order plant number line =
    nat_le 1 number && nat_le number (length plant.deliveries) && has_words line (order_words plant number (slice_index_or plant.deliveries (number - 1) no_delivery))

-- the number of a line, where it is the delivery's and above the number of the line before; else its kind
unfoldable pub in_order : Plant → ℕ → List ℕ → ℕ → Result ℕ ℕ
in_order plant above line number = if is_order plant number line then (if nat_le number above then Err 3 else Ok number) else Err 2

-- The number of the delivery that a line names, where the line before named the number `above`, or the kind of its defect: 1 where it
-- does not begin `delivery K`, 2 where it is not the line of the plant's delivery K, and 3 where K is not above the number before.
unfoldable pub named_by : Plant → ℕ → List ℕ → Result ℕ ℕ
named_by plant above line = option_map_or (in_order plant above line) (number_of line) (Err 1)

-- reading goes on with the number that the line at this place names, or ends with its defect
abbrev pub go_on : ℕ → Result ℕ ℕ → (ℕ → Result (List Bool) Defect) → Result (List Bool) Defect
go_on line (Ok number) next = next number
go_on line (Err kind) next = Err (record { line = line; kind = kind })

-- a defect of kind 1 at this line
abbrev pub bad_line : ℕ → Result (List Bool) Defect
bad_line line = Err (record { line = line; kind = 1 })

-- The deliveries that so many further lines name, from the line of this number on, besides those that are kept so far, or the first
-- defect: a line that is missing, or lacks its line feed, and one too many are of kind 1.
unfoldable pub orders_of : Plant → (further line above : ℕ) → List Bool → List ℕ → Result (List Bool) Defect
orders_of plant zero line above kept rest = if length rest == 0 then Ok kept else bad_line line
orders_of plant (suc further) line above kept rest =
    if has_feed rest then go_on line (named_by plant above (line_of rest)) (λ number. orders_of plant further (line + 1) number (slice_set kept (number - 1) true) (rest_of rest))
    else bad_line line

-- no delivery is named
abbrev pub none_kept : Plant → List Bool
none_kept plant = map (λ _. false) plant.deliveries

-- The deliveries that the text of a conflict names, or its first defect. One that is too long is of kind 1 at line 0.
unfoldable pub conflict_read : Plant → List ℕ → Result (List Bool) Defect
conflict_read plant text =
    if nat_lt most_bytes (length text) then bad_line 0
    else (if has_feed text then option_map_or (λ count. orders_of plant count 2 0 (none_kept plant) (rest_of text)) (count_of (line_of text)) (bad_line 1) else bad_line 1)

-- the stop is this defect, or want of memory
abbrev pub IsStop : Result (List Bool) Defect → OrderStop → Type 0
IsStop expected (Bad defect) = expected ≡ Err defect
IsStop expected Memory = ⊤

-- the deliveries are those that are expected, or else the stop is
abbrev pub ReadsOrders : Result (List Bool) Defect → Result (Vec Bool Global) OrderStop → Type 0
ReadsOrders expected answer = MatchResult answer (λ kept. expected ≡ Ok kept.items) (IsStop expected)

-- the number is that which is expected, or else the stop is the defect of this line, or want of memory
abbrev pub IsLineStop : ℕ → Result ℕ ℕ → OrderStop → Type 0
IsLineStop line expected (Bad defect) = (expected ≡ Err defect.kind) × (defect.line ≡ line)
IsLineStop line expected Memory = ⊤
