-- The text of lines that lead to the end of a log has no defect.
use Rattle.std.proofs.Common.{◌≡◌, ◌≢◌, ℕ, ◌+◌, ◌<◌, Bool, true, false, eqb, ltb, List, [], ◌∷◌, length, Option, None, Some, option_and_then, refl, ap, ◌∙◌, arith, append_assoc}
use Rattle.std.specs.List.{All, slice_split}
use Rattle.std.proofs.lemmas.Bool.{false_from_ne_true, ltb-true, ne_eqb}
use Rattle.std.proofs.lemmas.List.Elements.{All-head, All-tail, All-weaker}
use Rattle.std.proofs.lemmas.List.Splits.{slice_split_at, length-slice_split}
use Rattle.log_lines.specs.declared.grammar.Limits.{Limits}
use Rattle.log_lines.specs.declared.grammar.Place.{Place}
use Rattle.log_lines.specs.declared.grammar.Place.TheVariants.{Header as AtHeader, Node as AtNode, Inside, Ending, Floored, Values, Mults, Claim as AtClaim, End as AtEnd, Done}
use Rattle.log_lines.specs.declared.line.Line.{Line}
use Rattle.log_lines.specs.Line.{IsLine, line_text}
use Rattle.log_lines.specs.Grammar.{Standing, next, line_defect, new_standing}
use Rattle.log_lines.specs.Said.{line_said}
use Rattle.log_lines.specs.TextDefect.{is_done, text_defect}
use Rattle.log_lines.proofs.LineBytes.{HasNoFeed-line_text, length-line_text}
use Rattle.log_lines.proofs.SaidLines.{line_said-line}
use Rattle.proof_log.specs.Log.{lines_text, log_text, log_lines}
use Rattle.proof_log.specs.Accepted.{unless, leads, LogsHaveNoDefect}
use Rattle.proof_log.proofs.GrammarWalk.{logs_lead}

-- a line that leads on has no defect
pub leads_on : (defect : Option ℕ) (after : Option Standing) (go : Standing → Option Standing) (end : Standing) → option_and_then go (unless defect after) ≡ Some end → (later : Standing) × (defect ≡ None) × (after ≡ Some later) × (go later ≡ Some end)
leads_on None None go end is = cc
leads_on None (Some later) go end is = (later, refl, refl, is)
leads_on (Some kind) after go end is = cc

-- no line leads on after the last one
not_done : (version : ℕ) (place : Place) (sides : List Bool) (line : Line) (later : Standing) → next (record { version = version; place = place; sides = sides }) line ≡ Some later → is_done place ≡ false
not_done version AtHeader sides line later is = refl
not_done version AtNode sides line later is = refl
not_done version Inside sides line later is = refl
not_done version Ending sides line later is = refl
not_done version Floored sides line later is = refl
not_done version (Values left above of_claim) sides line later is = refl
not_done version (Mults left above beside) sides line later is = refl
not_done version AtClaim sides line later is = refl
not_done version AtEnd sides line later is = refl
not_done version Done sides line later is = cc

-- bytes that are a line without a defect lead on
clean_step : (limits : Limits) (standing later : Standing) (number : ℕ) (part : List ℕ) (parts : List (List ℕ)) (line : Line) → is_done standing.place ≡ false → ltb 200 (length part) ≡ false → eqb (length parts) 0 ≡ false → line_said part ≡ Some line → line_defect limits standing line ≡ None → next standing line ≡ Some later → text_defect limits standing number (part ∷ parts) ≡ text_defect limits later (number + 1) parts
unfolding text_defect
clean_step limits standing later number part parts line going short more said clean there = rw (going, short, more, said, clean, there) refl

-- the parts of the text of lines
parts_of : (line : Line) (lines : List Line) → IsLine line → slice_split (λ byte. eqb byte 10) (lines_text (line ∷ lines)) ≡ line_text line ∷ slice_split (λ byte. eqb byte 10) (lines_text lines)
unfolding lines_text
parts_of line lines is =
    ap (slice_split (λ byte. eqb byte 10)) (append_assoc (line_text line) (10 ∷ []) (lines_text lines))
    ∙ slice_split_at (λ byte. eqb byte 10) (line_text line) 10 (lines_text lines) (All-weaker (λ b. b ≢ 10) (λ b. eqb b 10 ≡ false) (λ b other. ne_eqb b 10 other) (line_text line) (HasNoFeed-line_text line is)) refl

pub no_defect : (limits : Limits) (standing end : Standing) (number : ℕ) (lines : List Line) → All IsLine lines → is_done end.place ≡ true → leads limits standing lines ≡ Some end → text_defect limits standing number (slice_split (λ byte. eqb byte 10) (lines_text lines)) ≡ None
unfolding lines_text text_defect
no_defect limits standing end number [] of_lines over leading =
    let same : standing ≡ end = cc in
    let done : is_done standing.place ≡ true = ap (λ (s : Standing). is_done s.place) same ∙ over in
    rw done refl
no_defect limits standing end number (line ∷ lines) of_lines over leading =
    let is = All-head IsLine line lines of_lines in
    let parts = slice_split (λ byte. eqb byte 10) (lines_text lines) in
    let on = leads_on (line_defect limits standing line) (next standing line) (λ later. leads limits later lines) end leading in
    let going = not_done standing.version standing.place standing.sides line on.0 on.2 in
    let short : ltb 200 (length (line_text line)) ≡ false = false_from_ne_true (ltb 200 (length (line_text line))) (λ long. let high : 200 < length (line_text line) = ltb-true 200 (length (line_text line)) long in let low = length-line_text line is in omega arith) in
    let some : length parts ≢ 0 = λ none. omega (arith, length-slice_split (λ byte. eqb byte 10) (lines_text lines)) in
    let more : eqb (length parts) 0 ≡ false = ne_eqb (length parts) 0 some in
    ap (text_defect limits standing number) (parts_of line lines is)
    ∙ clean_step limits standing on.0 number (line_text line) parts line going short more (line_said-line line is) on.1 on.2
    ∙ no_defect limits on.0 end (number + 1) lines (All-tail IsLine line lines of_lines) over on.3

-- the text of a log has no defect
pub logs_clean : LogsHaveNoDefect
unfolding log_text
logs_clean limits version tree claim fit low claim_fits of_lines =
    no_defect limits new_standing (record { version = version; place = Done; sides = [] }) 1 (log_lines version _ claim) of_lines refl (logs_lead limits version tree claim fit low claim_fits)
