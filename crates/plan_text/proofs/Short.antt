-- That a line is short, and so as many lines as a plan text may have are a text that is not too long.
use Rattle.std.proofs.Common.{◌≡◌, ℕ, suc, ◌+◌, ◌*◌, ◌<◌, ◌≤◌, Bool, true, false, cond, ◌&&◌, nat_le, List, [], ◌∷◌, ◌++◌, All, length, get_or, map, decimal, slice_index_or, arith, length-append}
use Rattle.std.specs.Prelude.{IsTrue}
use Rattle.std.specs.List.{flat_map, list_all}
use Rattle.std.specs.Char.{is_ascii_alphabetic}
use Rattle.std.proofs.lemmas.Bool.{leb-true, and_parts}
use Rattle.std.proofs.lemmas.Fmt.{length-decimal-le}
use Rattle.std.proofs.lemmas.List.{get_or-map}
use Rattle.stn_model.specs.declared.plant.Plant.{Plant}
use Rattle.stn_model.specs.declared.start.Start.{Start}
use Rattle.stn_model.specs.Plant.{no_unit, no_task, unit_names, task_names}
use Rattle.stn_model.specs.Sound.{Sound, is_name, is_name_byte}
use Rattle.plan_text.specs.PlanLines.{start_words, plan_line, plan_lines}
use Rattle.plan_text.specs.ReadsBack.{IsWritable, ReadsBack, SaysAgain}
use Rattle.plan_text.proofs.Again.{ReadsBack-lines}

-- a name has at most 32 bytes
short-name : (name : List ℕ) → is_name name ≡ true → length name ≤ 32
short-name [] is = omega arith
short-name (first ∷ others) is =
    leb-true (length (first ∷ others)) 32 (and_parts (is_ascii_alphabetic first && list_all is_name_byte (first ∷ others)) (nat_le (length (first ∷ others)) 32) is).1

-- so has the name at a place among names
short-at : {X : Type 0} (name_of : X → List ℕ) (xs : List X) (i : ℕ) (d : X) → i < length xs → All (λ x. IsTrue (is_name (name_of x))) xs → length (slice_index_or (map name_of xs) i []) ≤ 32
short-at name_of xs i d within named = rw (get_or-map name_of xs i d [] within) (short-name (name_of (get_or xs i d)) (named i d within))

-- the line of a start has at most 86 bytes: two numbers of nine digits, two names of 32 bytes, three blanks and a line feed
pub short-line : (plant : Plant) (start : Start) → Sound plant → IsWritable plant start → length (plan_line plant start) ≤ 86
unfolding plan_line start_words
short-line plant start sound writable =
    let unit = slice_index_or (unit_names plant) start.unit [] in
    let task = slice_index_or (task_names plant) start.task [] in
    let unit_short : length unit ≤ 32 = short-at (λ x. x.name) plant.units start.unit no_unit writable.named.unit (λ k d within. (sound.units k d within).name) in
    let task_short : length task ≤ 32 = short-at (λ x. x.name) plant.tasks start.task no_task writable.named.task (λ k d within. (sound.tasks k d within).name) in
    let period = length-decimal-le 9 start.period (omega arith) (omega (arith, writable.period)) (omega (arith, writable.period)) in
    let quanta = length-decimal-le 9 start.quanta (omega arith) (omega (arith, writable.quanta)) (omega (arith, writable.quanta)) in
    let a = length-append (decimal start.period ++ (32 ∷ (unit ++ (32 ∷ (task ++ (32 ∷ decimal start.quanta)))))) (10 ∷ []) in
    let b = length-append (decimal start.period) (32 ∷ (unit ++ (32 ∷ (task ++ (32 ∷ decimal start.quanta))))) in
    let e = length-append unit (32 ∷ (task ++ (32 ∷ decimal start.quanta))) in
    let f = length-append task (32 ∷ decimal start.quanta) in
    omega (arith, unit_short, task_short, period, quanta, a, b, e, f)

-- the lines of a plan have at most 86 bytes a start
pub short-lines : (plant : Plant) (plan : List Start) → Sound plant → All (IsWritable plant) plan → length (plan_lines plant plan) ≤ 86 * length plan
unfolding plan_lines
short-lines plant [] sound writable = omega arith
short-lines plant (start ∷ plan) sound writable =
    let first = short-line plant start sound (writable 0 start (omega arith)) in
    let others = short-lines plant plan sound (λ k d within. writable (suc k) d (omega arith)) in
    omega (arith, first, others, length-append (plan_line plant start) (flat_map (plan_line plant) plan))

-- as many lines as a plan text may have are, with short comments, no longer than it may be
pub lines_fit : (large : Bool) (starts lines comments : ℕ) → starts ≤ cond large 4096 2048 → lines ≤ 86 * starts → comments ≤ 300 → comments + lines ≤ cond large 524288 262144
lines_fit true starts lines comments few long short = omega (arith, few, long, short)
lines_fit false starts lines comments few long short = omega (arith, few, long, short)

-- the lines of a plan say the plan again
pub SaysAgain-lines : (plant : Plant) (plan : List Start) → SaysAgain plant plan
unfolding SaysAgain ReadsBack
SaysAgain-lines plant plan = λ sound few writable.
    let fit = lines_fit plant.large (length plan) (length (plan_lines plant plan)) 0 few (short-lines plant plan sound writable) (omega arith) in
    ReadsBack-lines plant plan sound few writable [] (λ k d within. absurd (omega arith)) (omega (arith, fit))
