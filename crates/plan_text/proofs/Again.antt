-- That the lines of a plan say the plan again.
use Rattle.std.proofs.Common.{◌≡◌, ◌≢◌, ℕ, suc, ◌+◌, ◌<◌, ◌≤◌, ◌==◌, ◌^◌, Bool, true, false, ◌&&◌, ◌||◌, inl, inr, nat_le, eqb, if◌then◌else◌, Option, Some, List, [], ◌∷◌, ◌++◌, All, AllPairs, length, get_or, map, decimal, position, bytes_eq, slice_index_or, sym, ap, ◌∙◌, refl, arith, append_assoc, length-append}
use Rattle.std.specs.Prelude.{Result, Ok, Err, IsTrue}
use Rattle.std.specs.List.{slice_split, join_with_byte, list_all, position_or_len}
use Rattle.std.specs.Option.{option_map_or}
use Rattle.std.specs.Char.{is_ascii_alphabetic}
use Rattle.std.proofs.lemmas.List.{append-nil, get_or-map, get_or_append_left}
use Rattle.std.proofs.lemmas.List.Elements.{All-append, All-cons}
use Rattle.std.proofs.lemmas.List.Recursion.{and_at}
use Rattle.std.proofs.lemmas.List.Splits.{slice_split_at, slice_split_none, length-slice_split}
use Rattle.std.proofs.lemmas.List.Sums.{position_or_len_is}
use Rattle.std.proofs.lemmas.Bool.{false≢true}
use Rattle.std.specs.Bool.{Decides}
use Rattle.std.proofs.lemmas.Bool.Decides.{Decides-ltb, Decides-eqb, nat_tests, eqb_tells}
use Rattle.std.proofs.lemmas.Slice.Eq.{bytes_eq-Decides}
use Rattle.std.proofs.lemmas.Fmt.{decimal_nonempty}
use Rattle.text_words.specs.Numbers.{number_below}
use Rattle.text_words.proofs.Printed.{number_below-decimal, decimal-lacks}
use Rattle.stn_model.specs.declared.plant.Plant.{Plant}
use Rattle.stn_model.specs.declared.plant.StnUnit.{StnUnit}
use Rattle.stn_model.specs.declared.plant.Task.{Task}
use Rattle.stn_model.specs.declared.start.Start.{Start}
use Rattle.stn_model.specs.Plant.{no_unit, no_task, unit_names, task_names}
use Rattle.stn_model.specs.Sound.{Sound, is_name, is_name_byte}
use Rattle.stn_model.specs.declared.limits.TheConstants.{MAX_NAME}
use Rattle.plan_text.specs.declared.fault.PlanFault.{PlanFault}
use Rattle.plan_text.specs.Published.{bad_line, unknown_name, most_lines, number_limit}
use Rattle.plan_text.specs.PlanLines.{start_words, plan_line, plan_lines}
use Rattle.plan_text.specs.PlanText.{lines_of_parts, text_lines, line_words, is_comment, is_empty, unit_named, task_named, start_of, start_of_words, line_start, after_line, with_start}
use Rattle.plan_text.specs.ReadsBack.{IsRemark, comment_lines, IsWritable, ReadsBack}
use Rattle.plan_text.proofs.Reading.{lines_of_parts-cons, read_on, plan_of_lines-is, plan_of_text-short, text_lines-nil}

-- the bytes lack this byte
abbrev Lacks : ℕ → List ℕ → Type 0
Lacks byte bytes = All (λ b. eqb b byte ≡ false) bytes

-- ---- lines

-- a line before its line feed
text_lines-line : (line rest : List ℕ) → Lacks 10 line → text_lines (line ++ 10 ∷ rest) ≡ line ∷ text_lines rest
unfolding text_lines
text_lines-line line rest lacks =
    let p : ℕ → Bool = λ b. b == 10 in
    ap lines_of_parts (slice_split_at p line 10 rest lacks refl) ∙ lines_of_parts-cons line (slice_split p rest) (omega (arith, length-slice_split p rest))

-- a comment leaves the plan as it is
after_line-comment : (plant : Plant) (number : ℕ) (plan : List Start) (remark : List ℕ) → after_line plant number plan (35 ∷ remark) ≡ Ok plan
unfolding after_line
after_line-comment plant number plan remark = refl

-- what differs is told apart
Lacks-remark : (remark : List ℕ) → IsRemark remark → Lacks 10 (35 ∷ remark)
Lacks-remark remark is = All-cons (λ b. eqb b 10 ≡ false) 35 remark refl (λ k d within. let differs : get_or remark k d ≢ 10 = is k d within in grind (arith, nat_tests))

-- the first line of a text of lines
first_line : (line more text : List ℕ) → ((line ++ (10 ∷ [])) ++ more) ++ text ≡ line ++ (10 ∷ (more ++ text))
first_line line more text = append_assoc (line ++ (10 ∷ [])) more text ∙ append_assoc line (10 ∷ []) (more ++ text)

-- comments leave the plan as it is, and only count as lines
comments_read : (plant : Plant) (number : ℕ) (plan : List Start) (remarks : List (List ℕ)) (text : List ℕ) → All IsRemark remarks
    → (later : ℕ) × (read_on plant number plan (text_lines (comment_lines remarks ++ text)) ≡ read_on plant later plan (text_lines text))
comments_read plant number plan [] text are = (number, refl)
comments_read plant number plan (remark ∷ remarks) text are =
    let others = comments_read plant (number + 1) plan remarks text (λ k d within. are (suc k) d (omega arith)) in (
      others.0,
      ap (λ (x : List ℕ). read_on plant number plan (text_lines x)) (first_line (35 ∷ remark) (comment_lines remarks) text)
          ∙ ap (read_on plant number plan) (text_lines-line (35 ∷ remark) (comment_lines remarks ++ text) (Lacks-remark remark (are 0 remark (omega arith))))
          ∙ rw (after_line-comment plant (number + 1) plan remark) others.1,
    )

-- ---- words

-- four words with a blank between each two are the words of the line
line_words-four : (a b c d : List ℕ) → Lacks 32 a → Lacks 32 b → Lacks 32 c → Lacks 32 d → line_words (join_with_byte 32 (a ∷ b ∷ c ∷ d ∷ [])) ≡ a ∷ b ∷ c ∷ d ∷ []
line_words-four a b c d in_a in_b in_c in_d =
    let p : ℕ → Bool = λ w. w == 32 in
    slice_split_at p a 32 (b ++ (32 ∷ (c ++ (32 ∷ d)))) in_a refl
    ∙ ap (λ (x : List (List ℕ)). a ∷ x) (slice_split_at p b 32 (c ++ (32 ∷ d)) in_b refl
    ∙ ap (λ (x : List (List ℕ)). b ∷ x) (slice_split_at p c 32 d in_c refl
    ∙ ap (λ (x : List (List ℕ)). c ∷ x) (slice_split_none p d in_d)))

-- they have no other byte that none of them has
Lacks-four : (byte : ℕ) (a b c d : List ℕ) → eqb 32 byte ≡ false → Lacks byte a → Lacks byte b → Lacks byte c → Lacks byte d → Lacks byte (join_with_byte 32 (a ∷ b ∷ c ∷ d ∷ []))
Lacks-four byte a b c d other in_a in_b in_c in_d =
    let P : ℕ → Type 0 = λ x. eqb x byte ≡ false in
    All-append P a (32 ∷ (b ++ (32 ∷ (c ++ (32 ∷ d))))) in_a (All-cons P 32 (b ++ (32 ∷ (c ++ (32 ∷ d)))) other
    (All-append P b (32 ∷ (c ++ (32 ∷ d))) in_b (All-cons P 32 (c ++ (32 ∷ d)) other
    (All-append P c (32 ∷ d) in_c (All-cons P 32 d other in_d)))))

-- ---- names

-- both sides of a test that holds
both : (a b : Bool) → (a && b) ≡ true → (a ≡ true) × (b ≡ true)
both true b holds = (refl, holds)
both false b holds = absurd (false≢true holds)

-- a byte of a name is none that names have not
other_byte : (x byte : ℕ) → is_name_byte x ≡ true → is_name_byte byte ≡ false → eqb x byte ≡ false
other_byte x byte is other =
    elim (eqb_tells x byte) [ inl same ↦ absurd (false≢true (sym other ∙ ap is_name_byte (sym same.1) ∙ is)) | inr differs ↦ differs.0 ]

-- a name is not empty, and has none but the bytes of names
Lacks-name : (name : List ℕ) (byte : ℕ) → IsTrue (is_name name) → is_name_byte byte ≡ false → (0 < length name) × Lacks byte name
Lacks-name [] byte is other = absurd (false≢true is)
Lacks-name (first ∷ others) byte is other =
    let named : (is_ascii_alphabetic first && list_all is_name_byte (first ∷ others)) ≡ true = (both (is_ascii_alphabetic first && list_all is_name_byte (first ∷ others)) (nat_le (length (first ∷ others)) MAX_NAME) is).0 in
    let bytes : list_all is_name_byte (first ∷ others) ≡ true = (both (is_ascii_alphabetic first) (list_all is_name_byte (first ∷ others)) named).1 in
    (omega arith, λ k d within. other_byte (get_or (first ∷ others) k d) byte (and_at (list_all is_name_byte) is_name_byte refl (λ _ _. refl) (first ∷ others) k d within bytes) other)

-- a test of what does not hold
fails : {P : Type 0} (b : Bool) → Decides b P → ¬ P → b ≡ false
fails true decides never = absurd (never (decides.0 refl))
fails false decides never = refl

-- the place of a name among names that differ
named_is : {X : Type 0} (name_of : X → List ℕ) (xs : List X) (i : ℕ) (d : X) (word : List ℕ) → i < length xs → word ≡ name_of (get_or xs i d) → AllPairs (λ a b. name_of a ≢ name_of b) xs
    → position (λ x. bytes_eq (name_of x) word) xs ≡ Some i
named_is {X} name_of xs i d word within is differ =
    let test : X → Bool = λ x. bytes_eq (name_of x) word in
    let place : position_or_len test xs ≡ i = position_or_len_is test xs i d (omega arith)
    (λ k below. fails (test (get_or xs k d)) (bytes_eq-Decides (name_of (get_or xs k d)) word) (λ same. differ k i d below within (same ∙ is)))
    (λ there. (bytes_eq-Decides (name_of (get_or xs i d)) word).1 (sym is)) in
    rw place (rw ((Decides-ltb i (length xs)).1 within) refl)

-- the name at a place is a word, and is found at this place
pub record IsNameAt (names : List (List ℕ)) (found : Option ℕ) (i : ℕ) : Type 0 where
  pub some : 0 < length (slice_index_or names i [])
  pub no_blank : Lacks 32 (slice_index_or names i [])
  pub no_feed : Lacks 10 (slice_index_or names i [])
  pub place : found ≡ Some i

name_at : {X : Type 0} (name_of : X → List ℕ) (xs : List X) (i : ℕ) (d : X) → i < length xs → All (λ x. IsTrue (is_name (name_of x))) xs → AllPairs (λ a b. name_of a ≢ name_of b) xs
    → IsNameAt (map name_of xs) (position (λ x. bytes_eq (name_of x) (slice_index_or (map name_of xs) i [])) xs) i
name_at name_of xs i d within are differ =
    let same = get_or-map name_of xs i d [] within in
    let is = rw (← same) at (are i d within) in
    record {
      some = (Lacks-name (slice_index_or (map name_of xs) i []) 32 is refl).0;
      no_blank = (Lacks-name (slice_index_or (map name_of xs) i []) 32 is refl).1;
      no_feed = (Lacks-name (slice_index_or (map name_of xs) i []) 10 is refl).1;
      place = named_is name_of xs i d (slice_index_or (map name_of xs) i []) within same differ;
    }

-- ---- starts

-- the start with these numbers
abbrev made : ℕ → ℕ → ℕ → ℕ → Result Start ℕ
made period unit task quanta = Ok (record { period = period; unit = unit; task = task; quanta = quanta })

-- a choice of which each part holds
says : (empty_unit empty_task : Bool) (p q u t : Option ℕ) (period quanta unit task : ℕ) → empty_unit ≡ false → empty_task ≡ false → p ≡ Some period → q ≡ Some quanta → u ≡ Some unit → t ≡ Some task
    → (if empty_unit || empty_task then Err bad_line
    else option_map_or (λ p2. option_map_or (λ q2. option_map_or (λ u2. option_map_or (λ t2. made p2 u2 t2 q2) t (Err unknown_name)) u (Err unknown_name)) q (Err bad_line)) p (Err bad_line))
    ≡ made period unit task quanta
says empty_unit empty_task p q u t period quanta unit task is_1 is_2 is_3 is_4 is_5 is_6 = rw (is_1, is_2, is_3, is_4, is_5, is_6) refl

-- what is not empty is told
not_empty : (bytes : List ℕ) → 0 < length bytes → is_empty bytes ≡ false
not_empty bytes some = grind (arith, nat_tests)

-- four words that say a start
start_of-says : (plant : Plant) (period unit_at task_at quanta : ℕ) (unit task : List ℕ) → 0 < length unit → 0 < length task → period < number_limit → quanta < number_limit
    → unit_named plant unit ≡ Some unit_at → task_named plant task ≡ Some task_at
    → start_of plant (decimal period) unit task (decimal quanta) ≡ Ok (record { period = period; unit = unit_at; task = task_at; quanta = quanta })
unfolding start_of
start_of-says plant period unit_at task_at quanta unit task some_unit some_task small_period small_quanta is_unit is_task =
    says (is_empty unit) (is_empty task) (number_below number_limit (decimal period)) (number_below number_limit (decimal quanta)) (unit_named plant unit) (task_named plant task) period quanta unit_at task_at
    (not_empty unit some_unit) (not_empty task some_task)
    (number_below-decimal number_limit period (omega arith) small_period) (number_below-decimal number_limit quanta (omega arith) small_quanta) is_unit is_task

-- what a line without its line feed says of the plant
pub record IsLineOf (plant : Plant) (start : Start) (line : List ℕ) : Type 0 where
  pub no_feed : Lacks 10 line
  pub no_comment : is_comment line ≡ false
  pub says : line_start plant line ≡ Ok start

-- the words of a start are a line that says the start
line_of : (plant : Plant) (start : Start) → Sound plant → IsWritable plant start → IsLineOf plant start (join_with_byte 32 (start_words plant start))
unfolding start_words
line_of plant start sound writable =
    let unit = name_at (λ (u : StnUnit). u.name) plant.units start.unit no_unit writable.named.unit (λ k d within. (sound.units k d within).name) sound.names.units in
    let task = name_at (λ (t : Task). t.name) plant.tasks start.task no_task writable.named.task (λ k d within. (sound.tasks k d within).name) sound.names.tasks in
    let period : start.period < 10 ^ 64 = omega (arith, writable.period) in
    let quanta : start.quanta < 10 ^ 64 = omega (arith, writable.quanta) in
    let some = decimal_nonempty start.period (omega (arith, writable.period)) in
    let u : List ℕ = slice_index_or (unit_names plant) start.unit [] in
    let t : List ℕ = slice_index_or (task_names plant) start.task [] in
    record {
      no_feed = Lacks-four 10 (decimal start.period) u t (decimal start.quanta) refl (decimal-lacks start.period 10 period (λ r. omega arith)) unit.no_feed task.no_feed (decimal-lacks start.quanta 10 quanta (λ r. omega arith));
      no_comment =
          ap (λ (x : ℕ). eqb x 35) (get_or_append_left (decimal start.period) (32 ∷ (u ++ (32 ∷ (t ++ (32 ∷ decimal start.quanta))))) 0 0 some)
          ∙ decimal-lacks start.period 35 period (λ r. omega arith) 0 0 some;
      says =
          ap (start_of_words plant) (line_words-four (decimal start.period) u t (decimal start.quanta) (decimal-lacks start.period 32 period (λ r. omega arith)) unit.no_blank task.no_blank (decimal-lacks start.quanta 32 quanta (λ r. omega arith)))
          ∙ start_of-says plant start.period start.unit start.task start.quanta u t unit.some task.some writable.period writable.quanta unit.place task.place;
    }

-- a choice that puts a start at the end
puts : (number : ℕ) (plan : List Start) (comment full : Bool) (answer : Result Start ℕ) (start : Start) (fault : Result (List Start) PlanFault) → comment ≡ false → full ≡ false → answer ≡ Ok start
    → (if comment then Ok plan else (if full then fault else with_start number plan answer)) ≡ Ok (plan ++ start ∷ [])
puts number plan comment full answer start fault is_1 is_2 is_3 = rw (is_1, is_2, is_3) refl

-- a start on a line of its own is put at the end of the plan
after_line-start : (plant : Plant) (number : ℕ) (plan : List Start) (start : Start) (line : List ℕ) → IsLineOf plant start line → length plan < most_lines plant → after_line plant number plan line ≡ Ok (plan ++ start ∷ [])
unfolding after_line
after_line-start plant number plan start line is room =
    puts number plan (is_comment line) (length plan == most_lines plant) (line_start plant line) start _ is.no_comment (fails (length plan == most_lines plant) (Decides-eqb (length plan) (most_lines plant)) (λ same. omega arith)) is.says

-- the lines of starts give the starts
starts_read : (plant : Plant) (number : ℕ) (done starts : List Start) → Sound plant → All (IsWritable plant) starts → length done + length starts ≤ most_lines plant
    → read_on plant number done (text_lines (plan_lines plant starts)) ≡ Ok (done ++ starts)
unfolding plan_lines plan_line
starts_read plant number done [] sound writable room = rw text_lines-nil (ap Ok (sym (append-nil done)))
starts_read plant number done (start ∷ starts) sound writable room =
    let line : List ℕ = join_with_byte 32 (start_words plant start) in
    let is = line_of plant start sound (writable 0 start (omega arith)) in
    let more : List ℕ = plan_lines plant starts in
    let others = starts_read plant (number + 1) (done ++ start ∷ []) starts sound (λ k d within. writable (suc k) d (omega arith)) (omega (arith, length-append done (start ∷ []))) in
    ap (λ (x : List ℕ). read_on plant number done (text_lines x)) (append_assoc line (10 ∷ []) more)
    ∙ ap (read_on plant number done) (text_lines-line line more is.no_feed)
    ∙ rw (after_line-start plant (number + 1) done start line is (omega arith)) (others ∙ ap Ok (append_assoc done (start ∷ []) starts))

-- the lines of a plan say the plan again
pub ReadsBack-lines : (plant : Plant) (plan : List Start) → ReadsBack plant plan
unfolding ReadsBack
ReadsBack-lines plant plan = λ sound few writable remarks are short.
    let comments = comments_read plant 0 [] remarks (plan_lines plant plan) are in
    plan_of_text-short plant (comment_lines remarks ++ plan_lines plant plan) short
    ∙ plan_of_lines-is plant (text_lines (comment_lines remarks ++ plan_lines plant plan))
    ∙ comments.1
    ∙ starts_read plant comments.0 [] plan sound writable (omega arith)
