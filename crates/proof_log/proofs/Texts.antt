-- The first defect of a text, line by line.
use Rattle.std.proofs.Common.{◌≡◌, ◌≢◌, ℕ, ◌+◌, ◌<◌, ◌≤◌, ◌==◌, Bool, true, false, ◌&&◌, List, [], ◌∷◌, ◌++◌, length, Option, Some, None, if◌then◌else◌, refl, ap, ◌∙◌, arith, nat_lt}
use Rattle.std.specs.Prelude.{not}
use Rattle.std.specs.List.{All, slice_split, before_first, after_first}
use Rattle.std.proofs.Common.{⊎_elim}
use Rattle.std.proofs.lemmas.Bool.{cases_lt}
use Rattle.std.proofs.lemmas.List.Sums.{fails_before_first, prefix_len-le-length}
use Rattle.std.specs.Option.{option_map_or}
use Rattle.std.proofs.lemmas.Bool.Decides.{nat_tests}
use Rattle.std.proofs.lemmas.Grind.{common_steps}
use Rattle.std.proofs.lemmas.List.Splits.{slice_split_at, slice_split_none, length-slice_split, slice_split_first}
use Rattle.log_lines.specs.declared.grammar.Limits.{Limits}
use Rattle.log_lines.specs.declared.grammar.Place.{Place}
use Rattle.log_lines.specs.declared.grammar.Place.TheVariants.{Done}
use Rattle.log_lines.specs.declared.line.Line.{Line}
use Rattle.log_lines.specs.Grammar.{Standing, next, line_defect}
use Rattle.log_lines.specs.Reader.{HasNoFeed, line_length}
use Rattle.log_lines.specs.Said.{line_said}
use Rattle.log_lines.specs.TextDefect.{is_done, part_defect, after_bytes, text_defect}
use Rattle.proof_log.specs.Text.{rest_defect}

-- the test whether nothing comes next
pub is_done-false : (place : Place) → place ≢ Done → is_done place ≡ false
is_done-false Done other = absurd (other refl)
is_done-false _ other = refl

pub is_done-true : (place : Place) → place ≡ Done → is_done place ≡ true
is_done-true place is = ap is_done is

no_feeds : (part : List ℕ) → HasNoFeed part → All (λ b. (b == 10) ≡ false) part
no_feeds part none = λ k d below. grind (arith, nat_tests, none k d below)

-- the parts of a line and what is after it
pub whole_parts : (rest part after : List ℕ) → HasNoFeed part → rest ≡ part ++ 10 ∷ after → slice_split (λ byte. byte == 10) rest ≡ part ∷ slice_split (λ byte. byte == 10) after
whole_parts rest part after none is = ap (slice_split (λ byte. byte == 10)) is ∙ slice_split_at (λ byte. byte == 10) part 10 after (no_feeds part none) refl

pub last_parts : (part : List ℕ) → HasNoFeed part → slice_split (λ byte. byte == 10) part ≡ part ∷ []
last_parts part none = slice_split_none (λ byte. byte == 10) part (no_feeds part none)

some_parts : (after : List ℕ) → (length (slice_split (λ byte. byte == 10) after) == 0) ≡ false
some_parts after = let long = length-slice_split (λ byte. byte == 10) after in grind (arith, nat_tests)

module _ (limits : Limits) (standing : Standing) (number : ℕ) where
  pub done_whole : (rest part after : List ℕ) → HasNoFeed part → rest ≡ part ++ 10 ∷ after → is_done standing.place ≡ true → rest_defect limits standing number rest ≡ Some (number, 3)
  unfolding text_defect
  done_whole rest part after none is done =
      let parts = whole_parts rest part after none is in
      let more = some_parts after in
      rw (parts, done) (both (length part == 0) (length (slice_split (λ byte. byte == 10) after) == 0) more)
    where
      both : (a b : Bool) → b ≡ false → ◌≡◌ {A = Option (ℕ × ℕ)} (if a && b then None else Some (number, 3)) (Some (number, 3))
      both true true e = cc
      both true false e = refl
      both false b e = refl

  pub nothing_done : (rest : List ℕ) → rest ≡ [] → is_done standing.place ≡ true → rest_defect limits standing number rest ≡ None
  unfolding text_defect
  nothing_done rest is done = rw (is, done) refl

  pub nothing_cut : (rest : List ℕ) → rest ≡ [] → is_done standing.place ≡ false → rest_defect limits standing number rest ≡ Some (number, 2)
  unfolding text_defect
  nothing_cut rest is going = rw (is, going) refl

  pub cut_end : (rest part : List ℕ) → HasNoFeed part → length part ≤ 200 → rest ≡ part → is_done standing.place ≡ false → rest_defect limits standing number rest ≡ Some (number, 2)
  unfolding text_defect
  cut_end rest part none few is going =
      let parts : slice_split (λ byte. byte == 10) rest ≡ part ∷ [] = ap (slice_split (λ byte. byte == 10)) is ∙ last_parts part none in
      let short : nat_lt 200 (length part) ≡ false = grind (arith, nat_tests) in
      rw (parts, going, short) refl

  pub cut_done : (rest part : List ℕ) → HasNoFeed part → 0 < length part → rest ≡ part → is_done standing.place ≡ true → rest_defect limits standing number rest ≡ Some (number, 3)
  unfolding text_defect
  cut_done rest part none some is done =
      let parts : slice_split (λ byte. byte == 10) rest ≡ part ∷ [] = ap (slice_split (λ byte. byte == 10)) is ∙ last_parts part none in
      let filled : (length part == 0) ≡ false = grind (arith, nat_tests) in
      rw (parts, done, filled) refl

  -- a whole line where the log goes on
  whole_goes : (rest part after : List ℕ) → HasNoFeed part → length part ≤ 200 → rest ≡ part ++ 10 ∷ after → is_done standing.place ≡ false
      → rest_defect limits standing number rest ≡ option_map_or (λ kind. Some (number, kind)) (part_defect limits standing part) (option_map_or (λ later. rest_defect limits later (number + 1) after) (after_bytes standing part) None)
  unfolding text_defect
  whole_goes rest part after none few is going =
      let parts = whole_parts rest part after none is in
      let more = some_parts after in
      let short : nat_lt 200 (length part) ≡ false = grind (arith, nat_tests) in
      rw (parts, going, short, more) refl

  pub no_line : (rest part after : List ℕ) → HasNoFeed part → length part ≤ 200 → rest ≡ part ++ 10 ∷ after → is_done standing.place ≡ false → line_said part ≡ None → rest_defect limits standing number rest ≡ Some (number, 1)
  no_line rest part after none few is going said = whole_goes rest part after none few is going ∙ rw said refl

  pub bad_line : (rest part after : List ℕ) (line : Line) (kind : ℕ) → HasNoFeed part → length part ≤ 200 → rest ≡ part ++ 10 ∷ after → is_done standing.place ≡ false → line_said part ≡ Some line → line_defect limits standing line ≡ Some kind → rest_defect limits standing number rest ≡ Some (number, kind)
  bad_line rest part after line kind none few is going said bad = whole_goes rest part after none few is going ∙ rw (said, bad) refl

  pub good_line : (rest part after : List ℕ) (line : Line) (later : Standing) → HasNoFeed part → length part ≤ 200 → rest ≡ part ++ 10 ∷ after → is_done standing.place ≡ false → line_said part ≡ Some line → line_defect limits standing line ≡ None → next standing line ≡ Some later → rest_defect limits standing number rest ≡ rest_defect limits later (number + 1) after
  good_line rest part after line later none few is going said good to = whole_goes rest part after none few is going ∙ rw (said, good, to) refl

  -- a line of more than 200 bytes
  first_long : (rest : List ℕ) → 200 < line_length rest → (first : List ℕ) × (more : List (List ℕ)) × (slice_split (λ byte. byte == 10) rest ≡ first ∷ more) × (200 < length first)
  first_long rest long =
      ⊎_elim
      (λ inner. (before_first (λ byte. byte == 10) rest, slice_split (λ byte. byte == 10) (after_first (λ byte. byte == 10) rest), slice_split_first (λ byte. byte == 10) rest 0 inner, (let len : length (before_first (λ byte. byte == 10) rest) ≡ line_length rest = grind (arith, common_steps) in omega arith)))
      (λ all. (rest, [], slice_split_none (λ byte. byte == 10) rest (λ k d below. fails_before_first (λ byte. byte == 10) rest k d (omega arith)), (let most : line_length rest ≤ length rest = prefix_len-le-length (λ byte. not (byte == 10)) rest in omega arith)))
      (cases_lt (line_length rest) (length rest))

  pub long_end : (rest : List ℕ) → 200 < line_length rest → is_done standing.place ≡ false → rest_defect limits standing number rest ≡ Some (number, 1)
  unfolding text_defect
  long_end rest long going =
      let parts = first_long rest long in
      let test : nat_lt 200 (length parts.0) ≡ true = at (length parts.0) parts.3 in
      rw (parts.2, going, test) refl
    where
      at : (n : ℕ) → 200 < n → nat_lt 200 n ≡ true
      at n big = grind (arith, nat_tests)

  pub long_done : (rest : List ℕ) → 200 < line_length rest → is_done standing.place ≡ true → rest_defect limits standing number rest ≡ Some (number, 3)
  unfolding text_defect
  long_done rest long done =
      let parts = first_long rest long in
      let test : (length parts.0 == 0) ≡ false = at (length parts.0) parts.3 in
      rw (parts.2, done, test) refl
    where
      at : (n : ℕ) → 200 < n → (n == 0) ≡ false
      at n big = grind (arith, nat_tests)
