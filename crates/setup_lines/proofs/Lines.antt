-- Lines of setups: their bytes, and their texts one after another.
use Rattle.std.proofs.Common.{◌≡◌, ◌≢◌, ℕ, ◌+◌, ◌<◌, ◌≤◌, ◌^◌, List, [], ◌∷◌, ◌++◌, length, length-append, drop, get_or, take, decimal, Option, Some, None, sym, ap, ◌∙◌, refl, arith, append_assoc}
use Rattle.std.specs.Prelude.{codes}
use Rattle.std.proofs.lemmas.Fmt.{length-decimal-le_wide}
use Rattle.std.proofs.lemmas.Grind.{flat_map-append}
use Rattle.std.proofs.lemmas.List.{append-nil, take_more}
use Rattle.std.proofs.lemmas.List.Elements.{All-append}
use Rattle.log_lines.specs.Reader.{HasNoFeed}
use Rattle.text_words.specs.Numbers.{IsNumberBelow}
use Rattle.text_words.proofs.Digits.{decimal_injective_wide}
use Rattle.sum_lines.specs.Line.{IsShort}
use Rattle.sum_lines.proofs.Feeds.{no_feed_number, tested}
use Rattle.setup_lines.specs.Line.{IsUnitOf, setup_line, setups_text}

-- ---- one line

-- a line has no line feed, and at most 200 bytes
pub line_fits : (unit : ℕ) → IsShort unit → HasNoFeed (setup_line unit) × (length (setup_line unit) ≤ 200)
unfolding setup_line
line_fits unit short = (
  All-append (λ b. b ≢ 10) (codes "setup ") (decimal unit) (tested (codes "setup ") refl) (no_feed_number unit (omega arith)),
  omega (arith, length-append (codes "setup ") (decimal unit), length-decimal-le_wide 30 unit (omega arith) (omega arith) (omega arith)),
)

-- units of one line are the same
pub line_unique : (a b : ℕ) → IsShort a → IsShort b → setup_line a ≡ setup_line b → a ≡ b
unfolding setup_line
line_unique a b short short2 same = decimal_injective_wide a b (omega arith) (omega arith) (ap (drop 6) same)

-- what a line's bytes are, by what follows the name
pub read_digits : (bytes digits : List ℕ) (answer : Option ℕ) → bytes ≡ codes "setup " ++ digits → IsNumberBelow (10 ^ 30) digits answer → IsUnitOf bytes answer
unfolding setup_line
read_digits bytes digits None is none = λ unit short same. none unit short (ap (drop 6) (sym is ∙ sym same))
read_digits bytes digits (Some unit) is read = (read.0, ap (λ w. codes "setup " ++ w) (sym read.1) ∙ sym is)

-- bytes without the name are no line
pub read_none : (bytes : List ℕ) → ((rest : List ℕ) → bytes ≢ codes "setup " ++ rest) → IsUnitOf bytes None
unfolding setup_line
read_none bytes none = λ unit short same. none (decimal unit) (sym same)

-- ---- texts

-- the text of no setups
pub text-nil : setups_text [] ≡ []
unfolding setups_text
text-nil = refl

-- the text of a setup and others
pub text-cons : (unit : ℕ) (units : List ℕ) → setups_text (unit ∷ units) ≡ setup_line unit ++ 10 ∷ setups_text units
unfolding setups_text
text-cons unit units = append_assoc (setup_line unit) (10 ∷ []) (setups_text units)

-- the text of setups and one more
pub text-more : (units : List ℕ) (unit : ℕ) → setups_text (units ++ unit ∷ []) ≡ setups_text units ++ (setup_line unit ++ 10 ∷ [])
unfolding setups_text
text-more units unit =
    flat_map-append (λ u. setup_line u ++ 10 ∷ []) units (unit ∷ []) ∙ ap (λ w. setups_text units ++ w) (append-nil (setup_line unit ++ 10 ∷ []))

-- ---- texts that are put

-- nothing that is put
pub put_nothing : (old : List ℕ) → old ≡ old ++ setups_text []
put_nothing old = sym (ap (λ w. old ++ w) text-nil ∙ append-nil old)

-- the name, the digits and the line feed of a line, put one after another
pub put_parts : (old s1 s2 s3 : List ℕ) (unit : ℕ) → s1 ≡ old ++ codes "setup " → s2 ≡ s1 ++ decimal unit → s3 ≡ s2 ++ 10 ∷ [] → s3 ≡ old ++ (setup_line unit ++ 10 ∷ [])
unfolding setup_line
put_parts old s1 s2 s3 unit is1 is2 is3 =
    is3 ∙ ap (λ w. w ++ 10 ∷ []) (is2 ∙ ap (λ w. w ++ decimal unit) is1 ∙ append_assoc old (codes "setup ") (decimal unit)) ∙ append_assoc old (codes "setup " ++ decimal unit) (10 ∷ [])

-- the line of one unit more that is put
pub put_next : (old s s2 units : List ℕ) (i : ℕ) → s ≡ old ++ setups_text (take i units) → s2 ≡ s ++ (setup_line (get_or units i 0) ++ 10 ∷ []) → i < length units → s2 ≡ old ++ setups_text (take (i + 1) units)
put_next old s s2 units i is is2 within =
    let unit = get_or units i 0 in
    let line = setup_line unit ++ 10 ∷ [] in
    is2 ∙ ap (λ w. w ++ line) is ∙ append_assoc old (setups_text (take i units)) line
    ∙ ap (λ w. old ++ w) (sym (ap setups_text (take_more units i 0 within) ∙ text-more (take i units) unit))
