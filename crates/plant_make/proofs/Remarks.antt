-- A comment line before a plant file leaves what it means.
use Rattle.std.proofs.Common.{◌≡◌, ℕ, zero, suc, ◌≤◌, Bool, true, false, ◌&&◌, ◌||◌, ◌==◌, List, [], ◌∷◌, ◌++◌, length, drop, Option, Some, None, refl, ap, subst, ◌∙◌, inl, inr, arith, length-append}
use Rattle.std.specs.List.{list_all}
use Rattle.std.specs.Option.{option_and_then, option_map}
use Rattle.std.specs.Prelude.{⊤, ◌<◌}
use Rattle.std.specs.Str.{IsAscii, IsUtf8, is_utf8}
use Rattle.std.proofs.lemmas.Bool.{cases_Bool, and_parts}
use Rattle.std.proofs.lemmas.Bool.Decides.{nat_tests}
use Rattle.std.proofs.lemmas.Option.{none-some, same_Some}
use Rattle.std.proofs.lemmas.Str.{IsUtf8-append, IsUtf8-from_ascii, IsUtf8-from_is_utf8}
use Rattle.toml_parser.specs.Lexical.{first, is_non_eol, skip_from, skip_blank, skip_turn}
use Rattle.toml.specs.Data.{Members}
use Rattle.toml.specs.Tables.{Document, close, define, no_nodes}
use Rattle.toml.specs.Parse.{line, lines, skip_bom, parse_document}
use Rattle.stn_model.specs.declared.plant.Plant.{Plant}
use Rattle.stn_model.specs.Sound.{Sound}
use Rattle.plant_text.specs.Document.{document_of}
use Rattle.plant_make.specs.Entries.{table_of}
use Rattle.plant_make.specs.Printed.{plant_entries}
use Rattle.plant_make.specs.Meaning.{Puts}
use Rattle.plant_make.proofs.Texts.{text_puts}

-- the line that a remark makes: a '#' (35), the remark and a line feed (10)
abbrev pub remark_line : List ℕ → List ℕ
remark_line remark = 35 ∷ (remark ++ 10 ∷ [])

-- each byte is that of a character that is seen, or a blank
abbrev pub AreSeen : List ℕ → Type 0
AreSeen [] = ⊤
AreSeen (b ∷ bs) = (32 ≤ b) × (b < 127) × AreSeen bs

-- such bytes may stand in a comment
seen-plain : (bytes : List ℕ) → AreSeen bytes → list_all is_non_eol bytes ≡ true
seen-plain [] seen = refl
seen-plain (b ∷ bs) seen =
    let here : is_non_eol b ≡ true = grind (arith, nat_tests) in
    rw (here, seen-plain bs seen.2) refl

-- and they are ASCII with a line feed behind them
seen-ascii : (bytes : List ℕ) → AreSeen bytes → IsAscii (bytes ++ 10 ∷ [])
seen-ascii [] seen zero = omega arith
seen-ascii [] seen (suc i) = omega arith
seen-ascii (b ∷ bs) seen zero = omega (arith, seen.1)
seen-ascii (b ∷ bs) seen (suc i) = seen-ascii bs seen.2 i

-- ---- what is skipped

-- the rest of a comment
inside_skipped : (remark rest : List ℕ) → list_all is_non_eol remark ≡ true → skip_from true true ((remark ++ 10 ∷ []) ++ rest) ≡ skip_blank rest
unfolding skip_from
inside_skipped [] rest plain = refl
inside_skipped (c ∷ cs) rest plain =
    let (here, more) = and_parts (is_non_eol c) (list_all is_non_eol cs) plain in
    let goes_on : skip_turn true true c (first ((cs ++ 10 ∷ []) ++ rest)) ≡ Some true = grind (arith, nat_tests) in
    rw goes_on (inside_skipped cs rest more)

-- a comment line
line_skipped : (remark rest : List ℕ) → list_all is_non_eol remark ≡ true → skip_blank (remark_line remark ++ rest) ≡ skip_blank rest
unfolding skip_from
line_skipped remark rest plain = inside_skipped remark rest plain

-- ---- reading on

-- where one thing leads to a value, what leads there from the same things does too
then_also : {A B : Type 0} (o : Option A) (f g : A → Option B) (b : B) → ((a : A) → f a ≡ Some b → g a ≡ Some b) → option_and_then f o ≡ Some b → option_and_then g o ≡ Some b
then_also None f g b step is = is
then_also (Some a) f g b step is = step a is

-- a longer text that is the same behind its blanks is read as the same document, with more lines left for it
more_lines : (n m : ℕ) (doc end : Document) (text longer : List ℕ) → n ≤ m → skip_blank longer ≡ skip_blank text → lines n doc text ≡ Some end → lines m doc longer ≡ Some end
unfolding lines
more_lines zero m doc end text longer few same is = absurd (none-some end is)
more_lines (suc n) zero doc end text longer few same is = absurd (omega arith)
more_lines (suc n) (suc m) doc end text longer few same is =
    elim (cases_Bool (length (skip_blank text) == 0)) [
      | inl over ↦ rw (same, over) (rw over at is)
      | inr more ↦
          rw (same, more) (then_also (line (skip_blank text)) _ _ end
          (λ e. then_also (define doc e.0) (λ next. lines n next e.1) (λ next. lines m next e.1) end (λ next. more_lines n m next end e.1 e.1 (omega arith) refl))
          (rw more at is))
    ]

-- ---- documents

-- the document that lines end in
of_lines : (o : Option Document) (ms : Members) → option_map (λ (doc : Document). close doc.0) o ≡ Some ms → (doc : Document) × ((o ≡ Some doc) × (close doc.0 ≡ ms))
of_lines None ms is = absurd (none-some ms is)
of_lines (Some doc) ms is = (doc, (refl, same_Some (close doc.0) ms is))

-- what has a document is UTF-8, and parses as it
of_document : (text : List ℕ) (ms : Members) → document_of text ≡ Some ms → IsUtf8 text × (parse_document text ≡ Some ms)
of_document text ms is =
    elim (cases_Bool (is_utf8 text)) [
      | inl valid ↦ (IsUtf8-from_is_utf8 text valid, rw valid at is)
      | inr other ↦ absurd (none-some ms (rw other at is))
    ]

-- a text behind a comment line parses as it does alone
remark_parsed : (remark text : List ℕ) (ms : Members) → list_all is_non_eol remark ≡ true → skip_bom text ≡ text → parse_document text ≡ Some ms → parse_document (remark_line remark ++ text) ≡ Some ms
unfolding parse_document skip_bom
remark_parsed remark text ms plain unmarked is =
    let whole = remark_line remark ++ text in
    let alone = subst (λ (t : List ℕ). option_map (λ (doc : Document). close doc.0) (lines (suc (length text)) (no_nodes, []) t) ≡ Some ms) unmarked is in
    let (doc, (read, closed)) = of_lines (lines (suc (length text)) (no_nodes, []) text) ms alone in
    let behind = more_lines (suc (length text)) (suc (length whole)) (no_nodes, []) doc text whole (omega (arith, length-append (remark_line remark) text)) (line_skipped remark text plain) read in
    rw behind (ap (λ (x : Members). Some x) closed)

-- ---- plants

-- where a plant is put behind a comment line, the whole text is its plant file
pub puts_behind : (plant : Plant) (remark old new : List ℕ) → Sound plant → AreSeen remark → old ≡ remark_line remark → Puts plant old new → Puts plant [] new
unfolding skip_bom
puts_behind plant remark old new sound seen is puts =
    let utf8 : IsUtf8 (remark_line remark) = IsUtf8-from_ascii (remark_line remark) (seen-ascii (35 ∷ remark) (omega arith, omega arith, seen)) in
    let ms = table_of (plant_entries plant) in
    let (valid, parsed) = of_document puts.text ms puts.document in
    let whole : new ≡ remark_line remark ++ puts.text = puts.appended ∙ ap (λ (x : List ℕ). x ++ puts.text) is in
    rw whole (text_puts plant (remark_line remark ++ puts.text) [] (remark_line remark ++ puts.text) sound
    (IsUtf8-append (remark_line remark) puts.text utf8 valid) (remark_parsed remark puts.text ms (seen-plain remark seen) puts.unmarked parsed) refl refl)
