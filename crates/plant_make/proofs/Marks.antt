-- A printed document begins with no byte order mark.
use Rattle.std.proofs.Common.{◌≡◌, ℕ, Bool, true, false, ◌==◌, List, [], ◌∷◌, ◌++◌, codes, refl, arith, append_assoc}
use Rattle.std.proofs.lemmas.Bool.Decides.{nat_tests}
use Rattle.toml_parser.specs.Lexical.{first}
use Rattle.toml_parser.specs.Strings.{Key}
use Rattle.toml_writer.proofs.Strings.{is_key_start, key_start-path}
use Rattle.toml.specs.Data.{Members}
use Rattle.toml.specs.Tables.{Definition, Expression, key_value, std_table, array_table}
use Rattle.toml.specs.Parse.{skip_bom}
use Rattle.toml.specs.Text.{IsLineText, IsLinesText, IsDocumentText, expressions}

-- a line begins with a key or a bracket, and not with the first byte of a mark (239)
line_start : (pretty : Bool) (key : Key) (def : Definition) (this rest : List ℕ) → IsLineText pretty false key def this → (first (this ++ rest) == 239) ≡ false
line_start pretty key (key_value d) this rest text =
    let begins : is_key_start (first (this ++ rest)) ≡ true = rw text.1 (simp append_assoc (key_start-path key.0 key.1 (codes " = " ++ (text.0 ++ 10 ∷ rest)))) in
    grind (arith, nat_tests)
line_start pretty key std_table this rest text = rw text refl
line_start pretty key array_table this rest text = rw text refl

-- so do lines, if there are any
lines_start : (pretty : Bool) (es : List Expression) (text : List ℕ) → IsLinesText pretty false es text → (first text == 239) ≡ false
lines_start pretty [] text is = rw is refl
lines_start pretty (e ∷ es) text is = rw is.2 (line_start pretty e.0 e.1 is.0 is.1 is.3)

-- so nothing is skipped before a printed document
pub unmarked : (pretty : Bool) (ms : Members) (text : List ℕ) → IsDocumentText pretty ms text → skip_bom text ≡ text
unfolding skip_bom
unmarked pretty ms text is = rw (lines_start pretty (expressions ms) text is) refl
