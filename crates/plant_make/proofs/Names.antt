-- Names and colours are ASCII texts, and labels are UTF-8.
use Rattle.std.proofs.Common.{◌≡◌, ℕ, zero, suc, ◌<◌, Bool, true, not, ◌&&◌, nat_le, eqb, List, [], ◌∷◌, length, get_or, IsTrue, inl, inr, arith}
use Rattle.std.specs.List.{list_all, list_any}
use Rattle.std.specs.Str.{IsUtf8, is_utf8, chars}
use Rattle.std.specs.Char.{is_ascii_alphabetic, is_ascii_hexdigit}
use Rattle.std.proofs.lemmas.Bool.{and_parts, eqb-true}
use Rattle.std.proofs.lemmas.Bool.Decides.{nat_tests}
use Rattle.std.proofs.lemmas.Str.{IsUtf8-from_ascii, IsUtf8-from_is_utf8}
use Rattle.stn_model.specs.Sound.{is_name, is_name_byte}
use Rattle.stn_model.specs.Labels.{is_label, is_colour, is_unwritable, SoundLabel, SoundColour}

byte_small : (byte : ℕ) → is_name_byte byte ≡ true → byte < 128
byte_small byte is = grind (arith, nat_tests)

digit_small : (byte : ℕ) → is_ascii_hexdigit byte ≡ true → byte < 128
digit_small byte is = grind (arith, nat_tests)

bytes_small : (test : ℕ → Bool) → ((byte : ℕ) → test byte ≡ true → byte < 128) → (bytes : List ℕ) → list_all test bytes ≡ true → (i : ℕ) → get_or bytes i 0 < 128
bytes_small test small [] are i = omega arith
bytes_small test small (byte ∷ bytes) are zero = small byte (and_parts _ _ are).0
bytes_small test small (byte ∷ bytes) are (suc i) = bytes_small test small bytes (and_parts _ _ are).1 i

nothing_utf8 : IsUtf8 []
nothing_utf8 = IsUtf8-from_ascii [] (λ i. omega arith)

-- a name is UTF-8
pub name_utf8 : (bytes : List ℕ) → IsTrue (is_name bytes) → IsUtf8 bytes
name_utf8 [] is = absurd cc
name_utf8 (first ∷ others) is =
    let named = and_parts (is_ascii_alphabetic first && list_all is_name_byte (first ∷ others)) (nat_le (length (first ∷ others)) 32) is in
    let bytes = and_parts (is_ascii_alphabetic first) (list_all is_name_byte (first ∷ others)) named.0 in
    IsUtf8-from_ascii (first ∷ others) (bytes_small is_name_byte byte_small (first ∷ others) bytes.1)

-- so is a label
pub label_utf8 : (label : List ℕ) → SoundLabel label → IsUtf8 label
unfolding is_label
label_utf8 label (inl none) = rw none nothing_utf8
label_utf8 label (inr good) =
    let written = and_parts (nat_le 1 (length label) && nat_le (length label) 64 && is_utf8 label) (not (list_any is_unwritable (chars label))) good in
    IsUtf8-from_is_utf8 label (and_parts (nat_le 1 (length label) && nat_le (length label) 64) (is_utf8 label) written.0).1

-- and a colour
colour_small : (colour : List ℕ) → IsTrue (is_colour colour) → (i : ℕ) → get_or colour i 0 < 128
unfolding is_colour
colour_small [] good i = omega arith
colour_small (byte ∷ digits) good zero =
    let begins = and_parts (eqb byte 35 && eqb (length digits) 6) (list_all is_ascii_hexdigit digits) good in
    let mark : byte ≡ 35 = eqb-true byte 35 (and_parts (eqb byte 35) (eqb (length digits) 6) begins.0).0 in
    omega (arith, mark)
colour_small (byte ∷ digits) good (suc i) =
    bytes_small is_ascii_hexdigit digit_small digits (and_parts (eqb byte 35 && eqb (length digits) 6) (list_all is_ascii_hexdigit digits) good).1 i

pub colour_utf8 : (colour : List ℕ) → SoundColour colour → IsUtf8 colour
colour_utf8 colour (inl none) = rw none nothing_utf8
colour_utf8 colour (inr good) = IsUtf8-from_ascii colour (colour_small colour good)
