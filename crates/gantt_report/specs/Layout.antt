-- How words and numbers are laid out in columns.
use Rattle.std.specs.Prelude.{ℕ, ◌+◌, ◌-◌, ℤ, length, List, [], ◌∷◌, ◌++◌, decimal, replicate, slice_index_or, flat_map}
use Rattle.std.specs.List.{range_with_len}
use Rattle.std.specs.Fmt.{signed_decimal}

-- a word left in so many places, with blanks (32) after it
unfoldable pub left_in : ℕ → List ℕ → List ℕ
left_in places word = word ++ replicate (places - length word) 32

-- a word right in so many places, with this byte before it
unfoldable pub right_in : ℕ → ℕ → List ℕ → List ℕ
right_in byte places word = replicate (places - length word) byte ++ word

-- a number of at least two digits, with a leading zero (48)
unfoldable pub two_digits : ℕ → List ℕ
two_digits number = right_in 48 2 (decimal number)

-- the line of a named item: what it is, its number counted from 1, and its name
unfoldable pub name_line : List ℕ → List (List ℕ) → ℕ → List ℕ
name_line what names item = what ++ (two_digits (item + 1) ++ (32 ∷ (slice_index_or names item [] ++ 10 ∷ [])))

-- the lines of all items of one kind, in order
abbrev pub name_lines : List ℕ → List (List ℕ) → List ℕ
name_lines what names = flat_map (name_line what names) (range_with_len 0 (length names))

-- the figures of a line, each right in 16 places
abbrev pub columns : List ℤ → List ℕ
columns figures = flat_map (λ figure. right_in 32 16 (signed_decimal figure)) figures

-- the line of a time or period: its number right in 4 places, then its figures
unfoldable pub figures_line : (ℕ → List ℤ) → ℕ → List ℕ
figures_line figures time = right_in 32 4 (decimal time) ++ (columns (figures time) ++ 10 ∷ [])

-- the lines of the first times or periods
abbrev pub figures_lines : (ℕ → List ℤ) → ℕ → List ℕ
figures_lines figures count = flat_map (figures_line figures) (range_with_len 0 count)
