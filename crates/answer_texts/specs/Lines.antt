-- Lines that several answers have.
use Rattle.std.specs.Prelude.{ℕ, ℤ, List, ◌++◌, codes, decimal}
use Rattle.std.specs.Fmt.{signed_decimal}
use Rattle.log_lines.specs.declared.defect.Defect.{Defect}

-- a line that ends in an amount of money
abbrev pub amount_line : List ℕ → ℤ → List ℕ
amount_line what amount = what ++ (signed_decimal amount ++ codes "\n")

-- the line on the first of some numbered logs that is not valid: its number, and the line and the kind of its first defect
abbrev pub numbered_defect : ℕ → Defect → List ℕ
numbered_defect number defect =
    codes "no " ++ (decimal number ++ (codes " " ++ (decimal defect.line ++ (codes " " ++ (decimal defect.kind ++ codes "\n")))))
