-- What a derived row is made of, slot by slot, and its limit.
use Rattle.std.specs.Prelude.{ℕ, List, [], ◌∷◌, map, ℤ, pos, neg_ℤ, ◌+ℤ◌, ◌-ℤ◌, ◌*ℤ◌, int_lt, if◌then◌else◌}
use Rattle.std.specs.Int.{int_div_euclid}
use Rattle.row_kit.specs.declared.row.Row.{Row}
use Rattle.row_kit.specs.Row.{entry_at, row_at}
use Rattle.derived_rows.specs.declared.derived.Derived.{Derived}
use Rattle.derived_rows.specs.declared.derived.Factor.{Factor}
use Rattle.derived_rows.specs.Groups.{shift_at, shifts_sum, starts_sum}
use Rattle.derived_rows.specs.Rounding.{phi}

-- what factors make of a slot at a value: the sum of each times what its row counts of the slot there
abbrev pub mixed_at : List Row → List Factor → ℕ → ℕ → ℤ
mixed_at rows [] slot value = pos 0
mixed_at rows (factor ∷ factors) slot value = (factor.by *ℤ entry_at (row_at rows factor.row).entries slot value) +ℤ mixed_at rows factors slot value

-- what factors make of the limits: the sum of each times the limit of its row
abbrev pub mixed_limit : List Row → List Factor → ℤ
mixed_limit rows [] = pos 0
mixed_limit rows (factor ∷ factors) = (factor.by *ℤ (row_at rows factor.row).limit) +ℤ mixed_limit rows factors

-- the factor that the slack of a row has: what a function makes of a negative factor, and 0 for a positive one
abbrev pub slack_factor : (ℤ → ℤ) → Factor → Factor
slack_factor round factor = record { row = factor.row; by = if int_lt factor.by (pos 0) then round factor.by else pos 0 }

-- how a derived row rounds
abbrev pub round_of : Derived → ℤ → ℤ
round_of derived = phi derived.divisor derived.rest

-- T, what a slot counts at a value before it is scaled: the shifted sum rounded, less the shift alone rounded, less what the slacks count
abbrev pub term_at : List Row → Derived → ℕ → ℕ → ℤ
term_at rows derived slot value =
    let round = round_of derived in
    let shift = shift_at rows derived.groups slot in
    (round (mixed_at rows derived.factors slot value -ℤ shift) -ℤ round (neg_ℤ shift)) -ℤ mixed_at rows (map (slack_factor round) derived.factors) slot value

-- L, the limit before it is scaled: what is left of the limits without all shifts rounded, less each shift alone rounded, less what the slacks count
abbrev pub whole_limit : List Row → Derived → ℤ
whole_limit rows derived =
    let round = round_of derived in
    (round (mixed_limit rows derived.factors -ℤ shifts_sum derived.groups) -ℤ starts_sum round derived.groups) -ℤ mixed_limit rows (map (slack_factor round) derived.factors)

-- the limit of a derived row: L times up by down, rounded down
abbrev pub derived_limit : List Row → Derived → ℤ
derived_limit rows derived = int_div_euclid (pos derived.up *ℤ whole_limit rows derived) (pos derived.down)
