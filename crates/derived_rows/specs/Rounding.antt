-- The function by which a derived row rounds: superadditive, never falling, and 0 at 0.
use Rattle.std.specs.Prelude.{ℕ, ◌-◌, ℤ, pos, ◌+ℤ◌, ◌-ℤ◌, ◌*ℤ◌}
use Rattle.std.specs.Int.{int_div_euclid, int_max, int_rem_euclid}

-- phi of a number: the divisor less the rest for each whole time that the number holds the divisor, quotients rounded down, and by how much what is left over is above the rest
abbrev pub phi : ℕ → ℕ → ℤ → ℤ
phi divisor rest number =
    (pos (divisor - rest) *ℤ int_div_euclid number (pos divisor)) +ℤ int_max (pos 0) (int_rem_euclid number (pos divisor) -ℤ pos rest)
