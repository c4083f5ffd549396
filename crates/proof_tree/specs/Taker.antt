-- What a taker of items counts.
use Rattle.std.specs.Prelude.{◌≢◌, ℕ, ◌-◌, ◌^◌, ◌<◌}

-- the count is greater afterwards, or stands at its last value
abbrev pub Rose : ℕ → ℕ → Type 0
Rose before after = after ≢ 2 ^ 64 - 1 → before < after
