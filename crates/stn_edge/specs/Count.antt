-- Counts of faults and of calls, which stand still at the last value of a `u64`.
use Rattle.std.specs.Prelude.{◌≢◌, ℕ, ◌+◌, ◌-◌, ◌^◌, ◌<◌, min}

-- the last value of a count
abbrev pub last_count : ℕ
last_count = 2 ^ 64 - 1

-- the count is greater afterwards, or it stands at its last value
abbrev pub Rose : ℕ → ℕ → Type 0
Rose before after = after ≢ last_count → before < after

-- the count after one more, which stands still at the last value
abbrev pub next_count : ℕ → ℕ
next_count count = min (count + 1) last_count
