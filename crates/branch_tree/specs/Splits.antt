-- Where a domain is split, and how often it can be.
use Rattle.std.specs.Prelude.{ℕ, ◌+◌, ◌-◌, ◌/◌, ◌<◌, nat_le, nat_lt, ◌&&◌, if◌then◌else◌}
use Rattle.row_kit.specs.declared.domain.Domain.{Domain}
use Rattle.row_kit.specs.Domain.{over, shared, up_to}

-- where a domain is split that is not a sum's: at 0 where it holds 0 and other values, else at the middle of its values
abbrev pub split_value : Domain → ℕ
split_value domain =
    if domain.zero && nat_le domain.lo domain.hi then 0 else domain.lo + (domain.hi - domain.lo) / 2

-- 1 where a number is above another
abbrev pub step_at : ℕ → ℕ → ℕ
step_at least n = if nat_lt least n then 1 else 0

-- how often so many values can be halved
abbrev pub halvings : ℕ → ℕ
halvings n = step_at 1 n + step_at 2 n + step_at 4 n + step_at 8 n + step_at 16 n + step_at 32 n + step_at 64 n + step_at 128 n

-- how often a domain can be split: once at 0, and as often as its other values can be halved
abbrev pub splits_of : Domain → ℕ
splits_of domain = (if domain.zero && nat_le domain.lo domain.hi then 1 else 0) + halvings (domain.hi + 1 - domain.lo)

-- both parts of a domain that is split at a value, that up to it and that above it, can be split less often than the domain
pub record PartsLess (domain : Domain) (value : ℕ) : Type 0 where
  pub left : splits_of (shared domain (up_to value)) < splits_of domain
  pub right : splits_of (shared domain (over value)) < splits_of domain
