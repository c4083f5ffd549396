-- What a floor leaves of domains: the values with which, by the total of a certificate, a point may be worth more.
use Rattle.std.specs.Prelude.{ℕ, zero, suc, ◌+◌, ◌-◌, Bool, ◌&&◌, if◌then◌else◌, List, [], ◌∷◌, ℤ, pos, ◌+ℤ◌, ◌-ℤ◌, ◌*ℤ◌, int_le}
use Rattle.row_kit.specs.declared.domain.Domain.{Domain}
use Rattle.row_kit.specs.declared.program.Program.{Program}
use Rattle.row_kit.specs.Domain.{domain_at, normal, values_of}
use Rattle.dual_bound.specs.declared.cert.Cert.{Cert}
use Rattle.dual_bound.specs.Total.{gain, greatest, has_total, total_of}

-- the least of so many values, from one on, that passes a test; the value after them where none does
abbrev pub first_passing : (ℕ → Bool) → ℕ → ℕ → ℕ
first_passing test zero lo = lo
first_passing test (suc n) lo = if test lo then lo else first_passing test n (lo + 1)

-- the greatest of so many values, from one on, that passes a test; the value before them where none does
abbrev pub last_passing : (ℕ → Bool) → ℕ → ℕ → ℕ
last_passing test zero lo = lo - 1
last_passing test (suc n) lo = if test (lo + n) then lo + n else last_passing test n lo

-- what a test leaves of a domain: 0 where it passes, and the values from the first to the last of 1 or more that pass
unfoldable pub passing : (ℕ → Bool) → Domain → Domain
passing test domain =
    let n = domain.hi + 1 - domain.lo in
    normal (domain.zero && test 0) (first_passing test n domain.lo) (last_passing test n domain.lo)

-- what tests of slots and values leave of domains, from a slot on
abbrev pub each_passing : (ℕ → ℕ → Bool) → ℕ → List Domain → List Domain
each_passing test slot [] = []
each_passing test slot (domain ∷ domains) = passing (test slot) domain ∷ each_passing test (slot + 1) domains

-- the total with a value at a slot: less the slot's greatest gain, plus its gain at the value
abbrev pub total_with : Program → List Domain → Cert → ℕ → ℕ → ℤ
total_with program domains cert slot value =
    (total_of program domains cert -ℤ greatest (gain program cert slot) (values_of (domain_at domains slot))) +ℤ gain program cert slot value

-- the total with a value at a slot is at least scale times the whole number after a floor
abbrev pub may_exceed : Program → List Domain → Cert → ℤ → ℕ → ℕ → Bool
may_exceed program domains cert floor slot value =
    int_le (pos cert.scale *ℤ (floor +ℤ pos 1)) (total_with program domains cert slot value)

-- what a floor leaves of domains, in all slots at once: the values with which the total may exceed it; all, where the certificate has no total
unfoldable pub trimmed : Program → List Domain → Cert → ℤ → List Domain
trimmed program domains cert floor =
    if has_total program domains cert then each_passing (may_exceed program domains cert floor) 0 domains else domains
