-- What private functions say of trims: values that a line lets pass, and the marks after a trim.
use Rattle.std.specs.Prelude.{◌≡◌, ℕ, ◌<◌, ◌≤◌, Bool, true, List, length, take, ℤ, ◌+ℤ◌, int_le}
use Rattle.row_kit.specs.declared.domain.Domain.{Domain}
use Rattle.row_kit.specs.declared.program.Program.{Program}
use Rattle.row_kit.specs.Area.{present}
use Rattle.row_kit.specs.Domain.{Holds, domain_at, values_of}
use Rattle.row_kit.specs.Points.{points_of}
use Rattle.dual_bound.specs.declared.cert.Cert.{Cert}
use Rattle.dual_bound.specs.declared.line.Line.{Line}
use Rattle.dual_bound.specs.Line.{line_at, slot_line}
use Rattle.dual_bound.specs.Total.{greatest}
use Rattle.dual_bound.specs.Trimmed.{each_passing, may_exceed}

-- a line counts at least so much at a value
abbrev pub reaches : Line → ℤ → ℕ → Bool
reaches line need value = int_le need (line_at line value)

-- the line of a slot counts at a value at least so much more than its greatest over the slot's domain
abbrev pub must_reach : List Line → ℤ → List Domain → ℕ → ℕ → Bool
must_reach lines spare domains slot value =
    reaches (slot_line lines slot) (spare +ℤ greatest (line_at (slot_line lines slot)) (values_of (domain_at domains slot))) value

-- the marks after a trim of those before: the values that are left, that they may exceed the floor, that earlier marks stay, and no more points
pub record IsTrimmed (program : Program) (cert : Cert) (floor : ℤ) (old new : List (List Domain)) : Type 0 where
  pub left : present new ≡ each_passing (may_exceed program (present old) cert floor) 0 (present old)
  pub passes : (slot v : ℕ) → slot < length (present old) → Holds (domain_at (present new) slot) v → may_exceed program (present old) cert floor slot v ≡ true
  pub keeps : take (length old) new ≡ old
  pub fewer : points_of (present new) ≤ points_of (present old)
