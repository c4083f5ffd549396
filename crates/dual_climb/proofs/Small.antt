-- Totals and lines of factors in their range are small.
use Rattle.std.proofs.Common.{◌≡◌, ◌∙◌, ℕ, ◌<◌, ◌≤◌, ◌^◌, List, length, sym, subst, arith, unsigned_abs}
use Rattle.std.specs.List.{All}
use Rattle.row_kit.specs.declared.domain.Domain.{Domain}
use Rattle.row_kit.specs.declared.program.Program.{Program}
use Rattle.row_kit.specs.Domain.{IsNormal}
use Rattle.dual_bound.specs.declared.cert.Mult.{Mult}
use Rattle.dual_bound.specs.declared.line.Line.{Line}
use Rattle.dual_bound.specs.Line.{line_at, slot_line, IsWithin}
use Rattle.dual_bound.specs.Total.{gain, total_of, IsUsable}
use Rattle.dual_bound.proofs.LineSums.{all_within_le}
use Rattle.dual_bound.proofs.Small as bound
use Rattle.dual_climb.specs.Factors.{cert_of}
use Rattle.dual_climb.specs.laws.Sums.{IsFull}

-- a factor for each of few rows makes a usable certificate
usable_full : (p : Program) (n : ℕ) (ms : List Mult) → n ≤ 1048576 → IsFull (length p.rows) ms → length p.rows ≤ 50000 → IsUsable (length p.rows) (cert_of n ms)
usable_full p n ms low full few = record { scale = low; few = omega (arith, full.all, few); fit = full.fit }

-- so the lines of what slots gain are small
pub lines_small : (p : Program) (n : ℕ) (ms : List Mult) (lines : List Line) → n ≤ 1048576 → IsFull (length p.rows) ms → length p.rows ≤ 50000 → length lines ≡ length p.root → ((slot v : ℕ) → slot < length p.root → line_at (slot_line lines slot) v ≡ gain p (cert_of n ms) slot v) → All (IsWithin (2 ^ 93)) lines
lines_small p n ms lines low full few slots exact =
    all_within_le (2 ^ 89) (2 ^ 93) lines (omega arith)
    (bound.lines_small p (cert_of n ms) lines (usable_full p n ms low full few) (λ slot v lt. exact slot v (omega (arith, lt, slots))))

-- and so is the total
pub total_small : (p : Program) (ds : List Domain) (n : ℕ) (ms : List Mult) → n ≤ 1048576 → IsFull (length p.rows) ms → length p.rows ≤ 50000 → All IsNormal ds → length ds ≡ length p.root → unsigned_abs (total_of p ds (cert_of n ms)) < 2 ^ 117
total_small p ds n ms low full few normal same =
    omega (arith, bound.total_small p ds (cert_of n ms) (usable_full p n ms low full few) normal same)
