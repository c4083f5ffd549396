-- Stands in specs/ since clauses of private functions cite it; no public clause does.
-- What the descent and the steps hold.
use Rattle.std.specs.Prelude.{◌≡◌, ℕ, ◌<◌, ◌≤◌, ◌^◌, List, length, ℤ, pos, slice_index_or, unsigned_abs}
use Rattle.std.specs.List.{All}
use Rattle.row_kit.specs.declared.domain.Domain.{Domain}
use Rattle.row_kit.specs.declared.program.Program.{Program}
use Rattle.dual_bound.specs.declared.line.Line.{Line}
use Rattle.dual_bound.specs.declared.cert.Mult.{Mult}
use Rattle.dual_bound.specs.Line.{line_at, slot_line}
use Rattle.row_kit.specs.Domain.{IsNormal, IsOpen, domain_at, values_of}
use Rattle.dual_bound.specs.Total.{gain, greatest, total_of}
use Rattle.dual_climb.specs.declared.moving.Climbing.{Climbing}
use Rattle.dual_climb.specs.Factors.{cert_of}
use Rattle.dual_climb.specs.laws.Sums.{IsFull}

-- a factor for each row, and the lines that slots gain under them
pub record AreLines (program : Program) (scale : ℕ) (mults : List Mult) (lines : List Line) : Type 0 where
  pub full : IsFull (length program.rows) mults
  pub slots : length lines ≡ length program.root
  pub gains : (slot value : ℕ) → slot < length program.root → line_at (slot_line lines slot) value ≡ gain program (cert_of scale mults) slot value

-- the most that each slot gains over its domain
pub record AreMost (domains : List Domain) (lines : List Line) (most : List ℤ) : Type 0 where
  pub slots : length most ≡ length domains
  pub small : All (λ x. unsigned_abs x ≤ 2 ^ 103) most
  pub each : (slot : ℕ) → slot < length domains → slice_index_or most slot (pos 0) ≡ greatest (line_at (slot_line lines slot)) (values_of (domain_at domains slot))

-- a factor for each row, the lines that slots gain under them, the most of each line, and the total
pub record IsHeld (program : Program) (domains : List Domain) (scale : ℕ) (mults : List Mult) (lines : List Line) (most : List ℤ) (total : ℤ) : Type 0 where
  pub gained : AreLines program scale mults lines
  pub greatest_gains : AreMost domains lines most
  pub is_total : total ≡ total_of program domains (cert_of scale mults)

-- domains of a program's slots, each with values, no more rows than may have a factor, and a scale in its range
pub record CanMove (program : Program) (domains : List Domain) (scale : ℕ) : Type 0 where
  pub slots : length domains ≡ length program.root
  pub normal : All IsNormal domains
  pub each_open : All IsOpen domains
  pub few_rows : length program.rows ≤ 50000
  pub most : scale ≤ 2 ^ 20

-- factors of all rows with what slots gain under them, a number for each row, a value for each slot, and the best factors so far
pub record IsClimbing (program : Program) (domains : List Domain) (scale : ℕ) (climbing : Climbing) : Type 0 where
  pub gained : AreLines program scale climbing.factors.items climbing.gains.lines.items
  pub greatest_gains : AreMost domains climbing.gains.lines.items climbing.gains.most.items
  pub slacks : length climbing.slacks.items ≡ length program.rows
  pub places : length climbing.point.items ≡ length program.root
  pub best : IsFull (length program.rows) climbing.best.items
