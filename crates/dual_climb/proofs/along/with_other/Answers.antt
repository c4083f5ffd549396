-- Taking away is adding to the opposite.
use Rattle.std.proofs.Common.{◌+◌, ◌^◌, pos, ◌*ℤ◌, arith}
use Rattle.row_kit.specs.Row.{counted}
use Rattle.dual_bound.specs.Line.{line_at}
use Rattle.dual_bound.proofs.LineSums.{within_le}
use Rattle.dual_climb.proofs.Moved.{turned_back}
use Rattle.dual_climb.proofs.along.with_other.Goals as goal

pub returns-clause-value : goal.returns-clause-value
returns-clause-value c = λ v.
    turned_back (line_at c.opposite-2.result v) (line_at c.with_entry-2.result v) (line_at c.opposite.result v) (line_at c.with_entry.result v) (line_at c.args.line.now v) (pos c.args.own *ℤ counted c.args.entry.now v) (pos c.args.factor *ℤ counted c.args.entry.now v)
    (c.opposite-2.ensures.value v) (c.with_entry-2.ensures.value v) (c.opposite.ensures.value v) (c.with_entry.ensures.value v)

pub returns-clause-within : goal.returns-clause-within
returns-clause-within c = λ most h.
    within_le (most + 2 ^ 71 + 2 ^ 71) (most + 2 ^ 72) c.opposite-2.result
    (c.opposite-2.ensures.within (most + 2 ^ 71 + 2 ^ 71) (c.with_entry-2.ensures.within (most + 2 ^ 71) (c.opposite.ensures.within (most + 2 ^ 71) (c.with_entry.ensures.within most h)))) (omega arith)
