-- The lines so far stand behind the first ones.
use Rattle.std.proofs.Common.{◌≡◌, ◌++◌, take}
use Rattle.log_parts.proofs.fronts.joined_lines.Given as goal

abbrev pub invariant-loop-line : goal.invariant-loop-line
invariant-loop-line l = l.all ≡ l.fn.lines ++ take l.line-index l.more
