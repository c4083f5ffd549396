-- Each part of a split has fewer slots to split.
use Rattle.std.proofs.Common.{◌-◌}
use Rattle.log_parts.proofs.writing.+tree.Given as goal

abbrev pub decreases-write_tree : goal.decreases-write_tree
decreases-write_tree g l = l.logs.levels - l.slot
