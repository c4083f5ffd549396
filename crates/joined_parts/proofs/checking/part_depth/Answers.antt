-- There are more splits than levels.
use Rattle.std.proofs.Common.{arith}
use Rattle.valid_log.proofs.Depths.{depth-within}
use Rattle.joined_parts.proofs.checking.part_depth.Goals as goal

pub overflow_sub-result : goal.overflow_sub-result
overflow_sub-result c = omega (arith, c.depth_limit.ensures, (depth-within c.args.plant.now).0, c.requires)
