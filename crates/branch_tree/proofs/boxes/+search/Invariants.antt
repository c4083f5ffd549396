-- Each part of a split has fewer points.
use Rattle.std.proofs.Common.{◌+◌, ◌*◌}
use Rattle.row_relax.specs.View.{points_in}
use Rattle.branch_tree.specs.laws.Grounds.{seen}
use Rattle.branch_tree.proofs.boxes.+search.Given as goal

abbrev pub decreases-search_box : goal.decreases-search_box
decreases-search_box g l = 5 * points_in (seen l.area.now) + 3

abbrev pub decreases-search_end : goal.decreases-search_end
decreases-search_end g l = 5 * points_in (seen l.area.now) + 2

abbrev pub decreases-search_split : goal.decreases-search_split
decreases-search_split g l = 5 * points_in (seen l.area.now) + 1

abbrev pub decreases-search_parts : goal.decreases-search_parts
decreases-search_parts g l = 5 * points_in (seen l.area.now)

abbrev pub decreases-search_part : goal.decreases-search_part
decreases-search_part g l = 5 * points_in (seen l.area.now) + 4
