use Rattle.std.proofs.Common.{◌≡◌, ◌++◌}
use Rattle.std.specs.List.{flat_map, range_with_len}
use Rattle.plan_picture.specs.Picture.{legend_entry}
use Rattle.plan_picture.proofs.legend.push_legend.Given as goal

abbrev pub invariant-loop-task : goal.invariant-loop-task
invariant-loop-task l = l.text.items ≡ l.initial.text.items ++ flat_map (legend_entry l.plant) (range_with_len 0 l.task)
