use Rattle.std.proofs.Common.{◌≡◌, ◌++◌, map}
use Rattle.std.specs.List.{flat_map, range_with_len}
use Rattle.gantt_report.specs.Layout.{name_line}
use Rattle.gantt_report.proofs.named.push_names.Given as goal

abbrev pub invariant-loop-item : goal.invariant-loop-item
invariant-loop-item g l = l.text.items ≡ l.initial.text.items ++ flat_map (name_line l.what (map g.T.Named.name l.items)) (range_with_len 0 l.item)
