use Rattle.std.proofs.Common.{◌≡◌}
use Rattle.std.specs.List.{list_any}
use Rattle.toml.specs.View.{table_view}
use Rattle.plant_text.specs.Fields.{has_unknown}
use Rattle.plant_text.proofs.Members.{is_strange}
use Rattle.plant_text.proofs.find.unknown.Given as goal

abbrev pub invariant-loop-word : goal.invariant-loop-word
invariant-loop-word l = list_any (is_strange l.keys) l.word-iterator ≡ has_unknown l.keys (table_view l.table)
