use Rattle.std.proofs.Common.{◌≡◌, IsUtf8, chars}
use Rattle.std.specs.List.{list_any}
use Rattle.std.specs.Str.Iter.{chars_rest}
use Rattle.stn_model.specs.Labels.{is_unwritable}
use Rattle.plant_text.proofs.labels.has_unwritable.Given as goal

abbrev pub invariant-loop-character : goal.invariant-loop-character
invariant-loop-character l = IsUtf8 (chars_rest l.character-iterator) × (list_any is_unwritable (chars (chars_rest l.character-iterator)) ≡ list_any is_unwritable (chars l.fn.text))
