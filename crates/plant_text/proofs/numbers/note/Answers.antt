use Rattle.std.proofs.Common.{◌≡◌, Some, true, string_bytes, arith}
use Rattle.std.proofs.lemmas.Map.Text.{hash_map_updates_text}
use Rattle.std.specs.Prelude.{is_none}
use Rattle.std.specs.HashMap.{get_by_text}
use Rattle.plant_text.proofs.numbers.note.Goals as goal

pub returns-in_ok-insert : goal.returns-in_ok-insert
returns-in_ok-insert c = λ other.
    let key = c.in_ok-from_str.field-0 in
    let updated = hash_map_updates_text (string_bytes key) c.args.places.now c.insert.new.self (Some c.args.place) c.in_ok-insert.ensures.updates other in
    let absent : is_none (get_by_text c.args.places.now c.args.name.now) ≡ true = grind arith in
    rw (absent, ← c.in_ok-from_str.ensures.ok) updated
