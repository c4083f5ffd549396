use Rattle.std.proofs.Common.{◌≡◌, Some, sym}
use Rattle.toml.specs.Data.{as_array}
use Rattle.toml.specs.View.{view, items_view}
use Rattle.plant_text.proofs.Members.{items_at_array}
use Rattle.plant_text.proofs.values.items_of.Goals as goal

pub returns-in-Some-clause-items : goal.returns-in-Some-clause-items
returns-in-Some-clause-items c =
    let items = c.in-Some.items.now.items in
    let found : as_array (view c.args.value.now) ≡ Some (items_view items) = sym c.in-Some.ensures in
    rw c.as_slice.ensures.value (items_at_array (view c.args.value.now) items found)
