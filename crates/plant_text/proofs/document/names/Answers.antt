use Rattle.std.proofs.Common.{◌≡◌, ℕ, List, [], map, take, option_map, unwrap_or, Option, subst, ap, ◌∙◌}
use Rattle.std.specs.Prelude.{IfOk}
use Rattle.toml.specs.Data.{Data}
use Rattle.toml.specs.View.{view}
use Rattle.plant_text.specs.Fields.{items_of}
use Rattle.plant_text.specs.Names.{name_in, first_places, places_in}
use Rattle.plant_text.proofs.Places.{names_there}
use Rattle.plant_text.proofs.document.names.Goals as goal

pub returns-in-Some-items_of : goal.returns-in-Some-items_of
returns-in-Some-items_of c =
    let items = c.in-Some-items_of.items.now in
    let found = names_there items (view c.in-Some.value.now) c.args.most c.in-Some-items_of.ensures.items in
    let looked = ap (λ (o : Option Data). map name_in (take c.args.most (unwrap_or (option_map items_of o) []))) c.in-Some.ensures in
    subst (λ (names : List (List ℕ)). IfOk c.of-in-Some-items_of.result (λ n. places_in n ≡ first_places names))
    (rw c.first.ensures (found ∙ looked)) c.of-in-Some-items_of.ensures
