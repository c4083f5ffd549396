-- The plant with some of its deliveries alone.
use Rattle.std.specs.Prelude.{Bool, true, false, List, [], ◌∷◌}
use Rattle.stn_model.specs.declared.plant.Plant.{Plant}
use Rattle.stn_model.specs.declared.plant.Delivery.{Delivery}

-- the deliveries that are kept, in their order
abbrev pub picked : List Bool → List Delivery → List Delivery
picked [] deliveries = []
picked (one ∷ kept) [] = []
picked (true ∷ kept) (delivery ∷ deliveries) = delivery ∷ picked kept deliveries
picked (false ∷ kept) (delivery ∷ deliveries) = picked kept deliveries

-- The plant with those of its deliveries alone that are kept: the others are not delivered and not paid.
unfoldable pub alone : Plant → List Bool → Plant
alone plant kept = record plant { deliveries = picked kept plant.deliveries }
