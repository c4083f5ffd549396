-- The table of the deliveries: a line for each, in the order of the file.
use Rattle.std.specs.Prelude.{ℕ, ℤ, pos, ◌+◌, List, ◌++◌, length, flat_map, slice_index_or, codes, decimal}
use Rattle.std.specs.List.{range_with_len}
use Rattle.std.specs.Fmt.{signed_decimal}
use Rattle.stn_model.specs.declared.plant.Plant.{Plant}
use Rattle.stn_model.specs.declared.plant.Delivery.{Delivery}
use Rattle.stn_model.specs.declared.start.Start.{Start}
use Rattle.stn_model.specs.Plant.{state_at}
use Rattle.stn_model.specs.Stock.{stock}

-- a delivery of nothing, in the place of one that is not there
abbrev pub no_delivery : Delivery
no_delivery = record { state = 0; time = 0; amount = 0; payment = pos 0 }

-- the numbers of a delivery, after its own and the name of its state
unfoldable pub delivery_cells : ℕ → ℕ → ℤ → ℤ → List ℕ
delivery_cells time amount payment level =
    codes "," ++ (decimal time ++ (codes "," ++ (decimal amount ++ (codes "," ++ (signed_decimal payment ++ (codes "," ++ (signed_decimal level ++ codes "\n")))))))

-- a number and the comma after it
unfoldable pub number_cell : ℕ → List ℕ
number_cell number = decimal number ++ codes ","

-- the line of a delivery and its number: what stands of its state at its time is the last
unfoldable pub line_of : Plant → List Start → ℕ → Delivery → List ℕ
line_of plant plan number delivery =
    number_cell number ++ ((state_at plant delivery.state).name
    ++ delivery_cells delivery.time delivery.amount delivery.payment (stock plant plan delivery.state delivery.time))

-- the line of the delivery at a place of the file: its number counts from 1
abbrev pub delivery_line : Plant → List Start → ℕ → List ℕ
delivery_line plant plan place = line_of plant plan (place + 1) (slice_index_or plant.deliveries place no_delivery)

-- the head line of the deliveries
unfoldable pub deliveries_head : List ℕ
deliveries_head = codes "delivery,state,time,amount,payment,stock\n"

-- the table of the deliveries
abbrev pub deliveries_text : Plant → List Start → List ℕ
deliveries_text plant plan = deliveries_head ++ flat_map (delivery_line plant plan) (range_with_len 0 (length plant.deliveries))
