-- The text of a conflict.
use Rattle.std.specs.Prelude.{ℕ, ◌+◌, List, [], ◌++◌, length, flat_map, count_by, slice_index_or, codes, decimal}
use Rattle.std.specs.List.{range_with_len}
use Rattle.stn_model.specs.declared.plant.Plant.{Plant}
use Rattle.stn_model.specs.declared.plant.Delivery.{Delivery}
use Rattle.stn_model.specs.Plant.{state_at}
use Rattle.order_text.specs.declared.mark.Mark.{Mark}
use Rattle.order_text.specs.declared.mark.Mark.TheVariants.{Out, Needed, Open}
use Rattle.plan_tables.specs.Deliveries.{no_delivery}
use Rattle.order_text.specs.Marks.{is_left}

-- the words of a delivery of this number: `delivery K STATE TIME AMOUNT`
unfoldable pub order_words : Plant → ℕ → Delivery → List ℕ
order_words plant number delivery =
    codes "delivery " ++ (decimal number ++ (codes " " ++ ((state_at plant delivery.state).name ++ (codes " " ++ (decimal delivery.time ++ (codes " " ++ decimal delivery.amount))))))

-- the line of a delivery of this number: none where it was left out, and with ` open` at its end where it is open
abbrev pub order_line : Plant → ℕ → Mark → Delivery → List ℕ
order_line plant number Out delivery = []
order_line plant number Needed delivery = order_words plant number delivery ++ codes "\n"
order_line plant number Open delivery = order_words plant number delivery ++ codes " open\n"

-- the line of the delivery at a place of the file: its number counts from 1
abbrev pub line_at : Plant → List Mark → ℕ → List ℕ
line_at plant marks place = order_line plant (place + 1) (slice_index_or marks place Out) (slice_index_or plant.deliveries place no_delivery)

-- the first line: how many deliveries are left
unfoldable pub head_line : ℕ → List ℕ
head_line count = codes "# conflict " ++ (decimal count ++ codes "\n")

-- The text of a conflict: how many deliveries are left, then a line for each of them, in the order of the file.
unfoldable pub conflict_text : Plant → List Mark → List ℕ
conflict_text plant marks = head_line (count_by is_left marks) ++ flat_map (line_at plant marks) (range_with_len 0 (length plant.deliveries))
