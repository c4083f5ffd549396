-- Which deliveries are left.
use Rattle.std.specs.Prelude.{ℕ, Bool, true, false, List, map, count_by}
use Rattle.order_text.specs.declared.mark.Mark.{Mark}
use Rattle.order_text.specs.declared.mark.Mark.TheVariants.{Out, Needed, Open}

-- the delivery is left
abbrev pub is_left : Mark → Bool
is_left Out = false
is_left Needed = true
is_left Open = true

-- which deliveries are left
abbrev pub left_of : List Mark → List Bool
left_of marks = map is_left marks

-- how many are kept
abbrev pub kept_count : List Bool → ℕ
kept_count kept = count_by (λ one. one) kept
