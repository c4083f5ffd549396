-- What an area shows: a view at each of its marks.
use Rattle.std.specs.Prelude.{◌≡◌, ℕ, ◌-◌, Bool, true, false, List, [], length, take, slice_index_or, Option, Some, None}

-- what an area shows at one mark
abbrev pub View : Type 0
View = List ℕ

-- a value for each place
abbrev pub Point : Type 0
Point = List ℕ

-- the view at a mark
abbrev pub view_at : List View → ℕ → View
view_at views mark = slice_index_or views mark []

-- the view at the area's own mark
abbrev pub present : List View → View
present views = view_at views (length views - 1)

-- the views at all earlier marks stay
abbrev pub KeepsViews : List View → List View → Type 0
KeepsViews old new = take (length old) new ≡ old

-- a call that answers true leads to this view, and one that answers false to none and changes nothing
abbrev pub MovesTo : Option View → List View → List View → Bool → Type 0
MovesTo next old new false = (next ≡ None) × (new ≡ old)
MovesTo next old new true = (next ≡ Some (present new)) × KeepsViews old new
