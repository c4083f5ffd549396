-- What the changeovers of a point cost, and the first starts of its lanes.
use Rattle.std.specs.Prelude.{ℕ, ◌+◌, ◌==◌, nat_lt, Bool, ◌&&◌, not, max, if◌then◌else◌, List, [], ◌∷◌, unsigned_abs}
use Rattle.std.specs.List.{list_any, sum_by}
use Rattle.row_kit.specs.declared.row.Change.{Change}
use Rattle.row_kit.specs.declared.row.Tag.{Tag}

-- the tags of the slots that are not 0 at a point
abbrev pub started : List Tag → List ℕ → List Tag
started [] point = []
started (tag ∷ tags) [] = []
started (tag ∷ tags) (value ∷ values) = if value == 0 then started tags values else tag ∷ started tags values

-- b has a later place than a, in one lane
abbrev pub is_after : Tag → Tag → Bool
is_after a b = (b.lane == a.lane) && nat_lt a.place b.place

-- c has a place strictly between those of a and b, in a's lane
abbrev pub is_between : Tag → Tag → Tag → Bool
is_between a b c = is_after a c && nat_lt c.place b.place

-- b comes next after a: it is after a in one lane, and no start of the lane lies strictly between
abbrev pub comes_next : List Tag → Tag → Tag → Bool
comes_next starts a b = is_after a b && not (list_any (is_between a b) starts)

-- a change is listed for a lane and two kinds
abbrev pub is_listed : ℕ → ℕ → ℕ → Change → Bool
is_listed lane from to change = (change.lane == lane) && (change.from == from) && (change.to == to)

-- the greatest cost that is listed for a lane and two kinds, and 0 where none is listed
abbrev pub listed_cost : List Change → ℕ → ℕ → ℕ → ℕ
listed_cost [] lane from to = 0
listed_cost (change ∷ changes) lane from to =
    if is_listed lane from to change
    then max (unsigned_abs change.cost) (listed_cost changes lane from to)
    else listed_cost changes lane from to

-- what a pair of starts costs: nothing, unless b comes next after a
abbrev pub pair_cost : List Change → List Tag → Tag → Tag → ℕ
pair_cost changes starts a b = if comes_next starts a b then listed_cost changes a.lane a.kind b.kind else 0

-- what the changeovers from one start cost: the sum over all starts that may come next
abbrev pub costs_after : List Change → List Tag → Tag → ℕ
costs_after changes starts a = sum_by (pair_cost changes starts a) starts

-- b comes first in its lane: no start of the lane has a lesser place
abbrev pub comes_first : List Tag → Tag → Bool
comes_first starts b = not (list_any (λ a. is_after a b) starts)

-- what a start costs that opens its lane; nothing, unless it comes first
abbrev pub opening_cost : List Tag → Tag → ℕ
opening_cost starts b = if comes_first starts b then b.opening else 0

-- what a start costs: the changeovers from it, and to open its lane
abbrev pub costs_of : List Change → List Tag → Tag → ℕ
costs_of changes starts a = costs_after changes starts a + opening_cost starts a

-- what the changeovers of a point cost, with the openings of its lanes: the sum over its starts of what each costs
abbrev pub changeovers : List Change → List Tag → List ℕ → ℕ
changeovers changes tags point = let starts = started tags point in sum_by (costs_of changes starts) starts
