-- Batches that follow each other on a unit.
use Rattle.std.specs.Prelude.{◌≡◌, ◌+◌, ◌≤◌, ◌⊎◌, ◌==◌, ◌&&◌, not, nat_lt, Bool, IsTrue, List}
use Rattle.std.specs.List.{list_all}
use Rattle.stn_model.specs.declared.plant.Plant.{Plant}
use Rattle.stn_model.specs.declared.start.Start.{Start}
use Rattle.stn_model.specs.Plant.{end_of, gap_between, ready_at}

-- two batches on one unit: one ends by the start of the other
abbrev pub Apart : Plant → Start → Start → Type 0
Apart plant a b = a.unit ≡ b.unit → (end_of plant a ≤ b.period) ⊎ (end_of plant b ≤ a.period)

-- a start of the unit lies strictly between the two
abbrev pub is_amid : Start → Start → Start → Bool
is_amid a b c = c.unit == a.unit && nat_lt a.period c.period && nat_lt c.period b.period

-- b is a next start on the unit of a: it is later, and no start of the plan lies between them
unfoldable pub is_next : List Start → Start → Start → Bool
is_next plan a b = a.unit == b.unit && nat_lt a.period b.period && list_all (λ c. not (is_amid a b c)) plan

-- a is an earlier start on the unit of b
abbrev pub is_earlier : Start → Start → Bool
is_earlier a b = a.unit == b.unit && nat_lt a.period b.period

-- b comes first on its unit: no start of the plan on it is earlier
unfoldable pub is_first : List Start → Start → Bool
is_first plan b = list_all (λ a. not (is_earlier a b)) plan

-- a first batch on a unit waits for the end of the batch that held it last, and for the cleaning after that
abbrev pub Begun : Plant → List Start → Start → Type 0
Begun plant plan b = IsTrue (is_first plan b) → ready_at plant b.unit b.task ≤ b.period

-- a next batch on the unit waits for the end of this one and for the cleaning
abbrev pub Cleaned : Plant → List Start → Start → Start → Type 0
Cleaned plant plan a b = IsTrue (is_next plan a b) → end_of plant a + gap_between plant a.unit a.task b.task ≤ b.period
