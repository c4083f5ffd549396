-- The worth of the only point of domains.
use Rattle.std.specs.Prelude.{ℕ, ◌==◌, Bool, true, false, ◌&&◌, nat_le, if◌then◌else◌, int_le, List, [], ◌∷◌, map}
use Rattle.std.specs.List.{list_all}
use Rattle.row_kit.specs.declared.domain.Domain.{Domain}
use Rattle.row_kit.specs.declared.program.Program.{Program}
use Rattle.row_kit.specs.Domain.{count_of}
use Rattle.row_kit.specs.Point.{worth_of}
use Rattle.row_kit.specs.Row.{entries_sum}
use Rattle.proof_tree.specs.declared.capped.Capped.{Capped}
use Rattle.proof_tree.specs.declared.capped.Capped.TheVariants.{AtMost, NoPoint, Bad}

-- each domain has exactly one value
abbrev pub are_single : List Domain → Bool
are_single domains = list_all (λ domain. count_of domain == 1) domains

-- the value of a domain that has exactly one
abbrev pub only_value : Domain → ℕ
only_value domain = if domain.zero then 0 else domain.lo

-- the point of domains of which each has exactly one value
abbrev pub only_point : List Domain → List ℕ
only_point domains = map only_value domains

-- a domain holds a value
abbrev pub is_held : Domain → ℕ → Bool
is_held domain value = if value == 0 then domain.zero else (nat_le domain.lo value && nat_le value domain.hi)

-- a point has a value for each domain, which holds it
abbrev pub are_held : List Domain → List ℕ → Bool
are_held [] [] = true
are_held [] (value ∷ values) = false
are_held (domain ∷ domains) [] = false
are_held (domain ∷ domains) (value ∷ values) = is_held domain value && are_held domains values

-- a point lies in the root and keeps every row
abbrev pub is_lawful : Program → List ℕ → Bool
is_lawful program point =
    are_held program.root point && list_all (λ row. int_le (entries_sum row.entries point) row.limit) program.rows

-- the worth of a point, where it is lawful
abbrev pub cap_at : Program → List ℕ → Capped
cap_at program point = if is_lawful program point then AtMost (worth_of program point) else NoPoint

-- the worth of the only point, where it is lawful; nothing, where there is no only point
unfoldable pub settled : Program → List Domain → Capped
settled program domains = if are_single domains then cap_at program (only_point domains) else Bad
