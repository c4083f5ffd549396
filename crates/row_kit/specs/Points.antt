-- How many points lie in domains.
use Rattle.std.specs.Prelude.{ℕ, ◌*◌, List, [], ◌∷◌, slice_set}
use Rattle.row_kit.specs.declared.domain.Domain.{Domain}
use Rattle.row_kit.specs.Domain.{count_of, domain_at, shared}

-- the number of points of domains: the product of how many values they hold
abbrev pub points_of : List Domain → ℕ
points_of [] = 1
points_of (domain ∷ domains) = count_of domain * points_of domains

-- the domains with a slot's values kept that another domain holds
abbrev pub kept_at : List Domain → ℕ → Domain → List Domain
kept_at domains slot domain = slice_set domains slot (shared (domain_at domains slot) domain)
