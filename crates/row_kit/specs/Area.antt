-- What an area remembers: its domains at each mark, the present ones last.
use Rattle.std.specs.Prelude.{ℕ, ◌+◌, ◌-◌, ◌<◌, ◌≤◌, ◌^◌, length, List, [], ◌∷◌, ◌++◌, Bool, ◌&&◌, ◌==◌, if◌then◌else◌, slice_index_or, slice_set}
use Rattle.std.specs.Bool.{beq}
use Rattle.std.specs.List.{All, sum_by}
use Rattle.row_kit.specs.declared.domain.Domain.{Domain}
use Rattle.row_kit.specs.declared.former.Former.{Former}
use Rattle.row_kit.specs.Domain.{IsNormal, count_of}

-- the domains at the last mark, the present ones
abbrev pub present : List (List Domain) → List Domain
present marks = slice_index_or marks (length marks - 1) []

-- two domains are written alike
abbrev pub is_same : Domain → Domain → Bool
is_same a b = beq a.zero b.zero && (a.lo == b.lo) && (a.hi == b.hi)

-- the marks after a slot has been given a domain: one more, or none where the slot has it already
abbrev pub with_domain : List (List Domain) → ℕ → Domain → List (List Domain)
with_domain marks slot domain =
    if is_same (slice_index_or (present marks) slot domain) domain
    then marks
    else marks ++ slice_set (present marks) slot domain ∷ []

-- the domains before all these changes: the newest change is taken back first
abbrev pub undone : List Domain → List Former → List Domain
undone domains [] = domains
undone domains (change ∷ changes) = slice_set (undone domains changes) change.slot change.domain

-- the domains at each mark: before each change, and the present ones
abbrev pub history : List Domain → List Former → List (List Domain)
history domains [] = domains ∷ []
history domains (change ∷ changes) = undone domains (change ∷ changes) ∷ history domains changes

-- the values that are left at each mark leave room for as many changes
abbrev pub LeavesRoom : List (List Domain) → ℕ → Type 0
LeavesRoom marks room =
    (mark : ℕ) → mark < length marks → mark + sum_by count_of (slice_index_or marks mark []) ≤ room

-- an area's domains are normal and few, and its trail has room for each change that can come
pub record IsSound (domains : List Domain) (trail : List Former) (room : ℕ) : Type 0 where
  pub few : length domains ≤ 4096
  pub normal : All IsNormal domains
  pub in_range : All (λ change. change.slot < length domains) trail
  pub trail_normal : All (λ change. IsNormal change.domain) trail
  pub leaves_room : LeavesRoom (history domains trail) room
  pub small : room < 2 ^ 32
