-- Groups of slots of which at most one has a value other than 0.
use Rattle.std.specs.Prelude.{◌≡◌, ℕ, ◌<◌, ◌==◌, Bool, if◌then◌else◌, List, [], ◌∷◌, length, ℤ, pos, neg_ℤ, ◌+ℤ◌}
use Rattle.std.specs.List.{All, list_any}
use Rattle.row_kit.specs.declared.row.Entry.{Entry}
use Rattle.row_kit.specs.declared.row.Row.{Row}
use Rattle.row_kit.specs.Row.{row_at}
use Rattle.derived_rows.specs.declared.derived.Group.{Group}
use Rattle.derived_rows.specs.declared.derived.Members.{Members}
use Rattle.derived_rows.specs.declared.derived.Members.TheVariants.{One, OfRow}

-- a row keeps all its slots but one at 0: its limit is 1, and an entry counts 1 where its slot has a value of 1 or more
pub record IsChoice (row : Row) : Type 0 where
  pub limit : row.limit ≡ pos 1
  pub fixed : All (λ e. e.fixed ≡ pos 1) row.entries
  pub per : All (λ e. e.per ≡ pos 0) row.entries

-- the members of a group are a slot of so many, or the slots of a row that keeps all of them but one at 0
abbrev pub AreMembers : List Row → ℕ → Members → Type 0
AreMembers rows slots (One slot) = slot < slots
AreMembers rows slots (OfRow row) = (row < length rows) × IsChoice (row_at rows row)

-- the entries that count the members of a group which have a value of 1 or more
abbrev pub member_entries : List Row → Members → List Entry
member_entries rows (One slot) = record { slot = slot; fixed = pos 1; per = pos 0 } ∷ []
member_entries rows (OfRow row) = (row_at rows row).entries

-- a slot is a member
abbrev pub is_member : List Row → Members → ℕ → Bool
is_member rows members slot = list_any (λ e. e.slot == slot) (member_entries rows members)

-- the shift of a slot: that of the first group of which it is a member, and 0 where it is of none
abbrev pub shift_at : List Row → List Group → ℕ → ℤ
shift_at rows [] slot = pos 0
shift_at rows (group ∷ groups) slot = if is_member rows group.members slot then group.shift else shift_at rows groups slot

-- the sum of the shifts of groups, those of groups without members too
abbrev pub shifts_sum : List Group → ℤ
shifts_sum [] = pos 0
shifts_sum (group ∷ groups) = group.shift +ℤ shifts_sum groups

-- the sum over groups of what a function makes of the opposite of the shift
abbrev pub starts_sum : (ℤ → ℤ) → List Group → ℤ
starts_sum round [] = pos 0
starts_sum round (group ∷ groups) = round (neg_ℤ group.shift) +ℤ starts_sum round groups
