-- The bounds that a program's numbers keep.
use Rattle.std.specs.Prelude.{◌≡◌, ℕ, ◌<◌, ◌≤◌, List, length, map, ℤ, pos, ◌≤ℤ◌, unsigned_abs}
use Rattle.std.specs.List.{All}
use Rattle.std.specs.List.Sorted.{IsStrictlyIncreasing}
use Rattle.row_kit.specs.declared.row.Entry.{Entry}
use Rattle.row_kit.specs.declared.row.Row.{Row}
use Rattle.row_kit.specs.declared.domain.Domain.{Domain}
use Rattle.row_kit.specs.declared.row.Change.{Change}
use Rattle.row_kit.specs.declared.row.Tag.{Tag}
use Rattle.row_kit.specs.Domain.{IsNormal}

-- the entries name slots of a root with this many, in ascending order, and neither of their parts exceeds a bound
pub record AreBounded (slots most : ℕ) (entries : List Entry) : Type 0 where
  pub named : All (λ e. e.slot < slots) entries
  pub ascending : IsStrictlyIncreasing (map (λ e. e.slot) entries)
  pub fixed_small : All (λ e. unsigned_abs e.fixed ≤ most) entries
  pub per_small : All (λ e. unsigned_abs e.per ≤ most) entries

-- a row whose entries and limit keep the bounds of rows
pub record IsBoundedRow (slots : ℕ) (row : Row) : Type 0 where
  pub entries : AreBounded slots 10000000 row.entries
  pub limit : unsigned_abs row.limit ≤ 1000000000000

-- a change whose cost lies in its range
pub record IsBoundedChange (change : Change) : Type 0 where
  pub least : pos 0 ≤ℤ change.cost
  pub most : change.cost ≤ℤ pos 1000000

-- a tag whose opening lies in its range
abbrev pub IsBoundedTag : Tag → Type 0
IsBoundedTag tag = tag.opening ≤ 1000000

-- the parts of a program keep every bound
pub record KeepsBounds (rows : List Row) (profit : List Entry) (base : ℤ) (root : List Domain) (tags : List Tag) (changes : List Change) : Type 0 where
  pub few_slots : length root ≤ 4096
  pub root_normal : All IsNormal root
  pub few_rows : length rows ≤ 400000
  pub rows_bounded : All (IsBoundedRow (length root)) rows
  pub profit_bounded : AreBounded (length root) 2000000000000000 profit
  pub base_bounded : unsigned_abs base ≤ 10000000000000000000000
  pub one_tag : length tags ≡ length root
  pub costs_bounded : All IsBoundedChange changes
  pub openings_bounded : All IsBoundedTag tags
