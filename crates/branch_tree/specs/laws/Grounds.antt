-- What a search goes over, and where it stands. Only clauses of private functions cite it.
use Rattle.std.specs.Prelude.{◌≡◌, ◌≢◌, ℕ, ◌+◌, ◌≤◌, ◌<◌, true, false, List, [], ◌∷◌, length, map, take, Option, Some, None, IfSome, ℤ, ◌≤ℤ◌}
use Rattle.std.specs.Option.{IsSomeAnd}
use Rattle.row_kit.specs.declared.domain.Domain.{Domain}
use Rattle.row_kit.specs.declared.found.Found.{Found}
use Rattle.row_kit.specs.declared.program.Program.{Program}
use Rattle.row_relax.specs.Settle.{only_point}
use Rattle.dual_bound.specs.declared.cert.Cert.{Cert}
use Rattle.dual_bound.specs.Total.{is_fit}
use Rattle.proof_tree.specs.declared.capped.Capped.TheVariants.{Bad}
use Rattle.row_relax.specs.declared.pick.RowPick.{RowPick}
use Rattle.row_relax.specs.declared.rows.Rows.{Rows}
use Rattle.row_relax.specs.Choices.{IsImageIn, choices_of}
use Rattle.row_relax.specs.Steps.{row_steps}
use Rattle.range_prop.specs.Cuts.{HaveRoomBut}
use Rattle.range_prop.specs.Index.{IsIndex}
use Rattle.proof_tree.specs.Views.{View, present}
use Rattle.row_relax.specs.View.{Fits, IsIn, domains_of, view_of}
use Rattle.branch_tree.specs.declared.reached.Ground.{Ground}
use Rattle.branch_tree.specs.declared.reached.Reached.{Reached}
use Rattle.branch_tree.specs.Justified.{IsGroup, IsParted}
use Rattle.branch_tree.specs.Searched.{IsSearchable, IsWorth}
use Rattle.branch_tree.specs.laws.Ends.{view_splits}

-- the view that an area shows
abbrev pub seen : List (List Domain) → View
seen marks = present (map view_of marks)

-- the rows of a ground, and their program
abbrev pub rows_of : Ground → Rows
rows_of ground = ground.rows.now

abbrev pub program_of : Ground → Program
program_of ground = ground.rows.now.program

-- the program by which points are judged
abbrev pub choices_at : Ground → Program
choices_at ground = choices_of (rows_of ground)

-- the first values of a point, as many as points have slots
abbrev pub first_values : Ground → List ℕ → List ℕ
first_values ground values = take (length (choices_at ground).root) values

-- a lawful point has an image in the area
abbrev pub IsAmong : Rows → View → List ℕ → Type 0
IsAmong rows view point = (image : List ℕ) × IsImageIn rows point image × IsIn view image

-- the program of the rows can be searched, and the index is that of its rows
pub record IsGround (ground : Ground) : Type 0 where
  pub searchable : IsSearchable ground.most (program_of ground)
  pub index : IsIndex (program_of ground).rows ground.index
  pub lists : length ground.index ≡ length (program_of ground).root

-- a search stands in an area that fits, with a place for each slot, and below no more splits than there may be
pub record StandsIn (ground : Ground) (view : View) (reached : Reached) : Type 0 where
  pub indexed : IsGround ground
  pub fits : Fits (program_of ground) view
  pub places : length reached.point.items ≡ length (program_of ground).root
  pub deep : reached.depth + view_splits view ≤ ground.most
  -- but for rows with an entry of the slot that was split last, each row has room
  pub room : IfSome reached.changed (λ slot. (slot < length (program_of ground).root) × HaveRoomBut (program_of ground).rows (slot ∷ []) (domains_of view))
  -- the point that is to be offered is lawful, and has an image in the area
  pub own : IfSome reached.own (λ found. IsGroup (choices_at ground) found × IsAmong (rows_of ground) view found.point)

-- a search goes on in an area: it stands there, counted no more boxes than it may, and has no point of its own to offer
pub record GoesOn (IsReady : Type 0) (ground : Ground) (view : View) (reached : Reached) : Type 0 where
  pub ready : IsReady
  pub stands : StandsIn ground view reached
  pub within : reached.spent ≤ ground.budget
  pub none : reached.own ≡ None

-- a search leaves an area as it was before, counted no more boxes than it may, and has no point of its own to offer
pub record LeavesOff (IsReady : Type 0) (ground : Ground) (area area2 : List (List Domain)) (reached : Reached) : Type 0 where
  pub ready : IsReady
  pub as_before : map view_of area2 ≡ map view_of area
  pub within : reached.spent ≤ ground.budget
  pub none : reached.own ≡ None

-- a found point is lawful, and worth as much as each of two points that is lawful
pub record IsOffered (program : Program) (first second : List ℕ) (own : Option Found) : Type 0 where
  pub group : IfSome own (IsGroup program)
  pub least : IsWorth program first own
  pub given : IsWorth program second own

-- the start of a search: it stands below no split, nothing is counted or found, and a lawful point is to be offered that is worth as much as the least point and
-- as the point to begin with, where these are lawful
pub record IsStart (rows : Rows) (start : List ℕ) (reached : Reached) : Type 0 where
  pub depth : reached.depth ≡ 0
  pub spent : reached.spent ≡ 0
  pub best : reached.best ≡ None
  pub changed : reached.changed ≡ None
  pub places : length reached.point.items ≡ length rows.program.root
  pub own : IsOffered (choices_of rows) (only_point (choices_of rows).root) start reached.own

-- where a point of one's own was to be offered, the best found point is worth as much
abbrev pub IsOwnBest : Option Found → Option Found → Type 0
IsOwnBest own best = IfSome own (λ f. IsSomeAnd best (λ b. f.value ≤ℤ b.value))

-- a view is divided here, with a certificate of scale 1 or more
pub record IsSplitAt (program : Program) (given : ℕ) (view : View) (pick : RowPick) (cert : Cert) : Type 0 where
  pub fit : is_fit (length program.rows) cert ≡ true
  pub scale : 1 ≤ cert.scale
  pub parted : IsParted given (domains_of view) pick

-- the slot of a split, where it has no floor
abbrev pub slot_alone : Option ℤ → ℕ → Option ℕ
slot_alone None slot = Some slot
slot_alone (Some floor) slot = None

-- a part of a split with this certificate has points, and the certificate has a cap over it
pub record IsSplitPart (program : Program) (view : View) (cert : Cert) : Type 0 where
  pub some : (row_steps program).empty view ≡ false
  pub capped : (row_steps program).cap view cert ≢ Bad
