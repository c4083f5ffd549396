-- Open splits, and the area that a walk narrows. Only clauses of walks cite it.
use Rattle.std.specs.Prelude.{◌≡◌, ◌<◌, ◌+◌, ℕ, Bool, true, false, List, [], ◌∷◌, length, take, Some, None}
use Rattle.row_kit.specs.declared.program.Program.{Program}
use Rattle.proof_tree.specs.Views.{KeepsViews, View, present}
use Rattle.row_relax.specs.Steps.{row_steps}
use Rattle.open_splits.specs.declared.splits.OpenSplit.{OpenSplit}

-- a split below so many others was opened over views that it divides: the present one is that of its left part now
pub record HasOpened {K G : Type 0} (program : Program) (depth : ℕ) (divided new : List View) (split : OpenSplit K G) : Type 0 where
  pub mark : split.mark + 1 ≡ length divided
  pub left : (row_steps program).left (present divided) split.pick ≡ Some (present new)
  pub keeps : KeepsViews divided new
  pub below : split.below ≡ depth + 1
  pub none : split.left ≡ None

-- so of views that a node has cut and trimmed before, where at most so many splits may stand one below another
pub record HasOpenedBelow {K G : Type 0} (program : Program) (most depth : ℕ) (old new : List View) (split : OpenSplit K G) : Type 0 where
  pub divided : List View
  pub keeps : KeepsViews old divided
  pub opened : HasOpened program depth divided new split
  pub few : depth < most

-- the split once its left part comes to this
abbrev pub with_left : {K G : Type 0} → OpenSplit K G → G → OpenSplit K G
with_left split left = record { below = split.below; mark = split.mark; pick = split.pick; kept = split.kept; left = Some left }

-- the area went back from below the left part of a split to what the split divides, and down to its right part
pub record HasBegunRight {K G : Type 0} (program : Program) (split : OpenSplit K G) (old new : List View) : Type 0 where
  pub right : (row_steps program).right (present (take (split.mark + 1) old)) split.pick ≡ Some (present new)
  pub keeps : KeepsViews (take (split.mark + 1) old) new

-- so the area did where the split has a right part, and the split is the innermost open one, with what its left part comes to
abbrev pub HasTurned : {K G : Type 0} → Program → OpenSplit K G → G → List (OpenSplit K G) → List (OpenSplit K G) → List View → List View → Bool → Type 0
HasTurned program split left before after old new true = (after ≡ with_left split left ∷ before) × HasBegunRight program split old new
HasTurned program split left before after old new false = after ≡ before

-- the area can go back to what each open split divides, innermost first, and from there to the views that the walk began with
abbrev pub StandsIn : {K G : Type 0} → List View → List (OpenSplit K G) → List View → Type 0
StandsIn begun [] views = KeepsViews begun views
StandsIn begun (split ∷ splits) views = (split.mark < length views) × StandsIn begun splits (take (split.mark + 1) views)
