-- What is left to do behind open splits. Only clauses of walks cite it.
use Rattle.std.specs.Prelude.{◌≡◌, ◌+◌, ℕ, List, [], ◌∷◌, take, Option, Some, None, IsSomeAnd}
use Rattle.row_kit.specs.declared.program.Program.{Program}
use Rattle.proof_tree.specs.Views.{KeepsViews, View, present}
use Rattle.row_relax.specs.Steps.{row_steps}
use Rattle.open_splits.specs.declared.splits.OpenSplit.{OpenSplit}
use Rattle.open_splits.specs.declared.way.Met.{Met}
use Rattle.open_splits.specs.declared.way.Met.TheVariants.{End, Split}
use Rattle.open_splits.specs.declared.way.Way.{Way}
use Rattle.open_splits.specs.declared.way.Way.TheVariants.{Down, Up}
use Rattle.open_splits.specs.laws.Opened.{HasBegunRight, HasOpenedBelow, with_left}

-- what holds of how far a walk came, with what it is that the part comes to that was passed
abbrev pub Reaches : Type 0 → Type 0 → Type 1
Reaches H G = H → G → Type 0

-- What a walk makes of a proof. D is a place in the proof, H how far the walk came, K what it keeps of a split, and G what a part comes to.
-- passes: from one point of the walk to another the proof at a place over a view was passed, and comes to this
-- part_at: the place of the left part of a split, and of its right part, once the left one comes to this
-- sums: what a split comes to, of what its parts come to
pub record Course (D H K G : Type 0) : Type 1 where
  pub passes : D → View → H → Reaches H G
  pub part_at : OpenSplit K G → Option G → D
  pub sums : K → G → G → G → Type 0

-- once the proof at a place is passed, this holds
abbrev pub Leads : {D H K G : Type 0} → Course D H K G → D → View → H → Reaches H G → Type 0
Leads {D} {H} {K} {G} course place view here whole = (later : H) (all : G) → course.passes place view here later all → whole later all

-- behind a part of a split that is passed: where it is the right one, the split is closed; else its right part has to be passed
abbrev pub Follows : {D H K G : Type 0} → Program → Course D H K G → OpenSplit K G → Option G → View → Reaches H G → Reaches H G
Follows {D} {H} {K} {G} program course split (Some left) view whole here part = (all : G) → course.sums split.kept left part all → whole here all
Follows {D} {H} {K} {G} program course split None view whole here part =
    (right : View) → (row_steps program).right view split.pick ≡ Some right
    → Leads course (course.part_at split (Some part)) right here (λ later second. (all : G) → course.sums split.kept part second all → whole later all)

-- what holds once a node below these open splits, innermost first, is passed with all below it: where none is open, that is the whole
abbrev pub Behind : {D H K G : Type 0} → Program → Course D H K G → Reaches H G → List (OpenSplit K G) → List View → Reaches H G
Behind program course whole [] views here all = whole here all
Behind program course whole (split ∷ splits) views here part =
    Follows program course split split.left (present (take (split.mark + 1) views)) (Behind program course whole splits (take (split.mark + 1) views)) here part

-- where a walk stands below open splits
abbrev pub Stands : {D H K G : Type 0} → Program → Course D H K G → Reaches H G → List (OpenSplit K G) → List View → H → Way D G → Type 0
Stands program course whole splits views here (Down place) = Leads course place (present views) here (Behind program course whole splits views)
Stands program course whole splits views here (Up part) = Behind program course whole splits views here part

-- a split was opened, and once both its parts are passed, this holds
pub record HasSplit {D H K G : Type 0} (program : Program) (course : Course D H K G) (most depth : ℕ) (old new : List View) (here : H) (split : OpenSplit K G) (whole : Reaches H G) : Type 0 where
  pub opened : HasOpenedBelow program most depth old new split
  pub then_ : Leads course (course.part_at split None) (present new) here (Follows program course split None (present opened.divided) whole)

-- the next node was passed: an end, or a split was opened, and once both its parts are passed, the node is
abbrev pub HasMet : {D H K G : Type 0} → Program → Course D H K G → ℕ → ℕ → D → List View → List View → H → H → Met K G → Type 0
HasMet program course most depth place old new before here (End all) = KeepsViews old new × course.passes place (present old) before here all
HasMet program course most depth place old new before here (Split split) = HasSplit program course most depth old new here split (course.passes place (present old) before)

-- behind a part of a split, which comes to this: the split is closed, and the area is as it was; or its right part is next
abbrev pub HasGoneOn : {D H K G : Type 0} → Program → Course D H K G → OpenSplit K G → G → List (OpenSplit K G) → List (OpenSplit K G) → List View → List View → Way D G → Type 0
HasGoneOn program course split part before after old new (Up all) =
    (new ≡ old) × ((after ≡ before) × IsSomeAnd split.left (λ left. course.sums split.kept left part all))
HasGoneOn program course split part before after old new (Down place) =
    (split.left ≡ None) × ((place ≡ course.part_at split (Some part)) × ((after ≡ with_left split part ∷ before) × HasBegunRight program split old new))
