-- What is left to do behind open splits, from one step of a walk to the next.
use Rattle.std.proofs.Common.{◌≡◌, ◌∙◌, ℕ, ◌+◌, ◌<◌, List, [], ◌∷◌, take, Option, None, Some, refl, sym, ap, subst, arith}
use Rattle.row_kit.specs.declared.program.Program.{Program}
use Rattle.proof_tree.specs.Views.{KeepsViews, View, present}
use Rattle.open_splits.specs.declared.splits.OpenSplit.{OpenSplit}
use Rattle.open_splits.specs.declared.way.Met.{Met}
use Rattle.open_splits.specs.declared.way.Met.TheVariants.{End, Split}
use Rattle.open_splits.specs.declared.way.Way.{Way}
use Rattle.open_splits.specs.declared.way.Way.TheVariants.{Down, Up}
use Rattle.open_splits.specs.laws.Behind.{Behind, Course, Follows, HasGoneOn, HasMet, HasSplit, Leads, Reaches, Stands}
use Rattle.open_splits.specs.laws.Opened.{StandsIn, with_left}
use Rattle.open_splits.proofs.Remaining.{end-smaller, node_steps, open_steps, opened-steps, split-smaller, way_steps}
use Rattle.open_splits.proofs.Standing.{at-left, closed-stands, front-back, keeps-front, opened-front, opened-stands, same-front, stands-further, turned-stands}

-- what follows of what holds once both parts of an opened split are passed holds then too
pub split-then : {D H K G : Type 0} {program : Program} {course : Course D H K G} {most depth : ℕ} {old new : List View} {here : H} {split : OpenSplit K G} (P Q : Reaches H G) → ((later : H) (all : G) → P later all → Q later all) → HasSplit program course most depth old new here split P → HasSplit program course most depth old new here split Q
split-then P Q follows is = record {
  opened = is.opened;
  then_ = λ middle first one right there last second two all sums. follows last all (is.then_ middle first one right there last second two all sums);
}

-- where the walk stands: the area in the open splits, and what is left to do behind them makes the whole
abbrev pub IsAt : {D H K G : Type 0} → Program → Course D H K G → List View → Reaches H G → List (OpenSplit K G) → List View → H → Way D G → Type 0
IsAt program course begun whole splits views here way = StandsIn begun splits views × Stands program course whole splits views here way

-- behind open splits is to be done what was, where the area stands further below
pub behind-further : {D H K G : Type 0} (program : Program) (course : Course D H K G) (begun : List View) (whole : Reaches H G) (splits : List (OpenSplit K G)) (views wide : List View) (here : H) (part : G) → StandsIn begun splits views → KeepsViews views wide → Behind program course whole splits views here part
    → Behind program course whole splits wide here part
behind-further program course begun whole [] views wide here part stands further behind = behind
behind-further program course begun whole (split ∷ splits) views wide here part stands further behind =
    subst (λ (front : List View). Follows program course split split.left (present front) (Behind program course whole splits front) here part) (sym (same-front views wide split.mark stands.0 further)) behind

-- an end was passed
met-end : {D H K G : Type 0} (program : Program) (course : Course D H K G) (begun : List View) (whole : Reaches H G) (most depth : ℕ) (place : D) (splits : List (OpenSplit K G)) (views wide : List View) (here later : H) (part : G) → IsAt program course begun whole splits views here (Down place)
    → HasMet program course most depth place views wide here later (End part) → IsAt program course begun whole splits wide later (Up part)
met-end program course begun whole most depth place splits views wide here later part at met =
    (stands-further begun splits views wide met.0 at.0, behind-further program course begun whole splits views wide later part at.0 met.0 (at.1 later part met.1))

-- a split was opened
met-split : {D H K G : Type 0} (program : Program) (course : Course D H K G) (begun : List View) (whole : Reaches H G) (most depth : ℕ) (place next : D) (splits : List (OpenSplit K G)) (views wide : List View) (here later : H) (split : OpenSplit K G) → next ≡ course.part_at split None → IsAt program course begun whole splits views here (Down place)
    → HasMet program course most depth place views wide here later (Split split) → IsAt program course begun whole (split ∷ splits) wide later (Down next)
met-split {D} {H} {K} {G} program course begun whole most depth place next splits views wide here later split is at met = (
  opened-stands begun splits views met.opened.divided wide split met.opened.keeps met.opened.opened at.0,
  subst (λ (there : D). Leads course there (present wide) later (Behind program course whole (split ∷ splits) wide)) (sym is) (λ middle first one.
      subst (λ (o : Option G). Follows program course split o (present (take (split.mark + 1) wide)) (Behind program course whole splits (take (split.mark + 1) wide)) middle first) (sym met.opened.opened.none)
      (subst (λ (front : List View). Follows program course split None (present front) (Behind program course whole splits front) middle first) (sym (opened-front met.opened.opened))
      (λ right there last second two all sums. behind-further program course begun whole splits views met.opened.divided last all at.0 met.opened.keeps (at.1 last all (met.then_ middle first one right there last second two all sums))))),
)

-- where a walk goes on behind what it met
abbrev pub Enters : {D H K G : Type 0} → Course D H K G → Met K G → List (OpenSplit K G) → List (OpenSplit K G) → Way D G → Type 0
Enters course (End part) before after next = (after ≡ before) × (next ≡ Up part)
Enters course (Split split) before after next = (after ≡ split ∷ before) × (next ≡ Down (course.part_at split None))

-- a node was passed
pub met-on : {D H K G : Type 0} (program : Program) (course : Course D H K G) (begun : List View) (whole : Reaches H G) (most depth : ℕ) (place : D) (splits further : List (OpenSplit K G)) (views wide : List View) (here later : H) (met : Met K G) (way next : Way D G) → IsAt program course begun whole splits views here way
    → way ≡ Down place → HasMet program course most depth place views wide here later met → Enters course met splits further next → IsAt program course begun whole further wide later next
met-on {D} {H} {K} {G} program course begun whole most depth place splits further views wide here later (End part) way next at is met enters =
    let down = subst (IsAt program course begun whole splits views here) is at in
    let up = met-end program course begun whole most depth place splits views wide here later part down met in
    subst (λ (after : List (OpenSplit K G)). IsAt program course begun whole after wide later next) (sym enters.0) (subst (IsAt program course begun whole splits wide later) (sym enters.1) up)
met-on {D} {H} {K} {G} program course begun whole most depth place splits further views wide here later (Split split) way next at is met enters =
    let down = subst (IsAt program course begun whole splits views here) is at in
    let further_down = met-split program course begun whole most depth place (course.part_at split None) splits views wide here later split refl down met in
    subst (λ (after : List (OpenSplit K G)). IsAt program course begun whole after wide later next) (sym enters.0) (subst (IsAt program course begun whole (split ∷ splits) wide later) (sym enters.1) further_down)

-- the innermost open split is closed, or its right part is next
pub gone-on : {D H K G : Type 0} (program : Program) (course : Course D H K G) (begun : List View) (whole : Reaches H G) (split : OpenSplit K G) (before after : List (OpenSplit K G)) (views wide : List View) (here : H) (part : G) (next : Way D G) → IsAt program course begun whole (split ∷ before) views here (Up part)
    → HasGoneOn program course split part before after views wide next → IsAt program course begun whole after wide here next
gone-on {D} {H} {K} {G} program course begun whole split before after views wide here part (Up all) at gone =
    let left = at-left split.left (λ left. course.sums split.kept left part all) gone.1.1 in
    let front = take (split.mark + 1) views in
    let follows = subst (λ (o : Option G). Follows program course split o (present front) (Behind program course whole before front) here part) left.1.0 at.1 in
    let behind = behind-further program course begun whole before front views here all at.0.1 (keeps-front views split.mark at.0.0) (follows all left.1.1) in
    let is : IsAt program course begun whole before views here (Up all) = (closed-stands begun split before views at.0, behind) in
    subst (λ (splits : List (OpenSplit K G)). IsAt program course begun whole splits wide here (Up all)) (sym gone.1.0) (subst (λ (all_views : List View). IsAt program course begun whole before all_views here (Up all)) (sym gone.0) is)
gone-on {D} {H} {K} {G} program course begun whole split before after views wide here part (Down place) at gone =
    let down = gone.1.1.1 in
    let front = take (split.mark + 1) views in
    let follows = subst (λ (o : Option G). Follows program course split o (present front) (Behind program course whole before front) here part) gone.0 at.1 in
    let turned : OpenSplit K G = with_left split part in
    let leads : Leads course (course.part_at split (Some part)) (present wide) here (Behind program course whole (turned ∷ before) wide) =
    λ later second two all sums. subst (λ (shown : List View). Behind program course whole before shown later all) (sym (front-back views wide split.mark at.0.0 down.keeps)) (follows (present wide) down.right later second two all sums) in
    let is : IsAt program course begun whole (turned ∷ before) wide here (Down place) = (
      turned-stands begun split turned before views wide refl down.keeps at.0,
      subst (λ (there : D). Leads course there (present wide) here (Behind program course whole (turned ∷ before) wide)) (sym gone.1.0) leads,
    ) in
    subst (λ (splits : List (OpenSplit K G)). IsAt program course begun whole splits wide here (Down place)) (sym gone.1.1.0) is

-- ---- how many steps are left

-- a node was passed
pub met-smaller : {D H K G : Type 0} (program : Program) (course : Course D H K G) (old new : List View) (here later : H) (most : ℕ) (depth_of : D → ℕ) (place : D) (splits further : List (OpenSplit K G)) (met : Met K G) (way next : Way D G)
    → ((split : OpenSplit K G) (left : Option G) → depth_of (course.part_at split left) ≡ split.below) → way ≡ Down place → HasMet program course most (depth_of place) place old new here later met → Enters course met splits further next
    → way_steps most depth_of next + open_steps most further < way_steps most depth_of way + open_steps most splits
met-smaller {D} {H} {K} {G} program course old new here later most depth_of place splits further (End part) way next below is met enters =
    omega (arith, end-smaller most depth_of place splits way part is, ap (way_steps most depth_of) enters.1, ap (open_steps most) enters.0)
met-smaller {D} {H} {K} {G} program course old new here later most depth_of place splits further (Split split) way next below is met enters =
    omega (arith, split-smaller most depth_of place (course.part_at split None) split splits further way is met.opened.few met.opened.opened.below (below split None) met.opened.opened.none enters.0, ap (way_steps most depth_of) enters.1)

-- a split is closed, or its right part is begun
pub gone-smaller : {D H K G : Type 0} (program : Program) (course : Course D H K G) (old new : List View) (most : ℕ) (depth_of : D → ℕ) (split : OpenSplit K G) (part : G) (rest before after : List (OpenSplit K G)) (way next : Way D G)
    → ((split : OpenSplit K G) (left : Option G) → depth_of (course.part_at split left) ≡ split.below) → way ≡ Up part → before ≡ split ∷ rest → HasGoneOn program course split part rest after old new next → way_steps most depth_of next + open_steps most after < way_steps most depth_of way + open_steps most before
gone-smaller {D} {H} {K} {G} program course old new most depth_of split part rest before after way (Up all) below is top gone =
    let left = at-left split.left (λ left. course.sums split.kept left part all) gone.1.1 in
    omega (arith, ap (way_steps most depth_of) is, opened-steps most split rest before (Some left.0) top left.1.0, ap (open_steps most) gone.1.0)
gone-smaller {D} {H} {K} {G} program course old new most depth_of split part rest before after way (Down place) below is top gone =
    let now = opened-steps most (with_left split part) rest after (Some part) gone.1.1.0 refl in
    omega (arith, ap (way_steps most depth_of) is, opened-steps most split rest before None top gone.0, now, ap (node_steps most) (ap depth_of gone.1.0 ∙ below split (Some part)))
