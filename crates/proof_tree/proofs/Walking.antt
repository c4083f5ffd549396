-- Lemmas on what a walk holds while its area moves.
use Rattle.std.proofs.Common.{◌≡◌, ◌≢◌, ℕ, ◌+◌, ◌-◌, ◌<◌, ◌≤◌, List, [], ◌∷◌, map, length, take, Option, Some, None, IsSome, refl, ap, sym, ◌∙◌, subst, arith}
use Rattle.std.proofs.lemmas.Grind.{common_steps}
use Rattle.proof_tree.specs.declared.capped.Capped.{Capped}
use Rattle.proof_tree.specs.declared.walk.OpenSplit.{OpenSplit}
use Rattle.proof_tree.specs.declared.walk.Walk.{Walk}
use Rattle.proof_tree.specs.declared.walk.Took.TheVariants.{More}
use Rattle.proof_tree.specs.declared.walk.Expected.TheVariants.{Node}
use Rattle.proof_tree.specs.Cap.{greater, floor_cap}
use Rattle.proof_tree.specs.Relaxation.{Steps}
use Rattle.proof_tree.specs.Views.{View, view_at, present, KeepsViews}
use Rattle.proof_tree.specs.Walk.{opened, StandBelow, going, going_to, stage_of, close}
use Rattle.proof_tree.specs.laws.Led.{innermost_left, Led}

-- a view at an earlier mark stays
pub view_at-kept : (old new : List View) (mark : ℕ) → KeepsViews old new → mark < length old → view_at new mark ≡ view_at old mark
view_at-kept old new mark keeps below = grind (arith, common_steps)

-- so do the views up to an earlier mark
pub take-kept : (old new : List View) (mark : ℕ) → KeepsViews old new → mark < length old → take (mark + 1) new ≡ take (mark + 1) old
take-kept old new mark keeps below = grind (arith, common_steps)

-- after going back to a mark, that is the present view
pub present-back : (views : List View) (mark : ℕ) → mark < length views → present (take (mark + 1) views) ≡ view_at views mark
present-back views mark below = grind (arith, common_steps)

pub view_at-back : (views : List View) (mark earlier : ℕ) → earlier ≤ mark → view_at (take (mark + 1) views) earlier ≡ view_at views earlier
view_at-back views mark earlier below = grind (arith, common_steps)

module _ {U C P : Type 0} (s : Steps U C P) where
  -- the mark of the first area is below that of the present one
  pub StandBelow-first : (views : List View) (mark first : ℕ) (splits : List (OpenSplit P)) → StandBelow s views mark first splits → first < mark
  StandBelow-first views mark first [] stand = stand
  StandBelow-first views mark first (split ∷ splits) stand =
      let inner : first < split.mark + 1 = StandBelow-first views (split.mark + 1) first splits stand.2 in
      let here : split.mark < mark = stand.0 in
      omega arith

  -- open splits stand below a later mark of an area that shows the same below theirs
  pub StandBelow-moved : (a b : List View) (mark later first : ℕ) (splits : List (OpenSplit P)) → mark ≤ later → ((m : ℕ) → m < mark → view_at b m ≡ view_at a m) → StandBelow s a mark first splits → StandBelow s b later first splits
  StandBelow-moved a b mark later first [] up same stand = omega arith
  StandBelow-moved a b mark later first (split ∷ splits) up same stand =
      let here : split.mark < mark = stand.0 in (
        omega arith,
        subst (λ v. IsSome (s.right v split.pick)) (sym (same split.mark here)) stand.1,
        StandBelow-moved a b (split.mark + 1) (split.mark + 1) first splits (omega arith) (λ m below. same m (omega arith)) stand.2,
      )

  -- and they show the same there
  pub opened-moved : (a b : List View) (mark first : ℕ) (splits : List (OpenSplit P)) → ((m : ℕ) → m < mark → view_at b m ≡ view_at a m) → StandBelow s a mark first splits → map (opened b) splits ≡ map (opened a) splits
  opened-moved a b mark first [] same stand = refl
  opened-moved a b mark first (split ∷ splits) same stand =
      let here : split.mark < mark = stand.0 in
      let view : view_at b split.mark ≡ view_at a split.mark = same split.mark here in
      let inner = opened-moved a b (split.mark + 1) first splits (λ m below. same m (omega arith)) stand.2 in
      cc

  -- in an area that keeps the views both hold
  StandBelow-kept : (views later : List View) (first : ℕ) (splits : List (OpenSplit P)) → KeepsViews views later → StandBelow s views (length views) first splits → StandBelow s later (length later) first splits
  StandBelow-kept views later first splits keeps stand =
      let up : length views ≤ length later = grind (arith, common_steps) in
      StandBelow-moved views later (length views) (length later) first splits up (λ m below. view_at-kept views later m keeps below) stand

  opened-kept : (views later : List View) (first : ℕ) (splits : List (OpenSplit P)) → KeepsViews views later → StandBelow s views (length views) first splits → map (opened later) splits ≡ map (opened views) splits
  opened-kept views later first splits keeps stand = opened-moved views later (length views) first splits (λ m below. view_at-kept views later m keeps below) stand

module _ {R A U C P F : Type 0} (s : Steps U C P) (first : ℕ) where
  -- a step that narrows the area leads to the stage over the new view
  pub Led-forward : (old new : Walk R A U C P F) (views later : List View) (next : Option View) → new.first ≡ old.first → next ≡ Some (present later) → KeepsViews views later → StandBelow s views (length views) first new.splits → Led s first old views More new later (going_to new.expected (map (opened views) new.splits) next)
  Led-forward old new views later next same leads keeps stand =
      let shown : map (opened later) new.splits ≡ map (opened views) new.splits = opened-kept s views later first new.splits keeps stand in
      let start : first < length views = StandBelow-first s views (length views) first new.splits stand in
      record {
        answer = rw (leads, shown) refl;
        stands = StandBelow-kept s views later first new.splits keeps stand;
        same_first = same;
        goes_back = take-kept views later first keeps start;
      }

  -- a step that goes back to a split and on to its right part leads to the stage over the new view
  pub Led-back : (old new : Walk R A U C P F) (views later : List View) (split : OpenSplit P) (splits : List (OpenSplit P)) (next : Option View) (left : Option Capped) → new.first ≡ old.first → next ≡ Some (present later) → KeepsViews (take (split.mark + 1) views) later → StandBelow s views (length views) first (split ∷ splits) → new.splits ≡ record split { left = left } ∷ splits → Led s first old views More new later (going_to new.expected (opened views (record split { left = left }) ∷ map (opened views) splits) next)
  Led-back old new views later split splits next left same leads keeps stand held =
      let here : split.mark < length views = stand.0 in
      let reset = take (split.mark + 1) views in
      let long : length reset ≡ split.mark + 1 = grind (arith, common_steps) in
      let shows : (m : ℕ) → m < split.mark + 1 → view_at reset m ≡ view_at views m = λ m below. view_at-back views split.mark m (omega arith) in
      let inner = StandBelow-moved s views reset (split.mark + 1) (split.mark + 1) first splits (omega arith) shows stand.2 in
      let outer : map (opened reset) splits ≡ map (opened views) splits = opened-moved s views reset (split.mark + 1) first splits shows stand.2 in
      let seen : view_at reset split.mark ≡ view_at views split.mark = shows split.mark (omega arith) in
      let stand_reset : StandBelow s reset (length reset) first new.splits = rw (held, long) (omega arith, subst (λ v. IsSome (s.right v split.pick)) (sym seen) stand.1, inner) in
      let led = Led-forward old new reset later next same leads keeps stand_reset in
      let start : first < split.mark + 1 = StandBelow-first s views (split.mark + 1) first splits stand.2 in
      let drawn : map (opened reset) new.splits ≡ opened views (record split { left = left }) ∷ map (opened views) splits = rw (held, seen, outer) refl in
      record {
        answer = subst (λ xs. going_to new.expected xs next ≡ going (stage_of new later)) drawn led.answer;
        stands = led.stands;
        same_first = same;
        goes_back = led.goes_back ∙ grind (arith, common_steps);
      }

-- what is not none is some
pub IsSome-named : (next : Option View) → next ≢ None → IsSome next
IsSome-named None not_none = absurd (not_none refl)
IsSome-named (Some v) not_none = refl

module _ {R A U C P F : Type 0} (s : Steps U C P) (first : ℕ) where
  -- a split that is opened at the area's own mark leads to the stage over the view of its left part
  Led-split : (old new : Walk R A U C P F) (views later : List View) (split : OpenSplit P) (splits : List (OpenSplit P)) (next : Option View) → new.first ≡ old.first → split.mark + 1 ≡ length views → next ≡ Some (present later) → KeepsViews views later → IsSome (s.right (present views) split.pick) → StandBelow s views (length views) first splits → new.splits ≡ split ∷ splits
      → Led s first old views More new later (going_to new.expected (record { view = present views; pick = split.pick; floor = split.floor; left = split.left } ∷ map (opened views) splits) next)
  Led-split old new views later split splits next same own leads keeps named stand held =
      let at : split.mark ≡ length views - 1 = omega arith in
      let seen : view_at views split.mark ≡ present views = ap (view_at views) at in
      let below : StandBelow s views (split.mark + 1) first splits = subst (λ m. StandBelow s views m first splits) (sym own) stand in
      let under : split.mark < length views = omega arith in
      let all : StandBelow s views (length views) first new.splits = rw held (under, subst (λ v. IsSome (s.right v split.pick)) (sym seen) named, below) in
      let led = Led-forward s first old new views later next same leads keeps all in
      let drawn : map (opened views) new.splits ≡ record { view = present views; pick = split.pick; floor = split.floor; left = split.left } ∷ map (opened views) splits = rw (held, seen) refl in
      record {
        answer = subst (λ xs. going_to new.expected xs next ≡ going (stage_of new later)) drawn led.answer;
        stands = led.stands;
        same_first = same;
        goes_back = led.goes_back;
      }

  -- and so does one that has forgotten points before
  pub Led-trimmed : (old new : Walk R A U C P F) (views trimmed later : List View) (split : OpenSplit P) (splits : List (OpenSplit P)) (next : Option View) → new.first ≡ old.first → split.mark + 1 ≡ length trimmed → next ≡ Some (present later) → KeepsViews views trimmed → KeepsViews trimmed later → IsSome (s.right (present trimmed) split.pick) → StandBelow s views (length views) first splits → new.splits ≡ split ∷ splits
      → Led s first old views More new later (going_to new.expected (record { view = present trimmed; pick = split.pick; floor = split.floor; left = split.left } ∷ map (opened views) splits) next)
  Led-trimmed old new views trimmed later split splits next same own leads kept keeps named stand held =
      let led = Led-split old new trimmed later split splits next same own leads keeps named (StandBelow-kept s views trimmed first splits kept stand) held in
      let start : first < length views = StandBelow-first s views (length views) first splits stand in
      record {
        answer = subst (λ xs. going_to new.expected (record { view = present trimmed; pick = split.pick; floor = split.floor; left = split.left } ∷ xs) next ≡ going (stage_of new later)) (opened-kept s views trimmed first splits kept stand) led.answer;
        stands = led.stands;
        same_first = same;
        goes_back = led.goes_back ∙ take-kept views trimmed first kept start;
      }

-- a split whose left part has ended closes with the greater of the two caps
pub close-innermost : {U C P : Type 0} (s : Steps U C P) (views : List View) (all : List (OpenSplit P)) (split : OpenSplit P) (splits : List (OpenSplit P)) (left cap_so_far : Capped) → all ≡ split ∷ splits → innermost_left all ≡ Some left → close s (map (opened views) all) cap_so_far ≡ close s (map (opened views) splits) (greater left cap_so_far)
close-innermost s views all split splits left cap_so_far held is =
    let its : split.left ≡ Some left = subst (λ xs. innermost_left xs ≡ Some left) held is in
    rw (held, its) refl

-- a split whose left part has not ended goes on to its right part
pub close-begin : {U C P : Type 0} (s : Steps U C P) (views : List View) (all : List (OpenSplit P)) (split : OpenSplit P) (splits : List (OpenSplit P)) (cap_so_far : Capped) → all ≡ split ∷ splits → innermost_left all ≡ None → close s (map (opened views) all) cap_so_far ≡ going_to Node (opened views (record split { left = Some (greater (floor_cap split.floor) cap_so_far) }) ∷ map (opened views) splits) (s.right (view_at views split.mark) split.pick)
close-begin s views all split splits cap_so_far held is =
    let its : split.left ≡ None = subst (λ xs. innermost_left xs ≡ None) held is in
    rw (held, its) refl

-- without the innermost split the others still stand
pub StandBelow-rest : {U C P : Type 0} (s : Steps U C P) (views : List View) (mark first : ℕ) (all : List (OpenSplit P)) (split : OpenSplit P) (splits : List (OpenSplit P)) → all ≡ split ∷ splits → StandBelow s views mark first all → StandBelow s views mark first splits
StandBelow-rest s views mark first all split splits held stand =
    let both : StandBelow s views mark first (split ∷ splits) = subst (StandBelow s views mark first) held stand in
    let here : split.mark < mark = both.0 in
    StandBelow-moved s views views (split.mark + 1) mark first splits (omega arith) (λ m below. refl) both.2
