-- What the private steps of a walk leave behind. Only clauses of private functions cite it.
use Rattle.std.specs.Prelude.{◌≡◌, ℕ, List, [], ◌∷◌, length, Option, None}
use Rattle.proof_tree.specs.declared.capped.Capped.{Capped}
use Rattle.proof_tree.specs.declared.walk.OpenSplit.{OpenSplit}
use Rattle.proof_tree.specs.declared.walk.Took.{Took}
use Rattle.proof_tree.specs.declared.walk.Walk.{Walk}
use Rattle.proof_tree.specs.Relaxation.{Steps}
use Rattle.proof_tree.specs.Views.{View}
use Rattle.proof_tree.specs.Walk.{Outcome, StandBelow, IsAnswer, GoesBack}

-- the left cap of the innermost open split, if its left part has ended
abbrev pub innermost_left : {P : Type 0} → List (OpenSplit P) → Option Capped
innermost_left [] = None
innermost_left (split ∷ splits) = split.left

-- what a step of a walk whose first area has this mark leaves behind
pub record Led {R A U C P F : Type 0} (s : Steps U C P) (first : ℕ) (old : Walk R A U C P F) (views : List View) (took : Took) (new : Walk R A U C P F) (later : List View) (outcome : Outcome P) : Type 0 where
  pub answer : IsAnswer took new later outcome
  pub stands : StandBelow s later (length later) first new.splits
  pub same_first : new.first ≡ old.first
  pub goes_back : GoesBack took first views later
