-- How many steps a walk takes at most. Each split below has fewer splits below it that may be opened.
use Rattle.std.proofs.Common.{◌≡◌, ◌∙◌, ℕ, zero, suc, ◌+◌, ◌-◌, ◌<◌, List, [], ◌∷◌, Option, None, Some, ap, arith}
use Rattle.open_splits.specs.declared.splits.OpenSplit.{OpenSplit}
use Rattle.open_splits.specs.declared.way.Way.{Way}
use Rattle.open_splits.specs.declared.way.Way.TheVariants.{Down, Up}

-- of a node below which so many splits may stand: it is passed, its left part is begun, then its right part, then it is closed
pub steps_below : ℕ → ℕ
steps_below zero = 1
steps_below (suc room) = 3 + (steps_below room + steps_below room)

-- of a node below so many splits
abbrev pub node_steps : ℕ → ℕ → ℕ
node_steps most depth = steps_below (most - depth)

-- of a split that is open
abbrev pub split_steps : {G : Type 0} → ℕ → ℕ → Option G → ℕ
split_steps most below (Some left) = 1
split_steps most below None = node_steps most below + 2

-- of open splits
pub open_steps : {K G : Type 0} → ℕ → List (OpenSplit K G) → ℕ
open_steps most [] = 0
open_steps most (split ∷ splits) = split_steps most split.below split.left + open_steps most splits

-- of where a walk goes on, at a place that stands below so many splits
abbrev pub way_steps : {D G : Type 0} → ℕ → (D → ℕ) → Way D G → ℕ
way_steps most depth_of (Down place) = node_steps most (depth_of place)
way_steps most depth_of (Up part) = 0

-- each node takes a step
pub steps-some : (room : ℕ) → 0 < steps_below room
unfolding steps_below
steps-some zero = omega arith
steps-some (suc room) = omega arith

-- a node that may split takes more steps than both its parts
pub node-more : (most depth : ℕ) → depth < most → node_steps most depth ≡ 3 + (node_steps most (depth + 1) + node_steps most (depth + 1))
unfolding steps_below
node-more most depth few = ap steps_below room
  where
    room : most - depth ≡ suc (most - (depth + 1))
    room = omega (arith, few)

-- the innermost open split takes its own steps
pub opened-steps : {K G : Type 0} (most : ℕ) (split : OpenSplit K G) (rest before : List (OpenSplit K G)) (left : Option G) → before ≡ split ∷ rest → split.left ≡ left → open_steps most before ≡ split_steps most split.below left + open_steps most rest
unfolding open_steps
opened-steps {K} {G} most split rest before left is left_is = ap (open_steps most) is ∙ ap (λ (o : Option G). split_steps most split.below o + open_steps most rest) left_is

-- an end is passed
pub end-smaller : {D K G : Type 0} (most : ℕ) (depth_of : D → ℕ) (place : D) (splits : List (OpenSplit K G)) (way : Way D G) (part : G) → way ≡ Down place
    → way_steps {D = D} {G = G} most depth_of (Up part) + open_steps most splits < way_steps most depth_of way + open_steps most splits
end-smaller most depth_of place splits way part is =
    let own : way_steps most depth_of way ≡ node_steps most (depth_of place) = ap (way_steps most depth_of) is in
    omega (arith, own, steps-some (most - depth_of place))

-- a split is opened
pub split-fewer : {K G : Type 0} (most depth below : ℕ) (split : OpenSplit K G) (splits deeper : List (OpenSplit K G)) → depth < most → split.below ≡ depth + 1 → below ≡ split.below → split.left ≡ None → deeper ≡ split ∷ splits
    → node_steps most below + open_steps most deeper < node_steps most depth + open_steps most splits
split-fewer {K} {G} most depth below split splits deeper few is same none pushed =
    let added : open_steps most deeper ≡ split_steps {G = G} most split.below None + open_steps most splits = opened-steps most split splits deeper None pushed none in
    let there : node_steps most split.below ≡ node_steps most (depth + 1) = ap (node_steps most) is in
    let next : node_steps most below ≡ node_steps most split.below = ap (node_steps most) same in
    omega (arith, added, there, next, node-more most depth few)

-- so of a walk that is at the node
pub split-smaller : {D K G : Type 0} (most : ℕ) (depth_of : D → ℕ) (place next : D) (split : OpenSplit K G) (splits deeper : List (OpenSplit K G)) (way : Way D G) → way ≡ Down place → depth_of place < most → split.below ≡ depth_of place + 1 → depth_of next ≡ split.below → split.left ≡ None → deeper ≡ split ∷ splits
    → way_steps {D = D} {G = G} most depth_of (Down next) + open_steps most deeper < way_steps most depth_of way + open_steps most splits
split-smaller most depth_of place next split splits deeper way is few below same none pushed =
    let own : way_steps most depth_of way ≡ node_steps most (depth_of place) = ap (way_steps most depth_of) is in
    omega (arith, own, split-fewer most (depth_of place) (depth_of next) split splits deeper few below same none pushed)
