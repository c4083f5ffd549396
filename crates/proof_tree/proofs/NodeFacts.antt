-- Facts of each node of a tree: weaker ones, two together, and what they say of the found points.
use Rattle.std.proofs.Common.{List, ◌++◌, Option, Some, None, option_to_list}
use Rattle.std.specs.Option.{IsSomeAnd}
use Rattle.proof_tree.specs.Nodes.{Node, EachNode, found_points}
use Rattle.proof_tree.specs.Relaxation.{Steps}
use Rattle.proof_tree.specs.Tree.{Tree, leaf, split, after_cuts}
use Rattle.proof_tree.specs.Views.{View}

-- what holds of a thing that is there, as far as others do
pub there-weaker : {X : Type 0} (there : Option X) (Before After : X → Type 0) → ((x : X) → Before x → After x) → IsSomeAnd there Before → IsSomeAnd there After
there-weaker None Before After step holds = holds
there-weaker (Some x) Before After step holds = step x holds

pub there-both : {X : Type 0} (there : Option X) (One Other Both : X → Type 0) → ((x : X) → One x → Other x → Both x) → IsSomeAnd there One → IsSomeAnd there Other → IsSomeAnd there Both
there-both None One Other Both step one other = one
there-both (Some x) One Other Both step one other = step x one other

module _ {U C P F : Type 0} (s : Steps U C P) where
  -- a fact of each node, from a stronger one
  pub EachNode-weaker : (Before After : Node U C P F → Type 0) → ((node : Node U C P F) → Before node → After node)
      → (parent : Option C) (before : List F) (v : View) (tree : Tree U C P F) → EachNode Before s parent before v tree → EachNode After s parent before v tree
  EachNode-weaker Before After step parent before v (leaf cuts found end) holds = there-weaker (after_cuts s v cuts) _ _ (λ w. step _) holds
  EachNode-weaker Before After step parent before v (split cuts found pick cert a b) holds =
      there-weaker (after_cuts s v cuts) _ _
      (λ w at. (
        step _ at.0,
        there-weaker (s.left (s.trim w pick cert) pick) _ _ (λ x. EachNode-weaker Before After step (Some cert) (before ++ option_to_list found) x a) at.1,
        there-weaker (s.right (s.trim w pick cert) pick) _ _ (λ y. EachNode-weaker Before After step (Some cert) (before ++ (option_to_list found ++ found_points a)) y b) at.2,
      ))
      holds

  -- two facts of each node together
  pub EachNode-both : (One Other Both : Node U C P F → Type 0) → ((node : Node U C P F) → One node → Other node → Both node)
      → (parent : Option C) (before : List F) (v : View) (tree : Tree U C P F) → EachNode One s parent before v tree → EachNode Other s parent before v tree → EachNode Both s parent before v tree
  EachNode-both One Other Both step parent before v (leaf cuts found end) one other = there-both (after_cuts s v cuts) _ _ _ (λ w. step _) one other
  EachNode-both One Other Both step parent before v (split cuts found pick cert a b) one other =
      there-both (after_cuts s v cuts) _ _ _
      (λ w at too. (
        step _ at.0 too.0,
        there-both (s.left (s.trim w pick cert) pick) _ _ _ (λ x. EachNode-both One Other Both step (Some cert) (before ++ option_to_list found) x a) at.1 too.1,
        there-both (s.right (s.trim w pick cert) pick) _ _ _ (λ y. EachNode-both One Other Both step (Some cert) (before ++ (option_to_list found ++ found_points a)) y b) at.2 too.2,
      ))
      one other
