-- Proofs that are merged to one, node by node.
use Rattle.std.specs.Prelude.{◌≡◌, ◌≢◌, ◌⊎◌, ℕ, ℤ, ◌<◌, Bool, true, false, IsTrue, int_le, int_lt, List, slice_index_or, Option, Some, None, IfSome, IsSomeAnd}
use Rattle.proof_tree.specs.declared.capped.Capped.{Capped}
use Rattle.proof_tree.specs.declared.capped.Capped.TheVariants.{AtMost, NoPoint, Bad}
use Rattle.proof_tree.specs.Relaxation.{Steps}
use Rattle.proof_tree.specs.Tree.{Tree, leaf, split, after_cuts, tree_cap}
use Rattle.proof_tree.specs.Views.{View}

-- a cap is smaller than another: no point is the smallest of all, and what is no cap the greatest
abbrev pub is_smaller : Capped → Capped → Bool
is_smaller NoPoint NoPoint = false
is_smaller NoPoint (AtMost b) = true
is_smaller NoPoint Bad = true
is_smaller (AtMost a) NoPoint = false
is_smaller (AtMost a) (AtMost b) = int_lt a b
is_smaller (AtMost a) Bad = true
is_smaller Bad other = false

-- a cap closes its box: it allows no point that is worth more than a profit; no point at all, where there is no profit
abbrev pub closes : Option ℤ → Capped → Bool
closes profit NoPoint = true
closes profit Bad = false
closes None (AtMost most) = false
closes (Some profit) (AtMost most) = int_le most profit

-- a place of a list of proofs, of which some may be missing: the proof there, if there is one
abbrev pub proof_at : {U C P F : Type 0} → List (Option (Tree U C P F)) → ℕ → Option (Tree U C P F)
proof_at here place = slice_index_or here place None

-- the cap over a view of a proof that ends at its first node, if there is one
abbrev pub end_cap : {U C P F : Type 0} → Steps U C P → View → Option (Tree U C P F) → Option Capped
end_cap s v None = None
end_cap s v (Some (leaf cuts found end)) = Some (tree_cap s v (leaf cuts found end))
end_cap s v (Some (split cuts found pick cert a b)) = None

-- how the first node of a proof splits: behind these cuts, by this pick, with this certificate
pub record Splitting (U C P : Type 0) : Type 0 where
  pub cuts : List U
  pub pick : P
  pub cert : C

-- how a proof splits at its first node, if there is one that does
abbrev pub splitting : {U C P F : Type 0} → Option (Tree U C P F) → Option (Splitting U C P)
splitting None = None
splitting (Some (leaf cuts found end)) = None
splitting (Some (split cuts found pick cert a b)) = Some (record { cuts = cuts; pick = pick; cert = cert })

-- the found point at the first node of a proof, if there is one
abbrev pub first_found : {U C P F : Type 0} → Option (Tree U C P F) → Option F
first_found None = None
first_found (Some (leaf cuts found end)) = found
first_found (Some (split cuts found pick cert a b)) = found

-- the proof at a place ends with this cap, which is the smallest of all that end, and the first of equals
pub record IsSmallestEnd {U C P F : Type 0} (s : Steps U C P) (v : View) (here : List (Option (Tree U C P F))) (place : ℕ) (cap : Capped) : Type 0 where
  pub ends : end_cap s v (proof_at here place) ≡ Some cap
  pub least : (other : ℕ) → IfSome (end_cap s v (proof_at here other)) (λ own. is_smaller own cap ≡ false)
  pub first : (other : ℕ) → other < place → IfSome (end_cap s v (proof_at here other)) (λ own. is_smaller cap own ≡ true)

-- no proof splits
abbrev pub NoneSplits : {U C P F : Type 0} → List (Option (Tree U C P F)) → Type 0
NoneSplits here = (place : ℕ) → splitting (proof_at here place) ≡ None

-- no proof ends with a cap that closes its box
abbrev pub NoneCloses : {U C P F : Type 0} → Steps U C P → Option ℤ → View → List (Option (Tree U C P F)) → Type 0
NoneCloses s best v here = (place : ℕ) → IfSome (end_cap s v (proof_at here place)) (λ cap. closes best cap ≡ false)

-- this end is taken: it is the one of the smallest cap, which closes its box, or no proof splits
pub record IsEndTaken {U C P F : Type 0} (s : Steps U C P) (best : Option ℤ) (v : View) (here : List (Option (Tree U C P F))) (end : Tree U C P F) : Type 0 where
  pub place : ℕ
  pub cap : Capped
  pub is : proof_at here place ≡ Some end
  pub smallest : IsSmallestEnd s v here place cap
  pub right : IsTrue (closes best cap) ⊎ NoneSplits here

-- a split is taken: it is that of the first proof that splits, with its found point, and no proof ends with a cap that closes its box
pub record IsSplitTaken {U C P F : Type 0} (s : Steps U C P) (best : Option ℤ) (v : View) (here : List (Option (Tree U C P F))) (taken : Splitting U C P) (found : Option F) : Type 0 where
  pub place : ℕ
  pub is : splitting (proof_at here place) ≡ Some taken
  pub first : (other : ℕ) → other < place → splitting (proof_at here other) ≡ None
  pub finds : found ≡ first_found (proof_at here place)
  pub none_closes : NoneCloses s best v here

-- what of a proof goes down at a split: its two parts, where it splits in the same way; nothing, where it does not
abbrev pub GoesDown : {U C P F : Type 0} → Splitting U C P → Option (Tree U C P F) → Option (Tree U C P F) → Option (Tree U C P F) → Type 0
GoesDown taken None first second = (first ≡ None) × (second ≡ None)
GoesDown taken (Some (leaf cuts found end)) first second = (first ≡ None) × (second ≡ None)
GoesDown taken (Some (split cuts found pick cert a b)) first second =
    ((taken ≡ record { cuts = cuts; pick = pick; cert = cert }) × (first ≡ Some a) × (second ≡ Some b))
    ⊎ ((taken ≢ record { cuts = cuts; pick = pick; cert = cert }) × (first ≡ None) × (second ≡ None))

-- what goes down of each proof
abbrev pub GoDown : {U C P F : Type 0} → Splitting U C P → List (Option (Tree U C P F)) → List (Option (Tree U C P F)) → List (Option (Tree U C P F)) → Type 0
GoDown taken here firsts seconds = (place : ℕ) → GoesDown taken (proof_at here place) (proof_at firsts place) (proof_at seconds place)

-- A proof is merged of those that came down here, over a view, where `best` is the profit of the best plan that is known. Where one of
-- them ends with a cap that closes its box, or where none splits, it is the end of the smallest cap, the first of equals. Else it splits as
-- the first does that splits, and its parts are merged of the parts of all that split in the same way.
abbrev pub IsMerged : {U C P F : Type 0} → Steps U C P → Option ℤ → View → List (Option (Tree U C P F)) → Tree U C P F → Type 0
IsMerged s best v here (leaf cuts found end) = IsEndTaken s best v here (leaf cuts found end)
IsMerged {U} {C} {P} {F} s best v here (split cuts found pick cert a b) =
    IsSplitTaken s best v here (record { cuts = cuts; pick = pick; cert = cert }) found
    × ((firsts : List (Option (Tree U C P F))) × ((seconds : List (Option (Tree U C P F))) × (GoDown (record { cuts = cuts; pick = pick; cert = cert }) here firsts seconds
    × IsSomeAnd (after_cuts s v cuts)
    (λ w. IsSomeAnd (s.left (s.trim w pick cert) pick) (λ x. IsMerged s best x firsts a)
    × IsSomeAnd (s.right (s.trim w pick cert) pick) (λ y. IsMerged s best y seconds b)))))
