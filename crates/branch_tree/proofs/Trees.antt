-- What follows from how each node of a search ends.
use Rattle.std.proofs.Common.{◌≡◌, ◌≢◌, ℕ, zero, suc, ◌+◌, ◌-◌, ◌*◌, ◌<◌, ◌≤◌, Bool, true, false, cond, List, ◌++◌, Option, Some, None, option_to_list, refl, ap, sym, ◌∙◌, subst, arith, append_assoc, inl, inr}
use Rattle.std.specs.Prelude.{⊤, ◌⊎◌, ℤ}
use Rattle.std.specs.List.{All}
use Rattle.std.specs.Option.{IsSomeAnd}
use Rattle.std.proofs.lemmas.List.{get_or-map, length-map}
use Rattle.row_kit.specs.declared.domain.Domain.{Domain}
use Rattle.row_kit.specs.declared.found.Found.{Found}
use Rattle.row_kit.specs.declared.program.Program.{Program}
use Rattle.row_kit.specs.Domain.{Holds, IsNormal, IsOpen, domain_at, no_values, over, up_to}
use Rattle.row_kit.specs.Point.{LiesIn}
use Rattle.row_kit.specs.Points.{points_of}
use Rattle.row_kit.proofs.PointCounts.{points-open}
use Rattle.range_prop.specs.declared.row_cut.RowCut.{RowCut}
use Rattle.dual_bound.specs.declared.cert.Cert.{Cert}
use Rattle.proof_tree.specs.declared.capped.Capped.{Capped}
use Rattle.proof_tree.specs.declared.capped.Capped.TheVariants.{AtMost, NoPoint, Bad}
use Rattle.proof_tree.specs.Cap.{floor_cap, greater}
use Rattle.proof_tree.specs.Items.{depth}
use Rattle.proof_tree.specs.Nodes.{NodeEnd, closed, parted, EachNode, counted, found_points}
use Rattle.proof_tree.specs.Tree.{Leaf, no_point, dual, one_point, pending, leaf, split, tree_cap, leaf_cap, cap_if, split_cap, after_cuts}
use Rattle.proof_tree.specs.Views.{View}
use Rattle.proof_tree.proofs.NodeFacts.{EachNode-weaker}
use Rattle.row_relax.specs.declared.pick.RowPick.{RowPick}
use Rattle.row_relax.specs.Settle.{only_point, only_value}
use Rattle.row_relax.specs.Steps.{kept_at, row_steps}
use Rattle.row_relax.specs.View.{Fits, IsIn, domains_of, points_in}
use Rattle.row_relax.specs.laws.Laws.{rows_sound}
use Rattle.row_relax.specs.laws.Shown.{domains_there}
use Rattle.row_relax.proofs.PointCounts.{points-both}
use Rattle.row_relax.specs.RowProofs.{RowTree}
use Rattle.row_relax.specs.declared.rows.Rows.{Rows}
use Rattle.row_relax.specs.Choices.{steps_of}
use Rattle.branch_tree.specs.Justified.{RowNode, IsParted, EndIsJustified, NodeIsJustified}
use Rattle.branch_tree.specs.Searched.{HasOpenBox}
use Rattle.branch_tree.specs.laws.Ends.{ClosedBy, NodeDone, NodeEndDone, view_splits}
use Rattle.branch_tree.specs.laws.Handed.{opens}
use Rattle.branch_tree.proofs.Best.{ClosedBy-greater, ClosedBy-left}
use Rattle.branch_tree.proofs.Opened.{none_bare-open}
use Rattle.branch_tree.proofs.Depths.{cuts_leave, splits-left, splits-right}
use Rattle.branch_tree.proofs.Forgotten.{IsLeftTo, floor_closed, left_to, parted_there}

-- what is there and has a fact
pub fact_of : {X : Type 0} (o : Option X) (P : X → Type 0) → IsSomeAnd o P → (x : X) × ((o ≡ Some x) × P x)
fact_of None P holds = absurd holds
fact_of (Some x) P holds = (x, (refl, holds))

pub at_some : {X : Type 0} (o : Option X) (x : X) (P : X → Type 0) → o ≡ Some x → P x → IsSomeAnd o P
at_some o x P is holds = subst (λ other. IsSomeAnd other P) (sym is) holds

pub cap_at : (o : Option View) (v : View) (f : View → Capped) → o ≡ Some v → cap_if o f ≡ f v
cap_at o v f is = ap (λ other. cap_if other f) is

-- a cap that is a number or says that there is no point
abbrev pub IsDefined : Capped → Type 0
IsDefined (AtMost n) = ⊤
IsDefined NoPoint = ⊤
IsDefined Bad = ⊥

pub defined-not_bad : (cap : Capped) → IsDefined cap → cap ≢ Bad
defined-not_bad cap is bad = subst IsDefined bad is

pub not_bad-defined : (cap : Capped) → cap ≢ Bad → IsDefined cap
not_bad-defined (AtMost n) is = tt
not_bad-defined NoPoint is = tt
not_bad-defined Bad is = absurd (is refl)

closed-defined : (cap : Capped) (fs : List Found) → ClosedBy cap fs → IsDefined cap
closed-defined (AtMost n) fs is = tt
closed-defined NoPoint fs is = tt
closed-defined Bad fs is = is

greater-defined : (one other : Capped) → IsDefined one → IsDefined other → IsDefined (greater one other)
greater-defined Bad other first second = first
greater-defined NoPoint other first second = second
greater-defined (AtMost m) Bad first second = second
greater-defined (AtMost m) NoPoint first second = tt
greater-defined (AtMost m) (AtMost n) first second = tt

floor-defined : (floor : Option ℤ) → IsDefined (floor_cap floor)
floor-defined None = tt
floor-defined (Some n) = tt

-- the least value of a domain that has values
least_held : (d : Domain) → IsNormal d → IsOpen d → Holds d (only_value d)
least_held d n some = at d.zero refl
  where
    at : (z : Bool) → d.zero ≡ z → Holds d (cond z 0 d.lo)
    at true is = record { at_zero = λ _. is; above_zero = λ p. absurd (omega arith) }
    at false is =
        let count : cond d.zero 1 0 + (d.hi + 1 - d.lo) ≡ 0 + (d.hi + 1 - d.lo) = ap (λ z. cond z 1 0 + (d.hi + 1 - d.lo)) is in
        let positive : 1 ≤ d.lo = n.positive in
        record { at_zero = λ e. absurd (omega arith); above_zero = λ _. (omega arith, omega (arith, count, some)) }

-- domains that have values hold the point of the least
pub least_lies : (ds : List Domain) → All IsNormal ds → All IsOpen ds → LiesIn ds (only_point ds)
least_lies ds normal' each = record {
  same_length = length-map ds only_value;
  held = λ k lt. subst (Holds (domain_at ds k)) (sym (get_or-map only_value ds k no_values 0 lt)) (least_held (domain_at ds k) (normal' k no_values lt) (each k no_values lt));
}

-- a view that is not empty has a point
some_point : (program : Program) (v : View) → Fits program v → (row_steps program).empty v ≡ false → (p : List ℕ) × IsIn v p
unfolding row_steps
some_point program v fit some = (only_point (domains_of v), least_lies (domains_of v) fit.normal (none_bare-open (domains_of v) some))

module _ (rows : Rows) (given : ℕ) where
  -- the cap of a leaf
  leaf-defined : (parent : Option Cert) (before : List Found) (cuts : List RowCut) (found : Option Found) (w : View) (end : Leaf Cert)
      → NodeDone rows given (record { parent = parent; before = before; cuts = cuts; found = found; view = w; end = closed end }) → IsDefined (leaf_cap (steps_of rows) w end)
  leaf-defined parent before cuts found w no_point done = subst (λ b. IsDefined (cond b NoPoint Bad)) (sym done.end) tt
  leaf-defined parent before cuts found w (dual cert) done = closed-defined _ _ done.end
  leaf-defined parent before cuts found w one_point done = closed-defined _ _ done.end
  leaf-defined parent before cuts found w (pending cert) done = not_bad-defined _ done.end.capped

  -- the cap of a split is the greatest of its floor's and of its parts' caps
  split-cap : (cuts : List RowCut) (found : Option Found) (pick : RowPick) (cert : Cert) (a b : RowTree) (v w x y : View)
      → after_cuts (steps_of rows) v cuts ≡ Some w → (steps_of rows).left ((steps_of rows).trim w pick cert) pick ≡ Some x → (steps_of rows).right ((steps_of rows).trim w pick cert) pick ≡ Some y
      → tree_cap (steps_of rows) v (split cuts found pick cert a b) ≡ greater (greater (floor_cap ((steps_of rows).floor w pick cert)) (tree_cap (steps_of rows) x a)) (tree_cap (steps_of rows) y b)
  split-cap cuts found pick cert a b v w x y moved left right =
      cap_at (after_cuts (steps_of rows) v cuts) w
      (λ u. split_cap (steps_of rows) u pick cert (λ z. tree_cap (steps_of rows) z a) (λ z. tree_cap (steps_of rows) z b))
      moved
      ∙ ap (λ o. greater (greater floor (cap_if o (λ z. tree_cap (steps_of rows) z a))) (cap_if ((steps_of rows).right ((steps_of rows).trim w pick cert) pick) (λ z. tree_cap (steps_of rows) z b))) left
      ∙ ap (λ o. greater (greater floor (tree_cap (steps_of rows) x a)) (cap_if o (λ z. tree_cap (steps_of rows) z b))) right
    where
      floor : Capped
      floor = floor_cap ((steps_of rows).floor w pick cert)

  -- the cap of a search is defined
  pub tree-defined : (tree : RowTree) (parent : Option Cert) (before : List Found) (v : View) → EachNode (NodeDone rows given) (steps_of rows) parent before v tree → IsDefined (tree_cap (steps_of rows) v tree)
  tree-defined (leaf cuts found end) parent before v done =
      let at = fact_of (after_cuts (steps_of rows) v cuts) _ done in
      subst IsDefined (sym (cap_at (after_cuts (steps_of rows) v cuts) at.0 (λ w. leaf_cap (steps_of rows) w end) at.1.0)) (leaf-defined parent before cuts found at.0 end at.1.1)
  tree-defined (split cuts found pick cert a b) parent before v done =
      let at = fact_of (after_cuts (steps_of rows) v cuts) _ done in
      let rest = (steps_of rows).trim at.0 pick cert in
      let left = fact_of ((steps_of rows).left rest pick) _ at.1.1.1 in
      let right = fact_of ((steps_of rows).right rest pick) _ at.1.1.2 in
      let first = tree-defined a (Some cert) _ left.0 left.1.1 in
      let second = tree-defined b (Some cert) _ right.0 right.1.1 in
      subst IsDefined (sym (split-cap cuts found pick cert a b v at.0 left.0 right.0 at.1.0 left.1.0 right.1.0)) (greater-defined _ _ (greater-defined _ _ (floor-defined ((steps_of rows).floor at.0 pick cert)) first) second)

  -- where no box is left open, the cap leaves nothing above the found points
  pub tree-closed : (tree : RowTree) (parent : Option Cert) (before : List Found) (v : View) → EachNode (NodeDone rows given) (steps_of rows) parent before v tree → opens tree ≡ 0
      → ClosedBy (tree_cap (steps_of rows) v tree) (before ++ found_points tree)
  tree-closed (leaf cuts found end) parent before v done none =
      let at = fact_of (after_cuts (steps_of rows) v cuts) _ done in
      subst (λ cap. ClosedBy cap (before ++ option_to_list found)) (sym (cap_at (after_cuts (steps_of rows) v cuts) at.0 (λ w. leaf_cap (steps_of rows) w end) at.1.0)) (leaf_closed cuts end at.0 at.1.1 none)
    where
      leaf_closed : (us : List RowCut) (e : Leaf Cert) (w : View) → NodeDone rows given (record { parent = parent; before = before; cuts = us; found = found; view = w; end = closed e }) → opens (leaf us found e) ≡ 0
          → ClosedBy (leaf_cap (steps_of rows) w e) (before ++ option_to_list found)
      leaf_closed us no_point w is over = subst (λ b. ClosedBy (cond b NoPoint Bad) (before ++ option_to_list found)) (sym is.end) tt
      leaf_closed us (dual cert) w is over = is.end
      leaf_closed us one_point w is over = is.end
      leaf_closed us (pending cert) w is over = absurd (omega arith)
  tree-closed (split cuts found pick cert a b) parent before v done none =
      let at = fact_of (after_cuts (steps_of rows) v cuts) _ done in
      let rest = (steps_of rows).trim at.0 pick cert in
      let left = fact_of ((steps_of rows).left rest pick) _ at.1.1.1 in
      let right = fact_of ((steps_of rows).right rest pick) _ at.1.1.2 in
      let own = option_to_list found in
      let first = ClosedBy-left _ _ (found_points b) (tree-closed a (Some cert) (before ++ own) left.0 left.1.1 (omega arith)) in
      let second = tree-closed b (Some cert) (before ++ (own ++ found_points a)) right.0 right.1.1 (omega arith) in
      let one = append_assoc (before ++ own) (found_points a) (found_points b) ∙ append_assoc before own (found_points a ++ found_points b) in
      let two = append_assoc before (own ++ found_points a) (found_points b) ∙ ap (λ fs. before ++ fs) (append_assoc own (found_points a) (found_points b)) in
      subst (λ cap. ClosedBy cap (before ++ (own ++ (found_points a ++ found_points b)))) (sym (split-cap cuts found pick cert a b v at.0 left.0 right.0 at.1.0 left.1.0 right.1.0))
      (ClosedBy-greater _ _ _ (ClosedBy-greater _ _ _ (subst (ClosedBy _) (append_assoc before own (found_points a ++ found_points b)) (ClosedBy-left _ _ (found_points a ++ found_points b) (floor_closed rows.program at.0 pick cert (before ++ own) at.1.1.0.end.reached))) (subst (ClosedBy _) one first)) (subst (ClosedBy _) two second))

  -- the parts of a split have points
  left_points : (v w : View) (pick : RowPick) → IsParted given (domains_of v) pick → (steps_of rows).left v pick ≡ Some w → 0 < points_in w
  unfolding row_steps
  left_points v w pick parts is =
      let ds = kept_at (domains_of v) pick.slot (up_to pick.max) in
      subst (λ xs. 0 < points_of xs) (sym (domains_there _ ds w is)) (points-open ds parts.left)

  right_points : (v w : View) (pick : RowPick) → IsParted given (domains_of v) pick → (steps_of rows).right v pick ≡ Some w → 0 < points_in w
  unfolding row_steps
  right_points v w pick parts is =
      let ds = kept_at (domains_of v) pick.slot (over pick.max) in
      subst (λ xs. 0 < points_of xs) (sym (domains_there _ ds w is)) (points-open ds parts.right)

  -- a box of n points counts at most 2 n - 1 boxes, and one less for each box that is left open
  pub tree-boxes : (tree : RowTree) (parent : Option Cert) (before : List Found) (v : View) → Fits rows.program v → 0 < points_in v → EachNode (NodeDone rows given) (steps_of rows) parent before v tree
      → counted tree + opens tree + 1 ≤ 2 * points_in v
  tree-boxes (leaf cuts found no_point) parent before v fit some done = omega arith
  tree-boxes (leaf cuts found (dual cert)) parent before v fit some done = omega arith
  tree-boxes (leaf cuts found one_point) parent before v fit some done = omega arith
  tree-boxes (leaf cuts found (pending cert)) parent before v fit some done = omega arith
  tree-boxes (split cuts found pick cert a b) parent before v fit some done =
      let at = fact_of (after_cuts (steps_of rows) v cuts) _ done in
      let rest = (steps_of rows).trim at.0 pick cert in
      let left = fact_of ((steps_of rows).left rest pick) _ at.1.1.1 in
      let right = fact_of ((steps_of rows).right rest pick) _ at.1.1.2 in
      let leave = cuts_leave rows cuts v at.0 fit at.1.0 in
      let less : IsLeftTo rows.program at.0 rest = left_to rows.program at.0 pick cert leave.fits in
      let parted' : IsParted given (domains_of rest) pick = parted_there rows.program at.0 pick cert at.1.1.0.end in
      let first : counted a + opens a + 1 ≤ 2 * points_in left.0 = tree-boxes a (Some cert) _ left.0 ((rows_sound rows.program).left_fits rest left.0 pick less.fits left.1.0) (left_points rest left.0 pick parted' left.1.0) left.1.1 in
      let second : counted b + opens b + 1 ≤ 2 * points_in right.0 = tree-boxes b (Some cert) _ right.0 ((rows_sound rows.program).right_fits rest right.0 pick less.fits right.1.0) (right_points rest right.0 pick parted' right.1.0) right.1.1 in
      let both : points_in left.0 + points_in right.0 ≡ points_in rest = points-both rows.program rest left.0 right.0 pick less.fits left.1.0 right.1.0 in
      omega (arith, first, second, both, leave.points, less.points)

  -- no node stands deeper than there are splits
  pub tree-depth : (tree : RowTree) (parent : Option Cert) (before : List Found) (v : View) → Fits rows.program v → EachNode (NodeDone rows given) (steps_of rows) parent before v tree → depth tree ≤ 1 + view_splits v
  tree-depth (leaf cuts found end) parent before v fit done = omega arith
  tree-depth (split cuts found pick cert a b) parent before v fit done =
      let at = fact_of (after_cuts (steps_of rows) v cuts) _ done in
      let rest = (steps_of rows).trim at.0 pick cert in
      let left = fact_of ((steps_of rows).left rest pick) _ at.1.1.1 in
      let right = fact_of ((steps_of rows).right rest pick) _ at.1.1.2 in
      let leave = cuts_leave rows cuts v at.0 fit at.1.0 in
      let less : IsLeftTo rows.program at.0 rest = left_to rows.program at.0 pick cert leave.fits in
      let parted' : IsParted given (domains_of rest) pick = parted_there rows.program at.0 pick cert at.1.1.0.end in
      let first : depth a ≤ 1 + view_splits left.0 = tree-depth a (Some cert) _ left.0 ((rows_sound rows.program).left_fits rest left.0 pick less.fits left.1.0) left.1.1 in
      let second : depth b ≤ 1 + view_splits right.0 = tree-depth b (Some cert) _ right.0 ((rows_sound rows.program).right_fits rest right.0 pick less.fits right.1.0) right.1.1 in
      omega (arith, first, second, splits-left rows.program rest left.0 pick parted' left.1.0, splits-right rows.program rest right.0 pick parted' right.1.0, leave.splits, less.splits)

  -- where a box is left open, one is whose area has a point
  pub tree-open : (tree : RowTree) (parent : Option Cert) (before : List Found) (v : View) → EachNode (NodeDone rows given) (steps_of rows) parent before v tree → 0 < opens tree → HasOpenBox rows v tree
  tree-open (leaf cuts found no_point) parent before v done some = absurd (omega arith)
  tree-open (leaf cuts found (dual cert)) parent before v done some = absurd (omega arith)
  tree-open (leaf cuts found one_point) parent before v done some = absurd (omega arith)
  tree-open (leaf cuts found (pending cert)) parent before v done some =
      let at = fact_of (after_cuts (steps_of rows) v cuts) _ done in
      at_some (after_cuts (steps_of rows) v cuts) at.0 _ at.1.0 (some_point rows.program at.0 at.1.1.fits at.1.1.end.some)
  tree-open (split cuts found pick cert a b) parent before v done some =
      let at = fact_of (after_cuts (steps_of rows) v cuts) _ done in
      let rest = (steps_of rows).trim at.0 pick cert in
      let left = fact_of ((steps_of rows).left rest pick) _ at.1.1.1 in
      let right = fact_of ((steps_of rows).right rest pick) _ at.1.1.2 in
      let first = tree-open a (Some cert) _ left.0 left.1.1 in
      let second = tree-open b (Some cert) _ right.0 right.1.1 in
      at_some (after_cuts (steps_of rows) v cuts) at.0 _ at.1.0 (one rest left.0 right.0 left.1.0 right.1.0 first second (opens a) refl)
    where
      one : (w x y : View) → (steps_of rows).left w pick ≡ Some x → (steps_of rows).right w pick ≡ Some y → (0 < opens a → HasOpenBox rows x a) → (0 < opens b → HasOpenBox rows y b) → (n : ℕ) → opens a ≡ n
          → IsSomeAnd ((steps_of rows).left w pick) (λ z. HasOpenBox rows z a) ⊎ IsSomeAnd ((steps_of rows).right w pick) (λ z. HasOpenBox rows z b)
      one w x y to_left to_right first second zero is = inr (at_some ((steps_of rows).right w pick) y (λ z. HasOpenBox rows z b) to_right (second (omega arith)))
      one w x y to_left to_right first second (suc n) is = inl (at_some ((steps_of rows).left w pick) x (λ z. HasOpenBox rows z a) to_left (first (omega arith)))

  -- a search is justified
  end-justified : (node : RowNode) (end : NodeEnd Cert RowPick) → NodeEndDone rows given node end → EndIsJustified rows.program given node end
  end-justified node (closed no_point) done = tt
  end-justified node (closed (dual cert)) done = tt
  end-justified node (closed one_point) done = tt
  end-justified node (closed (pending cert)) done = done.left_open
  end-justified node (parted pick cert) done = done

  pub tree-justified : (tree : RowTree) (parent : Option Cert) (before : List Found) (v : View) → EachNode (NodeDone rows given) (steps_of rows) parent before v tree → EachNode (NodeIsJustified rows given) (steps_of rows) parent before v tree
  tree-justified tree parent before v done =
      EachNode-weaker (steps_of rows) (NodeDone rows given) (NodeIsJustified rows given) (λ node is. record { group = is.group; end = end-justified node node.end is.end }) parent before v tree done
