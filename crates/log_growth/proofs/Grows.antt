-- How a proof has grown, from what was read of both.
use Rattle.std.proofs.Common.{◌≡◌, ◌∙◌, ◌⊎◌, inl, inr, ℕ, ℤ, ◌+◌, List, [], ◌++◌, Option, Some, refl, sym, ap, subst, arith}
use Rattle.std.specs.Prelude.{◌&&◌, if◌then◌else◌, IsTrue, IsSomeAnd}
use Rattle.dual_bound.specs.declared.cert.Cert.{Cert}
use Rattle.proof_tree.specs.Cap.{floor_cap}
use Rattle.proof_tree.specs.Items.{tree_items}
use Rattle.proof_tree.specs.Nodes.{counted}
use Rattle.proof_tree.specs.Tree.{Leaf, no_point, dual, one_point, pending, leaf, after_cuts}
use Rattle.proof_tree.specs.Views.{View}
use Rattle.range_prop.specs.declared.row_cut.RowCut.{RowCut}
use Rattle.row_kit.specs.declared.found.Found.{Found}
use Rattle.row_relax.specs.declared.pick.RowPick.{RowPick}
use Rattle.row_relax.specs.declared.rows.Rows.{Rows}
use Rattle.row_relax.specs.RowProofs.{RowItem, RowTree}
use Rattle.row_relax.specs.Steps.{row_steps}
use Rattle.branch_tree.specs.Deep.{is_deep}
use Rattle.log_nodes.specs.declared.node.Node.{Node}
use Rattle.log_nodes.specs.declared.node.Ending.{Ending}
use Rattle.log_nodes.specs.declared.node.Ending.TheVariants.{Empty, Dual, Point, Pending, Split}
use Rattle.log_growth.specs.declared.counts.Growth.{Growth}
use Rattle.log_nodes.specs.declared.pair.Share.{Share}
use Rattle.log_growth.specs.Growth.{BeginsWithTree, GoesOn, IsGrowth, count_if, deep_ends, floors_above, open_ends}
use Rattle.log_nodes.specs.OpenEnds.{in_share, is_open, leaves_open}
use Rattle.log_growth.specs.laws.Counts.{IsSplitCount, IsSum}
use Rattle.log_growth.specs.laws.Grown.{HasGrown, HasGrownBelow, HasGrownNode, HasGrownParts}
use Rattle.log_nodes.proofs.Skipped.{counted-tree}
use Rattle.log_nodes.specs.laws.Nodes.{Below, HasBelow, IsLeafEnd, below_items, counted_leaf, leaf_of, node_items, tree_with}
use Rattle.log_nodes.proofs.Readings.{tree-items}

-- ---- ends that split nothing

-- nothing stands below any other end
pub leaf-below : (end : Ending) → IsLeafEnd end → Below end
leaf-below Empty is = tt
leaf-below (Dual cert) is = tt
leaf-below Point is = tt
leaf-below (Pending cert) is = tt
leaf-below (Split pick cert) is = absurd is

pub leaf-items : (end : Ending) (is : IsLeafEnd end) → below_items end (leaf-below end is) ≡ []
leaf-items Empty is = refl
leaf-items (Dual cert) is = refl
leaf-items Point is = refl
leaf-items (Pending cert) is = refl
leaf-items (Split pick cert) is = absurd is

pub leaf-tree : (cuts : List RowCut) (found : Option Found) (end : Ending) (is : IsLeafEnd end) → tree_with cuts found end (leaf-below end is) ≡ leaf cuts found (leaf_of end)
leaf-tree cuts found Empty is = refl
leaf-tree cuts found (Dual cert) is = refl
leaf-tree cuts found Point is = refl
leaf-tree cuts found (Pending cert) is = refl
leaf-tree cuts found (Split pick cert) is = absurd is

leaf-counted : (cuts : List RowCut) (found : Option Found) (end : Leaf Cert) → counted {U = RowCut} {P = RowPick} {F = Found} (leaf cuts found end) ≡ counted_leaf end
leaf-counted cuts found no_point = refl
leaf-counted cuts found (dual cert) = refl
leaf-counted cuts found one_point = refl
leaf-counted cuts found (pending cert) = refl

-- every tree begins with its cuts
pub begins : (cuts more own : List RowCut) (found : Option Found) (end : Ending) (below : Below end) → own ≡ cuts ++ more → BeginsWithTree cuts (tree_with own found end below)
begins cuts more own found Empty below is = (more, is)
begins cuts more own found (Dual cert) below is = (more, is)
begins cuts more own found Point below is = (more, is)
begins cuts more own found (Pending cert) below is = (more, is)
begins cuts more own found (Split pick cert) below is = (more, is)

-- ---- an end

-- what an end was counted as, which stands over this view after its cuts
pub record IsEndCount (most : ℕ) (rows : Rows) (profit : Option ℤ) (depth : ℕ) (view : View) (end : Leaf Cert) (growth : Growth) : Type 0 where
  pub ends : growth.ends ≡ (if is_open (row_steps rows.program) profit view end then 1 else 0)
  pub deep : growth.deep ≡ (if is_open (row_steps rows.program) profit view end && is_deep most depth view then 1 else 0)
  pub floors : growth.floors ≡ 0
  pub before : growth.before ≡ counted_leaf end

-- an end is as it was, or a proof stands in the place of an open one
pub end-grown : (most : ℕ) (rows : Rows) (profit : Option ℤ) (share : Option Share) (depth n : ℕ) (v w : View) (cuts : List RowCut) (found : Option Found) (end : Leaf Cert) (grown : RowTree) (growth : Growth) → after_cuts (row_steps rows.program) v cuts ≡ Some w
    → ((grown ≡ leaf cuts found end) ⊎ (IsTrue (in_share share n) × IsTrue (is_open (row_steps rows.program) profit w end) × BeginsWithTree cuts grown)) → IsEndCount most rows profit depth w end growth → growth.after ≡ counted grown
    → IsGrowth most rows profit share depth n v (leaf cuts found end) grown growth
end-grown most rows profit share depth n v w cuts found end grown growth there is counts after = record {
  goes_on = elim is [
    | inl same ↦ inl same
    | inr new ↦ inr (new.0, subst (λ (o : Option View). IsSomeAnd o (λ x. IsTrue (is_open (row_steps rows.program) profit x end))) (sym there) new.1, new.2)
  ];
  ends = counts.ends ∙ sym (ap (λ (o : Option View). count_if o (λ x. if is_open (row_steps rows.program) profit x end then 1 else 0)) there);
  deep = counts.deep ∙ sym (ap (λ (o : Option View). count_if o (λ x. if is_open (row_steps rows.program) profit x end && is_deep most depth x then 1 else 0)) there);
  floors = counts.floors;
  before = counts.before ∙ sym (leaf-counted cuts found end);
  after = after;
}

-- the end is as it was
pub same-end : (most : ℕ) (rows : Rows) (profit : Option ℤ) (share : Option Share) (depth n : ℕ) (w : View) (node other : Node) (reads reads_out : List RowItem → Type 0) (growth : Growth) → (is : IsLeafEnd node.end) → node ≡ other → reads [] → reads_out [] → IsEndCount most rows profit depth w (leaf_of node.end) growth
    → growth.after ≡ growth.before → HasGrownBelow most rows profit share depth n w node other reads reads_out growth
same-end most rows profit share depth n w node other reads reads_out growth is same none none_out counts after =
    let below = leaf-below node.end is in
    let tree = leaf-tree node.cuts node.found node.end is in
    let items = leaf-items node.end is in
    subst (λ (own : Node). HasGrownBelow most rows profit share depth n w node own reads reads_out growth) same (record {
      below = below;
      below_out = below;
      read = subst reads (sym items) none;
      read_out = subst reads_out (sym items) none_out;
      is = λ v there. subst (λ (own : RowTree). IsGrowth most rows profit share depth n v own own growth) (sym tree)
          (end-grown most rows profit share depth n v w node.cuts node.found (leaf_of node.end) (leaf node.cuts node.found (leaf_of node.end)) growth there (inl refl) counts (after ∙ counts.before ∙ sym (leaf-counted node.cuts node.found (leaf_of node.end))));
    })

-- a proof stands in the place of an open end of the share, and begins with its cuts
pub new-end : (most : ℕ) (rows : Rows) (profit : Option ℤ) (share : Option Share) (depth n : ℕ) (w : View) (node other : Node) (reads reads_out : List RowItem → Type 0) (growth : Growth) (more : List RowCut) → (is : IsLeafEnd node.end) → reads []
    → IsTrue (in_share share n) → IsTrue (is_open (row_steps rows.program) profit w (leaf_of node.end)) → other.cuts ≡ node.cuts ++ more → HasBelow reads_out other.end growth.after → IsEndCount most rows profit depth w (leaf_of node.end) growth
    → HasGrownBelow most rows profit share depth n w node other reads reads_out growth
new-end most rows profit share depth n w node other reads reads_out growth more is none searched opened cuts has counts =
    let own = tree_with other.cuts other.found other.end has.below in
    record {
      below = leaf-below node.end is;
      below_out = has.below;
      read = subst reads (sym (leaf-items node.end is)) none;
      read_out = has.read;
      is = λ v there. subst (λ (tree : RowTree). IsGrowth most rows profit share depth n v tree own growth) (sym (leaf-tree node.cuts node.found node.end is))
          (end-grown most rows profit share depth n v w node.cuts node.found (leaf_of node.end) own growth there (inr (searched, opened, begins node.cuts more other.cuts other.found other.end has.below cuts)) counts
          (has.counts ∙ sym (counted-tree other.cuts other.found other.end has.below)));
    }

-- ---- a split

-- one, where a split of a view has a floor above a profit
abbrev pub floor_above : Rows → Option ℤ → View → RowPick → Cert → ℕ
floor_above rows profit w pick cert = if leaves_open profit (floor_cap ((row_steps rows.program).floor w pick cert)) then 1 else 0

split-grown : (most : ℕ) (rows : Rows) (profit : Option ℤ) (share : Option Share) (depth n : ℕ) (w : View) (cuts : List RowCut) (found : Option Found) (pick : RowPick) (cert : Cert) (reads reads_out : List RowItem → Type 0) (parts whole : Growth)
    → HasGrownParts most rows profit share depth n ((row_steps rows.program).trim w pick cert) pick reads reads_out parts → IsSplitCount (floor_above rows profit w pick cert) parts whole
    → HasGrownBelow most rows profit share depth n w (record { cuts = cuts; found = found; end = Split pick cert }) (record { cuts = cuts; found = found; end = Split pick cert }) reads reads_out whole
split-grown most rows profit share depth n w cuts found pick cert reads reads_out parts whole has counts =
    let s = row_steps rows.program in
    record {
      below = (has.first, has.second);
      below_out = (has.first_out, has.second_out);
      read = has.read;
      read_out = has.read_out;
      is = λ v there. record {
        goes_on = (
          has.first_out,
          (
            has.second_out,
            (
              refl,
              subst (λ (o : Option View). IsSomeAnd o (λ z. IsSomeAnd (s.left (s.trim z pick cert) pick) (λ x. GoesOn s profit (in_share share) n x has.first has.first_out
                  × IsSomeAnd (s.right (s.trim z pick cert) pick) (λ y. GoesOn s profit (in_share share) (n + open_ends s profit x has.first) y has.second has.second_out)))) (sym there) has.goes_on,
            ),
          ),
        );
        ends = counts.ends ∙ has.ends ∙ sym (ap (λ (o : Option View). count_if o (λ z. count_if (s.left (s.trim z pick cert) pick) (λ x. open_ends s profit x has.first) + count_if (s.right (s.trim z pick cert) pick) (λ y. open_ends s profit y has.second))) there);
        deep = counts.deep ∙ has.deep ∙ sym (ap (λ (o : Option View). count_if o (λ z. count_if (s.left (s.trim z pick cert) pick) (λ x. deep_ends s profit (is_deep most) (depth + 1) x has.first)
            + count_if (s.right (s.trim z pick cert) pick) (λ y. deep_ends s profit (is_deep most) (depth + 1) y has.second))) there);
        floors = counts.floors ∙ ap (λ (k : ℕ). floor_above rows profit w pick cert + k) has.floors
            ∙ sym (ap (λ (o : Option View). count_if o (λ z. floor_above rows profit z pick cert + (count_if (s.left (s.trim z pick cert) pick) (λ x. floors_above s profit x has.first) + count_if (s.right (s.trim z pick cert) pick) (λ y. floors_above s profit y has.second)))) there);
        before = omega (arith, counts.before, has.before);
        after = omega (arith, counts.after, has.after);
      };
    }

-- a node that splits, in both proofs
pub same-split : (most : ℕ) (rows : Rows) (profit : Option ℤ) (share : Option Share) (depth n : ℕ) (w : View) (node other : Node) (pick : RowPick) (cert : Cert) (reads reads_out : List RowItem → Type 0) (parts whole : Growth) → node.end ≡ Split pick cert → node ≡ other
    → HasGrownParts most rows profit share depth n ((row_steps rows.program).trim w pick cert) pick reads reads_out parts → IsSplitCount (floor_above rows profit w pick cert) parts whole → HasGrownBelow most rows profit share depth n w node other reads reads_out whole
same-split most rows profit share depth n w node other pick cert reads reads_out parts whole splits same has counts =
    subst (λ (own : Node). HasGrownBelow most rows profit share depth n w node own reads reads_out whole) same
    (subst (λ (end : Ending). HasGrownBelow most rows profit share depth n w (record { cuts = node.cuts; found = node.found; end = end }) (record { cuts = node.cuts; found = node.found; end = end }) reads reads_out whole) (sym splits)
    (split-grown most rows profit share depth n w node.cuts node.found pick cert reads reads_out parts whole has counts))

-- both parts of a split
pub both-parts : (most : ℕ) (rows : Rows) (profit : Option ℤ) (share : Option Share) (depth n next : ℕ) (view x y : View) (pick : RowPick) (one one_out two two_out reads reads_out : List RowItem → Type 0) (first second both : Growth)
    → (row_steps rows.program).left view pick ≡ Some x → (row_steps rows.program).right view pick ≡ Some y → HasGrown most rows profit share (depth + 1) n x one one_out first → HasGrown most rows profit share (depth + 1) next y two two_out second
    → next ≡ n + first.ends → ((a b : List RowItem) → one a → two b → reads (a ++ b)) → ((a b : List RowItem) → one_out a → two_out b → reads_out (a ++ b)) → IsSum first second both
    → HasGrownParts most rows profit share depth n view pick reads reads_out both
both-parts most rows profit share depth n next view x y pick one one_out two two_out reads reads_out first second both left right a b number behind behind_out sums =
    let s = row_steps rows.program in
    let on : GoesOn s profit (in_share share) (n + open_ends s profit x a.tree) y b.tree b.grown =
    subst (λ (m : ℕ). GoesOn s profit (in_share share) m y b.tree b.grown) (number ∙ ap (λ (k : ℕ). n + k) a.is.ends) b.is.goes_on in
    record {
      first = a.tree;
      second = b.tree;
      first_out = a.grown;
      second_out = b.grown;
      read = behind (tree_items a.tree) (tree_items b.tree) a.read b.read;
      read_out = behind_out (tree_items a.grown) (tree_items b.grown) a.read_out b.read_out;
      goes_on = subst (λ (o : Option View). IsSomeAnd o (λ z. GoesOn s profit (in_share share) n z a.tree a.grown × IsSomeAnd (s.right view pick) (λ q. GoesOn s profit (in_share share) (n + open_ends s profit z a.tree) q b.tree b.grown))) (sym left)
          (a.is.goes_on, subst (λ (o : Option View). IsSomeAnd o (λ q. GoesOn s profit (in_share share) (n + open_ends s profit x a.tree) q b.tree b.grown)) (sym right) on);
      ends =
          let here = ap (λ (o : Option View). count_if o (λ z. open_ends s profit z a.tree)) left in
          let there = ap (λ (o : Option View). count_if o (λ q. open_ends s profit q b.tree)) right in
          omega (arith, sums.ends, a.is.ends, b.is.ends, here, there);
      deep =
          let here = ap (λ (o : Option View). count_if o (λ z. deep_ends s profit (is_deep most) (depth + 1) z a.tree)) left in
          let there = ap (λ (o : Option View). count_if o (λ q. deep_ends s profit (is_deep most) (depth + 1) q b.tree)) right in
          omega (arith, sums.deep, a.is.deep, b.is.deep, here, there);
      floors =
          let here = ap (λ (o : Option View). count_if o (λ z. floors_above s profit z a.tree)) left in
          let there = ap (λ (o : Option View). count_if o (λ q. floors_above s profit q b.tree)) right in
          omega (arith, sums.floors, a.is.floors, b.is.floors, here, there);
      before = omega (arith, sums.before, a.is.before, b.is.before);
      after = omega (arith, sums.after, a.is.after, b.is.after);
    }

-- ---- a whole node

-- a node was read, and what stands below it
pub node-grown : (most : ℕ) (rows : Rows) (profit : Option ℤ) (share : Option Share) (depth n : ℕ) (v : View) (node other : Node) (reads reads_out all all_out : List RowItem → Type 0) (growth : Growth) → ((items : List RowItem) → reads items → all (node_items node ++ items))
    → ((items : List RowItem) → reads_out items → all_out (node_items other ++ items)) → HasGrownNode most rows profit share depth n v node other reads reads_out growth → HasGrown most rows profit share depth n v all all_out growth
node-grown most rows profit share depth n v node other reads reads_out all all_out growth behind behind_out has =
    let below = has.below.below in
    let below_out = has.below.below_out in
    record {
      tree = tree_with node.cuts node.found node.end below;
      grown = tree_with other.cuts other.found other.end below_out;
      read = subst all (tree-items node.cuts node.found node.end below) (behind (below_items node.end below) has.below.read);
      read_out = subst all_out (tree-items other.cuts other.found other.end below_out) (behind_out (below_items other.end below_out) has.below.read_out);
      is = has.below.is v has.there;
    }
