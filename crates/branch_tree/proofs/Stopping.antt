-- The items that were put before a search broke off begin those of some proof.
use Rattle.std.proofs.Common.{◌≡◌, ℕ, Bool, suc, ◌+◌, ◌<◌, ◌≤◌, length, get_or, take, drop, List, [], ◌∷◌, ◌++◌, refl, ap, sym, ◌∙◌, Option, Some, None, append_assoc, append-nil, map, inl, inr, arith, subst}
use Rattle.std.specs.Prelude.{OnErr, Result, Ok, Err, ◌⊎◌, IfSome}
use Rattle.std.specs.List.{All}
use Rattle.std.proofs.Math.Seq.{drop-cons}
use Rattle.std.proofs.lemmas.List.{map-append, take-append-drop}
use Rattle.std.proofs.lemmas.List.Elements.{All-append, All-cons, All-nil}
use Rattle.row_kit.specs.declared.found.Found.{Found}
use Rattle.range_prop.specs.declared.row_cut.RowCut.{RowCut}
use Rattle.dual_bound.specs.declared.cert.Cert.{Cert}
use Rattle.proof_tree.specs.declared.item.Item.TheVariants.{Node, Cut, Found as FoundItem, Empty, Dual, Point, Pending, Split}
use Rattle.proof_tree.specs.Items.{tree_items, depth}
use Rattle.proof_tree.specs.Tree.{no_point, dual, one_point, pending, leaf}
use Rattle.proof_tree.specs.Views.{View}
use Rattle.row_relax.specs.declared.pick.RowPick.{RowPick}
use Rattle.row_relax.specs.RowProofs.{RowItem, RowTree}
use Rattle.row_relax.specs.declared.rows.Rows.{Rows}
use Rattle.row_relax.specs.Choices.{choices_of}
use Rattle.branch_tree.specs.Justified.{IsGroup}
use Rattle.branch_tree.specs.Searched.{IsFitItem}
use Rattle.branch_tree.specs.laws.Ends.{ItemEnds, view_splits}
use Rattle.branch_tree.specs.laws.Handed.{Grows, Tail, closing, parting, node_of, head_items, found_items, tail_items}
use Rattle.branch_tree.specs.laws.Stops.{Stopped, HeadStopped, LookStopped, TailStopped, PartsStopped, BoxStopped, tail_depth}
use Rattle.branch_tree.proofs.Growing.{Grows-more, Grows-none}

-- a fact after any error
pub at_err : {X E : Type 0} (r : Result X E) (P : Type 0) → P → OnErr r P
at_err (Ok x) P p = tt
at_err (Err e) P p = p

module _ {T O : Type 0} (took broke : T → O → List RowItem → T → O → Type 0) where
  -- all were put, and then it stopped
  pub stopped_done : (t : T) (o : O) (xs : List RowItem) (t2 : T) (o2 : O) → Grows took took t o xs t2 o2 → Stopped took broke t o xs t2 o2
  stopped_done t o xs t2 o2 grown = record { items = xs; later = []; first = sym (append-nil xs); grows = inl grown }

  -- the taker stopped at the last
  pub stopped_last : (t : T) (o : O) (xs : List RowItem) (t2 : T) (o2 : O) → Grows took broke t o xs t2 o2 → Stopped took broke t o xs t2 o2
  stopped_last t o xs t2 o2 grown = record { items = xs; later = []; first = sym (append-nil xs); grows = inr grown }

  -- it stopped before the first
  pub stopped_none : (t : T) (o : O) (xs : List RowItem) → Stopped took broke t o xs t o
  stopped_none t o xs = record { items = []; later = xs; first = refl; grows = inl (Grows-none took t o) }

  -- more items would have followed
  pub stopped_longer : (t : T) (o : O) (xs ys : List RowItem) (t2 : T) (o2 : O) → Stopped took broke t o xs t2 o2 → Stopped took broke t o (xs ++ ys) t2 o2
  stopped_longer t o xs ys t2 o2 s = record { items = s.items; later = s.later ++ ys; first = ap (λ zs. zs ++ ys) s.first ∙ append_assoc s.items s.later ys; grows = s.grows }

  -- it stopped after these items
  pub stopped_after : (t : T) (o : O) (xs : List RowItem) (t1 : T) (o1 : O) (ys : List RowItem) (t2 : T) (o2 : O)
      → Grows took took t o xs t1 o1 → Stopped took broke t1 o1 ys t2 o2 → Stopped took broke t o (xs ++ ys) t2 o2
  stopped_after t o xs t1 o1 ys t2 o2 grown s = record {
    items = xs ++ s.items;
    later = s.later;
    first = ap (λ zs. xs ++ zs) s.first ∙ sym (append_assoc xs s.items s.later);
    grows = elim s.grows [
      | inl more ↦ inl (Grows-more took took t o xs t1 o1 s.items t2 o2 grown more)
      | inr more ↦ inr (Grows-more took broke t o xs t1 o1 s.items t2 o2 grown more)
    ];
  }

  -- the taker stopped at a cut
  pub stopped_cut : (cuts : List RowCut) (place : ℕ) (d : RowCut) (t : T) (o : O) (t1 : T) (o1 : O) (t2 : T) (o2 : O) → place < length cuts
      → Grows took took t o (map Cut (take place cuts)) t1 o1 → Grows took broke t1 o1 (Cut (get_or cuts place d) ∷ []) t2 o2 → Stopped took broke t o (map Cut cuts) t2 o2
  stopped_cut cuts place d t o t1 o1 t2 o2 less grown last =
      let rest : List RowItem = map Cut (drop (suc place) cuts) in
      let here : map Cut (drop place cuts) ≡ Cut (get_or cuts place d) ∷ rest = ap (map Cut) (drop-cons cuts place d less) in
      let all : map Cut (take place cuts) ++ Cut (get_or cuts place d) ∷ rest ≡ map Cut cuts =
      ap (λ xs. map Cut (take place cuts) ++ xs) (sym here) ∙ sym (map-append Cut (take place cuts) (drop place cuts)) ∙ ap (map Cut) (take-append-drop place cuts) in
      subst (λ items. Stopped took broke t o items t2 o2) all
      (stopped_after t o (map Cut (take place cuts)) t1 o1 (Cut (get_or cuts place d) ∷ rest) t2 o2 grown
      (stopped_longer t1 o1 (Cut (get_or cuts place d) ∷ []) rest t2 o2 (stopped_last t1 o1 (Cut (get_or cuts place d) ∷ []) t2 o2 last)))

  -- at the first of two items, or at the second
  pub stopped_first : (t : T) (o : O) (x y : RowItem) (t2 : T) (o2 : O) → Grows took broke t o (x ∷ []) t2 o2 → Stopped took broke t o (x ∷ (y ∷ [])) t2 o2
  stopped_first t o x y t2 o2 grown = stopped_longer t o (x ∷ []) (y ∷ []) t2 o2 (stopped_last t o (x ∷ []) t2 o2 grown)

  pub stopped_second : (t : T) (o : O) (x y : RowItem) (t1 : T) (o1 : O) (t2 : T) (o2 : O) → Grows took took t o (x ∷ []) t1 o1 → Stopped took broke t1 o1 (y ∷ []) t2 o2 → Stopped took broke t o (x ∷ (y ∷ [])) t2 o2
  stopped_second t o x y t1 o1 t2 o2 grown s = stopped_after t o (x ∷ []) t1 o1 (y ∷ []) t2 o2 grown s

-- a box that says nothing but that it has no point
abbrev pub bare_box : RowTree
bare_box = leaf [] None no_point

-- the items of a node are its first items, its found point's and its end's
pub node_items : (cuts : List RowCut) (found : Option Found) (tail : Tail) → tree_items (node_of cuts found tail) ≡ head_items cuts ++ (found_items found ++ tail_items tail)
node_items cuts found (closing end) = refl
node_items cuts found (parting pick cert a b) = refl

pub node_depth : (cuts : List RowCut) (found : Option Found) (tail : Tail) → depth (node_of cuts found tail) ≡ 1 + tail_depth tail
node_depth cuts found (closing end) = refl
node_depth cuts found (parting pick cert a b) = refl

module _ (rows : Rows) (floors : Bool) where
  -- the items of a node are fit where its parts are
  pub fit_node : (cuts : List RowCut) (found : Option Found) (tail : Tail) → All (IsFitItem rows floors) (head_items cuts) → All (IsFitItem rows floors) (found_items found) → All (IsFitItem rows floors) (tail_items tail) → All (IsFitItem rows floors) (tree_items (node_of cuts found tail))
  fit_node cuts found tail head point end =
      subst (All (IsFitItem rows floors)) (sym (node_items cuts found tail))
      (All-append (IsFitItem rows floors) (head_items cuts) (found_items found ++ tail_items tail) head (All-append (IsFitItem rows floors) (found_items found) (tail_items tail) point end))

  pub fit_found : (found : Option Found) → IfSome found (IsGroup (choices_of rows)) → All (IsFitItem rows floors) (found_items found)
  fit_found None group = All-nil (IsFitItem rows floors)
  fit_found (Some f) group = All-cons (IsFitItem rows floors) (FoundItem f) [] group (All-nil (IsFitItem rows floors))

  pub fit_empty : All (IsFitItem rows floors) (Empty ∷ [])
  fit_empty = All-cons (IsFitItem rows floors) Empty [] tt (All-nil (IsFitItem rows floors))

  pub fit_bare : All (IsFitItem rows floors) (tree_items bare_box)
  fit_bare = All-cons (IsFitItem rows floors) Node (Empty ∷ []) tt fit_empty

module _ {T O : Type 0} (took broke : T → O → List RowItem → T → O → Type 0) (rows : Rows) (floors : Bool) where
  -- a box that stopped within its first items
  pub box_in_head : (view : View) (t : T) (o : O) (t2 : T) (o2 : O) → HeadStopped took broke rows floors t o t2 o2 → BoxStopped took broke rows floors view t o t2 o2
  box_in_head view t o t2 o2 s = record {
    tree = node_of s.cuts None (closing no_point);
    fit = fit_node rows floors s.cuts None (closing no_point) s.fit (All-nil (IsFitItem rows floors)) (fit_empty rows floors);
    deep = omega arith;
    stopped = stopped_longer took broke t o (head_items s.cuts) (Empty ∷ []) t2 o2 s.stopped;
  }

  -- within its found point
  pub box_in_look : (view : View) (cuts : List RowCut) (t : T) (o : O) (t1 : T) (o1 : O) (t2 : T) (o2 : O) → All (IsFitItem rows floors) (head_items cuts) → Grows took took t o (head_items cuts) t1 o1
      → LookStopped took broke rows floors t1 o1 t2 o2 → BoxStopped took broke rows floors view t o t2 o2
  box_in_look view cuts t o t1 o1 t2 o2 fit grown s = record {
    tree = node_of cuts s.found (closing no_point);
    fit = fit_node rows floors cuts s.found (closing no_point) fit s.fit (fit_empty rows floors);
    deep = omega arith;
    stopped = stopped_after took broke t o (head_items cuts) t1 o1 (found_items s.found ++ Empty ∷ []) t2 o2 grown (stopped_longer took broke t1 o1 (found_items s.found) (Empty ∷ []) t2 o2 s.stopped);
  }

  -- within its end and what stands below it
  pub box_in_tail : (view : View) (cuts : List RowCut) (found : Option Found) (t : T) (o : O) (t1 : T) (o1 : O) (t2 : T) (o2 : O) (t3 : T) (o3 : O) (after : View)
      → view_splits after ≤ view_splits view → All (IsFitItem rows floors) (head_items cuts) → IfSome found (IsGroup (choices_of rows))
      → Grows took took t o (head_items cuts) t1 o1 → Grows took took t1 o1 (found_items found) t2 o2
      → TailStopped took broke rows floors after t2 o2 t3 o3 → BoxStopped took broke rows floors view t o t3 o3
  box_in_tail view cuts found t o t1 o1 t2 o2 t3 o3 after fewer fit group grown more s =
      let deep : depth (node_of cuts found s.tail) ≤ 1 + view_splits view = omega (arith, node_depth cuts found s.tail, s.deep) in
      record {
        tree = node_of cuts found s.tail;
        fit = fit_node rows floors cuts found s.tail fit (fit_found rows floors found group) s.fit;
        deep = deep;
        stopped = subst (λ items. Stopped took broke t o items t3 o3) (sym (node_items cuts found s.tail))
            (stopped_after took broke t o (head_items cuts) t1 o1 (found_items found ++ tail_items s.tail) t3 o3 grown
            (stopped_after took broke t1 o1 (found_items found) t2 o2 (tail_items s.tail) t3 o3 more s.stopped));
      }

  -- the taker stopped at the end of a box
  pub tail_at_item : (given : ℕ) (view : View) (item : RowItem) (fs : List Found) (t : T) (o : O) (t2 : T) (o2 : O) → ItemEnds rows given view fs item → IsFitItem rows floors item
      → 1 ≤ view_splits view ⊎ ((pick : RowPick) (cert : Cert) → item ≡ Split pick cert → ⊥)
      → Grows took broke t o (item ∷ []) t2 o2 → TailStopped took broke rows floors view t o t2 o2
  tail_at_item given view Node fs t o t2 o2 ends fit room grown = absurd ends
  tail_at_item given view (Cut cut) fs t o t2 o2 ends fit room grown = absurd ends
  tail_at_item given view (FoundItem f) fs t o t2 o2 ends fit room grown = absurd ends
  tail_at_item given view (Pending cert) fs t o t2 o2 ends fit room grown = absurd ends
  tail_at_item given view Empty fs t o t2 o2 ends fit room grown = record { tail = closing no_point; fit = fit_empty rows floors; deep = omega arith; stopped = stopped_last took broke t o (Empty ∷ []) t2 o2 grown }
  tail_at_item given view (Dual cert) fs t o t2 o2 ends fit room grown = record {
    tail = closing (dual cert);
    fit = All-cons (IsFitItem rows floors) (Dual cert) [] fit (All-nil (IsFitItem rows floors));
    deep = omega arith;
    stopped = stopped_last took broke t o (Dual cert ∷ []) t2 o2 grown;
  }
  tail_at_item given view Point fs t o t2 o2 ends fit room grown = record {
    tail = closing one_point;
    fit = All-cons (IsFitItem rows floors) Point [] tt (All-nil (IsFitItem rows floors));
    deep = omega arith;
    stopped = stopped_last took broke t o (Point ∷ []) t2 o2 grown;
  }
  tail_at_item given view (Split pick cert) fs t o t2 o2 ends fit room grown = record {
    tail = parting pick cert bare_box bare_box;
    fit = All-cons (IsFitItem rows floors) (Split pick cert) (tree_items bare_box ++ tree_items bare_box) fit (All-append (IsFitItem rows floors) (tree_items bare_box) (tree_items bare_box) (fit_bare rows floors) (fit_bare rows floors));
    deep = elim room [ inl some ↦ omega arith | inr never ↦ absurd (never pick cert refl) ];
    stopped = stopped_longer took broke t o (Split pick cert ∷ []) (tree_items bare_box ++ tree_items bare_box) t2 o2 (stopped_last took broke t o (Split pick cert ∷ []) t2 o2 grown);
  }

  -- the parts of a split stopped
  pub tail_in_parts : (view : View) (pick : RowPick) (cert : Cert) (t : T) (o : O) (t1 : T) (o1 : O) (t2 : T) (o2 : O) → IsFitItem rows floors (Split pick cert)
      → Grows took took t o (Split pick cert ∷ []) t1 o1 → PartsStopped took broke rows floors view t1 o1 t2 o2 → TailStopped took broke rows floors view t o t2 o2
  tail_in_parts view pick cert t o t1 o1 t2 o2 fit grown s = record {
    tail = parting pick cert s.first s.second;
    fit = All-cons (IsFitItem rows floors) (Split pick cert) (tree_items s.first ++ tree_items s.second) fit s.fit;
    deep = s.deep;
    stopped = stopped_after took broke t o (Split pick cert ∷ []) t1 o1 (tree_items s.first ++ tree_items s.second) t2 o2 grown s.stopped;
  }

  -- the left part of a split stopped
  pub parts_in_first : (view part : View) (t : T) (o : O) (t2 : T) (o2 : O) → view_splits part + 1 ≤ view_splits view → BoxStopped took broke rows floors part t o t2 o2 → PartsStopped took broke rows floors view t o t2 o2
  parts_in_first view part t o t2 o2 fewer s = record {
    first = s.tree;
    second = bare_box;
    fit = All-append (IsFitItem rows floors) (tree_items s.tree) (tree_items bare_box) s.fit (fit_bare rows floors);
    deep = omega (arith, s.deep);
    stopped = stopped_longer took broke t o (tree_items s.tree) (tree_items bare_box) t2 o2 s.stopped;
  }

  -- the right part of a split stopped
  pub parts_in_second : (view part : View) (first : RowTree) (t : T) (o : O) (t1 : T) (o1 : O) (t2 : T) (o2 : O) → depth first ≤ view_splits view → view_splits part + 1 ≤ view_splits view
      → All (IsFitItem rows floors) (tree_items first) → Grows took took t o (tree_items first) t1 o1 → BoxStopped took broke rows floors part t1 o1 t2 o2 → PartsStopped took broke rows floors view t o t2 o2
  parts_in_second view part first t o t1 o1 t2 o2 shallow fewer fit grown s = record {
    first = first;
    second = s.tree;
    fit = All-append (IsFitItem rows floors) (tree_items first) (tree_items s.tree) fit s.fit;
    deep = omega (arith, s.deep);
    stopped = stopped_after took broke t o (tree_items first) t1 o1 (tree_items s.tree) t2 o2 grown s.stopped;
  }

  -- what the floor of a split leaves stopped
  pub parts_of_rest : (view rest : View) (t : T) (o : O) (t2 : T) (o2 : O) → view_splits rest ≤ view_splits view → PartsStopped took broke rows floors rest t o t2 o2 → PartsStopped took broke rows floors view t o t2 o2
  parts_of_rest view rest t o t2 o2 fewer s = record { first = s.first; second = s.second; fit = s.fit; deep = omega (arith, s.deep, fewer); stopped = s.stopped }

  -- a part that was to be left open stopped
  pub open_stopped : (view : View) (cert : Cert) (t : T) (o : O) (t2 : T) (o2 : O) → IsFitItem rows floors (Pending cert) → Stopped took broke t o (Node ∷ (Pending cert ∷ [])) t2 o2 → BoxStopped took broke rows floors view t o t2 o2
  open_stopped view cert t o t2 o2 fit s = record {
    tree = leaf [] None (pending cert);
    fit = All-cons (IsFitItem rows floors) Node (Pending cert ∷ []) tt (All-cons (IsFitItem rows floors) (Pending cert) [] fit (All-nil (IsFitItem rows floors)));
    deep = omega arith;
    stopped = s;
  }

  -- a part stopped before its first item
  pub box_before : (view : View) (t : T) (o : O) → BoxStopped took broke rows floors view t o t o
  box_before view t o = record { tree = bare_box; fit = fit_bare rows floors; deep = omega arith; stopped = stopped_none took broke t o (tree_items bare_box) }

  -- a box stopped after its first items, before its found point
  pub look_before : (t : T) (o : O) → LookStopped took broke rows floors t o t o
  look_before t o = record { found = None; fit = All-nil (IsFitItem rows floors); stopped = stopped_none took broke t o [] }

  -- the found point stopped, or what comes after it
  pub look_in_found : (found : Option Found) (t : T) (o : O) (t2 : T) (o2 : O) → IfSome found (IsGroup (choices_of rows)) → Stopped took broke t o (found_items found) t2 o2 → LookStopped took broke rows floors t o t2 o2
  look_in_found found t o t2 o2 group s = record { found = found; fit = fit_found rows floors found group; stopped = s }

  pub look_after : (found : Option Found) (t : T) (o : O) (t2 : T) (o2 : O) → IfSome found (IsGroup (choices_of rows)) → Grows took took t o (found_items found) t2 o2 → LookStopped took broke rows floors t o t2 o2
  look_after found t o t2 o2 group grown = record { found = found; fit = fit_found rows floors found group; stopped = stopped_done took broke t o (found_items found) t2 o2 grown }

  -- the node stopped, or its cuts did
  pub head_at_node : (t : T) (o : O) (t2 : T) (o2 : O) → Grows took broke t o (Node ∷ []) t2 o2 → HeadStopped took broke rows floors t o t2 o2
  head_at_node t o t2 o2 grown = record { cuts = []; fit = All-cons (IsFitItem rows floors) Node [] tt (All-nil (IsFitItem rows floors)); stopped = stopped_last took broke t o (Node ∷ []) t2 o2 grown }

  pub head_before_cuts : (t : T) (o : O) (t2 : T) (o2 : O) → Grows took took t o (Node ∷ []) t2 o2 → HeadStopped took broke rows floors t o t2 o2
  head_before_cuts t o t2 o2 grown = record { cuts = []; fit = All-cons (IsFitItem rows floors) Node [] tt (All-nil (IsFitItem rows floors)); stopped = stopped_done took broke t o (Node ∷ []) t2 o2 grown }

  pub head_in_cuts : (cuts : List RowCut) (t : T) (o : O) (t1 : T) (o1 : O) (t2 : T) (o2 : O) → All (IsFitItem rows floors) (head_items cuts) → Grows took took t o (Node ∷ []) t1 o1 → Stopped took broke t1 o1 (map Cut cuts) t2 o2 → HeadStopped took broke rows floors t o t2 o2
  head_in_cuts cuts t o t1 o1 t2 o2 fit grown s = record { cuts = cuts; fit = fit; stopped = stopped_after took broke t o (Node ∷ []) t1 o1 (map Cut cuts) t2 o2 grown s }
