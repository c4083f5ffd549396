-- From what the parts of a search put to what the whole put.
use Rattle.std.proofs.Common.{◌≡◌, ◌≢◌, ℕ, zero, suc, ◌+◌, ◌<◌, ◌≤◌, Bool, false, cond, List, [], ◌∷◌, ◌++◌, Option, Some, None, option_to_list, refl, ap, sym, ◌∙◌, subst, arith, append_assoc, append-nil}
use Rattle.std.specs.Prelude.{IfOk, IfSome, OnOk, Result, Ok, Err, ⊤}
use Rattle.std.specs.Option.{IsSomeAnd}
use Rattle.std.proofs.lemmas.List.Elements.{All-append, All-cons, All-nil}
use Rattle.row_kit.specs.declared.found.Found.{Found}
use Rattle.range_prop.specs.declared.row_cut.RowCut.{RowCut}
use Rattle.dual_bound.specs.declared.cert.Cert.{Cert}
use Rattle.proof_tree.specs.declared.capped.Capped.{Capped}
use Rattle.proof_tree.specs.declared.capped.Capped.TheVariants.{NoPoint, Bad}
use Rattle.proof_tree.specs.declared.item.Item.TheVariants.{Node as NodeItem, Empty, Dual, Point, Pending, Split}
use Rattle.proof_tree.specs.Cap.{floor_cap, greater}
use Rattle.proof_tree.specs.Items.{tree_items, leaf_item}
use Rattle.proof_tree.specs.Nodes.{EachNode, closed, counted, found_points}
use Rattle.proof_tree.specs.Tree.{Leaf, no_point, dual, one_point, pending, leaf, tree_cap, leaf_cap, cap_if, split_cap, after_cuts}
use Rattle.proof_tree.specs.Views.{View}
use Rattle.row_relax.specs.declared.pick.RowPick.{RowPick}
use Rattle.row_relax.specs.View.{Fits}
use Rattle.row_relax.specs.declared.rows.Rows.{Rows}
use Rattle.row_relax.specs.Choices.{choices_of, steps_of}
use Rattle.branch_tree.specs.declared.reached.Reached.{Reached}
use Rattle.branch_tree.specs.Justified.{RowNode, IsGroup}
use Rattle.row_relax.specs.RowProofs.{RowItem}
use Rattle.branch_tree.specs.Searched.{IsBest, IsFitItem}
use Rattle.branch_tree.specs.laws.Ends.{EndDone, ItemEnds, NodeDone, NodeEndDone}
use Rattle.branch_tree.specs.laws.Handed.{Grows, Tail, closing, parting, node_of, head_items, found_items, tail_items, tail_found, opens, TailDone, HeadHanded, LookHanded, TailHanded, SplitHanded, PartsHanded, BoxHanded}
use Rattle.branch_tree.proofs.Best.{IsBest-itself, greater_assoc}
use Rattle.branch_tree.proofs.Growing.{Grows-more, Grows-same}
use Rattle.branch_tree.proofs.Stopping.{fit_found, fit_node, node_items}
use Rattle.branch_tree.proofs.Trees.{at_some, cap_at}

-- the found points of a node are its own and those below
node_found : (cuts : List RowCut) (found : Option Found) (tail : Tail) → found_points (node_of cuts found tail) ≡ option_to_list found ++ tail_found tail
node_found cuts found (closing end) = sym (append-nil (option_to_list found))
node_found cuts found (parting pick cert a b) = refl

module _ (rows : Rows) (given : ℕ) where
  -- the end of a counted node
  leaf_done : (node : RowNode) (end : Leaf Cert) → EndDone rows given node.view (node.before ++ option_to_list node.found) (closed end) → NodeEndDone rows given node (closed end)
  leaf_done node no_point done = done
  leaf_done node (dual cert) done = done
  leaf_done node one_point done = done
  leaf_done node (pending cert) done = absurd done

  -- a node whose end is as a search leaves it
  node_done : (parent : Option Cert) (before : List Found) (cuts : List RowCut) (found : Option Found) (tail : Tail) (v w : View) → after_cuts (steps_of rows) v cuts ≡ Some w → Fits rows.program w → IfSome found (IsGroup (choices_of rows))
      → TailDone rows given w (before ++ option_to_list found) tail → EachNode (NodeDone rows given) (steps_of rows) parent before v (node_of cuts found tail)
  node_done parent before cuts found (closing end) v w moved fit group done =
      at_some (after_cuts (steps_of rows) v cuts) w _ moved
      (record { group = group; fits = fit; end = leaf_done (record { parent = parent; before = before; cuts = cuts; found = found; view = w; end = closed end }) end done })
  node_done parent before cuts found (parting pick cert a b) v w moved fit group done =
      at_some (after_cuts (steps_of rows) v cuts) w _ moved (
        record { group = group; fits = fit; end = done.0 },
        done.1,
        subst (λ fs. IsSomeAnd ((steps_of rows).right ((steps_of rows).trim w pick cert) pick) (λ y. EachNode (NodeDone rows given) (steps_of rows) (Some cert) fs y b)) (append_assoc before (option_to_list found) (found_points a)) done.2,
      )

module _ {T O : Type 0} (took : T → O → List RowItem → T → O → Type 0) (rows : Rows) (floors : Bool) (given budget : ℕ) (may_leave : Bool) where
  -- a box whose first items, found point and end were put
  pub box_handed : (v w : View) (cap : Capped) (item : RowItem) (old between mid new : Reached) (t : T) (o : O) (t1 : T) (o1 : O) (t2 : T) (o2 : O) (t3 : T) (o3 : O)
      → Fits rows.program w → between.best ≡ old.best → mid.spent ≡ old.spent + 1
      → HeadHanded took rows floors v t o w t1 o1
      → LookHanded took rows floors given w item between t1 o1 mid t2 o2
      → TailHanded took rows floors given budget may_leave w cap mid t2 o2 new t3 o3
      → BoxHanded took (λ parent. ⊤) rows floors given budget may_leave v cap old t o new t3 o3
  box_handed v w cap item old between mid new t o t1 o1 t2 o2 t3 o3 fit same one_more head look tail = record {
    tree = node_of head.cuts look.found tail.tail;
    done = λ parent before any best.
        node_done rows given parent before head.cuts look.found tail.tail v w head.moved fit look.group (tail.done (before ++ option_to_list look.found) (look.best before (from_old before best)));
    best = λ before best.
        let all = tail.best (before ++ option_to_list look.found) (look.best before (from_old before best)) in
        let order = append_assoc before (option_to_list look.found) (tail_found tail.tail) ∙ ap (λ fs. before ++ fs) (sym (node_found head.cuts look.found tail.tail)) in
        subst (IsBest new.best) order all;
    capped = tail.capped head.cuts look.found v head.moved;
    counts = tail.counts head.cuts look.found old.spent one_more;
    fit = fit_node rows floors head.cuts look.found tail.tail head.fit (fit_found rows floors look.found look.group) tail.fit;
    handed = Grows-same took took t o _ (tree_items (node_of head.cuts look.found tail.tail)) t3 o3 (sym (node_items head.cuts look.found tail.tail))
        (Grows-more took took t o (head_items head.cuts) t1 o1 (found_items look.found ++ tail_items tail.tail) t3 o3 head.handed
        (Grows-more took took t1 o1 (found_items look.found) t2 o2 (tail_items tail.tail) t3 o3 look.handed tail.handed));
  }
    where
      from_old : (before : List Found) → IsBest old.best before → IsBest between.best before
      from_old before best = subst (λ b. IsBest b before) (sym same) best

  -- an end without parts
  tail_leaf : (v : View) (end : Leaf Cert) (cap : Capped) (r : Reached) (t : T) (o : O) (t2 : T) (o2 : O)
      → ((fs : List Found) → IsBest r.best fs → EndDone rows given v fs (closed end)) → cap ≡ leaf_cap (steps_of rows) v end
      → ((cuts : List RowCut) (found : Option Found) → (counted {P = RowPick} (leaf cuts found end) ≡ 1) × (opens (leaf cuts found end) ≡ 0))
      → IsFitItem rows floors (leaf_item end) → Grows took took t o (leaf_item end ∷ []) t2 o2
      → TailHanded took rows floors given budget may_leave v cap r t o r t2 o2
  tail_leaf v end cap r t o t2 o2 done is one fit grown = record {
    tail = closing end;
    done = done;
    best = λ fs best. subst (IsBest r.best) (sym (append-nil fs)) best;
    capped = λ cuts found first moved. is ∙ sym (cap_at (after_cuts (steps_of rows) first cuts) v (λ w. leaf_cap (steps_of rows) w end) moved);
    counts = λ cuts found spent more. record {
      counted = more ∙ sym (ap (λ n. spent + n) (one cuts found).0);
      full = λ never some. let none : opens (leaf cuts found end) ≡ 0 = (one cuts found).1 in absurd (omega (arith, none, some));
    };
    fit = All-cons (IsFitItem rows floors) (leaf_item end) [] fit (All-nil (IsFitItem rows floors));
    handed = grown;
  }

  pub tail_empty : (v : View) (r : Reached) (t : T) (o : O) (t2 : T) (o2 : O) → ((fs : List Found) → IsBest r.best fs → ItemEnds rows given v fs Empty) → Grows took took t o (Empty ∷ []) t2 o2
      → TailHanded took rows floors given budget may_leave v NoPoint r t o r t2 o2
  tail_empty v r t o t2 o2 done grown =
      let bare = done (option_to_list r.best) (IsBest-itself r.best) in
      tail_leaf v no_point NoPoint r t o t2 o2 done (sym (ap (λ b. cond b NoPoint Bad) bare)) (λ cuts found. (refl, refl)) tt grown

  pub tail_dual : (v : View) (cert : Cert) (cap : Capped) (r : Reached) (t : T) (o : O) (t2 : T) (o2 : O) → ((fs : List Found) → IsBest r.best fs → ItemEnds rows given v fs (Dual cert)) → cap ≡ (steps_of rows).cap v cert
      → IsFitItem rows floors (Dual cert) → Grows took took t o (Dual cert ∷ []) t2 o2 → TailHanded took rows floors given budget may_leave v cap r t o r t2 o2
  tail_dual v cert cap r t o t2 o2 done is fit grown = tail_leaf v (dual cert) cap r t o t2 o2 done is (λ cuts found. (refl, refl)) fit grown

  pub tail_point : (v : View) (cap : Capped) (r : Reached) (t : T) (o : O) (t2 : T) (o2 : O) → ((fs : List Found) → IsBest r.best fs → ItemEnds rows given v fs Point) → cap ≡ (steps_of rows).settle v
      → Grows took took t o (Point ∷ []) t2 o2 → TailHanded took rows floors given budget may_leave v cap r t o r t2 o2
  tail_point v cap r t o t2 o2 done is grown = tail_leaf v one_point cap r t o t2 o2 done is (λ cuts found. (refl, refl)) tt grown

  -- a split with the parts of what it leaves
  pub tail_split : (v : View) (pick : RowPick) (cert : Cert) (cap : Capped) (old new : Reached) (t : T) (o : O) (t1 : T) (o1 : O) (t2 : T) (o2 : O)
      → ((fs : List Found) → IsBest old.best fs → ItemEnds rows given v fs (Split pick cert)) → IsFitItem rows floors (Split pick cert)
      → Grows took took t o (Split pick cert ∷ []) t1 o1 → SplitHanded took rows floors given budget may_leave v pick cert cap old t1 o1 new t2 o2
      → TailHanded took rows floors given budget may_leave v cap old t o new t2 o2
  tail_split v pick cert cap old new t o t1 o1 t2 o2 done fit grown split = record {
    tail = parting pick cert split.parts.first split.parts.second;
    done = λ fs best. (done fs best, split.parts.first_done fs best, split.parts.second_done fs best);
    best = split.parts.best;
    capped = λ cuts found first moved. split.capped ∙ ap (greater (floor_cap ((steps_of rows).floor v pick cert))) split.parts.capped
        ∙ greater_assoc (floor_cap ((steps_of rows).floor v pick cert)) (cap_if ((steps_of rows).left ((steps_of rows).trim v pick cert) pick) (λ x. tree_cap (steps_of rows) x split.parts.first))
        (cap_if ((steps_of rows).right ((steps_of rows).trim v pick cert) pick) (λ y. tree_cap (steps_of rows) y split.parts.second))
        ∙ sym (cap_at (after_cuts (steps_of rows) first cuts) v (λ w. split_cap (steps_of rows) w pick cert (λ x. tree_cap (steps_of rows) x split.parts.first) (λ y. tree_cap (steps_of rows) y split.parts.second)) moved);
    counts = λ cuts found spent more. record {
      counted = let sum : new.spent ≡ old.spent + (counted split.parts.first + counted split.parts.second) = split.parts.counts.counted in omega (arith, sum, more);
      full = split.parts.counts.full;
    };
    fit = All-cons (IsFitItem rows floors) (Split pick cert) (tree_items split.parts.first ++ tree_items split.parts.second) fit split.parts.fit;
    handed = Grows-more took took t o (Split pick cert ∷ []) t1 o1 (tree_items split.parts.first ++ tree_items split.parts.second) t2 o2 grown split.parts.handed;
  }

  -- the parts of what a split leaves are those of the split
  pub split_handed : (v rest : View) (pick : RowPick) (cert : Cert) (cap parts_cap : Capped) (old other new : Reached) (t : T) (o : O) (t2 : T) (o2 : O)
      → rest ≡ (steps_of rows).trim v pick cert → cap ≡ greater (floor_cap ((steps_of rows).floor v pick cert)) parts_cap → other.best ≡ old.best → other.spent ≡ old.spent
      → PartsHanded took rows floors given budget may_leave rest pick cert parts_cap other t o new t2 o2
      → SplitHanded took rows floors given budget may_leave v pick cert cap old t o new t2 o2
  split_handed v rest pick cert cap parts_cap old other new t o t2 o2 rest_is cap_is same_best same_spent handed =
      let parts = subst (λ w. PartsHanded took rows floors given budget may_leave w pick cert parts_cap other t o new t2 o2) rest_is handed in
      record {
        parts_cap = parts_cap;
        capped = cap_is;
        parts = record {
          first = parts.first;
          second = parts.second;
          first_done = λ fs best. parts.first_done fs (to_other fs best);
          second_done = λ fs best. parts.second_done fs (to_other fs best);
          best = λ fs best. parts.best fs (to_other fs best);
          capped = parts.capped;
          counts = record { counted = parts.counts.counted ∙ ap (λ n. n + (counted parts.first + counted parts.second)) same_spent; full = parts.counts.full };
          fit = parts.fit;
          handed = parts.handed;
        };
      }
    where
      to_other : (fs : List Found) → IsBest old.best fs → IsBest other.best fs
      to_other fs best = subst (λ found. IsBest found fs) (sym same_best) best

  -- both parts of a split
  pub parts_handed : (v x y : View) (pick : RowPick) (cert : Cert) (cap1 cap2 : Capped) (old a b c new : Reached) (t : T) (o : O) (t1 : T) (o1 : O) (t2 : T) (o2 : O)
      → a.best ≡ old.best → a.spent ≡ old.spent → c.best ≡ b.best → c.spent ≡ b.spent → new.spent ≤ budget
      → (steps_of rows).left v pick ≡ Some x → (steps_of rows).right v pick ≡ Some y
      → BoxHanded took (λ parent. parent ≡ Some cert) rows floors given budget may_leave x cap1 a t o b t1 o1
      → BoxHanded took (λ parent. parent ≡ Some cert) rows floors given budget may_leave y cap2 c t1 o1 new t2 o2
      → PartsHanded took rows floors given budget may_leave v pick cert (greater cap1 cap2) old t o new t2 o2
  parts_handed v x y pick cert cap1 cap2 old a b c new t o t1 o1 t2 o2 same_best same_spent next_best next_spent within left right first second = record {
    first = first.tree;
    second = second.tree;
    first_done = λ fs best. at_some ((steps_of rows).left v pick) x _ left (first.done (Some cert) fs refl (to_first fs best));
    second_done = λ fs best. at_some ((steps_of rows).right v pick) y _ right (second.done (Some cert) (fs ++ found_points first.tree) refl (to_second fs best));
    best = λ fs best. subst (IsBest new.best) (append_assoc fs (found_points first.tree) (found_points second.tree)) (second.best (fs ++ found_points first.tree) (to_second fs best));
    capped = ap (λ cap. greater cap cap2) first.capped
        ∙ ap (λ cap. greater (tree_cap (steps_of rows) x first.tree) cap) second.capped
        ∙ sym (ap (λ next. greater (cap_if next (λ z. tree_cap (steps_of rows) z first.tree)) (tree_cap (steps_of rows) y second.tree)) left)
        ∙ sym (ap (λ next. greater (cap_if ((steps_of rows).left v pick) (λ z. tree_cap (steps_of rows) z first.tree)) (cap_if next (λ z. tree_cap (steps_of rows) z second.tree))) right);
    counts = record {
      counted =
          let one : b.spent ≡ a.spent + counted first.tree = first.counts.counted in
          let two : new.spent ≡ c.spent + counted second.tree = second.counts.counted in
          omega (arith, one, two, same_spent, next_spent);
      full = λ never some. full_at never some (opens second.tree) refl;
    };
    fit = All-append (IsFitItem rows floors) (tree_items first.tree) (tree_items second.tree) first.fit second.fit;
    handed = Grows-more took took t o (tree_items first.tree) t1 o1 (tree_items second.tree) t2 o2 first.handed second.handed;
  }
    where
      to_first : (fs : List Found) → IsBest old.best fs → IsBest a.best fs
      to_first fs best = subst (λ found. IsBest found fs) (sym same_best) best

      to_second : (fs : List Found) → IsBest old.best fs → IsBest c.best (fs ++ found_points first.tree)
      to_second fs best = subst (λ found. IsBest found (fs ++ found_points first.tree)) (sym next_best) (first.best fs (to_first fs best))

      full_at : may_leave ≡ false → 0 < opens first.tree + opens second.tree → (n : ℕ) → opens second.tree ≡ n → new.spent ≡ budget
      full_at never some zero is =
          let at : b.spent ≡ budget = first.counts.full never (omega arith) in
          let two : new.spent ≡ c.spent + counted second.tree = second.counts.counted in
          omega (arith, at, two, next_spent, within)
      full_at never some (suc n) is = second.counts.full never (omega arith)

  -- a part that was left open
  pub open_handed : (v : View) (cert : Cert) (cap : Capped) (r : Reached) (t : T) (o : O) (t2 : T) (o2 : O)
      → Fits rows.program v → (steps_of rows).empty v ≡ false → (steps_of rows).cap v cert ≢ Bad → cap ≡ (steps_of rows).cap v cert → (may_leave ≡ false → r.spent ≡ budget)
      → IsFitItem rows floors (Pending cert) → Grows took took t o (NodeItem ∷ (Pending cert ∷ [])) t2 o2
      → BoxHanded took (λ parent. parent ≡ Some cert) rows floors given budget may_leave v cap r t o r t2 o2
  open_handed v cert cap r t o t2 o2 fit some capped is spent fit_item grown = record {
    tree = leaf [] None (pending cert);
    done = λ parent before held best. record { group = tt; fits = fit; end = record { left_open = record { held = held; cuts = refl; found = refl }; some = some; capped = capped } };
    best = λ before best. subst (IsBest r.best) (sym (append-nil before)) best;
    capped = is;
    counts = record { counted = omega arith; full = λ never open_. spent never };
    fit = All-cons (IsFitItem rows floors) NodeItem (Pending cert ∷ []) tt (All-cons (IsFitItem rows floors) (Pending cert) [] fit_item (All-nil (IsFitItem rows floors)));
    handed = grown;
  }

  -- a counted box is a part of a split
  pub part_handed : (v : View) (cert : Cert) (cap : Capped) (old other new : Reached) (t : T) (o : O) (t2 : T) (o2 : O) → other.best ≡ old.best → other.spent ≡ old.spent
      → BoxHanded took (λ parent. ⊤) rows floors given budget may_leave v cap other t o new t2 o2 → BoxHanded took (λ parent. parent ≡ Some cert) rows floors given budget may_leave v cap old t o new t2 o2
  part_handed v cert cap old other new t o t2 o2 same_best same_spent box = record {
    tree = box.tree;
    done = λ parent before held best. box.done parent before tt (subst (λ found. IsBest found before) (sym same_best) best);
    best = λ before best. box.best before (subst (λ found. IsBest found before) (sym same_best) best);
    capped = box.capped;
    counts = record { counted = box.counts.counted ∙ ap (λ n. n + counted box.tree) same_spent; full = box.counts.full };
    fit = box.fit;
    handed = box.handed;
  }

-- both facts of what a call answers
pub both_ok : {X E : Type 0} {Q : Type 0} (r : Result X E) (P R : X → Type 0) → IfOk r P → OnOk r Q → ((x : X) → P x → Q → R x) → IfOk r R
both_ok (Ok x) P R p q f = f x p q
both_ok (Err e) P R p q f = tt
