-- A whole search, from the search of its root.
use Rattle.std.proofs.Common.{◌≡◌, ◌≢◌, ℕ, zero, suc, ◌+◌, ◌*◌, ◌<◌, ◌≤◌, Bool, true, false, List, [], ◌∷◌, Option, Some, None, refl, ap, sym, ◌∙◌, subst, arith, inl, inr}
use Rattle.std.specs.Prelude.{ℤ, ◌≤ℤ◌, IfSome, ⊤, length}
use Rattle.std.specs.List.{All}
use Rattle.std.specs.Option.{option_map}
use Rattle.std.proofs.lemmas.Int.{ints}
use Rattle.std.proofs.lemmas.List.Elements.{All-contains, All-cons, All-head, All-nil, All-tail}
use Rattle.row_kit.specs.declared.area.Area.{Area}
use Rattle.row_kit.specs.declared.domain.Domain.{Domain}
use Rattle.row_kit.specs.declared.found.Found.{Found}
use Rattle.row_kit.specs.Point.{IsLawful, LiesIn, worth_of}
use Rattle.row_kit.specs.Points.{points_of}
use Rattle.row_kit.proofs.PointCounts.{points-open}
use Rattle.proof_tree.specs.Cap.{Bounds}
use Rattle.proof_tree.specs.declared.capped.Capped.{Capped}
use Rattle.proof_tree.specs.declared.capped.Capped.TheVariants.{AtMost, NoPoint, Bad}
use Rattle.proof_tree.specs.declared.item.Item.TheVariants.{Node, Cut, Found as FoundItem, Empty, Dual, Point, Pending, Split}
use Rattle.proof_tree.specs.Items.{tree_items, found_in}
use Rattle.proof_tree.specs.Nodes.{EachNode, counted, found_points}
use Rattle.proof_tree.specs.Tree.{tree_cap, tree_of}
use Rattle.proof_tree.proofs.Folds.{found_in-tree}
use Rattle.proof_tree.proofs.Sound.{tree_cap-bounds}
use Rattle.row_relax.specs.declared.Rows.{Rows}
use Rattle.row_relax.specs.Settle.{only_point}
use Rattle.row_relax.specs.View.{Fits, IsIn, domains_of, points_in, view_of}
use Rattle.row_relax.specs.laws.Laws.{steps_sound}
use Rattle.row_relax.specs.laws.Shown.{domains_of-view_of, fits_of}
use Rattle.row_relax.specs.Choices.{choices_of, steps_of, HaveImages, IsLawfulIn, worth_in}
use Rattle.row_relax.proofs.Choosing.{choices-bounds}
use Rattle.branch_tree.specs.declared.ended.Ended.{Ended}
use Rattle.branch_tree.specs.declared.ended.Searched.{Searched}
use Rattle.branch_tree.specs.declared.reached.Reached.{Reached}
use Rattle.branch_tree.specs.declared.request.SearchRequest.{SearchRequest}
use Rattle.row_relax.specs.RowProofs.{RowItem, RowTree}
use Rattle.branch_tree.specs.Justified.{IsGroup}
use Rattle.branch_tree.specs.Searched.{IsBest, IsBrokenOff, IsExact, IsFitItem, IsSearch, IsSearchable, AreSearchable, IsSearchedTo, IsSettled, IsWorth, ended_of}
use Rattle.branch_tree.specs.SearchRequest.{BeganFor, HasBuilt, IsSearchFor}
use Rattle.branch_tree.specs.Compared.{is_over}
use Rattle.branch_tree.specs.laws.Ends.{NodeDone}
use Rattle.range_prop.specs.Cuts.{HaveRoomBut}
use Rattle.branch_tree.specs.declared.reached.Ground.{Ground}
use Rattle.branch_tree.specs.laws.Grounds.{IsGround, IsOwnBest, IsStart, StandsIn, program_of, seen, rows_of, choices_at, IsAmong}
use Rattle.branch_tree.specs.laws.Handed.{BoxHanded, opens}
use Rattle.branch_tree.specs.laws.Stops.{BoxStopped}
use Rattle.branch_tree.proofs.Best.{closed-not_over, over-above}
use Rattle.branch_tree.proofs.Depths.{splits-root}
use Rattle.branch_tree.proofs.Stopping.{box_before}
use Rattle.branch_tree.proofs.Trees.{defined-not_bad, tree-boxes, tree-closed, tree-defined, tree-depth, tree-justified, tree-open}

-- found points among fit items are lawful and stand with their worth
pub fit-groups : (rows : Rows) (floors : Bool) (items : List RowItem) → All (IsFitItem rows floors) items → All (IsGroup (choices_of rows)) (found_in items)
fit-groups rows floors [] fit = All-nil (IsGroup (choices_of rows))
fit-groups rows floors (item ∷ items) fit = at item (All-head (IsFitItem rows floors) item items fit) (fit-groups rows floors items (All-tail (IsFitItem rows floors) item items fit))
  where
    at : (first : RowItem) → IsFitItem rows floors first → All (IsGroup (choices_of rows)) (found_in items) → All (IsGroup (choices_of rows)) (found_in (first ∷ items))
    at (FoundItem f) is rest = All-cons (IsGroup (choices_of rows)) f (found_in items) is rest
    at Node is rest = rest
    at (Cut cut) is rest = rest
    at Empty is rest = rest
    at (Dual cert) is rest = rest
    at Point is rest = rest
    at (Pending cert) is rest = rest
    at (Split pick cert) is rest = rest

module _ (rows : Rows) where
  -- the root's view fits, and has the root's points
  root_fits : Fits rows.program (view_of rows.program.root)
  root_fits = fits_of rows.program rows.program.root refl rows.program.root_normal

  root_points : points_in (view_of rows.program.root) ≡ points_of rows.program.root
  root_points = ap points_of (domains_of-view_of rows.program.root)

  -- the cap of a proof bounds every lawful point
  root_bounds : (tree : RowTree) → HaveImages rows → Bounds (LiesIn (choices_of rows).root) (IsLawful (choices_of rows)) (worth_of (choices_of rows)) (tree_cap (steps_of rows) (view_of rows.program.root) tree)
  root_bounds tree images =
      let bounds : Bounds (IsIn (view_of rows.program.root)) (IsLawfulIn rows) (worth_in rows) (tree_cap (steps_of rows) (view_of rows.program.root) tree)
      = tree_cap-bounds (steps_of rows) (Fits rows.program) IsIn (IsLawfulIn rows) (worth_in rows) (steps_sound rows) tree (view_of rows.program.root) root_fits in
      choices-bounds rows images (tree_cap (steps_of rows) (view_of rows.program.root) tree)
      (subst (λ (ds : List Domain). Bounds (LiesIn ds) (IsLawfulIn rows) (worth_in rows) (tree_cap (steps_of rows) (view_of rows.program.root) tree)) (domains_of-view_of rows.program.root) bounds)

  -- a cap that is not over the best is its worth
  settled : (cap : Capped) (best : Option Found) (fs : List Found) → IsBest best fs → All (IsGroup (choices_of rows)) fs → Bounds (LiesIn (choices_of rows).root) (IsLawful (choices_of rows)) (worth_of (choices_of rows)) cap
      → is_over cap (option_map (λ f. f.value) best) ≡ false → IsSettled cap best
  settled Bad best fs is groups bounds over = cc
  settled NoPoint None fs is groups bounds over = tt
  settled NoPoint (Some b) fs is groups bounds over =
      let group = All-contains (IsGroup (choices_of rows)) fs b groups is.0 in
      bounds b.point group.lawful.lies group.lawful
  settled (AtMost n) None fs is groups bounds over = cc
  settled (AtMost n) (Some b) fs is groups bounds over =
      let group = All-contains (IsGroup (choices_of rows)) fs b groups is.0 in
      let low : b.value ≤ℤ n = subst (λ z. z ≤ℤ n) (sym group.worth) (bounds b.point group.lawful.lies group.lawful) in
      let high : n ≤ℤ b.value = grind (arith, ints) in
      omega (arith, ints, low, high)

  -- the best is worth as much as a point that the one to be offered is worth as much as
  best_worth : (point : List ℕ) (own best : Option Found) → IsWorth (choices_of rows) point own → IsOwnBest own best → IsWorth (choices_of rows) point best
  best_worth point None best is offered lawful = absurd (is lawful)
  best_worth point (Some f) None is offered lawful = offered
  best_worth point (Some f) (Some b) is offered lawful = (let low = is lawful in omega (arith, ints, low, offered))

-- the start of a search stands in the root
pub root-stands : (ground : Ground) (point : List ℕ) (marks : List (List Domain)) (start : Reached) → IsGround ground → HaveImages (rows_of ground) → marks ≡ (program_of ground).root ∷ [] → IsStart (rows_of ground) point start → StandsIn ground (seen marks) start
root-stands ground point marks start indexed images is begun = subst (λ (ms : List (List Domain)). StandsIn ground (seen ms) start) (sym is) at_root
  where
    own_at : (own : Option Found) → IfSome own (IsGroup (choices_at ground))
        → IfSome own (λ found. IsGroup (choices_at ground) found × IsAmong (rows_of ground) (view_of (program_of ground).root) found.point)
    own_at None offered = tt
    own_at (Some f) offered =
        let image = images f.point offered.lawful in
        (offered, (image.0, image.1, subst (λ (ds : List Domain). LiesIn ds image.0) (sym (domains_of-view_of (program_of ground).root)) image.1.lawful.lies))

    at_root : StandsIn ground (view_of (program_of ground).root) start
    at_root = record {
      indexed = indexed;
      fits = root_fits (rows_of ground);
      places = begun.places;
      deep = omega (arith, splits-root ground.most (program_of ground) indexed.searchable, begun.depth);
      room = subst (λ o. IfSome o (λ slot. (slot < length (program_of ground).root) × HaveRoomBut (program_of ground).rows (slot ∷ []) (domains_of (view_of (program_of ground).root)))) (sym begun.changed) tt;
      own = own_at start.own begun.own.group;
    }

-- what is known of the search of the root
pub record RootSearched {T O : Type 0} (took : T → O → List RowItem → T → O → Type 0) (most : ℕ) (rows : Rows) (floors : Bool) (point : List ℕ) (given budget : ℕ) (may_leave : Bool) (cap : Capped) (start new : Reached) (left_open : Bool) (t : T) (o : O) (t2 : T) (o2 : O) : Type 0 where
  pub searchable : AreSearchable most rows
  pub box : BoxHanded took (λ parent. ⊤) rows floors given budget may_leave (view_of rows.program.root) cap start t o new t2 o2
  pub begun : IsStart rows point start
  pub own : IsOwnBest start.own new.best
  pub within : new.spent ≤ budget
  pub over : left_open ≡ is_over cap (option_map (λ f. f.value) new.best)

module _ {T O : Type 0} (took : T → O → List RowItem → T → O → Type 0) (most : ℕ) (rows : Rows) (floors : Bool) (point : List ℕ) (given budget : ℕ) (may_leave : Bool) (cap : Capped) (start new : Reached) (left_open : Bool) (t : T) (o : O) (t2 : T) (o2 : O)
    (root : RootSearched took most rows floors point given budget may_leave cap start new left_open t o t2 o2) where
  -- each node of the proof
  nodes : EachNode (NodeDone rows given) (steps_of rows) None [] (view_of rows.program.root) root.box.tree
  nodes = root.box.done None [] tt (subst (λ b. IsBest b []) (sym root.begun.best) refl)

  -- the best of its found points
  best : IsBest new.best (found_points root.box.tree)
  best = root.box.best [] (subst (λ b. IsBest b []) (sym root.begun.best) refl)

  defined : cap ≢ Bad
  defined bad = defined-not_bad (tree_cap (steps_of rows) (view_of rows.program.root) root.box.tree) (tree-defined rows given root.box.tree None [] (view_of rows.program.root) nodes) (sym root.box.capped ∙ bad)

  -- the boxes of the proof
  boxes : counted root.box.tree + opens root.box.tree + 1 ≤ 2 * points_of rows.program.root
  boxes =
      let some : 0 < points_in (view_of rows.program.root) = subst (λ n. 0 < n) (sym (root_points rows)) (points-open rows.program.root root.searchable.program.each_open) in
      subst (λ n. counted root.box.tree + opens root.box.tree + 1 ≤ 2 * n) (root_points rows) (tree-boxes rows given root.box.tree None [] (view_of rows.program.root) (root_fits rows) some nodes)

  spent_is : new.spent ≡ counted root.box.tree
  spent_is = let sum : new.spent ≡ start.spent + counted root.box.tree = root.box.counts.counted in omega (arith, sum, root.begun.spent)

  -- where the cap is over the best, a box is left open
  some_open : left_open ≡ true → 0 < opens root.box.tree
  some_open over = at (opens root.box.tree) refl
    where
      at : (n : ℕ) → opens root.box.tree ≡ n → 0 < opens root.box.tree
      at zero none =
          let closed = tree-closed rows given root.box.tree None [] (view_of rows.program.root) nodes none in
          let not_over = closed-not_over (tree_cap (steps_of rows) (view_of rows.program.root) root.box.tree) new.best (found_points root.box.tree) best closed in
          absurd (apart left_open over (root.over ∙ ap (λ c. is_over c (option_map (λ f. f.value) new.best)) root.box.capped ∙ not_over))
        where
          apart : (b : Bool) → b ≡ true → b ≡ false → ⊥
          apart b is_true is_false = cc
      at (suc n) is = omega arith

  pub ended_of_root : Ended
  ended_of_root = record { best = new.best; cap = cap; spent = new.spent; left_open = left_open }

  pub root-search : IsSearch most rows floors given budget root.box.tree (record { best = new.best; cap = cap; spent = new.spent; left_open = left_open })
  root-search = record {
    cap = root.box.capped;
    defined = defined;
    bounds = bounds;
    justified = tree-justified rows given root.box.tree None [] (view_of rows.program.root) nodes;
    writable = record {
      fit = root.box.fit;
      shallow = omega (arith, tree-depth rows given root.box.tree None [] (view_of rows.program.root) (root_fits rows) nodes, splits-root most rows.program root.searchable.program);
    };
    best = best;
    spent = spent_is;
    within = root.within;
    few = omega (arith, boxes, spent_is);
    left_open = λ over. (
      tree-open rows given root.box.tree None [] (view_of rows.program.root) nodes (some_open over),
      over-above cap new.best (found_points root.box.tree) defined best (sym root.over ∙ over),
    );
    settled = λ over. settled rows cap new.best (found_points root.box.tree) best groups bounds (sym root.over ∙ over);
    least = best_worth rows (only_point (choices_of rows).root) start.own new.best root.begun.own.least root.own;
  }
    where
      bounds : Bounds (LiesIn (choices_of rows).root) (IsLawful (choices_of rows)) (worth_of (choices_of rows)) cap
      bounds = subst (Bounds (LiesIn (choices_of rows).root) (IsLawful (choices_of rows)) (worth_of (choices_of rows))) (sym root.box.capped) (root_bounds rows root.box.tree root.searchable.images)

      groups : All (IsGroup (choices_of rows)) (found_points root.box.tree)
      groups = subst (All (IsGroup (choices_of rows))) (found_in-tree Rows Area root.box.tree) (fit-groups rows floors (tree_items root.box.tree) root.box.fit)

  -- the best is worth as much as the point to begin with
  pub root-begun : IsWorth (choices_of rows) point new.best
  root-begun = best_worth rows point start.own new.best root.begun.own.given root.own

  -- the items of the proof were taken
  pub root-taken : took t o [] t o → IsSearchedTo took most rows floors given budget (record { best = new.best; cap = cap; spent = new.spent; left_open = left_open }) t o t2 o2
  root-taken none = record { tree = root.box.tree; search = root-search; handed = root.box.handed t o [] none }

  -- a budget that was spent makes the count exact
  pub root-exact : (left_open ≡ true → new.spent ≡ budget) → IsExact rows.program budget (record { best = new.best; cap = cap; spent = new.spent; left_open = left_open })
  root-exact spent = record {
    spent = spent;
    below = λ over. let full : new.spent ≡ budget = spent over in omega (arith, full, boxes, spent_is, some_open over);
  }

  pub root-full : may_leave ≡ false → left_open ≡ true → new.spent ≡ budget
  root-full never over = root.box.counts.full never (some_open over)

-- what the search of the root comes to
pub root-searched : {T O : Type 0} (took : T → O → List RowItem → T → O → Type 0) (most : ℕ) (rows : Rows) (floors : Bool) (point : List ℕ) (given budget : ℕ) (may_leave : Bool) (cap : Capped) (start new : Reached) (left_open : Bool) (t : T) (o : O) (t2 : T) (o2 : O)
    (marks : List (List Domain)) (worth : Option ℤ) → AreSearchable most rows → marks ≡ rows.program.root ∷ [] → BoxHanded took (λ parent. ⊤) rows floors given budget may_leave (seen marks) cap start t o new t2 o2 → IsStart rows point start → IsOwnBest start.own new.best
    → new.spent ≤ budget → worth ≡ option_map (λ f. f.value) new.best → left_open ≡ is_over cap worth → RootSearched took most rows floors point given budget may_leave cap start new left_open t o t2 o2
root-searched took most rows floors point given budget may_leave cap start new left_open t o t2 o2 marks worth searchable is box begun own within worth_is over = record {
  searchable = searchable;
  box = subst (λ (ms : List (List Domain)). BoxHanded took (λ parent. ⊤) rows floors given budget may_leave (seen ms) cap start t o new t2 o2) is box;
  begun = begun;
  own = own;
  within = within;
  over = over ∙ ap (is_over cap) worth_is;
}

-- a search that broke off
pub root-stopped : {T O : Type 0} (took broke : T → O → List RowItem → T → O → Type 0) (most : ℕ) (rows : Rows) (floors : Bool) (t : T) (o : O) (t2 : T) (o2 : O) → IsSearchable most rows.program → took t o [] t o → BoxStopped took broke rows floors (view_of rows.program.root) t o t2 o2 → IsBrokenOff took broke most rows floors t o t2 o2
root-stopped took broke most rows floors t o t2 o2 searchable none s = record {
  tree = s.tree;
  items = s.stopped.items;
  later = s.stopped.later;
  first = s.stopped.first;
  handed = elim s.stopped.grows [ inl grown ↦ inl (grown t o [] none) | inr grown ↦ inr (grown t o [] none) ];
  writable = record { fit = s.fit; shallow = omega (arith, s.deep, splits-root most rows.program searchable) };
}

-- a search that broke off before its first item
pub root-before : {T O : Type 0} (took broke : T → O → List RowItem → T → O → Type 0) (most : ℕ) (rows : Rows) (floors : Bool) (t : T) (o : O) → IsSearchable most rows.program → took t o [] t o → IsBrokenOff took broke most rows floors t o t o
root-before took broke most rows floors t o searchable none = root-stopped took broke most rows floors t o t o searchable none (box_before took broke rows floors (view_of rows.program.root) t o)

-- the search that a proof was built for, where the tree that was built is that of the proof
pub root-built : (sought : SearchRequest) (ended : Ended) (searched : Searched) (tree : RowTree) → ended_of searched ≡ ended → tree_of searched.tree ≡ tree → IsSearchFor sought ended tree → BeganFor sought ended.best → HasBuilt sought searched
root-built sought ended searched tree same is found begun = record {
  search = subst (λ (t : RowTree). IsSearchFor sought (ended_of searched) t) (sym is) (subst (λ (e : Ended). IsSearchFor sought e tree) (sym same) found);
  begun = subst (λ (e : Ended). BeganFor sought e.best) (sym same) begun;
}
