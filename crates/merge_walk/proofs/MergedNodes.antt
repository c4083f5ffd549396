-- What is merged of the proofs that came down at a node, from what was looked at there, read and written.
use Rattle.std.proofs.Common.{◌≡◌, ◌≢◌, ◌∙◌, ◌⊎◌, inl, inr, ℕ, zero, suc, ℤ, ◌+◌, ◌<◌, ◌≤◌, true, false, IsTrue, IfSome, IsSomeAnd, All, List, [], ◌∷◌, ◌++◌, map, length, slice_get, get_or, option_map, option_and_then, option_to_list, Option, None, Some, refl, sym, ap, subst, arith}
use Rattle.std.specs.Int.{int_max}
use Rattle.std.proofs.lemmas.Int.{ints, clamps}
use Rattle.std.proofs.lemmas.Bool.{cases_lt, true≢false}
use Rattle.std.proofs.lemmas.List.{get_or_past}
use Rattle.std.proofs.lemmas.Option.{IfSome_then, get_or_from_slice_get, same_Some, slice_get_past, slice_get_within}
use Rattle.stn_edge.specs.Files.{FileMap, OthersStay}
use Rattle.dual_bound.specs.declared.cert.Cert.{Cert}
use Rattle.range_prop.specs.declared.row_cut.RowCut.{RowCut}
use Rattle.proof_tree.specs.declared.capped.Capped.{Capped}
use Rattle.proof_tree.specs.declared.capped.Capped.TheVariants.{AtMost, NoPoint, Bad}
use Rattle.proof_tree.specs.declared.item.Item.TheVariants.{Node as NodeItem, Cut as CutItem, Found as FoundItem}
use Rattle.proof_tree.specs.Cap.{floor_cap, greater}
use Rattle.proof_tree.specs.Items.{leaf_item, tree_items}
use Rattle.proof_tree.specs.Tree.{after_cuts, cap_if, leaf, split, split_cap, tree_cap}
use Rattle.proof_tree.specs.Views.{View}
use Rattle.proof_log.specs.declared.writer.LogWriter.{LogWriter}
use Rattle.proof_log.specs.LogNames.{log_name}
use Rattle.row_relax.specs.declared.pick.RowPick.{RowPick}
use Rattle.row_relax.specs.declared.rows.Rows.{Rows}
use Rattle.row_relax.specs.Choices.{steps_of}
use Rattle.row_relax.specs.RowProofs.{RowItem, RowTree}
use Rattle.log_nodes.specs.declared.node.Node.{Node}
use Rattle.log_nodes.specs.declared.node.Ending.{Ending}
use Rattle.log_nodes.specs.declared.node.Ending.TheVariants.{Empty, Dual, Point, Pending, Split}
use Rattle.log_nodes.specs.Reading.{ReadsOn}
use Rattle.log_nodes.specs.laws.Nodes.{IsLeafEnd, item_of, leaf_of, node_items}
use Rattle.log_nodes.proofs.Readings.{reads-then, tree-items}
use Rattle.log_parts.proofs.HeadsDiffer.{one_at}
use Rattle.merged_nodes.specs.declared.looking.Capping.{Capping}
use Rattle.merged_nodes.specs.declared.looking.Looked.{Looked}
use Rattle.merged_nodes.specs.declared.sources.Source.{Source}
use Rattle.merged_nodes.specs.Merged.{GoDown, GoesDown, IsEndTaken, IsMerged, IsSplitTaken, Splitting, closes, end_cap, first_found, is_smaller, splitting}
use Rattle.merged_nodes.specs.laws.Looked.{AreApart, Away, Down, Ends, HasLooked, HasPassed, HasStood, HavePassed, IsFirst, IsLeast, IsSameSplit, Other, SplitsLike, Stand, ended, node_cap, parted}
use Rattle.merge_walk.specs.laws.Walked.{HasMerged, HasMergedParts, HasMergedSplit, HasReadParts, HasReadTree, HaveReadParts, HaveReadTrees}
use Rattle.merged_nodes.specs.laws.Puts.{PutsItems}
use Rattle.merge_walk.proofs.KeptLogs.{parts-back, trees-back}
use Rattle.merged_nodes.proofs.Puts.{puts-then}

-- ---- what of a log was read, as it stands at a node

-- how a node splits behind these cuts, if its end does
abbrev pub way_of : List RowCut → Ending → Option (Splitting RowCut Cert RowPick)
way_of cuts Empty = None
way_of cuts (Dual cert) = None
way_of cuts Point = None
way_of cuts (Pending cert) = None
way_of cuts (Split pick cert) = Some (record { cuts = cuts; pick = pick; cert = cert })

-- a proof is that of a log that stands so at a node: it ends and splits there as the log does, or there is none
pub record IsOf (rows : Rows) (view : View) (stand : Option Stand) (tree : Option RowTree) : Type 0 where
  pub ends : IfSome (ended stand) (λ node. IsLeafEnd node.end × (tree ≡ Some (leaf node.cuts node.found (leaf_of node.end))))
  pub capped : end_cap (steps_of rows) view tree ≡ option_map (node_cap rows view) (ended stand)
  pub splits : splitting tree ≡ option_and_then (λ node. way_of node.cuts node.end) (parted stand)
  pub finds : IfSome (parted stand) (λ node. first_found tree ≡ node.found)

-- the proofs of all logs were read as they stand at a node, and each is so
pub record HasHere (rows : Rows) (view : View) (told : Option FileMap) (stem : List ℕ) (depth : ℕ) (before after : List Source) (stands : List Stand) (is : ℕ → Option RowTree → Type 0) : Type 0 where
  pub here : List (Option RowTree)
  pub read : HaveReadTrees told stem depth before after here
  pub stand : (place : ℕ) → IsOf rows view (slice_get stands place) (get_or here place None)
  pub each : (place : ℕ) → place < length before → is place (get_or here place None)

-- a list that has at each place what is wanted there
listed-at : {X : Type 0} (P : ℕ → X → Type 0) (d x : X) (xs : List X) (n : ℕ) → P 0 x → ((place : ℕ) → place < n → P (suc place) (get_or xs place d)) → (place : ℕ) → place < suc n → P place (get_or (x ∷ xs) place d)
listed-at P d x xs n first rest zero within = first
listed-at P d x xs n first rest (suc place) within = rest place (omega (arith, within))

pub listed : {X : Type 0} (P : ℕ → X → Type 0) (d : X) (n : ℕ) → ((place : ℕ) → place < n → (x : X) × P place x) → (xs : List X) × ((length xs ≡ n) × ((place : ℕ) → place < n → P place (get_or xs place d)))
listed P d zero has = ([], (refl, λ place within. absurd (omega (arith, within))))
listed P d (suc n) has =
    let first = has 0 (omega arith) in
    let rest = listed (λ place. P (suc place)) d n (λ place within. has (suc place) (omega (arith, within))) in
    (first.0 ∷ rest.0, (ap suc rest.1.0, listed-at P d first.0 rest.0 n first.1 rest.1.1))

-- ---- items

-- an end that splits
pub split-end : (end : Ending) → (IsLeafEnd end → ⊥) → (pick : RowPick) × ((cert : Cert) × (end ≡ Split pick cert))
split-end Empty splits = absurd (splits tt)
split-end (Dual cert) splits = absurd (splits tt)
split-end Point splits = absurd (splits tt)
split-end (Pending cert) splits = absurd (splits tt)
split-end (Split pick cert) splits = (pick, (cert, refl))

leaf-item : (end : Ending) → IsLeafEnd end → item_of end ≡ leaf_item (leaf_of end)
leaf-item Empty is = refl
leaf-item (Dual cert) is = refl
leaf-item Point is = refl
leaf-item (Pending cert) is = refl
leaf-item (Split pick cert) is = absurd is

-- the items of a node that splits nothing are those of its leaf
pub leaf-items : (node : Node) → IsLeafEnd node.end → node_items node ≡ tree_items (leaf node.cuts node.found (leaf_of node.end))
leaf-items node is = ap (λ (item : RowItem). NodeItem ∷ (map CutItem node.cuts ++ (map FoundItem (option_to_list node.found) ++ (item ∷ [])))) (leaf-item node.end is)

-- the items of a node that splits and of its parts are those of its tree
pub split-items : (node : Node) (pick : RowPick) (cert : Cert) (first second : RowTree) → node.end ≡ Split pick cert → node_items node ++ (tree_items first ++ tree_items second) ≡ tree_items (split node.cuts node.found pick cert first second)
split-items node pick cert first second is =
    let parts : List RowItem = tree_items first ++ tree_items second in
    ap (λ (end : Ending). node_items (record { cuts = node.cuts; found = node.found; end = end }) ++ parts) is ∙ tree-items node.cuts node.found (Split pick cert) (first, second)

-- ---- what was put

-- the same items, said otherwise
pub puts-as : (a b : LogWriter) (told new : Option FileMap) (one two : List RowItem) → one ≡ two → PutsItems a told b new one → PutsItems a told b new two
puts-as a b told new one two same put = subst (PutsItems a told b new) same put

-- ---- one log

-- a log that did not go down was not passed
not-passed : (told : Option FileMap) (stem : List ℕ) (end : Ending) (depth : ℕ) (mid later : Source) → mid.depth ≤ depth → HasPassed told stem end depth mid later → later ≡ mid
not-passed told stem end depth mid later few (inl same) = same.1
not-passed told stem end depth mid later few (inr went) = absurd (omega (arith, few, went.0))

-- a log that ends at a node has read its leaf
read-leaf : (told : Option FileMap) (stem : List ℕ) (depth : ℕ) (one mid later : Source) (node : Node) → HasStood told stem depth one mid (Ends node) → later ≡ mid → HasReadTree told stem depth one later (Some (leaf node.cuts node.found (leaf_of node.end)))
read-leaf told stem depth one mid later node stood same = subst (λ (s : Source). HasReadTree told stem depth one s (Some (leaf node.cuts node.found (leaf_of node.end)))) (sym same) (
  stood.0,
  omega (arith, stood.2.stands),
  stood.2.number,
  subst (λ (items : List RowItem). ReadsOn told (log_name stem one.number) one.reader items mid.reader) (leaf-items node stood.1) stood.2.read,
)

-- a log that splits there otherwise has read its proof
read-other : (told : Option FileMap) (stem : List ℕ) (depth : ℕ) (one mid later : Source) (node : Node) (first second : RowTree) (pick : RowPick) (cert : Cert) → HasStood told stem depth one mid (Other node first second) → node.end ≡ Split pick cert → later ≡ mid
    → HasReadTree told stem depth one later (Some (split node.cuts node.found pick cert first second))
read-other told stem depth one mid later node first second pick cert stood is same = subst (λ (s : Source). HasReadTree told stem depth one s (Some (split node.cuts node.found pick cert first second))) (sym same) (
  stood.0,
  omega (arith, stood.2.stands),
  stood.2.number,
  subst (λ (items : List RowItem). ReadsOn told (log_name stem one.number) one.reader items mid.reader) (split-items node pick cert first second is) stood.2.read,
)

-- a log that goes down there has read its proof, once its parts were read
read-down : (told : Option FileMap) (stem : List ℕ) (depth : ℕ) (one mid later : Source) (node : Node) (first second : RowTree) (pick : RowPick) (cert : Cert) → HasStood told stem depth one mid (Down node) → node.end ≡ Split pick cert → depth ≤ later.depth
    → later.number ≡ mid.number → ReadsOn told (log_name stem mid.number) mid.reader (tree_items first ++ tree_items second) later.reader → HasReadTree told stem depth one later (Some (split node.cuts node.found pick cert first second))
read-down told stem depth one mid later node first second pick cert stood is deep number read =
    let name : List ℕ = log_name stem one.number in
    let parts : List RowItem = tree_items first ++ tree_items second in
    let behind : ReadsOn told name mid.reader parts later.reader = subst (λ (n : ℕ). ReadsOn told (log_name stem n) mid.reader parts later.reader) stood.2.number read in (
      stood.0,
      deep,
      number ∙ stood.2.number,
      subst (λ (items : List RowItem). ReadsOn told name one.reader items later.reader) (split-items node pick cert first second is) (reads-then told name one.reader mid.reader later.reader (node_items node) parts stood.2.read behind),
    )

is-away : (rows : Rows) (view : View) → IsOf rows view (Some Away) None
is-away rows view = record { ends = tt; capped = refl; splits = refl; finds = tt }

is-none : (rows : Rows) (view : View) → IsOf rows view None None
is-none rows view = record { ends = tt; capped = refl; splits = refl; finds = tt }

is-leaf : (rows : Rows) (view : View) (node : Node) → IsLeafEnd node.end → IsOf rows view (Some (Ends node)) (Some (leaf node.cuts node.found (leaf_of node.end)))
is-leaf rows view node is = record { ends = (is, refl); capped = refl; splits = refl; finds = tt }

is-down : (rows : Rows) (view : View) (node : Node) (pick : RowPick) (cert : Cert) (first second : RowTree) → node.end ≡ Split pick cert → IsOf rows view (Some (Down node)) (Some (split node.cuts node.found pick cert first second))
is-down rows view node pick cert first second is = record { ends = tt; capped = refl; splits = ap (way_of node.cuts) (sym is); finds = refl }

is-other : (rows : Rows) (view : View) (node : Node) (pick : RowPick) (cert : Cert) (first second a b : RowTree) → node.end ≡ Split pick cert → IsOf rows view (Some (Other node a b)) (Some (split node.cuts node.found pick cert first second))
is-other rows view node pick cert first second a b is = record { ends = tt; capped = refl; splits = ap (way_of node.cuts) (sym is); finds = refl }

-- ---- all logs

-- what is wanted of the proof of each
abbrev pub StandsAt : Rows → View → Option FileMap → List ℕ → ℕ → List Source → List Source → List Stand → (ℕ → Option RowTree → Type 0) → ℕ → Option RowTree → Type 0
StandsAt rows view told stem depth before after stands is place tree =
    ((one later : Source) → slice_get before place ≡ Some one → slice_get after place ≡ Some later → HasReadTree told stem depth one later tree) × IsOf rows view (slice_get stands place) tree × is place tree

-- the proofs of all logs, from the proof of each
pub here-from : (rows : Rows) (view : View) (told : Option FileMap) (stem : List ℕ) (depth : ℕ) (before after : List Source) (stands : List Stand) (is : ℕ → Option RowTree → Type 0) → length after ≡ length before → length stands ≡ length before
    → ((place : ℕ) (one later : Source) (stand : Stand) → place < length before → slice_get before place ≡ Some one → slice_get after place ≡ Some later → slice_get stands place ≡ Some stand
    → (tree : Option RowTree) × (HasReadTree told stem depth one later tree × IsOf rows view (Some stand) tree × is place tree)) → HasHere rows view told stem depth before after stands is
here-from rows view told stem depth before after stands is as_many all has = record {
  here = here.0;
  read = record {
    as_many = as_many;
    all = here.1.0;
    each = λ place one later at_one at_later. (here.1.1 place (slice_get_within before place one at_one)).0 one later at_one at_later;
  };
  stand = own;
  each = λ place within. (here.1.1 place within).2;
}
  where
    at : (place : ℕ) → place < length before → (tree : Option RowTree) × StandsAt rows view told stem depth before after stands is place tree
    at place within =
        let one = one_at before place within in
        let later = one_at after place (omega (arith, within, as_many)) in
        let stand = one_at stands place (omega (arith, within, all)) in
        let found = has place one.0 later.0 stand.0 within one.1 later.1 stand.1 in (
          found.0,
          (
            λ own own_later at_own at_later. subst (λ (s : Source). HasReadTree told stem depth s own_later found.0) (same_Some one.0 own (sym one.1 ∙ at_own)) (subst (λ (s : Source). HasReadTree told stem depth one.0 s found.0) (same_Some later.0 own_later (sym later.1 ∙ at_later)) found.1.0),
            subst (λ (o : Option Stand). IsOf rows view o found.0) (sym stand.1) found.1.1,
            found.1.2,
          ),
        )

    here : (xs : List (Option RowTree)) × ((length xs ≡ length before) × ((place : ℕ) → place < length before → StandsAt rows view told stem depth before after stands is place (get_or xs place None)))
    here = listed (StandsAt rows view told stem depth before after stands is) None (length before) at

    own : (place : ℕ) → IsOf rows view (slice_get stands place) (get_or here.0 place None)
    own place = elim (cases_lt place (length before)) [
      | inl within ↦ (here.1.1 place within).1
      | inr past ↦ subst (λ (o : Option Stand). IsOf rows view o (get_or here.0 place None)) (sym (slice_get_past stands place (omega (arith, past, all))))
          (subst (IsOf rows view None) (sym (get_or_past here.0 place None (omega (arith, past, here.1.0)))) (is-none rows view))
    ]

-- ---- an end is taken

-- what holds of the caps of nodes holds of these caps
if-capped : (rows : Rows) (view : View) (node : Option Node) (P : Capped → Type 0) → IfSome node (λ own. P (node_cap rows view own)) → IfSome (option_map (node_cap rows view) node) P
if-capped rows view None P is = tt
if-capped rows view (Some node) P is = is

-- what holds of what is there
at-some : {X : Type 0} (o : Option X) (x : X) (P : X → Type 0) → o ≡ Some x → IfSome o P → P x
at-some {X} o x P is has = subst (λ (own : Option X). IfSome own P) is has

-- the end of the smallest cap is taken
end-taken : (rows : Rows) (best : Option ℤ) (view : View) (stands : List Stand) (here : List (Option RowTree)) (end : Capping) → ((place : ℕ) → IsOf rows view (slice_get stands place) (get_or here place None)) → IsLeast rows view stands (Some end)
    → (IsTrue (closes best end.cap) ⊎ ((place : ℕ) → parted (slice_get stands place) ≡ None)) → IsEndTaken (steps_of rows) best view here (leaf end.node.cuts end.node.found (leaf_of end.node.end))
end-taken rows best view stands here end own least right = record {
  place = least.0;
  cap = end.cap;
  is = (at-some (ended (slice_get stands least.0)) end.node (λ node. IsLeafEnd node.end × (get_or here least.0 None ≡ Some (leaf node.cuts node.found (leaf_of node.end)))) least.1.0 (own least.0).ends).1;
  smallest = record {
    ends = (own least.0).capped ∙ ap (option_map (node_cap rows view)) least.1.0 ∙ ap Some (sym least.1.1);
    least = λ other. subst (λ (o : Option Capped). IfSome o (λ cap. is_smaller cap end.cap ≡ false)) (sym (own other).capped) (if-capped rows view (ended (slice_get stands other)) (λ cap. is_smaller cap end.cap ≡ false) (least.1.2 other));
    first = λ other before. subst (λ (o : Option Capped). IfSome o (λ cap. is_smaller end.cap cap ≡ true)) (sym (own other).capped) (if-capped rows view (ended (slice_get stands other)) (λ cap. is_smaller end.cap cap ≡ true) (least.1.3 other before));
  };
  right = elim right [
    | inl closed ↦ inl closed
    | inr none ↦ inr (λ place. (own place).splits ∙ ap (option_and_then (λ (node : Node). way_of node.cuts node.end)) (none place))
  ];
}

-- and written: the proof that is merged is that end
end-written : (rows : Rows) (best : Option ℤ) (view : View) (told new : Option FileMap) (stem : List ℕ) (depth : ℕ) (before after : List Source) (writer later : LogWriter) (end : Capping) (stands : List Stand) (is : ℕ → Option RowTree → Type 0)
    → HasHere rows view told stem depth before after stands is → IsLeast rows view stands (Some end) → (IsTrue (closes best end.cap) ⊎ ((place : ℕ) → parted (slice_get stands place) ≡ None)) → PutsItems writer told later new (node_items end.node)
    → HasMerged rows best view told new stem depth before after writer later end.cap
end-written rows best view told new stem depth before after writer later end stands is has least right put =
    let whole = at-some (ended (slice_get stands least.0)) end.node (λ node. IsLeafEnd node.end × (get_or has.here least.0 None ≡ Some (leaf node.cuts node.found (leaf_of node.end)))) least.1.0 (has.stand least.0).ends in
    record {
      here = has.here;
      tree = leaf end.node.cuts end.node.found (leaf_of end.node.end);
      read = has.read;
      merged = end-taken rows best view stands has.here end has.stand least right;
      cap_is = least.1.1;
      put = puts-as writer later told new (node_items end.node) (tree_items (leaf end.node.cuts end.node.found (leaf_of end.node.end))) (leaf-items end.node whole.0) put;
    }

-- a log at a place splits as a node does, or otherwise
like-at : (node : Node) (stands : List Stand) (place : ℕ) (stand : Stand) → All (SplitsLike node) stands → slice_get stands place ≡ Some stand → SplitsLike node stand
like-at node stands place stand all is = subst (SplitsLike node) (get_or_from_slice_get stands place stand stand is) (all place stand (slice_get_within stands place stand is))

-- what was read of a log at a node at whose end it was passed
passed-one : (rows : Rows) (view : View) (told : Option FileMap) (stem : List ℕ) (depth : ℕ) (node : Node) (one mid later : Source) (stand : Stand) → HasStood told stem depth one mid stand → SplitsLike node stand → HasPassed told stem node.end depth mid later
    → (tree : Option RowTree) × (HasReadTree told stem depth one later tree × IsOf rows view (Some stand) tree)
passed-one rows view told stem depth node one mid later Away stood like passed =
    let few : mid.depth ≤ depth = omega (arith, stood.0, ap (λ (s : Source). s.depth) stood.1) in
    (None, ((stood.0, not-passed told stem node.end depth mid later few passed ∙ stood.1), is-away rows view))
passed-one rows view told stem depth node one mid later (Ends own) stood like passed =
    let same = not-passed told stem node.end depth mid later (omega (arith, stood.2.stands)) passed in
    (Some (leaf own.cuts own.found (leaf_of own.end)), (read-leaf told stem depth one mid later own stood same, is-leaf rows view own stood.1))
passed-one rows view told stem depth node one mid later (Other own a b) stood like passed =
    let way = split-end own.end stood.1 in
    let same = not-passed told stem node.end depth mid later (omega (arith, stood.2.stands)) passed in
    (Some (split own.cuts own.found way.0 way.1.0 a b), (read-other told stem depth one mid later own a b way.0 way.1.0 stood way.1.1 same, is-other rows view own way.0 way.1.0 a b a b way.1.1))
passed-one rows view told stem depth node one mid later (Down own) stood like passed =
    let way = split-end own.end stood.1 in
    by way.0 way.1.0 way.1.1 (subst (λ (end : Ending). HasPassed told stem end depth mid later) (like.1 ∙ way.1.1) passed)
  where
    by : (pick : RowPick) (cert : Cert) → own.end ≡ Split pick cert → HasPassed told stem (Split pick cert) depth mid later → (tree : Option RowTree) × (HasReadTree told stem depth one later tree × IsOf rows view (Some (Down own)) tree)
    by pick cert is (inl same) = absurd (omega (arith, same.0, stood.2.stands))
    by pick cert is (inr went) =
        let first = went.1.0.0 in
        let second = went.1.0.1 in
        let read = went.1.1 in
        (Some (split own.cuts own.found pick cert first second), (read-down told stem depth one mid later own first second pick cert stood is (omega (arith, read.stands)) read.number read.read, is-down rows view own pick cert first second is))

-- an end closes its box: all that go down are passed, and it is written
pub closed-merged : (rows : Rows) (best : Option ℤ) (view : View) (told new : Option FileMap) (stem : List ℕ) (depth : ℕ) (before middle after : List Source) (writer later : LogWriter) (looked : Looked) (end : Capping) (node : Node)
    → HasLooked rows view told stem depth before middle looked → looked.split ≡ Some node → looked.end ≡ Some end → closes best end.cap ≡ true → HavePassed told stem node.end depth middle after → PutsItems writer told later new (node_items end.node)
    → HasMerged rows best view told new stem depth before after writer later end.cap
closed-merged rows best view told new stem depth before middle after writer later looked end node has is_split is_end closed passed put =
    end-written rows best view told new stem depth before after writer later end has.stands (λ place tree. Unit {0}) (here-from rows view told stem depth before after has.stands (λ place tree. Unit {0}) (passed.as_many ∙ has.stood.as_many) has.stood.all each)
    (subst (IsLeast rows view has.stands) is_end has.end) (inl closed) put
  where
    first : IsFirst has.stands (Some node)
    first = subst (IsFirst has.stands) is_split has.split

    each : (place : ℕ) (one last : Source) (stand : Stand) → place < length before → slice_get before place ≡ Some one → slice_get after place ≡ Some last → slice_get has.stands place ≡ Some stand
        → (tree : Option RowTree) × (HasReadTree told stem depth one last tree × IsOf rows view (Some stand) tree × Unit {0})
    each place one last stand within at_one at_last at_stand =
        let mid = one_at middle place (omega (arith, within, has.stood.as_many)) in
        let found = passed-one rows view told stem depth node one mid.0 last stand (has.stood.each place one mid.0 stand at_one mid.1 at_stand) (like-at node has.stands place stand first.1.2 at_stand) (passed.each place mid.0 last mid.1 at_last) in
        (found.0, (found.1.0, found.1.1, tt))

-- what was read of a log that does not split, at a node where none does
lone-one : (rows : Rows) (view : View) (told : Option FileMap) (stem : List ℕ) (depth : ℕ) (one later : Source) (stand : Stand) → HasStood told stem depth one later stand → parted (Some stand) ≡ None
    → (tree : Option RowTree) × (HasReadTree told stem depth one later tree × IsOf rows view (Some stand) tree)
lone-one rows view told stem depth one later Away stood none = (None, (stood, is-away rows view))
lone-one rows view told stem depth one later (Ends own) stood none = (Some (leaf own.cuts own.found (leaf_of own.end)), (read-leaf told stem depth one later later own stood refl, is-leaf rows view own stood.1))
lone-one rows view told stem depth one later (Down own) stood none = absurd cc
lone-one rows view told stem depth one later (Other own a b) stood none = absurd cc

-- no log splits: the end is written
pub end-merged : (rows : Rows) (best : Option ℤ) (view : View) (told new : Option FileMap) (stem : List ℕ) (depth : ℕ) (before after : List Source) (writer later : LogWriter) (looked : Looked) (end : Capping)
    → HasLooked rows view told stem depth before after looked → looked.split ≡ None → looked.end ≡ Some end → PutsItems writer told later new (node_items end.node) → HasMerged rows best view told new stem depth before after writer later end.cap
end-merged rows best view told new stem depth before after writer later looked end has is_split is_end put =
    end-written rows best view told new stem depth before after writer later end has.stands (λ place tree. Unit {0}) (here-from rows view told stem depth before after has.stands (λ place tree. Unit {0}) has.stood.as_many has.stood.all each)
    (subst (IsLeast rows view has.stands) is_end has.end) (inr none) put
  where
    none : (place : ℕ) → parted (slice_get has.stands place) ≡ None
    none = subst (IsFirst has.stands) is_split has.split

    each : (place : ℕ) (one last : Source) (stand : Stand) → place < length before → slice_get before place ≡ Some one → slice_get after place ≡ Some last → slice_get has.stands place ≡ Some stand
        → (tree : Option RowTree) × (HasReadTree told stem depth one last tree × IsOf rows view (Some stand) tree × Unit {0})
    each place one last stand within at_one at_last at_stand =
        let found = lone-one rows view told stem depth one last stand (has.stood.each place one last stand at_one at_last at_stand) (ap parted (sym at_stand) ∙ none place) in
        (found.0, (found.1.0, found.1.1, tt))

-- ---- a split is taken

-- where a cap closes no box, neither does one that is not smaller
pub none-smaller : (best : Option ℤ) (own cap : Capped) → closes best cap ≡ false → is_smaller own cap ≡ false → closes best own ≡ false
none-smaller best Bad cap wide least = refl
none-smaller best NoPoint NoPoint wide least = wide
none-smaller best NoPoint (AtMost n) wide least = absurd (true≢false least)
none-smaller best NoPoint Bad wide least = absurd (true≢false least)
none-smaller best (AtMost m) NoPoint wide least = absurd (true≢false wide)
none-smaller best (AtMost m) Bad wide least = absurd (true≢false least)
none-smaller None (AtMost m) (AtMost n) wide least = refl
none-smaller (Some profit) (AtMost m) (AtMost n) wide least = grind (arith, ints)

-- where the end of the smallest cap closes no box, or none ends, no end does
none-closes : (rows : Rows) (best : Option ℤ) (view : View) (stands : List Stand) (end : Option Capping) → IsLeast rows view stands end → IfSome end (λ own. closes best own.cap ≡ false)
    → (place : ℕ) → IfSome (ended (slice_get stands place)) (λ node. closes best (node_cap rows view node) ≡ false)
none-closes rows best view stands None least wide place = subst (λ (o : Option Node). IfSome o (λ node. closes best (node_cap rows view node) ≡ false)) (sym (least place)) tt
none-closes rows best view stands (Some end) least wide place =
    IfSome_then (ended (slice_get stands place)) (least.1.2 place) (λ node small. none-smaller best (node_cap rows view node) end.cap wide small)

-- a log that did not go down has read no parts
no-parts : (told : Option FileMap) (stem : List ℕ) (depth : ℕ) (mid later : Source) (first second : Option RowTree) → mid.depth ≤ depth → HasReadParts told stem depth mid later first second → (later ≡ mid) × ((first ≡ None) × (second ≡ None))
no-parts told stem depth mid later None second few parts = (parts.1, (refl, parts.2))
no-parts told stem depth mid later (Some a) None few parts = absurd parts
no-parts told stem depth mid later (Some a) (Some b) few parts = absurd (omega (arith, few, parts.0))

-- one that did has read both
pub record AreParts (told : Option FileMap) (stem : List ℕ) (depth : ℕ) (mid later : Source) (first second : Option RowTree) : Type 0 where
  pub one : RowTree
  pub two : RowTree
  pub is_first : first ≡ Some one
  pub is_second : second ≡ Some two
  pub deep : depth < later.depth
  pub number : later.number ≡ mid.number
  pub read : ReadsOn told (log_name stem mid.number) mid.reader (tree_items one ++ tree_items two) later.reader

both-parts : (told : Option FileMap) (stem : List ℕ) (depth : ℕ) (mid later : Source) (first second : Option RowTree) → depth < mid.depth → HasReadParts told stem depth mid later first second → AreParts told stem depth mid later first second
both-parts told stem depth mid later None second more parts = absurd (omega (arith, more, parts.0))
both-parts told stem depth mid later (Some a) None more parts = absurd parts
both-parts told stem depth mid later (Some a) (Some b) more parts = record { one = a; two = b; is_first = refl; is_second = refl; deep = parts.1; number = parts.2; read = parts.3 }

-- how a node splits that has this end
abbrev pub splitting_at : Node → RowPick → Cert → Splitting RowCut Cert RowPick
splitting_at node pick cert = record { cuts = node.cuts; pick = pick; cert = cert }

-- two nodes that split otherwise are no same splitting
splits-apart : (node own : Node) (pick own_pick : RowPick) (cert own_cert : Cert) → node.end ≡ Split pick cert → own.end ≡ Split own_pick own_cert → (IsSameSplit node own → ⊥) → splitting_at node pick cert ≢ splitting_at own own_pick own_cert
splits-apart node own pick own_pick cert own_cert is own_is apart same =
    apart (ap (λ (s : Splitting RowCut Cert RowPick). s.cuts) same, is ∙ ap (λ (s : Splitting RowCut Cert RowPick). Split s.pick s.cert) same ∙ sym own_is)

-- what was read of a log at a node that splits, once the parts of those that go down were read
split-one : (rows : Rows) (view : View) (told : Option FileMap) (stem : List ℕ) (depth : ℕ) (node : Node) (pick : RowPick) (cert : Cert) (one mid later : Source) (stand : Stand) (first second : Option RowTree) → node.end ≡ Split pick cert → HasStood told stem depth one mid stand
    → SplitsLike node stand → HasReadParts told stem depth mid later first second → (tree : Option RowTree) × (HasReadTree told stem depth one later tree × IsOf rows view (Some stand) tree × GoesDown (splitting_at node pick cert) tree first second)
split-one rows view told stem depth node pick cert one mid later Away first second is stood like parts =
    let few : mid.depth ≤ depth = omega (arith, stood.0, ap (λ (s : Source). s.depth) stood.1) in
    let none = no-parts told stem depth mid later first second few parts in
    (None, ((stood.0, none.0 ∙ stood.1), is-away rows view, none.1))
split-one rows view told stem depth node pick cert one mid later (Ends own) first second is stood like parts =
    let none = no-parts told stem depth mid later first second (omega (arith, stood.2.stands)) parts in
    (Some (leaf own.cuts own.found (leaf_of own.end)), (read-leaf told stem depth one mid later own stood none.0, is-leaf rows view own stood.1, none.1))
split-one rows view told stem depth node pick cert one mid later (Down own) first second is stood like parts =
    let both = both-parts told stem depth mid later first second (omega (arith, stood.2.stands)) parts in
    let here = sym like.1 ∙ is in (
      Some (split own.cuts own.found pick cert both.one both.two),
      (
        read-down told stem depth one mid later own both.one both.two pick cert stood here (omega (arith, both.deep)) both.number both.read,
        is-down rows view own pick cert both.one both.two here,
        inl (ap (λ (cuts : List RowCut). record { cuts = cuts; pick = pick; cert = cert }) like.0, both.is_first, both.is_second),
      ),
    )
split-one rows view told stem depth node pick cert one mid later (Other own a b) first second is stood like parts =
    let way = split-end own.end stood.1 in
    let none = no-parts told stem depth mid later first second (omega (arith, stood.2.stands)) parts in (
      Some (split own.cuts own.found way.0 way.1.0 a b),
      (
        read-other told stem depth one mid later own a b way.0 way.1.0 stood way.1.1 none.0,
        is-other rows view own way.0 way.1.0 a b a b way.1.1,
        inr (splits-apart node own pick way.0 cert way.1.0 is way.1.1 like, none.1.0, none.1.1),
      ),
    )

-- the split of the first log that splits is taken
split-taken : (rows : Rows) (best : Option ℤ) (view : View) (stands : List Stand) (here : List (Option RowTree)) (end : Option Capping) (node : Node) (pick : RowPick) (cert : Cert) → node.end ≡ Split pick cert → ((place : ℕ) → IsOf rows view (slice_get stands place) (get_or here place None))
    → IsLeast rows view stands end → IfSome end (λ own. closes best own.cap ≡ false) → IsFirst stands (Some node) → IsSplitTaken (steps_of rows) best view here (splitting_at node pick cert) node.found
split-taken rows best view stands here end node pick cert is own least wide first = record {
  place = first.0;
  is = (own first.0).splits ∙ ap (option_and_then (λ (n : Node). way_of n.cuts n.end)) there ∙ ap (way_of node.cuts) is;
  first = λ other before. (own other).splits ∙ ap (option_and_then (λ (n : Node). way_of n.cuts n.end)) (first.1.1 other before);
  finds = sym (at-some (parted (slice_get stands first.0)) node (λ n. first_found (get_or here first.0 None) ≡ n.found) there (own first.0).finds);
  none_closes = λ place. subst (λ (o : Option Capped). IfSome o (λ cap. closes best cap ≡ false)) (sym (own place).capped)
      (if-capped rows view (ended (slice_get stands place)) (λ cap. closes best cap ≡ false) (none-closes rows best view stands end least wide place));
}
  where
    there : parted (slice_get stands first.0) ≡ Some node
    there = ap parted first.1.0

-- what is said of a view that is there follows from what is said of it
view-then : (next : Option View) (P Q : View → Type 0) → ((v : View) → P v → Q v) → IsSomeAnd next P → IsSomeAnd next Q
view-then None P Q then_ is = is
view-then (Some v) P Q then_ is = then_ v is

-- what is said of both views is said of each
each-view : (left right : Option View) (P Q : View → Type 0) → IsSomeAnd left (λ x. P x × IsSomeAnd right Q) → IsSomeAnd left P × IsSomeAnd right Q
each-view None right P Q is = absurd is
each-view (Some x) right P Q is = is

-- the split is written, and behind it its parts
pub split-merged : (rows : Rows) (best : Option ℤ) (view : View) (told new : Option FileMap) (stem : List ℕ) (depth : ℕ) (before middle after : List Source) (writer later : LogWriter) (looked : Looked) (node : Node) (cap : Capped)
    → HasLooked rows view told stem depth before middle looked → looked.split ≡ Some node → IfSome looked.end (λ end. closes best end.cap ≡ false) → HasMergedSplit rows best view node told new stem depth middle after writer later cap
    → HasMerged rows best view told new stem depth before after writer later cap
split-merged rows best view told new stem depth before middle after writer later looked node cap has is_split wide parts = record {
  here = all.here;
  tree = split node.cuts node.found parts.pick parts.cert parts.first parts.second;
  read = all.read;
  merged = (split-taken rows best view has.stands all.here looked.end node parts.pick parts.cert parts.splits all.stand has.end wide first, (parts.firsts, (parts.seconds, (down, both))));
  cap_is = parts.cap_is;
  put = puts-as writer later told new (node_items node ++ (tree_items parts.first ++ tree_items parts.second)) (tree_items (split node.cuts node.found parts.pick parts.cert parts.first parts.second))
      (split-items node parts.pick parts.cert parts.first parts.second parts.splits) parts.put;
}
  where
    first : IsFirst has.stands (Some node)
    first = subst (IsFirst has.stands) is_split has.split

    each : (place : ℕ) (one last : Source) (stand : Stand) → place < length before → slice_get before place ≡ Some one → slice_get after place ≡ Some last → slice_get has.stands place ≡ Some stand
        → (tree : Option RowTree) × (HasReadTree told stem depth one last tree × IsOf rows view (Some stand) tree × GoesDown (splitting_at node parts.pick parts.cert) tree (get_or parts.firsts place None) (get_or parts.seconds place None))
    each place one last stand within at_one at_last at_stand =
        let mid = one_at middle place (omega (arith, within, has.stood.as_many)) in
        split-one rows view told stem depth node parts.pick parts.cert one mid.0 last stand (get_or parts.firsts place None) (get_or parts.seconds place None) parts.splits (has.stood.each place one mid.0 stand at_one mid.1 at_stand)
        (like-at node has.stands place stand first.1.2 at_stand) (parts.read.each place mid.0 last mid.1 at_last)

    all : HasHere rows view told stem depth before after has.stands (λ place tree. GoesDown (splitting_at node parts.pick parts.cert) tree (get_or parts.firsts place None) (get_or parts.seconds place None))
    all = here-from rows view told stem depth before after has.stands (λ place tree. GoesDown (splitting_at node parts.pick parts.cert) tree (get_or parts.firsts place None) (get_or parts.seconds place None))
        (parts.read.as_many ∙ has.stood.as_many) has.stood.all each

    both : IsSomeAnd (after_cuts (steps_of rows) view node.cuts) (λ w. IsSomeAnd ((steps_of rows).left ((steps_of rows).trim w parts.pick parts.cert) parts.pick) (λ x. IsMerged (steps_of rows) best x parts.firsts parts.first)
        × IsSomeAnd ((steps_of rows).right ((steps_of rows).trim w parts.pick parts.cert) parts.pick) (λ y. IsMerged (steps_of rows) best y parts.seconds parts.second))
    both = view-then (after_cuts (steps_of rows) view node.cuts)
        (λ w. IsSomeAnd ((steps_of rows).left ((steps_of rows).trim w parts.pick parts.cert) parts.pick) (λ x. IsMerged (steps_of rows) best x parts.firsts parts.first
        × IsSomeAnd ((steps_of rows).right ((steps_of rows).trim w parts.pick parts.cert) parts.pick) (λ y. IsMerged (steps_of rows) best y parts.seconds parts.second)))
        (λ w. IsSomeAnd ((steps_of rows).left ((steps_of rows).trim w parts.pick parts.cert) parts.pick) (λ x. IsMerged (steps_of rows) best x parts.firsts parts.first)
        × IsSomeAnd ((steps_of rows).right ((steps_of rows).trim w parts.pick parts.cert) parts.pick) (λ y. IsMerged (steps_of rows) best y parts.seconds parts.second))
        (λ w. each-view ((steps_of rows).left ((steps_of rows).trim w parts.pick parts.cert) parts.pick) ((steps_of rows).right ((steps_of rows).trim w parts.pick parts.cert) parts.pick) (λ x. IsMerged (steps_of rows) best x parts.firsts parts.first)
        (λ y. IsMerged (steps_of rows) best y parts.seconds parts.second)) parts.merged

    down : GoDown (splitting_at node parts.pick parts.cert) all.here parts.firsts parts.seconds
    down place = elim (cases_lt place (length before)) [
      | inl within ↦ all.each place within
      | inr past ↦ subst (λ (o : Option RowTree). GoesDown (splitting_at node parts.pick parts.cert) o (get_or parts.firsts place None) (get_or parts.seconds place None)) (sym (get_or_past all.here place None (omega (arith, past, all.read.all))))
          (get_or_past parts.firsts place None (omega (arith, past, has.stood.as_many, parts.read.all)), get_or_past parts.seconds place None (omega (arith, past, has.stood.as_many, parts.read.all_seconds)))
    ]

-- ---- the parts of a split

-- both parts of a log were read, one after the other
both-one : (told : Option FileMap) (stem : List ℕ) (depth : ℕ) (one mid later : Source) (first second : Option RowTree) → HasReadTree told stem (depth + 1) one mid first → HasReadTree told stem (depth + 1) mid later second → HasReadParts told stem depth one later first second
both-one told stem depth one mid later None None one_read two_read = (omega (arith, one_read.0), two_read.1 ∙ one_read.1, refl)
both-one told stem depth one mid later None (Some b) one_read two_read = absurd (omega (arith, one_read.0, two_read.0, ap (λ (s : Source). s.depth) one_read.1))
both-one told stem depth one mid later (Some a) None one_read two_read = omega (arith, one_read.1, two_read.0)
both-one told stem depth one mid later (Some a) (Some b) one_read two_read =
    let name : List ℕ = log_name stem one.number in
    let behind : ReadsOn told name mid.reader (tree_items b) later.reader = subst (λ (n : ℕ). ReadsOn told (log_name stem n) mid.reader (tree_items b) later.reader) one_read.2 two_read.3 in
    (omega (arith, one_read.0), omega (arith, two_read.1), two_read.2 ∙ one_read.2, reads-then told name one.reader mid.reader later.reader (tree_items a) (tree_items b) one_read.3 behind)

-- of all logs
parts-read : (told : Option FileMap) (stem : List ℕ) (depth : ℕ) (before middle after : List Source) (firsts seconds : List (Option RowTree)) → HaveReadTrees told stem (depth + 1) before middle firsts → HaveReadTrees told stem (depth + 1) middle after seconds
    → HaveReadParts told stem depth before after firsts seconds
parts-read told stem depth before middle after firsts seconds one two = record {
  as_many = two.as_many ∙ one.as_many;
  all = one.all;
  all_seconds = two.all ∙ one.as_many;
  each = λ place own later at_own at_later.
      let mid = one_at middle place (omega (arith, slice_get_within before place own at_own, one.as_many)) in
      both-one told stem depth own mid.0 later (get_or firsts place None) (get_or seconds place None) (one.each place own mid.0 at_own mid.1) (two.each place mid.0 later mid.1 at_later);
}

-- what holds of a view that is there
at-view : (next : Option View) (x : View) (P : View → Type 0) → next ≡ Some x → P x → IsSomeAnd next P
at-view next x P is own = subst (λ (o : Option View). IsSomeAnd o P) (sym is) own

-- what is merged of both parts was written
pub parts-merged : (rows : Rows) (best : Option ℤ) (view x y : View) (pick : RowPick) (told now new : Option FileMap) (stem name : List ℕ) (depth : ℕ) (before middle after : List Source) (writer between later : LogWriter) (one two : Capped)
    → (steps_of rows).left view pick ≡ Some x → (steps_of rows).right view pick ≡ Some y → OthersStay name told now → AreApart name stem middle → HasMerged rows best x told now stem (depth + 1) before middle writer between one
    → HasMerged rows best y now new stem (depth + 1) middle after between later two → HasMergedParts rows best view pick told new stem depth before after writer later (greater one two)
parts-merged rows best view x y pick told now new stem name depth before middle after writer between later one two left right others apart first second = record {
  firsts = first.here;
  seconds = second.here;
  first = first.tree;
  second = second.tree;
  read = parts-read told stem depth before middle after first.here second.here first.read (trees-back name stem told now (depth + 1) middle after second.here others apart second.read);
  left = at-view ((steps_of rows).left view pick) x (λ v. IsMerged (steps_of rows) best v first.here first.tree) left first.merged;
  right = at-view ((steps_of rows).right view pick) y (λ v. IsMerged (steps_of rows) best v second.here second.tree) right second.merged;
  cap_is = ap (λ (cap : Capped). greater cap two) (first.cap_is ∙ sym (ap (λ (o : Option View). cap_if o (λ v. tree_cap (steps_of rows) v first.tree)) left))
      ∙ ap (greater (cap_if ((steps_of rows).left view pick) (λ v. tree_cap (steps_of rows) v first.tree))) (second.cap_is ∙ sym (ap (λ (o : Option View). cap_if o (λ v. tree_cap (steps_of rows) v second.tree)) right));
  put = puts-then writer between later told now new (tree_items first.tree) (tree_items second.tree) first.put second.put;
}

-- ---- a split

-- in a row of three it is all the same which two come first
pub greater-row : (one two three : Capped) → greater one (greater two three) ≡ greater (greater one two) three
greater-row Bad two three = refl
greater-row NoPoint two three = refl
greater-row (AtMost m) Bad three = refl
greater-row (AtMost m) NoPoint three = refl
greater-row (AtMost m) (AtMost n) Bad = refl
greater-row (AtMost m) (AtMost n) NoPoint = refl
greater-row (AtMost m) (AtMost n) (AtMost k) = ap AtMost (max_three m n k)
  where
    max_three : (m n k : ℤ) → int_max m (int_max n k) ≡ int_max (int_max m n) k
    max_three m n k = grind (arith, ints, clamps)

-- both parts of a split are merged
merged-both : (rows : Rows) (best : Option ℤ) (firsts seconds : List (Option RowTree)) (first second : RowTree) (a b : Option View) → IsSomeAnd a (λ v. IsMerged (steps_of rows) best v firsts first) → IsSomeAnd b (λ u. IsMerged (steps_of rows) best u seconds second)
    → IsSomeAnd a (λ v. IsMerged (steps_of rows) best v firsts first × IsSomeAnd b (λ u. IsMerged (steps_of rows) best u seconds second))
merged-both rows best firsts seconds first second None b one two = one
merged-both rows best firsts seconds first second (Some v) b one two = (one, two)

-- a node that splits was written, and behind it what is merged of its parts over what its split has not forgotten
pub node-merged : (rows : Rows) (best : Option ℤ) (view w x : View) (node : Node) (pick : RowPick) (cert : Cert) (told now new : Option FileMap) (stem name : List ℕ) (depth : ℕ) (before after : List Source) (writer between later : LogWriter) (cap : Capped)
    → node.end ≡ Split pick cert → after_cuts (steps_of rows) view node.cuts ≡ Some w → x ≡ (steps_of rows).trim w pick cert → PutsItems writer told between now (node_items node) → OthersStay name told now → AreApart name stem before
    → HasMergedParts rows best x pick now new stem depth before after between later cap → HasMergedSplit rows best view node told new stem depth before after writer later (greater (floor_cap ((steps_of rows).floor w pick cert)) cap)
node-merged rows best view w x node pick cert told now new stem name depth before after writer between later cap is cut trimmed put others apart parts =
    let floor : Capped = floor_cap ((steps_of rows).floor w pick cert) in
    let left_cap : View → Capped = λ v. cap_if ((steps_of rows).left v pick) (λ a. tree_cap (steps_of rows) a parts.first) in
    let right_cap : View → Capped = λ v. cap_if ((steps_of rows).right v pick) (λ b. tree_cap (steps_of rows) b parts.second) in
    record {
      pick = pick;
      cert = cert;
      splits = is;
      firsts = parts.firsts;
      seconds = parts.seconds;
      first = parts.first;
      second = parts.second;
      read = parts-back name stem told now depth before after parts.firsts parts.seconds others apart parts.read;
      merged = at-view (after_cuts (steps_of rows) view node.cuts) w
          (λ v. IsSomeAnd ((steps_of rows).left ((steps_of rows).trim v pick cert) pick) (λ a. IsMerged (steps_of rows) best a parts.firsts parts.first × IsSomeAnd ((steps_of rows).right ((steps_of rows).trim v pick cert) pick) (λ b. IsMerged (steps_of rows) best b parts.seconds parts.second)))
          cut
          (subst (λ (v : View). IsSomeAnd ((steps_of rows).left v pick) (λ a. IsMerged (steps_of rows) best a parts.firsts parts.first × IsSomeAnd ((steps_of rows).right v pick) (λ b. IsMerged (steps_of rows) best b parts.seconds parts.second))) trimmed
          (merged-both rows best parts.firsts parts.seconds parts.first parts.second ((steps_of rows).left x pick) ((steps_of rows).right x pick) parts.left parts.right));
      cap_is = ap (greater floor) parts.cap_is ∙ greater-row floor (left_cap x) (right_cap x) ∙ ap (λ (v : View). greater (greater floor (left_cap v)) (right_cap v)) trimmed
          ∙ sym (ap (λ (o : Option View). cap_if o (λ v. split_cap (steps_of rows) v pick cert (λ a. tree_cap (steps_of rows) a parts.first) (λ b. tree_cap (steps_of rows) b parts.second))) cut);
      put = puts-then writer between later told now new (node_items node) (tree_items parts.first ++ tree_items parts.second) put parts.put;
    }
