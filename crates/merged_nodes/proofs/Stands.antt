-- One more log that was looked at, behind others.
use Rattle.std.proofs.Common.{◌≡◌, ◌∙◌, ◌⊎◌, ℕ, zero, suc, ◌+◌, ◌<◌, ◌≤◌, List, [], ◌∷◌, ◌++◌, length, get_or, take, drop, set, true, false, Option, Some, None, refl, sym, ap, subst, inl, inr, arith}
use Rattle.std.specs.Prelude.{IfSome, unwrap_or}
use Rattle.std.specs.List.{All, slice_get}
use Rattle.std.proofs.lemmas.Bool.{cases_order}
use Rattle.std.proofs.lemmas.List.{length_push, take_more_set}
use Rattle.std.proofs.lemmas.List.Elements.{All-cons, All-get_or, All-nil, All-push}
use Rattle.std.proofs.lemmas.Option.{none-some, same_Some, slice_get_within}
use Rattle.stn_edge.specs.Files.{FileMap}
use Rattle.proof_log.specs.declared.log_reader.LogReader.{LogReader}
use Rattle.proof_log.specs.LogNames.{log_name}
use Rattle.proof_tree.specs.declared.capped.Capped.{Capped}
use Rattle.proof_tree.specs.Items.{tree_items}
use Rattle.proof_tree.specs.Views.{View, present}
use Rattle.row_relax.specs.declared.rows.Rows.{Rows}
use Rattle.row_relax.specs.RowProofs.{RowItem}
use Rattle.log_nodes.specs.declared.node.Node.{Node}
use Rattle.log_nodes.specs.Reading.{ReadsOn}
use Rattle.log_nodes.specs.laws.Nodes.{node_items}
use Rattle.log_nodes.proofs.Readings.{some_then}
use Rattle.merged_nodes.specs.declared.looking.Capping.{Capping}
use Rattle.merged_nodes.specs.declared.looking.Looked.{Looked}
use Rattle.merged_nodes.specs.declared.sources.Source.{Source}
use Rattle.merged_nodes.specs.Merged.{is_smaller}
use Rattle.merged_nodes.specs.laws.Looked.{Away, Down, Ends, GoesWith, HasLooked, HasLookedAt, HasReadItems, HasStood, HaveStood, IsFirst, IsLeast, IsSameSplit, KeepsLooked, Other, SplitsLike, Stand, TakesEnd, ended, node_cap, parted}
use Rattle.merged_nodes.proofs.Places.{at-front, at-last, at-past, by-place, same-there, take-there}
use Rattle.merged_nodes.proofs.Smaller.{smaller-itself, smaller-still, smaller-then}

-- ---- all logs were read to where they stand

-- the same element stands where the first does
pub same-one : {X : Type 0} (P : X → Type 0) (one other : X) (told : Option X) → told ≡ Some one → told ≡ Some other → P one → P other
same-one P one other told is own holds = subst P (same_Some one other (sym is ∙ own)) holds

pub stood-more : (told : Option FileMap) (stem : List ℕ) (depth : ℕ) (before after : List Source) (stands : List Stand) (one later : Source) (stand : Stand) → HaveStood told stem depth before after stands
    → HasStood told stem depth one later stand → HaveStood told stem depth (before ++ one ∷ []) (after ++ later ∷ []) (stands ++ stand ∷ [])
stood-more told stem depth before after stands one later stand have has =
    record {
      as_many = length_push after later ∙ (ap (λ (n : ℕ). n + 1) have.as_many ∙ sym (length_push before one));
      all = length_push stands stand ∙ (ap (λ (n : ℕ). n + 1) have.all ∙ sym (length_push before one));
      each = λ place a b s here there stood. at place a b s here there stood (cases_order place (length before));
    }
  where
    at : (place : ℕ) (a b : Source) (s : Stand) → slice_get (before ++ one ∷ []) place ≡ Some a → slice_get (after ++ later ∷ []) place ≡ Some b → slice_get (stands ++ stand ∷ []) place ≡ Some s
        → (place ≡ length before) ⊎ ((place < length before) ⊎ (length before < place)) → HasStood told stem depth a b s
    at place a b s here there stood (inl is) =
        let first : slice_get (before ++ one ∷ []) place ≡ Some one = ap (slice_get (before ++ one ∷ [])) is ∙ at-last before one in
        let second : slice_get (after ++ later ∷ []) place ≡ Some later = ap (slice_get (after ++ later ∷ [])) (is ∙ sym have.as_many) ∙ at-last after later in
        let third : slice_get (stands ++ stand ∷ []) place ≡ Some stand = ap (slice_get (stands ++ stand ∷ [])) (is ∙ sym have.all) ∙ at-last stands stand in
        same-one (λ (x : Source). HasStood told stem depth x b s) one a (slice_get (before ++ one ∷ []) place) first here
        (same-one (λ (y : Source). HasStood told stem depth one y s) later b (slice_get (after ++ later ∷ []) place) second there
        (same-one (λ (z : Stand). HasStood told stem depth one later z) stand s (slice_get (stands ++ stand ∷ []) place) third stood has))
    at place a b s here there stood (inr (inl within)) =
        have.each place a b s (sym (at-front before one place within) ∙ here) (sym (at-front after later place (omega (arith, have.as_many))) ∙ there)
        (sym (at-front stands stand place (omega (arith, have.all))) ∙ stood)
    at place a b s here there stood (inr (inr behind)) = absurd (none-some a (sym (at-past before one place behind) ∙ here))

-- ---- the end of the smallest cap

ended-within : (stands : List Stand) (place : ℕ) (node : Node) → ended (slice_get stands place) ≡ Some node → place < length stands
ended-within [] place node is = absurd (none-some node is)
ended-within (stand ∷ stands) zero node is = omega arith
ended-within (stand ∷ stands) (suc place) node is = omega (arith, ended-within stands place node is)

-- nothing is said of what is not there
if-none : {X : Type 0} (P : X → Type 0) (told : Option X) → told ≡ None → IfSome told P
if-none {X} P told is = subst (λ (o : Option X). IfSome o P) (sym is) tt

-- a log that does not end
least-same : (rows : Rows) (view : View) (stands : List Stand) (stand : Stand) (end : Option Capping) → ended (Some stand) ≡ None → IsLeast rows view stands end → IsLeast rows view (stands ++ stand ∷ []) end
least-same rows view stands stand None away least = by-place (λ place o. ended o ≡ None) stands stand (λ place within. least place) away (λ place behind. refl)
least-same rows view stands stand (Some end) away least =
    let P : Node → Type 0 = λ node. is_smaller (node_cap rows view node) end.cap ≡ false in
    let Q : Node → Type 0 = λ node. is_smaller end.cap (node_cap rows view node) ≡ true in
    let within : least.0 < length stands = ended-within stands least.0 end.node least.1.0 in (
      least.0,
      (
        subst (λ (o : Option Stand). ended o ≡ Some end.node) (sym (at-front stands stand least.0 within)) least.1.0,
        least.1.1,
        by-place (λ other o. IfSome (ended o) P) stands stand (λ other lt. least.1.2 other) (if-none P (ended (Some stand)) away) (λ other behind. tt),
        λ other before. subst (λ (o : Option Stand). IfSome (ended o) Q) (sym (at-front stands stand other (omega arith))) (least.1.3 other before),
      ),
    )

-- the first log that ends
least-first : (rows : Rows) (view : View) (stands : List Stand) (node : Node) → IsLeast rows view stands None → IsLeast rows view (stands ++ Ends node ∷ []) (Some (record { node = node; cap = node_cap rows view node }))
least-first rows view stands node none =
    let cap : Capped = node_cap rows view node in
    let P : Node → Type 0 = λ own. is_smaller (node_cap rows view own) cap ≡ false in
    let Q : Node → Type 0 = λ own. is_smaller cap (node_cap rows view own) ≡ true in (
      length stands,
      (
        ap ended (at-last stands (Ends node)),
        refl,
        by-place (λ other o. IfSome (ended o) P) stands (Ends node) (λ other lt. if-none P (ended (slice_get stands other)) (none other)) (smaller-itself cap) (λ other behind. tt),
        λ other before. subst (λ (o : Option Stand). IfSome (ended o) Q) (sym (at-front stands (Ends node) other before)) (if-none Q (ended (slice_get stands other)) (none other)),
      ),
    )

-- one that ends with a smaller cap
least-smaller : (rows : Rows) (view : View) (stands : List Stand) (node : Node) (own : Capping) → is_smaller (node_cap rows view node) own.cap ≡ true → IsLeast rows view stands (Some own)
    → IsLeast rows view (stands ++ Ends node ∷ []) (Some (record { node = node; cap = node_cap rows view node }))
least-smaller rows view stands node own less least =
    let cap : Capped = node_cap rows view node in
    let P0 : Node → Type 0 = λ other. is_smaller (node_cap rows view other) own.cap ≡ false in
    let P : Node → Type 0 = λ other. is_smaller (node_cap rows view other) cap ≡ false in
    let Q : Node → Type 0 = λ other. is_smaller cap (node_cap rows view other) ≡ true in (
      length stands,
      (
        ap ended (at-last stands (Ends node)),
        refl,
        by-place (λ other o. IfSome (ended o) P) stands (Ends node)
            (λ other lt. some_then (ended (slice_get stands other)) P0 P (λ n not. smaller-still own.cap cap (node_cap rows view n) not less) (least.1.2 other)) (smaller-itself cap) (λ other behind. tt),
        λ other before. subst (λ (o : Option Stand). IfSome (ended o) Q) (sym (at-front stands (Ends node) other before))
            (some_then (ended (slice_get stands other)) P0 Q (λ n not. smaller-then own.cap cap (node_cap rows view n) not less) (least.1.2 other)),
      ),
    )

-- one that ends with a cap that is no smaller
least-kept : (rows : Rows) (view : View) (stands : List Stand) (node : Node) (own : Capping) → is_smaller (node_cap rows view node) own.cap ≡ false → IsLeast rows view stands (Some own)
    → IsLeast rows view (stands ++ Ends node ∷ []) (Some own)
least-kept rows view stands node own not least =
    let P : Node → Type 0 = λ other. is_smaller (node_cap rows view other) own.cap ≡ false in
    let Q : Node → Type 0 = λ other. is_smaller own.cap (node_cap rows view other) ≡ true in
    let within : least.0 < length stands = ended-within stands least.0 own.node least.1.0 in (
      least.0,
      (
        subst (λ (o : Option Stand). ended o ≡ Some own.node) (sym (at-front stands (Ends node) least.0 within)) least.1.0,
        least.1.1,
        by-place (λ other o. IfSome (ended o) P) stands (Ends node) (λ other lt. least.1.2 other) not (λ other behind. tt),
        λ other before. subst (λ (o : Option Stand). IfSome (ended o) Q) (sym (at-front stands (Ends node) other (omega arith))) (least.1.3 other before),
      ),
    )

least-more : (rows : Rows) (view : View) (stands : List Stand) (node : Node) (end kept : Option Capping) → TakesEnd end (record { node = node; cap = node_cap rows view node }) kept → IsLeast rows view stands end
    → IsLeast rows view (stands ++ Ends node ∷ []) kept
least-more rows view stands node None kept takes least = subst (IsLeast rows view (stands ++ Ends node ∷ [])) (sym takes) (least-first rows view stands node least)
least-more rows view stands node (Some own) kept (inl takes) least = subst (IsLeast rows view (stands ++ Ends node ∷ [])) (sym takes.1) (least-smaller rows view stands node own takes.0 least)
least-more rows view stands node (Some own) kept (inr takes) least = subst (IsLeast rows view (stands ++ Ends node ∷ [])) (sym takes.1) (least-kept rows view stands node own takes.0 least)

least-keeps : (rows : Rows) (view : View) (stands : List Stand) (stand : Stand) (old new : Looked) → KeepsLooked rows view old stand new → IsLeast rows view stands old.end → IsLeast rows view (stands ++ stand ∷ []) new.end
least-keeps rows view stands Away old new keeps least = subst (λ (l : Looked). IsLeast rows view (stands ++ Away ∷ []) l.end) (sym keeps) (least-same rows view stands Away old.end refl least)
least-keeps rows view stands (Ends node) old new keeps least = least-more rows view stands node old.end new.end keeps.0 least
least-keeps rows view stands (Down node) old new keeps least = subst (IsLeast rows view (stands ++ Down node ∷ [])) (sym keeps.2) (least-same rows view stands (Down node) old.end refl least)
least-keeps rows view stands (Other node first second) old new keeps least =
    subst (λ (l : Looked). IsLeast rows view (stands ++ Other node first second ∷ []) l.end) (sym keeps.1) (least-same rows view stands (Other node first second) old.end refl least)

-- ---- the first that splits

like-none : (node : Node) (stand : Stand) → parted (Some stand) ≡ None → SplitsLike node stand
like-none node Away is = tt
like-none node (Ends own) is = tt
like-none node (Down own) is = absurd (none-some own (sym is))
like-none node (Other own first second) is = absurd (none-some own (sym is))

all-like : (node : Node) (stands : List Stand) → ((place : ℕ) → parted (slice_get stands place) ≡ None) → All (SplitsLike node) stands
all-like node [] none = All-nil (SplitsLike node)
all-like node (stand ∷ stands) none = All-cons (SplitsLike node) stand stands (like-none node stand (none 0)) (all-like node stands (λ place. none (suc place)))

-- a log that splits as the first does, or does not split, or splits otherwise, behind one that splits
first-kept : (stands : List Stand) (stand : Stand) (node : Node) → SplitsLike node stand → IsFirst stands (Some node) → IsFirst (stands ++ stand ∷ []) (Some node)
first-kept stands stand node like first =
    let within : first.0 < length stands = slice_get_within stands first.0 (Down node) first.1.0 in (
      first.0,
      (
        at-front stands stand first.0 within ∙ first.1.0,
        λ other before. subst (λ (o : Option Stand). parted o ≡ None) (sym (at-front stands stand other (omega arith))) (first.1.1 other before),
        All-push (SplitsLike node) stands stand first.1.2 like,
      ),
    )

-- a log that does not split
first-same : (stands : List Stand) (stand : Stand) (split : Option Node) → parted (Some stand) ≡ None → IsFirst stands split → IsFirst (stands ++ stand ∷ []) split
first-same stands stand None away first = by-place (λ place o. parted o ≡ None) stands stand (λ place within. first place) away (λ place behind. refl)
first-same stands stand (Some node) away first = first-kept stands stand node (like-none node stand away) first

-- one that goes down
first-down : (stands : List Stand) (node : Node) (split : Option Node) → GoesWith split node → IsFirst stands split → IsFirst (stands ++ Down node ∷ []) (Some (unwrap_or split node))
first-down stands node None goes first = (
  length stands,
  (
    at-last stands (Down node),
    λ other before. subst (λ (o : Option Stand). parted o ≡ None) (sym (at-front stands (Down node) other before)) (first other),
    All-push (SplitsLike node) stands (Down node) (all-like node stands first) (refl, refl),
  ),
)
first-down stands node (Some own) goes first = first-kept stands (Down node) own goes first

-- one that splits otherwise
first-other : (stands : List Stand) (node : Node) (stand : Stand) (split : Option Node) → ((own : Node) → ¬ IsSameSplit own node → SplitsLike own stand) → ¬ GoesWith split node → IsFirst stands split → IsFirst (stands ++ stand ∷ []) split
first-other stands node stand None like not first = absurd (not tt)
first-other stands node stand (Some own) like not first = first-kept stands stand own (like own not) first

first-keeps : (rows : Rows) (view : View) (stands : List Stand) (stand : Stand) (old new : Looked) → KeepsLooked rows view old stand new → IsFirst stands old.split → IsFirst (stands ++ stand ∷ []) new.split
first-keeps rows view stands Away old new keeps first = subst (λ (l : Looked). IsFirst (stands ++ Away ∷ []) l.split) (sym keeps) (first-same stands Away old.split refl first)
first-keeps rows view stands (Ends node) old new keeps first = subst (IsFirst (stands ++ Ends node ∷ [])) (sym keeps.1) (first-same stands (Ends node) old.split refl first)
first-keeps rows view stands (Down node) old new keeps first = subst (IsFirst (stands ++ Down node ∷ [])) (sym keeps.1) (first-down stands node old.split keeps.0 first)
first-keeps rows view stands (Other node one two) old new keeps first =
    subst (λ (l : Looked). IsFirst (stands ++ Other node one two ∷ []) l.split) (sym keeps.1) (first-other stands node (Other node one two) old.split (λ own not. not) keeps.0 first)

-- ---- all logs were looked at

-- none was looked at yet
pub looked-none : (rows : Rows) (view : View) (told : Option FileMap) (stem : List ℕ) (depth : ℕ) → HasLooked rows view told stem depth [] [] (record { end = None; split = None })
looked-none rows view told stem depth = record {
  stands = [];
  stood = record { as_many = refl; all = refl; each = λ place one later stand here there stood. absurd (none-some one here) };
  end = λ place. refl;
  split = λ place. refl;
}

pub looked-more : (rows : Rows) (view : View) (told : Option FileMap) (stem : List ℕ) (depth : ℕ) (before after : List Source) (one later : Source) (looked new : Looked) → HasLooked rows view told stem depth before after looked
    → HasLookedAt rows view told stem depth one later looked new → HasLooked rows view told stem depth (before ++ one ∷ []) (after ++ later ∷ []) new
looked-more rows view told stem depth before after one later looked new have has = record {
  stands = have.stands ++ has.stand ∷ [];
  stood = stood-more told stem depth before after have.stands one later has.stand have.stood has.stood;
  end = least-keeps rows view have.stands has.stand looked new has.keeps have.end;
  split = first-keeps rows view have.stands has.stand looked new has.keeps have.split;
}

-- the log at a place was looked at, where those before it were
pub looked-there : (rows : Rows) (view : View) (told : Option FileMap) (stem : List ℕ) (depth : ℕ) (first sources : List Source) (place : ℕ) (one later : Source) (looked new : Looked) → place < length sources
    → length sources ≡ length first → drop place sources ≡ drop place first → one ≡ get_or sources place one → HasLooked rows view told stem depth (take place first) (take place sources) looked
    → HasLookedAt rows view told stem depth one later looked new → HasLooked rows view told stem depth (take (place + 1) first) (take (place + 1) (set sources place later)) new
looked-there rows view told stem depth first sources place one later looked new within as_many rest is have has =
    let own : take (place + 1) first ≡ take place first ++ one ∷ [] = take-there first place one (omega (arith, as_many, within)) (is ∙ same-there sources first place one rest) in
    let now : take (place + 1) (set sources place later) ≡ take place sources ++ later ∷ [] = take_more_set sources place later within in
    subst (λ (b : List Source). HasLooked rows view told stem depth b (take (place + 1) (set sources place later)) new) (sym own)
    (subst (λ (a : List Source). HasLooked rows view told stem depth (take place first ++ one ∷ []) a new) (sym now)
    (looked-more rows view told stem depth (take place first) (take place sources) one later looked new have has))

-- ---- one log

-- a log that did not come down there is left alone
pub looked-away : (rows : Rows) (view : View) (told : Option FileMap) (stem : List ℕ) (depth : ℕ) (one : Source) (looked : Looked) → one.depth < depth → HasLookedAt rows view told stem depth one one looked looked
looked-away rows view told stem depth one looked above = record { stand = Away; stood = (above, refl); keeps = refl }

-- what is said of a log that stands there is said of it where it came down further
items-from : (told : Option FileMap) (stem : List ℕ) (depth : ℕ) (one moved later : Source) (items : List RowItem) → moved.number ≡ one.number → moved.reader ≡ one.reader → HasReadItems told stem depth moved later items → HasReadItems told stem depth one later items
items-from told stem depth one moved later items number reader has = record {
  number = has.number ∙ number;
  stands = has.stands;
  read = subst (λ (n : ℕ). ReadsOn told (log_name stem n) one.reader items later.reader) number (subst (λ (r : LogReader). ReadsOn told (log_name stem moved.number) r items later.reader) reader has.read);
}

stood-from : (told : Option FileMap) (stem : List ℕ) (depth : ℕ) (one moved later : Source) (stand : Stand) → moved.number ≡ one.number → moved.reader ≡ one.reader → moved.depth ≡ depth → depth ≤ one.depth
    → HasStood told stem depth moved later stand → HasStood told stem depth one later stand
stood-from told stem depth one moved later Away number reader here down stood = absurd (omega (arith, here, stood.0))
stood-from told stem depth one moved later (Ends node) number reader here down stood = (down, stood.1, items-from told stem depth one moved later (node_items node) number reader stood.2)
stood-from told stem depth one moved later (Down node) number reader here down stood = (down, stood.1, items-from told stem (depth + 1) one moved later (node_items node) number reader stood.2)
stood-from told stem depth one moved later (Other node first second) number reader here down stood =
    (down, stood.1, items-from told stem depth one moved later (node_items node ++ (tree_items first ++ tree_items second)) number reader stood.2)

pub looked-from : (rows : Rows) (view : View) (told : Option FileMap) (stem : List ℕ) (depth : ℕ) (one moved later : Source) (looked new : Looked) → moved.number ≡ one.number → moved.reader ≡ one.reader → moved.depth ≡ depth → depth ≤ one.depth
    → HasLookedAt rows view told stem depth moved later looked new → HasLookedAt rows view told stem depth one later looked new
looked-from rows view told stem depth one moved later looked new number reader here down has = record {
  stand = has.stand;
  stood = stood-from told stem depth one moved later has.stand number reader here down has.stood;
  keeps = has.keeps;
}

-- ---- the loop over the logs

-- what holds of all logs holds of the one at a place
pub holds-there : (P : Source → Type 0) (sources : List Source) (place : ℕ) (one : Source) → place < length sources → one ≡ get_or sources place one → All P sources → P one
holds-there P sources place one within is all = subst P (sym is) (All-get_or P sources place one within all)

-- what was said over the views and files that stay
pub looked-same : (rows : Rows) (views shown : List View) (told now : Option FileMap) (stem : List ℕ) (depth : ℕ) (one later : Source) (looked new : Looked) → shown ≡ views → now ≡ told
    → HasLookedAt rows (present shown) now stem depth one later looked new → HasLookedAt rows (present views) told stem depth one later looked new
looked-same rows views shown told now stem depth one later looked new same_views same has =
    subst (λ (v : List View). HasLookedAt rows (present v) told stem depth one later looked new) same_views
    (subst (λ (files : Option FileMap). HasLookedAt rows (present shown) files stem depth one later looked new) same has)
