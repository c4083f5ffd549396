-- What merging comes to: the merged log of logs that were checked, or the first of them that is refused.
use Rattle.std.proofs.Common.{◌≡◌, ◌≢◌, ◌∙◌, inl, inr, ℕ, ℤ, zero, suc, ◌+◌, ◌<◌, ◌≤◌, Bool, true, false, List, [], ◌∷◌, ◌++◌, length, get_or, map, Option, None, Some, refl, sym, ap, subst, arith, length-append}
use Rattle.std.specs.Prelude.{All, IfOk, IfSome, IsTrue, Result, Ok, Err, if◌then◌else◌, int_lt, slice_get, ◌≤ℤ◌}
use Rattle.std.specs.List.{range_with_len}
use Rattle.std.specs.Option.{option_map}
use Rattle.std.proofs.lemmas.Bool.{cases_eq, cases_lt, false≢true}
use Rattle.std.proofs.lemmas.Int.{ints}
use Rattle.std.proofs.lemmas.List.{get_or_append_left, get_or_default}
use Rattle.std.proofs.lemmas.List.FromFn.{get_or-range_with_len, length-range_with_len}
use Rattle.std.proofs.lemmas.List.Sorted.{All-permutation, Contains-permutation, IsPermutation-sym, length_permutation}
use Rattle.std.proofs.Math.Seq.{get_or-append_seam}
use Rattle.stn_edge.specs.Files.{FileMap, OthersStay, file_of}
use Rattle.stn_model.specs.Points.{depth_limit}
use Rattle.stn_model.specs.declared.plant.Plant.{Plant}
use Rattle.stn_model.specs.Profit.{profit}
use Rattle.row_kit.specs.declared.program.Program.{Program}
use Rattle.row_set.specs.Parts.{plan_of_values}
use Rattle.row_set.specs.PlantProgram.{IsMadeOf, plant_root}
use Rattle.proof_tree.specs.declared.capped.Capped.{Capped}
use Rattle.proof_tree.specs.declared.capped.Capped.TheVariants.{AtMost, NoPoint, Bad}
use Rattle.proof_tree.specs.Items.{tree_items}
use Rattle.proof_tree.specs.Tree.{tree_cap}
use Rattle.row_relax.specs.Choices.{steps_of}
use Rattle.row_relax.specs.RowProofs.{RowTree}
use Rattle.row_relax.specs.View.{view_of}
use Rattle.log_lines.specs.declared.defect.Defect.{Defect}
use Rattle.proof_log.specs.declared.claim.Claim.{Claim}
use Rattle.proof_log.specs.declared.claim.Claim.TheVariants.{Optimal, Infeasible, Between, Below}
use Rattle.proof_log.specs.LogNames.{log_name}
use Rattle.valid_log.specs.declared.verdict.LogVerdict.TheVariants as verdict
use Rattle.valid_log.specs.Claims.{SaysOfPlans}
use Rattle.valid_log.specs.PlantLogs.{IsAnyChecked, IsPlantVerdict}
use Rattle.valid_log.specs.SumTexts.{larger_claim}
use Rattle.valid_log.proofs.Again.{same-program}
use Rattle.valid_log.proofs.AnyVersions.{yes-stays}
use Rattle.log_nodes.specs.declared.front.Front.{Front}
use Rattle.log_nodes.specs.Texts.{IsTextBehind}
use Rattle.log_parts.specs.declared.heads.Declared.{Declared}
use Rattle.log_parts.specs.declared.heads.LogHead.{LogHead}
use Rattle.log_parts.specs.declared.joining.ClaimedPlan.{ClaimedPlan}
use Rattle.log_parts.specs.laws.Copying.{whole_text}
use Rattle.log_parts.specs.Heads.{front_text, items_of, joined_version, lines_on}
use Rattle.log_parts.specs.Joining.{IsBestCap, IsBestPlan, IsCapped, IsJoined, cap_of, claim_with, plan_of}
use Rattle.log_parts.specs.PartLogs.{logs_of, no_tree}
use Rattle.log_nodes.proofs.Stays.{same_file}
use Rattle.log_parts.proofs.HeadsDiffer.{no_other}
use Rattle.log_parts.proofs.JoinedClaims.{by-less, seam}
use Rattle.log_parts.proofs.PartTrees.{one_head}
use Rattle.opened_logs.specs.declared.opened.Opened.{Opened}
use Rattle.opened_logs.specs.Opened.{IsOpened, IsOpenedOver, front_of}
use Rattle.opened_logs.specs.Claims.{IsNoMore, IsOpenClaim, profit_of, cap_of as resumed_cap}
use Rattle.merge_checks.specs.declared.checked.Checked.TheVariants.{Bad as BadLogs}
use Rattle.merge_checks.specs.declared.checked.Logs.{Logs}
use Rattle.log_merging.specs.declared.merged.Merged.{Merged}
use Rattle.log_merging.specs.declared.merged.Merged.TheVariants.{Done, No}
use Rattle.merge_ends.specs.declared.readers.Work.{Work}
use Rattle.merged_nodes.specs.Merged.{IsMerged, is_smaller}
use Rattle.log_merging.specs.MergedLogs.{AreMergeable, IsLogToMerge, IsMergedLog, IsMergingIn, NamesRefused}
use Rattle.merge_checks.specs.CheckedLogs.{AreValidTo, IsRefusedToMerge}
use Rattle.merge_ends.specs.MergedClaims.{ComesBefore, IsClaimWith, IsOrder, cap_at}
use Rattle.merge_checks.specs.laws.Checked.{AreChecked, AreCheckedTo, AreKnownTo}
use Rattle.log_merging.specs.laws.Written.{HasWritten, HasWrittenChecked, IsWritten}

-- ---- the order

-- no cap is smaller than itself
not-smaller : (cap : Capped) → is_smaller cap cap ≡ false
not-smaller NoPoint = refl
not-smaller (AtMost most) = grind (arith, ints)
not-smaller Bad = refl

-- no log comes before itself
not-before : (claims : List Claim) (number : ℕ) → ComesBefore claims number number → ⊥
not-before claims number before =
    elim before [
      | inl smaller ↦ false≢true (sym (not-smaller (cap_at claims number)) ∙ smaller)
      | inr same ↦ let less = same.1 in omega (arith, less)
    ]

-- each number has one place in the order
one-place : (claims : List Claim) (order : List ℕ) (place other : ℕ) → IsOrder claims order → place < length order → other < length order → get_or order place 0 ≡ get_or order other 0 → place ≡ other
one-place claims order place other is lt other_lt same =
    elim (cases_eq place other) [
      | inl e ↦ e
      | inr differ ↦ absurd (apart differ)
    ]
  where
    before : (a b : ℕ) → a < b → b < length order → get_or order a 0 ≡ get_or order b 0 → ⊥
    before a b less within e = not-before claims (get_or order b 0) (subst (λ (n : ℕ). ComesBefore claims n (get_or order b 0)) e (is.sorted a b less within))

    apart : place ≢ other → ⊥
    apart differ =
        elim (cases_lt place other) [
          | inl less ↦ before place other less other_lt same
          | inr more ↦ before other place (omega (arith, more, differ)) lt (sym same)
        ]

-- it has as many numbers as there are claims
order-length : (claims : List Claim) (order : List ℕ) → IsOrder claims order → length order ≡ length claims
order-length claims order is = sym (length_permutation order (range_with_len 0 (length claims)) is.all) ∙ length-range_with_len 0 (length claims)

-- each of which is that of a claim
pub order-within : (claims : List Claim) (order : List ℕ) (count : ℕ) → length claims ≡ count → IsOrder claims order → All (λ number. number < count) order
order-within claims order count counted is =
    All-permutation (λ n. n < count) (range_with_len 0 (length claims)) order (IsPermutation-sym order (range_with_len 0 (length claims)) is.all) (λ k d lt.
    let within : k < length claims = omega (arith, lt, length-range_with_len 0 (length claims)) in
    let here : get_or (range_with_len 0 (length claims)) k d ≡ 0 + k = get_or-range_with_len 0 (length claims) k d within in
    omega (arith, here, within, counted))

-- and each such number stands in it
place-of : (claims : List Claim) (order : List ℕ) (number : ℕ) → IsOrder claims order → number < length claims → (place : ℕ) × ((place < length order) × (get_or order place 0 ≡ number))
place-of claims order number is lt =
    let range = range_with_len 0 (length claims) in
    let within : number < length range = omega (arith, lt, length-range_with_len 0 (length claims)) in
    let here : get_or range number number ≡ number = get_or-range_with_len 0 (length claims) number number lt ∙ omega arith in
    let there = Contains-permutation range order number (IsPermutation-sym order range is.all) (number, within, here) in
    (there.0, (there.1, get_or_default order there.0 0 number there.1 ∙ there.2))

-- ---- the trees by their numbers

-- a tree for each of the first numbers, of those that stand in the order
record HaveTrees (order : List ℕ) (own : List RowTree) (n : ℕ) : Type 0 where
  trees : List RowTree
  counted : length trees ≡ n
  each : (number : ℕ) → number < n → (place : ℕ) × ((place < length order) × ((get_or order place 0 ≡ number) × (get_or trees number no_tree ≡ get_or own place no_tree)))

front_at : (trees : List RowTree) (tree : RowTree) (number : ℕ) → number < length trees → get_or (trees ++ tree ∷ []) number no_tree ≡ get_or trees number no_tree
front_at trees tree number below = get_or_append_left trees (tree ∷ []) no_tree number below

trees_to : (claims : List Claim) (order : List ℕ) (own : List RowTree) → IsOrder claims order → (n : ℕ) → n ≤ length claims → HaveTrees order own n
trees_to claims order own is zero within = record { trees = []; counted = refl; each = λ number below. absurd (omega (arith, below)) }
trees_to claims order own is (suc n) within =
    let before = trees_to claims order own is n (omega (arith, within)) in
    let found = place-of claims order n is (omega (arith, within)) in
    let next = get_or own found.0 no_tree in
    record {
      trees = before.trees ++ next ∷ [];
      counted = length-append before.trees (next ∷ []) ∙ (let was = before.counted in omega (arith, was));
      each = λ number below.
          elim (cases_eq number n) [
            | inl e ↦
                let last : get_or (before.trees ++ next ∷ []) number no_tree ≡ next =
                ap (λ (k : ℕ). get_or (before.trees ++ next ∷ []) k no_tree) (e ∙ sym before.counted) ∙ get_or-append_seam before.trees next [] no_tree in
                (found.0, (found.1.0, (found.1.1 ∙ sym e, last)))
            | inr other ↦
                let earlier : number < n = omega (arith, below, other) in
                let was = before.each number earlier in
                let counted = before.counted in
                let same : get_or (before.trees ++ next ∷ []) number no_tree ≡ get_or before.trees number no_tree = front_at before.trees next number (omega (arith, earlier, counted)) in
                (was.0, (was.1.0, (was.1.1.0, same ∙ was.1.1.1)))
          ];
    }

-- the trees of the numbers in an order are those of its places
map-same : (f : ℕ → RowTree) (order : List ℕ) (own : List RowTree) → length own ≡ length order → ((place : ℕ) → place < length order → f (get_or order place 0) ≡ get_or own place no_tree)
    → map (λ (n : ℕ). Some (f n)) order ≡ map Some own
map-same f [] [] long same = refl
map-same f [] (t ∷ ts) long same = absurd (omega (arith, long))
map-same f (n ∷ ns) [] long same = absurd (omega (arith, long))
map-same f (n ∷ ns) (t ∷ ts) long same =
    let first : f n ≡ t = same 0 (omega arith) in
    let rest : map (λ (k : ℕ). Some (f k)) ns ≡ map Some ts = map-same f ns ts (omega (arith, long)) (λ place lt. same (suc place) (omega (arith, lt))) in
    ap (λ (x : RowTree). Some x ∷ map (λ (k : ℕ). Some (f k)) ns) first ∙ ap (λ (r : List (Option RowTree)). Some t ∷ r) rest

-- ---- the claims

-- the profit, the plan and the cap of what a plan and a cap claim
profit-with : (plan : Option ClaimedPlan) (cap : Option ℤ) → profit_of (claim_with plan cap) ≡ option_map (λ (p : ClaimedPlan). p.profit) plan
profit-with None None = refl
profit-with None (Some c) = refl
profit-with (Some p) None = refl
profit-with (Some p) (Some c) =
    elim (int_lt p.profit c) as (λ b. profit_of (if b then Between p.profit c p.point else Optimal p.profit p.point) ≡ Some p.profit) [ true ↦ refl | false ↦ refl ]

plan-with : (plan : Option ClaimedPlan) (cap : Option ℤ) → plan_of (claim_with plan cap) ≡ plan
plan-with None None = refl
plan-with None (Some c) = refl
plan-with (Some p) None = refl
plan-with (Some p) (Some c) =
    elim (int_lt p.profit c) as (λ b. plan_of (if b then Between p.profit c p.point else Optimal p.profit p.point) ≡ Some p) [ true ↦ refl | false ↦ refl ]

-- a claim with a plan has a cap
plan-capped : (claim : Claim) (p : ClaimedPlan) → plan_of claim ≡ Some p → cap_of claim ≡ None → ⊥
plan-capped (Optimal worth point) p is none = cc
plan-capped Infeasible p is none = cc
plan-capped (Between worth most point) p is none = cc
plan-capped (Below most) p is none = cc

-- what is there is the same
some-same : (one other : ClaimedPlan) → Some one ≡ Some other → one ≡ other
some-same one other is = cc

-- where a claim says what is so, its plan earns no more than its cap
plan-under : (plant : Plant) (claim : Claim) (p : ClaimedPlan) (c : ℤ) → SaysOfPlans plant claim → plan_of claim ≡ Some p → IsCapped c claim → p.profit ≤ℤ c
plan-under plant (Optimal worth point) p c says is capped =
    let same : worth ≡ p.profit = ap (λ (x : ClaimedPlan). x.profit) (some-same _ p is) in subst (λ (x : ℤ). x ≤ℤ c) same capped
plan-under plant Infeasible p c says is capped = absurd cc
plan-under plant (Between worth most point) p c says is capped =
    let same : worth ≡ p.profit = ap (λ (x : ClaimedPlan). x.profit) (some-same _ p is) in
    let under : profit plant (plan_of_values plant point) ≤ℤ most = says.1 (plan_of_values plant point) says.0.0 in
    let earns : profit plant (plan_of_values plant point) ≡ worth = says.0.1 in
    let own : worth ≤ℤ most = subst (λ (x : ℤ). x ≤ℤ most) earns under in
    let all : worth ≤ℤ c = omega (arith, ints, own, capped) in
    subst (λ (x : ℤ). x ≤ℤ c) same all
plan-under plant (Below most) p c says is capped = absurd cc

-- so the cap of the best plan and the greatest cap is that one
cap-with : (plant : Plant) (claims : List Claim) (plan : Option ClaimedPlan) (cap : Option ℤ) → ((number : ℕ) → number < length claims → SaysOfPlans plant (get_or claims number Infeasible)) → IsBestPlan claims plan → IsBestCap claims cap
    → cap_of (claim_with plan cap) ≡ cap
cap-with plant claims None None says best most = refl
cap-with plant claims None (Some c) says best most = refl
cap-with plant claims (Some p) None says best most =
    let place = length best.before in
    let there : place < length claims = omega (arith, ap length best.are, length-append best.before (best.claim ∷ best.after)) in
    let here : get_or claims place Infeasible ≡ best.claim = ap (λ (xs : List Claim). get_or xs place Infeasible) best.are ∙ seam best.before best.claim best.after in
    absurd (plan-capped best.claim p best.has (subst (λ (claim : Claim). cap_of claim ≡ None) here (most place Infeasible there)))
cap-with plant claims (Some p) (Some c) says best most =
    let place = length best.before in
    let there : place < length claims = omega (arith, ap length best.are, length-append best.before (best.claim ∷ best.after)) in
    let here : get_or claims place Infeasible ≡ best.claim = ap (λ (xs : List Claim). get_or xs place Infeasible) best.are ∙ seam best.before best.claim best.after in
    let under : p.profit ≤ℤ c = plan-under plant best.claim p c (subst (SaysOfPlans plant) here (says place there)) best.has (subst (IsCapped c) here (most.most place Infeasible there)) in
    by-less p.profit c (λ (claim : Claim). cap_of claim ≡ Some c) (Between p.profit c p.point) (Optimal p.profit p.point) (λ less. refl) (λ least.
    let same : p.profit ≡ c = omega (arith, ints, under, least) in ap (λ (x : ℤ). Some x) same)

-- two words for the cap of a claim
caps-same : (claim : Claim) → resumed_cap claim ≡ cap_of claim
caps-same (Optimal worth point) = refl
caps-same Infeasible = refl
caps-same (Between worth most point) = refl
caps-same (Below most) = refl

-- ---- the merged log

-- what was written, by what it was written of
record IsWrittenOf (first : Opened) (newest : Bool) (fronts : List Front) (order : List ℕ) (best : Claim) (logs : ℕ → List ℕ) (bytes : List ℕ) (claim : Claim) : Type 0 where
  trees : List RowTree
  all_trees : length trees ≡ length order
  texts : (place : ℕ) → place < length order → IfSome (slice_get fronts (get_or order place 0)) (λ front. IsTextBehind front (logs (get_or order place 0)) (get_or trees place no_tree))
  tree : RowTree
  merged : IsMerged (steps_of first.rows) (profit_of best) (view_of first.rows.program.root) (map Some trees) tree
  is_claim : IsClaimWith (plan_of best) (tree_cap (steps_of first.rows) (view_of first.rows.program.root) tree) claim
  text : bytes ≡ whole_text (front_text (joined_version newest first.head.declared.sums) first.head.declared) (tree_items tree) (larger_claim first.head.declared.sums claim)

written-of : (work : Work) (first : Opened) (newest : Bool) (fronts : List Front) (order : List ℕ) (best : Claim) (logs : ℕ → List ℕ) (bytes : List ℕ) (claim : Claim) → work.first.now ≡ first → work.newest ≡ newest → work.fronts.now ≡ fronts → work.order.now ≡ order
    → IsWritten work best logs bytes claim → IsWrittenOf first newest fronts order best logs bytes claim
written-of work first newest fronts order best logs bytes claim first_is newest_is fronts_are order_is w =
    let own : IsWrittenOf work.first.now work.newest work.fronts.now work.order.now best logs bytes claim = record {
      trees = w.trees;
      all_trees = w.all_trees;
      texts = w.texts;
      tree = w.tree;
      merged = w.merged;
      is_claim = w.is_claim;
      text = w.text;
    } in
    subst (λ (x : List ℕ). IsWrittenOf first newest fronts x best logs bytes claim) order_is
    (subst (λ (x : List Front). IsWrittenOf first newest x work.order.now best logs bytes claim) fronts_are
    (subst (λ (x : Bool). IsWrittenOf first x work.fronts.now work.order.now best logs bytes claim) newest_is
    (subst (λ (x : Opened). IsWrittenOf x work.newest work.fronts.now work.order.now best logs bytes claim) first_is own)))

-- the log of a number, with the tree that was read of it
log-of : (plant : Plant) (count : ℕ) (logs : ℕ → List ℕ) (all : Logs) (order : List ℕ) (own : List RowTree) (number place : ℕ) (tree : RowTree) → AreCheckedTo plant count logs all → number < count → get_or order place 0 ≡ number → tree ≡ get_or own place no_tree
    → IfSome (slice_get all.fronts.items (get_or order place 0)) (λ front. IsTextBehind front (logs (get_or order place 0)) (get_or own place no_tree)) → IsLogToMerge plant (logs number) all.first.head.declared tree (get_or all.claims.items number Infeasible)
log-of plant count logs all order own number place tree checked lt here tree_is text =
    let log = checked.each number lt in
    let there = subst (λ (n : ℕ). IfSome (slice_get all.fronts.items n) (λ front. IsTextBehind front (logs n) (get_or own place no_tree))) here text in
    let found = subst (λ (o : Option Front). IfSome o (λ front. IsTextBehind front (logs number) (get_or own place no_tree))) log.front there in
    record {
      valid = log.valid;
      own = log.own;
      opened = log.opened;
      same_head = log.same_head;
      text = subst (IsTextBehind (front_of log.own.head) (logs number)) (sym tree_is) found;
    }

-- what was written of logs that were checked is the log that is merged of them, where it is valid and suits their claims
merged-log : (plant : Plant) (count : ℕ) (logs : ℕ → List ℕ) (bytes : List ℕ) (all : Logs) (order : List ℕ) (best claim : Claim) → AreCheckedTo plant count logs all → AreKnownTo count all → IsJoined all.claims.items best → IsOrder all.claims.items order
    → IsWrittenOf all.first all.newest all.fronts.items order best logs bytes claim → IsAnyChecked plant bytes (verdict.Yes claim) → IsNoMore (resumed_cap best) (resumed_cap claim) → (IsTrue all.settled → ¬ IsOpenClaim claim) → IsMergedLog plant count logs claim bytes
merged-log plant count logs bytes all order best claim checked known joined ordered w valid cap settled =
    let claims = all.claims.items in
    let long = known.claims in
    let have = trees_to claims order w.trees ordered count (omega (arith, long)) in
    let numbered = order-length claims order ordered in
    let trees = have.trees in
    let within = order-within claims order count long ordered in
    let same = map-same (λ (n : ℕ). get_or trees n no_tree) order w.trees w.all_trees (λ place lt.
    let at = have.each (get_or order place 0) (within place 0 lt) in
    at.1.1.1 ∙ ap (λ (k : ℕ). get_or w.trees k no_tree) (one-place claims order at.0 place ordered at.1.0 lt at.1.1.0)) in
    let plan_is : plan_of best ≡ joined.plan = ap plan_of joined.is ∙ plan-with joined.plan joined.cap in
    let profit_is : profit_of best ≡ option_map (λ (p : ClaimedPlan). p.profit) joined.plan = ap profit_of joined.is ∙ profit-with joined.plan joined.cap in
    let says = λ (number : ℕ) (lt : number < length claims). (checked.each number (omega (arith, lt, long))).valid.holds in
    let cap_is : resumed_cap best ≡ joined.cap = caps-same best ∙ ap cap_of joined.is ∙ cap-with plant claims joined.plan joined.cap says joined.best_plan joined.best_cap in
    let first = all.first in
    record {
      first = first;
      opened = checked.first;
      trees = trees;
      claims = claims;
      all_trees = have.counted;
      all_claims = long;
      each = λ number lt.
          let at = have.each number lt in
          log-of plant count logs all order w.trees number at.0 (get_or trees number no_tree) checked lt at.1.1.0 at.1.1.1 (w.texts at.0 at.1.0);
      plan = joined.plan;
      best = joined.best_plan;
      order = order;
      ordered = ordered;
      tree = w.tree;
      merged = subst (λ (p : Option ℤ). IsMerged (steps_of first.rows) p (view_of first.rows.program.root) (map (λ (n : ℕ). Some (get_or trees n no_tree)) order) w.tree) profit_is
          (subst (λ (here : List (Option RowTree)). IsMerged (steps_of first.rows) (profit_of best) (view_of first.rows.program.root) here w.tree) (sym same) w.merged);
      is_claim = subst (λ (plan : Option ClaimedPlan). IsClaimWith plan (tree_cap (steps_of first.rows) (view_of first.rows.program.root) w.tree) claim) plan_is w.is_claim;
      newest = all.newest;
      is_newest = checked.newest;
      text = w.text;
      valid = valid;
      greatest = joined.cap;
      most = joined.best_cap;
      cap = subst (IsNoMore joined.cap) (caps-same claim) (subst (λ (o : Option ℤ). IsNoMore o (resumed_cap claim)) cap_is cap);
      settled = λ number lt closed. settled (known.settled number lt closed);
    }

-- the same of files that may be told
pub merged-told : (plant : Plant) (count : ℕ) (stem out : List ℕ) (old mid new : Option FileMap) (all : Logs) (order : List ℕ) (work : Work) (best claim : Claim) → new ≡ mid → work.first.now ≡ all.first → work.newest ≡ all.newest → work.fronts.now ≡ all.fronts.items → work.order.now ≡ order
    → IfSome old (λ m. AreCheckedTo plant count (logs_of m stem) all) → AreKnownTo count all → IsJoined all.claims.items best → IsOrder all.claims.items order → HasWritten work best stem out old mid claim → IfSome mid (λ m. IsAnyChecked plant (file_of m out) (verdict.Yes claim))
    → IsNoMore (resumed_cap best) (resumed_cap claim) → (IsTrue all.settled → ¬ IsOpenClaim claim) → IfSome old (λ m. IfSome new (λ n. IsMergedLog plant count (logs_of m stem) claim (file_of n out)))
merged-told plant count stem out None mid new all order work best claim same first_is newest_is fronts_are order_is checked known joined ordered written valid cap settled = tt
merged-told plant count stem out (Some m) None new all order work best claim same first_is newest_is fronts_are order_is checked known joined ordered written valid cap settled =
    subst (λ (o : Option FileMap). IfSome o (λ n. IsMergedLog plant count (logs_of m stem) claim (file_of n out))) (sym same) tt
merged-told plant count stem out (Some m) (Some k) new all order work best claim same first_is newest_is fronts_are order_is checked known joined ordered written valid cap settled =
    let w = written-of work all.first all.newest all.fronts.items order best (logs_of m stem) (file_of k out) claim first_is newest_is fronts_are order_is written in
    subst (λ (o : Option FileMap). IfSome o (λ n. IsMergedLog plant count (logs_of m stem) claim (file_of n out))) (sym same)
    (merged-log plant count (logs_of m stem) (file_of k out) all order best claim checked known joined ordered w valid cap settled)

-- ---- logs that are refused

-- logs that were checked are valid
valid-to : (plant : Plant) (count : ℕ) (logs : ℕ → List ℕ) (all : Logs) → AreCheckedTo plant count logs all → AreValidTo plant logs all.first.head.declared count
valid-to plant count logs all checked = λ number lt.
    let log = checked.each number lt in
    (get_or all.claims.items number Infeasible, (log.valid, (log.own, (log.opened, log.same_head))))

pub mergeable : (plant : Plant) (count : ℕ) (stem : List ℕ) (old : Option FileMap) (all : Logs) → IfSome old (λ m. AreCheckedTo plant count (logs_of m stem) all) → AreMergeable plant count stem old
mergeable plant count stem None all checked = tt
mergeable plant count stem (Some m) all checked = (all.first.head.declared, valid-to plant count (logs_of m stem) all checked)

-- the first that is refused
pub refused-told : (plant : Plant) (count : ℕ) (stem out : List ℕ) (old new : Option FileMap) (number : ℕ) (defect : Defect) → IfSome old (λ m. AreChecked plant count (logs_of m stem) (BadLogs number defect)) → IsMergingIn plant count stem out old new (No number defect)
refused-told plant count stem out None new number defect is = tt
refused-told plant count stem out (Some m) None number defect is = tt
refused-told plant count stem out (Some m) (Some n) number defect is = is

-- programs that are made of one plant are the same
same-made : (plant : Plant) (a b : Program) → IsMadeOf plant a → IsMadeOf plant b → a ≡ b
same-made plant a b one other = same-program a b
    (one.rows_are ∙ sym other.rows_are) (one.profit_is ∙ sym other.profit_is) (one.base_is ∙ sym other.base_is)
    (one.root_is ∙ sym other.root_is) (one.tags_are ∙ sym other.tags_are) (one.changes_are ∙ sym other.changes_are)

-- a valid log is not refused
yes-once : (plant : Plant) (bytes : List ℕ) (claim : Claim) (defect : Defect) → IsAnyChecked plant bytes (verdict.Yes claim) → IsAnyChecked plant bytes (verdict.No defect) → ⊥
yes-once plant bytes claim defect valid refused =
    let same = same-made plant refused.program valid.program refused.of_plant.made valid.of_plant.made in
    let right = subst (λ (program : Program). IsPlantVerdict plant program (depth_limit plant) bytes (verdict.No defect)) same refused.right in
    let is : verdict.No defect ≡ verdict.Yes claim = yes-stays plant valid.program (plant_root plant) (plant_root plant) (depth_limit plant) (depth_limit plant) bytes claim (verdict.No defect) (omega arith) valid.right right in
    cc

-- a log has one head
one-opened : (plant : Plant) (bytes : List ℕ) (a b : Opened) → IsOpened plant bytes a → IsOpened plant bytes b → a.head ≡ b.head
one-opened plant bytes a b one other =
    let same = same-made plant other.program one.program other.made one.made in
    let is = subst (λ (program : Program). IsOpenedOver plant program (plant_root plant) bytes b) same other.is in
    one_head plant one.program (depth_limit plant) bytes a.head b.head one.is.stands is.stands

-- of logs that are all valid and have the same head none is refused
never-refused : (plant : Plant) (count : ℕ) (logs own : ℕ → List ℕ) (all : Logs) (number : ℕ) (defect : Defect) (declared : Declared) → AreCheckedTo plant count logs all → ((part : ℕ) → part < count → own part ≡ logs part) → number < count
    → AreValidTo plant own declared number → IsRefusedToMerge plant number (own number) declared defect → ⊥
never-refused plant count logs own all number defect declared checked same lt valid (inl refused) =
    yes-once plant (logs number) (get_or all.claims.items number Infeasible) defect (checked.each number lt).valid (subst (λ (bytes : List ℕ). IsAnyChecked plant bytes (verdict.No defect)) (same number lt) refused)
never-refused plant count logs own all number defect declared checked same lt valid (inr other) =
    let start = valid 0 other.0 in
    let zero_lt : 0 < count = omega (arith, lt) in
    let start_opened = subst (λ (bytes : List ℕ). IsOpened plant bytes start.1.1.0) (same 0 zero_lt) start.1.1.1.0 in
    let first : all.first.head.declared ≡ declared = ap (λ (h : LogHead). h.declared) (one-opened plant (logs 0) all.first start.1.1.0 checked.first start_opened) ∙ start.1.1.1.1 in
    let log = checked.each number lt in
    let has = other.1 in
    let there = has.1.0 in
    let opened = subst (λ (bytes : List ℕ). IsOpened plant bytes there.1.1.0) (same number lt) there.1.1.1.0 in
    let last : has.0 ≡ log.own.head.declared = sym there.1.1.1.1 ∙ ap (λ (h : LogHead). h.declared) (one-opened plant (logs number) there.1.1.0 log.own opened log.opened) in
    let one : declared ≡ has.0 = sym (last ∙ log.same_head ∙ first) in
    no_other (items_of declared) (items_of has.0) (lines_on has.0) defect.line (ap items_of one) has.1.2

-- a log that is another file is there still, where one file changed
log-stays : (stem out : List ℕ) (part : ℕ) (old mid : Option FileMap) → out ≢ log_name stem part → OthersStay out old mid → option_map (λ (m : FileMap). file_of m (log_name stem part)) mid ≡ option_map (λ (m : FileMap). file_of m (log_name stem part)) old
log-stays stem out part old mid apart others = same_file (log_name stem part) old mid (others (log_name stem part) (λ is. apart (sym is)))

-- a log that is refused where another file was written leaves the files as they were: they are not told, since none is refused else
refused-later : (plant : Plant) (count : ℕ) (stem out : List ℕ) (old mid new : Option FileMap) (all : Logs) (number : ℕ) (defect : Defect) → 1 ≤ count → ((part : ℕ) → part < count → out ≢ log_name stem part) → IfSome old (λ m. AreCheckedTo plant count (logs_of m stem) all)
    → OthersStay out old mid → new ≡ mid → IsMergingIn plant count stem out mid new (No number defect) → (new ≡ old) × (old ≡ None)
refused-later plant count stem out None None new all number defect some apart checked others same is = (same, refl)
refused-later plant count stem out None (Some k) new all number defect some apart checked others same is =
    let there = log-stays stem out 0 None (Some k) (apart 0 (omega (arith, some))) others in absurd cc
refused-later plant count stem out (Some m) None new all number defect some apart checked others same is =
    let there = log-stays stem out 0 (Some m) None (apart 0 (omega (arith, some))) others in absurd cc
refused-later plant count stem out (Some m) (Some k) new all number defect some apart checked others same is =
    let now = subst (λ (o : Option FileMap). IsMergingIn plant count stem out (Some k) o (No number defect)) same is in
    absurd (never-refused plant count (logs_of m stem) (logs_of k stem) all number defect now.1.0 checked (λ part lt.
    let there = log-stays stem out part (Some m) (Some k) (apart part lt) others in
    let here : file_of k (log_name stem part) ≡ file_of m (log_name stem part) = cc in here) now.0 now.1.1.0 now.1.1.1)

-- what holds where the files are not told
untold : (plant : Plant) (count : ℕ) (stem out : List ℕ) (old new : Option FileMap) (said : Merged) → old ≡ None → IsMergingIn plant count stem out old new said
untold plant count stem out old new said none = subst (λ (o : Option FileMap). IsMergingIn plant count stem out o new said) (sym none) tt

-- the answer where all were checked anew
pub looked-again : {E : Type 0} (plant : Plant) (count : ℕ) (stem out : List ℕ) (old mid new : Option FileMap) (all : Logs) (result : Result Merged E) → 1 ≤ count → ((part : ℕ) → part < count → out ≢ log_name stem part) → IfSome old (λ m. AreCheckedTo plant count (logs_of m stem) all)
    → OthersStay out old mid → new ≡ mid → IfOk result NamesRefused → IfOk result (IsMergingIn plant count stem out mid new) → IfOk result (λ said. IsMergingIn plant count stem out old new said × (new ≡ old))
looked-again plant count stem out old mid new all (Err e) some apart checked others same never is = tt
looked-again plant count stem out old mid new all (Ok (Done claim)) some apart checked others same never is = absurd never
looked-again plant count stem out old mid new all (Ok (No number defect)) some apart checked others same never is =
    let left = refused-later plant count stem out old mid new all number defect some apart checked others same is in
    (untold plant count stem out old new (No number defect) left.1, left.0)

-- ---- answers

pub ok_then : {X E : Type 0} (result : Result X E) (P Q : X → Type 0) → ((x : X) → P x → Q x) → IfOk result P → IfOk result Q
ok_then (Ok x) P Q then_ is = then_ x is
ok_then (Err e) P Q then_ is = tt

-- the same of what was written and checked
pub merged-checked : (work : Work) (best claim : Claim) (stem out : List ℕ) (old new : Option FileMap) (plant : Plant) (count : ℕ) (all : Logs) (order : List ℕ) → work.first.now ≡ all.first → work.newest ≡ all.newest → work.fronts.now ≡ all.fronts.items → work.order.now ≡ order → IfSome old (λ m. AreCheckedTo plant count (logs_of m stem) all) → AreKnownTo count all → IsJoined all.claims.items best → IsOrder all.claims.items order
    → HasWrittenChecked plant work best all.settled stem out old new claim → IfSome old (λ m. IfSome new (λ n. IsMergedLog plant count (logs_of m stem) claim (file_of n out)))
merged-checked work best claim stem out old new plant count all order first_is newest_is fronts_are order_is checked known joined ordered has =
    merged-told plant count stem out old new new all order work best claim refl first_is newest_is fronts_are order_is checked known joined ordered has.written has.valid has.cap has.not_open
