-- What is told of a search over the own program of a part of a plant's choices is right.
use Rattle.std.proofs.Common.{◌≡◌, ℕ, Bool, false, ◌+◌, ◌*◌, ◌<◌, ◌≤◌, List, length, Option, Some, None, ℤ, ◌≤ℤ◌, ◌<ℤ◌, sym, subst, arith}
use Rattle.std.specs.Prelude.{IfSome}
use Rattle.std.specs.List.{All}
use Rattle.std.proofs.lemmas.Int.{ints}
use Rattle.std.proofs.lemmas.List.Elements.{All-contains}
use Rattle.stn_model.specs.declared.plant.Plant.{Plant}
use Rattle.stn_model.specs.Points.{depth_limit}
use Rattle.stn_model.specs.Sound.{Sound}
use Rattle.stn_model.specs.Profit.{profit}
use Rattle.time_grid.specs.Slots.{slots}
use Rattle.row_kit.specs.declared.area.Area.{Area}
use Rattle.row_kit.specs.declared.found.Found.{Found}
use Rattle.row_kit.specs.declared.program.Program.{Program}
use Rattle.row_kit.specs.Point.{LiesIn}
use Rattle.row_kit.specs.Points.{points_of}
use Rattle.row_set.specs.Parts.{IsAdmitted, IsPartOf}
use Rattle.row_set.specs.PlantProgram.{plant_root}
use Rattle.proof_tree.specs.declared.capped.Capped.{Capped}
use Rattle.proof_tree.specs.declared.capped.Capped.TheVariants.{AtMost, NoPoint, Bad}
use Rattle.proof_tree.specs.Items.{tree_items}
use Rattle.proof_tree.specs.Nodes.{counted, found_points}
use Rattle.proof_tree.specs.Tree.{leaf, split, no_point, dual, one_point, pending, after_cuts}
use Rattle.proof_tree.proofs.Folds.{found_in-tree}
use Rattle.row_relax.specs.declared.rows.Rows.{Rows}
use Rattle.row_relax.specs.Choices.{choices_of, plain, steps_of}
use Rattle.row_relax.specs.RowProofs.{RowTree}
use Rattle.row_relax.specs.View.{view_of}
use Rattle.branch_tree.specs.declared.ended.Ended.{Ended}
use Rattle.branch_tree.specs.Justified.{IsAbove, IsGroup, IsJustified}
use Rattle.branch_tree.specs.Searched.{HasOpenBox, IsBest, IsSearch, IsSettled}
use Rattle.branch_tree.proofs.Trees.{fact_of}
use Rattle.branch_tree.proofs.Whole.{fit-groups}
use Rattle.plan_images.proofs.Plans.{part-relaxes}
use Rattle.plan_images.proofs.Telling.{bounds-cap}
use Rattle.valid_log.specs.declared.verdict.LogVerdict.TheVariants.{Yes}
use Rattle.valid_log.proofs.LogFronts.{plain-verdict}
use Rattle.plan_told.specs.Outcomes.{IsPartOutcome}
use Rattle.plan_told.specs.Proofs.{IsCapOf, IsProofOf, claim_of, depth_over}
use Rattle.plan_told.specs.Ended.{IsSearchOf}
use Rattle.plan_told.specs.Telling.{IsTold}
use Rattle.plan_told.specs.declared.telling.Told.{Told}
use Rattle.plan_told.proofs.Answering.{IsEnd, IsOver, IsShut, told-with}
use Rattle.plan_told.proofs.PartPlans.{group-places}
use Rattle.plan_told.proofs.Texts.{plain-is}
use Rattle.plan_told.proofs.ValidLog.{cap-short, valid-tree}

-- the found points of a search are lawful, and stand with their worth
groups_of : {most given : ℕ} (rows : Rows) (floors : Bool) (budget : ℕ) (tree : RowTree) (ended : Ended) → IsSearch most rows floors given budget tree ended → All (IsGroup (choices_of rows)) (found_points tree)
groups_of rows floors budget tree ended made = subst (All (IsGroup (choices_of rows))) (found_in-tree Rows Area tree) (fit-groups rows floors (tree_items tree) made.writable.fit)

best_group : (program : Program) (best : Option Found) (fs : List Found) → IsBest best fs → All (IsGroup program) fs → IfSome best (IsGroup program)
best_group program None fs best groups = tt
best_group program (Some found) fs best groups = All-contains (IsGroup program) fs found groups best.0

-- the best found point of a search is lawful, and stands with its worth
pub best-group : {most given : ℕ} (rows : Rows) (floors : Bool) (budget : ℕ) (tree : RowTree) (ended : Ended) → IsSearch most rows floors given budget tree ended → IfSome ended.best (IsGroup (choices_of rows))
best-group rows floors budget tree ended made = best_group (choices_of rows) ended.best (found_points tree) made.best (groups_of rows floors budget tree ended made)

-- a proof that is justified counts a box: its root was not left open, since no certificate is held above it
pub counted-some : (rows : Rows) (given : ℕ) (tree : RowTree) → IsJustified rows given tree → 0 < counted tree
counted-some rows given (leaf cuts found no_point) just = omega arith
counted-some rows given (leaf cuts found (dual cert)) just = omega arith
counted-some rows given (leaf cuts found one_point) just = omega arith
counted-some rows given (leaf cuts found (pending cert)) just =
    let node = fact_of (after_cuts (steps_of rows) (view_of rows.program.root) cuts) _ just in
    let held = node.1.1.end.held in cc
counted-some rows given (split cuts found pick cert a b) just = omega arith

-- an outcome that is told is right, this is its proof, and the claim that is told is that of its answer
pub record IsToldRight (plant : Plant) (part : Program) (budget : ℕ) (tree : RowTree) (told : Told) : Type 0 where
  pub outcome : IsPartOutcome plant part budget told.outcome
  pub proof : IsProofOf plant part told.outcome tree
  pub claim : told.claim ≡ claim_of plant told.outcome.answer

-- ---- what the search ended with

at_most : (a b : ℤ) → a ≡ b → a ≤ℤ b
at_most a b same = omega (arith, ints, same)

-- a search that left nothing open has its cap for the worth of its best point
shut_of : (cap : Capped) (best : Option Found) → IsSettled cap best → IsShut cap best
shut_of (AtMost n) (Some found) settled = at_most n found.value settled
shut_of (AtMost n) None settled = settled
shut_of NoPoint None settled = settled
shut_of NoPoint (Some found) settled = settled
shut_of Bad best settled = settled

-- one that left a box open has its cap above its best point
over_of : (cap : Capped) (best : Option Found) (fs : List Found) → IsBest best fs → IsAbove cap fs → IsOver cap best
over_of (AtMost n) (Some found) fs best above = All-contains (λ (f : Found). f.value <ℤ n) fs found above best.0
over_of (AtMost n) None fs best above = tt
over_of NoPoint best fs is above = above
over_of Bad best fs is above = above

module _ (plant : Plant) (part : Program) (sound : Sound plant) (is : IsPartOf plant part) (budget : ℕ) (tree : RowTree) (ended : Ended) (of : IsSearchOf (depth_limit plant) (plain part) false (length part.root) budget ended tree) where
  -- what the search ended with
  plain_end : IsEnd plant part budget (HasOpenBox (plain part) (view_of part.root) tree) ended
  plain_end =
      let some : 0 < counted tree = counted-some (plain part) (length part.root) tree of.search.justified in
      let spent : ended.spent ≡ counted tree = of.search.spent in
      let few : ended.spent + 1 ≤ 2 * points_of part.root = of.search.few in
      record {
        group = best-group (plain part) false budget tree ended of.search;
        least = of.search.least;
        caps = bounds-cap (IsAdmitted plant part) (profit plant) part (LiesIn part.root) ended.cap (part-relaxes plant part is) (λ point lawful. lawful.lies) of.search.bounds;
        short = cap-short (depth_limit plant) (plain part) false tree ended.cap of.search.writable of.search.cap;
        shut = λ closed. shut_of ended.cap ended.best (of.search.settled closed);
        over = λ left.
            let was = of.search.left_open left in
            let fewer : budget + 1 < 2 * points_of part.root = of.exact.below left in
            ((over_of ended.cap ended.best (found_points tree) of.search.best was.1, was.0), (of.exact.spent left, omega (arith, fewer)));
        some = omega (arith, some, spent);
        within = of.search.within;
        most = omega (arith, few);
      }

  -- what is told of a search that ended is right
  pub told-right : (told : Told) → IsTold plant ended told → IsToldRight plant part budget tree told
  told-right told says =
      let with' = told-with plant part sound is budget (HasOpenBox (plain part) (view_of part.root) tree) (λ outcome. IsProofOf plant part outcome tree) ended plain_end
      (λ said borne small most left judged. record {
        boxes = sym of.search.spent;
        justified = of.search.justified;
        is = plain-is plant part judged tree (claim_of plant said);
        valid = plain-verdict plant part (plant_root plant) judged (depth_over (depth_limit plant) part.root) (tree_items tree) (claim_of plant said) (Yes (claim_of plant said))
            (valid-tree (depth_limit plant) (plain part) false tree ended.cap of.search.writable of.search.cap (claim_of plant said) of.search.defined borne small);
        cap = subst (IsCapOf said) of.search.cap most;
        left_open = left;
      }) told says in
      record { outcome = with'.outcome; proof = with'.proof; claim = with'.claim }

-- the best found point of a search has a value for each slot
pub best-places : {most : ℕ} (plant : Plant) (part : Program) (sound : Sound plant) (is : IsPartOf plant part) (floors : Bool) (budget : ℕ) (tree : RowTree) (ended : Ended) → IsSearch most (plain part) floors (length part.root) budget tree ended
    → IfSome ended.best (λ found. length found.point ≡ length (slots plant))
best-places plant part sound is floors budget tree ended search = group-places plant part sound is ended.best (best-group (plain part) floors budget tree ended search)
