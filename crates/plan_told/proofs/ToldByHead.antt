-- What is told of a search over the rows of a head, as of the given program, is right.
use Rattle.std.proofs.Common.{◌≡◌, ◌≢◌, ℕ, Bool, ◌-◌, ◌*◌, ◌<◌, ◌≤◌, true, false, List, length, Option, Some, None, ℤ, ◌≤ℤ◌, ◌<ℤ◌, refl, sym, subst, arith}
use Rattle.std.specs.Prelude.{IfSome, int_lt}
use Rattle.std.proofs.lemmas.Int.{ints}
use Rattle.stn_model.specs.declared.plant.Plant.{Plant}
use Rattle.stn_model.specs.Points.{depth_limit}
use Rattle.stn_model.specs.Sound.{Sound}
use Rattle.stn_model.specs.Profit.{profit}
use Rattle.time_grid.specs.Slots.{slots}
use Rattle.row_kit.specs.declared.domain.Domain.{Domain}
use Rattle.row_kit.specs.declared.found.Found.{Found}
use Rattle.row_kit.specs.declared.program.Program.{Program}
use Rattle.row_kit.specs.Point.{IsLawful, LiesIn, worth_of}
use Rattle.row_kit.specs.Points.{points_of}
use Rattle.row_set.specs.Parts.{IsAdmitted, IsPartOf}
use Rattle.proof_tree.specs.declared.capped.Capped.{Capped}
use Rattle.proof_tree.specs.declared.capped.Capped.TheVariants.{AtMost, NoPoint, Bad}
use Rattle.proof_tree.specs.Nodes.{counted}
use Rattle.row_relax.specs.declared.rows.Rows.{Rows}
use Rattle.row_relax.specs.Choices.{choices_of}
use Rattle.row_relax.specs.RowProofs.{RowTree}
use Rattle.row_relax.specs.View.{view_of}
use Rattle.branch_tree.specs.declared.ended.Ended.{Ended}
use Rattle.branch_tree.specs.Justified.{IsGroup}
use Rattle.branch_tree.specs.Searched.{HasOpenBox}
use Rattle.branch_tree.specs.Compared.{is_over}
use Rattle.plan_images.specs.Caps.{Caps}
use Rattle.plan_images.proofs.Imaging.{HaveSamePoints, itself-relaxes, same-relaxes}
use Rattle.plan_images.proofs.Telling.{bounds-cap}
use Rattle.sum_slots.specs.declared.sum.Sum.{Sum}
use Rattle.sum_slots.specs.Larger.{completed, given_of}
use Rattle.sum_slots.specs.Shown.{AreRanges}
use Rattle.derivations.specs.declared.derivation.Derivation.{Derivation}
use Rattle.valid_log.proofs.Depths.{depth-within}
use Rattle.plan_told.specs.Outcomes.{whole_count}
use Rattle.plan_told.specs.Ended.{IsEnding}
use Rattle.plan_told.specs.Heads.{CanHead}
use Rattle.plan_told.specs.Proofs.{IsCapOf, IsHeadedProofOf, claim_of}
use Rattle.plan_told.specs.Telling.{IsTold}
use Rattle.plan_told.specs.declared.telling.Told.{Told}
use Rattle.plan_told.proofs.Answering.{IsEnd, IsOver, IsShut, told-with}
use Rattle.plan_told.proofs.PartPlans.{group-places}
use Rattle.plan_told.proofs.Endings.{HasEnded, has-ended}
use Rattle.plan_told.proofs.CleanText.{writable-newest}
use Rattle.plan_told.proofs.PlainTold.{counted-some}
use Rattle.plan_told.proofs.ValidLog.{cap-short}
use Rattle.plan_told.specs.Given.{IsGivenEnded, given_end, least_found, worth_found}
use Rattle.plan_told.specs.Law.{HeadsAreTold, IsToldByHead}
use Rattle.plan_told.proofs.HeadImages.{head-images}
use Rattle.plan_told.proofs.GivenBest.{best_given, given-group, given-least, open-left}
use Rattle.plan_told.proofs.ValidHeads.{head-relaxes, head-same, valid-head}

-- what the test of less says of two numbers
not_less : (a b : ℤ) → int_lt a b ≡ false → b ≤ℤ a
not_less a b over = grind (arith, ints)

-- the same where it holds
is_less : (a b : ℤ) → int_lt a b ≡ true → a <ℤ b
is_less a b over = grind (arith, ints)

-- a budget within its bounds is below the whole count of many points
below_count : (budget points : ℕ) → 50000 < points → budget ≤ 100000 → budget < 2 * points - 1
below_count budget points many few = omega (arith, many, few)

-- where a cap allows the worth of the best point, and leaves nothing above it, nothing is left open
shut_of : (part : Program) (cap : Capped) (found : Option Found) → cap ≢ Bad → Caps (IsLawful part) (worth_of part) cap → IfSome found (IsGroup part) → is_over cap (worth_found found) ≡ false → IsShut cap found
shut_of part (AtMost n) (Some found) real caps group over = not_less found.value n over
shut_of part (AtMost n) None real caps group over = cc
shut_of part NoPoint (Some found) real caps group over = caps found.point group.lawful
shut_of part NoPoint None real caps group over = tt
shut_of part Bad found real caps group over = absurd (real refl)

-- where it leaves something above, it is above the best point
over_of : (cap : Capped) (found : Option Found) → cap ≢ Bad → is_over cap (worth_found found) ≡ true → IsOver cap found
over_of (AtMost n) (Some found) real over = is_less found.value n over
over_of (AtMost n) None real over = tt
over_of NoPoint found real over = cc
over_of Bad found real over = absurd (real refl)

module _ (plant : Plant) (part : Program) (rows : Rows) (judged : List Domain) (sums : List Sum) (units : List ℕ) (derivations : List Derivation) (sound : Sound plant) (is : IsPartOf plant part) (ranges : AreRanges part judged)
    (can : CanHead plant part judged sums units derivations rows) (many : 50000 < points_of part.root) (floors : Bool) (budget : ℕ) (few : budget ≤ 100000) (tree : RowTree) (ended : Ended) (has : HasEnded (depth_limit plant) rows floors (length part.root) budget ended tree) where
  same : HaveSamePoints part (choices_of rows) (completed sums) (given_of part)
  same = head-same plant part rows judged sums units derivations ranges can

  -- what the search ended with, as of the part
  head_end : IsEnd plant part budget (HasOpenBox rows (view_of rows.program.root) tree) (given_end (length part.root) (least_found part) ended)
  head_end =
      let choices = choices_of rows in
      let some : 0 < counted tree = counted-some rows (length part.root) tree has.justified in
      let spent : ended.spent ≡ counted tree = has.spent in
      let count : budget < whole_count part = below_count budget (points_of part.root) many few in
      let group = given-group part choices sums same ended.best has.group in
      let relaxes = same-relaxes (IsLawful part) (worth_of part) part choices (completed sums) (given_of part) same (itself-relaxes part) in
      let points = bounds-cap (IsLawful part) (worth_of part) choices (LiesIn choices.root) ended.cap relaxes (λ point lawful. lawful.lies) has.bounds in
      record {
        group = group;
        least = given-least part ended.best;
        caps = bounds-cap (IsAdmitted plant part) (profit plant) choices (LiesIn choices.root) ended.cap (head-relaxes plant part rows judged sums units derivations ranges can is) (λ point lawful. lawful.lies) has.bounds;
        short = cap-short (depth_limit plant) rows floors tree ended.cap has.writable has.cap;
        shut = λ closed. shut_of part ended.cap (best_given part ended.best) has.defined points group closed;
        over = λ over.
            let left = open-left part ended.best ended.cap ended.left_open has.defined has.settled over in
            let was = has.left_open left in
            ((over_of ended.cap (best_given part ended.best) has.defined over, was.0), (was.1, count));
        some = omega (arith, some, spent);
        within = has.within;
        most = (let within = has.within in omega (arith, within, count));
      }

  -- what is told of it is right
  told_given : (told : Told) → IsTold plant (given_end (length part.root) (least_found part) ended) told → IsToldByHead plant part judged sums units derivations budget tree told
  told_given told says =
      let with' = told-with plant part sound is budget (HasOpenBox rows (view_of rows.program.root) tree) (λ outcome. IsHeadedProofOf plant part judged sums units derivations outcome tree) (given_end (length part.root) (least_found part) ended) head_end
      (λ said borne small most left. (
        rows,
        record {
          boxes = sym has.spent;
          justified = has.justified;
          is = (can.enlarged, refl);
          valid = valid-head plant part rows judged sums units derivations ranges can tree ended.cap (claim_of plant said) (writable-newest (depth_limit plant) rows floors tree has.writable) has.cap has.defined borne small;
          cap = subst (IsCapOf said) has.cap most;
          left_open = left;
        },
      )) told says in
      record { outcome = with'.outcome; proof = with'.proof; claim = with'.claim; point = with'.point }

-- what is told of a search over the rows of a head is right
pub told-by_head : HeadsAreTold
told-by_head plant part rows judged sums units derivations floors budget tree ended given told sound is ranges can many some few of given_is says =
    let images = head-images plant part rows judged sums units derivations sound is ranges can in
    told_given plant part rows judged sums units derivations sound is ranges can many floors budget few tree ended (has-ended (depth_limit plant) rows floors (length part.root) budget (depth-within plant).0 images some ended tree of) told (subst (λ (end : Ended). IsTold plant end told) given_is says)

-- the best point as of the part has a value for each slot of the plant
pub given-places : {floors : Bool} {budget : ℕ} (plant : Plant) (part : Program) (rows : Rows) (judged : List Domain) (sums : List Sum) (units : List ℕ) (derivations : List Derivation) (tree : RowTree) (ended given : Ended) → Sound plant → IsPartOf plant part
    → AreRanges part judged → CanHead plant part judged sums units derivations rows → 1 ≤ budget → IsEnding (depth_limit plant) rows floors (length part.root) budget ended tree → IsGivenEnded part ended given → IfSome given.best (λ found. length found.point ≡ length (slots plant))
given-places {floors = floors} {budget = budget} plant part rows judged sums units derivations tree ended given sound is ranges can some of given_is =
    let images = head-images plant part rows judged sums units derivations sound is ranges can in
    subst (λ (end : Ended). IfSome end.best (λ found. length found.point ≡ length (slots plant))) (sym given_is)
    (group-places plant part sound is (best_given part ended.best)
    (given-group part (choices_of rows) sums (head-same plant part rows judged sums units derivations ranges can) ended.best (has-ended (depth_limit plant) rows floors (length part.root) budget (depth-within plant).0 images some ended tree of).group))
