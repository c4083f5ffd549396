-- The lines of a log lead the grammar from its begin to its end.
use Rattle.std.proofs.Common.{◌≡◌, ◌≢◌, ℕ, ℤ, ◌+◌, ◌-◌, ◌<◌, ◌≤◌, Bool, true, false, cond, not, ◌&&◌, ◌==◌, leb, ltb, eqb, if◌then◌else◌, List, [], ◌∷◌, ◌++◌, map, length, flat_map, take, drop, Option, None, Some, option_to_list, option_and_then, refl, sym, ap, ◌∙◌, arith, ⊎_elim, zero-add, add_comm, append-nil}
use Rattle.std.specs.List.{All}
use Rattle.std.specs.Option.{option_map, option_map_or}
use Rattle.std.proofs.Math.Seq.{take-append_seam, drop-append_seam}
use Rattle.std.proofs.lemmas.Bool.{and_parts, leb-true, le-leb, ltb-true, lt-ltb, false_from_ne_true, cases_eq, eq-eqb, ne_eqb}
use Rattle.std.proofs.lemmas.Grind.{flat_map-append}
use Rattle.std.proofs.lemmas.List.Sums.{sum_by-cons}
use Rattle.std.proofs.lemmas.List.Elements.{All-head, All-tail, All-same, All-take, All-drop}
use Rattle.row_kit.specs.declared.found.Found.{Found}
use Rattle.range_prop.specs.declared.row_cut.RowCut.{RowCut}
use Rattle.dual_bound.specs.declared.cert.Cert.{Cert}
use Rattle.dual_bound.specs.declared.cert.Mult.{Mult}
use Rattle.dual_bound.specs.Total.{are_fit, is_fit}
use Rattle.proof_tree.specs.declared.item.Item.TheVariants.{Node, Cut, Found as FoundItem, Split}
use Rattle.proof_tree.specs.Items.{leaf_item, tree_items, depth}
use Rattle.proof_tree.specs.Tree.{Leaf, no_point, dual, one_point, pending, leaf, split as parted}
use Rattle.row_relax.specs.declared.RowPick.{RowPick}
use Rattle.log_lines.specs.declared.line.Line.{Line}
use Rattle.log_lines.specs.declared.line.Line.TheVariants.{Node as NodeLine, Cut as CutLine, Found as FoundLine, Value as ValueLine, Point as PointLine, Dual as DualLine, Pending as PendingLine, Floor as FloorLine, Split as SplitLine, Mult as MultLine, ClaimOptimal, ClaimBetween, End as EndLine}
use Rattle.log_lines.specs.declared.grammar.Limits.{Limits}
use Rattle.log_lines.specs.declared.grammar.Place.{Place}
use Rattle.log_lines.specs.declared.grammar.Place.TheVariants.{Node as AtNode, Inside, Ending, Floored, Values, Mults, Claim as AtClaim, End as AtEnd}
use Rattle.log_lines.specs.declared.step.Step.{Step}
use Rattle.log_lines.specs.declared.step.Step.TheVariants.{Begins, At, Opens, Ends}
use Rattle.log_lines.specs.Grammar.{values_step, mults_step, follows, step_of, Standing, after_part, part_place, after_step, first_kind, next, over, line_defect}
use Rattle.proof_log.specs.declared.claim.Claim.{Claim}
use Rattle.proof_log.specs.declared.claim.Claim.TheVariants.{Optimal, Infeasible, Between, Below}
use Rattle.row_relax.specs.RowProofs.{RowItem, RowTree}
use Rattle.proof_log.specs.Log.{floor_lines, started, value_lines, mult_line, item_lines, tree_lines, claim_lines, log_lines}
use Rattle.proof_log.specs.Accepted.{unless, leads, MayFloor, IsFitItem, IsFitClaim, LogsAreAccepted}

-- all of two lists
pub front : {X : Type 0} (P : X → Type 0) (xs ys : List X) → All P (xs ++ ys) → All P xs
front P xs ys all = All-same P xs (take (length xs) (xs ++ ys)) (sym (take-append_seam xs ys)) (All-take P (length xs) (xs ++ ys) all)

pub back : {X : Type 0} (P : X → Type 0) (xs ys : List X) → All P (xs ++ ys) → All P ys
back P xs ys all = All-same P ys (drop (length xs) (xs ++ ys)) (sym (drop-append_seam xs ys)) (All-drop P (length xs) (xs ++ ys) all)

-- where lines of this version stand
abbrev pub at : ℕ → Place → List Bool → Standing
at version place sides = record { version = version; place = place; sides = sides }

-- where they stand after a part
abbrev pub closed : ℕ → List Bool → Standing
closed version sides = at version (part_place (after_part sides)) (after_part sides)

-- a number that is not too large
not_below : (most n : ℕ) → n < most → leb most n ≡ false
not_below most n low = false_from_ne_true (leb most n) (λ is. let high : most ≤ n = leb-true most n is in omega arith)

not_above : (most n : ℕ) → n ≤ most → ltb most n ≡ false
not_above most n low = false_from_ne_true (ltb most n) (λ is. let high : most < n = ltb-true most n is in omega arith)

-- a test that does not hold
passes : (test : Bool) (kind : ℕ) (tests : List (Bool × ℕ)) → test ≡ false → first_kind tests ≡ None → first_kind ((test, kind) ∷ tests) ≡ None
passes test kind tests is rest = ap (λ (b : Bool). if b then Some kind else first_kind tests) is ∙ rest

-- all numbers from one on are above the last
IsAbove : Option ℕ → ℕ → Type 0
IsAbove above least = (number : ℕ) → least ≤ number → follows above number ≡ true

above_none : (least : ℕ) → IsAbove None least
unfolding IsAbove
above_none least number low = refl

above_last : (last : ℕ) → IsAbove (Some last) (last + 1)
unfolding IsAbove
above_last last number low = let later : last < number = omega arith in lt-ltb last number later

above_later : (above : Option ℕ) (least : ℕ) → IsAbove above least → IsAbove above (least + 1)
unfolding IsAbove
above_later above least is number low = is number (omega arith)

-- more than none
values_step-more : (n : ℕ) (above : Option ℕ) (of_claim : Bool) → values_step (n + 1) above of_claim ≡ At (Values (n + 1) above of_claim)
values_step-more n above of_claim =
    let some : eqb (n + 1) 0 ≡ false = ne_eqb (n + 1) 0 (λ is. omega arith) in
    ap (λ (b : Bool). At (if b then (if of_claim then AtEnd else Ending) else Values (n + 1) above of_claim)) some

mults_step-more : (n : ℕ) (above : Option ℕ) (beside : Bool) → mults_step (n + 1) above beside ≡ At (Mults (n + 1) above beside)
mults_step-more n above beside =
    let some : eqb (n + 1) 0 ≡ false = ne_eqb (n + 1) 0 (λ is. omega arith) in
    ap (λ (b : Bool). if b then (if beside then Opens else Ends) else At (Mults (n + 1) above beside)) some

-- how many starts a value more makes
started-cons : (value : ℕ) (point : List ℕ) → started (value ∷ point) ≡ cond (not (value == 0)) 1 0 + started point
started-cons value point = sum_by-cons (λ (v : ℕ). cond (not (v == 0)) 1 0) value point

pub started-zero : (value : ℕ) (point : List ℕ) → value ≡ 0 → started (value ∷ point) ≡ started point
started-zero value point is =
    let none : eqb value 0 ≡ true = eq-eqb value 0 is in
    started-cons value point ∙ ap (λ (b : Bool). cond (not b) 1 0 + started point) none ∙ zero-add (started point)

pub started-more : (value : ℕ) (point : List ℕ) → value ≢ 0 → started (value ∷ point) ≡ started point + 1
started-more value point is =
    let some : eqb value 0 ≡ false = ne_eqb value 0 is in
    started-cons value point ∙ ap (λ (b : Bool). cond (not b) 1 0 + started point) some ∙ add_comm 1 (started point)

pub value_lines-zero : (slot value : ℕ) (point : List ℕ) → value ≡ 0 → value_lines slot (value ∷ point) ≡ value_lines (slot + 1) point
value_lines-zero slot value point is = ap (λ (b : Bool). (if b then [] else ValueLine slot value ∷ []) ++ value_lines (slot + 1) point) (eq-eqb value 0 is)

pub value_lines-more : (slot value : ℕ) (point : List ℕ) → value ≢ 0 → value_lines slot (value ∷ point) ≡ ValueLine slot value ∷ value_lines (slot + 1) point
value_lines-more slot value point is = ap (λ (b : Bool). (if b then [] else ValueLine slot value ∷ []) ++ value_lines (slot + 1) point) (ne_eqb value 0 is)

-- a step leads on in the same way from each place
after_step-place : (version : ℕ) (p q : Place) (sides : List Bool) (step : Step) → after_step (at version p sides) step ≡ after_step (at version q sides) step
after_step-place version p q sides (Begins v) = refl
after_step-place version p q sides (At place) = refl
after_step-place version p q sides Opens = refl
after_step-place version p q sides Ends = refl

-- the place in a node after its found point, or before it
abbrev place_in : Option Found → Place
place_in None = Inside
place_in (Some found) = Ending

-- from where two ways lead on alike
alike : (f g go : Standing → Option Standing) → ((later : Standing) → f later ≡ option_and_then go (g later)) → (so_far : Option Standing) → option_and_then f so_far ≡ option_and_then go (option_and_then g so_far)
alike f g go same None = refl
alike f g go same (Some later) = same later

module _ (limits : Limits) where
  -- where a line leads
  abbrev pub on : Standing → Line → Option Standing
  on standing line = unless (line_defect limits standing line) (next standing line)

  -- a line that may stand here and whose numbers are not too large leads on by its step
  pub on-step : (standing : Standing) (line : Line) (step : Step) → step_of standing.version standing.place line ≡ Some step → over limits standing line ≡ None → on standing line ≡ Some (after_step standing step)
  on-step standing line step is clean =
      let there : next standing line ≡ Some (after_step standing step) = ap (option_map (after_step standing)) is in
      let none : line_defect limits standing line ≡ None = ap (λ (later : Option Standing). option_map_or (λ _. over limits standing line) later (Some 1)) there ∙ clean in
      ap (λ (kind : Option ℕ). unless kind (next standing line)) none ∙ there

  -- lines and then others
  pub leads-append : (standing : Standing) (xs ys : List Line) → leads limits standing (xs ++ ys) ≡ option_and_then (λ later. leads limits later ys) (leads limits standing xs)
  leads-append standing [] ys = refl
  leads-append standing (x ∷ xs) ys = alike (λ later. leads limits later (xs ++ ys)) (λ later. leads limits later xs) (λ later. leads limits later ys) (λ later. leads-append later xs ys) (on standing x)

  pub leads-then : (standing later : Standing) (xs ys : List Line) → leads limits standing xs ≡ Some later → leads limits standing (xs ++ ys) ≡ leads limits later ys
  leads-then standing later xs ys is = leads-append standing xs ys ∙ ap (option_and_then (λ later. leads limits later ys)) is

  pub leads-cons : (standing later : Standing) (x : Line) (xs : List Line) → on standing x ≡ Some later → leads limits standing (x ∷ xs) ≡ leads limits later xs
  leads-cons standing later x xs is = ap (option_and_then (λ later. leads limits later xs)) is

  -- the lines of values
  value_step : (version left : ℕ) (above : Option ℕ) (slot quanta : ℕ) (of_claim : Bool) (sides : List Bool) → follows above slot ≡ true → slot < limits.points → on (at version (Values left above of_claim) sides) (ValueLine slot quanta) ≡ Some (after_step (at version (Values left above of_claim) sides) (values_step (left - 1) (Some slot) of_claim))
  value_step version left above slot quanta of_claim sides later low =
      on-step (at version (Values left above of_claim) sides) (ValueLine slot quanta) (values_step (left - 1) (Some slot) of_claim)
      (ap (λ (b : Bool). if b then Some (values_step (left - 1) (Some slot) of_claim) else None) later)
      (passes (leb limits.points slot) 5 [] (not_below limits.points slot low) refl)

  value_more : (version n : ℕ) (above : Option ℕ) (slot value : ℕ) (of_claim : Bool) (sides : List Bool) (lines : List Line) (place : Place) (end : Standing) → follows above slot ≡ true → slot < limits.points → leads limits (after_step (at version (Values (n + 1) above of_claim) sides) (values_step n (Some slot) of_claim)) lines ≡ Some end → leads limits (after_step (at version place sides) (values_step (n + 1) above of_claim)) (ValueLine slot value ∷ lines) ≡ Some end
  value_more version n above slot value of_claim sides lines place end later low rest =
      let one_less : n + 1 - 1 ≡ n = omega arith in
      let here = at version (Values (n + 1) above of_claim) sides in
      ap (λ (step : Step). leads limits (after_step (at version place sides) step) (ValueLine slot value ∷ lines)) (values_step-more n above of_claim)
      ∙ leads-cons here (after_step here (values_step (n + 1 - 1) (Some slot) of_claim)) (ValueLine slot value) lines (value_step version (n + 1) above slot value of_claim sides later low)
      ∙ ap (λ (m : ℕ). leads limits (after_step here (values_step m (Some slot) of_claim)) lines) one_less
      ∙ rest

  values_lead : (version slot : ℕ) (above : Option ℕ) (place : Place) (point : List ℕ) (of_claim : Bool) (sides : List Bool) → IsAbove above slot → slot + length point ≤ limits.points → leads limits (after_step (at version place sides) (values_step (started point) above of_claim)) (value_lines slot point) ≡ Some (at version (if of_claim then AtEnd else Ending) sides)
  unfolding IsAbove
  values_lead version slot above place [] of_claim sides later low = refl
  values_lead version slot above place (value ∷ point) of_claim sides later low =
      let within : slot + 1 + length point ≤ limits.points = omega arith in
      ⊎_elim
      (λ (is : value ≡ 0).
      ap (λ (n : ℕ). leads limits (after_step (at version place sides) (values_step n above of_claim)) (value_lines slot (value ∷ point))) (started-zero value point is)
      ∙ ap (leads limits (after_step (at version place sides) (values_step (started point) above of_claim))) (value_lines-zero slot value point is)
      ∙ values_lead version (slot + 1) above place point of_claim sides (above_later above slot later) within)
      (λ (is : value ≢ 0).
      ap (λ (n : ℕ). leads limits (after_step (at version place sides) (values_step n above of_claim)) (value_lines slot (value ∷ point))) (started-more value point is)
      ∙ ap (leads limits (after_step (at version place sides) (values_step (started point + 1) above of_claim))) (value_lines-more slot value point is)
      ∙ value_more version (started point) above slot value of_claim sides (value_lines (slot + 1) point) place (at version (if of_claim then AtEnd else Ending) sides) (later slot (omega arith)) (omega arith)
      (values_lead version (slot + 1) (Some slot) (Values (started point + 1) above of_claim) point of_claim sides (above_last slot) within))
      (cases_eq value 0)

  -- the lines of multipliers
  mult_step : (version left : ℕ) (above : Option ℕ) (row factor : ℕ) (beside : Bool) (sides : List Bool) → follows above row ≡ true → row < limits.rows → factor ≤ 1099511627776 → on (at version (Mults left above beside) sides) (MultLine row factor) ≡ Some (after_step (at version (Mults left above beside) sides) (mults_step (left - 1) (Some row) beside))
  mult_step version left above row factor beside sides later low small =
      on-step (at version (Mults left above beside) sides) (MultLine row factor) (mults_step (left - 1) (Some row) beside)
      (ap (λ (b : Bool). if b then Some (mults_step (left - 1) (Some row) beside) else None) later)
      (passes (leb limits.rows row) 4 ((ltb 1099511627776 factor, 6) ∷ []) (not_below limits.rows row low) (passes (ltb 1099511627776 factor) 6 [] (not_above 1099511627776 factor small) refl))

  mults_lead : (version least : ℕ) (above : Option ℕ) (place : Place) (mults : List Mult) (beside : Bool) (sides : List Bool) → IsAbove above least → are_fit limits.rows least mults ≡ true → leads limits (after_step (at version place sides) (mults_step (length mults) above beside)) (map mult_line mults) ≡ Some (after_step (at version Inside sides) (if beside then Opens else Ends))
  unfolding IsAbove
  mults_lead version least above place [] beside sides later fit = ap Some (after_step-place version place Inside sides (if beside then Opens else Ends))
  mults_lead version least above place (mult ∷ mults) beside sides later fit =
      let p = and_parts (leb 1 mult.factor && leb mult.factor 1099511627776 && leb least mult.row && ltb mult.row limits.rows) (are_fit limits.rows (mult.row + 1) mults) fit in
      let q = and_parts (leb 1 mult.factor && leb mult.factor 1099511627776 && leb least mult.row) (ltb mult.row limits.rows) p.0 in
      let r = and_parts (leb 1 mult.factor && leb mult.factor 1099511627776) (leb least mult.row) q.0 in
      let t = and_parts (leb 1 mult.factor) (leb mult.factor 1099511627776) r.0 in
      let n = length mults in
      let here = at version (Mults (n + 1) above beside) sides in
      let one_more : length (mult ∷ mults) ≡ n + 1 = omega arith in
      let one_less : n + 1 - 1 ≡ n = omega arith in
      ap (λ (m : ℕ). leads limits (after_step (at version place sides) (mults_step m above beside)) (map mult_line (mult ∷ mults))) one_more
      ∙ ap (λ (step : Step). leads limits (after_step (at version place sides) step) (map mult_line (mult ∷ mults))) (mults_step-more n above beside)
      ∙ leads-cons here (after_step here (mults_step (n + 1 - 1) (Some mult.row) beside)) (mult_line mult) (map mult_line mults)
      (mult_step version (n + 1) above mult.row mult.factor beside sides (later mult.row (leb-true least mult.row r.1)) (ltb-true mult.row limits.rows q.1) (leb-true mult.factor 1099511627776 t.1))
      ∙ ap (λ (m : ℕ). leads limits (after_step here (mults_step m (Some mult.row) beside)) (map mult_line mults)) one_less
      ∙ mults_lead version (mult.row + 1) (Some mult.row) (Mults (n + 1) above beside) mults beside sides (above_last mult.row) p.1

  -- the sizes of a fit certificate
  sizes : (cert : Cert) → is_fit limits.rows cert ≡ true → first_kind ((ltb 1048576 cert.scale, 7) ∷ ((ltb 50000 (length cert.mults), 8) ∷ [])) ≡ None
  sizes cert fit =
      let p = and_parts (leb cert.scale 1048576 && leb (length cert.mults) 50000) (are_fit limits.rows 0 cert.mults) fit in
      let q = and_parts (leb cert.scale 1048576) (leb (length cert.mults) 50000) p.0 in
      passes (ltb 1048576 cert.scale) 7 ((ltb 50000 (length cert.mults), 8) ∷ []) (not_above 1048576 cert.scale (leb-true cert.scale 1048576 q.0))
      (passes (ltb 50000 (length cert.mults)) 8 [] (not_above 50000 (length cert.mults) (leb-true (length cert.mults) 50000 q.1)) refl)

  -- the lines of a certificate, at a place where its line may come
  cert_lead : (version : ℕ) (place : Place) (sides : List Bool) (line : Line) (cert : Cert) (beside : Bool) → is_fit limits.rows cert ≡ true → step_of version place line ≡ Some (mults_step (length cert.mults) None beside) → over limits (at version place sides) line ≡ None → leads limits (at version place sides) (line ∷ map mult_line cert.mults) ≡ Some (after_step (at version Inside sides) (if beside then Opens else Ends))
  cert_lead version place sides line cert beside fit is clean =
      let p = and_parts (leb cert.scale 1048576 && leb (length cert.mults) 50000) (are_fit limits.rows 0 cert.mults) fit in
      let step = mults_step (length cert.mults) None beside in
      let here = at version place sides in
      leads-cons here (after_step here step) line (map mult_line cert.mults) (on-step here line step is clean)
      ∙ mults_lead version 0 None place cert.mults beside sides (above_none 0) p.1

  -- the line of a point, at a place where it may come
  point_lead : (version : ℕ) (place : Place) (sides : List Bool) → 2 ≤ version → step_of version place PointLine ≡ (if leb 2 version then Some Ends else None) → leads limits (at version place sides) (PointLine ∷ []) ≡ Some (closed version sides)
  point_lead version place sides new is =
      let here = at version place sides in
      leads-cons here (closed version sides) PointLine [] (on-step here PointLine Ends (is ∙ ap (λ (b : Bool). if b then Some Ends else None) (le-leb 2 version new)) refl)

  -- the lines of an end
  leaf_lead : (version : ℕ) (found : Option Found) (end : Leaf Cert) (sides : List Bool) → IsFitItem limits version (leaf_item end) → leads limits (at version (place_in found) sides) (item_lines (leaf_item end)) ≡ Some (closed version sides)
  unfolding item_lines
  leaf_lead version None no_point sides fit = refl
  leaf_lead version (Some found) no_point sides fit = refl
  leaf_lead version None one_point sides fit = point_lead version Inside sides fit refl
  leaf_lead version (Some found) one_point sides fit = point_lead version Ending sides fit refl
  leaf_lead version None (dual cert) sides fit = cert_lead version Inside sides (DualLine cert.scale (length cert.mults)) cert false fit refl (sizes cert fit)
  leaf_lead version (Some found) (dual cert) sides fit = cert_lead version Ending sides (DualLine cert.scale (length cert.mults)) cert false fit refl (sizes cert fit)
  leaf_lead version None (pending cert) sides fit = cert_lead version Inside sides (PendingLine cert.scale (length cert.mults)) cert false fit refl (sizes cert fit)
  leaf_lead version (Some found) (pending cert) sides fit = cert_lead version Ending sides (PendingLine cert.scale (length cert.mults)) cert false fit refl (sizes cert fit)

  -- the line of a floor, at a place where it may come
  floor_lead : (version : ℕ) (place : Place) (sides : List Bool) (profit : ℤ) (lines : List Line) (end : Option Standing) → version ≡ 4 → step_of version place (FloorLine profit) ≡ (if version == 4 then Some (At Floored) else None) → leads limits (at version Floored sides) lines ≡ end → leads limits (at version place sides) (FloorLine profit ∷ lines) ≡ end
  floor_lead version place sides profit lines end new is rest =
      let here = at version place sides in
      leads-cons here (at version Floored sides) (FloorLine profit) lines
      (on-step here (FloorLine profit) (At Floored) (is ∙ ap (λ (b : Bool). if b then Some (At Floored) else None) (eq-eqb version 4 new)) refl)
      ∙ rest

  split_lead : (version : ℕ) (found : Option Found) (pick : RowPick) (cert : Cert) (sides : List Bool) → pick.slot < limits.slots → is_fit limits.rows cert ≡ true → MayFloor version pick.floor → leads limits (at version (place_in found) sides) (item_lines (Split pick cert)) ≡ Some (at version AtNode (false ∷ sides))
  unfolding item_lines
  split_lead version found pick cert sides named fit may =
      let others = (ltb 1048576 cert.scale, 7) ∷ ((ltb 50000 (length cert.mults), 8) ∷ []) in
      let clean = passes (leb limits.slots pick.slot) 5 others (not_below limits.slots pick.slot named) (sizes cert fit) in
      by found pick.floor may clean
    where
      by : (found : Option Found) (floor : Option ℤ) → MayFloor version floor → first_kind ((leb limits.slots pick.slot, 5) ∷ ((ltb 1048576 cert.scale, 7) ∷ ((ltb 50000 (length cert.mults), 8) ∷ []))) ≡ None → leads limits (at version (place_in found) sides) (floor_lines floor ++ (SplitLine pick.slot pick.max cert.scale (length cert.mults) ∷ map mult_line cert.mults)) ≡ Some (at version AtNode (false ∷ sides))
      by None None may clean = cert_lead version Inside sides (SplitLine pick.slot pick.max cert.scale (length cert.mults)) cert true fit refl clean
      by (Some found) None may clean = cert_lead version Ending sides (SplitLine pick.slot pick.max cert.scale (length cert.mults)) cert true fit refl clean
      by None (Some profit) new clean = floor_lead version Inside sides profit (SplitLine pick.slot pick.max cert.scale (length cert.mults) ∷ map mult_line cert.mults) _ new refl (cert_lead version Floored sides (SplitLine pick.slot pick.max cert.scale (length cert.mults)) cert true fit refl clean)
      by (Some found) (Some profit) new clean = floor_lead version Ending sides profit (SplitLine pick.slot pick.max cert.scale (length cert.mults) ∷ map mult_line cert.mults) _ new refl (cert_lead version Floored sides (SplitLine pick.slot pick.max cert.scale (length cert.mults)) cert true fit refl clean)

  -- the lines of cuts
  cut_step : (version : ℕ) (cut : RowCut) (sides : List Bool) → cut.row < limits.rows → cut.slot < limits.slots → on (at version Inside sides) (CutLine cut.row cut.slot) ≡ Some (at version Inside sides)
  cut_step version cut sides row slot =
      on-step (at version Inside sides) (CutLine cut.row cut.slot) (At Inside) refl
      (passes (leb limits.rows cut.row) 4 ((leb limits.slots cut.slot, 5) ∷ []) (not_below limits.rows cut.row row) (passes (leb limits.slots cut.slot) 5 [] (not_below limits.slots cut.slot slot) refl))

  cuts_lead : (version : ℕ) (cuts : List RowCut) (sides : List Bool) → All (IsFitItem limits version) (map Cut cuts) → leads limits (at version Inside sides) (flat_map item_lines (map Cut cuts)) ≡ Some (at version Inside sides)
  unfolding item_lines
  cuts_lead version [] sides fit = refl
  cuts_lead version (cut ∷ cuts) sides fit =
      let named = All-head (IsFitItem limits version) (Cut cut) (map Cut cuts) fit in
      leads-cons (at version Inside sides) (at version Inside sides) (CutLine cut.row cut.slot) (flat_map item_lines (map Cut cuts)) (cut_step version cut sides named.0 named.1)
      ∙ cuts_lead version cuts sides (All-tail (IsFitItem limits version) (Cut cut) (map Cut cuts) fit)

  -- the lines of a found point, if there is one
  found_lead : (version : ℕ) (found : Option Found) (sides : List Bool) → All (IsFitItem limits version) (map FoundItem (option_to_list found)) → leads limits (at version Inside sides) (flat_map item_lines (map FoundItem (option_to_list found))) ≡ Some (at version (place_in found) sides)
  unfolding item_lines
  found_lead version None sides fit = refl
  found_lead version (Some found) sides fit =
      let fits = All-head (IsFitItem limits version) (FoundItem found) [] fit in
      let here = at version Inside sides in
      let lines = value_lines 0 found.point in
      ap (leads limits here) (append-nil (FoundLine found.value (started found.point) ∷ lines))
      ∙ leads-cons here (after_step here (values_step (started found.point) None false)) (FoundLine found.value (started found.point)) lines refl
      ∙ values_lead version 0 None Inside found.point false sides (above_none 0) (omega arith)

  -- a node's own line, those of its cuts and of its found point, and then others
  node_lead : (version : ℕ) (cuts : List RowCut) (found : Option Found) (rest : List RowItem) (sides : List Bool) (end : Option Standing) → length sides ≤ limits.depth → All (IsFitItem limits version) (map Cut cuts) → All (IsFitItem limits version) (map FoundItem (option_to_list found)) → leads limits (at version (place_in found) sides) (flat_map item_lines rest) ≡ end → leads limits (at version AtNode sides) (flat_map item_lines (Node ∷ (map Cut cuts ++ (map FoundItem (option_to_list found) ++ rest)))) ≡ end
  unfolding item_lines
  node_lead version cuts found rest sides end low cuts_fit found_fits is =
      let here = at version AtNode sides in
      let inside = at version Inside sides in
      let group = map FoundItem (option_to_list found) in
      leads-cons here inside NodeLine (flat_map item_lines (map Cut cuts ++ (group ++ rest))) (on-step here NodeLine (At Inside) refl (passes (ltb limits.depth (length sides)) 9 [] (not_above limits.depth (length sides) low) refl))
      ∙ ap (leads limits inside) (flat_map-append item_lines (map Cut cuts) (group ++ rest))
      ∙ leads-then inside inside (flat_map item_lines (map Cut cuts)) (flat_map item_lines (group ++ rest)) (cuts_lead version cuts sides cuts_fit)
      ∙ ap (leads limits inside) (flat_map-append item_lines group rest)
      ∙ leads-then inside (at version (place_in found) sides) (flat_map item_lines group) (flat_map item_lines rest) (found_lead version found sides found_fits)
      ∙ is

  -- the lines of a tree lead through it to where its part has ended
  pub tree_lead : (version : ℕ) (tree : RowTree) (sides : List Bool) → All (IsFitItem limits version) (tree_items tree) → depth tree + length sides ≤ limits.depth + 1 → leads limits (at version AtNode sides) (tree_lines tree) ≡ Some (closed version sides)
  tree_lead version (leaf cuts found end) sides fit low =
      let Fit = IsFitItem limits version in
      let group = map FoundItem (option_to_list found) in
      let last : List RowItem = leaf_item end ∷ [] in
      let inner = All-tail Fit Node (map Cut cuts ++ (group ++ last)) fit in
      let rest = back Fit (map Cut cuts) (group ++ last) inner in
      node_lead version cuts found last sides (Some (closed version sides)) (omega arith) (front Fit (map Cut cuts) (group ++ last) inner) (front Fit group last rest)
      (ap (leads limits (at version (place_in found) sides)) (append-nil (item_lines (leaf_item end))) ∙ leaf_lead version found end sides (All-head Fit (leaf_item end) [] (back Fit group last rest)))
  tree_lead version (parted cuts found pick cert a b) sides fit low =
      let Fit = IsFitItem limits version in
      let group = map FoundItem (option_to_list found) in
      let both : List RowItem = tree_items a ++ tree_items b in
      let last : List RowItem = Split pick cert ∷ both in
      let inner = All-tail Fit Node (map Cut cuts ++ (group ++ last)) fit in
      let rest = back Fit (map Cut cuts) (group ++ last) inner in
      let ends = back Fit group last rest in
      let named = All-head Fit (Split pick cert) both ends in
      let parts = All-tail Fit (Split pick cert) both ends in
      let here = at version (place_in found) sides in
      let left = at version AtNode (false ∷ sides) in
      let right = at version AtNode (true ∷ sides) in
      let deep_a : depth a + length (false ∷ sides) ≤ limits.depth + 1 = omega arith in
      let deep_b : depth b + length (true ∷ sides) ≤ limits.depth + 1 = omega arith in
      node_lead version cuts found last sides (Some (closed version sides)) (omega arith) (front Fit (map Cut cuts) (group ++ last) inner) (front Fit group last rest)
      (leads-then here left (item_lines (Split pick cert)) (flat_map item_lines both) (split_lead version found pick cert sides named.0 named.1 named.2)
      ∙ ap (leads limits left) (flat_map-append item_lines (tree_items a) (tree_items b))
      ∙ leads-then left right (tree_lines a) (tree_lines b) (tree_lead version a (false ∷ sides) (front Fit (tree_items a) (tree_items b) parts) deep_a)
      ∙ tree_lead version b (true ∷ sides) (back Fit (tree_items a) (tree_items b) parts) deep_b)

  -- the lines of a claim
  pub claim_lead : (version : ℕ) (claim : Claim) (sides : List Bool) → IsFitClaim limits claim → leads limits (at version AtClaim sides) (claim_lines claim) ≡ Some (at version AtEnd sides)
  unfolding claim_lines
  claim_lead version (Optimal profit point) sides fit =
      leads-cons (at version AtClaim sides) (after_step (at version AtClaim sides) (values_step (started point) None true)) (ClaimOptimal profit (started point)) (value_lines 0 point) refl
      ∙ values_lead version 0 None AtClaim point true sides (above_none 0) (omega arith)
  claim_lead version Infeasible sides fit = refl
  claim_lead version (Between profit most point) sides fit =
      leads-cons (at version AtClaim sides) (after_step (at version AtClaim sides) (values_step (started point) None true)) (ClaimBetween profit most (started point)) (value_lines 0 point) refl
      ∙ values_lead version 0 None AtClaim point true sides (above_none 0) (omega arith)
  claim_lead version (Below most) sides fit = refl

-- the lines of a log lead to its end
pub logs_lead : LogsAreAccepted
unfolding log_lines
logs_lead limits version tree claim fit low claim_fits =
    let first = at version AtNode [] in
    let done = at version AtClaim [] in
    let last = at version AtEnd [] in
    leads-then limits first done (tree_lines tree) (claim_lines claim ++ EndLine ∷ []) (tree_lead limits version tree [] fit (omega arith))
    ∙ leads-then limits done last (claim_lines claim) (EndLine ∷ []) (claim_lead limits version claim [] claim_fits)
