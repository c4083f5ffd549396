-- What joining comes to, where the logs of all parts are valid.
use Rattle.std.proofs.Common.{◌≡◌, ◌≢◌, ℕ, zero, suc, ◌+◌, ◌-◌, ◌*◌, ◌^◌, ◌<◌, ◌≤◌, Bool, List, [], ◌∷◌, ◌++◌, length, get_or, Option, None, Some, IfSome, refl, sym, ap, ◌∙◌, subst, inl, inr, arith, length-append}
use Rattle.std.proofs.Math.Seq.{get_or-append_seam}
use Rattle.std.proofs.lemmas.Bool.{cases_eq}
use Rattle.std.specs.List.{All}
use Rattle.std.proofs.lemmas.List.{get_or_append_left, length-map}
use Rattle.std.proofs.lemmas.List.Elements.{All-head, All-tail}
use Rattle.std.proofs.lemmas.List.FromFn.{get_or-map-range_with_len, length-map-range_with_len}
use Rattle.stn_edge.specs.Files.{FileMap, file_of, OthersStay}
use Rattle.stn_model.specs.Points.{depth_limit}
use Rattle.stn_model.specs.declared.plant.Plant.{Plant}
use Rattle.stn_model.specs.Sound.{Sound}
use Rattle.time_grid.specs.Slots.{slots}
use Rattle.row_kit.specs.declared.program.Program.{Program}
use Rattle.row_set.specs.PlantProgram.{plant_root, plant_rows, slot_domain}
use Rattle.row_relax.specs.declared.rows.Rows.{Rows}
use Rattle.row_relax.specs.Choices.{choices_of}
use Rattle.row_relax.specs.RowProofs.{RowTree}
use Rattle.setup_slots.specs.Several.{rows_with, slots_with}
use Rattle.setup_lines.specs.declared.setups.SetupSize.{SetupSize}
use Rattle.setup_lines.specs.Setups.{limits_set_up, size_of, with_setup}
use Rattle.derivations.specs.Growth.{rows_of}
use Rattle.log_lines.specs.declared.grammar.Limits.{Limits}
use Rattle.proof_log.specs.declared.claim.Claim.{Claim}
use Rattle.proof_log.specs.declared.claim.Claim.TheVariants.{Infeasible}
use Rattle.proof_log.specs.Behind.{behind}
use Rattle.valid_log.specs.Verdict.{limits_of}
use Rattle.valid_log.specs.Heads.{IsWithHead, setup_size, setup_sizes}
use Rattle.valid_log.specs.SumTexts.{larger_claim}
use Rattle.valid_log.specs.Claims.{SaysOfPlans}
use Rattle.log_parts.specs.declared.heads.Declared.{Declared}
use Rattle.log_parts.specs.declared.joins.Joined.{Joined}
use Rattle.log_parts.specs.declared.joins.Joined.TheVariants.{Done, No}
use Rattle.log_parts.specs.Heads.{front_text, joined_version}
use Rattle.log_parts.specs.Joining.{IsJoined}
use Rattle.plant_parts.specs.PlantParts.{IsPartProgram}
use Rattle.log_parts.specs.PartLogs.{IsJoinedLog, IsJoining, IsJoiningIn, IsJoinBegun, LeavesJoin, AllAreValid, JoinSays, IsNo, logs_of, no_tree}
use Rattle.log_parts.specs.laws.Checked.{AreNewest, HaveClaims, MayDeclare, head_limits, limits_more, part_limits}
use Rattle.log_parts.specs.laws.Copying.{joined_text, AreLogsOf, IsLogOf, HasWritten, HasLeft, IsClaim, IsFit}
use Rattle.log_parts.proofs.JoinedValid.{AllTrees, joined_fit, joined_log, part-stays}
use Rattle.log_parts.proofs.Limits.{head_same}
use Rattle.log_parts.proofs.PartHeads.{as-four, head-counts}
use Rattle.log_parts.proofs.PartTrees.{IsPartTree, part_tree}
use Rattle.log_parts.proofs.PartsChecked.{are_valid}
use Rattle.log_parts.proofs.ReadNewest.{read-newest}

-- ---- the trees of the parts

-- a tree for each of the first parts
record HaveTrees (plant : Plant) (levels : ℕ) (logs : ℕ → List ℕ) (declared : Declared) (heads : List ℕ) (claims : List Claim) (n : ℕ) : Type 0 where
  trees : List RowTree
  counted : length trees ≡ n
  each : (part : ℕ) → part < n → IsPartTree plant levels part (logs part) declared (get_or heads part 0) (get_or trees part no_tree) (get_or claims part Infeasible)

trees_of : (plant : Plant) (levels : ℕ) (logs : ℕ → List ℕ) (declared : Declared) (heads : List ℕ) (claims : List Claim) → HaveClaims plant levels logs declared heads claims → (n : ℕ) → n ≤ length claims → HaveTrees plant levels logs declared heads claims n
trees_of plant levels logs declared heads claims have zero within = record { trees = []; counted = refl; each = λ part below. absurd (omega (arith, below)) }
trees_of plant levels logs declared heads claims have (suc n) within =
    let before = trees_of plant levels logs declared heads claims have n (omega (arith, within)) in
    let found = have n (omega (arith, within)) in
    let next = part_tree plant levels n (logs n) declared found.0 (get_or heads n 0) (get_or claims n Infeasible) found.1 in
    record {
      trees = before.trees ++ next.0 ∷ [];
      counted = length-append before.trees (next.0 ∷ []) ∙ (let was = before.counted in omega (arith, was));
      each = λ part below.
          elim (cases_eq part n) [
            | inl e ↦
                let seam : get_or (before.trees ++ next.0 ∷ []) n no_tree ≡ next.0 =
                ap (λ (k : ℕ). get_or (before.trees ++ next.0 ∷ []) k no_tree) (sym before.counted) ∙ get_or-append_seam before.trees next.0 [] no_tree in
                subst (λ (k : ℕ). IsPartTree plant levels k (logs k) declared (get_or heads k 0) (get_or (before.trees ++ next.0 ∷ []) k no_tree) (get_or claims k Infeasible)) (sym e)
                (subst (λ (tree : RowTree). IsPartTree plant levels n (logs n) declared (get_or heads n 0) tree (get_or claims n Infeasible)) (sym seam) next.1)
            | inr other ↦
                let earlier : part < n = omega (arith, below, other) in
                let same : get_or (before.trees ++ next.0 ∷ []) part no_tree ≡ get_or before.trees part no_tree = front_at before.trees next.0 part (omega (arith, earlier, before.counted)) in
                subst (λ (tree : RowTree). IsPartTree plant levels part (logs part) declared (get_or heads part 0) tree (get_or claims part Infeasible)) (sym same) (before.each part earlier)
          ];
    }
  where
    front_at : (trees : List RowTree) (tree : RowTree) (part : ℕ) → part < length trees → get_or (trees ++ tree ∷ []) part no_tree ≡ get_or trees part no_tree
    front_at trees tree part below = search get_or_append_left

-- ---- the logs under the limits

-- what the setup of a unit adds to the limits
size-there : (plant : Plant) (unit : ℕ) → unit < length (setup_sizes plant) → size_of (setup_sizes plant) unit ≡ setup_size plant unit
size-there plant unit there =
    get_or-map-range_with_len (setup_size plant) 0 (length plant.units) unit unit (record { slots = 0; rows = 0 }) (omega (arith, there, length-map-range_with_len (setup_size plant) 0 (length plant.units))) (omega arith)

-- so setups add to limits what they add to a program
set_up-slots : (plant : Plant) (limits : Limits) (units : List ℕ) → All (λ unit. unit < length (setup_sizes plant)) units → (limits_set_up limits (setup_sizes plant) units).slots ≡ slots_with plant units limits.slots
set_up-slots plant limits [] there = refl
set_up-slots plant limits (unit ∷ units) there =
    set_up-slots plant (with_setup limits (size_of (setup_sizes plant) unit)) units (All-tail (λ u. u < length (setup_sizes plant)) unit units there)
    ∙ ap (λ (s : SetupSize). slots_with plant units (limits.slots + s.slots)) (size-there plant unit (All-head (λ u. u < length (setup_sizes plant)) unit units there))

set_up-rows : (plant : Plant) (limits : Limits) (units : List ℕ) → All (λ unit. unit < length (setup_sizes plant)) units → (limits_set_up limits (setup_sizes plant) units).rows ≡ rows_with plant units limits.rows
set_up-rows plant limits [] there = refl
set_up-rows plant limits (unit ∷ units) there =
    set_up-rows plant (with_setup limits (size_of (setup_sizes plant) unit)) units (All-tail (λ u. u < length (setup_sizes plant)) unit units there)
    ∙ ap (λ (s : SetupSize). rows_with plant units (limits.rows + s.rows)) (size-there plant unit (All-head (λ u. u < length (setup_sizes plant)) unit units there))

-- and leave their points and their depth
set_up-points : (limits : Limits) (sizes : List SetupSize) (units : List ℕ) → ((limits_set_up limits sizes units).points ≡ limits.points) × ((limits_set_up limits sizes units).depth ≡ limits.depth)
set_up-points limits sizes [] = (refl, refl)
set_up-points limits sizes (unit ∷ units) = set_up-points (with_setup limits (size_of sizes unit)) sizes units

limits_larger : (plant : Plant) (levels part : ℕ) (declared : Declared) (program : Program) (rows : Rows) → IsPartProgram plant levels part program → All (λ unit. unit < length (setup_sizes plant)) declared.units
    → length (plant_root plant) ≡ length program.root → IsWithHead plant 4 program (plant_root plant) declared.sums declared.units declared.derivations rows → limits_of rows (depth_limit plant - levels) ≡ part_limits plant levels declared
limits_larger plant levels part declared program rows is there judged added =
    let units = declared.units in
    let sizes = setup_sizes plant in
    let before = limits_more (head_limits plant levels) (length declared.sums) in
    let own = head_same plant levels part program is in
    let own_rows : length program.rows ≡ length (plant_rows plant) = ap (λ (l : Limits). l.rows) own in
    let own_slots : length program.root ≡ length (slots plant) = ap (λ (l : Limits). l.slots) own in
    let counts = head-counts plant program (plant_root plant) declared.sums units declared.derivations rows judged added in
    let rows_before : length program.rows + 2 * length declared.sums ≡ before.rows = omega (arith, own_rows) in
    let slots_before : length program.root + length declared.sums ≡ before.slots = omega (arith, own_slots) in
    let points_before : length program.root + length declared.sums ≡ before.points = omega (arith, own_slots) in
    let kept = set_up-points before sizes units in
    let all_rows : length rows.program.rows ≡ (limits_set_up before sizes units).rows + rows_of declared.derivations =
    counts.rows_are ∙ ap (λ (n : ℕ). n + rows_of declared.derivations) (ap (rows_with plant units) rows_before ∙ sym (set_up-rows plant before units there)) in
    let all_slots : length rows.program.root ≡ (limits_set_up before sizes units).slots = counts.slots ∙ ap (slots_with plant units) slots_before ∙ sym (set_up-slots plant before units there) in
    let all_points : length (choices_of rows).root ≡ (limits_set_up before sizes units).points = counts.points ∙ points_before ∙ sym kept.0 in
    λ i. record { rows = all_rows i; slots = all_slots i; points = all_points i; depth = sym kept.1 i }

are_logs : (plant : Plant) (levels : ℕ) (logs : ℕ → List ℕ) (declared : Declared) (heads : List ℕ) (claims : List Claim) (n : ℕ) → Sound plant → levels ≤ length (slots plant) → All (λ unit. unit < length (setup_sizes plant)) declared.units
    → (have : HaveTrees plant levels logs declared heads claims n) → AreLogsOf (part_limits plant levels declared) n (λ part. behind 4 (get_or heads part 0) (logs part)) have.trees
are_logs plant levels logs declared heads claims n sound within there have part below =
    let is = have.each part below in
    let base = plant_root plant in
    let sums = declared.sums in
    let units = declared.units in
    let own = head_same plant levels part is.program is.of_part in
    let judged : length base ≡ length is.program.root = length-map (slots plant) (slot_domain plant) ∙ sym (ap (λ (l : Limits). l.slots) own) in
    let four = as-four plant is.version is.program base sums units declared.derivations is.rows is.enlarged is.none
    (part-stays plant levels part is.program is.enlarged.between is.enlarged.wide sums units sound within is.of_part.root is.enlarged.with_sums is.enlarged.with_setups) in
    let same = limits_larger plant levels part declared is.program is.rows is.of_part there judged four in
    subst (λ (l : Limits). IsLogOf l (behind 4 (get_or heads part 0) (logs part)) (get_or have.trees part no_tree)) same
    (read-newest is.rows (depth_limit plant - levels) (logs part) is.version (get_or heads part 0) (get_or have.trees part no_tree) is.own is.log is.clean)

-- ---- the told case

-- the trees of the parts' logs, that the sums suit the claim, and that their joined text is the joined log
pub record CanJoin (plant : Plant) (levels : ℕ) (logs : ℕ → List ℕ) (declared : Declared) (newest : Bool) (heads : List ℕ) (claim : Claim) : Type 0 where
  pub trees : List RowTree
  pub are : AreLogsOf (part_limits plant levels declared) (2 ^ levels) (λ part. behind 4 (get_or heads part 0) (logs part)) trees
  pub fit : IsFit plant declared.sums claim
  pub log : (bytes : List ℕ) → bytes ≡ joined_text (front_text (joined_version newest declared.sums) declared) levels trees (larger_claim declared.sums claim) → IsJoinedLog plant levels logs claim bytes

can_join : (plant : Plant) (levels : ℕ) (logs : ℕ → List ℕ) (declared : Declared) (newest : Bool) (heads : List ℕ) (claims : List Claim) (claim : Claim) → Sound plant → 1 ≤ levels → levels ≤ 8 → levels ≤ length (slots plant)
    → MayDeclare plant (head_limits plant levels) (joined_version newest declared.sums) declared → length claims ≡ 2 ^ levels → HaveClaims plant levels logs declared heads claims → AreNewest logs (2 ^ levels) newest → IsJoined claims claim → CanJoin plant levels logs declared newest heads claim
can_join plant levels logs declared newest heads claims claim sound some few within may all have known joined =
    let trees = trees_of plant levels logs declared heads claims have (2 ^ levels) (omega (arith, all)) in
    let each : AllTrees plant levels logs declared newest heads trees.trees claims =
    record { sound = sound; some = some; few = few; within = within; may = may; known = known; all_trees = trees.counted; all_claims = all; each = trees.each } in
    record {
      trees = trees.trees;
      are = are_logs plant levels logs declared heads claims (2 ^ levels) sound within may.units.there trees;
      fit = joined_fit plant levels logs declared newest heads trees.trees claims claim each joined;
      log = λ bytes text. joined_log plant levels logs declared newest heads trees.trees claims claim bytes each joined text;
    }

-- what was found before the log is written
abbrev pub Ready : Plant → ℕ → List ℕ → Declared → Bool → List ℕ → Claim → Option FileMap → Type 0
Ready plant levels stem declared newest heads claim old = IfSome old (λ m. CanJoin plant levels (logs_of m stem) declared newest heads claim)

pub ready : (plant : Plant) (levels : ℕ) (stem : List ℕ) (declared : Declared) (newest : Bool) (heads : List ℕ) (claims : List Claim) (claim : Claim) (old : Option FileMap) → Sound plant → 1 ≤ levels → levels ≤ 8 → levels ≤ length (slots plant)
    → MayDeclare plant (head_limits plant levels) (joined_version newest declared.sums) declared → length claims ≡ 2 ^ levels → IfSome old (λ m. HaveClaims plant levels (logs_of m stem) declared heads claims × AreNewest (logs_of m stem) (2 ^ levels) newest) → IsJoined claims claim
    → Ready plant levels stem declared newest heads claim old
ready plant levels stem declared newest heads claims claim None sound some few within may all have joined = tt
ready plant levels stem declared newest heads claims claim (Some m) sound some few within may all have joined =
    can_join plant levels (logs_of m stem) declared newest heads claims claim sound some few within may all have.0 have.1 joined

pub all_valid : (plant : Plant) (levels : ℕ) (stem : List ℕ) (declared : Declared) (newest : Bool) (heads : List ℕ) (claims : List Claim) (old : Option FileMap) → length claims ≡ 2 ^ levels
    → IfSome old (λ m. HaveClaims plant levels (logs_of m stem) declared heads claims × AreNewest (logs_of m stem) (2 ^ levels) newest) → AllAreValid plant levels stem old
all_valid plant levels stem declared newest heads claims None all have = tt
all_valid plant levels stem declared newest heads claims (Some m) all have = (declared, are_valid plant levels (logs_of m stem) declared heads claims (2 ^ levels) (omega (arith, all)) have.0)

-- what was written, where the sums suit the claim
abbrev pub WrittenIfFit : Plant → ℕ → List ℕ → List ℕ → Declared → Bool → List ℕ → Claim → Option FileMap → Option FileMap → Joined → Type 0
WrittenIfFit plant levels stem name declared newest heads claim old new said =
    IsFit plant declared.sums claim → HasWritten (part_limits plant levels declared) levels stem heads name (front_text (joined_version newest declared.sums) declared) (larger_claim declared.sums claim) claim old new said

joining_at : (plant : Plant) (levels : ℕ) (logs : ℕ → List ℕ) (declared : Declared) (newest : Bool) (heads name : List ℕ) (claim : Claim) (new : Option FileMap) (said : Joined) (can : CanJoin plant levels logs declared newest heads claim) → said ≡ Done claim
    → IfSome new (λ n. file_of n name ≡ joined_text (front_text (joined_version newest declared.sums) declared) levels can.trees (larger_claim declared.sums claim)) → IfSome new (λ n. IsJoining plant levels logs (file_of n name) said)
joining_at plant levels logs declared newest heads name claim None said can is text = tt
joining_at plant levels logs declared newest heads name claim (Some n) said can is text = subst (IsJoining plant levels logs (file_of n name)) (sym is) (can.log (file_of n name) text)

pub joining_in : (plant : Plant) (levels : ℕ) (stem name : List ℕ) (declared : Declared) (newest : Bool) (heads : List ℕ) (claim : Claim) (old new : Option FileMap) (said : Joined) → Ready plant levels stem declared newest heads claim old
    → WrittenIfFit plant levels stem name declared newest heads claim old new said → IsJoiningIn plant levels stem name old new said
joining_in plant levels stem name declared newest heads claim None new said can written = tt
joining_in plant levels stem name declared newest heads claim (Some m) new said can written =
    let is = written can.fit can.trees can.are in joining_at plant levels (logs_of m stem) declared newest heads name claim new said can is.0 is.1

-- ---- what is said, kept and left

pub said_of_claim : (plant : Plant) (claim : Claim) (said : Joined) → SaysOfPlans plant claim → IsClaim claim said → JoinSays plant said
said_of_claim plant claim (Done own) says is = subst (SaysOfPlans plant) (sym is) says
said_of_claim plant claim (No part defect) says is = tt

untold_stays : (name other : List ℕ) (new : Option FileMap) → other ≢ name → OthersStay name None new → new ≡ None
untold_stays name other None apart stay = refl
untold_stays name other (Some n) apart stay = (let same = stay other apart in absurd cc)

not_no : (claim : Claim) (said : Joined) → said ≡ Done claim → IsNo said → ⊥
not_no claim (Done own) is no_ = no_
not_no claim (No part defect) is no_ = (absurd cc)

pub kept_where_no : (plant : Plant) (levels : ℕ) (stem name other : List ℕ) (declared : Declared) (newest : Bool) (heads : List ℕ) (claim : Claim) (old new : Option FileMap) (said : Joined) → other ≢ name → OthersStay name old new
    → Ready plant levels stem declared newest heads claim old → WrittenIfFit plant levels stem name declared newest heads claim old new said → IsNo said → new ≡ old
kept_where_no plant levels stem name other declared newest heads claim None new said apart stay can written no_ = untold_stays name other new apart stay
kept_where_no plant levels stem name other declared newest heads claim (Some m) new said apart stay can written no_ = absurd (not_no claim said (written can.fit can.trees can.are).0 no_)

begun_join : (plant : Plant) (levels : ℕ) (logs : ℕ → List ℕ) (declared : Declared) (newest : Bool) (heads name : List ℕ) (claim : Claim) (new : Option FileMap) (can : CanJoin plant levels logs declared newest heads claim)
    → IfSome new (λ n. (rest : List ℕ) × (file_of n name ++ rest ≡ joined_text (front_text (joined_version newest declared.sums) declared) levels can.trees (larger_claim declared.sums claim)))
    → IfSome new (λ n. IsJoinBegun plant levels logs (file_of n name))
begun_join plant levels logs declared newest heads name claim None can begun = tt
begun_join plant levels logs declared newest heads name claim (Some n) can begun = record { claim = claim; rest = begun.0; begun = can.log (file_of n name ++ begun.0) begun.1 }

pub leaves_join : (plant : Plant) (levels : ℕ) (stem name other : List ℕ) (declared : Declared) (newest : Bool) (heads : List ℕ) (claim : Claim) (old new : Option FileMap) → other ≢ name → OthersStay name old new → Ready plant levels stem declared newest heads claim old
    → HasLeft (part_limits plant levels declared) levels stem heads name (front_text (joined_version newest declared.sums) declared) (larger_claim declared.sums claim) old new
    → LeavesJoin plant levels stem name old new
leaves_join plant levels stem name other declared newest heads claim None new apart stay can left = inl (untold_stays name other new apart stay)
leaves_join plant levels stem name other declared newest heads claim (Some m) new apart stay can left =
    elim (left can.trees can.are) [
      | inl same ↦ inl same
      | inr begun ↦ inr (begun_join plant levels (logs_of m stem) declared newest heads name claim new can begun)
    ]
