-- A log of any version that is valid where so many splits may be open is valid where more may be.
use Rattle.std.proofs.Common.{◌≡◌, ℕ, ◌+◌, ◌≤◌, Bool, true, false, nat_lt, if◌then◌else◌, List, [], ◌∷◌, length, refl, sym, ap, ◌∙◌, arith, inl, inr}
use Rattle.std.specs.Prelude.{Option, Some, None, ◌==◌, ◌&&◌}
use Rattle.std.specs.List.{slice_split}
use Rattle.std.specs.Option.{option_map_or}
use Rattle.std.proofs.lemmas.Bool.{cases_Bool}
use Rattle.std.proofs.lemmas.Bool.Decides.{nat_tests}
use Rattle.row_kit.specs.declared.program.Program.{Program}
use Rattle.row_relax.specs.declared.rows.Rows.{Rows}
use Rattle.row_relax.specs.Choices.{plain}
use Rattle.log_lines.specs.declared.grammar.Limits.{Limits}
use Rattle.log_lines.specs.declared.line.Line.{Line}
use Rattle.log_lines.specs.declared.line.Line.TheVariants.{Header, Node, Cut, Found, Value, Empty, Point, Dual, Pending, Floor, Split, Mult, ClaimOptimal, ClaimInfeasible, ClaimBetween, ClaimBelow, End}
use Rattle.log_lines.specs.Grammar.{Standing, new_standing, next, over_at, over, line_defect}
use Rattle.log_lines.specs.Said.{line_said}
use Rattle.log_lines.specs.TextDefect.{text_defect, part_defect, after_bytes, is_done, log_text_defect}
use Rattle.proof_log.specs.declared.claim.Claim.{Claim}
use Rattle.valid_log.specs.declared.verdict.LogVerdict.{LogVerdict}
use Rattle.valid_log.specs.declared.verdict.LogVerdict.TheVariants.{Yes, No}
use Rattle.valid_log.specs.Verdict.{IsVerdict, IsVerdictGiven, IsMeaningVerdict, limits_of}
use Rattle.stn_model.specs.declared.plant.Plant.{Plant}
use Rattle.row_kit.specs.declared.domain.Domain.{Domain}
use Rattle.row_set.specs.PlantProgram.{plant_root}
use Rattle.sum_lines.specs.declared.head.Front.{Front}
use Rattle.sum_lines.specs.declared.head.Front.TheVariants.{Plain, Headed, Bad}
use Rattle.sum_lines.specs.declared.head.Head.{Head}
use Rattle.sum_lines.specs.Front.{IsFront}
use Rattle.sum_lines.specs.Head.{AreKept}
use Rattle.derivations.specs.declared.derivation.Derivation.{Derivation}
use Rattle.derivations.specs.declared.derivation.Derivation.TheVariants as derivation
use Rattle.derivation_lines.specs.declared.tail.Tail.{Tail}
use Rattle.derivation_lines.specs.declared.tail.TailFront.{TailFront}
use Rattle.derivation_lines.specs.declared.tail.TailFront.TheVariants as tailed
use Rattle.derivation_lines.specs.declared.tail.TailFront.TheVariants.{Whole}
use Rattle.derivation_lines.specs.Front.{IsTailed}
use Rattle.derivation_lines.specs.Tail.{AreKeptAfter}
use Rattle.proof_log.specs.Behind.{behind}
use Rattle.setup_lines.specs.declared.setups.SetupFront.{SetupFront}
use Rattle.setup_lines.specs.declared.setups.SetupFront.TheVariants as setting
use Rattle.setup_lines.specs.declared.setups.SetupSize.{SetupSize}
use Rattle.setup_lines.specs.declared.setups.Setups.{Setups}
use Rattle.setup_lines.specs.Front.{IsSetUp}
use Rattle.setup_lines.specs.Setups.{AreSetupsKept, has_setup_room, head_set_up, limits_set_up, setups_of, size_of, with_setup}
use Rattle.valid_log.specs.Heads.{AreSetups, IsTail, judged_over, limits_with, setup_sizes}
use Rattle.valid_log.specs.AnyVersion.{IsAnyVerdict, IsFrontVerdict, IsHeadVerdict, IsSetUpVerdict, IsSetupsVerdict, IsShownVerdict, IsTailVerdict}
use Rattle.valid_log.specs.PlantLogs.{IsPlantVerdict}

-- a choice among options that is none, where only the last differs
last_choice : {X : Type 0} (a b c : Bool) (x y z old new : Option X) → (old ≡ None → new ≡ None) → (if a then x else (if b then y else (if c then z else old))) ≡ None
    → (if a then x else (if b then y else (if c then z else new))) ≡ None
last_choice true b c x y z old new step none = none
last_choice false true c x y z old new step none = none
last_choice false false true x y z old new step none = none
last_choice false false false x y z old new step none = step none

-- none of a first option and of a second
both_none : {X : Type 0} (f : ℕ → X) (first first2 : Option ℕ) (rest rest2 : Option X) → (first ≡ None → first2 ≡ None) → (rest ≡ None → rest2 ≡ None) → option_map_or (λ k. Some (f k)) first rest ≡ None
    → option_map_or (λ k. Some (f k)) first2 rest2 ≡ None
both_none f None first2 rest rest2 step later none = rw (step refl) (later none)
both_none f (Some k) first2 rest rest2 step later none = cc

-- none of what an option is mapped to
mapped_none : {X Y : Type 0} (f g : X → Option Y) (last : Option Y) (o : Option X) → ((x : X) → f x ≡ None → g x ≡ None) → option_map_or f o last ≡ None → option_map_or g o last ≡ None
mapped_none f g last None step none = none
mapped_none f g last (Some x) step none = step x none

module _ (limits : Limits) (depth : ℕ) (more : limits.depth ≤ depth) where
  -- the limits of logs in which more splits may be open
  abbrev deep : Limits
  deep = record limits { depth = depth }

  over-deeper : (opened : ℕ) (line : Line) → over_at limits opened line ≡ None → over_at deep opened line ≡ None
  over-deeper opened Node none = elim (cases_Bool (nat_lt depth opened)) [
    | inl t ↦ (let u : nat_lt limits.depth opened ≡ true = grind (arith, nat_tests) in let some = rw u at none in cc)
    | inr f ↦ rw f refl
  ]
  over-deeper opened (Header version) none = none
  over-deeper opened (Cut row slot) none = none
  over-deeper opened (Found worth count) none = none
  over-deeper opened (Value slot value) none = none
  over-deeper opened Empty none = none
  over-deeper opened Point none = none
  over-deeper opened (Dual scale count) none = none
  over-deeper opened (Pending scale count) none = none
  over-deeper opened (Floor profit) none = none
  over-deeper opened (Split slot most scale count) none = none
  over-deeper opened (Mult row factor) none = none
  over-deeper opened (ClaimOptimal earned count) none = none
  over-deeper opened ClaimInfeasible none = none
  over-deeper opened (ClaimBetween earned most count) none = none
  over-deeper opened (ClaimBelow most) none = none
  over-deeper opened End none = none

  line-deeper : (standing : Standing) (line : Line) → line_defect limits standing line ≡ None → line_defect deep standing line ≡ None
  line-deeper standing line none =
      mapped_none (λ _. over limits standing line) (λ _. over deep standing line) (Some 1) (next standing line) (λ _. over-deeper (length standing.sides) line) none

  text-deeper : (standing : Standing) (number : ℕ) (parts : List (List ℕ)) → text_defect limits standing number parts ≡ None → text_defect deep standing number parts ≡ None
  unfolding text_defect
  text-deeper standing number [] none = refl
  text-deeper standing number (part ∷ parts) none =
      last_choice (is_done standing.place) (nat_lt 200 (length part)) (length parts == 0) (if (length part == 0) && (length parts == 0) then None else Some (number, 3)) (Some (number, 1)) (Some (number, 2)) _ _
      (both_none (λ kind. (number, kind)) (part_defect limits standing part) (part_defect deep standing part) _ _
      (mapped_none (line_defect limits standing) (line_defect deep standing) (Some 1) (line_said part) (line-deeper standing))
      (mapped_none (λ after. text_defect limits after (number + 1) parts) (λ after. text_defect deep after (number + 1) parts) None (after_bytes standing part) (λ after. text-deeper after (number + 1) parts)))
      none

-- a text without a defect where so many splits may be open has none where more may be
pub clean-deeper : (rows : Rows) (depth more : ℕ) (bytes : List ℕ) → depth ≤ more → log_text_defect (limits_of rows depth) bytes ≡ None → log_text_defect (limits_of rows more) bytes ≡ None
clean-deeper rows depth more bytes less none = text-deeper (limits_of rows depth) more less new_standing 1 (slice_split (λ byte. byte == 10) bytes) none

-- a yes is given where there is no text defect
yes-given : (rows : Rows) (bytes : List ℕ) (at : Option (ℕ × ℕ)) (claim : Claim) → IsVerdictGiven rows bytes at (Yes claim) → (at ≡ None) × IsMeaningVerdict rows bytes (Yes claim)
yes-given rows bytes None claim is = (refl, is)
yes-given rows bytes (Some at) claim is = absurd is

-- a log that is valid at one depth is so at a greater one
pub yes-deeper : (rows : Rows) (depth more : ℕ) (bytes : List ℕ) (claim : Claim) → depth ≤ more → IsVerdict rows depth bytes (Yes claim) → IsVerdict rows more bytes (Yes claim)
yes-deeper rows depth more bytes claim less is =
    let given = yes-given rows bytes (log_text_defect (limits_of rows depth) bytes) claim is in
    let none = clean-deeper rows depth more bytes less given.0 in
    rw none given.1

-- what a head keeps does not depend on how many splits may be open
pub front-deeper : (program : Program) (depth more : ℕ) (bytes : List ℕ) (head : Head) → IsFront (limits_with program depth 0) bytes (Headed head) → IsFront (limits_with program more 0) bytes (Headed head)
front-deeper program depth more bytes head is =
    let kept = is.kept in
    let own : AreKept head.version (limits_with program more 0) head.sums = record { declared = kept.sums.declared; rows_there = kept.sums.rows_there; slots = kept.sums.slots; rows = kept.sums.rows } in
    record {
      kept = record { version = kept.version; is = kept.is; sums = own; lines = kept.lines; count = kept.count; bytes_least = kept.bytes_least; bytes_most = kept.bytes_most };
      is = is.is;
      ends = is.ends;
    }

-- nor does what derivations keep
pub derivations-deeper : (limits : Limits) (more before : ℕ) (ds : List Derivation) → AreKeptAfter limits before ds → AreKeptAfter (record limits { depth = more }) before ds
derivations-deeper limits more before [] kept = kept
derivations-deeper limits more before (derivation.Cut cut ∷ ds) kept = (kept.0, derivations-deeper limits more (before + 0) ds kept.1)
derivations-deeper limits more before (derivation.Row derived ∷ ds) kept = (kept.0, derivations-deeper limits more (before + 1) ds kept.1)

-- nor what stands behind a head
pub tail-deeper : (limits : Limits) (more : ℕ) (head : Head) (bytes : List ℕ) (tail : Tail) → IsTail limits head bytes (Whole tail) → IsTail (record limits { depth = more }) head bytes (Whole tail)
tail-deeper limits more head bytes tail (inl three) = inl three
tail-deeper limits more head bytes tail (inr four) =
    let own = four.1 in
    let kept = own.kept in
    let deeper : IsTailed (record limits { depth = more }) head bytes tail = record {
      kept = record {
        is = kept.is;
        derivations = derivations-deeper limits more 0 tail.derivations kept.derivations;
        lines = kept.lines;
        count = kept.count;
        bytes_least = kept.bytes_least;
        bytes_most = kept.bytes_most;
      };
      is = own.is;
      ends = own.ends;
    } in
    inr (four.0, deeper)

-- nor do the limits with setups
pub set-deeper : (limits : Limits) (more : ℕ) (sizes : List SetupSize) (units : List ℕ) → limits_set_up (record limits { depth = more }) sizes units ≡ record (limits_set_up limits sizes units) { depth = more }
set-deeper limits more sizes [] = refl
set-deeper limits more sizes (unit ∷ units) = set-deeper (with_setup limits (size_of sizes unit)) more sizes units

-- nor what setups keep
kept-deeper : (limits : Limits) (more : ℕ) (sizes : List SetupSize) (units : List ℕ) → AreSetupsKept limits sizes units → AreSetupsKept (record limits { depth = more }) sizes units
kept-deeper limits more sizes units kept = record {
  ascending = kept.ascending;
  short = kept.short;
  there = kept.there;
  room = λ some. ap has_setup_room (set-deeper limits more sizes units) ∙ kept.room some;
}

-- setups under limits with which more splits may be open
abbrev pub deep_setups : ℕ → Setups → Setups
deep_setups more setups = record setups { limits = record setups.limits { depth = more } }

-- nor what stands behind the sums of a head
pub setups-deeper : (limits : Limits) (more : ℕ) (sizes : List SetupSize) (head : Head) (bytes : List ℕ) (setups : Setups) → AreSetups limits sizes head bytes (setting.Whole setups)
    → AreSetups (record limits { depth = more }) sizes head bytes (setting.Whole (deep_setups more setups))
setups-deeper limits more sizes head bytes setups (inl three) = inl (three.0, ap deep three.1)
  where
    deep : SetupFront → SetupFront
    deep (setting.Whole s) = setting.Whole (deep_setups more s)
    deep (setting.Bad defect) = setting.Bad defect
setups-deeper limits more sizes head bytes setups (inr four) =
    let own = four.1 in
    let kept = own.kept in
    let is : deep_setups more setups ≡ setups_of (record limits { depth = more }) sizes head setups.units =
    ap (deep_setups more) kept.is ∙ ap (λ (l : Limits). record { units = setups.units; head = head_set_up head setups.units; limits = l }) (sym (set-deeper limits more sizes setups.units)) in
    let deeper : IsSetUp (record limits { depth = more }) sizes head bytes (deep_setups more setups) = record {
      kept = record { is = is; units = kept-deeper limits more sizes setups.units kept.units; bytes_most = kept.bytes_most };
      is = own.is;
      ends = own.ends;
    } in
    inr (four.0, deeper)

-- the same of the answer over rows whose sums and derivations are shown
shown-deeper : (plant : Plant) (program : Program) (judged : List Domain) (depth more : ℕ) (bytes : List ℕ) (setups : Setups) (tail : Tail) (claim : Claim) (own : LogVerdict) → depth ≤ more
    → (is : IsShownVerdict plant program judged depth bytes setups tail (Yes claim)) → is.own ≡ own → IsShownVerdict plant program judged more bytes (deep_setups more setups) tail (Yes claim)
shown-deeper plant program judged depth more bytes setups tail claim (Yes said) less is same = record {
  rows = is.rows;
  enlarged = is.enlarged;
  own = Yes said;
  right = yes-deeper is.rows depth more (behind setups.head.version tail.bytes bytes) said less (rw same at is.right);
  is = rw same at is.is;
}
shown-deeper plant program judged depth more bytes setups tail claim (No defect) less is same = let e = is.is in cc

-- the same behind setups
behind-deeper : (plant : Plant) (program : Program) (judged : List Domain) (depth more : ℕ) (bytes : List ℕ) (setups : Setups) (claim : Claim) (tail : TailFront) → depth ≤ more
    → IsTail setups.limits setups.head bytes tail → IsTailVerdict plant program judged depth bytes setups tail (Yes claim) → IsSetUpVerdict plant program judged more bytes (deep_setups more setups) (Yes claim)
behind-deeper plant program judged depth more bytes setups claim (Whole tail) less follows' (inl unshown) = let e = unshown.is in cc
behind-deeper plant program judged depth more bytes setups claim (Whole tail) less follows' (inr shown) = record {
  tail = Whole tail;
  follows = tail-deeper setups.limits more setups.head bytes tail follows';
  right = inr (shown-deeper plant program judged depth more bytes setups tail claim shown.own less shown refl);
}
behind-deeper plant program judged depth more bytes setups claim (tailed.Bad defect) less follows' right = cc

-- the same behind a head
head-deeper : (plant : Plant) (program : Program) (judged : List Domain) (depth more : ℕ) (bytes : List ℕ) (head : Head) (claim : Claim) (setups : SetupFront) → depth ≤ more
    → AreSetups (limits_with program depth (length head.sums)) (setup_sizes plant) head bytes setups → IsSetupsVerdict plant program judged depth bytes setups (Yes claim) → IsHeadVerdict plant program judged more bytes head (Yes claim)
head-deeper plant program judged depth more bytes head claim (setting.Whole setups) less stands right = record {
  setups = setting.Whole (deep_setups more setups);
  set_up = setups-deeper (limits_with program depth (length head.sums)) more (setup_sizes plant) head bytes setups stands;
  right = behind-deeper plant program judged depth more bytes setups claim right.tail less right.follows right.right;
}
head-deeper plant program judged depth more bytes head claim (setting.Bad defect) less stands right = cc

-- a log of any version that is valid at one depth is so at a greater one
any-front-deeper : (plant : Plant) (program : Program) (ranges root : List Domain) (depth more : ℕ) (bytes : List ℕ) (claim : Claim) (front : Front) → depth ≤ more → IsFront (limits_with program depth 0) bytes front
    → IsFrontVerdict plant program ranges root depth bytes front (Yes claim) → IsAnyVerdict plant program ranges root more bytes (Yes claim)
any-front-deeper plant program ranges root depth more bytes claim Plain less stands right = record { front = Plain; stands = stands; right = yes-deeper (plain program) depth more bytes claim less right }
any-front-deeper plant program ranges root depth more bytes claim (Headed head) less stands right = record {
  front = Headed head;
  stands = front-deeper program depth more bytes head stands;
  right = head-deeper plant program (judged_over ranges root head.version) depth more bytes head claim right.setups less right.set_up right.right;
}
any-front-deeper plant program ranges root depth more bytes claim (Bad defect) less stands right = cc

pub any-deeper : (plant : Plant) (program : Program) (ranges root : List Domain) (depth more : ℕ) (bytes : List ℕ) (claim : Claim) → depth ≤ more → IsAnyVerdict plant program ranges root depth bytes (Yes claim) → IsAnyVerdict plant program ranges root more bytes (Yes claim)
any-deeper plant program ranges root depth more bytes claim less is = any-front-deeper plant program ranges root depth more bytes claim is.front less is.stands is.right

-- the same of a log over a part of a plant's choices
pub plant-deeper : (plant : Plant) (part : Program) (depth more : ℕ) (bytes : List ℕ) (claim : Claim) → depth ≤ more → IsPlantVerdict plant part depth bytes (Yes claim) → IsPlantVerdict plant part more bytes (Yes claim)
plant-deeper plant part depth more bytes claim less is = any-deeper plant part (plant_root plant) (plant_root plant) depth more bytes claim less is
