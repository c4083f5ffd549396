-- What is read of bytes and checked is an old log.
use Rattle.std.proofs.Common.{◌≡◌, ◌⊎◌, ℕ, zero, suc, ◌+◌, ◌-◌, ◌≤◌, Bool, true, false, List, [], ◌∷◌, ◌++◌, length, map, drop, length-append, Option, Some, Ok, Err, refl, sym, ap, ap₂, ◌∙◌, subst, inl, inr, arith}
use Rattle.std.specs.Prelude.{Result, IfOk, codes, ◌==◌, if◌then◌else◌, unwrap_or}
use Rattle.std.specs.List.{All}
use Rattle.std.specs.List.Sorted.{IsStrictlyIncreasing}
use Rattle.std.proofs.lemmas.List.{append-nil, length-drop, length-map, length-take-le, take_all}
use Rattle.std.proofs.lemmas.Bool.{false≢true}
use Rattle.std.proofs.lemmas.Fmt.{decimal_digit}
use Rattle.std.proofs.lemmas.List.Elements.{All-cons, All-nil, All-weaker}
use Rattle.stn_model.specs.Points.{depth_limit}
use Rattle.stn_model.specs.declared.plant.Plant.{Plant}
use Rattle.stn_model.specs.Sound.{Sound}
use Rattle.row_kit.specs.declared.domain.Domain.{Domain}
use Rattle.row_kit.specs.declared.program.Program.{Program}
use Rattle.row_kit.specs.declared.row.Tag.{Tag}
use Rattle.proof_tree.specs.Tree.{tree_of}
use Rattle.row_relax.specs.declared.rows.Rows.{Rows}
use Rattle.row_relax.specs.Choices.{choices_of, plain}
use Rattle.row_relax.specs.RowProofs.{RowTree}
use Rattle.time_grid.specs.Slots.{slots}
use Rattle.row_set.specs.Parts.{IsAdmitted}
use Rattle.row_set.specs.PlantProgram.{IsMadeOf, IsProgramOf, plant_root, slot_domain}
use Rattle.sum_slots.specs.declared.sum.Sum.{Sum}
use Rattle.sum_slots.specs.Larger.{IsWithSums, sum_domain}
use Rattle.sum_slots.specs.Shown.{AreRanges, IsShown}
use Rattle.sum_slots.specs.Sum.{IsDeclared}
use Rattle.sum_slots.proofs.Ranges.{own-ranges}
use Rattle.setup_slots.specs.Several.{AreSetUp, HaveRoom, choices_before}
use Rattle.derivations.specs.declared.derivation.Derivation.{Derivation}
use Rattle.derivations.specs.Growth.{AreShown, rows_of}
use Rattle.derivations.specs.Larger.{IsWithDerivations, begun, grown_by}
use Rattle.derivations.proofs.Holding.{slots-after_all}
use Rattle.derivations.proofs.Shares.{length-met}
use Rattle.log_lines.specs.TextDefect.{log_text_defect}
use Rattle.log_lines.specs.declared.defect.Defect.{Defect}
use Rattle.log_lines.specs.declared.grammar.Limits.{Limits}
use Rattle.log_lines.specs.declared.line.Line.TheVariants.{Header}
use Rattle.log_lines.specs.Line.{line_text, number_text}
use Rattle.proof_log.specs.declared.claim.Claim.{Claim}
use Rattle.proof_log.specs.declared.claim.Claim.TheVariants.{Optimal, Infeasible, Between, Below}
use Rattle.proof_log.specs.declared.log.Log.{Log}
use Rattle.proof_log.specs.declared.read.LogStop.{LogStop}
use Rattle.proof_log.specs.declared.read.LogStop.TheVariants.{Defect as StopDefect}
use Rattle.proof_log.specs.Behind.{behind}
use Rattle.proof_log.specs.Log.{lines_text}
use Rattle.proof_log.specs.LogReading.{IsRead}
use Rattle.proof_log.specs.OneText.{IsClaimOver}
use Rattle.sum_lines.specs.declared.head.Front.{Front}
use Rattle.sum_lines.specs.declared.head.Front.TheVariants.{Plain, Headed, Bad}
use Rattle.sum_lines.specs.declared.head.Head.{Head}
use Rattle.sum_lines.specs.Front.{IsFront, IsHeaded}
use Rattle.sum_lines.specs.Head.{IsHeadVersion, IsKeptHead, head_text}
use Rattle.setup_lines.specs.declared.setups.SetupFront.{SetupFront}
use Rattle.setup_lines.specs.declared.setups.SetupFront.TheVariants as setting
use Rattle.setup_lines.specs.declared.setups.SetupSize.{SetupSize}
use Rattle.setup_lines.specs.declared.setups.Setups.{Setups}
use Rattle.setup_lines.specs.Line.{setups_text}
use Rattle.derivation_lines.specs.declared.tail.Tail.{Tail}
use Rattle.derivation_lines.specs.declared.tail.TailFront.{TailFront}
use Rattle.derivation_lines.specs.declared.tail.TailFront.TheVariants as tailed
use Rattle.derivation_lines.specs.declared.tail.TailFront.TheVariants.{Whole}
use Rattle.derivation_lines.specs.Tail.{lines_text as tail_lines, tail_text}
use Rattle.valid_log.specs.declared.verdict.LogVerdict.{LogVerdict}
use Rattle.valid_log.specs.declared.verdict.LogVerdict.TheVariants.{Yes, No}
use Rattle.valid_log.specs.Claims.{SaysOf}
use Rattle.valid_log.specs.Verdict.{IsBorneOut, IsLog, IsVerdict, IsVerdictGiven, IsVerdictOn, limits_of}
use Rattle.valid_log.specs.Heads.{AreSetups, HasHeadDefect, IsTail, IsWithHead, head_domains, judged_over, limits_behind, limits_with, setup_sizes, wide_domains}
use Rattle.valid_log.specs.AnyVersion.{IsAnyVerdict, IsHeadVerdict, IsLogBehind, IsLogWith, IsSetUpVerdict, IsTailVerdict, given_claim, unshown_defect}
use Rattle.valid_log.specs.PlantLogs.{IsAnyChecked}
use Rattle.valid_log.proofs.AnyVersions.{same_head}
use Rattle.valid_log.proofs.Deeper.{deep_setups, front-deeper, setups-deeper, tail-deeper}
use Rattle.valid_log.proofs.PartSaying.{heads-say}
use Rattle.valid_log.proofs.Saying.{of_plant, whole-is_part, whole_says}
use Rattle.plant_check.specs.Heads.{IsHeadHeld, IsTailHeld}
use Rattle.plant_check.proofs.HeadJudged.{declared_over, room_held, rows_fit}
use Rattle.what_if.specs.declared.old.LogHead.{LogHead}
use Rattle.what_if.specs.declared.old.ValidLog.{ValidLog}
use Rattle.what_if.specs.Estimate.{AreTaken, IsSumOf}
use Rattle.what_if.specs.Head.{version_of}
use Rattle.what_if.specs.OldLogs.{IsValidFor}
use Rattle.what_if.specs.laws.Judged.{IsAnyOwnLog, IsHeadOf, IsNoHead, IsOwnLog, IsSetUpLog, IsStopInFile, IsTailedLog}
use Rattle.what_if.proofs.Room.{head-room, no-head-room}

-- ---- a log over rows

-- the answer yes, on a log that was read
pub yes_log : (rows : Rows) (depth : ℕ) (bytes : List ℕ) (log : Log) (claim : Claim) → IsRead (limits_of rows depth) bytes log → IsVerdictOn rows (tree_of log.tree) log.claim (Yes claim) → IsBorneOut rows claim → IsOwnLog rows depth bytes (tree_of log.tree) log.claim
yes_log rows depth bytes log claim read on borne =
    record { clean = read.clean; is_log = record { version = log.version; text = read.text; over = read.over }; sound_log = on.1; borne = subst (IsBorneOut rows) on.0 borne }

-- bytes with a first text defect
pub text_verdict : (rows : Rows) (depth : ℕ) (bytes : List ℕ) (defect : Defect) → log_text_defect (limits_of rows depth) bytes ≡ Some (defect.line, defect.kind) → IsVerdict rows depth bytes (No defect)
text_verdict rows depth bytes defect is = subst (λ (found : Option (ℕ × ℕ)). IsVerdictGiven rows bytes found (No defect)) (sym is) (refl, refl)

-- the answer on the bytes of a valid log is yes
own_verdict : (rows : Rows) (depth : ℕ) (bytes : List ℕ) (tree : RowTree) (claim : Claim) → IsOwnLog rows depth bytes tree claim → IsVerdict rows depth bytes (Yes claim)
own_verdict rows depth bytes tree claim own =
    subst (λ (found : Option (ℕ × ℕ)). IsVerdictGiven rows bytes found (Yes claim)) (sym own.clean)
    (record { tree = tree; is_log = own.is_log; sound_log = own.sound_log })

-- ---- a log without a head

-- some lane has no slot
free_lane : (tags : List Tag) → (lane : ℕ) × All (λ tag. tag.lane ≡ lane → ⊥) tags
free_lane tags =
    let most = greatest tags in
    (most.0 + 1, All-weaker (λ tag. tag.lane ≤ most.0) (λ tag. tag.lane ≡ most.0 + 1 → ⊥) (λ tag small is. omega (arith, small, is)) tags most.1)
  where
    greatest : (tags : List Tag) → (most : ℕ) × All (λ tag. tag.lane ≤ most) tags
    greatest [] = (0, All-nil (λ tag. tag.lane ≤ 0))
    greatest (tag ∷ tags) =
        let rest = greatest tags in
        let most = tag.lane + rest.0 in
        (most, All-cons (λ other. other.lane ≤ most) tag tags (omega arith) (All-weaker (λ other. other.lane ≤ rest.0) (λ other. other.lane ≤ most) (λ other small. omega (arith, small)) tags rest.1))

-- a program is itself with no sums
with_none : (program : Program) (ranges : List Domain) → IsWithSums program ranges [] program
with_none program ranges =
    let free = free_lane program.tags in
    record {
      lane = free.0;
      free = free.1;
      tags = sym (append-nil program.tags);
      root = sym (append-nil program.root);
      rows = sym (append-nil program.rows);
      profit = refl;
      base = refl;
      changes = refl;
    }

-- a claim that has a value for each of this many slots is the same cut back to them
given_same : (slots : ℕ) (claim : Claim) → IsClaimOver slots claim → claim ≡ given_claim slots claim
given_same slots (Optimal profit point) over = ap (Optimal profit) (sym (take_all slots point (omega (arith, over))))
given_same slots Infeasible over = refl
given_same slots (Between profit most point) over = ap (Between profit most) (sym (take_all slots point (omega (arith, over))))
given_same slots (Below most) over = refl

-- the version by which the head of a log is looked at that has none
below_four : (head : LogHead) → head.capped ≡ false → version_of head ≡ 3
below_four head is = ap (λ (capped : Bool). if capped then 4 else 3) is

-- a program is itself with no head
no-head : (plant : Plant) (program : Program) (ranges : List Domain) (head : LogHead) → IsNoHead head → IsWithHead plant (version_of head) program ranges head.sums head.units head.derivations (plain program)
no-head plant program ranges head none = record {
  sums_shown = subst (All (IsShown program ranges)) (sym none.sums) (All-nil (IsShown program ranges));
  between = program;
  with_sums = subst (λ (sums : List Sum). IsWithSums program ranges sums program) (sym none.sums) (with_none program ranges);
  wide = program;
  with_setups = subst (λ (units : List ℕ). AreSetUp plant units program program) (sym none.units) refl;
  derivations_shown = subst (AreShown (begun program (wide_domains plant program ranges head.sums head.units))) (sym none.derivations) tt;
  grown = inl (below_four head none.capped, none.units, refl);
  choices = sym (ap (λ (units : List ℕ). choices_before units program) none.units);
}

-- and it can be taken
none-taken : (plant : Plant) (program : Program) (ranges : List Domain) (head : LogHead) → IsNoHead head → AreTaken plant program ranges head
none-taken plant program ranges head none = record {
  each = subst (All (IsSumOf program ranges)) (sym none.sums) (All-nil (IsSumOf program ranges));
  ascending = subst IsStrictlyIncreasing (sym none.units) none_ascend;
  below = λ capped. none.units;
  room = no-head-room plant program head none;
}
  where
    none_ascend : IsStrictlyIncreasing []
    none_ascend k lt = absurd (omega (arith, lt))

-- a valid log without a head
plain_valid : (plant : Plant) (program : Program) (ranges : List Domain) (bytes : List ℕ) (log : ValidLog) → IsFront (limits_with program (depth_limit plant) 0) bytes Plain → IsNoHead log.head → IsOwnLog (plain program) (depth_limit plant) bytes (tree_of log.tree) log.claim
    → IsAnyOwnLog plant program ranges bytes log
plain_valid plant program ranges bytes log stands none own = record {
  right = record { front = Plain; stands = stands; right = own_verdict (plain program) (depth_limit plant) bytes (tree_of log.tree) log.claim own };
  is_log = record { front = Plain; stands = stands; is_log = (none.sums, none.units, none.derivations, own.is_log) };
  has_caps = none.capped;
  sound_log = record {
    rows = plain program;
    enlarged = no-head plant program ranges log.head none;
    own = log.claim;
    sound_log = own.sound_log;
    claim_is = given_same (length program.root) log.claim own.is_log.over.claim_over;
  };
  taken = none-taken plant program ranges log.head none;
  borne = own.borne;
}

-- the same of what was read
pub plain_valid_if : {E : Type 0} (plant : Plant) (program : Program) (ranges : List Domain) (bytes : List ℕ) (r : Result ValidLog E) → IsFront (limits_with program (depth_limit plant) 0) bytes Plain → IfOk r (λ log. IsNoHead log.head)
    → IfOk r (λ log. IsOwnLog (plain program) (depth_limit plant) bytes (tree_of log.tree) log.claim) → IfOk r (IsAnyOwnLog plant program ranges bytes)
plain_valid_if plant program ranges bytes (Ok log) stands none own = plain_valid plant program ranges bytes log stands none own
plain_valid_if plant program ranges bytes (Err e) stands none own = tt

-- ---- a log with a head

-- the line of the header of version 4, and of any other that of version 2
header_line : (newest : Bool) → (if newest then codes "stn-log 4\n" else codes "stn-log 2\n") ≡ lines_text (Header (if newest then 4 else 2) ∷ [])
unfolding lines_text line_text number_text
header_line true = rw (decimal_digit 4 (omega arith)) refl
header_line false = rw (decimal_digit 2 (omega arith)) refl

-- the header, and what follows a head, are what is read behind it
pub behind_is : (version head : ℕ) (bytes front rest : List ℕ) → 1 ≤ head → front ≡ (if version == 4 then codes "stn-log 4\n" else codes "stn-log 2\n") → rest ≡ front ++ drop head bytes → rest ≡ behind version head bytes
behind_is version zero bytes front rest some is all = absurd (omega (arith, some))
behind_is version (suc n) bytes front rest some is all = all ∙ ap (λ (text : List ℕ). text ++ drop (suc n) bytes) (is ∙ header_line (version == 4))

-- domains that are both those of version 3 and those of the command are those over which a head is judged
judged-same : (ranges : List Domain) (version : ℕ) → judged_over ranges ranges version ≡ ranges
judged-same ranges version = by_three (version == 3)
  where
    by_three : (three : Bool) → (if three then ranges else ranges) ≡ ranges
    by_three true = refl
    by_three false = refl

-- a verdict on a file with a head is one on the file
pub head_verdict : (plant : Plant) (program : Program) (ranges : List Domain) (bytes : List ℕ) (head : Head) (verdict : LogVerdict) → IsHeadVerdict plant program ranges (depth_limit plant) bytes head verdict
    → IsHeadVerdict plant program (judged_over ranges ranges head.version) (depth_limit plant) bytes head verdict
head_verdict plant program ranges bytes head verdict right = subst (λ (judged : List Domain). IsHeadVerdict plant program judged (depth_limit plant) bytes head verdict) (sym (judged-same ranges head.version)) right

-- the version by which a head is looked at is its own
own-version : (setups : Setups) (tail : Tail) (given : LogHead) → IsHeadVersion setups.head.version → IsHeadOf setups tail given → version_of given ≡ setups.head.version
own-version setups tail given version of = ap (λ (capped : Bool). if capped then 4 else 3) of.capped ∙ by_version version
  where
    by_version : IsHeadVersion setups.head.version → (if setups.head.version == 4 then 4 else 3) ≡ setups.head.version
    by_version (inl three) = ap (λ (version : ℕ). if version == 4 then 4 else 3) three ∙ sym three
    by_version (inr four) = ap (λ (version : ℕ). if version == 4 then 4 else 3) four ∙ sym four

-- so the rows with it are those with what is given of it
with-given : (plant : Plant) (program : Program) (ranges : List Domain) (setups : Setups) (tail : Tail) (given : LogHead) (rows : Rows) → IsHeadOf setups tail given
    → IsWithHead plant setups.head.version program ranges setups.head.sums setups.units tail.derivations rows → IsWithHead plant setups.head.version program ranges given.sums given.units given.derivations rows
with-given plant program ranges setups tail given rows of is =
    let v = setups.head.version in
    subst (λ (ds : List Derivation). IsWithHead plant v program ranges given.sums given.units ds rows) (sym of.derivations)
    (subst (λ (units : List ℕ). IsWithHead plant v program ranges given.sums units tail.derivations rows) (sym of.units)
    (subst (λ (sums : List Sum). IsWithHead plant v program ranges sums setups.units tail.derivations rows) (sym of.sums) is))

-- a head below version 4 sets no unit up
below-three : (plant : Plant) (program : Program) (setups : Setups) (tail : Tail) (given : LogHead) → IsHeadHeld plant program (depth_limit plant) setups → IsHeadOf setups tail given → given.capped ≡ false → given.units ≡ []
below-three plant program setups tail given held of none = of.units ∙ by_version held.version
  where
    by_version : IsHeadVersion setups.head.version → setups.units ≡ []
    by_version (inl three) = held.none three
    by_version (inr four) =
        let capped : given.capped ≡ true = of.capped ∙ ap (λ (version : ℕ). version == 4) four in
        absurd (false≢true (sym none ∙ capped))

-- a head that is read and shown can be taken
given-taken : (plant : Plant) (program : Program) (ranges : List Domain) (setups : Setups) (tail : Tail) (given : LogHead) (rows : Rows) → IsHeadHeld plant program (depth_limit plant) setups → IsTailHeld setups.limits setups.head tail → IsHeadOf setups tail given
    → IsWithHead plant setups.head.version program ranges setups.head.sums setups.units tail.derivations rows → AreTaken plant program ranges given
given-taken plant program ranges setups tail given rows held tailed of is =
    let declared = declared_over plant program (depth_limit plant) setups held in
    let room = room_held plant program is.between ranges (depth_limit plant) setups held is.with_sums in
    let few = rows_fit plant program is.between is.wide ranges (depth_limit plant) setups tail held tailed is.with_sums is.with_setups in
    let own = with-given plant program ranges setups tail given rows of is in
    record {
      each = subst (All (IsSumOf program ranges)) (sym of.sums) (λ i d lt. (declared i d lt, is.sums_shown i d lt));
      ascending = subst IsStrictlyIncreasing (sym of.units) held.units.ascending;
      below = below-three plant program setups tail given held of;
      room =
          head-room plant program is.between is.wide ranges given (subst (λ (sums : List Sum). IsWithSums program ranges sums is.between) (sym of.sums) is.with_sums)
          (subst (λ (units : List ℕ). AreSetUp plant units is.between is.wide) (sym of.units) is.with_setups) (subst (λ (units : List ℕ). HaveRoom plant units is.between) (sym of.units) room)
          (subst (λ (ds : List Derivation). length is.wide.rows + rows_of ds ≤ 400000) (sym of.derivations) few);
    }

-- a valid log behind a head, its setups and its derivations, over the rows with them
pub tailed_valid : (plant : Plant) (program : Program) (ranges : List Domain) (bytes : List ℕ) (setups : Setups) (tail : Tail) (rows : Rows) (own : Log) (log : ValidLog) → IsHeadHeld plant program (depth_limit plant) setups → IsTailHeld setups.limits setups.head tail
    → IsWithHead plant setups.head.version program ranges setups.head.sums setups.units tail.derivations rows → IsOwnLog rows (depth_limit plant) (behind setups.head.version tail.bytes bytes) (tree_of own.tree) own.claim
    → IsHeadOf setups tail log.head → log.tree ≡ own.tree → log.claim ≡ given_claim (length program.root) own.claim → IsTailedLog plant program ranges bytes setups tail log
tailed_valid plant program ranges bytes setups tail rows own log held tailed enlarged valid of tree_is claim_is = record {
  rows = rows;
  enlarged = enlarged;
  own = own.claim;
  valid = subst (λ (tree : RowTree). IsOwnLog rows (depth_limit plant) (behind setups.head.version tail.bytes bytes) tree own.claim) (ap tree_of (sym tree_is)) valid;
  has_head = of;
  claim_is = claim_is;
  taken = given-taken plant program ranges setups tail log.head rows held tailed of enlarged;
}

-- the same behind a head and its setups
pub set_up_valid : {E : Type 0} (plant : Plant) (program : Program) (ranges : List Domain) (bytes : List ℕ) (setups : Setups) (tail : Tail) (r : Result ValidLog E) → IsTail setups.limits setups.head bytes (Whole tail)
    → IfOk r (IsTailedLog plant program ranges bytes setups tail) → IfOk r (IsSetUpLog plant program ranges bytes setups)
set_up_valid plant program ranges bytes setups tail (Ok log) follows' is = record { tail = tail; follows = follows'; is_log = is }
set_up_valid plant program ranges bytes setups tail (Err e) follows' is = tt

-- which is the answer yes on what stands there
set_up_yes : (plant : Plant) (program : Program) (ranges : List Domain) (bytes : List ℕ) (setups : Setups) (log : ValidLog) → IsSetUpLog plant program ranges bytes setups log → IsSetUpVerdict plant program ranges (depth_limit plant) bytes setups (Yes log.claim)
set_up_yes plant program ranges bytes setups log is =
    let own = is.is_log in record {
      tail = Whole is.tail;
      follows = is.follows;
      right = inr (record {
        rows = own.rows;
        enlarged = own.enlarged;
        own = Yes own.own;
        right = own_verdict own.rows (depth_limit plant) (behind setups.head.version is.tail.bytes bytes) (tree_of log.tree) own.own own.valid;
        is = ap Yes own.claim_is;
      });
    }

-- and the text of a log with that head
behind_text : (plant : Plant) (program : Program) (ranges : List Domain) (bytes : List ℕ) (head : Head) (setups : Setups) (log : ValidLog) → AreSetups (limits_with program (depth_limit plant) (length head.sums)) (setup_sizes plant) head bytes (setting.Whole setups)
    → IsSetUpLog plant program ranges bytes setups log → IsLogBehind plant program ranges bytes head log.head.sums log.head.units log.head.derivations (tree_of log.tree) log.claim
behind_text plant program ranges bytes head setups log stands is =
    let limits = limits_with program (depth_limit plant) (length head.sums) in
    let same = same_head limits (setup_sizes plant) head bytes setups stands in
    let own = is.is_log in
    let of = own.has_head in
    record {
      setups = deep_setups 0 setups;
      set_up = setups-deeper limits 0 (setup_sizes plant) head bytes setups stands;
      tail = is.tail;
      follows = tail-deeper setups.limits 0 setups.head bytes is.tail is.follows;
      declares = of.sums ∙ same.1.0;
      sets_up = of.units;
      derives = of.derivations;
      rows = own.rows;
      enlarged = subst (λ (v : ℕ). IsWithHead plant v program ranges log.head.sums log.head.units log.head.derivations own.rows) same.0 (with-given plant program ranges setups is.tail log.head own.rows of own.enlarged);
      own = own.own;
      is_log = subst (λ (v : ℕ). IsLog own.rows (behind v is.tail.bytes bytes) (tree_of log.tree) own.own) same.0 own.valid.is_log;
      claim_is = own.claim_is;
    }

-- a valid log with a head
pub headed_valid : (plant : Plant) (program : Program) (ranges : List Domain) (bytes : List ℕ) (head : Head) (setups : Setups) (log : ValidLog) → IsFront (limits_with program (depth_limit plant) 0) bytes (Headed head) → IsKeptHead (limits_with program (depth_limit plant) 0) head
    → AreSetups (limits_with program (depth_limit plant) (length head.sums)) (setup_sizes plant) head bytes (setting.Whole setups) → IsSetUpLog plant program ranges bytes setups log → IsAnyOwnLog plant program ranges bytes log
headed_valid plant program ranges bytes head setups log stands kept set is =
    let own = is.is_log in
    let same = same_head (limits_with program (depth_limit plant) (length head.sums)) (setup_sizes plant) head bytes setups set in
    let version : IsHeadVersion setups.head.version = subst IsHeadVersion (sym same.0) kept.version in
    record {
      right = record {
        front = Headed head;
        stands = stands;
        right = head_verdict plant program ranges bytes head (Yes log.claim) (record { setups = setting.Whole setups; set_up = set; right = set_up_yes plant program ranges bytes setups log is });
      };
      is_log = record {
        front = Headed head;
        stands = front-deeper program (depth_limit plant) 0 bytes head stands;
        is_log =
            subst (λ (judged : List Domain). IsLogBehind plant program judged bytes head log.head.sums log.head.units log.head.derivations (tree_of log.tree) log.claim) (sym (judged-same ranges head.version))
            (behind_text plant program ranges bytes head setups log set is);
      };
      has_caps = own.has_head.capped ∙ ap (λ (v : ℕ). v == 4) same.0;
      sound_log = record {
        rows = own.rows;
        enlarged =
            subst (λ (v : ℕ). IsWithHead plant v program ranges log.head.sums log.head.units log.head.derivations own.rows) (sym (own-version setups is.tail log.head version own.has_head))
            (with-given plant program ranges setups is.tail log.head own.rows own.has_head own.enlarged);
        own = own.own;
        sound_log = own.valid.sound_log;
        claim_is = own.claim_is;
      };
      taken = own.taken;
      borne = own.valid.borne;
    }

-- the same of what was read
pub headed_valid_if : {E : Type 0} (plant : Plant) (program : Program) (ranges : List Domain) (bytes : List ℕ) (head : Head) (setups : Setups) (r : Result ValidLog E) → IsFront (limits_with program (depth_limit plant) 0) bytes (Headed head) → IsKeptHead (limits_with program (depth_limit plant) 0) head
    → AreSetups (limits_with program (depth_limit plant) (length head.sums)) (setup_sizes plant) head bytes (setting.Whole setups) → IfOk r (IsSetUpLog plant program ranges bytes setups) → IfOk r (IsAnyOwnLog plant program ranges bytes)
headed_valid_if plant program ranges bytes head setups (Ok log) stands kept set is = headed_valid plant program ranges bytes head setups log stands kept set is
headed_valid_if plant program ranges bytes head setups (Err e) stands kept set is = tt

-- how many bytes stand before the nodes
abbrev bytes_of : TailFront → ℕ
bytes_of (Whole own) = own.bytes
bytes_of (tailed.Bad defect) = 0

-- no derivations have no text
no-text : length (tail_text []) ≡ 0
unfolding tail_lines
no-text = refl

-- the derivations of a head lie within the bytes
pub tail_within : (limits : Limits) (head : Head) (bytes : List ℕ) (tail : Tail) → IsTail limits head bytes (Whole tail) → head.bytes ≤ length bytes → tail.bytes ≤ length bytes
tail_within limits head bytes tail (inl three) within =
    let own : tail.bytes ≡ head.bytes + length (tail_text []) = ap bytes_of three.1 in
    omega (arith, own, no-text, within)
tail_within limits head bytes tail (inr four) within =
    let own : tail.bytes ≡ head.bytes + length (tail_text tail.derivations) = ap (λ (t : Tail). t.bytes) four.1.kept.is in
    let cut : length (drop head.bytes bytes) ≡ length bytes - head.bytes = length-drop head.bytes bytes in
    let long : length (drop head.bytes bytes) ≡ length (tail_text tail.derivations) + length (drop tail.bytes bytes) = ap length four.1.is ∙ length-append (tail_text tail.derivations) (drop tail.bytes bytes) in
    omega (arith, own, long, cut, within)

-- a head lies within the bytes that it stands in front of
pub head_within : (program : Program) (depth : ℕ) (bytes : List ℕ) (head : Head) → IsHeaded (limits_with program depth 0) bytes head → head.bytes ≤ length bytes
head_within program depth bytes head is =
    let own : head.bytes ≡ length (head_text head.version head.sums) = ap (λ (h : Head). h.bytes) is.kept.is in
    let long : length bytes ≡ length (head_text head.version head.sums) + length (drop head.bytes bytes) = ap length is.is ∙ length-append (head_text head.version head.sums) (drop head.bytes bytes) in
    omega (arith, own, long)

-- so it does with its setups
pub setups_within : (limits : Limits) (sizes : List SetupSize) (head : Head) (bytes : List ℕ) (setups : Setups) → AreSetups limits sizes head bytes (setting.Whole setups) → head.bytes ≤ length bytes → setups.head.bytes ≤ length bytes
setups_within limits sizes head bytes setups (inl three) within = omega (arith, ap front_bytes three.1, within)
  where
    front_bytes : SetupFront → ℕ
    front_bytes (setting.Whole s) = s.head.bytes
    front_bytes (setting.Bad defect) = 0
setups_within limits sizes head bytes setups (inr four) within =
    let own : setups.head.bytes ≡ head.bytes + length (setups_text setups.units) = ap (λ (s : Setups). s.head.bytes) four.1.kept.is in
    let cut : length (drop head.bytes bytes) ≡ length bytes - head.bytes = length-drop head.bytes bytes in
    let long : length (drop head.bytes bytes) ≡ length (setups_text setups.units) + length (drop setups.head.bytes bytes) = ap length four.1.is ∙ length-append (setups_text setups.units) (drop setups.head.bytes bytes) in
    omega (arith, own, long, cut, within)

-- a file whose head has a defect in its meaning has that one, or the first text defect behind its head
pub unshown_file : (plant : Plant) (program : Program) (ranges : List Domain) (bytes rest : List ℕ) (setups : Setups) (tail : Tail) (limits : Limits) (unshown defect : Defect) → HasHeadDefect plant program ranges setups tail unshown.line unshown.kind
    → limits ≡ limits_behind setups tail → rest ≡ behind setups.head.version tail.bytes bytes → defect ≡ unshown_defect tail.count unshown.line unshown.kind (log_text_defect limits rest) → IsTailVerdict plant program ranges (depth_limit plant) bytes setups (Whole tail) (No defect)
unshown_file plant program ranges bytes rest setups tail limits unshown defect has same are is = inl (record {
  line = unshown.line;
  kind = unshown.kind;
  has = has;
  is = ap No (is ∙ ap₂ (λ (l : Limits) (text : List ℕ). unshown_defect tail.count unshown.line unshown.kind (log_text_defect l text)) same are);
})

-- a file whose head is shown has the defect behind it, over the rows with the head
pub shown_defect : (plant : Plant) (program : Program) (ranges : List Domain) (bytes rest : List ℕ) (setups : Setups) (tail : Tail) (rows : Rows) (stop own : LogStop) (defect : Defect)
    → IsWithHead plant setups.head.version program ranges setups.head.sums setups.units tail.derivations rows → rest ≡ behind setups.head.version tail.bytes bytes
    → ((before : Defect) → own ≡ StopDefect before → IsVerdict rows (depth_limit plant) rest (No before)) → IsStopInFile tail.count own stop → stop ≡ StopDefect defect → IsTailVerdict plant program ranges (depth_limit plant) bytes setups (Whole tail) (No defect)
shown_defect plant program ranges bytes rest setups tail rows stop own defect enlarged are each in_lines is =
    let found = in_lines defect is in inr (record {
      rows = rows;
      enlarged = enlarged;
      own = No found.0;
      right = subst (λ (text : List ℕ). IsVerdict rows (depth_limit plant) text (No found.0)) are (each found.0 found.1.0);
      is = ap No found.1.1;
    })

-- ---- of a plant

-- a log that is valid over a plant's program is valid for the plant
pub valid_for : (plant : Plant) (program : Program) (bytes : List ℕ) (log : ValidLog) → Sound plant → IsMadeOf plant program → IsProgramOf plant program → IsAnyOwnLog plant program (plant_root plant) bytes log
    → IsValidFor plant bytes log.head (tree_of log.tree) log.claim
valid_for plant program bytes log sound made means own = record {
  checked = record {
    program = program;
    of_plant = of_plant plant program sound made means;
    right = own.right;
    holds = whole_says plant program (Yes log.claim) means (subst (SaysOf plant (IsAdmitted plant program)) (sym own.sound_log.claim_is) said);
  };
  is_log = own.is_log;
  has_caps = own.has_caps;
  sound_log = own.sound_log;
  taken = own.taken;
}
  where
    wide : AreRanges program (plant_root plant)
    wide = subst (AreRanges program) made.root_is (own-ranges program)

    said : SaysOf plant (IsAdmitted plant program) (given_claim (length program.root) own.sound_log.own)
    said =
        heads-say plant (version_of log.head) program (plant_root plant) log.head.sums log.head.units log.head.derivations own.sound_log.rows own.sound_log.own sound (whole-is_part plant program made means) wide
        (All-weaker (IsSumOf program (plant_root plant)) (IsDeclared (length program.root)) (λ sum each. each.0) log.head.sums own.taken.each) own.taken.ascending own.sound_log.enlarged own.borne

-- a claim over some slots and more has, cut back to these, a value for each
given_over : (slots more whole : ℕ) (claim : Claim) → whole ≡ slots + more → IsClaimOver whole claim → IsClaimOver slots (given_claim slots claim)
given_over slots more whole (Optimal profit point) all over = length-take-le slots point (omega (arith, all, over))
given_over slots more whole Infeasible all over = tt
given_over slots more whole (Between profit most point) all over = length-take-le slots point (omega (arith, all, over))
given_over slots more whole (Below most) all over = tt

-- the choices of the rows with a head that is judged over a domain for each slot have no fewer slots
larger-slots : (plant : Plant) (version : ℕ) (program : Program) (judged : List Domain) (sums : List Sum) (units : List ℕ) (derivations : List Derivation) (rows : Rows) → length judged ≡ length program.root
    → IsWithHead plant version program judged sums units derivations rows → length program.root ≤ length (choices_of rows).root
larger-slots plant version program judged sums [] derivations rows many is =
    subst (λ (c : Option Program). length program.root ≤ length (unwrap_or c rows.program).root) (sym is.choices) (by_version [] is.grown)
  where
    more : List Domain
    more = map (sum_domain program judged) sums

    domains : List Domain
    domains = head_domains program judged sums

    between : length is.between.root ≡ length program.root + length more
    between = ap length is.with_sums.root ∙ length-append program.root more

    wide : length is.wide.root ≡ length program.root + length more
    wide = ap (λ (p : Program). length p.root) is.with_setups ∙ between

    own : length domains ≡ length is.wide.root
    own = length-append judged more ∙ ap (λ (n : ℕ). n + length more) many ∙ sym wide

    left : List Domain
    left = (grown_by is.wide domains derivations).domains

    by_version : (us : List ℕ) → ((version ≡ 3) × (us ≡ []) × (rows.program ≡ is.wide)) ⊎ ((version ≡ 4) × IsWithDerivations is.wide domains derivations rows.program) → length program.root ≤ length rows.program.root
    by_version us (inl three) = omega (arith, wide, ap (λ (p : Program). length p.root) three.2)
    by_version us (inr four) =
        omega (arith, wide, ap length four.1.root, length-met is.wide.root left (slots-after_all (begun is.wide domains) derivations ∙ own))
larger-slots plant version program judged sums (unit ∷ units) derivations rows many is =
    subst (λ (c : Option Program). length program.root ≤ length (unwrap_or c rows.program).root) (sym is.choices)
    (omega (arith, ap length is.with_sums.root, length-append program.root (map (sum_domain program judged) sums)))

-- the claim of a log with such a front has, cut back, a value for each slot of the program
claim-over : (plant : Plant) (program : Program) (ranges : List Domain) (bytes : List ℕ) (front : Front) (head : LogHead) (tree : RowTree) (claim : Claim) → length ranges ≡ length program.root
    → IsLogWith plant program ranges ranges bytes front head.sums head.units head.derivations tree claim → IsClaimOver (length program.root) claim
claim-over plant program ranges bytes Plain head tree claim many is = is.3.over.claim_over
claim-over plant program ranges bytes (Headed own) head tree claim many is =
    let judged = judged_over ranges ranges own.version in
    let slots = length (choices_of is.rows).root in
    let few = larger-slots plant own.version program judged head.sums head.units head.derivations is.rows (ap length (judged-same ranges own.version) ∙ many) is.enlarged in
    subst (IsClaimOver (length program.root)) (sym is.claim_is)
    (given_over (length program.root) (slots - length program.root) slots is.own (omega (arith, few)) is.is_log.over.claim_over)
claim-over plant program ranges bytes (Bad defect) head tree claim many is = absurd is

-- the claim of a log that is valid for a plant has a value for each of its slots
pub valid-claim_over : (plant : Plant) (bytes : List ℕ) (head : LogHead) (proof : RowTree) (claim : Claim) → IsValidFor plant bytes head proof claim → IsClaimOver (length (slots plant)) claim
valid-claim_over plant bytes head proof claim valid =
    let program = valid.checked.program in
    let own : length program.root ≡ length (slots plant) = ap length valid.checked.of_plant.made.root_is ∙ length-map (slots plant) (slot_domain plant) in
    subst (λ (n : ℕ). IsClaimOver n claim) own (claim-over plant program (plant_root plant) bytes valid.is_log.front head proof claim (ap length (sym valid.checked.of_plant.made.root_is)) valid.is_log.is_log)

-- a defect over a plant's program is one of the log of the plant
pub defective_for : (plant : Plant) (program : Program) (bytes : List ℕ) (defect : Defect) → Sound plant → IsMadeOf plant program → IsProgramOf plant program → IsAnyVerdict plant program (plant_root plant) (plant_root plant) (depth_limit plant) bytes (No defect)
    → IsAnyChecked plant bytes (No defect)
defective_for plant program bytes defect sound made means right =
    record { program = program; of_plant = of_plant plant program sound made means; right = right; holds = tt }
