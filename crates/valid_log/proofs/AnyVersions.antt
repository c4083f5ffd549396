-- A right answer on a log of any version is yes exactly where the log is valid.
use Rattle.std.proofs.Common.{◌≡◌, true, ℕ, ◌≤◌, List, [], ◌∷◌, ◌++◌, length, inl, inr, refl, sym, ap, ◌∙◌, subst, arith}
use Rattle.std.specs.Prelude.{◌↔◌, nat_le}
use Rattle.std.specs.List.{All}
use Rattle.std.proofs.lemmas.Bool.{and_parts, cases_lt, leb-true}
use Rattle.std.proofs.lemmas.List.Elements.{All-head}
use Rattle.log_lines.specs.declared.grammar.Limits.{Limits}
use Rattle.row_kit.specs.declared.row.Row.{Row}
use Rattle.stn_model.specs.declared.plant.Plant.{Plant}
use Rattle.row_kit.specs.declared.domain.Domain.{Domain}
use Rattle.row_kit.specs.declared.program.Program.{Program}
use Rattle.row_relax.specs.declared.rows.Rows.{Rows}
use Rattle.row_relax.specs.Choices.{plain}
use Rattle.sum_slots.specs.declared.sum.Sum.{Sum}
use Rattle.sum_slots.specs.Shown.{IsShown}
use Rattle.sum_slots.proofs.Joined.{All-second}
use Rattle.proof_log.specs.declared.claim.Claim.{Claim}
use Rattle.proof_log.specs.Behind.{behind}
use Rattle.sum_lines.specs.declared.head.Front.{Front}
use Rattle.sum_lines.specs.declared.head.Front.TheVariants.{Plain, Headed, Bad}
use Rattle.sum_lines.specs.declared.head.Head.{Head}
use Rattle.sum_lines.specs.Front.{IsFront}
use Rattle.sum_lines.specs.Head.{AreKept, IsHeadVersion, IsKeptHead, most_rows, most_slots}
use Rattle.derivations.specs.declared.derivation.Derivation.{Derivation}
use Rattle.derivations.specs.Growth.{AreShown, Growth, IsShownDerivation, after, after_all}
use Rattle.derivations.specs.Larger.{begun}
use Rattle.derivation_lines.specs.declared.tail.Tail.{Tail}
use Rattle.derivation_lines.specs.declared.tail.TailFront.{TailFront}
use Rattle.derivation_lines.specs.declared.tail.TailFront.TheVariants as tailed
use Rattle.derivation_lines.specs.declared.tail.TailFront.TheVariants.{Whole}
use Rattle.derivation_lines.specs.Front.{IsTailFront}
use Rattle.valid_log.specs.declared.verdict.LogVerdict.{LogVerdict}
use Rattle.valid_log.specs.declared.verdict.LogVerdict.TheVariants.{Yes, No}
use Rattle.valid_log.specs.Verdict.{IsValidLog, IsVerdict}
use Rattle.setup_lines.specs.declared.setups.SetupFront.{SetupFront}
use Rattle.setup_lines.specs.declared.setups.SetupFront.TheVariants as setting
use Rattle.setup_lines.specs.declared.setups.SetupSize.{SetupSize}
use Rattle.setup_lines.specs.declared.setups.Setups.{Setups}
use Rattle.setup_lines.specs.Setups.{AreSetupsKept, has_setup_room, limits_set_up}
use Rattle.setup_lines.proofs.OneFront.{fronts_same}
use Rattle.valid_log.specs.Heads.{AreSetups, HasHeadDefect, IsTail, IsUnderived, IsUnshown, IsWithHead, judged_over, limits_with, no_setups, setup_sizes, wide_domains}
use Rattle.valid_log.specs.AnyVersion.{IsAnyVerdict, IsFrontVerdict, IsHeadVerdict, IsSetUpVerdict, IsSetupsVerdict, IsTailVerdict, IsValidAnyLog, IsValidBehind, IsValidWith, given_claim, given_verdict}
use Rattle.valid_log.proofs.Deeper.{any-deeper}
use Rattle.valid_log.proofs.Alike.{AreOneShape, alike, setups_shape, sums_alike, valid_alike}
use Rattle.valid_log.proofs.Excluded.{exact}
use Rattle.valid_log.proofs.Fronts.{AreSmall, bad_first, head_first, head_sound, heads_same}
use Rattle.valid_log.proofs.Tails.{tail_sound, tails_same}

-- ---- a yes is that on a valid log

-- what stands behind a head, of a claim that is this one when cut back
record HasOwn (rows : Rows) (slots depth : ℕ) (bytes : List ℕ) (claim : Claim) : Type 0 where
  own : Claim
  valid : IsValidLog rows depth bytes own
  is : claim ≡ given_claim slots own

own_yes : (rows : Rows) (slots depth count : ℕ) (bytes : List ℕ) (claim : Claim) (own : LogVerdict) → IsVerdict rows depth bytes own → Yes claim ≡ given_verdict slots count own → HasOwn rows slots depth bytes claim
own_yes rows slots depth count bytes claim (Yes own) right is = record { own = own; valid = (exact rows depth bytes (Yes own) own right).0 refl; is = cc }
own_yes rows slots depth count bytes claim (No defect) right is = absurd cc

-- a valid log behind setups
record IsValidSetUp (plant : Plant) (program : Program) (judged : List Domain) (depth : ℕ) (bytes : List ℕ) (setups : Setups) (claim : Claim) : Type 0 where
  tail : Tail
  follows : IsTail setups.limits setups.head bytes (Whole tail)
  rows : Rows
  enlarged : IsWithHead plant setups.head.version program judged setups.head.sums setups.units tail.derivations rows
  own : Claim
  valid : IsValidLog rows depth (behind setups.head.version tail.bytes bytes) own
  is : claim ≡ given_claim (length program.root) own

yes_tail : (plant : Plant) (program : Program) (judged : List Domain) (depth : ℕ) (bytes : List ℕ) (setups : Setups) (tail : TailFront) (claim : Claim)
    → IsTail setups.limits setups.head bytes tail → IsTailVerdict plant program judged depth bytes setups tail (Yes claim) → IsValidSetUp plant program judged depth bytes setups claim
yes_tail plant program judged depth bytes setups (Whole tail) claim follows' (inl unshown) = let is = unshown.is in absurd cc
yes_tail plant program judged depth bytes setups (Whole tail) claim follows' (inr is) =
    let has = own_yes is.rows (length program.root) depth tail.count (behind setups.head.version tail.bytes bytes) claim is.own is.right is.is in
    record { tail = tail; follows = follows'; rows = is.rows; enlarged = is.enlarged; own = has.own; valid = has.valid; is = has.is }
yes_tail plant program judged depth bytes setups (tailed.Bad defect) claim follows' right = absurd cc

-- a head with its setups has the version and the sums that it had
pub same_head : (limits : Limits) (sizes : List SetupSize) (head : Head) (bytes : List ℕ) (setups : Setups) → AreSetups limits sizes head bytes (setting.Whole setups)
    → (setups.head.version ≡ head.version) × ((setups.head.sums ≡ head.sums) × (setups.head.lines ≡ head.lines))
same_head limits sizes head bytes setups (inl three) =
    let same = whole_setups setups (no_setups limits head) three.1 in
    (ap (λ (s : Setups). s.head.version) same, (ap (λ (s : Setups). s.head.sums) same, ap (λ (s : Setups). s.head.lines) same))
  where
    whole_setups : (a b : Setups) → setting.Whole a ≡ setting.Whole b → a ≡ b
    whole_setups a b same = cc
same_head limits sizes head bytes setups (inr four) = let same = four.1.kept.is in (ap (λ (s : Setups). s.head.version) same, (ap (λ (s : Setups). s.head.sums) same, ap (λ (s : Setups). s.head.lines) same))

-- a valid log behind setups is one behind the head before them
set_valid : (plant : Plant) (program : Program) (judged : List Domain) (depth : ℕ) (bytes : List ℕ) (head : Head) (setups : Setups) (claim : Claim)
    → (stands : AreSetups (limits_with program depth (length head.sums)) (setup_sizes plant) head bytes (setting.Whole setups)) → IsValidSetUp plant program judged depth bytes setups claim → IsValidBehind plant program judged depth bytes head claim
set_valid plant program judged depth bytes head setups claim stands is =
    let same = same_head (limits_with program depth (length head.sums)) (setup_sizes plant) head bytes setups stands in record {
      setups = setups;
      set_up = stands;
      tail = is.tail;
      follows = is.follows;
      rows = is.rows;
      enlarged =
          subst (λ (version : ℕ). IsWithHead plant version program judged head.sums setups.units is.tail.derivations is.rows) same.0
          (subst (λ (sums : List Sum). IsWithHead plant setups.head.version program judged sums setups.units is.tail.derivations is.rows) same.1.0 is.enlarged);
      own = is.own;
      valid = subst (λ (version : ℕ). IsValidLog is.rows depth (behind version is.tail.bytes bytes) is.own) same.0 is.valid;
      is = is.is;
    }

-- and the other way round
valid_set : (plant : Plant) (program : Program) (judged : List Domain) (depth : ℕ) (bytes : List ℕ) (head : Head) (claim : Claim) (is : IsValidBehind plant program judged depth bytes head claim) → IsValidSetUp plant program judged depth bytes is.setups claim
valid_set plant program judged depth bytes head claim is =
    let setups = is.setups in
    let same = same_head (limits_with program depth (length head.sums)) (setup_sizes plant) head bytes setups is.set_up in record {
      tail = is.tail;
      follows = is.follows;
      rows = is.rows;
      enlarged =
          subst (λ (version : ℕ). IsWithHead plant version program judged setups.head.sums setups.units is.tail.derivations is.rows) (sym same.0)
          (subst (λ (sums : List Sum). IsWithHead plant head.version program judged sums setups.units is.tail.derivations is.rows) (sym same.1.0) is.enlarged);
      own = is.own;
      valid = subst (λ (version : ℕ). IsValidLog is.rows depth (behind version is.tail.bytes bytes) is.own) (sym same.0) is.valid;
      is = is.is;
    }

yes_setups : (plant : Plant) (program : Program) (judged : List Domain) (depth : ℕ) (bytes : List ℕ) (head : Head) (setups : SetupFront) (claim : Claim) → AreSetups (limits_with program depth (length head.sums)) (setup_sizes plant) head bytes setups
    → IsSetupsVerdict plant program judged depth bytes setups (Yes claim) → IsValidBehind plant program judged depth bytes head claim
yes_setups plant program judged depth bytes head (setting.Whole setups) claim stands right =
    set_valid plant program judged depth bytes head setups claim stands (yes_tail plant program judged depth bytes setups right.tail claim right.follows right.right)
yes_setups plant program judged depth bytes head (setting.Bad defect) claim stands right = absurd cc

yes_with : (plant : Plant) (program : Program) (ranges root : List Domain) (depth : ℕ) (bytes : List ℕ) (front : Front) (claim : Claim) → IsFrontVerdict plant program ranges root depth bytes front (Yes claim)
    → IsValidWith plant program ranges root depth bytes front claim
yes_with plant program ranges root depth bytes Plain claim right = (exact (plain program) depth bytes (Yes claim) claim right).0 refl
yes_with plant program ranges root depth bytes (Headed head) claim right = yes_setups plant program (judged_over ranges root head.version) depth bytes head right.setups claim right.set_up right.right
yes_with plant program ranges root depth bytes (Bad defect) claim right = absurd cc

yes_valid : (plant : Plant) (program : Program) (ranges root : List Domain) (depth : ℕ) (bytes : List ℕ) (claim : Claim) → IsAnyVerdict plant program ranges root depth bytes (Yes claim) → IsValidAnyLog plant program ranges root depth bytes claim
yes_valid plant program ranges root depth bytes claim right = record { front = right.front; stands = right.stands; valid = yes_with plant program ranges root depth bytes right.front claim right.right }

-- ---- the answer on a valid log is yes

-- sums that are all shown have none that is not
all_shown : (program : Program) (ranges : List Domain) (sums : List Sum) (lines : List ℕ) (line : ℕ) → All (IsShown program ranges) sums → IsUnshown program ranges sums lines line → ⊥
all_shown program ranges sums lines line shown is =
    is.unshown (All-head (IsShown program ranges) is.sum is.later (All-second (IsShown program ranges) is.before (is.sum ∷ is.later) (subst (All (IsShown program ranges)) is.listed shown)))

-- of derivations that are all shown each is shown after those before it
shown-at : (growth : Growth) (before later : List Derivation) (derivation : Derivation) → AreShown growth (before ++ derivation ∷ later) → IsShownDerivation (after_all growth before) derivation
shown-at growth [] later derivation shown = shown.0
shown-at growth (d ∷ before) later derivation shown = shown-at (after growth d) before later derivation shown.1

-- so none of them is not shown
all_derived : (plant : Plant) (version : ℕ) (program : Program) (judged : List Domain) (sums : List Sum) (units : List ℕ) (tail : Tail) (line : ℕ) (rows : Rows) → IsWithHead plant version program judged sums units tail.derivations rows
    → IsUnderived plant program judged sums units tail line → ⊥
all_derived plant version program judged sums units tail line rows is un =
    let first = un.first in
    let domains = wide_domains plant program judged sums units in
    let between : AreOneShape is.between un.between = (sums_alike program is.between un.between judged sums is.with_sums un.with_sums).shape in
    let same = setups_shape plant units is.between un.between is.wide un.wide between is.with_setups un.with_setups in
    let shown = subst (λ (rs : List Row). AreShown (record { rows = rs; domains = domains }) tail.derivations) same.rows is.derivations_shown in
    first.unshown (shown-at (begun un.wide domains) first.before first.later first.derivation (subst (AreShown (begun un.wide domains)) first.listed shown))

no_head_defect : (plant : Plant) (program : Program) (judged : List Domain) (setups : Setups) (tail : Tail) (line kind : ℕ) (rows : Rows) → IsWithHead plant setups.head.version program judged setups.head.sums setups.units tail.derivations rows
    → HasHeadDefect plant program judged setups tail line kind → ⊥
no_head_defect plant program judged setups tail line kind rows is (inl sum) = all_shown program judged setups.head.sums setups.head.lines line is.sums_shown sum.1
no_head_defect plant program judged setups tail line kind rows is (inr row) = all_derived plant setups.head.version program judged setups.head.sums setups.units tail line rows is row.1

-- limits of a program's logs are small
pub small_of : (program : Program) (depth : ℕ) → AreSmall (limits_with program depth 0)
small_of program depth = record { slots = omega (arith, program.few_slots); rows = omega (arith, program.few_rows) }

-- so they are with the sums of a head that is kept
most_of : (version : ℕ) → IsHeadVersion version → (most_slots version ≤ 4096) × (most_rows version ≤ 400000)
most_of version (inl is) = subst (λ (v : ℕ). (most_slots v ≤ 4096) × (most_rows v ≤ 400000)) (sym is) (omega arith, omega arith)
most_of version (inr is) = subst (λ (v : ℕ). (most_slots v ≤ 4096) × (most_rows v ≤ 400000)) (sym is) (omega arith, omega arith)

pub small_sums : (program : Program) (depth version : ℕ) (sums : List Sum) → IsHeadVersion version → AreKept version (limits_with program depth 0) sums → AreSmall (limits_with program depth (length sums))
small_sums program depth version sums is kept = elim (cases_lt 0 (length sums)) [
  | inl some ↦
      (let most = most_of version is in
      record { slots = omega (arith, kept.slots some, most.0); rows = omega (arith, kept.rows some, most.1) })
  | inr none ↦ record { slots = omega (arith, none, program.few_slots); rows = omega (arith, none, program.few_rows) }
]

pub small_with : (program : Program) (depth : ℕ) (head : Head) → IsKeptHead (limits_with program depth 0) head → AreSmall (limits_with program depth (length head.sums))
small_with program depth head kept = small_sums program depth head.version head.sums kept.version kept.sums

-- and with the setups that are kept besides
pub small_set : (limits : Limits) (sizes : List SetupSize) (units : List ℕ) → AreSmall limits → AreSetupsKept limits sizes units → AreSmall (limits_set_up limits sizes units)
small_set limits sizes [] few kept = few
small_set limits sizes (unit ∷ units) few kept = room_small (limits_set_up limits sizes (unit ∷ units)) (kept.room (omega arith))
  where
    room_small : (l : Limits) → has_setup_room l ≡ true → AreSmall l
    room_small l room =
        let both = and_parts (nat_le l.slots 4096) (nat_le l.rows 400000) room in
        record { slots = leb-true l.slots 4096 both.0; rows = leb-true l.rows 400000 both.1 }

pub small_behind : (limits : Limits) (sizes : List SetupSize) (bytes : List ℕ) (head : Head) (setups : Setups) → AreSmall limits → AreSetups limits sizes head bytes (setting.Whole setups) → AreSmall setups.limits
small_behind limits sizes bytes head setups few (inl three) = subst AreSmall (sym (ap limits_in three.1)) few
  where
    limits_in : SetupFront → Limits
    limits_in (setting.Whole s) = s.limits
    limits_in (setting.Bad defect) = limits
small_behind limits sizes bytes head setups few (inr four) = subst AreSmall (sym (ap (λ (s : Setups). s.limits) four.1.kept.is)) (small_set limits sizes setups.units few four.1.kept.units)

-- what stands behind the sums of a head is one
pub setups_same : (limits : Limits) (sizes : List SetupSize) (head : Head) (bytes : List ℕ) (setups : Setups) (front : SetupFront) → AreSetups limits sizes head bytes (setting.Whole setups) → AreSetups limits sizes head bytes front → front ≡ setting.Whole setups
setups_same limits sizes head bytes setups front (inl one) (inl other) = other.1 ∙ sym one.1
setups_same limits sizes head bytes setups front (inl one) (inr other) = absurd (omega (arith, one.0, other.0))
setups_same limits sizes head bytes setups front (inr one) (inl other) = absurd (omega (arith, one.0, other.0))
setups_same limits sizes head bytes setups front (inr one) (inr other) = fronts_same limits sizes head bytes front (setting.Whole setups) other.1 one.1

-- so is what stands behind its setups
same_in_four : (limits : Limits) (head : Head) (bytes : List ℕ) (tail : Tail) (front : TailFront) → AreSmall limits → IsTailFront limits head bytes (Whole tail) → IsTailFront limits head bytes front → front ≡ Whole tail
same_in_four limits head bytes tail (Whole other) few one second = ap Whole (tails_same limits few head bytes other tail second one)
same_in_four limits head bytes tail (tailed.Bad defect) few one second = absurd (tail_sound limits few head bytes tail defect one second)

pub tail_same : (limits : Limits) (head : Head) (bytes : List ℕ) (tail : Tail) (front : TailFront) → AreSmall limits → IsTail limits head bytes (Whole tail) → IsTail limits head bytes front → front ≡ Whole tail
tail_same limits head bytes tail front few (inl one) (inl other) = other.1 ∙ sym one.1
tail_same limits head bytes tail front few (inl one) (inr other) = absurd (omega (arith, one.0, other.0))
tail_same limits head bytes tail front few (inr one) (inl other) = absurd (omega (arith, one.0, other.0))
tail_same limits head bytes tail front few (inr one) (inr other) = same_in_four limits head bytes tail front few one.1 other.1

valid_tail : (plant : Plant) (program : Program) (judged : List Domain) (depth : ℕ) (bytes : List ℕ) (setups : Setups) (claim : Claim) (verdict : LogVerdict) → (valid : IsValidSetUp plant program judged depth bytes setups claim)
    → IsTailVerdict plant program judged depth bytes setups (Whole valid.tail) verdict → verdict ≡ Yes claim
valid_tail plant program judged depth bytes setups claim verdict valid (inl unshown) =
    absurd (no_head_defect plant program judged setups valid.tail unshown.line unshown.kind valid.rows valid.enlarged unshown.has)
valid_tail plant program judged depth bytes setups claim verdict valid (inr is) =
    let rest = behind setups.head.version valid.tail.bytes bytes in
    let same = alike plant setups.head.version program judged setups.head.sums setups.units valid.tail.derivations valid.rows is.rows valid.enlarged is.enlarged in
    let own : is.own ≡ Yes valid.own = (exact is.rows depth rest is.own valid.own is.right).1 (valid_alike valid.rows is.rows depth rest valid.own same valid.valid) in
    is.is ∙ ap (given_verdict (length program.root) valid.tail.count) own ∙ ap Yes (sym valid.is)

valid_set_up : (plant : Plant) (program : Program) (judged : List Domain) (depth : ℕ) (bytes : List ℕ) (setups : Setups) (claim : Claim) (verdict : LogVerdict) → AreSmall setups.limits
    → IsValidSetUp plant program judged depth bytes setups claim → IsSetUpVerdict plant program judged depth bytes setups verdict → verdict ≡ Yes claim
valid_set_up plant program judged depth bytes setups claim verdict few valid right =
    let same = tail_same setups.limits setups.head bytes valid.tail right.tail few valid.follows right.follows in
    valid_tail plant program judged depth bytes setups claim verdict valid (subst (λ (t : TailFront). IsTailVerdict plant program judged depth bytes setups t verdict) same right.right)

valid_behind : (plant : Plant) (program : Program) (judged : List Domain) (depth : ℕ) (bytes : List ℕ) (head : Head) (claim : Claim) (verdict : LogVerdict) → IsKeptHead (limits_with program depth 0) head
    → IsValidBehind plant program judged depth bytes head claim → IsHeadVerdict plant program judged depth bytes head verdict → verdict ≡ Yes claim
valid_behind plant program judged depth bytes head claim verdict kept valid right =
    let limits = limits_with program depth (length head.sums) in
    let sizes = setup_sizes plant in
    let same = setups_same limits sizes head bytes valid.setups right.setups valid.set_up right.set_up in
    let few = small_behind limits sizes bytes head valid.setups (small_with program depth head kept) valid.set_up in
    valid_set_up plant program judged depth bytes valid.setups claim verdict few (valid_set plant program judged depth bytes head claim valid)
    (subst (λ (s : SetupFront). IsSetupsVerdict plant program judged depth bytes s verdict) same right.right)

valid_with : (plant : Plant) (program : Program) (ranges root : List Domain) (depth : ℕ) (bytes : List ℕ) (f g : Front) (claim : Claim) (verdict : LogVerdict) → IsFront (limits_with program depth 0) bytes f → IsFront (limits_with program depth 0) bytes g
    → IsValidWith plant program ranges root depth bytes f claim → IsFrontVerdict plant program ranges root depth bytes g verdict → verdict ≡ Yes claim
valid_with plant program ranges root depth bytes Plain Plain claim verdict stands stands2 valid right = (exact (plain program) depth bytes verdict claim right).1 valid
valid_with plant program ranges root depth bytes Plain (Headed head) claim verdict stands stands2 valid right = absurd (head_first (limits_with program depth 0) bytes head stands2 stands)
valid_with plant program ranges root depth bytes Plain (Bad defect) claim verdict stands stands2 valid right = absurd (bad_first (limits_with program depth 0) bytes defect stands2 stands)
valid_with plant program ranges root depth bytes (Headed head) Plain claim verdict stands stands2 valid right = absurd (head_first (limits_with program depth 0) bytes head stands stands2)
valid_with plant program ranges root depth bytes (Headed head) (Headed other) claim verdict stands stands2 valid right =
    let same = heads_same (limits_with program depth 0) bytes other head (small_of program depth) stands2 stands in
    valid_behind plant program (judged_over ranges root head.version) depth bytes head claim verdict stands.kept valid
    (subst (λ (h : Head). IsHeadVerdict plant program (judged_over ranges root h.version) depth bytes h verdict) same right)
valid_with plant program ranges root depth bytes (Headed head) (Bad defect) claim verdict stands stands2 valid right =
    absurd (head_sound (limits_with program depth 0) bytes head defect (small_of program depth) stands stands2)
valid_with plant program ranges root depth bytes (Bad defect) g claim verdict stands stands2 valid right = absurd valid

-- the law for logs of any version
pub any_exact : (plant : Plant) (program : Program) (ranges root : List Domain) (depth : ℕ) (bytes : List ℕ) (verdict : LogVerdict) (claim : Claim) → IsAnyVerdict plant program ranges root depth bytes verdict
    → (verdict ≡ Yes claim) ↔ IsValidAnyLog plant program ranges root depth bytes claim
any_exact plant program ranges root depth bytes verdict claim right = (
  λ is. yes_valid plant program ranges root depth bytes claim (subst (IsAnyVerdict plant program ranges root depth bytes) is right),
  λ valid. valid_with plant program ranges root depth bytes valid.front right.front claim verdict valid.stands right.stands valid.valid right.right,
)

-- a yes stays where more splits may be open
pub yes-stays : (plant : Plant) (program : Program) (ranges root : List Domain) (depth more : ℕ) (bytes : List ℕ) (claim : Claim) (verdict : LogVerdict) → depth ≤ more → IsAnyVerdict plant program ranges root depth bytes (Yes claim)
    → IsAnyVerdict plant program ranges root more bytes verdict → verdict ≡ Yes claim
yes-stays plant program ranges root depth more bytes claim verdict less said right =
    (any_exact plant program ranges root more bytes verdict claim right).1 (yes_valid plant program ranges root more bytes claim (any-deeper plant program ranges root depth more bytes claim less said))
