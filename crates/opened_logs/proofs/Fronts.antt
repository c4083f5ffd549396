-- What was read at the front of a log.
use Rattle.std.proofs.Common.{◌≡◌, ◌≢◌, ℕ, ◌+◌, ◌-◌, ◌<◌, ◌^◌, List, [], ◌++◌, length, length-append, Option, None, Some, IfSome, refl, sym, ap, ap₂, ◌∙◌, subst, inl, inr, arith}
use Rattle.std.specs.List.{range_with_len}
use Rattle.stn_edge.specs.Files.{FileMap, file_of}
use Rattle.stn_model.specs.declared.plant.Plant.{Plant}
use Rattle.row_kit.specs.declared.program.Program.{Program}
use Rattle.row_relax.specs.Choices.{plain}
use Rattle.log_lines.specs.declared.defect.Defect.{Defect}
use Rattle.log_lines.specs.declared.grammar.Limits.{Limits}
use Rattle.derivations.specs.Growth.{rows_of}
use Rattle.sum_lines.specs.declared.head.Front.{Front}
use Rattle.sum_lines.specs.declared.head.Front.TheVariants.{Bad, Headed, Plain}
use Rattle.sum_lines.specs.declared.head.Head.{Head}
use Rattle.sum_lines.specs.Front.{IsFront}
use Rattle.sum_lines.specs.Head.{AreKept, IsHeadVersion, IsKeptHead, head_text, lines_of}
use Rattle.setup_lines.specs.declared.setups.SetupFront.{SetupFront}
use Rattle.setup_lines.specs.declared.setups.SetupFront.TheVariants as setting
use Rattle.setup_lines.specs.declared.setups.SetupSize.{SetupSize}
use Rattle.setup_lines.specs.declared.setups.Setups.{Setups}
use Rattle.setup_lines.specs.Line.{setups_text}
use Rattle.setup_lines.specs.Setups.{setups_of}
use Rattle.derivation_lines.specs.declared.tail.Tail.{Tail}
use Rattle.derivation_lines.specs.Tail.{AreDerivationsKept, begins_on as derivations_begin_on, tail_text}
use Rattle.valid_log.specs.Verdict.{limits_of}
use Rattle.valid_log.specs.Heads.{AreSetups, limits_with, setup_sizes}
use Rattle.valid_log.proofs.LogFronts.{limits_same}
use Rattle.plant_check.specs.Heads.{IsHeadHeld, IsSetupsHeld, IsTailHeld}
use Rattle.log_parts.specs.declared.heads.Declared.{Declared}
use Rattle.log_parts.specs.declared.heads.LogFront.{LogFront}
use Rattle.log_parts.specs.declared.heads.LogFront.TheVariants as head
use Rattle.log_parts.specs.declared.heads.LogHead.{LogHead}
use Rattle.log_parts.specs.Heads.{front_text, lines_on}
use Rattle.log_parts.specs.laws.Checked.{IsCounted, IsFrontKept, IsHeadFront, IsLogFront, IsSetUpFront, head_with, no_head, unit_lines}
use Rattle.log_parts.proofs.HeadTexts.{front_long}

-- no head or a bad one that was read, where the files are told
pub none_read : (plant : Plant) (program : Program) (depth : ℕ) (files : Option FileMap) (name : List ℕ) (f : Front) (said : LogHead) → said ≡ no_head (limits_of (plain program) depth) → f ≡ Plain
    → IfSome files (λ m. IsFront (limits_with program depth 0) (file_of m name) f) → IfSome files (λ m. IsLogFront plant (limits_of (plain program) depth) (file_of m name) (head.Whole said))
none_read plant program depth None name f said none is stands = tt
none_read plant program depth (Some m) name f said none is stands =
    let own = subst (IsFront (limits_with program depth 0) (file_of m name)) is stands in
    record { front = Plain; stands = subst (λ (l : Limits). IsFront l (file_of m name) Plain) (sym (limits_same program depth)) own; has = ap head.Whole none }

pub bad_read : (plant : Plant) (program : Program) (depth : ℕ) (files : Option FileMap) (name : List ℕ) (f : Front) (defect : Defect) → f ≡ Bad defect → IfSome files (λ m. IsFront (limits_with program depth 0) (file_of m name) f)
    → IfSome files (λ m. IsLogFront plant (limits_of (plain program) depth) (file_of m name) (head.Bad defect))
bad_read plant program depth None name f defect is stands = tt
bad_read plant program depth (Some m) name f defect is stands =
    let own = subst (IsFront (limits_with program depth 0) (file_of m name)) is stands in
    record { front = Bad defect; stands = subst (λ (l : Limits). IsFront l (file_of m name) (Bad defect)) (sym (limits_same program depth)) own; has = refl }

-- a head that was read, and what stands behind its sums
pub headed_read : (plant : Plant) (program : Program) (depth : ℕ) (files now : Option FileMap) (name : List ℕ) (f : Front) (own : Head) (said : LogFront) → now ≡ files → f ≡ Headed own
    → IfSome files (λ m. IsFront (limits_with program depth 0) (file_of m name) f) → IfSome now (λ m. IsHeadFront plant (limits_of (plain program) depth) (file_of m name) own said)
    → IfSome files (λ m. IsLogFront plant (limits_of (plain program) depth) (file_of m name) said)
headed_read plant program depth None now name f own said same is stands has = tt
headed_read plant program depth (Some m) now name f own said same is stands has =
    let first = subst (IsFront (limits_with program depth 0) (file_of m name)) is stands in
    record {
      front = Headed own;
      stands = subst (λ (l : Limits). IsFront l (file_of m name) (Headed own)) (sym (limits_same program depth)) first;
      has = subst (λ (files : Option FileMap). IfSome files (λ m. IsHeadFront plant (limits_of (plain program) depth) (file_of m name) own said)) same has;
    }

-- setups that were read behind the sums of a head, and what stands behind them
pub setups_read : (plant : Plant) (program : Program) (depth : ℕ) (files now : Option FileMap) (name : List ℕ) (own : Head) (set : SetupFront) (setups : Setups) (said : LogFront) → now ≡ files → set ≡ setting.Whole setups
    → IfSome files (λ m. AreSetups (limits_with program depth (length own.sums)) (setup_sizes plant) own (file_of m name) set) → IfSome now (λ m. IsSetUpFront (file_of m name) setups said)
    → IfSome files (λ m. IsHeadFront plant (limits_of (plain program) depth) (file_of m name) own said)
setups_read plant program depth None now name own set setups said same is stands has = tt
setups_read plant program depth (Some m) now name own set setups said same is stands has = record {
  setups = setting.Whole setups;
  set_up = subst (AreSetups (limits_with program depth (length own.sums)) (setup_sizes plant) own (file_of m name)) is stands;
  has = subst (λ (files : Option FileMap). IfSome files (λ m. IsSetUpFront (file_of m name) setups said)) same has;
}

-- or a defect of one
pub bad_setups : (plant : Plant) (program : Program) (depth : ℕ) (files : Option FileMap) (name : List ℕ) (own : Head) (set : SetupFront) (defect : Defect) → set ≡ setting.Bad defect
    → IfSome files (λ m. AreSetups (limits_with program depth (length own.sums)) (setup_sizes plant) own (file_of m name) set) → IfSome files (λ m. IsHeadFront plant (limits_of (plain program) depth) (file_of m name) own (head.Bad defect))
bad_setups plant program depth None name own set defect is stands = tt
bad_setups plant program depth (Some m) name own set defect is stands =
    record { setups = setting.Bad defect; set_up = subst (AreSetups (limits_with program depth (length own.sums)) (setup_sizes plant) own (file_of m name)) is stands; has = refl }

-- the setups behind a head that is kept are counted in it
pub setups_counted : (kept_by limits : Limits) (sizes : List SetupSize) (own : Head) (setups : Setups) → IsKeptHead kept_by own → IsSetupsHeld limits sizes own setups → IsCounted setups
setups_counted kept_by limits sizes own setups kept held =
    let units = setups.units in
    let count : own.count ≡ 1 + length (lines_of own.sums) = ap (λ (h : Head). h.count) kept.is in
    let bytes : own.bytes ≡ length (head_text own.version own.sums) = ap (λ (h : Head). h.bytes) kept.is in
    let all : IsCounted (setups_of limits sizes own units) = record {
      count = omega (arith, count);
      lines = ap (λ (h : Head). h.lines) kept.is;
      bytes = ap (λ (n : ℕ). n + length (setups_text units)) bytes ∙ sym (length-append (head_text own.version own.sums) (setups_text units));
    } in
    subst IsCounted (sym held.kept.is) all

-- what a head declares with the derivations behind its setups
abbrev declared_by : Setups → Tail → Declared
declared_by setups tail = record { sums = setups.head.sums; units = setups.units; derivations = tail.derivations }

-- a head that is kept, with the derivations behind its setups, can be declared
pub head_declared : (plant : Plant) (program : Program) (depth : ℕ) (setups : Setups) (tail : Tail) → IsHeadHeld plant program depth setups → IsCounted setups → IsTailHeld setups.limits setups.head tail
    → IsFrontKept plant (limits_of (plain program) depth) (head.Whole (head_with setups tail))
head_declared plant program depth setups tail held counted tailed = record {
  may = record {
    known = inr held.version;
    plain = λ two. absurd (not_two held.version two);
    few_units = no_units held.version;
    few = older held.version;
    sums = subst (λ (l : Limits). AreKept setups.head.version l setups.head.sums) (sym (limits_same program depth)) held.sums;
    units = held.units;
    derivations = subst (λ (l : Limits). AreDerivationsKept l tail.derivations) held.limits tailed.kept.derivations;
    few_bytes = subst (λ (n : ℕ). n < 2 ^ 64) (sym long) tailed.kept.bytes_most;
  };
  lines = lines;
  limits_are = ap (λ (l : Limits). record l { rows = l.rows + rows_of tail.derivations }) held.limits;
}
  where
    not_two : IsHeadVersion setups.head.version → setups.head.version ≡ 2 → ⊥
    not_two (inl three) two = omega (arith, three, two)
    not_two (inr four) two = omega (arith, four, two)

    no_units : IsHeadVersion setups.head.version → setups.head.version ≢ 4 → setups.units ≡ []
    no_units (inl three) other = held.none three
    no_units (inr four) other = absurd (other four)

    older : IsHeadVersion setups.head.version → setups.head.version ≢ 4 → tail.derivations ≡ []
    older (inl three) other = tailed.none three
    older (inr four) other = absurd (other four)

    all : tail.bytes ≡ setups.head.bytes + length (tail_text tail.derivations)
    all = ap (λ (t : Tail). t.bytes) tailed.kept.is

    long : length (front_text setups.head.version (declared_by setups tail)) ≡ tail.bytes
    long =
        let bytes = counted.bytes in
        let parts = length-append (head_text setups.head.version setups.head.sums) (setups_text setups.units) in
        omega (arith, front_long setups.head.version (declared_by setups tail) held.version, bytes, parts, all)

    units_on : unit_lines setups ≡ range_with_len (2 + length (lines_of setups.head.sums)) (length setups.units)
    units_on =
        let count = counted.count in
        let first : 1 + (setups.head.count - length setups.units) ≡ 2 + length (lines_of setups.head.sums) = omega (arith, count) in
        ap (λ (n : ℕ). range_with_len n (length setups.units)) first

    tail_on : tail.lines ≡ derivations_begin_on (2 + length (lines_of setups.head.sums) + length setups.units) tail.derivations
    tail_on =
        let count = counted.count in
        let first : 1 + setups.head.count ≡ 2 + length (lines_of setups.head.sums) + length setups.units = omega (arith, count) in
        ap (λ (t : Tail). t.lines) tailed.kept.is ∙ ap (λ (n : ℕ). derivations_begin_on n tail.derivations) first

    lines : setups.head.lines ++ (unit_lines setups ++ tail.lines) ≡ lines_on (declared_by setups tail)
    lines = ap₂ (λ (one : List ℕ) (other : List ℕ). one ++ other) counted.lines (ap₂ (λ (one : List ℕ) (other : List ℕ). one ++ other) units_on tail_on)
