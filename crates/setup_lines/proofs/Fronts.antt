-- Setups behind a head, as they are read.
use Rattle.std.proofs.Common.{◌≡◌, ℕ, ◌+◌, ◌-◌, ◌<◌, ◌^◌, List, [], ◌∷◌, ◌++◌, length, drop, Option, Some, None, IfSome, subst, sym, ap, ◌∙◌, refl, arith}
use Rattle.std.proofs.Math.Seq.{drop-append_seam}
use Rattle.std.proofs.lemmas.List.{drop-drop}
use Rattle.log_lines.specs.declared.grammar.Limits.{Limits}
use Rattle.log_lines.specs.declared.defect.Defect.{Defect}
use Rattle.stn_edge.specs.Files.{FileMap, file_of}
use Rattle.sum_lines.specs.declared.head.Head.{Head}
use Rattle.sum_lines.specs.declared.walk.Walk.{Walk}
use Rattle.sum_lines.specs.Front.{BeginsWith}
use Rattle.sum_lines.specs.Line.{IsShort}
use Rattle.sum_lines.proofs.Feeds.{begins_line}
use Rattle.setup_lines.specs.declared.beginning.Begun.TheVariants as begun
use Rattle.setup_lines.specs.declared.setups.SetupSize.{SetupSize}
use Rattle.setup_lines.specs.declared.setups.Setups.{Setups}
use Rattle.setup_lines.specs.Front.{IsBadAt, IsBadSetup, IsSetUp, NoneFirst, setup_defect}
use Rattle.setup_lines.specs.Line.{setup_line, setups_text}
use Rattle.setup_lines.specs.Setups.{AreSetupsKept, IsSetupsKept, MaySetUp, head_set_up, last_unit, limits_set_up, setups_of}
use Rattle.setup_lines.specs.laws.Walk.{HasPassed, HasSeen, IsBegun, rest_after}
use Rattle.setup_lines.proofs.Kept.{AreKeptAfter, all_kept}
use Rattle.setup_lines.proofs.Lines.{line_fits, line_unique}
use Rattle.setup_lines.proofs.Seen.{line_first}

-- ---- one line

-- the line of one unit stands first
pub first_same : (a b : ℕ) (bytes after : List ℕ) → IsShort a → IsShort b → bytes ≡ setup_line b ++ 10 ∷ after → BeginsWith (setup_line a) bytes → a ≡ b
first_same a b bytes after short short2 next first =
    line_unique a b short short2 (begins_line (setup_line a) (setup_line b) bytes after (line_fits a short).0 (line_fits b short2).0 next first)

-- where what is seen begins nothing, no line does
pub none_begins : (files : Option FileMap) (name : List ℕ) (start number : ℕ) (units : List ℕ) (walk : Walk) (shown : Option ℕ) (limits : Limits) (sizes : List SetupSize) (above : Option ℕ) → HasSeen files name start number units walk shown → IsBegun limits sizes above shown begun.Nothing
    → IfSome files (λ m. NoneFirst (MaySetUp above) (rest_after start units (file_of m name)))
none_begins None name start number units walk shown limits sizes above has none = tt
none_begins (Some m) name start number units walk (Some unit) limits sizes above has none = λ other may first.
    let file = file_of m name in
    let same = first_same other unit (rest_after start units file) (rest_after start (units ++ unit ∷ []) file) may.0 has.0 (line_first m name start number units unit walk has.1) first in
    none unit refl (subst (MaySetUp above) same may)
none_begins (Some m) name start number units walk None limits sizes above has none = λ other may first. has other may.0 first

-- the defect of a setup
pub setup_bad : (files : Option FileMap) (name : List ℕ) (start number : ℕ) (units : List ℕ) (walk walk2 : Walk) (unit : ℕ) (limits : Limits) (sizes : List SetupSize) (above : Option ℕ) (kind : ℕ) → HasPassed files name start number units walk → HasSeen files name start number units walk2 (Some unit)
    → MaySetUp above unit → setup_defect limits sizes unit ≡ Some kind → IfSome files (λ m. IsBadAt limits sizes above number units (drop start (file_of m name)) (record { line = walk.line; kind = kind }))
setup_bad None name start number units walk walk2 unit limits sizes above kind passed has may is = tt
setup_bad (Some m) name start number units walk walk2 unit limits sizes above kind passed has may is =
    let file = file_of m name in
    record {
      rest = rest_after start units file;
      is = passed.after.told.0;
      line = passed.line;
      bad = record { unit = unit; may = may; first = record { after = rest_after start (units ++ unit ∷ []) file; is = line_first m name start number units unit walk2 has.1 }; defect = is };
    }

-- ---- whole setups

-- the setups with these limits that a walk has passed
abbrev pub passed_setups : Limits → Head → List ℕ → Walk → Setups
passed_setups limits head units walk = record { units = units; head = record head { count = walk.line - 1; bytes = walk.bytes }; limits = limits }

setups_same : (files : Option FileMap) (name : List ℕ) (limits running : Limits) (sizes : List SetupSize) (head : Head) (units : List ℕ) (walk : Walk) → running ≡ limits_set_up limits sizes units → HasPassed files name head.bytes (1 + head.count) units walk
    → setups_of limits sizes head units ≡ passed_setups running head units walk
setups_same files name limits running sizes head units walk is passed =
    let count : head.count + length units ≡ walk.line - 1 = omega (arith, passed.line) in
    let bytes : head.bytes + length (setups_text units) ≡ walk.bytes = sym passed.after.bytes in
    let made : ℕ → ℕ → Limits → Setups = λ c b l. record { units = units; head = record head { count = c; bytes = b }; limits = l } in
    ap (λ c. made c (head.bytes + length (setups_text units)) (limits_set_up limits sizes units)) count ∙ ap (λ b. made (walk.line - 1) b (limits_set_up limits sizes units)) bytes
    ∙ ap (λ l. made (walk.line - 1) walk.bytes l) (sym is)

pub setups_kept : (files : Option FileMap) (name : List ℕ) (limits running : Limits) (sizes : List SetupSize) (head : Head) (units : List ℕ) (walk : Walk) → AreKeptAfter limits sizes None units → running ≡ limits_set_up limits sizes units → HasPassed files name head.bytes (1 + head.count) units walk → walk.bytes < 2 ^ 64
    → IsSetupsKept limits sizes head (passed_setups running head units walk)
setups_kept files name limits running sizes head units walk kept is passed small =
    record { is = sym (setups_same files name limits running sizes head units walk is passed); units = all_kept limits sizes units kept; bytes_most = small }

-- the same of the file
pub setups_told : (files : Option FileMap) (name : List ℕ) (limits running : Limits) (sizes : List SetupSize) (head : Head) (units : List ℕ) (walk : Walk) → IsSetupsKept limits sizes head (passed_setups running head units walk)
    → HasPassed files name head.bytes (1 + head.count) units walk → IfSome files (λ m. NoneFirst (MaySetUp (last_unit None units)) (rest_after head.bytes units (file_of m name)))
    → IfSome files (λ m. IsSetUp limits sizes head (file_of m name) (passed_setups running head units walk))
setups_told None name limits running sizes head units walk kept passed none = tt
setups_told (Some m) name limits running sizes head units walk kept passed none =
    let file = file_of m name in
    record {
      kept = kept;
      is = passed.after.told.0 ∙ ap (λ n. setups_text units ++ drop n file) (sym passed.after.bytes);
      ends = subst (λ n. NoneFirst (MaySetUp (last_unit None units)) (drop n file)) (sym passed.after.bytes) none;
    }

-- a defect after whole setups
pub bad_setup : (files : Option FileMap) (name : List ℕ) (limits running : Limits) (sizes : List SetupSize) (above : Option ℕ) (head : Head) (units : List ℕ) (defect : Defect) → AreKeptAfter limits sizes None units → running ≡ limits_set_up limits sizes units → above ≡ last_unit None units
    → IfSome files (λ m. IsBadAt running sizes above (1 + head.count) units (drop head.bytes (file_of m name)) defect) → IfSome files (λ m. IsBadSetup limits sizes head (file_of m name) defect)
bad_setup None name limits running sizes above head units defect kept is last bad = tt
bad_setup (Some m) name limits running sizes above head units defect kept is last bad =
    let rest = drop head.bytes (file_of m name) in
    record {
      units = units;
      kept = all_kept limits sizes units kept;
      bad = subst (λ a. IsBadAt (limits_set_up limits sizes units) sizes a (1 + head.count) units rest defect) last (subst (λ l. IsBadAt l sizes above (1 + head.count) units rest defect) is bad);
    }

-- ---- the law

pub setups_read : (limits : Limits) (sizes : List SetupSize) (head : Head) (front rest units : List ℕ) → length front ≡ head.bytes → AreSetupsKept limits sizes units → NoneFirst (MaySetUp (last_unit None units)) rest → head.bytes + length (setups_text units) < 2 ^ 64
    → IsSetUp limits sizes head (front ++ (setups_text units ++ rest)) (setups_of limits sizes head units)
setups_read limits sizes head front rest units long kept none small =
    let text = setups_text units in
    let bytes = front ++ (text ++ rest) in
    let behind : drop head.bytes bytes ≡ text ++ rest = ap (λ n. drop n bytes) (sym long) ∙ drop-append_seam front (text ++ rest) in
    let after : drop (head.bytes + length text) bytes ≡ rest = sym (drop-drop (length text) head.bytes bytes) ∙ ap (drop (length text)) behind ∙ drop-append_seam text rest in
    record {
      kept = record { is = refl; units = kept; bytes_most = small };
      is = behind ∙ ap (λ w. text ++ w) (sym after);
      ends = subst (NoneFirst (MaySetUp (last_unit None units))) (sym after) none;
    }
