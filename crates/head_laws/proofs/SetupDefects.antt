-- The first defect of setups is what the function of their lines finds.
use Rattle.std.proofs.Common.{◌≡◌, ℕ, ◌+◌, ◌<◌, ◌^◌, Bool, true, false, cond, ltb, ◌&&◌, List, [], ◌∷◌, ◌++◌, length, drop, Option, Some, None, refl, sym, ap, ◌∙◌, subst, arith, bytes_eq, append_assoc}
use Rattle.std.specs.Option.{option_map_or}
use Rattle.std.specs.Str.Parse.{digits_value}
use Rattle.std.proofs.lemmas.Bool.{and_from, and_parts, lt-ltb, ltb-true}
use Rattle.std.proofs.lemmas.Fmt.{decimal_is_IsNumeral_wide}
use Rattle.std.proofs.lemmas.Slice.Eq.{bytes_eq-Decides}
use Rattle.log_lines.specs.declared.defect.Defect.{Defect}
use Rattle.log_lines.specs.declared.grammar.Limits.{Limits}
use Rattle.log_lines.specs.Grammar.{follows}
use Rattle.sum_lines.specs.declared.head.Head.{Head}
use Rattle.sum_lines.specs.Line.{IsShort}
use Rattle.setup_lines.specs.declared.setups.SetupSize.{SetupSize}
use Rattle.setup_lines.specs.Front.{IsBadNext, IsBadSetup, setup_defect}
use Rattle.setup_lines.specs.Line.{setup_line, setups_text}
use Rattle.setup_lines.specs.Setups.{MaySetUp, last_unit, limits_set_up, size_of, with_setup}
use Rattle.setup_lines.proofs.Kept.{AreKeptAfter, MayFirst, all_kept, kept_each}
use Rattle.setup_lines.proofs.Lines.{line_fits, text-cons, text-nil}
use Rattle.head_laws.proofs.Parts.{ahead, pairs_same, parts_of, some_part, whole_parts}
use Rattle.head_laws.specs.SetupDefects.{SetupDefectsAre, declares, setups_defect, unit_said}

-- ---- one line

-- what the number of a line's text is
number_is : (unit : ℕ) → IsShort unit → digits_value 10 (drop 6 (setup_line unit)) ≡ unit
unfolding setup_line
number_is unit short = (decimal_is_IsNumeral_wide unit (omega (arith, short))).1

-- the text of a setup that may be declared says its unit
said : (above : Option ℕ) (unit later : ℕ) → MaySetUp above unit → 0 < later → unit_said above (setup_line unit) later ≡ Some unit
unfolding unit_said
said above unit later may some =
    let short = lt-ltb unit (10 ^ 30) may.0 in
    let same = (bytes_eq-Decides (setup_line unit) (setup_line unit)).1 refl in
    let passes : declares above (setup_line unit) later unit ≡ true =
    and_from (ltb 0 later && ltb unit (10 ^ 30) && bytes_eq (setup_line unit) (setup_line unit)) (follows above unit)
    (and_from (ltb 0 later && ltb unit (10 ^ 30)) (bytes_eq (setup_line unit) (setup_line unit))
    (and_from (ltb 0 later) (ltb unit (10 ^ 30)) (lt-ltb 0 later some) short) same) may.1 in
    ap (λ (u : ℕ). cond (declares above (setup_line unit) later u) (Some u) None) (number_is unit may.0) ∙ ap (λ (b : Bool). cond b (Some unit) None) passes

-- what a line says
record Says (above : Option ℕ) (part : List ℕ) (later unit : ℕ) : Type 0 where
  some : 0 < later
  may : MaySetUp above unit
  is : setup_line unit ≡ part

test_tells : (above : Option ℕ) (part : List ℕ) (later unit : ℕ) → declares above part later unit ≡ true → Says above part later unit
test_tells above part later unit passes =
    let one = and_parts (ltb 0 later && ltb unit (10 ^ 30) && bytes_eq (setup_line unit) part) (follows above unit) passes in
    let two = and_parts (ltb 0 later && ltb unit (10 ^ 30)) (bytes_eq (setup_line unit) part) one.0 in
    let three = and_parts (ltb 0 later) (ltb unit (10 ^ 30)) two.0 in
    record { some = ltb-true 0 later three.0; may = (ltb-true unit (10 ^ 30) three.1, one.1); is = (bytes_eq-Decides (setup_line unit) part).0 two.1 }

says : (above : Option ℕ) (part : List ℕ) (later unit : ℕ) → unit_said above part later ≡ Some unit → Says above part later unit
unfolding unit_said
says above part later unit is = at (declares above part later number) refl is
  where
    number : ℕ
    number = digits_value 10 (drop 6 part)

    at : (b : Bool) → declares above part later number ≡ b → cond b (Some number) None ≡ Some unit → Says above part later unit
    at true passes e = let same : number ≡ unit = cc in subst (λ (n : ℕ). Says above part later n) same (test_tells above part later number passes)
    at false fails e = absurd cc

-- ---- from the relation to the function

-- the next line is that of a setup
step : (limits : Limits) (sizes : List SetupSize) (above : Option ℕ) (number unit : ℕ) (bytes after : List ℕ) → MaySetUp above unit → bytes ≡ setup_line unit ++ 10 ∷ after
    → setups_defect limits sizes above number (parts_of bytes)
    ≡ option_map_or (λ kind. Some (number, kind)) (setup_defect limits sizes unit) (setups_defect (with_setup limits (size_of sizes unit)) sizes (Some unit) (number + 1) (parts_of after))
unfolding setups_defect
step limits sizes above number unit bytes after may is =
    ap (setups_defect limits sizes above number) (whole_parts bytes (setup_line unit) after (line_fits unit may.0).0 is)
    ∙ ap (λ (o : Option ℕ). option_map_or (λ (u : ℕ). option_map_or (λ (kind : ℕ). Some (number, kind)) (setup_defect limits sizes u) (setups_defect (with_setup limits (size_of sizes u)) sizes (Some u) (number + 1) (parts_of after))) o None)
    (said above unit (length (parts_of after)) may (some_part after))

-- units that keep the limits, and behind them one with a defect
walked : (units : List ℕ) (limits : Limits) (sizes : List SetupSize) (above : Option ℕ) (number kind : ℕ) (rest : List ℕ) → AreKeptAfter limits sizes above units
    → IsBadNext (limits_set_up limits sizes units) sizes (last_unit above units) rest kind
    → setups_defect limits sizes above number (parts_of (setups_text units ++ rest)) ≡ Some (number + length units, kind)
walked [] limits sizes above number kind rest kept bad =
    let later = setups_defect (with_setup limits (size_of sizes bad.unit)) sizes (Some bad.unit) (number + 1) (parts_of bad.first.after) in
    let same : number ≡ number + 0 = omega arith in
    ap (λ (t : List ℕ). setups_defect limits sizes above number (parts_of (t ++ rest))) text-nil
    ∙ step limits sizes above number bad.unit rest bad.first.after bad.may bad.first.is
    ∙ ap (λ (o : Option ℕ). option_map_or (λ (k : ℕ). Some (number, k)) o later) bad.defect
    ∙ ap (λ (n : ℕ). Some (n, kind)) same
walked (unit ∷ units) limits sizes above number kind rest kept bad =
    let more = setups_text units ++ rest in
    let later = setups_defect (with_setup limits (size_of sizes unit)) sizes (Some unit) (number + 1) (parts_of more) in
    let text : setups_text (unit ∷ units) ++ rest ≡ setup_line unit ++ 10 ∷ more = ap (λ (t : List ℕ). t ++ rest) (text-cons unit units) ∙ append_assoc (setup_line unit) (10 ∷ setups_text units) rest in
    let same : number + 1 + length units ≡ number + length (unit ∷ units) = omega arith in
    step limits sizes above number unit (setups_text (unit ∷ units) ++ rest) more kept.0.0 text
    ∙ ap (λ (o : Option ℕ). option_map_or (λ (k : ℕ). Some (number, k)) o later) kept.0.1
    ∙ walked units (with_setup limits (size_of sizes unit)) sizes (Some unit) (number + 1) kind rest kept.1 bad
    ∙ ap (λ (n : ℕ). Some (n, kind)) same

-- any units may come first
may_first : (units : List ℕ) → MayFirst None units
may_first [] = tt
may_first (a ∷ units) = refl

to_function : (limits : Limits) (sizes : List SetupSize) (head : Head) (bytes : List ℕ) (defect : Defect) → IsBadSetup limits sizes head bytes defect
    → setups_defect limits sizes None (1 + head.count) (parts_of (drop head.bytes bytes)) ≡ Some (defect.line, defect.kind)
to_function limits sizes head bytes defect bad =
    ap (λ (t : List ℕ). setups_defect limits sizes None (1 + head.count) (parts_of t)) bad.bad.is
    ∙ walked bad.units limits sizes None (1 + head.count) defect.kind bad.bad.rest (kept_each limits sizes None bad.units (may_first bad.units) bad.kept) bad.bad.bad
    ∙ ap (λ (n : ℕ). Some (n, defect.kind)) (sym bad.bad.line)

-- ---- and back

-- units that keep the limits stand in bytes, and behind them one with a defect
record Found (limits : Limits) (sizes : List SetupSize) (above : Option ℕ) (number line kind : ℕ) (bytes : List ℕ) : Type 0 where
  units : List ℕ
  rest : List ℕ
  kept : AreKeptAfter limits sizes above units
  is : bytes ≡ setups_text units ++ rest
  on : line ≡ number + length units
  bad : IsBadNext (limits_set_up limits sizes units) sizes (last_unit above units) rest kind

-- one unit more in front
found_more : (limits : Limits) (sizes : List SetupSize) (above : Option ℕ) (number line kind unit : ℕ) (bytes after : List ℕ) → MaySetUp above unit → setup_defect limits sizes unit ≡ None
    → bytes ≡ setup_line unit ++ 10 ∷ after → Found (with_setup limits (size_of sizes unit)) sizes (Some unit) (number + 1) line kind after → Found limits sizes above number line kind bytes
found_more limits sizes above number line kind unit bytes after may sound is later = record {
  units = unit ∷ later.units;
  rest = later.rest;
  kept = ((may, sound), later.kept);
  is = is ∙ ap (λ (t : List ℕ). setup_line unit ++ 10 ∷ t) later.is
      ∙ sym (ap (λ (t : List ℕ). t ++ later.rest) (text-cons unit later.units) ∙ append_assoc (setup_line unit) (10 ∷ setups_text later.units) later.rest);
  on = omega (arith, later.on);
  bad = later.bad;
}

-- the next unit has a defect
found_here : (limits : Limits) (sizes : List SetupSize) (above : Option ℕ) (number kind unit : ℕ) (bytes after : List ℕ) → MaySetUp above unit → setup_defect limits sizes unit ≡ Some kind
    → bytes ≡ setup_line unit ++ 10 ∷ after → Found limits sizes above number number kind bytes
found_here limits sizes above number kind unit bytes after may defect is = record {
  units = [];
  rest = bytes;
  kept = tt;
  is = sym (ap (λ (t : List ℕ). t ++ bytes) text-nil);
  on = omega arith;
  bad = record { unit = unit; may = may; first = record { after = after; is = is }; defect = defect };
}

back : (parts : List (List ℕ)) (limits : Limits) (sizes : List SetupSize) (above : Option ℕ) (number line kind : ℕ) (bytes : List ℕ) → parts_of bytes ≡ parts
    → setups_defect limits sizes above number parts ≡ Some (line, kind) → Found limits sizes above number line kind bytes
unfolding setups_defect
back [] limits sizes above number line kind bytes are is = absurd cc
back (part ∷ parts) limits sizes above number line kind bytes are is =
    by_unit
    (λ unit after same e. back parts (with_setup limits (size_of sizes unit)) sizes (Some unit) (number + 1) line kind after same e)
    (unit_said above part (length parts)) refl is
  where
    later : ℕ → Option (ℕ × ℕ)
    later unit = setups_defect (with_setup limits (size_of sizes unit)) sizes (Some unit) (number + 1) parts

    -- what is found from the next line on
    Onward : Type 0
    Onward = (unit : ℕ) (after : List ℕ) → parts_of after ≡ parts → later unit ≡ Some (line, kind) → Found (with_setup limits (size_of sizes unit)) sizes (Some unit) (number + 1) line kind after

    by_kind : Onward → (unit : ℕ) → Says above part (length parts) unit → (found : Option ℕ) → setup_defect limits sizes unit ≡ found
        → option_map_or (λ k. Some (number, k)) found (later unit) ≡ Some (line, kind) → Found limits sizes above number line kind bytes
    by_kind onward unit told None sound e =
        let cut = ahead bytes part parts are told.some in
        let text = cut.is ∙ ap (λ (w : List ℕ). w ++ 10 ∷ cut.after) (sym told.is) in
        found_more limits sizes above number line kind unit bytes cut.after told.may sound text (onward unit cut.after cut.later e)
    by_kind onward unit told (Some k) defect e =
        let cut = ahead bytes part parts are told.some in
        let text = cut.is ∙ ap (λ (w : List ℕ). w ++ 10 ∷ cut.after) (sym told.is) in
        let same = pairs_same number k line kind e in
        subst (λ (n : ℕ). Found limits sizes above number n kind bytes) same.0
        (found_here limits sizes above number kind unit bytes cut.after told.may (defect ∙ ap (λ (n : ℕ). Some n) same.1) text)

    by_unit : Onward → (found : Option ℕ) → unit_said above part (length parts) ≡ found
        → option_map_or (λ unit. option_map_or (λ k. Some (number, k)) (setup_defect limits sizes unit) (later unit)) found None ≡ Some (line, kind) → Found limits sizes above number line kind bytes
    by_unit onward None none e = absurd cc
    by_unit onward (Some unit) one e = by_kind onward unit (says above part (length parts) unit one) (setup_defect limits sizes unit) refl e

from_function : (limits : Limits) (sizes : List SetupSize) (head : Head) (bytes : List ℕ) (defect : Defect)
    → setups_defect limits sizes None (1 + head.count) (parts_of (drop head.bytes bytes)) ≡ Some (defect.line, defect.kind) → IsBadSetup limits sizes head bytes defect
from_function limits sizes head bytes defect is =
    let found = back (parts_of (drop head.bytes bytes)) limits sizes None (1 + head.count) defect.line defect.kind (drop head.bytes bytes) refl is in
    record { units = found.units; kept = all_kept limits sizes found.units found.kept; bad = record { rest = found.rest; is = found.is; line = found.on; bad = found.bad } }

pub setup_defects : SetupDefectsAre
setup_defects limits sizes head bytes defect = (to_function limits sizes head bytes defect, from_function limits sizes head bytes defect)
