use Rattle.std.proofs.Common.{◌≡◌, ◌<◌, ◌++◌, ◌∷◌, [], ◌+◌, ℕ, List, Option, None, IfSome, Err, Ok, ap, sym, subst, ◌∙◌, refl, arith, drop, length, length-append}
use Rattle.stn_edge.specs.Files.{FileMap, file_of}
use Rattle.sum_lines.specs.declared.halt.Halt.TheVariants as halt
use Rattle.setup_lines.specs.Front.{IsBadAt, IsSetUp, NoneFirst}
use Rattle.setup_lines.specs.Setups.{IsSetupsKept, MaySetUp, last_unit, limits_set_up, size_of, with_setup}
use Rattle.setup_lines.specs.laws.Walk.{HasPassed, IsSetupKept, rest_after}
use Rattle.setup_lines.proofs.Fronts.{bad_setup, setups_kept, setups_told}
use Rattle.setup_lines.proofs.Kept.{AreKeptAfter, kept-more, last-more, set_up-more, sound}
use Rattle.setup_lines.proofs.reading.read_units.Goals as goal

pub setups-init : goal.setups-init
setups-init g c = record {
  same = refl;
  readable = refl;
  writable = refl;
  no_write = refl;
  later = omega arith;
  kept = subst (AreKeptAfter c.args.limits.now c.args.sizes.now None) (sym c.new-units.ensures) tt;
  set = ap (limits_set_up c.args.limits.now c.args.sizes.now) (sym c.new-units.ensures);
  last = ap (last_unit None) (sym c.new-units.ensures);
  passed = subst (λ us. HasPassed (g.F.Shelf.files c.args.files.now) c.args.name.now c.args.head.bytes (1 + c.args.head.count) us c.args.walk.now) (sym c.new-units.ensures) c.requires.passed;
}

pub returns-in-Ok-None-clause-kept : goal.returns-in-Ok-None-clause-kept
returns-in-Ok-None-clause-kept g c =
    let i = c.setups.invariant in
    let made = c.setups_with.ensures in
    let limits = c.args.limits.now in
    let sizes = c.args.sizes.now in
    let head = c.args.head in
    subst (IsSetupsKept limits sizes head) (sym made.is)
    (setups_kept (g.F.Shelf.files c.args.files.now) c.args.name.now limits c.setups.running sizes head c.setups.units c.setups.walk i.kept i.set i.passed made.small)

pub returns-in-Ok-None-clause-setups : goal.returns-in-Ok-None-clause-setups
returns-in-Ok-None-clause-setups g c =
    let i = c.setups.invariant in
    let made = c.setups_with.ensures in
    let files = g.F.Shelf.files c.args.files.now in
    let name = c.args.name.now in
    let limits = c.args.limits.now in
    let sizes = c.args.sizes.now in
    let head = c.args.head in
    let units = c.setups.units in
    let there = subst (λ (f : Option FileMap). HasPassed f name head.bytes (1 + head.count) units c.setups.walk) (sym i.same) i.passed in
    let none = subst (λ (f : Option FileMap). IfSome f (λ m. NoneFirst (MaySetUp c.setups.above) (rest_after head.bytes units (file_of m name)))) i.same (c.in-Ok-None.ensures.ends (ap Ok c.in-Ok-None.field-0-is) head.bytes (1 + head.count) units there) in
    let ends = subst (λ a. IfSome files (λ m. NoneFirst (MaySetUp a) (rest_after head.bytes units (file_of m name)))) i.last none in
    let kept = setups_kept files name limits c.setups.running sizes head units c.setups.walk i.kept i.set i.passed made.small in
    subst (λ setups. IfSome files (λ m. IsSetUp limits sizes head (file_of m name) setups)) (sym made.is)
    (setups_told files name limits c.setups.running sizes head units c.setups.walk kept i.passed ends)

pub returns-in-Err-clause-bad : goal.returns-in-Err-clause-bad
returns-in-Err-clause-bad g c defect is =
    let i = c.setups.invariant in
    let files = g.F.Shelf.files c.args.files.now in
    let name = c.args.name.now in
    let limits = c.args.limits.now in
    let sizes = c.args.sizes.now in
    let head = c.args.head in
    let units = c.setups.units in
    let own : c.in-Err.halt ≡ halt.Bad defect = cc in
    let there = subst (λ (f : Option FileMap). HasPassed f name head.bytes (1 + head.count) units c.setups.walk) (sym i.same) i.passed in
    let bad = c.in-Err.ensures.bad defect (ap Err own) head.bytes (1 + head.count) units there in
    bad_setup files name limits c.setups.running sizes c.setups.above head units defect i.kept i.set i.last
    (subst (λ (f : Option FileMap). IfSome f (λ m. IsBadAt c.setups.running sizes c.setups.above (1 + head.count) units (drop head.bytes (file_of m name)) defect)) i.same bad)

pub setups-smaller : goal.setups-smaller
setups-smaller g c =
    let i = c.setups.invariant in
    let name = c.args.name.now in
    let head = c.args.head in
    let units = c.setups.units in
    let unit = c.in-Ok-Some.unit in
    let goes = subst (λ f. IfSome f (λ u. (s n : ℕ) (us : List ℕ) → HasPassed (g.F.Shelf.files c.setups.files) name s n us c.setups.walk → HasPassed (g.F.Shelf.files c.setups.files) name s n (us ++ u ∷ []) c.next_setup.new.walk))
    c.in-Ok-Some.field-0-is c.in-Ok-Some.ensures.goes in
    let there = subst (λ (f : Option FileMap). HasPassed f name head.bytes (1 + head.count) units c.setups.walk) (sym i.same) i.passed in
    let here = goes head.bytes (1 + head.count) units there in
    omega (arith, i.passed.line, here.line, length-append units (unit ∷ []), c.next_setup.ensures.line)

pub setups-preserved : goal.setups-preserved
setups-preserved g c =
    let i = c.setups.invariant in
    let files = g.F.Shelf.files c.args.files.now in
    let name = c.args.name.now in
    let limits = c.args.limits.now in
    let sizes = c.args.sizes.now in
    let head = c.args.head in
    let units = c.setups.units in
    let unit = c.in-Ok-Some.unit in
    let is = c.in_ok-push-in-Ok-Some.ensures.ok in
    let kept = subst (λ f. IfSome f (IsSetupKept c.setups.running sizes c.setups.above)) c.in-Ok-Some.field-0-is c.in-Ok-Some.ensures.unit in
    let own = subst (λ a. IsSetupKept (limits_set_up limits sizes units) sizes a unit) i.last (subst (λ l. IsSetupKept l sizes c.setups.above unit) i.set kept) in
    let goes = subst (λ f. IfSome f (λ u. (s n : ℕ) (us : List ℕ) → HasPassed (g.F.Shelf.files c.setups.files) name s n us c.setups.walk → HasPassed (g.F.Shelf.files c.setups.files) name s n (us ++ u ∷ []) c.next_setup.new.walk))
    c.in-Ok-Some.field-0-is c.in-Ok-Some.ensures.goes in
    let there = subst (λ (f : Option FileMap). HasPassed f name head.bytes (1 + head.count) units c.setups.walk) (sym i.same) i.passed in
    let here = subst (λ (f : Option FileMap). HasPassed f name head.bytes (1 + head.count) (units ++ unit ∷ []) c.next_setup.new.walk) i.same (goes head.bytes (1 + head.count) units there) in
    record {
      same = cc;
      readable = cc;
      writable = cc;
      no_write = cc;
      later = omega arith;
      kept = subst (AreKeptAfter limits sizes None) (sym is) (kept-more limits sizes None units unit i.kept own);
      set = c.with_setup-running.ensures ∙ ap (λ l. with_setup l (size_of sizes unit)) i.set ∙ sym (set_up-more limits sizes units unit) ∙ ap (limits_set_up limits sizes) (sym is);
      last = sym (last-more None units unit) ∙ ap (last_unit None) (sym is);
      passed = subst (λ us. HasPassed files name head.bytes (1 + head.count) us c.next_setup.new.walk) (sym is) here;
    }
