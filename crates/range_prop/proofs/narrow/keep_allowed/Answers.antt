-- The slot is given what its domain shares with the allowed values.
use Rattle.std.proofs.Common.{◌≡◌, ◌∙◌, ◌≤◌, ℕ, Bool, true, false, not, refl, set, List, length, sym, ap, subst, arith}
use Rattle.std.specs.Prelude.{int_le}
use Rattle.row_kit.specs.declared.domain.Domain.{Domain}
use Rattle.row_kit.specs.Domain.{Holds, count_of, domain_at, no_values, normal, shared}
use Rattle.row_kit.specs.Area.{is_same, present, with_domain}
use Rattle.row_kit.proofs.Marks.{present-with_domain}
use Rattle.std.specs.List.{sum_by}
use Rattle.std.proofs.lemmas.List.Sums.{sum_by-set}
use Rattle.row_kit.specs.Row.{counted}
use Rattle.range_prop.specs.Cut.{kept_of}
use Rattle.range_prop.proofs.Kept.{kept_fewer, kept_shared, kept_within, kept_passes, kept_holds}
use Rattle.range_prop.proofs.Multiples.{le_true, true_le}
use Rattle.range_prop.proofs.Trails.{domain-with_domain, mark_tells}
use Rattle.range_prop.proofs.narrow.keep_allowed.Goals as goal

pub returns-clause-marks : goal.returns-clause-marks
returns-clause-marks c =
    let e = c.args.entry.now in
    let d = domain_at (present c.args.area.now) e.slot in
    let k = c.allowed-kept.result in
    let test = λ (v : ℕ). int_le (counted e v) c.args.room.now in
    let agree = λ (v : ℕ) (low : d.lo ≤ v) (high : v ≤ d.hi). c.allowed-kept.ensures.range v (omega (arith, low, c.requires.normal.positive)) (omega (arith, high, c.requires.normal.byte)) in
    c.keep.ensures.marks
    ∙ ap (with_domain c.args.area.now e.slot) (ap (λ (z : Bool). shared d (normal z k.lo k.hi)) c.allowed-kept.ensures.zero ∙ sym (kept_shared test d k.lo k.hi c.requires.normal agree))

pub returns-clause-values : goal.returns-clause-values
returns-clause-values c = λ v.
    let e = c.args.entry.now in
    let d = domain_at (present c.args.area.now) e.slot in
    let k = c.allowed-kept.result in
    let test = λ (v : ℕ). int_le (counted e v) c.args.room.now in
    let agree = λ (v : ℕ) (low : d.lo ≤ v) (high : v ≤ d.hi). c.allowed-kept.ensures.range v (omega (arith, low, c.requires.normal.positive)) (omega (arith, high, c.requires.normal.byte)) in
    let now' : domain_at (present c.keep.new.self) e.slot ≡ kept_of test d = ap (λ (m : List (List Domain)). domain_at (present m) e.slot) (returns-clause-marks c) ∙ domain-with_domain c.args.area.now e.slot (kept_of test d) c.requires.slot in (
      λ h.
          let held = subst (λ (x : Domain). Holds x v) now' h in
          (kept_within test d v c.requires.normal.positive held, true_le (counted e v) c.args.room.now (kept_passes test d k.lo k.hi v c.requires.normal agree held)),
      λ h. subst (λ (x : Domain). Holds x v) (sym now') (kept_holds test d v c.requires.normal.positive h.0 (le_true (counted e v) c.args.room.now h.1)),
    )

pub returns-clause-shrank : goal.returns-clause-shrank
returns-clause-shrank c =
    let e = c.args.entry.now in
    let d = domain_at (present c.args.area.now) e.slot in
    let test = λ (v : ℕ). int_le (counted e v) c.args.room.now in
    mark_tells c.args.area.now e.slot c.mark-before.result c.mark.result (kept_of test d) c.requires.slot c.mark-before.ensures (c.mark.ensures ∙ ap length (returns-clause-marks c))

pub returns-clause-fewer : goal.returns-clause-fewer
returns-clause-fewer c = λ shrank.
    let e = c.args.entry.now in
    let ds = present c.args.area.now in
    let d = domain_at ds e.slot in
    let test = λ (v : ℕ). int_le (counted e v) c.args.room.now in
    let other : is_same d (kept_of test d) ≡ false = not_true (is_same d (kept_of test d)) (sym (returns-clause-shrank c) ∙ shrank) in
    let less = kept_fewer test d c.requires.normal other in
    let now' : present c.keep.new.self ≡ set ds e.slot (kept_of test d) = ap present (returns-clause-marks c) ∙ present-with_domain c.args.area.now e.slot (kept_of test d) c.requires.slot in
    omega (arith, less, sum_by-set count_of ds e.slot (kept_of test d) no_values c.requires.slot, ap (sum_by count_of) now')
  where
    not_true : (b : Bool) → not b ≡ true → b ≡ false
    not_true true h = sym h
    not_true false h = refl
