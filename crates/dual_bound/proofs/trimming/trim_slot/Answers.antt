-- The slot keeps what it shares with the values from the first to the last that pass.
use Rattle.std.proofs.Common.{◌≡◌, ◌∙◌, ◌+◌, ◌-◌, ◌<◌, ◌≤◌, ℕ, ℤ, Bool, ap, subst, ◌+ℤ◌, to_z, of_z, arith}
use Rattle.std.proofs.lemmas.Int.{ints}
use Rattle.row_kit.specs.declared.domain.Domain.{Domain}
use Rattle.row_kit.specs.Area.{present, with_domain}
use Rattle.row_kit.specs.Domain.{IsNormal, domain_at, normal, shared, values_of}
use Rattle.dual_bound.specs.Line.{line_at}
use Rattle.dual_bound.specs.Total.{greatest}
use Rattle.dual_bound.specs.Trimmed.{first_passing, last_passing, passing}
use Rattle.dual_bound.specs.laws.Reach.{reaches}
use Rattle.dual_bound.proofs.Passing.{first_within, passing_none, passing_some}
use Rattle.dual_bound.proofs.trimming.trim_slot.Goals as goal
use mir.Syntax.{w128}

abbrev first_of : (ℕ → Bool) → Domain → ℕ
first_of test d = first_passing test (d.hi + 1 - d.lo) d.lo

abbrev last_of : (ℕ → Bool) → Domain → ℕ
last_of test d = last_passing test (d.hi + 1 - d.lo) d.lo

pub keep-requires-else-first-from-clause-lo : goal.keep-requires-else-first-from-clause-lo
keep-requires-else-first-from-clause-lo c =
    let d = c.domain-domain.result in
    let need = to_z w128 (of_z w128 (to_z w128 (of_z w128 c.args.spare.now) +ℤ to_z w128 (of_z w128 c.greatest_in.result))) in
    let within = first_within (reaches c.args.line.now need) (d.hi + 1 - d.lo) d.lo in
    omega (arith, within.0, c.first_reaching-first.ensures, c.domain-domain.ensures.normal.positive)

pub returns-then-first-from-clause-marks : goal.returns-then-first-from-clause-marks
returns-then-first-from-clause-marks c =
    let slot = c.args.slot in
    let line = c.args.line.now in
    let d = domain_at (present c.args.area.now) slot in
    let gain = c.greatest_in.result in
    let need = to_z w128 (of_z w128 (to_z w128 (of_z w128 c.args.spare.now) +ℤ to_z w128 (of_z w128 gain))) in
    let exact : need ≡ c.args.spare.now +ℤ gain = omega (arith, ints, c.greatest_in.ensures.small, c.requires.small) in
    let need_is = exact ∙ ap (λ (x : ℤ). c.args.spare.now +ℤ x) (c.greatest_in.ensures.value ∙ ap (λ (x : Domain). greatest (line_at line) (values_of x)) c.domain-domain.ensures.value) in
    let test = reaches line need in
    let normal' = subst IsNormal c.domain-domain.ensures.value c.domain-domain.ensures.normal in
    let past : c.domain-domain.result.hi < first_of test c.domain-domain.result = omega (arith, c.if-first-from.true, c.from.ensures, c.first_reaching-first.ensures) in
    let none = subst (λ (x : Domain). x.hi < first_of test x) c.domain-domain.ensures.value past in
    c.keep.ensures.marks
    ∙ ap (with_domain c.args.area.now slot)
    (ap (λ (b : Bool). shared d (normal b 1 0)) c.is_at_most_zero-zero.ensures
    ∙ passing_none test d normal' none
    ∙ ap (λ (x : ℤ). passing (reaches line x) d) need_is)

pub returns-else-first-from-clause-marks : goal.returns-else-first-from-clause-marks
returns-else-first-from-clause-marks c =
    let slot = c.args.slot in
    let line = c.args.line.now in
    let d = domain_at (present c.args.area.now) slot in
    let gain = c.greatest_in.result in
    let need = to_z w128 (of_z w128 (to_z w128 (of_z w128 c.args.spare.now) +ℤ to_z w128 (of_z w128 gain))) in
    let exact : need ≡ c.args.spare.now +ℤ gain = omega (arith, ints, c.greatest_in.ensures.small, c.requires.small) in
    let need_is = exact ∙ ap (λ (x : ℤ). c.args.spare.now +ℤ x) (c.greatest_in.ensures.value ∙ ap (λ (x : Domain). greatest (line_at line) (values_of x)) c.domain-domain.ensures.value) in
    let test = reaches line need in
    let normal' = subst IsNormal c.domain-domain.ensures.value c.domain-domain.ensures.normal in
    let before : first_of test c.domain-domain.result ≤ c.domain-domain.result.hi = omega (arith, c.if-first-from.false, c.from.ensures, c.first_reaching-first.ensures) in
    let some = subst (λ (x : Domain). first_of test x ≤ x.hi) c.domain-domain.ensures.value before in
    let first = c.first_reaching-first.ensures ∙ ap (first_of test) c.domain-domain.ensures.value in
    let last = c.last_reaching-last.ensures ∙ ap (last_of test) c.domain-domain.ensures.value in
    c.keep-else-first-from.ensures.marks
    ∙ ap (with_domain c.args.area.now slot)
    (ap (λ (b : Bool). shared d (normal b c.first_reaching-first.result c.last_reaching-last.result)) c.is_at_most_zero-zero.ensures
    ∙ ap (λ (x : ℕ). shared d (normal (test 0) x c.last_reaching-last.result)) first
    ∙ ap (λ (x : ℕ). shared d (normal (test 0) (first_of test d) x)) last
    ∙ passing_some test d normal' some
    ∙ ap (λ (x : ℤ). passing (reaches line x) d) need_is)
