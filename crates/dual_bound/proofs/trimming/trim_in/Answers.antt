-- What reaches and what may exceed are the same, slot by slot.
use Rattle.std.proofs.Common.{◌≡◌, ◌∙◌, ◌+◌, ◌<◌, ◌≤◌, ℕ, ℤ, List, length, ap, sym, subst, arith, ◌+ℤ◌, to_z, of_z}
use Rattle.std.proofs.lemmas.Int.{ints}
use Rattle.row_kit.specs.declared.domain.Domain.{Domain}
use Rattle.row_kit.specs.Area.{present}
use Rattle.row_kit.specs.Domain.{Holds, domain_at, no_values, values_of}
use Rattle.row_kit.proofs.Parts.{held_byte}
use Rattle.dual_bound.specs.Line.{line_at, slot_line}
use Rattle.dual_bound.specs.Total.{greatest}
use Rattle.dual_bound.specs.Trimmed.{each_passing, may_exceed, passing}
use Rattle.dual_bound.specs.laws.Reach.{must_reach}
use Rattle.dual_bound.proofs.Passing.{each-at, each-same, passing_passes, passing_within}
use Rattle.dual_bound.proofs.Reaching.{reaches_between}
use Rattle.dual_bound.proofs.trimming.trim_in.Goals as goal
use mir.Syntax.{w128}

pub returns : goal.returns
returns c =
    let ds = present c.args.area.now in
    let lines = c.spare_of-spare.new.lines in
    let spare = c.spare_of-spare.result in
    let exact : to_z w128 (of_z w128 spare) ≡ spare = omega (arith, ints, c.spare_of-spare.ensures.small) in
    let test = must_reach lines spare ds in
    let may = may_exceed c.args.program.now ds c.args.cert.now c.args.floor.now in
    let led : present c.trim_slots.new.area ≡ each_passing test 0 ds = c.trim_slots.ensures.left ∙ ap (λ (x : ℤ). each_passing (must_reach lines x ds) 0 ds) exact in
    let normal' = c.slot_count-slots.ensures.normal in
    let agree = λ (k v : ℕ) (lt : k < 0 + length ds) (le : v ≤ 255). sym (c.spare_of-spare.ensures.decides k v (omega (arith, lt)) le) in
    record {
      left = led ∙ each-same test may 0 ds normal' agree;
      passes = λ slot v lt held.
          let d = domain_at ds slot in
          let n = normal' slot no_values lt in
          let line = slot_line lines slot in
          let at = ap (λ (xs : List Domain). domain_at xs slot) led ∙ each-at test 0 ds slot no_values lt ∙ ap (λ (j : ℕ). passing (test j) d) (let e : 0 + slot ≡ slot = omega arith in e) in
          let left = subst (λ (x : Domain). Holds x v) at held in
          let byte = held_byte d v n (passing_within (test slot) d v n.positive left) in
          c.spare_of-spare.ensures.decides slot v lt byte
          ∙ passing_passes (test slot) d v n.positive (λ a b v one low high _ at_a at_b. reaches_between line (spare +ℤ greatest (line_at line) (values_of d)) a b v one low high at_a at_b) left;
      keeps = c.trim_slots.ensures.keeps;
      fewer = c.trim_slots.ensures.fewer;
    }
