-- One domain more.
use Rattle.std.proofs.Common.{◌≡◌, ◌+◌, ◌-◌, ◌*◌, ◌^◌, suc, false, min, drop, get_or, List, subst, arith}
use Rattle.std.proofs.Math.Seq.{drop-cons}
use Rattle.row_kit.specs.declared.domain.Domain.{Domain}
use Rattle.row_kit.specs.Domain.{count_of}
use Rattle.row_kit.specs.Points.{points_of}
use Rattle.sum_choice.proofs.PointsLeft.{points-step}
use Rattle.sum_choice.proofs.many.count_points.Goals as goal

pub loop-domain-preserved : goal.loop-domain-preserved
loop-domain-preserved c =
    let ds = c.args.domains.now in
    let i = c.loop-domain.domain-index in
    let none : Domain = record { zero = false; lo = 0; hi = 0 } in
    let d = get_or ds i none in
    let count = c.loop-domain.count in
    let before = subst (λ (rest : List Domain). min (count * points_of rest) (2 ^ 64 - 1) ≡ min (points_of ds) (2 ^ 64 - 1)) (drop-cons ds i none c.loop-domain-test.true) c.loop-domain.invariant.left in
    let is : c.times-count.result ≡ min (count * count_of d) (2 ^ 64 - 1) = subst (λ n. c.times-count.result ≡ min (count * n) (2 ^ 64 - 1)) c.count.ensures.count c.times-count.ensures in
    let one : suc i ≡ i + 1 = omega arith in
    record {
      left = subst (λ n. min (c.times-count.result * points_of (drop n ds)) (2 ^ 64 - 1) ≡ min (points_of ds) (2 ^ 64 - 1)) one
          (points-step (2 ^ 64 - 1) count c.times-count.result (min (points_of ds) (2 ^ 64 - 1)) d (drop (suc i) ds) is before);
      small = omega (arith, is);
    }
