-- What is counted says whether the later slots have many points; where there are none, there is one point.
use Rattle.std.proofs.Common.{◌≡◌, ◌∙◌, ◌-◌, ◌≤◌, ◌^◌, length, take, drop, ltb, ap, sym, subst, List, arith}
use Rattle.std.proofs.lemmas.List.{drop_all, take_rest}
use Rattle.row_kit.specs.declared.domain.Domain.{Domain}
use Rattle.row_kit.specs.Points.{points_of}
use Rattle.sum_choice.specs.Headed.{is_headed}
use Rattle.sum_choice.proofs.PointsLeft.{test-least}
use Rattle.sum_choice.proofs.many.has_many.Goals as goal

pub returns-then-levels-root : goal.returns-then-levels-root
unfolding is_headed
returns-then-levels-root c =
    let root = c.args.part.now.root in
    let past : length root ≤ c.args.levels = subst (λ (ds : List Domain). length ds ≤ c.args.levels) c.as_slice-root.ensures (omega (arith, c.if-levels-root.true)) in
    ap (λ (ds : List Domain). ltb 50000 (points_of ds)) (sym (drop_all c.args.levels root past))

pub returns : goal.returns
unfolding is_headed
returns c =
    let part = c.args.part.now in
    let levels = c.args.levels in
    let all = c.as_slice-root.result.now in
    let later : take (length all - levels) (drop levels all) ≡ drop levels part.root = take_rest all levels ∙ ap (drop levels) c.as_slice-root.ensures in
    ap (ltb 50000) c.count_points.ensures ∙ test-least 50000 (2 ^ 64 - 1) (points_of (take (length all - levels) (drop levels all))) (omega arith)
    ∙ ap (λ (ds : List Domain). ltb 50000 (points_of ds)) later
