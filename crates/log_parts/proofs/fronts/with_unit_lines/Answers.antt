-- One line more: the units' lines are the last of the head.
use Rattle.std.proofs.Common.{◌≡◌, ◌+◌, ◌-◌, ◌++◌, ℕ, List, [], ◌∷◌, append_assoc, ap, ◌∙◌, sym, arith}
use Rattle.std.specs.List.{range_with_len}
use Rattle.log_parts.proofs.HeadLines.{range-more}
use Rattle.log_parts.proofs.fronts.with_unit_lines.Goals as goal

pub loop-place-preserved : goal.loop-place-preserved
loop-place-preserved c =
    let first = 1 + (c.args.count - c.args.units) in
    let place = c.loop-place.place in
    let line : c.args.count - (c.args.units - 1 - place) ≡ first + place = omega (arith, c.requires, c.loop-place-test.true) in
    c.in_ok-push.ensures.ok ∙ ap (λ (all : List ℕ). all ++ (c.args.count - (c.args.units - 1 - place)) ∷ []) c.loop-place.invariant
    ∙ append_assoc c.args.lines (range_with_len first place) ((c.args.count - (c.args.units - 1 - place)) ∷ [])
    ∙ ap (λ (more : List ℕ). c.args.lines ++ more) (ap (λ (n : ℕ). range_with_len first place ++ n ∷ []) line ∙ sym (range-more first place))
