-- The greatest of the lines are those of the gains.
use Rattle.std.proofs.Common.{◌≡◌, ◌∙◌, length, to_z, of_z, arith}
use Rattle.std.proofs.lemmas.Int.{ints}
use Rattle.row_kit.specs.Area.{present}
use Rattle.dual_bound.specs.Line.{line_at, slot_line}
use Rattle.dual_bound.specs.Total.{gain}
use Rattle.dual_bound.proofs.Greatest.{slots_total_same}
use Rattle.dual_bound.proofs.totals.gains_in.Goals as goal
use mir.Syntax.{w128}

pub returns-clause-value : goal.returns-clause-value
returns-clause-value c =
    let program = c.args.program.now in
    let lines = c.fill_gains.new.lines in
    let exact : to_z w128 (of_z w128 c.slots_sum.result) ≡ c.slots_sum.result = omega (arith, ints, c.slots_sum.ensures.small) in
    exact ∙ c.slots_sum.ensures.value
    ∙ slots_total_same (λ slot. line_at (slot_line lines slot)) (gain program c.args.cert.now) (length lines) c.fill_gains.ensures.value (present c.args.area.now) 0 (omega (arith, c.requires.slots, c.requires.there, c.fill_gains.auto.lines))
