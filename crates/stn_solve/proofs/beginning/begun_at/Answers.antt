-- A lawful point is followed by the values of the sums.
use Rattle.std.proofs.Common.{List, sym, ap, ◌∙◌, subst}
use Rattle.row_set.proofs.Limits.{part-rows}
use Rattle.sum_slots.specs.declared.sum.Sum.{Sum}
use Rattle.sum_slots.specs.Larger.{completed}
use Rattle.plan_told.specs.Claims.{HaveBytes}
use Rattle.stn_solve.proofs.BegunTold.{begun-bytes}
use Rattle.stn_solve.proofs.Searchable.{part-few}
use Rattle.stn_solve.proofs.beginning.begun_at.Goals as goal

pub with_head-requires-clause-few_slots : goal.with_head-requires-clause-few_slots
with_head-requires-clause-few_slots g c = part-few c.args.plant.now c.args.part c.requires.sound c.requires.part

pub with_head-requires-clause-few_rows : goal.with_head-requires-clause-few_rows
with_head-requires-clause-few_rows g c = part-rows c.args.plant.now c.args.part c.requires.sound c.requires.part

pub completed-requires : goal.completed-requires
completed-requires g c = λ holds.
    subst (λ (sums : List Sum). HaveBytes sums c.args.start.now) (sym c.as_slice.ensures)
    (begun-bytes c.args.plant.now c.args.part c.args.judged c.in_ok-headed.headed c.requires.ranges c.in_ok-headed.ensures c.args.start.now (c.is_lawful-lawful.ensures.0 holds))

pub returns-clause-point : goal.returns-clause-point
returns-clause-point g c = λ lawful.
    c.in_ok-point.ensures (c.is_lawful-lawful.ensures.1 lawful) ∙ ap (λ (sums : List Sum). completed sums c.args.start.now) c.as_slice.ensures
