-- The two sums are what a batch of one quantum in the slot takes and gives.
use Rattle.std.proofs.Common.{◌≡◌, ◌≤◌, ◌^◌, sum_by, ap, ap₂, ◌∙◌, arith}
use Rattle.std.proofs.lemmas.Int.{ints}
use Rattle.stn_model.specs.Stock.{taken_by, taken, given_by, given}
use Rattle.balance_rows.specs.StockRows.{taken_in, given_in}
use Rattle.time_grid.specs.PlanPoint.{start_in}
use Rattle.balance_rows.proofs.flow.net_taken.Goals as goal

pub returns-clause-value : goal.returns-clause-value
unfolding taken_in given_in taken given
returns-clause-value c =
    let plant = c.args.plant.now in
    let one : c.start_in-one.result ≡ start_in plant c.args.slot 1 = c.start_in-one.ensures in
    let t : c.taken_of-taken.result ≡ taken_in plant c.args.state c.args.time c.args.slot =
    c.taken_of-taken.ensures.value ∙ ap₂ (λ s xs. sum_by (taken_by c.args.state c.args.time s) xs) one (c.as_slice.ensures ∙ ap (λ task. task.inputs) c.task_of-task.ensures) in
    let g : c.given_of-given.result ≡ given_in plant c.args.state c.args.time c.args.slot =
    c.given_of-given.ensures.value ∙ ap₂ (λ s xs. sum_by (given_by c.args.state c.args.time s) xs) one (c.as_slice-2.ensures ∙ ap (λ task. task.outputs) c.task_of-task.ensures) in
    let ts : c.taken_of-taken.result ≤ 2 ^ 23 = c.taken_of-taken.ensures.small in
    let gs : c.given_of-given.result ≤ 2 ^ 23 = c.given_of-given.ensures.small in
    omega (arith, ints, t, g)
