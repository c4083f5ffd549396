-- While a batch runs it draws what its task's draws say, and nothing else.
use Rattle.std.proofs.Common.{◌≡◌, ◌-◌, true, false, sum_by, sym, ap, ◌∙◌}
use Rattle.std.proofs.lemmas.Bool.{cond-true, cond-false}
use Rattle.stn_model.specs.Plant.{task_at, run_at}
use Rattle.utility_rows.specs.LoadRows.{is_running, each_in, each_drawn}
use Rattle.utility_rows.proofs.draws.each_drawn.Goals as goal

pub returns-then-is_running-clause-value : goal.returns-then-is_running-clause-value
unfolding each_drawn
returns-then-is_running-clause-value c =
    let plant = c.args.plant.now in
    let running : is_running plant c.args.period c.args.slot ≡ true = sym c.is_running.ensures ∙ c.if-is_running.true in
    let summand = each_in c.args.utility (c.args.period - c.args.slot.1) in
    c.each_of.ensures.value ∙ ap (sum_by summand) (c.as_slice.ensures ∙ ap (λ task. task.draws) c.task_of.ensures)
    ∙ sym (cond-true (is_running plant c.args.period c.args.slot) (sum_by summand (task_at plant (run_at plant c.args.slot.0).task).draws) 0 running)

pub returns-else-is_running-clause-value : goal.returns-else-is_running-clause-value
unfolding each_drawn
returns-else-is_running-clause-value c =
    let plant = c.args.plant.now in
    let idle : is_running plant c.args.period c.args.slot ≡ false = sym c.is_running.ensures ∙ c.if-is_running.false in
    let summand = each_in c.args.utility (c.args.period - c.args.slot.1) in
    sym (cond-false (is_running plant c.args.period c.args.slot) (sum_by summand (task_at plant (run_at plant c.args.slot.0).task).draws) 0 idle)
