use Rattle.std.proofs.Common.{ℕ, ◌+◌, ◌==◌, List, length, sym, ap, ◌∙◌, arith, rules}
use Rattle.plan_text.specs.PlanText.{text_lines}
use Rattle.plan_text.proofs.Reading.{read_on, plan_of_lines-is, line_stops, line_goes_on, read_on-end, length-after_first, gives_stop, tells_some, tells_none}
use Rattle.plan_text.proofs.read.read_lines.Goals as goal

pub loop-rest-init : goal.loop-rest-init
loop-rest-init c = record {
  goes_on = rw c.new-plan.ensures (plan_of_lines-is c.args.plant.now (text_lines c.args.text.now));
  counted = omega arith;
}

pub returns-in_err-take_line : goal.returns-in_err-take_line
returns-in_err-take_line c =
    let some = tells_some c.loop-rest.rest.now c.is_empty.result c.is_empty.ensures (search rules) in
    gives_stop _ c.from_residual.result c.in_err-take_line.field-0.0 (search rules)
    (rw c.loop-rest.invariant.goes_on (line_stops c.args.plant.now c.loop-rest.number c.loop-rest.plan c.loop-rest.rest.now c.in_err-take_line.field-0.0 some (rw c.cut_at.ensures.before at c.in_err-take_line.ensures)))

pub loop-rest-preserved : goal.loop-rest-preserved
loop-rest-preserved c =
    let some = tells_some c.loop-rest.rest.now c.is_empty.result c.is_empty.ensures (search rules) in
    record {
      goes_on = c.loop-rest.invariant.goes_on
          ∙ line_goes_on c.args.plant.now c.loop-rest.number c.loop-rest.plan c.take_line.new.plan c.loop-rest.rest.now some (rw c.cut_at.ensures.before at c.in_ok-take_line.ensures)
          ∙ ap (λ (x : List ℕ). read_on c.args.plant.now (c.loop-rest.number + 1) c.take_line.new.plan (text_lines x)) (sym c.cut_at.ensures.after);
      counted = omega (arith, c.loop-rest.invariant.counted, length-after_first (λ b. b == 10) c.loop-rest.rest.now some, ap length c.cut_at.ensures.after);
    }

pub returns : goal.returns
returns c =
    c.loop-rest.invariant.goes_on ∙ read_on-end c.args.plant.now c.loop-rest.number c.loop-rest.plan c.loop-rest.rest.now (tells_none c.loop-rest.rest.now c.is_empty.result c.is_empty.ensures (search rules))
