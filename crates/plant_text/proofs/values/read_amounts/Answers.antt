use Rattle.std.proofs.Common.{ℤ, List, rules, w64}
use mir.Val.{SFits}
use Rattle.std.proofs.lemmas.Int.{to_z-of_z}
use Rattle.std.proofs.lemmas.Result.{err_from_is_err_and}
use Rattle.toml.specs.Data.{Data}
use Rattle.toml.specs.View.{view}
use Rattle.plant_text.specs.Fields.{money_tests, integer_of}
use Rattle.plant_text.proofs.Reading.{loop_start, loop_on, loop_err, loop_end}
use Rattle.plant_text.proofs.values.read_amounts.Goals as goal

pub loop-item-init : goal.loop-item-init
loop-item-init c = rw c.new-amounts.ensures (loop_start view (λ (earlier : List ℤ) (x : Data). money_tests c.args.place c.args.name c.args.most x) integer_of c.args.items.now)

pub returns-in_err-amount : goal.returns-in_err-amount
returns-in_err-amount c =
    let tests = λ (earlier : List ℤ) (x : Data). money_tests c.args.place c.args.name c.args.most x in
    let p = err_from_is_err_and c.from_residual.result c.from_residual.ensures.1 in
    rw (p.1, p.2) (loop_err view tests integer_of c.in_err-amount.field-0.0 c.args.items.now c.loop-item.item-index c.item-item.result c.loop-item.amounts c.loop-item-test.true c.item-item.is c.in_err-amount.ensures c.loop-item.invariant)

pub loop-item-preserved : goal.loop-item-preserved
loop-item-preserved c =
    let tests = λ (earlier : List ℤ) (x : Data). money_tests c.args.place c.args.name c.args.most x in
    let fits : SFits w64 c.in_ok-amount.amount = search rules in
    rw (c.in_ok-push.ensures.ok, to_z-of_z w64 c.in_ok-amount.amount fits) (loop_on view tests integer_of c.args.items.now c.loop-item.item-index c.item-item.result c.loop-item.amounts c.in_ok-amount.amount c.loop-item-test.true c.item-item.is c.in_ok-amount.ensures.0 c.in_ok-amount.ensures.1 c.loop-item.invariant)

pub returns : goal.returns
returns c =
    let tests = λ (earlier : List ℤ) (x : Data). money_tests c.args.place c.args.name c.args.most x in
    loop_end view tests integer_of c.args.items.now c.loop-item.item-index c.loop-item.amounts c.loop-item-test.false c.loop-item.invariant
