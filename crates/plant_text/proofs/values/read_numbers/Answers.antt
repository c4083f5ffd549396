use Rattle.std.proofs.Common.{ℕ, List}
use Rattle.std.proofs.lemmas.Result.{err_from_is_err_and}
use Rattle.toml.specs.Data.{Data}
use Rattle.toml.specs.View.{view}
use Rattle.plant_text.specs.Fields.{count_tests, count_of}
use Rattle.plant_text.proofs.Reading.{loop_start, loop_on, loop_err, loop_end}
use Rattle.plant_text.proofs.values.read_numbers.Goals as goal

pub loop-item-init : goal.loop-item-init
loop-item-init c = rw c.new-numbers.ensures (loop_start view (λ (earlier : List ℕ) (x : Data). count_tests c.args.place c.args.name 0 c.args.most x) count_of c.args.items.now)

pub returns-in_err-number : goal.returns-in_err-number
returns-in_err-number c =
    let tests = λ (earlier : List ℕ) (x : Data). count_tests c.args.place c.args.name 0 c.args.most x in
    let p = err_from_is_err_and c.from_residual.result c.from_residual.ensures.1 in
    rw (p.1, p.2) (loop_err view tests count_of c.in_err-number.field-0.0 c.args.items.now c.loop-item.item-index c.item-item.result c.loop-item.numbers c.loop-item-test.true c.item-item.is c.in_err-number.ensures c.loop-item.invariant)

pub loop-item-preserved : goal.loop-item-preserved
loop-item-preserved c =
    let tests = λ (earlier : List ℕ) (x : Data). count_tests c.args.place c.args.name 0 c.args.most x in
    rw c.in_ok-push.ensures.ok (loop_on view tests count_of c.args.items.now c.loop-item.item-index c.item-item.result c.loop-item.numbers c.in_ok-number.number c.loop-item-test.true c.item-item.is c.in_ok-number.ensures.0 c.in_ok-number.ensures.1 c.loop-item.invariant)

pub returns : goal.returns
returns c =
    let tests = λ (earlier : List ℕ) (x : Data). count_tests c.args.place c.args.name 0 c.args.most x in
    loop_end view tests count_of c.args.items.now c.loop-item.item-index c.loop-item.numbers c.loop-item-test.false c.loop-item.invariant
