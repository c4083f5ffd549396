use Rattle.std.proofs.Common.{◌≤◌, length}
use Rattle.plan_text.specs.Published.{most_bytes}
use Rattle.plan_text.proofs.Reading.{plan_of_text-long}
use Rattle.plan_text.proofs.Kept.{ReadsPlan-short, IsKept-answer, lines-answer, few-answer, writable-answer}
use Rattle.plan_text.proofs.read.read_plan.Goals as goal

pub returns-then-bytes-most_bytes-clause-gives : goal.returns-then-bytes-most_bytes-clause-gives
returns-then-bytes-most_bytes-clause-gives c = plan_of_text-long c.args.plant.now c.args.bytes.now (rw (← c.most_bytes.ensures) c.if-bytes-most_bytes.true)

pub returns-clause-gives : goal.returns-clause-gives
returns-clause-gives c =
    let short : length c.args.bytes.now ≤ most_bytes c.args.plant.now = rw (← c.most_bytes.ensures) c.if-bytes-most_bytes.false in
    ReadsPlan-short c.args.plant.now c.args.bytes.now c.read_lines.result short c.read_lines.ensures

pub returns-clause-lines : goal.returns-clause-lines
returns-clause-lines c =
    let short : length c.args.bytes.now ≤ most_bytes c.args.plant.now = rw (← c.most_bytes.ensures) c.if-bytes-most_bytes.false in
    lines-answer c.args.plant.now c.read_lines.result (IsKept-answer c.args.plant.now c.args.bytes.now c.read_lines.result
    (ReadsPlan-short c.args.plant.now c.args.bytes.now c.read_lines.result short c.read_lines.ensures))

pub returns-clause-few : goal.returns-clause-few
returns-clause-few c =
    let short : length c.args.bytes.now ≤ most_bytes c.args.plant.now = rw (← c.most_bytes.ensures) c.if-bytes-most_bytes.false in
    few-answer c.args.plant.now c.read_lines.result (IsKept-answer c.args.plant.now c.args.bytes.now c.read_lines.result
    (ReadsPlan-short c.args.plant.now c.args.bytes.now c.read_lines.result short c.read_lines.ensures))

pub returns-clause-writable : goal.returns-clause-writable
returns-clause-writable c =
    let short : length c.args.bytes.now ≤ most_bytes c.args.plant.now = rw (← c.most_bytes.ensures) c.if-bytes-most_bytes.false in
    writable-answer c.args.plant.now c.read_lines.result (IsKept-answer c.args.plant.now c.args.bytes.now c.read_lines.result
    (ReadsPlan-short c.args.plant.now c.args.bytes.now c.read_lines.result short c.read_lines.ensures))
