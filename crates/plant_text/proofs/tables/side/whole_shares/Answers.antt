use Rattle.std.proofs.Common.{get_or, arith}
use Rattle.std.proofs.lemmas.List.{get_or_default, length_push, map-id}
use Rattle.std.proofs.lemmas.Result.{err_from_is_err_and}
use Rattle.plant_text.specs.declared.tables.side.SidePart.{SidePart}
use Rattle.plant_text.specs.Tables.{output_of, whole_tests}
use Rattle.plant_text.proofs.Reading.{loop_on, loop_err, loop_end}
use Rattle.plant_text.proofs.tables.side.whole_shares.Goals as goal

-- what stands past the end of the sides
nothing : SidePart
nothing = record { state = 0; part = record { over = 0; under = 0 }; delay = 0 }

pub returns-in_err-output : goal.returns-in_err-output
unfolding nothing
returns-in_err-output c =
    let side = get_or c.args.sides.now c.loop-side.side-index nothing in
    let p = err_from_is_err_and c.from_residual.result c.from_residual.ensures.1 in
    let failed = rw c.len.ensures at c.in_err-output.ensures in
    rw (p.1, p.2) (rw map-id at (loop_err (λ (x : SidePart). x) (whole_tests c.args.owner c.args.quantum) (output_of c.args.quantum) c.in_err-output.field-0.0 c.args.sides.now c.loop-side.side-index side c.loop-side.outputs c.loop-side-test.true (get_or_default c.args.sides.now c.loop-side.side-index nothing side c.loop-side-test.true) failed c.loop-side.invariant.is_at))

pub loop-side-preserved : goal.loop-side-preserved
unfolding nothing
loop-side-preserved c =
    let side = get_or c.args.sides.now c.loop-side.side-index nothing in
    let passed = rw c.len.ensures at c.in_ok-output.ensures in
    rw c.in_ok-push.ensures.ok record {
      is_at = loop_on (λ (x : SidePart). x) (whole_tests c.args.owner c.args.quantum) (output_of c.args.quantum) c.args.sides.now c.loop-side.side-index side c.loop-side.outputs c.in_ok-output.output c.loop-side-test.true (get_or_default c.args.sides.now c.loop-side.side-index nothing side c.loop-side-test.true) passed.0 passed.1 c.loop-side.invariant.is_at;
      few = omega (arith, length_push c.loop-side.outputs c.in_ok-output.output);
    }

pub returns : goal.returns
returns c =
    let ended = loop_end (λ (x : SidePart). x) (whole_tests c.args.owner c.args.quantum) (output_of c.args.quantum) c.args.sides.now c.loop-side.side-index c.loop-side.outputs c.loop-side-test.false c.loop-side.invariant.is_at in
    rw map-id at ended
