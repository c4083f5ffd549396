use Rattle.std.proofs.Common.{◌≡◌, map, take}
use Rattle.plant_text.specs.Tables.{input_of}
use Rattle.plant_text.proofs.tables.task.inputs_of.Given as goal

abbrev pub invariant-loop-output : goal.invariant-loop-output
invariant-loop-output l = l.inputs ≡ map input_of (take l.output-index l.outputs)
