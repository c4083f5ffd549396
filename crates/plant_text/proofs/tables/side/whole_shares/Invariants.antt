use Rattle.std.proofs.Common.{◌≡◌, length}
use Rattle.plant_text.specs.declared.tables.side.SidePart.{SidePart}
use Rattle.plant_text.specs.Tables.{output_of, whole_tests}
use Rattle.plant_text.proofs.Reading.{IsAt}
use Rattle.plant_text.proofs.tables.side.whole_shares.Given as goal

abbrev pub invariant-loop-side : goal.invariant-loop-side
invariant-loop-side l = record {
  is_at : IsAt (λ (side : SidePart). side) (whole_tests l.owner l.quantum) (output_of l.quantum) l.sides l.side-index l.outputs;
  few : length l.outputs ≡ l.side-index;
}
