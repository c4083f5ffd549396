-- A part that has a head by its later slots has many points in all.
use Rattle.std.proofs.Common.{◌∙◌, sym}
use Rattle.stn_solve.proofs.SearchTold.{headed-whole}
use Rattle.stn_solve.proofs.part.solve_rows_to.Goals as goal

pub solve_headed_to-requires-clause-can : goal.solve_headed_to-requires-clause-can
solve_headed_to-requires-clause-can g c = record {
  sound = c.requires.sound;
  part_of = c.requires.part;
  ranges = c.requires.ranges;
  many = headed-whole c.args.part.program c.args.part.levels c.requires.part.each_open (sym c.has_many.ensures ∙ c.if-has_many.true);
  few = c.requires.budget;
}
