-- A part that has a head by its later slots has many points in all.
use Rattle.std.proofs.Common.{◌∙◌, sym}
use Rattle.stn_solve.proofs.SearchTold.{headed-whole}
use Rattle.stn_solve.proofs.part.plan_rows.Goals as goal

pub plan_headed-requires : goal.plan_headed-requires
plan_headed-requires g c = record {
  sound = c.requires.sound;
  part_of = c.requires.part;
  ranges = c.requires.ranges;
  many = headed-whole c.args.part c.args.levels c.requires.part.each_open (sym c.has_many.ensures ∙ c.if-has_many.true);
  few = c.requires.budget;
}
