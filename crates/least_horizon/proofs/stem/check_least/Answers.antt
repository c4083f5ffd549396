-- Nothing speaks against one more log, and after the last no plan is feasible within any of the horizons.
use Rattle.std.proofs.Common.{arith}
use Rattle.stn_model.specs.Best.{NoPlan}
use Rattle.shorter_plant.specs.PlantAt.{plant_at}
use Rattle.least_horizon.proofs.Judged.{up_to, one_more_clear}
use Rattle.least_horizon.proofs.stem.check_least.Goals as goal

pub loop-shorter-preserved : goal.loop-shorter-preserved
loop-shorter-preserved g c = record {
  clear = one_more_clear c.args.plant.now c.args.stem.now (g.F.Shelf.files c.args.files.now) (g.F.Shelf.files c.loop-shorter.files) c.loop-shorter.shorter c.in_ok-defect.field-0
      c.loop-shorter.invariant.same c.in_default.is c.loop-shorter.invariant.clear c.in_ok-defect.ensures.judged;
  none = up_to (λ h. NoPlan (plant_at c.args.plant.now h)) c.loop-shorter.shorter c.loop-shorter.invariant.none (c.in_ok-defect.ensures.says c.in_default.is);
  same = cc;
  readable = cc;
  writable = cc;
  no_write = cc;
  later = omega arith;
}

pub returns-clause-says : goal.returns-clause-says
returns-clause-says g c = λ yes h some below. c.loop-shorter.invariant.none h some (omega arith)
