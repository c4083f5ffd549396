-- What the search ended with is told.
use Rattle.std.proofs.Common.{ℕ, true, refl, sym, subst}
use Rattle.stn_model.specs.Points.{depth_limit}
use Rattle.logged_search.specs.Logging.{HasFewSplits}
use Rattle.stn_solve.proofs.Limited.{ending-at}
use Rattle.stn_solve.proofs.planning.plan_over.Goals as goal

pub search_only-requires-clause-splits : goal.search_only-requires-clause-splits
search_only-requires-clause-splits g c = subst (λ (n : ℕ). HasFewSplits n c.args.headed.now.rows.program) (sym c.depth_limit.ensures) c.requires.splits

pub told_given-requires : goal.told_given-requires
told_given-requires g c = record {
  sound = c.requires.sound;
  places = (let s = c.in_ok-ended.ensures.ended in c.requires.told.places c.in_ok-ended.ended s.tree (ending-at c.depth_limit.result (depth_limit c.args.plant.now) c.args.headed.now.rows true c.args.headed.now.given c.args.budget c.in_ok-ended.ended s.tree c.depth_limit.ensures s.of));
}

pub returns : goal.returns
returns g c =
    let s = c.in_ok-ended.ensures.ended in
    record {
      ended = c.in_ok-ended.ended;
      tree = s.tree;
      of = ending-at c.depth_limit.result (depth_limit c.args.plant.now) c.args.headed.now.rows true c.args.headed.now.given c.args.budget c.in_ok-ended.ended s.tree c.depth_limit.ensures s.of;
      begun = c.in_ok-ended.ensures.begun;
      told = c.in_ok-outcome.field-0;
      tells = c.in_ok-outcome.ensures;
      outcome_is = refl;
      text = tt;
    }
