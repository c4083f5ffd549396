-- The open splits show the same after a cut.
use Rattle.std.proofs.Common.{refl}
use Rattle.proof_tree.specs.declared.walk.Expected.TheVariants.{Inside}
use Rattle.proof_tree.proofs.Walking.{Led-forward}
use Rattle.proof_tree.proofs.walk.Walk.narrow.Goals as goal

pub returns-then-cut-clause-led : goal.returns-then-cut-clause-led
returns-then-cut-clause-led g c =
    let moves = c.if-cut.ensures.moves in
    Led-forward (g.R.Relaxation.steps c.args.r.now) c.args.first c.args.self.now (record c.args.self.now { expected = Inside }) (g.R.Relaxation.views c.args.area.now) (g.R.Relaxation.views c.cut.new.area) _ refl moves.0 moves.1 c.requires.stands
