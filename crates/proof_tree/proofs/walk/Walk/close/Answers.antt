-- A closed split leaves the others as they stand, with the greater cap.
use Rattle.std.proofs.Common.{◌≡◌, ◌∷◌, Some, length, map, ap, sym, ◌∙◌, rules}
use Rattle.proof_tree.specs.Walk.{opened, close}
use Rattle.proof_tree.specs.laws.Led.{innermost_left}
use Rattle.proof_tree.proofs.Walking.{close-innermost, StandBelow-rest}
use Rattle.proof_tree.proofs.walk.Walk.close.Goals as goal

pub loop-left-preserved : goal.loop-left-preserved
loop-left-preserved g c =
    let s = g.R.Relaxation.steps c.args.r.now in
    let views = g.R.Relaxation.views c.args.area.now in
    let all = c.loop-left.self.splits in
    let rest = c.pop-closed.new.self in
    let held : all ≡ c.pop-closed.result ∷ rest = c.pop-closed.ensures in
    let is : innermost_left all ≡ Some c.in-Some.left = search rules in
    let closed = close-innermost s views all c.pop-closed.result rest c.in-Some.left c.loop-left.cap held is in
    record {
      stands = StandBelow-rest s views (length views) c.args.first all c.pop-closed.result rest held c.loop-left.invariant.stands;
      closes = ap (close s (map (opened views) rest)) c.greater_cap-cap.ensures ∙ (sym closed ∙ c.loop-left.invariant.closes);
      same_first = c.loop-left.invariant.same_first;
    }
