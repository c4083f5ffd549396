use Rattle.part_commands.proofs.JoinLemmas.{joined_leaves}
use Rattle.part_commands.proofs.joining.join_logs.Goals as goal

pub returns-in_ok-joined-in-Ok-clause-answer : goal.returns-in_ok-joined-in-Ok-clause-answer
returns-in_ok-joined-in-Ok-clause-answer g c = record {
  said = c.in-Ok.said;
  right = c.in-Ok.ensures.joined;
  says = c.in-Ok.ensures.says;
  kept = c.in-Ok.ensures.kept;
  status_is = c.in_ok-joined-in-Ok.ensures.0;
  text_is = c.in_ok-joined-in-Ok.ensures.1;
}

pub returns-in_ok-joined-in-Ok-clause-left : goal.returns-in_ok-joined-in-Ok-clause-left
returns-in_ok-joined-in-Ok-clause-left g c =
    joined_leaves c.args.plant.now c.args.levels.number c.args.stem.now c.args.log.now (g.F.Shelf.files c.args.files.now) (g.F.Shelf.files c.join.new.files) c.in-Ok.said c.requires.enough c.in-Ok.ensures.joined c.in-Ok.ensures.kept

pub returns-in_err-joined-in-Ok-clause-left : goal.returns-in_err-joined-in-Ok-clause-left
returns-in_err-joined-in-Ok-clause-left g c =
    joined_leaves c.args.plant.now c.args.levels.number c.args.stem.now c.args.log.now (g.F.Shelf.files c.args.files.now) (g.F.Shelf.files c.join.new.files) c.in-Ok.said c.requires.enough c.in-Ok.ensures.joined c.in-Ok.ensures.kept
