-- What stands at the front of the first part's log.
use Rattle.std.proofs.Common.{◌∙◌}
use Rattle.log_parts.proofs.PartsChecked.{front_found, front_kept}
use Rattle.joined_parts.proofs.checking.first_front.Goals as goal

pub returns-clause-front : goal.returns-clause-front
returns-clause-front g c =
    front_found c.args.plant.now c.args.levels 0 c.in_ok-rows.rows.program (g.F.Shelf.files c.args.files.now) c.as_str-file.result.now c.args.stem.now c.in_ok-front.front
    (c.as_str-file.ensures.value ∙ c.in_ok-name.ensures) c.in_ok-rows.ensures.part c.in_ok-rows.ensures.root (rw c.part_depth-depth.ensures at c.in_ok-front.ensures.front)

pub returns-clause-kept : goal.returns-clause-kept
returns-clause-kept g c =
    front_kept c.args.plant.now c.args.levels 0 c.in_ok-rows.rows.program c.in_ok-front.front c.in_ok-rows.ensures.part c.in_ok-rows.ensures.root (rw c.part_depth-depth.ensures at c.in_ok-front.ensures.kept)
