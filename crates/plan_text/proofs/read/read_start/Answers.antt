use Rattle.std.proofs.Common.{◌∙◌}
use Rattle.plan_text.proofs.Reading.{line_start-parts}
use Rattle.plan_text.proofs.read.read_start.Goals as goal

pub returns : goal.returns
returns c =
    c.read_words.ensures
    ∙ line_start-parts c.args.plant.now c.args.line.now _ _ _ _ _ _ c.cut_at.ensures.before c.cut_at.ensures.after c.cut_at-2.ensures.before c.cut_at-2.ensures.after c.cut_at-3.ensures.before c.cut_at-3.ensures.after
