use Rattle.command_words.specs.Words.{texts}
use Rattle.command_words.proofs.WordLemmas.{last_form}
use Rattle.command_words.proofs.command.command_of.Goals as goal

pub returns : goal.returns
returns c =
    last_form (texts c.args.words.now) c.part_form.result
    c.in_default.ensures c.in_default-plan_form.ensures c.in_default-replan_form.ensures c.in_default-log_form.ensures c.in_default-horizon_form.ensures c.in_default-conflict_form.ensures c.part_form.ensures
