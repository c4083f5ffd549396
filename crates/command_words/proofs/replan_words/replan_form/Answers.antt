use Rattle.command_words.specs.Words.{texts}
use Rattle.command_words.proofs.WordLemmas.{last_replan_form}
use Rattle.command_words.proofs.replan_words.replan_form.Goals as goal

pub returns : goal.returns
returns c =
    last_replan_form (texts c.args.words.now) c.improve_form.result
    c.in_default.ensures c.in_default-log_replan_of.ensures c.in_default-check_replan_of.ensures c.improve_form.ensures
