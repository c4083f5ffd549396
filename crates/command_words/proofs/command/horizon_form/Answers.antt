use Rattle.command_words.specs.Words.{texts}
use Rattle.command_words.proofs.WordLemmas.{last_horizon_form}
use Rattle.command_words.proofs.command.horizon_form.Goals as goal

pub returns : goal.returns
returns c = last_horizon_form (texts c.args.words.now) c.check_least_of.result c.in_default.ensures c.in_default-least_logs_of.ensures c.check_least_of.ensures
