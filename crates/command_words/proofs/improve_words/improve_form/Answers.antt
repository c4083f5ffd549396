use Rattle.command_words.specs.Words.{texts}
use Rattle.command_words.proofs.WordLemmas.{last_improve_form}
use Rattle.command_words.proofs.improve_words.improve_form.Goals as goal

pub returns : goal.returns
returns c = last_improve_form (texts c.args.words.now) c.log_improve_of.result c.in_default.ensures c.log_improve_of.ensures
