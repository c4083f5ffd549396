use Rattle.command_words.specs.Words.{texts}
use Rattle.command_words.proofs.WordLemmas.{last_conflict_form}
use Rattle.command_words.proofs.conflict_words.conflict_form.Goals as goal

pub returns : goal.returns
returns c = last_conflict_form (texts c.args.words.now) c.check_conflict_of.result c.in_default.ensures c.in_default-conflict_logs_of.ensures c.check_conflict_of.ensures
