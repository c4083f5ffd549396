use Rattle.command_words.specs.Words.{texts}
use Rattle.command_words.proofs.WordLemmas.{last_log_form}
use Rattle.command_words.proofs.log_words.log_form.Goals as goal

pub returns : goal.returns
returns c =
    last_log_form (texts c.args.words.now) c.merge_of.result
    c.in_default.ensures c.in_default-estimate_of.ensures c.in_default-resume_form.ensures c.merge_of.ensures
