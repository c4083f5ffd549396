use Rattle.command_words.specs.Words.{texts}
use Rattle.command_words.proofs.WordLemmas.{last_resume_form}
use Rattle.command_words.proofs.resume_words.resume_form.Goals as goal

pub returns : goal.returns
returns c = last_resume_form (texts c.args.words.now) c.share_resume_of.result c.in_default.ensures c.share_resume_of.ensures
