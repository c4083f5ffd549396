use Rattle.command_words.specs.Words.{texts}
use Rattle.command_words.proofs.PartWords.{last_part_form}
use Rattle.command_words.proofs.part_words.part_form.Goals as goal

pub returns : goal.returns
returns c = last_part_form (texts c.args.words.now) c.join_of.result c.in_default.ensures c.in_default-solve_part_of.ensures c.join_of.ensures
