use Rattle.command_words.specs.Words.{texts}
use Rattle.command_words.proofs.UseWords.{last_plan_form}
use Rattle.command_words.proofs.plan_words.plan_form.Goals as goal

pub returns : goal.returns
returns c =
    last_plan_form (texts c.args.words.now) c.rest_of.result
    c.in_default.ensures c.in_default-table_of.ensures c.in_default-roll_of.ensures c.rest_of.ensures
