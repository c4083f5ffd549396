use Rattle.command_words.specs.Words.{texts}
use Rattle.command_words.proofs.WordLemmas.{last_plant_form}
use Rattle.command_words.proofs.command.plant_form.Goals as goal

pub returns : goal.returns
returns c =
    last_plant_form (texts c.args.words.now) c.demo_of.result
    c.in_default.ensures c.in_default-log_of.ensures c.in_default-print_of.ensures c.demo_of.ensures
