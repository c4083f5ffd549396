use Rattle.std.specs.Prelude.{[]}
use Rattle.std.proofs.lemmas.Result.{err_from_is_err_and}
use Rattle.command_replies.proofs.AnswerLemmas.{plant_refused, plant_answer}
use Rattle.listing_commands.specs.Printing.{Printed}
use Rattle.listing_commands.proofs.print_file.Goals as goal

pub returns-in_err-plant-clause-answer : goal.returns-in_err-plant-clause-answer
returns-in_err-plant-clause-answer g c =
    let p = err_from_is_err_and c.from_residual.result c.from_residual.ensures.1 in
    rw (p.1, p.2) (plant_refused (g.F.Shelf.files c.args.files.now) (g.F.Shelf.files c.plant_in.new.files) c.args.name.now [] (λ _. Printed c.args.usage) c.in_err-plant.field-0.0 c.in_err-plant.ensures.same c.in_err-plant.ensures.refused)

pub returns-clause-answer : goal.returns-clause-answer
returns-clause-answer g c =
    plant_answer (g.F.Shelf.files c.args.files.now) (g.F.Shelf.files c.plant_in.new.files) c.args.name.now [] (λ _. Printed c.args.usage) c.in_ok-plant.plant c.in_ok-plant.ensures.read
    c.in_ok-print_plant.field-0.status c.in_ok-print_plant.field-0.text.items c.in_ok-print_plant.ensures (λ _. c.in_ok-plant.ensures.same)
