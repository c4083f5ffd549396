use Rattle.answer_texts.proofs.planning.boxes_lines.Goals as goal

pub returns-in-Some : goal.returns-in-Some
returns-in-Some c = rw c.in-Some.is c.format.ensures.ok
