-- The new log is begun, and then written.
use Rattle.log_nodes.proofs.Frames.{both-then, both-writes}
use Rattle.resumed_log.proofs.Readers.{still-beside}
use Rattle.resumed_log.proofs.going_on.write_with.Goals as goal

pub returns-in_err-out-clause-frame : goal.returns-in_err-out-clause-frame
returns-in_err-out-clause-frame g c = both-writes c.in_err-out.ensures.frame

pub write_course-requires-clause-beside : goal.write_course-requires-clause-beside
write_course-requires-clause-beside g c =
    let begun = c.in_ok-out.ensures in
    still-beside begun.frame.readable begun.frame.writable begun.named c.requires.beside

pub returns-clause-frame : goal.returns-clause-frame
returns-clause-frame g c = both-then c.in_ok-out.ensures.named (both-writes c.in_ok-out.ensures.frame) c.write_course.ensures.frame
