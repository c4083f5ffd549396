-- The proof, and then the claim.
use Rattle.std.proofs.Common.{rules}
use Rattle.std.specs.Prelude.{IsTrue}
use Rattle.log_nodes.proofs.Frames.{both-then, both-writes}
use Rattle.resumed_log.specs.laws.Beside.{out_name}
use Rattle.resumed_log.proofs.Readers.{still-beside}
use Rattle.resumed_log.proofs.going_on.write_course.Goals as goal

pub finish-requires : goal.finish-requires
finish-requires g c =
    let proof = c.in_ok-write_proof.ensures in
    let may : IsTrue (g.F.Shelf.may_write c.write_proof.new.files (out_name c.write_proof.new.course.out)) = (still-beside proof.frame.readable proof.frame.writable proof.named c.requires.beside).may_write in
    search rules

pub returns-in_err-finish-clause-frame : goal.returns-in_err-finish-clause-frame
returns-in_err-finish-clause-frame g c = both-then c.in_ok-write_proof.ensures.named c.in_ok-write_proof.ensures.frame (both-writes c.in_err-finish.ensures.frame)

pub returns-clause-frame : goal.returns-clause-frame
returns-clause-frame g c = both-then c.in_ok-write_proof.ensures.named c.in_ok-write_proof.ensures.frame (both-writes c.in_ok-finish.ensures.frame)
