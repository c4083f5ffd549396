-- The old log is read from its head on while its items are put.
use Rattle.std.proofs.Common.{◌∙◌, rules}
use Rattle.std.specs.Prelude.{IsTrue}
use Rattle.log_nodes.proofs.Frames.{both-then, both-writes}
use Rattle.resumed_log.specs.laws.Beside.{out_name}
use Rattle.resumed_log.specs.laws.Walks.{CanWriteBeside}
use Rattle.resumed_log.proofs.Readers.{still-beside}
use Rattle.resumed_log.proofs.copying.copy_whole.Goals as goal

pub returns-in_err-out-clause-frame : goal.returns-in_err-out-clause-frame
returns-in_err-out-clause-frame g c = both-writes c.in_err-out.ensures.frame

pub copy_proof-requires : goal.copy_proof-requires
copy_proof-requires g c =
    let begun = c.in_ok-out.ensures in
    let may : CanWriteBeside (g.F.Shelf.may_read c.begin.new.files) (g.F.Shelf.may_write c.begin.new.files) c.args.task.pair.log.now (out_name c.in_ok-out.out) = still-beside begun.frame.readable begun.frame.writable begun.named c.requires.beside in
    search rules

pub returns-in_err-claim-clause-frame : goal.returns-in_err-claim-clause-frame
returns-in_err-claim-clause-frame g c = both-then c.in_ok-out.ensures.named (both-writes c.in_ok-out.ensures.frame) c.in_err-claim.ensures.frame

pub finish-requires : goal.finish-requires
finish-requires g c =
    let begun = c.in_ok-out.ensures in
    let proof = c.in_ok-claim.ensures in
    let may : IsTrue (g.F.Shelf.may_write c.copy_proof.new.files (out_name c.copy_proof.new.out)) = (still-beside (proof.frame.readable ∙ begun.frame.readable) (proof.frame.writable ∙ begun.frame.writable) (proof.named ∙ begun.named) c.requires.beside).may_write in
    search rules

pub returns-clause-frame : goal.returns-clause-frame
returns-clause-frame g c =
    let begun = c.in_ok-out.ensures in
    let proof = c.in_ok-claim.ensures in
    both-then (proof.named ∙ begun.named) (both-then begun.named (both-writes begun.frame) proof.frame) (both-writes c.finish.ensures.frame)
