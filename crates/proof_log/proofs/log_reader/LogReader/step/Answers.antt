use Rattle.std.proofs.Common.{◌+◌, subst}
use Rattle.proof_log.specs.declared.log_reader.LogReader.{LogReader}
use Rattle.proof_log.specs.Step.{IsStepped, HasStepped}
use Rattle.proof_log.proofs.PartsRead.{part_read}
use Rattle.proof_log.proofs.log_reader.LogReader.step.Goals as goal

pub returns-clause-part : goal.returns-clause-part
returns-clause-part g c version head limits items claim is =
    let old = c.args.self.now in
    let new : LogReader = record { alloc = old.alloc; lines = c.next.new.self; gatherer = c.advance.new.gatherer } in
    let end = c.in_ok-end.end in
    let part = c.in_ok-part.part in
    let text = subst (λ bytes. IsStepped old.gatherer.limits old.gatherer.grammar (old.gatherer.number + 1) bytes end new.gatherer.grammar part) c.line.ensures c.in_ok-part.ensures.text in
    let made = subst (λ bytes. HasStepped bytes end old.gatherer new.gatherer part) c.line.ensures c.in_ok-part.ensures.made in
    part_read (g.F.Shelf.files c.args.files.now) c.args.name.now version head limits items claim old new end is c.in_ok-end.ensures.told c.in_ok-end.ensures.end c.in_ok-part.ensures.limits part text made
