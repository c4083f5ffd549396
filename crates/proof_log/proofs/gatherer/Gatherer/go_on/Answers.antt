-- The header and the end line make nothing.
use Rattle.proof_log.specs.Agree.{IsBody}
use Rattle.proof_log.proofs.Gathers.{made_edge}
use Rattle.proof_log.proofs.gatherer.Gatherer.go_on.Goals as goal

pub returns-clause-made : goal.returns-clause-made
returns-clause-made c before lines items claim comes =
    let edge : ¬ IsBody c.args.line = λ body. let yes = c.is_body.ensures.1 body in cc in
    made_edge lines items claim c.args.self.now before.version before.place before.sides c.args.line edge comes
