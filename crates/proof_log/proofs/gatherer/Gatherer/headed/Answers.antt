-- The header may come first, and leads to the first node.
use Rattle.std.proofs.Common.{refl}
use Rattle.proof_log.specs.declared.group.Group.TheVariants.{Nothing}
use Rattle.proof_log.proofs.Headed.{header_taken, headed}
use Rattle.proof_log.proofs.gatherer.Gatherer.headed.Goals as goal

pub returns-clause-grammar : goal.returns-clause-grammar
returns-clause-grammar c =
    header_taken c.args.version c.version_behind.result c.args.limits c.new-grammar.result c.take.new.self c.in_ok-take.field-0 c.version_behind.ensures c.new-grammar.ensures c.in_ok-take.ensures.kind c.in_ok-take.ensures.moves

pub returns-clause-gathered : goal.returns-clause-gathered
returns-clause-gathered c =
    headed c.args.version (record { limits = c.args.limits; grammar = c.take.new.self; group = Nothing; number = 1; began = 2 }) (returns-clause-grammar c) refl refl refl
