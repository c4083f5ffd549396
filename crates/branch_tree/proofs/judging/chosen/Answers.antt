-- Scale 1 without multipliers is within itself.
use Rattle.std.proofs.Common.{sym, subst}
use Rattle.row_kit.specs.Area.{present}
use Rattle.dual_bound.specs.Plain.{IsNoWorseThanPlain}
use Rattle.dual_bound.proofs.Plain.{plain_within}
use Rattle.branch_tree.specs.laws.Grounds.{program_of}
use Rattle.branch_tree.proofs.judging.chosen.Goals as goal

pub lower-cert-requires-clause-no_higher : goal.lower-cert-requires-clause-no_higher
lower-cert-requires-clause-no_higher c =
    let program = program_of c.args.ground.now in
    let domains = present c.args.area.now in
    subst (IsNoWorseThanPlain program domains) (sym c.plain_cert.ensures) (plain_within program domains c.requires.each_open)
