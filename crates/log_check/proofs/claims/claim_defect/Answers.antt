-- The point of the claim is the one that was tested.
use Rattle.std.proofs.Common.{MatchOption, subst}
use Rattle.valid_log.specs.Meaning.{CappedDefect, IsWorth, AllowsMore}
use Rattle.log_check.proofs.claims.claim_defect.Goals as goal

pub returns-in-Optimal : goal.returns-in-Optimal
returns-in-Optimal c =
    rw c.in-Optimal.is
    (subst (λ p. MatchOption c.capped_defect.result (IsWorth c.args.program.now c.in-Optimal.profit p × (¬ AllowsMore c.args.cap c.in-Optimal.profit)) (λ kind. CappedDefect c.args.program.now c.args.cap c.in-Optimal.profit c.in-Optimal.profit p kind))
    c.as_slice.ensures c.capped_defect.ensures)

pub returns-in-Between : goal.returns-in-Between
returns-in-Between c =
    rw c.in-Between.is
    (subst (λ p. MatchOption c.capped_defect-in-Between.result (IsWorth c.args.program.now c.in-Between.profit p × (¬ AllowsMore c.args.cap c.in-Between.most)) (λ kind. CappedDefect c.args.program.now c.args.cap c.in-Between.profit c.in-Between.most p kind))
    c.as_slice-in-Between.ensures c.capped_defect-in-Between.ensures)
