use Rattle.std.specs.Prelude.{⊤}
use Rattle.frozen_plan.specs.Frozen.{kept_starts}
use Rattle.std.specs.Option.{option_map}
use Rattle.stn_edge.specs.Files.{file_of}
use Rattle.log_commands.proofs.CheckReplanLemmas.{checked_open}
use Rattle.log_commands.proofs.checking_replan.check_replan.Goals as goal

pub returns-in-Open-clause-answer : goal.returns-in-Open-clause-answer
returns-in-Open-clause-answer g c =
    let found = c.in-Open.is in
    checked_open c.args.plant.now c.args.period.number (kept_starts c.args.period.number c.args.plan.now) (option_map (λ m. file_of m c.args.log.now) (g.F.Shelf.files c.args.files.now)) ⊤ c.in-Open.rows.program c.check_log_of.result
    (rw found at c.in_ok-rows.ensures) (rw c.depth_limit.ensures at c.check_log_of.ensures.answer)
