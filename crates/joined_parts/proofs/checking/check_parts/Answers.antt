-- The head of the first log, or the defect of its head.
use Rattle.std.proofs.Common.{Option, IfSome, sym, subst}
use Rattle.stn_edge.specs.Files.{FileMap}
use Rattle.log_parts.specs.declared.heads.LogFront.{LogFront}
use Rattle.log_parts.specs.declared.heads.LogFront.TheVariants.{Whole}
use Rattle.log_parts.specs.PartLogs.{logs_of}
use Rattle.log_parts.specs.laws.Checked.{IsFrontKept, IsFrontOf, head_limits}
use Rattle.log_parts.proofs.PartsChecked.{first_refused}
use Rattle.joined_parts.proofs.checking.check_parts.Goals as goal

pub check_logs-requires-clause-kept : goal.check_logs-requires-clause-kept
check_logs-requires-clause-kept g c = subst (IsFrontKept c.args.plant.now (head_limits c.args.plant.now c.args.levels)) c.in-Whole.is c.in_ok-first.ensures.kept

pub check_logs-requires-clause-first : goal.check_logs-requires-clause-first
check_logs-requires-clause-first g c =
    let at = λ (said : LogFront) (told : Option FileMap). IfSome told (λ m. IsFrontOf c.args.plant.now c.args.levels 0 (logs_of m c.args.stem.now 0) said) in
    subst (at (Whole c.in-Whole.first)) (sym c.in_ok-first.ensures.frame.same) (subst (λ (said : LogFront). at said (g.F.Shelf.files c.args.files.now)) c.in-Whole.is c.in_ok-first.ensures.front)

pub returns-in-Bad-clause-checked : goal.returns-in-Bad-clause-checked
returns-in-Bad-clause-checked g c =
    first_refused c.args.plant.now c.args.levels c.args.stem.now (g.F.Shelf.files c.args.files.now) c.in_ok-first.field-0 c.in-Bad.defect c.in-Bad.is c.in_ok-first.ensures.front
