-- The first log, and those behind it.
use Rattle.std.proofs.Common.{ℕ, ◌<◌, Bool, List, sym, subst}
use Rattle.std.specs.Prelude.{IsTrue}
use Rattle.proof_log.specs.LogNames.{log_name}
use Rattle.log_parts.specs.PartLogs.{logs_of}
use Rattle.merge_checks.specs.laws.Checked.{IsKnownCheck}
use Rattle.merge_checks.proofs.LogsChecked.{first-checked-if, first-known, none-valid}
use Rattle.merge_checks.proofs.checking.check_logs.Goals as goal

pub check_others-requires-clause-can : goal.check_others-requires-clause-can
check_others-requires-clause-can g c = record {
  sound = c.requires.can.sound;
  some = c.requires.can.some;
  most = c.requires.can.most;
  allowed = subst (λ (may : List ℕ → Bool). (number : ℕ) → number < c.args.count → IsTrue (may (log_name c.args.stem.now number))) (sym c.in_ok-opened.ensures.frame.readable) c.requires.can.allowed;
}

pub check_others-requires-clause-first : goal.check_others-requires-clause-first
check_others-requires-clause-first g c =
    first-checked-if c.args.plant.now (g.F.Shelf.files c.args.files.now) (g.F.Shelf.files c.check_log.new.files) (λ m. logs_of m c.args.stem.now) c.in_ok-opened.field-0 c.in-Valid.opened c.in-Valid.claim c.in_ok-logs-in-Valid.logs
    c.in_ok-opened.ensures.frame.same c.in-Valid.is c.in_ok-opened.ensures.checked c.in_ok-logs-in-Valid.ensures

pub check_others-requires-clause-known : goal.check_others-requires-clause-known
check_others-requires-clause-known g c = first-known c.in-Valid.opened c.in-Valid.claim c.in_ok-logs-in-Valid.logs (subst IsKnownCheck c.in-Valid.is c.in_ok-opened.ensures.lines) c.in_ok-logs-in-Valid.ensures

pub returns-in-Bad-clause-checked : goal.returns-in-Bad-clause-checked
returns-in-Bad-clause-checked g c =
    none-valid c.args.plant.now (g.F.Shelf.files c.args.files.now) (λ m. logs_of m c.args.stem.now) c.args.count c.in_ok-opened.field-0 c.in-Bad.defect c.requires.can.some c.in-Bad.is c.in_ok-opened.ensures.checked
