use Rattle.valid_log.proofs.Excluded.{exact}
use Rattle.valid_log.proofs.Alike.{alike, valid_alike}
use Rattle.valid_log.proofs.AnyVersions.{any_exact, yes-stays}
use Rattle.valid_log.proofs.OneLog.{one_log}
use Rattle.valid_log.proofs.law.verdicts_are_exact.Goals as goal

pub returns-clause-exact : goal.returns-clause-exact
returns-clause-exact c = exact

pub returns-clause-any_exact : goal.returns-clause-any_exact
returns-clause-any_exact c = any_exact

pub returns-clause-alike : goal.returns-clause-alike
returns-clause-alike c = λ plant version program judged sums units derivations rows other depth bytes claim enlarged enlarged2 valid.
    valid_alike rows other depth bytes claim (alike plant version program judged sums units derivations rows other enlarged enlarged2) valid

pub returns-clause-stays : goal.returns-clause-stays
returns-clause-stays c = yes-stays

pub returns-clause-one_text : goal.returns-clause-one_text
returns-clause-one_text c = one_log
