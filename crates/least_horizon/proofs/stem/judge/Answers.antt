-- What the check of the log says of the plant within the horizon.
use Rattle.std.proofs.Common.{◌≡◌, None, subst}
use Rattle.std.proofs.lemmas.Result.{IfOk-weaker}
use Rattle.std.specs.Prelude.{Option}
use Rattle.log_lines.specs.declared.defect.Defect.{Defect}
use Rattle.stn_model.specs.declared.plant.Plant.{Plant}
use Rattle.stn_model.specs.Best.{NoPlan}
use Rattle.least_horizon.proofs.stem.judge.Goals as goal

pub returns-clause-says : goal.returns-clause-says
returns-clause-says g c =
    IfOk-weaker c.speaks_against.result _ _
    (λ (found : Option Defect) (says : found ≡ None → NoPlan c.in_ok-short.short). λ (none : found ≡ None). subst (λ (short : Plant). NoPlan short) c.in_ok-short.ensures.short (says none))
    c.speaks_against.ensures.says
