-- The laws of relaxations.
use Rattle.stn_model.specs.Profit.{profit}
use Rattle.row_set.specs.Parts.{IsAdmitted}
use Rattle.plan_images.proofs.Allowing.{floored}
use Rattle.plan_images.proofs.Imaging.{composed, derived-extend, shown-extend, with-rows}
use Rattle.plan_images.proofs.Losing.{none-lost, plain-settle, tree-caps}
use Rattle.plan_images.proofs.Plans.{part-relaxes}
use Rattle.plan_images.proofs.Setups.{choices-settle, derived-judged, derived-keep, setups-judged, setups-relax}
use Rattle.plan_images.proofs.Telling.{borne, told}
use Rattle.plan_images.proofs.law.plans_have_images.Goals as goal

pub returns-clause-parts : goal.returns-clause-parts
returns-clause-parts c = part-relaxes

pub returns-clause-sums : goal.returns-clause-sums
returns-clause-sums c = shown-extend

pub returns-clause-derivations : goal.returns-clause-derivations
returns-clause-derivations c = derived-extend

pub returns-clause-rows : goal.returns-clause-rows
returns-clause-rows c = λ plant part given larger alone more domains is keep added. with-rows (IsAdmitted plant part) (profit plant) given larger alone more domains is keep added

pub returns-clause-compose : goal.returns-clause-compose
returns-clause-compose c = λ plant part given larger alone larger_alone first second. composed (IsAdmitted plant part) (profit plant) given larger alone larger_alone first second

pub returns-clause-lost : goal.returns-clause-lost
returns-clause-lost c = none-lost

pub returns-clause-settled : goal.returns-clause-settled
returns-clause-settled c = plain-settle

pub returns-clause-settled_by : goal.returns-clause-settled_by
returns-clause-settled_by c = choices-settle

pub returns-clause-setups : goal.returns-clause-setups
returns-clause-setups c = setups-relax

pub returns-clause-kept : goal.returns-clause-kept
returns-clause-kept c = λ plant part given larger alone domains derivations first wide shown enlarged. derived-keep (IsAdmitted plant part) (profit plant) given larger alone domains derivations wide shown enlarged first

pub returns-clause-judged : goal.returns-clause-judged
returns-clause-judged c = setups-judged

pub returns-clause-judged_on : goal.returns-clause-judged_on
returns-clause-judged_on c = derived-judged

pub returns-clause-caps : goal.returns-clause-caps
returns-clause-caps c = λ plant part program alone settle sound is tree. tree-caps (IsAdmitted plant part) (profit plant) program alone settle sound is tree

pub returns-clause-floored : goal.returns-clause-floored
returns-clause-floored c = λ plant part floor cap caps. floored (IsAdmitted plant part) (profit plant) floor cap caps

pub returns-clause-borne : goal.returns-clause-borne
returns-clause-borne c = λ plant part of_values cap claim real caps is. borne (IsAdmitted plant part) (profit plant) of_values cap claim real caps is

pub returns-clause-told : goal.returns-clause-told
returns-clause-told c = λ plant part program of_values claim is reads says. told (IsAdmitted plant part) (profit plant) program of_values claim is reads says
