use Rattle.std.proofs.Common.{sym}
use Rattle.plant_labels.proofs.Alike.{alike}
use Rattle.plant_labels.proofs.SamePlans.{feasible_same}
use Rattle.plant_labels.proofs.SameProfits.{profit_same}
use Rattle.plant_labels.proofs.law.label_law.Goals as goal

pub returns : goal.returns
returns c = λ a b same plan. record {
  feasible = (feasible_same a b (alike a b same) plan, feasible_same b a (alike b a (sym same)) plan);
  earns = profit_same a b (alike a b same) plan;
}
