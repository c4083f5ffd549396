use Rattle.std.proofs.Common.{ℤ, subst, ◌∙◌, rules}
use Rattle.std.proofs.lemmas.Int.{to_z-of_z}
use mir.Val.{SFits, to_z, of_z}
use mir.Syntax.{w128}
use Rattle.plan_commands.specs.Rolling.{IsRolledFile}
use Rattle.plan_commands.proofs.RolledLine.{rolled_file}
use Rattle.plan_commands.proofs.rolling.plant_text.Goals as goal

pub returns : goal.returns
returns c =
    let fits : SFits w128 c.in_ok-earned.earned = search rules in
    let earned = to_z w128 (of_z w128 c.in_ok-earned.earned) in
    subst (λ (amount : ℤ). IsRolledFile amount c.args.rolled.now c.put_plant.new.into.items) (to_z-of_z w128 c.in_ok-earned.earned fits ∙ c.in_ok-earned.ensures)
    (rolled_file earned c.args.rolled.now c.in_ok-text.text.items c.put_plant.new.into.items c.bounded.ensures c.requires.rolled_sound c.in_ok-text.ensures c.in_ok-put_plant.ensures.ok)
