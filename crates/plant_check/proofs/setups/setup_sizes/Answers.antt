-- One unit's size more.
use Rattle.std.proofs.Common.{List, [], ◌∷◌, ◌++◌, ap₂, ◌∙◌, sym, arith}
use Rattle.std.proofs.lemmas.List.FromFn.{map-range_with_len_more}
use Rattle.setup_lines.specs.declared.setups.SetupSize.{SetupSize}
use Rattle.valid_log.specs.Heads.{setup_size}
use Rattle.plant_check.proofs.setups.setup_sizes.Goals as goal

pub loop-unit-preserved : goal.loop-unit-preserved
loop-unit-preserved c =
    let unit = c.loop-unit.unit in
    c.in_ok-push.ensures.ok ∙ ap₂ (λ (sizes : List SetupSize) (size : SetupSize). sizes ++ size ∷ []) c.loop-unit.invariant c.in_ok-size_of.ensures
    ∙ sym (map-range_with_len_more (setup_size c.args.plant.now) 0 unit unit (omega arith))
