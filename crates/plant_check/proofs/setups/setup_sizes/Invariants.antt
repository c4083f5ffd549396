-- The sizes of the units so far.
use Rattle.std.proofs.Common.{◌≡◌, map}
use Rattle.std.specs.List.{range_with_len}
use Rattle.valid_log.specs.Heads.{setup_size}
use Rattle.plant_check.proofs.setups.setup_sizes.Given as goal

abbrev pub invariant-loop-unit : goal.invariant-loop-unit
invariant-loop-unit l = l.sizes ≡ map (setup_size l.plant) (range_with_len 0 l.unit)
