-- The slots, and the changes in the periods so far.
use Rattle.std.proofs.Common.{◌≡◌, ◌++◌, filter, map}
use Rattle.std.specs.List.{range_with_len}
use Rattle.setup_slots.specs.declared.setup.SetupSlot.TheVariants.{Change}
use Rattle.setup_slots.specs.Slots.{is_change}
use Rattle.setup_slots.proofs.slots.push_changes.Given as goal

abbrev pub invariant-loop-period : goal.invariant-loop-period
invariant-loop-period l = l.setups.items ≡ l.initial.setups.items ++ map (Change l.from l.to) (filter (is_change l.plant l.unit l.from l.to) (range_with_len 0 l.period))
