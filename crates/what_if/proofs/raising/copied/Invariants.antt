-- What has been copied so far.
use Rattle.std.proofs.Common.{◌≡◌, take}
use Rattle.what_if.proofs.raising.copied.Given as goal

abbrev pub invariant-loop-item : goal.invariant-loop-item
invariant-loop-item g l = l.copy ≡ take l.item-index l.items
