-- What is left of the trail: the marks up to the wanted one are as they were.
use Rattle.std.proofs.Common.{◌≡◌, ◌+◌, ◌≤◌, length, take, vec_len, vec_capacity}
use Rattle.row_kit.specs.Area.{history, IsSound}
use Rattle.row_kit.proofs.trail.undo_to.Given as goal

abbrev pub invariant-loop-trail : goal.invariant-loop-trail
invariant-loop-trail l = record {
  sound : IsSound l.domains.items l.trail.items (vec_capacity l.trail);
  left : l.mark ≤ vec_len l.trail;
  marks : take (l.mark + 1) (history l.domains.items l.trail.items) ≡ take (l.mark + 1) (history l.initial.domains.items l.initial.trail.items);
  slots : length l.domains.items ≡ length l.initial.domains.items;
}

abbrev pub decreases-loop-trail : goal.decreases-loop-trail
decreases-loop-trail l = vec_len l.trail
