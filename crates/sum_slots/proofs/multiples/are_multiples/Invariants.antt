-- Whether the entries are multiples is up to those that are left.
use Rattle.std.proofs.Common.{◌≡◌, drop, map}
use Rattle.sum_slots.specs.Shown.{are_multiples, turned}
use Rattle.sum_slots.proofs.multiples.are_multiples.Given as goal

abbrev pub invariant-loop-place : goal.invariant-loop-place
invariant-loop-place l =
    are_multiples l.factor (map (turned l.turn) (drop l.place l.terms)) (drop l.place l.entries) ≡ are_multiples l.factor (map (turned l.turn) l.terms) l.entries
