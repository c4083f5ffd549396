-- What has been added and what is still to add give the whole.
use Rattle.std.proofs.Common.{◌≡◌, ◌+◌, ◌*◌, ◌^◌, ◌≤◌, drop, length, ◌+ℤ◌, ◌-ℤ◌, unsigned_abs}
use Rattle.row_kit.specs.Area.{present}
use Rattle.dual_climb.specs.laws.Along.{entries_part, freed, part_along}
use Rattle.dual_climb.proofs.along.fall_to.Given as goal

abbrev pub invariant-loop-entry : goal.invariant-loop-entry
invariant-loop-entry l =
    let part = part_along l.gains.lines.items (present l.area) l.row l.own in
    let rest = entries_part (freed l.gains.lines.items l.own) (present l.area) (drop l.entry-index l.entry-items) in
    record {
      items : l.entry-items ≡ l.row.entries;
      few : length l.entry-items ≤ 4096;
      whole : l.sum +ℤ (rest l.own -ℤ rest l.factor) ≡ part l.own -ℤ part l.factor;
      small : unsigned_abs l.sum ≤ 2 ^ 81 + 2 ^ 104 * l.entry-index;
    }
