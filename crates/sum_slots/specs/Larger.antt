-- A program with a slot for each declared sum.
use Rattle.std.specs.Prelude.{◌≡◌, ℕ, ◌+◌, true, List, [], ◌∷◌, ◌++◌, length, map, take, ℤ, pos, neg_ℤ, ◌-ℤ◌, unsigned_abs}
use Rattle.std.specs.List.{All}
use Rattle.row_kit.specs.declared.domain.Domain.{Domain}
use Rattle.row_kit.specs.declared.program.Program.{Program}
use Rattle.row_kit.specs.declared.row.Entry.{Entry}
use Rattle.row_kit.specs.declared.row.Row.{Row}
use Rattle.row_kit.specs.declared.row.Tag.{Tag}
use Rattle.sum_slots.specs.declared.sum.Sum.{Sum}
use Rattle.sum_slots.specs.Shown.{most_value, opposites}
use Rattle.sum_slots.specs.Sum.{sum_value}

-- the domain of a sum's slot: all values up to the greatest that it is shown to have
abbrev pub sum_domain : Program → List Domain → Sum → Domain
sum_domain program ranges sum = record { zero = true; lo = 1; hi = most_value program ranges sum }

-- the entry of a sum's slot, which counts this much for each unit of its value
abbrev pub slot_entry : ℕ → ℤ → Entry
slot_entry slot per = record { slot = slot; fixed = pos 0; per = per }

-- the row that keeps a sum's slot from lying below the sum's value: the terms less width times the slot are at most width - 1 - offset
abbrev pub row_below : ℕ → Sum → Row
row_below slot sum = record {
  entries = sum.terms ++ slot_entry slot (neg_ℤ (pos sum.width)) ∷ [];
  limit = (pos sum.width -ℤ pos 1) -ℤ sum.offset;
}

-- the row that keeps a sum's slot from lying above the sum's value: width times the slot less the terms is at most offset
abbrev pub row_above : ℕ → Sum → Row
row_above slot sum = record { entries = opposites sum.terms ++ slot_entry slot (pos sum.width) ∷ []; limit = sum.offset }

-- the rows of sums whose slots are numbered from one on: two for each, in order
abbrev pub sum_rows : ℕ → List Sum → List Row
sum_rows slot [] = []
sum_rows slot (sum ∷ sums) = row_below slot sum ∷ (row_above slot sum ∷ sum_rows (slot + 1) sums)

-- the tag of a sum's slot in a lane
abbrev pub sum_tag : ℕ → Tag
sum_tag lane = record { lane = lane; place = 0; kind = 0; opening = 0 }

-- a program is another with sums that are shown by these domains: a slot for each after all others, without profit and in a lane that no other slot has, and two rows for each after all others
pub record IsWithSums (program : Program) (ranges : List Domain) (sums : List Sum) (larger : Program) : Type 0 where
  pub lane : ℕ
  pub free : All (λ tag. tag.lane ≡ lane → ⊥) program.tags
  pub tags : larger.tags ≡ program.tags ++ map (λ sum. sum_tag lane) sums
  pub root : larger.root ≡ program.root ++ map (sum_domain program ranges) sums
  pub rows : larger.rows ≡ program.rows ++ sum_rows (length program.root) sums
  pub profit : larger.profit ≡ program.profit
  pub base : larger.base ≡ program.base
  pub changes : larger.changes ≡ program.changes

-- a point followed by the values that sums have there, which are not below 0 where the sums are shown and the point is lawful
abbrev pub completed : List Sum → List ℕ → List ℕ
completed sums point = point ++ map (λ sum. unsigned_abs (sum_value sum point)) sums

-- a point cut back to the slots of a program
abbrev pub given_of : Program → List ℕ → List ℕ
given_of program point = take (length program.root) point
