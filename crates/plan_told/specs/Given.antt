-- What a search over a program with sums ended with, as of the given program.
use Rattle.std.specs.Prelude.{◌≡◌, ℕ, ℤ, if◌then◌else◌, length, take, Option, Some, None}
use Rattle.std.specs.Option.{option_map}
use Rattle.row_kit.specs.declared.found.Found.{Found}
use Rattle.row_kit.specs.declared.program.Program.{Program}
use Rattle.row_kit.specs.Point.{worth_of}
use Rattle.row_relax.specs.Settle.{is_lawful, only_point}
use Rattle.branch_tree.specs.declared.ended.Ended.{Ended}
use Rattle.branch_tree.specs.Compared.{better_of, is_over}

-- a found point cut back to so many slots
abbrev pub cut_found : ℕ → Found → Found
cut_found slots found = record { value = found.value; point = take slots found.point }

-- the least point of a program with its worth, where it is lawful
abbrev pub least_found : Program → Option Found
least_found part =
    if is_lawful part (only_point part.root)
    then Some (record { value = worth_of part (only_point part.root); point = only_point part.root })
    else None

-- the best of so many slots: the best found point cut back to them, or the least where there is one that is worth more or none was found
abbrev pub given_best : ℕ → Option Found → Option Found → Option Found
given_best slots least best = better_of (option_map (cut_found slots) best) least

-- the worth of a found point, where there is one
abbrev pub worth_found : Option Found → Option ℤ
worth_found found = option_map (λ f. f.value) found

-- what a search ended with as of so many slots: its best point there, and a box counts as left open where the cap is above the worth of that
abbrev pub given_end : ℕ → Option Found → Ended → Ended
given_end slots least ended = record {
  best = given_best slots least ended.best;
  cap = ended.cap;
  spent = ended.spent;
  left_open = is_over ended.cap (worth_found (given_best slots least ended.best));
}

-- this is what a search ended with as of a program, with its slots and its least point
abbrev pub IsGivenEnded : Program → Ended → Ended → Type 0
IsGivenEnded part ended given = given ≡ given_end (length part.root) (least_found part) ended
