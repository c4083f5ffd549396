-- The table of the loads: a line for each utility and period.
use Rattle.std.specs.Prelude.{ℕ, List, ◌++◌, length, flat_map, slice_index, codes, decimal}
use Rattle.std.specs.List.{range_with_len}
use Rattle.stn_model.specs.declared.plant.Plant.{Plant}
use Rattle.stn_model.specs.declared.start.Start.{Start}
use Rattle.stn_model.specs.Plant.{utility_at}
use Rattle.stn_model.specs.Load.{load}

-- the numbers of a utility in a period, after its name
unfoldable pub load_cells : ℕ → ℕ → ℕ → List ℕ
load_cells period drawn limit = codes "," ++ (decimal period ++ (codes "," ++ (decimal drawn ++ (codes "," ++ (decimal limit ++ codes "\n")))))

-- the line of a utility in a period
unfoldable pub load_line : Plant → List Start → ℕ → ℕ → List ℕ
load_line plant plan utility period =
    (utility_at plant utility).name ++ load_cells period (load plant plan utility period) (slice_index (utility_at plant utility).limits period)

-- the lines of a utility, in all periods
abbrev pub utility_lines : Plant → List Start → ℕ → List ℕ
utility_lines plant plan utility = flat_map (load_line plant plan utility) (range_with_len 0 plant.periods)

-- the head line of the loads
unfoldable pub loads_head : List ℕ
loads_head = codes "utility,period,load,limit\n"

-- the table of the loads
abbrev pub loads_text : Plant → List Start → List ℕ
loads_text plant plan = loads_head ++ flat_map (utility_lines plant plan) (range_with_len 0 (length plant.utilities))
