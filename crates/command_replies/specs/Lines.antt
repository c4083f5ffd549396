-- The lines of refused files.
use Rattle.std.specs.Prelude.{ℕ, List, ◌++◌, codes, decimal}
use Rattle.plant_text.specs.declared.fault.PlantFault.{PlantFault}
use Rattle.plant_text.specs.Words.{table_word, key_word}
use Rattle.plan_text.specs.declared.fault.PlanFault.{PlanFault}

-- the line on a plant file with this fault: its kind, table, item, inner item and key
unfoldable pub fault_text : PlantFault → List ℕ
fault_text fault =
    codes "refused plant " ++ (decimal fault.kind ++ (codes " " ++ (table_word fault.table ++ (codes " " ++
    (decimal fault.item ++ (codes " " ++ (decimal fault.inner ++ (codes " " ++ (key_word fault.key ++ codes "\n")))))))))

-- the line on a plan file with this fault: its kind and its line
unfoldable pub plan_fault_text : PlanFault → List ℕ
plan_fault_text fault = codes "refused plan " ++ (decimal fault.kind ++ (codes " " ++ (decimal fault.line ++ codes "\n")))
