-- The program of a part can be searched.
use Rattle.std.proofs.Common.{◌≡◌, ℕ, ◌≤◌, Bool, true, false, if◌then◌else◌, length, ap, refl, arith}
use Rattle.std.proofs.lemmas.List.{length-map}
use Rattle.stn_model.specs.declared.plant.Plant.{Plant}
use Rattle.stn_model.specs.Points.{depth_limit, slot_limit}
use Rattle.stn_model.specs.Sound.{Sound}
use Rattle.time_grid.specs.Slots.{slots}
use Rattle.time_grid.proofs.SlotList.{length-slots}
use Rattle.row_kit.specs.declared.program.Program.{Program}
use Rattle.row_set.specs.Parts.{IsPartOf}
use Rattle.row_set.specs.PlantProgram.{slot_domain}
use Rattle.row_set.proofs.Limits.{part-slots}
use Rattle.branch_tree.specs.Searched.{IsSearchable}
use Rattle.branch_tree.proofs.Depths.{spared_sum}
use Rattle.head_choice.proofs.Limits.{limits-nine}

-- a part has no more slots than a program over the plant may have
pub part-few : (plant : Plant) (part : Program) → Sound plant → IsPartOf plant part → length part.root ≤ slot_limit plant
part-few plant part sound is = by plant.large refl
  where
    by : (large : Bool) → plant.large ≡ large → length part.root ≤ (if large then 4096 else 512)
    by true large = part-slots plant part sound is
    by false small =
        let few = (sound.small small).slots in
        omega (arith, few, part.one_tag, is.whole.one_tag, ap length is.but_root.tags, ap length is.made.root_is, length-map (slots plant) (slot_domain plant), length-slots plant)

-- so it can be searched, where as many splits may stand one below another as in a log over the plant
pub part-searchable : (plant : Plant) (part : Program) (most : ℕ) → most ≡ depth_limit plant → Sound plant → IsPartOf plant part → IsSearchable most part
part-searchable plant part most deep sound is = record {
  each_open = is.each_open;
  few_splits = (let few = part-few plant part sound is in let nine = limits-nine plant in omega (arith, spared_sum part.root, few, nine, deep));
}
