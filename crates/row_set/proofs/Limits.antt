-- The program of a plant, and that of a part, have few slots and rows, and each slot has a value.
use Rattle.std.proofs.Common.{◌≡◌, ◌≤◌, length, ap, sym, subst, arith}
use Rattle.std.specs.List.{All}
use Rattle.std.proofs.lemmas.List.{length-map}
use Rattle.stn_model.specs.declared.plant.Plant.{Plant}
use Rattle.stn_model.specs.Sound.{Sound}
use Rattle.time_grid.specs.Slots.{slots}
use Rattle.time_grid.proofs.SlotList.{few-slots}
use Rattle.row_kit.specs.declared.program.Program.{Program}
use Rattle.row_kit.specs.Domain.{IsOpen}
use Rattle.row_set.specs.Parts.{IsPartOf}
use Rattle.row_set.specs.PlantProgram.{IsMadeOf, slot_domain}
use Rattle.row_set.proofs.Bounds.{length-plant_rows}
use Rattle.row_set.proofs.Roots.{root-open}

pub made-slots : (plant : Plant) (program : Program) → Sound plant → IsMadeOf plant program → length program.root ≤ 4096
made-slots plant program sound made = omega (arith, ap length made.root_is, length-map (slots plant) (slot_domain plant), few-slots plant sound)

pub made-rows : (plant : Plant) (program : Program) → Sound plant → IsMadeOf plant program → length program.rows ≤ 198464
made-rows plant program sound made = omega (arith, ap length made.rows_are, length-plant_rows plant sound)

pub made-open : (plant : Plant) (program : Program) → IsMadeOf plant program → All IsOpen program.root
made-open plant program made = subst (All IsOpen) (sym made.root_is) (root-open plant)

pub part-slots : (plant : Plant) (part : Program) → Sound plant → IsPartOf plant part → length part.root ≤ 4096
part-slots plant part sound is = omega (arith, part.one_tag, is.whole.one_tag, ap length is.but_root.tags, made-slots plant is.whole sound is.made)

pub part-rows : (plant : Plant) (part : Program) → Sound plant → IsPartOf plant part → length part.rows ≤ 198464
part-rows plant part sound is = omega (arith, ap length is.but_root.rows, made-rows plant is.whole sound is.made)
