-- The points of a plant's program, and of the program of a part of its choices, lie in what the plant's slots may have.
use Rattle.std.proofs.Common.{◌≡◌, List, [], ◌∷◌, length, refl, arith, subst}
use Rattle.std.specs.List.{AllZip}
use Rattle.stn_model.specs.declared.plant.Plant.{Plant}
use Rattle.row_kit.specs.declared.domain.Domain.{Domain}
use Rattle.row_kit.specs.declared.program.Program.{Program}
use Rattle.row_set.specs.Parts.{IsPartOf, IsWithin}
use Rattle.row_set.specs.PlantProgram.{IsMadeOf, plant_root}
use Rattle.row_set.proofs.PartPoints.{lies-within}
use Rattle.sum_slots.specs.Shown.{AreRanges}
use Rattle.sum_slots.proofs.Ranges.{own-ranges}

-- the points of a plant's program lie in what its slots may have
pub plant-ranges : (plant : Plant) (program : Program) → IsMadeOf plant program → AreRanges program (plant_root plant)
plant-ranges plant program made = subst (AreRanges program) made.root_is (own-ranges program)

-- domains of which each holds only values of another are as many
same-length : (small large : List Domain) → AllZip IsWithin small large → length large ≡ length small
same-length [] [] within = refl
same-length [] (l ∷ ls) within = absurd within
same-length (s ∷ ss) [] within = absurd within
same-length (s ∷ ss) (l ∷ ls) within = omega (arith, same-length ss ls within.1)

-- so do those of the program of a part of its choices
pub part-ranges : (plant : Plant) (part : Program) → IsPartOf plant part → AreRanges part (plant_root plant)
part-ranges plant part is =
    subst (AreRanges part) is.made.root_is (record {
      same_length = same-length part.root is.whole.root is.within;
      normal = is.whole.root_normal;
      hold = λ point lies. lies-within part.root is.whole.root point is.within lies;
    })
