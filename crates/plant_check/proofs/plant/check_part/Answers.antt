-- A right verdict over the program of a part is right of the part.
use Rattle.std.proofs.Common.{List, sym, ◌∙◌, subst}
use Rattle.std.specs.Prelude.{IfOk, IfSome}
use Rattle.stn_edge.specs.Files.{file_of}
use Rattle.row_kit.specs.declared.domain.Domain.{Domain}
use Rattle.sum_slots.specs.Shown.{AreRanges}
use Rattle.valid_log.specs.AnyVersion.{IsAnyVerdict}
use Rattle.valid_log.proofs.PlantRanges.{part-ranges}
use Rattle.plant_check.proofs.PlantSaying.{part_checked}
use Rattle.plant_check.proofs.plant.check_part.Goals as goal

pub check_any-requires-clause-ranges : goal.check_any-requires-clause-ranges
check_any-requires-clause-ranges g c =
    subst (λ (ds : List Domain). AreRanges c.args.part ds) (sym (c.as_slice-ranges.ensures ∙ c.in_ok-whole.ensures)) (part-ranges c.args.plant.now c.args.part c.requires.part)

pub check_any-requires-clause-root : goal.check_any-requires-clause-root
check_any-requires-clause-root g c =
    subst (λ (ds : List Domain). AreRanges c.args.part ds) (sym (c.as_slice-ranges.ensures ∙ c.in_ok-whole.ensures)) (part-ranges c.args.plant.now c.args.part c.requires.part)

pub returns-clause-checked : goal.returns-clause-checked
returns-clause-checked g c =
    let plant = c.args.plant.now in
    let part = c.args.part in
    let files = g.F.Shelf.files c.args.files.now in
    let name = c.args.name.now in
    part_checked plant part c.args.depth files name c.check_any.result
    (subst (λ (ds : List Domain). IfOk c.check_any.result (λ verdict. IfSome files (λ m. IsAnyVerdict plant part ds ds c.args.depth (file_of m name) verdict))) (c.as_slice-ranges.ensures ∙ c.in_ok-whole.ensures) c.check_any.ensures.verdict)
    c.check_any.ensures.says
