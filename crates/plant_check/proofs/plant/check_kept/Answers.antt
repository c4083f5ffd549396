-- A right verdict over the program that kept starts leave is right of it.
use Rattle.std.proofs.Common.{List, sym, ◌∙◌, subst}
use Rattle.std.specs.Prelude.{IfOk, IfSome}
use Rattle.stn_edge.specs.Files.{file_of}
use Rattle.row_kit.specs.declared.domain.Domain.{Domain}
use Rattle.row_set.specs.PlantProgram.{plant_root}
use Rattle.sum_slots.specs.Shown.{AreRanges}
use Rattle.sum_slots.proofs.Ranges.{own-ranges}
use Rattle.valid_log.specs.AnyVersion.{IsAnyVerdict}
use Rattle.valid_log.proofs.PlantRanges.{part-ranges}
use Rattle.plant_check.proofs.PlantSaying.{kept_checked}
use Rattle.plant_check.proofs.plant.check_kept.Goals as goal

pub check_any-requires-clause-ranges : goal.check_any-requires-clause-ranges
check_any-requires-clause-ranges g c =
    subst (λ (ds : List Domain). AreRanges c.args.part ds) (sym (c.as_slice-2.ensures ∙ c.in_ok-ranges.ensures)) (part-ranges c.args.plant.now c.args.part c.requires.part)

pub check_any-requires-clause-root : goal.check_any-requires-clause-root
check_any-requires-clause-root g c =
    subst (λ (ds : List Domain). AreRanges c.args.part ds) (sym (c.as_slice-3.ensures ∙ c.in_ok-root.ensures ∙ c.as_slice.ensures)) (own-ranges c.args.part)

pub returns-clause-checked : goal.returns-clause-checked
returns-clause-checked g c =
    let plant = c.args.plant.now in
    let part = c.args.part in
    let files = g.F.Shelf.files c.args.files.now in
    let name = c.args.name.now in
    let root = c.as_slice-3.ensures ∙ c.in_ok-root.ensures ∙ c.as_slice.ensures in
    let own = subst (λ (ds : List Domain). IfOk c.check_any.result (λ verdict. IfSome files (λ m. IsAnyVerdict plant part ds c.as_slice-3.result.now c.args.depth (file_of m name) verdict))) (c.as_slice-2.ensures ∙ c.in_ok-ranges.ensures) c.check_any.ensures.verdict in
    kept_checked plant part c.args.depth files name c.check_any.result
    (subst (λ (ds : List Domain). IfOk c.check_any.result (λ verdict. IfSome files (λ m. IsAnyVerdict plant part (plant_root plant) ds c.args.depth (file_of m name) verdict))) root own)
    c.check_any.ensures.says
