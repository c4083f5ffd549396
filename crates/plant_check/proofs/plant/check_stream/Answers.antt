-- A right verdict over the plant's program is right of the plant.
use Rattle.std.proofs.Common.{ℕ, List, sym, ◌∙◌, subst}
use Rattle.std.specs.Prelude.{IfOk, IfSome}
use Rattle.stn_edge.specs.Files.{file_of}
use Rattle.row_kit.specs.declared.domain.Domain.{Domain}
use Rattle.row_set.specs.PlantProgram.{plant_root}
use Rattle.valid_log.proofs.Saying.{whole-is_part, whole_says_if}
use Rattle.sum_slots.specs.Shown.{AreRanges}
use Rattle.valid_log.specs.AnyVersion.{IsAnyVerdict}
use Rattle.plant_check.proofs.PlantSaying.{any_checked}
use Rattle.valid_log.proofs.PlantRanges.{plant-ranges}
use Rattle.plant_check.proofs.plant.check_stream.Goals as goal

pub check_any-requires-clause-ranges : goal.check_any-requires-clause-ranges
check_any-requires-clause-ranges g c =
    subst (λ (ds : List Domain). AreRanges c.in_ok-program.program ds) (sym (c.as_slice-ranges.ensures ∙ c.in_ok-ranges.ensures))
    (plant-ranges c.args.plant.now c.in_ok-program.program c.in_ok-program.ensures.made)

pub check_any-requires-clause-root : goal.check_any-requires-clause-root
check_any-requires-clause-root g c =
    subst (λ (ds : List Domain). AreRanges c.in_ok-program.program ds) (sym (c.as_slice-ranges.ensures ∙ c.in_ok-ranges.ensures))
    (plant-ranges c.args.plant.now c.in_ok-program.program c.in_ok-program.ensures.made)

pub check_any-requires-clause-part : goal.check_any-requires-clause-part
check_any-requires-clause-part g c = whole-is_part c.args.plant.now c.in_ok-program.program c.in_ok-program.ensures.made c.in_ok-program.ensures.means

pub returns-clause-says : goal.returns-clause-says
returns-clause-says g c = whole_says_if c.args.plant.now c.in_ok-program.program c.check_any.result c.in_ok-program.ensures.means c.check_any.ensures.says

pub returns-clause-checked : goal.returns-clause-checked
returns-clause-checked g c =
    let plant = c.args.plant.now in
    let program = c.in_ok-program.program in
    let files = g.F.Shelf.files c.args.files.now in
    let name = c.args.name.now in
    any_checked plant program files name c.check_any.result c.requires.sound c.in_ok-program.ensures.made c.in_ok-program.ensures.means
    (subst (λ (depth : ℕ). IfOk c.check_any.result (λ verdict. IfSome files (λ m. IsAnyVerdict plant program (plant_root plant) (plant_root plant) depth (file_of m name) verdict))) c.depth_limit-depth.ensures
    (subst (λ (ds : List Domain). IfOk c.check_any.result (λ verdict. IfSome files (λ m. IsAnyVerdict plant program ds ds c.depth_limit-depth.result (file_of m name) verdict))) (c.as_slice-ranges.ensures ∙ c.in_ok-ranges.ensures) c.check_any.ensures.verdict))
    (whole_says_if plant program c.check_any.result c.in_ok-program.ensures.means c.check_any.ensures.says)
