-- A right verdict over the rows of a part, and the head of its log.
use Rattle.std.proofs.Common.{◌∙◌, ℕ, subst, IfSome}
use Rattle.stn_edge.specs.Files.{file_of}
use Rattle.valid_log.specs.declared.verdict.LogVerdict.{LogVerdict}
use Rattle.valid_log.specs.declared.verdict.LogVerdict.TheVariants.{No, Yes}
use Rattle.valid_log.specs.Claims.{YesSaysOf}
use Rattle.valid_log.specs.PlantLogs.{IsAnyPartChecked}
use Rattle.log_parts.proofs.PartsChecked.{no_checked, part_said, yes_checked}
use Rattle.joined_parts.proofs.checking.check_log.Goals as goal

pub compared-requires : goal.compared-requires
compared-requires g c = (c.args.plant.now, (_, c.in_ok-front.ensures.kept))

pub returns-in-Yes-clause-checked : goal.returns-in-Yes-clause-checked
returns-in-Yes-clause-checked g c =
    let program = c.in_ok-rows.rows.program in
    let mid = g.F.Shelf.files c.read_front.new.files in
    let checked = subst (λ (said : LogVerdict). IfSome mid (λ m. IsAnyPartChecked c.args.plant.now program c.part_depth-depth.result (file_of m c.as_str-file.result.now) said)) c.in-Yes.is c.in_ok-claim.ensures.checked in
    let right = subst (λ (depth : ℕ). IfSome mid (λ m. IsAnyPartChecked c.args.plant.now program depth (file_of m c.as_str-file.result.now) (Yes c.in-Yes.claim))) c.part_depth-depth.ensures checked in
    yes_checked c.args.plant.now c.args.levels c.args.part program (g.F.Shelf.files c.args.files.now) mid c.as_str-file.result.now c.args.stem.now c.args.declared.now c.in_ok-front.front c.in-Yes.claim c.compared.result
    (c.as_str-file.ensures.value ∙ c.in_ok-name.ensures) c.in_ok-front.ensures.frame.same c.in_ok-rows.ensures.part c.in_ok-rows.ensures.root (rw c.part_depth-depth.ensures at c.in_ok-front.ensures.front) right c.compared.ensures

pub returns-in-Yes-clause-says : goal.returns-in-Yes-clause-says
returns-in-Yes-clause-says g c =
    let program = c.in_ok-rows.rows.program in
    part_said c.args.plant.now c.args.levels c.args.part program c.args.declared.now c.in_ok-front.front c.in-Yes.claim c.compared.result c.in_ok-rows.ensures.exact
    (subst (YesSaysOf c.args.plant.now program) c.in-Yes.is c.in_ok-claim.ensures.says) c.compared.ensures

pub returns-clause-checked : goal.returns-clause-checked
returns-clause-checked g c =
    let program = c.in_ok-rows.rows.program in
    let mid = g.F.Shelf.files c.read_front.new.files in
    let checked = subst (λ (said : LogVerdict). IfSome mid (λ m. IsAnyPartChecked c.args.plant.now program c.part_depth-depth.result (file_of m c.as_str-file.result.now) said)) c.in-No.is c.in_ok-claim.ensures.checked in
    let right = subst (λ (depth : ℕ). IfSome mid (λ m. IsAnyPartChecked c.args.plant.now program depth (file_of m c.as_str-file.result.now) (No c.in-No.defect))) c.part_depth-depth.ensures checked in
    no_checked c.args.plant.now c.args.levels c.args.part program (g.F.Shelf.files c.args.files.now) mid c.as_str-file.result.now c.args.stem.now c.args.declared.now c.in-No.defect
    (c.as_str-file.ensures.value ∙ c.in_ok-name.ensures) c.in_ok-front.ensures.frame.same c.in_ok-rows.ensures.part c.in_ok-rows.ensures.root right
