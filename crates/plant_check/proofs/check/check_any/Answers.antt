-- The answer on a log without a head is that on a log of any version.
use Rattle.std.proofs.Common.{subst}
use Rattle.std.specs.Prelude.{Option, IfOk, IfSome}
use Rattle.stn_edge.specs.Files.{FileMap, file_of}
use Rattle.log_lines.specs.declared.grammar.Limits.{Limits}
use Rattle.row_relax.specs.Choices.{plain}
use Rattle.sum_lines.specs.declared.head.Front.{Front}
use Rattle.sum_lines.specs.Front.{IsFront}
use Rattle.valid_log.specs.Heads.{limits_with}
use Rattle.valid_log.specs.Verdict.{IsVerdict}
use Rattle.plant_check.proofs.ShownVerdicts.{any_plain}
use Rattle.plant_check.proofs.check.check_any.Goals as goal

pub check_headed-requires-clause-over : goal.check_headed-requires-clause-over
check_headed-requires-clause-over g c = record {
  sound = c.requires.sound;
  part = c.requires.part;
  ranges = c.judged_over-judged.ensures.ranges c.args.part.program c.requires.ranges c.requires.root;
}

pub returns-in-Plain-clause-verdict : goal.returns-in-Plain-clause-verdict
returns-in-Plain-clause-verdict g c =
    let program = c.args.part.program in
    let depth = c.args.part.depth in
    let files = g.F.Shelf.files c.args.files.now in
    let name = c.args.name.now in
    let read = c.in_ok-read_head.field-0 in
    let front = subst (λ (limits : Limits). IfSome files (λ m. IsFront limits (file_of m name) read)) c.limits_with-limits.ensures c.in_ok-read_head.ensures.front in
    any_plain c.args.part.plant.now program c.args.ranges.now c.args.root.now depth files name c.check_plain.result
    (subst (λ (f : Front). IfSome files (λ m. IsFront (limits_with program depth 0) (file_of m name) f)) c.in-Plain.is front)
    (subst (λ (told : Option FileMap). IfOk c.check_plain.result (λ verdict. IfSome told (λ m. IsVerdict (plain program) depth (file_of m name) verdict))) c.in_ok-read_head.ensures.frame.same c.check_plain.ensures.verdict)
