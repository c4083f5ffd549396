-- The file that was put is the bytes.
use Rattle.std.proofs.Common.{◌≡◌, List, ℕ, Some, ap, ◌∙◌, subst, codes, IfOk}
use Rattle.stn_edge.specs.FixedFiles.{FixedFiles}
use Rattle.stn_edge.specs.Files.{file_of}
use Rattle.stn_edge.proofs.FileLemmas.{file_of-insert}
use Rattle.log_lines.specs.TextDefect.{log_text_defect}
use Rattle.proof_log.specs.LogReading.{IsRead}
use Rattle.proof_log.proofs.read.read_log.Goals as goal

pub returns-clause-log : goal.returns-clause-log
returns-clause-log c =
    let name : List ℕ = codes "log" in
    let put = ap (λ (s : FixedFiles). file_of s.files name) c.in_ok-put_file.ensures.ok in
    let is : file_of c.put_file.new.self.files name ≡ c.args.bytes.now = put ∙ file_of-insert c.new-shelf.result.files name c.args.bytes.now in
    subst (λ bytes. IfOk c.read_parts.result (λ log. IsRead c.args.limits.now bytes log)) is c.read_parts.ensures.log

pub returns-clause-defect : goal.returns-clause-defect
returns-clause-defect c defect stop =
    let name : List ℕ = codes "log" in
    let put = ap (λ (s : FixedFiles). file_of s.files name) c.in_ok-put_file.ensures.ok in
    let is : file_of c.put_file.new.self.files name ≡ c.args.bytes.now = put ∙ file_of-insert c.new-shelf.result.files name c.args.bytes.now in
    subst (λ bytes. log_text_defect c.args.limits.now bytes ≡ Some (defect.line, defect.kind)) is (c.read_parts.ensures.defect defect stop)
