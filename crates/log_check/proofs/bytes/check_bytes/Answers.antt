-- The file that was put is the bytes.
use Rattle.std.proofs.Common.{◌≡◌, List, ℕ, ap, ◌∙◌, subst, codes}
use Rattle.stn_edge.specs.FixedFiles.{FixedFiles}
use Rattle.stn_edge.specs.Files.{file_of}
use Rattle.stn_edge.proofs.FileLemmas.{file_of-insert}
use Rattle.valid_log.specs.Verdict.{IsVerdict}
use Rattle.log_check.proofs.bytes.check_bytes.Goals as goal

pub returns-in-Ok-clause-verdict : goal.returns-in-Ok-clause-verdict
returns-in-Ok-clause-verdict c =
    let name : List ℕ = codes "log" in
    let put = ap (λ (s : FixedFiles). file_of s.files name) c.in_ok-put_file.ensures.ok in
    let is : file_of c.put_file.new.self.files name ≡ c.args.bytes.now = put ∙ file_of-insert c.new-shelf.result.files name c.args.bytes.now in
    subst (λ bytes. IsVerdict c.args.rows.now c.args.depth bytes c.in-Ok.verdict) is c.in-Ok.ensures.verdict
