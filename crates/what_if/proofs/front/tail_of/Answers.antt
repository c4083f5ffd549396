-- The file that was put is the bytes.
use Rattle.std.proofs.Common.{◌≡◌, List, ℕ, ap, ◌∙◌, subst, codes}
use Rattle.stn_edge.specs.FixedFiles.{FixedFiles}
use Rattle.stn_edge.specs.Files.{file_of}
use Rattle.stn_edge.proofs.FileLemmas.{file_of-insert}
use Rattle.valid_log.specs.Heads.{IsTail}
use Rattle.what_if.proofs.front.tail_of.Goals as goal

pub returns-in-Ok-clause-follows : goal.returns-in-Ok-clause-follows
returns-in-Ok-clause-follows c =
    let name : List ℕ = codes "log" in
    let put = ap (λ (s : FixedFiles). file_of s.files name) c.in_ok-put_file.ensures.ok in
    let is : file_of c.put_file.new.self.files name ≡ c.args.bytes.now = put ∙ file_of-insert c.new-shelf.result.files name c.args.bytes.now in
    subst (λ bytes. IsTail c.args.limits.now c.args.head.now bytes c.in-Ok.front) is c.in-Ok.ensures.follows
