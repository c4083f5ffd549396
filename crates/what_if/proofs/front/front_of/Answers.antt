-- The file that was put is the bytes.
use Rattle.std.proofs.Common.{◌≡◌, List, ℕ, ap, ◌∙◌, subst, codes}
use Rattle.stn_edge.specs.FixedFiles.{FixedFiles}
use Rattle.stn_edge.specs.Files.{file_of}
use Rattle.stn_edge.proofs.FileLemmas.{file_of-insert}
use Rattle.log_lines.specs.declared.grammar.Limits.{Limits}
use Rattle.sum_lines.specs.Front.{IsFront}
use Rattle.what_if.proofs.front.front_of.Goals as goal

pub returns-in-Ok-clause-front : goal.returns-in-Ok-clause-front
returns-in-Ok-clause-front c =
    let name : List ℕ = codes "log" in
    let put = ap (λ (s : FixedFiles). file_of s.files name) c.in_ok-put_file.ensures.ok in
    let is : file_of c.put_file.new.self.files name ≡ c.args.bytes.now = put ∙ file_of-insert c.new-shelf.result.files name c.args.bytes.now in
    let front = subst (λ bytes. IsFront c.plant_limits-limits.result bytes c.in-Ok.front) is c.in-Ok.ensures.front in
    subst (λ (limits : Limits). IsFront limits c.args.bytes.now c.in-Ok.front) c.plant_limits-limits.ensures front
