-- The split, the left parts, and the right parts.
use Rattle.std.proofs.Common.{◌∙◌, ◌+◌, ◌-◌, ◌^◌, Option, subst}
use Rattle.log_parts.specs.declared.writing.BadPart.{BadPart}
use Rattle.log_parts.specs.laws.Copying.{HasJoined, items_over, name_of}
use Rattle.log_parts.proofs.Copies.{err_of, err_then, ok_if}
use Rattle.log_parts.proofs.Frames.{also-reads, both-then}
use Rattle.log_parts.proofs.TreesCopied.{left_bad, left_unjoined, open_unjoined, right_joined, right_unjoined}
use Rattle.log_parts.proofs.writing.+tree.Goals as goal

pub returns-in_err-open_split-clause-err : goal.returns-in_err-open_split-clause-err
returns-in_err-open_split-clause-err g t c =
    err_of c.from_residual.result (open_unjoined c.args.logs.limits c.args.logs.levels c.args.logs.stem.now c.args.logs.heads.now c.args.slot c.args.part c.right_part-right.ensures.one_less (g.F.Shelf.files c.args.files.now) (g.F.Shelf.files c.open_split.new.files) c.args.writer.now c.in_err-open_split.ensures.err)

pub returns-in_err-bad-clause-err : goal.returns-in_err-bad-clause-err
returns-in_err-bad-clause-err g t c =
    let node = c.in_ok-open_split.ensures in
    err_of c.from_residual-in_err-bad.result
    (left_unjoined c.args.logs.limits c.args.logs.levels c.args.logs.stem.now c.args.logs.heads.now c.args.slot c.args.part c.right_part-right.ensures.one_less
    (g.F.Shelf.files c.args.files.now) (g.F.Shelf.files c.open_split.new.files) c.args.writer.now c.open_split.new.writer c.requires.apart node.ok node.frame.others node.named BadPart (g.F.Shelf.files c.write_tree.new.files) c.in_err-bad.ensures.err)

pub returns-in-Some-clause-joined : goal.returns-in-Some-clause-joined
returns-in-Some-clause-joined g t c =
    let node = c.in_ok-open_split.ensures in
    let left = subst (λ (found : Option BadPart). HasJoined c.args.logs.limits (2 ^ c.args.logs.levels) c.args.logs.stem.now c.args.logs.heads.now (items_over (c.args.slot + 1) (c.args.logs.levels - (c.args.slot + 1)) c.args.part) (g.F.Shelf.files c.open_split.new.files) c.open_split.new.writer (g.F.Shelf.files c.write_tree.new.files) c.write_tree.new.writer found) c.in-Some.is c.in_ok-bad.ensures.joined in
    left_bad c.args.logs.limits c.args.logs.levels c.args.logs.stem.now c.args.logs.heads.now c.args.slot c.args.part c.right_part-right.ensures.one_less
    (g.F.Shelf.files c.args.files.now) (g.F.Shelf.files c.open_split.new.files) c.args.writer.now c.open_split.new.writer c.requires.apart node.ok node.frame.others node.named (g.F.Shelf.files c.write_tree.new.files) c.write_tree.new.writer c.in-Some.bad left

pub returns-clause-joined : goal.returns-clause-joined
returns-clause-joined g t c =
    let node = c.in_ok-open_split.ensures in
    let left = subst (λ (found : Option BadPart). HasJoined c.args.logs.limits (2 ^ c.args.logs.levels) c.args.logs.stem.now c.args.logs.heads.now (items_over (c.args.slot + 1) (c.args.logs.levels - (c.args.slot + 1)) c.args.part) (g.F.Shelf.files c.open_split.new.files) c.open_split.new.writer (g.F.Shelf.files c.write_tree.new.files) c.write_tree.new.writer found) c.in_default.is c.in_ok-bad.ensures.joined in
    ok_if c.write_tree-2.result c.write_tree-2.ensures.joined
    (right_joined c.args.logs.limits c.args.logs.levels c.args.logs.stem.now c.args.logs.heads.now c.args.slot c.args.part c.right_part-right.ensures.one_less
    (g.F.Shelf.files c.args.files.now) (g.F.Shelf.files c.open_split.new.files) c.args.writer.now c.open_split.new.writer c.requires.apart node.ok node.frame.others node.named
    BadPart (g.F.Shelf.files c.write_tree.new.files) c.write_tree.new.writer left c.in_ok-bad.ensures.frame.others c.right_part-right.result c.right_part-right.ensures.right (g.F.Shelf.files c.write_tree-2.new.files) c.write_tree-2.new.writer)

pub returns-clause-err : goal.returns-clause-err
returns-clause-err g t c =
    let node = c.in_ok-open_split.ensures in
    let left = subst (λ (found : Option BadPart). HasJoined c.args.logs.limits (2 ^ c.args.logs.levels) c.args.logs.stem.now c.args.logs.heads.now (items_over (c.args.slot + 1) (c.args.logs.levels - (c.args.slot + 1)) c.args.part) (g.F.Shelf.files c.open_split.new.files) c.open_split.new.writer (g.F.Shelf.files c.write_tree.new.files) c.write_tree.new.writer found) c.in_default.is c.in_ok-bad.ensures.joined in
    err_then c.write_tree-2.result c.write_tree-2.ensures.err
    (right_unjoined c.args.logs.limits c.args.logs.levels c.args.logs.stem.now c.args.logs.heads.now c.args.slot c.args.part c.right_part-right.ensures.one_less
    (g.F.Shelf.files c.args.files.now) (g.F.Shelf.files c.open_split.new.files) c.args.writer.now c.open_split.new.writer c.requires.apart node.ok node.frame.others node.named
    BadPart (g.F.Shelf.files c.write_tree.new.files) c.write_tree.new.writer left c.in_ok-bad.ensures.frame.others c.right_part-right.result c.right_part-right.ensures.right (g.F.Shelf.files c.write_tree-2.new.files) c.in_ok-bad.ensures.named)

-- ---- what is left of the store

pub returns-in_err-open_split-clause-frame : goal.returns-in_err-open_split-clause-frame
returns-in_err-open_split-clause-frame g t c =
    also-reads g.F.Shelf (name_of c.args.writer.now) c.args.files.now c.open_split.new.files c.in_err-open_split.ensures.frame

pub returns-in_err-bad-clause-frame : goal.returns-in_err-bad-clause-frame
returns-in_err-bad-clause-frame g t c =
    both-then g.F.Shelf (name_of c.args.writer.now) (name_of c.open_split.new.writer) c.args.files.now c.open_split.new.files c.write_tree.new.files c.in_ok-open_split.ensures.named
    (also-reads g.F.Shelf (name_of c.args.writer.now) c.args.files.now c.open_split.new.files c.in_ok-open_split.ensures.frame) c.in_err-bad.ensures.frame

pub returns-in-Some-clause-frame : goal.returns-in-Some-clause-frame
returns-in-Some-clause-frame g t c =
    both-then g.F.Shelf (name_of c.args.writer.now) (name_of c.open_split.new.writer) c.args.files.now c.open_split.new.files c.write_tree.new.files c.in_ok-open_split.ensures.named
    (also-reads g.F.Shelf (name_of c.args.writer.now) c.args.files.now c.open_split.new.files c.in_ok-open_split.ensures.frame) c.in_ok-bad.ensures.frame

pub returns-clause-frame : goal.returns-clause-frame
returns-clause-frame g t c =
    both-then g.F.Shelf (name_of c.args.writer.now) (name_of c.write_tree.new.writer) c.args.files.now c.write_tree.new.files c.write_tree-2.new.files (c.in_ok-bad.ensures.named ∙ c.in_ok-open_split.ensures.named)
    (both-then g.F.Shelf (name_of c.args.writer.now) (name_of c.open_split.new.writer) c.args.files.now c.open_split.new.files c.write_tree.new.files c.in_ok-open_split.ensures.named
    (also-reads g.F.Shelf (name_of c.args.writer.now) c.args.files.now c.open_split.new.files c.in_ok-open_split.ensures.frame) c.in_ok-bad.ensures.frame) c.write_tree-2.ensures.frame
