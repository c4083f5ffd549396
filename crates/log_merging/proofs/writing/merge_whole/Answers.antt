-- The proofs are merged from the root on, and then all logs end.
use Rattle.std.proofs.Common.{refl, List, [], ◌∷◌, Option, sym, subst}
use Rattle.std.specs.Prelude.{IfSome}
use Rattle.stn_edge.specs.Files.{FileMap}
use Rattle.row_kit.specs.declared.domain.Domain.{Domain}
use Rattle.proof_tree.specs.declared.capped.Capped.{Capped}
use Rattle.log_nodes.specs.laws.Seen.{seen}
use Rattle.log_parts.specs.laws.Copying.{name_of}
use Rattle.merged_nodes.specs.laws.Looked.{AreReading}
use Rattle.merge_walk.specs.laws.Walked.{HasMerged}
use Rattle.merge_ends.specs.laws.Begun.{HaveEnded}
use Rattle.log_parts.proofs.Frames.{also-writes, both-then}
use Rattle.merge_walk.proofs.KeptLogs.{same-may-read, same-trees}
use Rattle.log_merging.proofs.writing.merge_whole.Goals as goal

pub read_ends-requires-clause-allowed : goal.read_ends-requires-clause-allowed
read_ends-requires-clause-allowed g c =
    let old = g.F.Shelf.files c.args.files.now in
    let new = g.F.Shelf.files c.merge_node.new.files in
    let merging = c.args.merging in
    let before = c.args.sources.now.items in
    let after = c.merge_node.new.sources.items in
    let has = subst (λ (o : Option Capped). IfSome o (HasMerged merging.rows.now merging.best (seen c.in_ok-area.area) old new merging.stem.now 0 before after c.args.writer.now c.merge_node.new.writer)) c.in-Some.is c.in_ok-cap.ensures.merged in
    same-may-read (g.F.Shelf.may_read c.args.files.now) (g.F.Shelf.may_read c.merge_node.new.files) merging.stem.now before after c.in_ok-cap.ensures.frame.readable (same-trees old merging.stem.now 0 before after has.here has.read) c.requires.may_read

pub read_ends-requires-clause-reading : goal.read_ends-requires-clause-reading
read_ends-requires-clause-reading g c =
    subst (λ (o : Option Capped). IfSome o (λ _. AreReading (g.F.Shelf.files c.merge_node.new.files) c.args.merging.stem.now c.merge_node.new.sources.items)) c.in-Some.is c.in_ok-cap.ensures.reading

pub returns-then-branch-clause-merged : goal.returns-then-branch-clause-merged
returns-then-branch-clause-merged g c =
    let old = g.F.Shelf.files c.args.files.now in
    let new = g.F.Shelf.files c.merge_node.new.files in
    let last = g.F.Shelf.files c.read_ends.new.files in
    let merging = c.args.merging in
    let before = c.args.sources.now.items in
    let after = c.merge_node.new.sources.items in
    let rows = merging.rows.now in
    let cap = c.in-Some.cap in
    let has = subst (λ (o : Option Capped). IfSome o (HasMerged rows merging.best (seen c.in_ok-area.area) old new merging.stem.now 0 before after c.args.writer.now c.merge_node.new.writer)) c.in-Some.is c.in_ok-cap.ensures.merged in
    let root = subst (λ (area : List (List Domain)). HasMerged rows merging.best (seen area) old new merging.stem.now 0 before after c.args.writer.now c.merge_node.new.writer cap) c.in_ok-area.ensures.root has in
    let same = sym c.in_ok-read_ends.ensures.frame.same in
    record {
      after = after;
      merged = subst (λ (told : Option FileMap). HasMerged rows merging.best (seen (rows.program.root ∷ [])) old told merging.stem.now 0 before after c.args.writer.now c.merge_node.new.writer cap) same root;
      ended = subst (λ (told : Option FileMap). HaveEnded told merging.stem.now after) same (c.in_ok-read_ends.ensures.ended c.if-branch.true);
    }

pub returns-then-branch-clause-frame : goal.returns-then-branch-clause-frame
returns-then-branch-clause-frame g c =
    let out = name_of c.args.writer.now in
    both-then g.F.Shelf out out c.args.files.now c.merge_node.new.files c.read_ends.new.files refl c.in_ok-cap.ensures.frame (also-writes g.F.Shelf out c.merge_node.new.files c.read_ends.new.files c.in_ok-read_ends.ensures.frame)
