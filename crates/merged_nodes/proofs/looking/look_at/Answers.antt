-- The node that a log has next is read, and kept as an end or as a split.
use Rattle.std.proofs.Common.{◌≡◌, ◌∙◌, ℕ, List, Option, refl, sym, subst}
use Rattle.std.specs.Prelude.{IfSome, IsTrue}
use Rattle.std.proofs.lemmas.Bool.{MatchBool-at_true, MatchBool-at_false}
use Rattle.proof_tree.specs.declared.capped.Capped.{Capped}
use Rattle.log_nodes.specs.declared.node.Node.{Node}
use Rattle.log_nodes.specs.laws.Seen.{seen}
use Rattle.log_nodes.specs.laws.Nodes.{IsLeafEnd, node_items}
use Rattle.log_nodes.specs.Reading.{IsReading, ReadsOn}
use Rattle.merged_nodes.specs.declared.sources.Source.{Source}
use Rattle.merged_nodes.specs.laws.Looked.{HasLookedAt, HasTakenSplit, IsSourceReading, node_cap}
use Rattle.merged_nodes.proofs.LookedAt.{looked-end, looked-split, ok-both, ok-then, reading-later, taken-number}
use Rattle.merged_nodes.proofs.looking.look_at.Goals as goal

pub returns-then-splits-clause-looked : goal.returns-then-splits-clause-looked
returns-then-splits-clause-looked g c =
    let rows = c.args.merging.rows.now in
    let view = seen c.args.area.now in
    let told = g.F.Shelf.files c.args.files.now in
    let now = g.F.Shelf.files c.read_node.new.files in
    let stem = c.args.merging.stem.now in
    let depth = c.args.depth in
    let name = c.as_str-then-splits.result.now in
    let node = c.in-Some.node in
    let one = c.args.source.now in
    let mid : Source = record one { reader = c.read_node.new.reader } in
    let later = c.take_or_pass.new.source in
    let old = c.args.looked.now in
    let new = c.take_or_pass.new.looked in
    let read = subst (λ (o : Option Node). IfSome o (λ n. ReadsOn told c.as_str.result.now one.reader (node_items n) mid.reader)) c.in-Some.is c.in_ok-node.ensures.read in
    let own : ReadsOn told name one.reader (node_items node) mid.reader = subst (λ (n : List ℕ). ReadsOn told n one.reader (node_items node) mid.reader) (c.as_str.ensures.value ∙ sym c.as_str-then-splits.ensures.value) read in
    let not : ¬ IsLeafEnd node.end = MatchBool-at_true (¬ IsLeafEnd node.end) (IsLeafEnd node.end) c.if-splits.true c.splits.ensures in
    ok-then c.take_or_pass.result (λ whole. IsTrue whole → HasTakenSplit now name depth node mid later old new) (λ whole. IsTrue whole → HasLookedAt rows view told stem depth one later old new)
    (λ whole taken is. looked-split rows view told now name stem depth one mid later node old new (c.as_str-then-splits.ensures.value ∙ c.in_ok-name.ensures) c.requires.here refl refl c.in_ok-node.ensures.same own not (taken is)) c.take_or_pass.ensures.taken

pub returns-then-splits-clause-reading : goal.returns-then-splits-clause-reading
returns-then-splits-clause-reading g c =
    let told = g.F.Shelf.files c.args.files.now in
    let now = g.F.Shelf.files c.read_node.new.files in
    let stem = c.args.merging.stem.now in
    let depth = c.args.depth in
    let name = c.as_str-then-splits.result.now in
    let node = c.in-Some.node in
    let one = c.args.source.now in
    let mid : Source = record one { reader = c.read_node.new.reader } in
    let later = c.take_or_pass.new.source in
    let old = c.args.looked.now in
    let new = c.take_or_pass.new.looked in
    ok-both c.take_or_pass.result (λ whole. IsTrue whole → HasTakenSplit now name depth node mid later old new) (λ whole. IsTrue whole → IsReading now name later.reader) (λ whole. IsTrue whole → IsSourceReading told stem later)
    (λ whole taken reading is. reading-later told now name stem one later c.in_ok-node.ensures.same (c.as_str-then-splits.ensures.value ∙ c.in_ok-name.ensures) (taken-number now name depth node mid later old new (taken is)) (reading is))
    c.take_or_pass.ensures.taken c.take_or_pass.ensures.reading

pub returns-in-Some-cap_of_node-clause-looked : goal.returns-in-Some-cap_of_node-clause-looked
returns-in-Some-cap_of_node-clause-looked g c = λ _.
    let rows = c.args.merging.rows.now in
    let view = seen c.args.area.now in
    let told = g.F.Shelf.files c.args.files.now in
    let stem = c.args.merging.stem.now in
    let name = c.as_str.result.now in
    let node = c.in-Some.node in
    let one = c.args.source.now in
    let later : Source = record one { reader = c.read_node.new.reader } in
    let cap = c.in-Some-cap_of_node.cap in
    let read = subst (λ (o : Option Node). IfSome o (λ n. ReadsOn told name one.reader (node_items n) later.reader)) c.in-Some.is c.in_ok-node.ensures.read in
    let leaf : IsLeafEnd node.end = MatchBool-at_false (¬ IsLeafEnd node.end) (IsLeafEnd node.end) c.if-splits.false c.splits.ensures in
    let is = subst (λ (o : Option Capped). IfSome o (λ k. k ≡ node_cap rows view node)) c.in-Some-cap_of_node.is c.cap_of_node.ensures.cap in
    looked-end rows view told name stem c.args.depth one later node cap c.args.looked.now c.take_end.new.looked (c.as_str.ensures.value ∙ c.in_ok-name.ensures) c.requires.here refl refl read leaf is c.take_end.ensures.end c.take_end.ensures.split
