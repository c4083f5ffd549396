-- The end is as it was, or a proof stands in its place.
use Rattle.std.proofs.Common.{◌∙◌, ℕ, List, Option, ap, refl, subst}
use Rattle.std.specs.Prelude.{Bool, ◌&&◌, if◌then◌else◌, IsTrue, IfSome}
use Rattle.branch_tree.specs.Deep.{is_deep}
use Rattle.row_relax.specs.RowProofs.{RowItem}
use Rattle.log_nodes.specs.Reading.{ReadsOn}
use Rattle.log_nodes.specs.laws.Seen.{seen}
use Rattle.log_nodes.specs.laws.Nodes.{HasBelow, leaf_of}
use Rattle.log_nodes.proofs.Readings.{reads-none}
use Rattle.log_growth.proofs.Grows.{IsEndCount, new-end, same-end}
use Rattle.open_splits.proofs.Standing.{at-some}
use Rattle.log_growth.proofs.nodes.grown_leaf.Goals as goal

pub returns-then-is_same_node-clause-grown : goal.returns-then-is_same_node-clause-grown
returns-then-is_same_node-clause-grown g c =
    let told = g.F.Shelf.files c.args.files.now in
    let pair = c.args.pair in
    let rows = pair.rows.now in
    let view = seen c.args.area.now in
    let end = leaf_of c.args.node.now.end in
    let reads : List RowItem → Type 0 = λ items. ReadsOn told pair.log.now c.args.readers.now.log items c.args.readers.now.log in
    let reads_out : List RowItem → Type 0 = λ items. ReadsOn told pair.out.now c.args.readers.now.out items c.args.readers.now.out in
    let counts : IsEndCount c.args.pair.most rows pair.profit c.args.place.depth view end c.leaf_growth-as_before.result = record {
      ends = c.leaf_growth-as_before.ensures.ends ∙ ap (λ (b : Bool). if b then 1 else 0) c.is_open-open.ensures;
      deep = c.leaf_growth-as_before.ensures.deep ∙ ap (λ (b : Bool). if b then 1 else 0) (c.is_deep_end-deep.ensures ∙ ap (λ (b : Bool). b && is_deep c.args.pair.most c.args.place.depth view) c.is_open-open.ensures);
      floors = c.leaf_growth-as_before.ensures.floors;
      before = c.leaf_growth-as_before.ensures.before;
    } in
    record {
      is_so = same-end c.args.pair.most rows pair.profit pair.share c.args.place.depth c.args.place.number view c.args.node.now c.args.other.now reads reads_out c.leaf_growth-as_before.result c.requires.leaf (c.is_same_node.ensures c.if-is_same_node.true)
          (reads-none told pair.log.now c.args.readers.now.log) (reads-none told pair.out.now c.args.readers.now.out) counts c.leaf_growth-as_before.ensures.after;
      log_reading = c.requires.log_reading;
      out_reading = c.requires.out_reading;
      as_before = refl;
    }

pub returns-in-Some-clause-grown : goal.returns-in-Some-clause-grown
returns-in-Some-clause-grown g c =
    let told = g.F.Shelf.files c.args.files.now in
    let pair = c.args.pair in
    let rows = pair.rows.now in
    let view = seen c.args.area.now in
    let end = leaf_of c.args.node.now.end in
    let whole = c.leaf_growth-as_before.result in
    let reads : List RowItem → Type 0 = λ items. ReadsOn told pair.log.now c.args.readers.now.log items c.args.readers.now.log in
    let reads_out : List RowItem → Type 0 = λ items. ReadsOn told pair.out.now c.args.readers.now.out items c.skip_below.new.reader in
    let counts : IsEndCount c.args.pair.most rows pair.profit c.args.place.depth view end (record whole { after = c.in-Some.after }) = record {
      ends = c.leaf_growth-as_before.ensures.ends ∙ ap (λ (b : Bool). if b then 1 else 0) c.is_open-open.ensures;
      deep = c.leaf_growth-as_before.ensures.deep ∙ ap (λ (b : Bool). if b then 1 else 0) (c.is_deep_end-deep.ensures ∙ ap (λ (b : Bool). b && is_deep c.args.pair.most c.args.place.depth view) c.is_open-open.ensures);
      floors = c.leaf_growth-as_before.ensures.floors;
      before = c.leaf_growth-as_before.ensures.before;
    } in
    let may = c.may_grow.ensures in
    let grows = c.if-not-may_grow.false in
    let begins = may.begins grows in
    let opened = subst (λ (b : Bool). IsTrue b) c.is_open-open.ensures (may.opened grows) in
    let below = subst (λ (o : Option ℕ). IfSome o (HasBelow reads_out c.args.other.now.end)) c.in-Some.is c.in_ok-after.ensures.below in
    record {
      is_so = new-end c.args.pair.most rows pair.profit pair.share c.args.place.depth c.args.place.number view c.args.node.now c.args.other.now reads reads_out (record whole { after = c.in-Some.after }) begins.0 c.requires.leaf (reads-none told pair.log.now c.args.readers.now.log)
          (may.searched grows) opened begins.1 below counts;
      log_reading = c.requires.log_reading;
      out_reading = at-some _ c.in-Some.is c.in_ok-after.ensures.reading;
      as_before = refl;
    }
