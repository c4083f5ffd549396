-- The node, and then one cut after another.
use Rattle.std.proofs.Common.{◌∙◌}
use Rattle.log_parts.specs.laws.Copying.{name_of}
use Rattle.log_parts.proofs.Frames.{writes-then}
use Rattle.merged_nodes.proofs.Puts.{cut-put, cuts-put}
use Rattle.merged_nodes.proofs.putting.put_head.Goals as goal

pub loop-cut-init : goal.loop-cut-init
loop-cut-init g c =
    let put = c.in_ok-put_item.ensures in
    record {
      put = put.ok;
      named = put.named;
      frame = record { others = put.others; readable = put.readable; writable = put.writable; no_read = put.reads; writes = put.writes };
    }

pub loop-cut-preserved : goal.loop-cut-preserved
loop-cut-preserved g c =
    let inv = c.loop-cut.invariant in
    let put = c.in_ok-put_item-2.ensures in
    record {
      put = cut-put c.args.writer.now c.loop-cut.writer c.put_item-in-loop-cut.new.writer (g.F.Shelf.files c.args.files.now) (g.F.Shelf.files c.loop-cut.files) (g.F.Shelf.files c.put_item-in-loop-cut.new.files) c.args.cuts.now c.loop-cut.cut-index _ c.loop-cut-test.true inv.put put.ok;
      named = put.named ∙ inv.named;
      frame = writes-then g.F.Shelf (name_of c.args.writer.now) (name_of c.loop-cut.writer) c.args.files.now c.loop-cut.files c.put_item-in-loop-cut.new.files inv.named inv.frame
          (record { others = put.others; readable = put.readable; writable = put.writable; no_read = put.reads; writes = put.writes });
    }

pub returns-in_err-put_item-2-clause-frame : goal.returns-in_err-put_item-2-clause-frame
returns-in_err-put_item-2-clause-frame g c =
    let inv = c.loop-cut.invariant in
    let put = c.in_err-put_item-2.ensures in
    writes-then g.F.Shelf (name_of c.args.writer.now) (name_of c.loop-cut.writer) c.args.files.now c.loop-cut.files c.put_item-in-loop-cut.new.files inv.named inv.frame
    (record { others = put.others; readable = put.readable; writable = put.writable; no_read = put.reads; writes = put.writes })

pub returns-clause-put : goal.returns-clause-put
returns-clause-put g c =
    cuts-put c.args.writer.now c.loop-cut.writer (g.F.Shelf.files c.args.files.now) (g.F.Shelf.files c.loop-cut.files) c.args.cuts.now c.loop-cut.cut-index c.loop-cut-test.false c.loop-cut.invariant.put
