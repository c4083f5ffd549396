-- The items that are read are put, one after another.
use Rattle.std.proofs.Common.{◌∙◌, Option, None, Some, refl, sym, subst}
use Rattle.stn_edge.specs.Files.{FileMap}
use Rattle.log_lines.specs.declared.defect.Defect.{Defect}
use Rattle.proof_log.specs.LogReading.{IsPartAfter}
use Rattle.log_parts.specs.laws.Copying.{name_of, HasCopied, HasItems}
use Rattle.log_nodes.proofs.Stays.{same_file}
use Rattle.log_parts.proofs.Copies.{HasReadOn, err_of, none_broken, on_broken, item_broken, copied_end, copied_bad, item_copied, claim_read, read_on}
use Rattle.log_parts.proofs.Frames.{also-writes, both-none, both-then, item-put}
use Rattle.log_parts.proofs.copying.copy_log.Goals as goal
use Rattle.log_parts.proofs.copying.copy_log.Goals.{in-Item+in_ok-put_item-in-Item, in-Claim}

pub parts-init : goal.parts-init
parts-init g c = record {
  on = read_on c.args.limits c.args.head c.args.name.now (g.F.Shelf.files c.args.files.now) c.args.writer.now c.in_ok-reader.reader (c.in_ok-reader.ensures (g.F.Shelf.files c.args.files.now) c.args.name.now);
  named = refl;
  frame = both-none g.F.Shelf (name_of c.args.writer.now) c.args.files.now;
}

pub next-requires-clause-open : goal.next-requires-clause-open
next-requires-clause-open g c =
    let on = c.parts.invariant.on in
    (4, c.args.head, c.args.limits, on.items, on.claim, on.read)

pub returns-in_err-reader-clause-err : goal.returns-in_err-reader-clause-err
returns-in_err-reader-clause-err g c =
    err_of c.from_residual.result (none_broken c.args.limits c.args.head c.args.name.now (g.F.Shelf.files c.args.files.now) c.args.writer.now)

pub returns-in_err-item-clause-err : goal.returns-in_err-item-clause-err
returns-in_err-item-clause-err g c =
    let inv = c.parts.invariant in
    err_of c.from_residual-in_err-item.result
    (on_broken c.args.limits c.args.head c.args.name.now (g.F.Shelf.files c.args.files.now) (g.F.Shelf.files c.parts.files) (g.F.Shelf.files c.next.new.files) c.args.writer.now c.parts.writer c.parts.reader inv.named c.in_err-item.ensures.frame.same inv.on)

pub returns-in_err-put_item-in-Item-clause-err : goal.returns-in_err-put_item-in-Item-clause-err
returns-in_err-put_item-in-Item-clause-err g c =
    let inv = c.parts.invariant in
    let on = inv.on in
    let still = c.in_ok-item.ensures.frame.same in
    err_of c.from_residual-in_err-put_item-in-Item.result
    (item_broken c.args.limits c.args.head c.args.name.now (g.F.Shelf.files c.args.files.now) (g.F.Shelf.files c.parts.files) (g.F.Shelf.files c.next.new.files) (g.F.Shelf.files c.put_item.new.files) c.args.writer.now c.parts.writer c.parts.reader c.next.new.self c.in-Item.line c.in-Item.item on inv.named still
    (subst (IsPartAfter (g.F.Shelf.files c.parts.files) c.args.name.now 4 c.args.head c.args.limits on.items on.claim c.next.new.self) c.in-Item.is (c.in_ok-item.ensures.part 4 c.args.head c.args.limits on.items on.claim on.read))
    c.in_err-put_item-in-Item.ensures.err)

pub returns-in-End-clause-copied : goal.returns-in-End-clause-copied
returns-in-End-clause-copied g c =
    let on = c.parts.invariant.on in
    subst (λ (told : Option FileMap). HasCopied c.args.limits c.args.head c.args.name.now (g.F.Shelf.files c.args.files.now) c.args.writer.now told c.parts.writer {D = Defect} None) (sym c.in_ok-item.ensures.frame.same)
    (copied_end c.args.limits c.args.head c.args.name.now (g.F.Shelf.files c.args.files.now) (g.F.Shelf.files c.parts.files) c.args.writer.now c.parts.writer c.parts.reader c.next.new.self c.in-End.version on
    (subst (IsPartAfter (g.F.Shelf.files c.parts.files) c.args.name.now 4 c.args.head c.args.limits on.items on.claim c.next.new.self) c.in-End.is (c.in_ok-item.ensures.part 4 c.args.head c.args.limits on.items on.claim on.read)))

pub returns-in-Bad-clause-copied : goal.returns-in-Bad-clause-copied
returns-in-Bad-clause-copied g c =
    let on = c.parts.invariant.on in
    subst (λ (told : Option FileMap). HasCopied c.args.limits c.args.head c.args.name.now (g.F.Shelf.files c.args.files.now) c.args.writer.now told c.parts.writer (Some c.in-Bad.defect)) (sym c.in_ok-item.ensures.frame.same)
    (copied_bad c.args.limits c.args.head c.args.name.now (g.F.Shelf.files c.args.files.now) (g.F.Shelf.files c.parts.files) c.args.writer.now c.parts.writer c.parts.reader c.next.new.self c.in-Bad.defect on
    (subst (IsPartAfter (g.F.Shelf.files c.parts.files) c.args.name.now 4 c.args.head c.args.limits on.items on.claim c.next.new.self) c.in-Bad.is (c.in_ok-item.ensures.part 4 c.args.head c.args.limits on.items on.claim on.read)))

pub parts-preserved : goal.parts-preserved
parts-preserved g c =
    let inv = c.parts.invariant in
    let on = inv.on in
    let still = c.in_ok-item.ensures.frame.same in
    let old = g.F.Shelf.files c.args.files.now in
    let now = g.F.Shelf.files c.parts.files in
    let out = name_of c.args.writer.now in
    let part = c.in_ok-item.ensures.part 4 c.args.head c.args.limits on.items on.claim on.read in
    elim c.match-branch-3.branch [
      | in-Item+in_ok-put_item-in-Item w ↦
          let took = w.in_ok-put_item-in-Item.ensures in
          let next = g.F.Shelf.files w.put_item.new.files in
          let step = both-then g.F.Shelf out (name_of c.parts.writer) c.parts.files c.next.new.files w.put_item.new.files inv.named (also-writes g.F.Shelf out c.parts.files c.next.new.files c.in_ok-item.ensures.frame) (item-put g.F.Shelf (name_of c.parts.writer) c.next.new.files w.put_item.new.files took.others took.readable took.writable took.reads took.writes) in
          rw (w.writer-is, w.files-is) (record {
            on = item_copied c.args.limits c.args.head c.args.name.now old now next c.args.writer.now c.parts.writer w.put_item.new.writer c.parts.reader c.next.new.self w.in-Item.line w.in-Item.item on
                (subst (IsPartAfter now c.args.name.now 4 c.args.head c.args.limits on.items on.claim c.next.new.self) w.in-Item.is part)
                (same_file c.args.name.now now next (step.others c.args.name.now (λ is. c.requires.apart (sym is))))
                (λ front items has. took.ok front items (subst (λ (told : Option FileMap). HasItems front c.parts.writer told items) (sym still) has));
            named = took.named ∙ inv.named;
            frame = both-then g.F.Shelf out out c.args.files.now c.parts.files w.put_item.new.files refl inv.frame step;
          })
      | in-Claim w ↦
          rw (w.writer-is, w.files-is) (record {
            on = subst (λ (told : Option FileMap). HasReadOn c.args.limits c.args.head c.args.name.now old c.args.writer.now told c.parts.writer c.next.new.self) (sym still)
                (claim_read c.args.limits c.args.head c.args.name.now old now c.args.writer.now c.parts.writer c.parts.reader c.next.new.self w.in-Claim.line w.in-Claim.claim on
                (subst (IsPartAfter now c.args.name.now 4 c.args.head c.args.limits on.items on.claim c.next.new.self) w.in-Claim.is part));
            named = inv.named;
            frame = both-then g.F.Shelf out out c.args.files.now c.parts.files c.next.new.files refl inv.frame (also-writes g.F.Shelf out c.parts.files c.next.new.files c.in_ok-item.ensures.frame);
          })
    ]

pub returns-clause-err : goal.returns-clause-err
returns-clause-err g c =
    let inv = c.parts.invariant in
    on_broken c.args.limits c.args.head c.args.name.now (g.F.Shelf.files c.args.files.now) (g.F.Shelf.files c.parts.files) (g.F.Shelf.files c.parts.files) c.args.writer.now c.parts.writer c.parts.reader inv.named refl inv.on

-- ---- what is left of the store

pub returns-in_err-reader-clause-frame : goal.returns-in_err-reader-clause-frame
returns-in_err-reader-clause-frame g c = both-none g.F.Shelf (name_of c.args.writer.now) c.args.files.now

pub returns-in_err-item-clause-frame : goal.returns-in_err-item-clause-frame
returns-in_err-item-clause-frame g c =
    let out = name_of c.args.writer.now in
    both-then g.F.Shelf out out c.args.files.now c.parts.files c.next.new.files refl c.parts.invariant.frame (also-writes g.F.Shelf out c.parts.files c.next.new.files c.in_err-item.ensures.frame)

pub returns-in_err-put_item-in-Item-clause-frame : goal.returns-in_err-put_item-in-Item-clause-frame
returns-in_err-put_item-in-Item-clause-frame g c =
    let out = name_of c.args.writer.now in
    let inv = c.parts.invariant in
    let put = c.in_err-put_item-in-Item.ensures in
    both-then g.F.Shelf out out c.args.files.now c.parts.files c.put_item.new.files refl inv.frame
    (both-then g.F.Shelf out (name_of c.parts.writer) c.parts.files c.next.new.files c.put_item.new.files inv.named (also-writes g.F.Shelf out c.parts.files c.next.new.files c.in_ok-item.ensures.frame)
    (item-put g.F.Shelf (name_of c.parts.writer) c.next.new.files c.put_item.new.files put.others put.readable put.writable put.reads put.writes))

pub returns-in-End-clause-frame : goal.returns-in-End-clause-frame
returns-in-End-clause-frame g c =
    let out = name_of c.args.writer.now in
    both-then g.F.Shelf out out c.args.files.now c.parts.files c.next.new.files refl c.parts.invariant.frame (also-writes g.F.Shelf out c.parts.files c.next.new.files c.in_ok-item.ensures.frame)

pub returns-in-Bad-clause-frame : goal.returns-in-Bad-clause-frame
returns-in-Bad-clause-frame g c =
    let out = name_of c.args.writer.now in
    both-then g.F.Shelf out out c.args.files.now c.parts.files c.next.new.files refl c.parts.invariant.frame (also-writes g.F.Shelf out c.parts.files c.next.new.files c.in_ok-item.ensures.frame)
