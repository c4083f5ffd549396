-- A node and its split, put one after the other.
use Rattle.std.proofs.Common.{ℕ, List, [], ◌∷◌, ◌++◌, subst, append_assoc}
use Rattle.proof_tree.specs.declared.item.Item.TheVariants.{Node}
use Rattle.row_relax.specs.RowProofs.{RowItem}
use Rattle.log_parts.specs.laws.Copying.{name_of, opening_split, HasItems, IsBegun}
use Rattle.log_parts.proofs.Copies.{err_of, begun_front, ok_then, err_then}
use Rattle.std.proofs.Common.{refl}
use Rattle.log_parts.proofs.Frames.{writes-then}
use Rattle.log_parts.proofs.writing.open_split.Goals as goal

pub returns-in_err-put_item-clause-err : goal.returns-in_err-put_item-clause-err
returns-in_err-put_item-clause-err g c =
    err_of c.from_residual.result
    (λ (front : List ℕ) (items : List RowItem) has. begun_front front (name_of c.args.writer.now) (g.F.Shelf.files c.put_item.new.files) items (Node ∷ []) (opening_split c.args.slot ∷ []) (Node ∷ opening_split c.args.slot ∷ []) refl (c.in_err-put_item.ensures.err front items has))

pub returns-clause-ok : goal.returns-clause-ok
returns-clause-ok g c =
    let split = c.split_at-split.ensures in
    ok_then c.put_item-2.result c.put_item-2.ensures.ok
    (λ took. λ (front : List ℕ) (items : List RowItem) has.
    subst (HasItems front c.put_item-2.new.writer (g.F.Shelf.files c.put_item-2.new.files)) (append_assoc items (Node ∷ []) (opening_split c.args.slot ∷ []))
    (subst (λ (item : RowItem). HasItems front c.put_item-2.new.writer (g.F.Shelf.files c.put_item-2.new.files) ((items ++ Node ∷ []) ++ item ∷ [])) split (took front (items ++ Node ∷ []) (c.in_ok-put_item.ensures.ok front items has))))

pub returns-clause-err : goal.returns-clause-err
returns-clause-err g c =
    let split = c.split_at-split.ensures in
    let named = c.in_ok-put_item.ensures.named in
    err_then c.put_item-2.result c.put_item-2.ensures.err
    (λ broke. λ (front : List ℕ) (items : List RowItem) has.
    subst (IsBegun front (name_of c.args.writer.now) (g.F.Shelf.files c.put_item-2.new.files)) (append_assoc items (Node ∷ []) (opening_split c.args.slot ∷ []))
    (rw (← named) (subst (λ (item : RowItem). IsBegun front (name_of c.put_item.new.writer) (g.F.Shelf.files c.put_item-2.new.files) ((items ++ Node ∷ []) ++ item ∷ [])) split (broke front (items ++ Node ∷ []) (c.in_ok-put_item.ensures.ok front items has)))))

pub returns-in_err-put_item-clause-frame : goal.returns-in_err-put_item-clause-frame
returns-in_err-put_item-clause-frame g c =
    let put = c.in_err-put_item.ensures in
    record { others = put.others; readable = put.readable; writable = put.writable; no_read = put.reads; writes = put.writes }

pub returns-clause-frame : goal.returns-clause-frame
returns-clause-frame g c =
    let node = c.in_ok-put_item.ensures in
    let put = c.put_item-2.ensures in
    writes-then g.F.Shelf (name_of c.args.writer.now) (name_of c.put_item.new.writer) c.args.files.now c.put_item.new.files c.put_item-2.new.files node.named
    (record { others = node.others; readable = node.readable; writable = node.writable; no_read = node.reads; writes = node.writes })
    (record { others = put.others; readable = put.readable; writable = put.writable; no_read = put.reads; writes = put.writes })
