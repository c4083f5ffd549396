-- One entry more is in its column.
use Rattle.std.proofs.Common.{◌≡◌, ◌∙◌, ◌+◌, ◌<◌, ◌+ℤ◌, ℕ, suc, List, [], ◌∷◌, ◌++◌, length, set, get_or, drop, drop-cons, ap, sym, subst, arith}
use Rattle.std.specs.List.{All}
use Rattle.std.proofs.lemmas.List.{get_or_read, length-set}
use Rattle.row_kit.specs.declared.row.Entry.{Entry}
use Rattle.row_kit.proofs.Ascending.{no_entry}
use Rattle.row_rooms.specs.declared.rooms.Cell.{Cell}
use Rattle.row_rooms.specs.Rooms.{cells_at, column_at, entries_in}
use Rattle.row_rooms.proofs.Columns.{one_entry, one_within}
use Rattle.row_rooms.proofs.rooms.put_row.Goals as goal

pub loop-entry-preserved : goal.loop-entry-preserved
loop-entry-preserved c =
    let lists = c.loop-entry.columns.items in
    let es = c.args.entries.now in
    let i = c.loop-entry.entry-index in
    let e = get_or es i no_entry in
    let cell : Cell = record { row = c.args.number; fixed = e.fixed; per = e.per } in
    let lt : e.slot < length lists = omega (arith, c.requires.named i no_entry c.loop-entry-test.true, c.loop-entry.invariant.as_many) in
    let was : c.index_mut.result.now ≡ column_at lists e.slot = get_or_read lists e.slot c.index_mut.result.now lt c.index_mut.ensures.value [] in
    let is : c.push.new.self ≡ column_at lists e.slot ++ cell ∷ [] = c.in_ok-push.ensures.ok ∙ ap (λ (cs : List Cell). cs ++ c.cell_of.result ∷ []) was ∙ ap (λ (one : Cell). column_at lists e.slot ++ one ∷ []) c.cell_of.ensures in
    let next : i + 1 ≡ suc i = omega arith in
    record {
      as_many = length-set lists e.slot c.push.new.self ∙ c.loop-entry.invariant.as_many;
      counts = λ slot row value h.
          ap (λ (cs : List Cell). cells_at (column_at (set lists e.slot cs) slot) row value +ℤ entries_in c.args.number (drop (i + 1) es) row slot value) is
          ∙ ap (λ (k : ℕ). cells_at (column_at (set lists e.slot (column_at lists e.slot ++ cell ∷ [])) slot) row value +ℤ entries_in c.args.number (drop k es) row slot value) next
          ∙ one_entry lists c.args.number e (drop (suc i) es) slot row value lt
          ∙ ap (λ (xs : List Entry). cells_at (column_at lists slot) row value +ℤ entries_in c.args.number xs row slot value) (sym (drop-cons es i no_entry c.loop-entry-test.true))
          ∙ c.loop-entry.invariant.counts slot row value h;
      within = λ most below all.
          subst (λ (cs : List Cell). All (All (λ (c : Cell). c.row < most)) (set lists e.slot cs)) (sym is)
          (one_within lists most e.slot cell lt below (c.loop-entry.invariant.within most below all));
    }
