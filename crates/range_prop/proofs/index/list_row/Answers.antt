-- One entry more is listed.
use Rattle.std.proofs.Common.{◌≡◌, ◌∙◌, ◌⊎◌, ◌<◌, ℕ, List, [], ◌∷◌, ◌++◌, length, set, get_or, ap, subst, arith}
use Rattle.std.specs.List.{Contains}
use Rattle.std.proofs.lemmas.List.{get_or_read, length-set, take_all}
use Rattle.row_kit.specs.declared.row.Entry.{Entry}
use Rattle.row_kit.proofs.Ascending.{no_entry}
use Rattle.range_prop.specs.Index.{HasEntry, list_of}
use Rattle.range_prop.proofs.Listed.{row_more}
use Rattle.range_prop.proofs.index.list_row.Goals as goal

pub loop-entry-preserved : goal.loop-entry-preserved
loop-entry-preserved c =
    let lists = c.loop-entry.lists.items in
    let es = c.args.entries.now in
    let i = c.loop-entry.entry-index in
    let s = (get_or es i no_entry).slot in
    let lt : s < length lists = omega (arith, c.requires i no_entry c.loop-entry-test.true, c.loop-entry.invariant.count) in
    let was : c.index_mut.result.now ≡ list_of lists s = get_or_read lists s c.index_mut.result.now lt c.index_mut.ensures.value [] in
    let now' : c.push.new.self ≡ list_of lists s ++ c.args.number ∷ [] = c.in_ok-push.ensures.ok ∙ ap (λ (xs : List ℕ). xs ++ c.args.number ∷ []) was in
    record {
      count = length-set lists s c.push.new.self ∙ c.loop-entry.invariant.count;
      listed = row_more c.args.lists.now.items lists (set lists s c.push.new.self) es i c.args.number c.loop-entry-test.true lt (ap (set lists s) now') c.loop-entry.invariant.listed;
    }

pub returns-clause-listed : goal.returns-clause-listed
returns-clause-listed c = λ slot x.
    let es = c.args.entries.now in
    subst (λ (fs : List Entry). (Contains (list_of c.loop-entry.lists.items slot) x → Contains (list_of c.args.lists.now.items slot) x ⊎ ((x ≡ c.args.number) × HasEntry fs slot)) × (Contains (list_of c.args.lists.now.items slot) x ⊎ ((x ≡ c.args.number) × HasEntry fs slot) → Contains (list_of c.loop-entry.lists.items slot) x))
    (take_all c.loop-entry.entry-index es (omega (arith, c.loop-entry-test.false)))
    (c.loop-entry.invariant.listed slot x)
