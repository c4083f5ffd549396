-- One more log is read past the split, or did not go down there.
use Rattle.std.proofs.Common.{◌≡◌, ◌∙◌, ◌<◌, ◌≤◌, ◌+◌, ℕ, List, Bool, Option, drop, get_or, length, set, take, refl, sym, ap, subst, inl, arith}
use Rattle.std.specs.Prelude.{IsTrue, not}
use Rattle.std.proofs.lemmas.List.{length-set}
use Rattle.std.proofs.lemmas.List.Elements.{All-set}
use Rattle.stn_edge.specs.Files.{FileMap}
use Rattle.store_frames.specs.Frames.{OnlyReads}
use Rattle.row_relax.specs.RowProofs.{RowItem}
use Rattle.log_nodes.specs.Reading.{IsReading, ReadsOn}
use Rattle.merged_nodes.specs.declared.sources.Source.{Source}
use Rattle.merged_nodes.specs.laws.Looked.{AreReading, HasPassed, HavePassed, IsSourceReading, MayRead}
use Rattle.log_parts.proofs.Frames.{reads-none, reads-then}
use Rattle.merged_nodes.proofs.Places.{same-behind, same-there}
use Rattle.merged_nodes.proofs.Stands.{holds-there}
use Rattle.merged_nodes.proofs.Passed.{below-some, passed-below, passed-none, passed-there, reading-some, source-reading}
use Rattle.merged_nodes.proofs.passing.pass_below.Goals.{then-source-depth+in_ok-name+in_ok-skip_below+else-is_none, else-source-depth}
use Rattle.merged_nodes.proofs.passing.pass_below.Goals as goal

pub loop-place-init : goal.loop-place-init
loop-place-init g c = record {
  passed = passed-none (g.F.Shelf.files c.args.files.now) c.args.merging.stem.now c.args.end.now c.args.depth;
  as_many = refl;
  rest = refl;
  reading = c.requires.reading;
  frame = reads-none g.F.Shelf c.args.files.now;
}

pub skip_below-requires-clause-allowed : goal.skip_below-requires-clause-allowed
skip_below-requires-clause-allowed g c =
    let inv = c.loop-place.invariant in
    let stem = c.args.merging.stem.now in
    let one = c.index_mut-source.result.now in
    let first = c.args.sources.now.items in
    let sources = c.loop-place.sources.items in
    let place = c.loop-place.place in
    let within : place < length first = omega (arith, c.loop-place-test.true, c.len-place-end.ensures) in
    let own : MayRead (g.F.Shelf.may_read c.args.files.now) stem one = holds-there (MayRead (g.F.Shelf.may_read c.args.files.now) stem) first place one within (c.index_mut-source.ensures.value ∙ same-there sources first place one inv.rest) c.requires.allowed in
    let named = c.as_str.ensures.value ∙ c.in_ok-name.ensures in
    subst (λ (n : List ℕ). IsTrue (g.F.Shelf.may_read c.loop-place.files n)) (sym named) (subst (λ (may : List ℕ → Bool). MayRead may stem one) (sym inv.frame.readable) own)

pub skip_below-requires-clause-reading : goal.skip_below-requires-clause-reading
skip_below-requires-clause-reading g c =
    let inv = c.loop-place.invariant in
    let stem = c.args.merging.stem.now in
    let one = c.index_mut-source.result.now in
    let sources = c.loop-place.sources.items in
    let within : c.loop-place.place < length sources = omega (arith, c.loop-place-test.true, c.len-place-end.ensures, inv.as_many) in
    let own : IsSourceReading (g.F.Shelf.files c.args.files.now) stem one = holds-there (IsSourceReading (g.F.Shelf.files c.args.files.now) stem) sources c.loop-place.place one within c.index_mut-source.ensures.value inv.reading in
    let named = c.as_str.ensures.value ∙ c.in_ok-name.ensures in
    subst (λ (n : List ℕ). IsReading (g.F.Shelf.files c.loop-place.files) n one.reader) (sym named) (subst (λ (files : Option FileMap). IsSourceReading files stem one) (sym inv.frame.same) own)

pub loop-place-preserved : goal.loop-place-preserved
loop-place-preserved g c =
    let inv = c.loop-place.invariant in
    let told = g.F.Shelf.files c.args.files.now in
    let now = g.F.Shelf.files c.loop-place.files in
    let stem = c.args.merging.stem.now in
    let depth = c.args.depth in
    let end = c.args.end.now in
    let one = c.index_mut-source.result.now in
    let first = c.args.sources.now.items in
    let sources = c.loop-place.sources.items in
    let place = c.loop-place.place in
    let within : place < length sources = omega (arith, c.loop-place-test.true, c.len-place-end.ensures, inv.as_many) in
    let is : one ≡ get_or sources place one = c.index_mut-source.ensures.value in
    elim c.if-source-depth.branch [
      | then-source-depth+in_ok-name+in_ok-skip_below+else-is_none w ↦
          let reader = w.skip_below.new.reader in
          let later : Source = record { number = one.number; reader = reader; depth = depth } in
          let name = w.as_str.result.now in
          let named = w.as_str.ensures.value ∙ w.in_ok-name.ensures in
          let ok = w.in_ok-skip_below.ensures in
          let count = w.in_ok-skip_below.field-0 in
          let counted = w.is_none.ensures ∙ ap not w.if-is_none.false in
          let down : depth < one.depth = omega (arith, w.if-source-depth.true) in
          let items : c.if-source-depth.sources.items ≡ set sources place later = ap (λ v. v.items) w.sources-is in
          let below = below-some (λ (items : List RowItem). ReadsOn now name one.reader items reader) end count counted ok.below in
          let has : HasPassed told stem end depth one later = passed-below told now name stem end depth one reader below.0 inv.frame.same named down below.1 in
          let reading : IsReading now name reader = reading-some (IsReading now name reader) count counted ok.reading in
          let passed : HavePassed told stem end depth (take (place + 1) first) (take (place + 1) (set sources place later)) =
          passed-there told stem end depth first sources place one later within inv.as_many inv.rest is inv.passed has in
          record {
            passed = subst (λ (xs : List Source). HavePassed told stem end depth (take (place + 1) first) (take (place + 1) xs)) (sym items) passed;
            as_many = ap length items ∙ (length-set sources place later ∙ inv.as_many);
            rest = ap (λ (xs : List Source). drop (place + 1) xs) items ∙ same-behind sources first place later inv.rest;
            reading = subst (AreReading told stem) (sym items) (All-set (IsSourceReading told stem) sources place later (source-reading told now name stem one.number depth reader inv.frame.same named reading) inv.reading);
            frame = subst (OnlyReads g.F.Shelf c.args.files.now) (sym w.files-is) (reads-then g.F.Shelf c.args.files.now c.loop-place.files w.skip_below.new.files inv.frame
                (record { same = ok.same; readable = ok.readable; writable = ok.writable; later = ok.later; no_write = ok.no_write }));
          }
      | else-source-depth w ↦
          let above : one.depth ≤ depth = omega (arith, w.if-source-depth.false) in
          let items : c.if-source-depth.sources.items ≡ set sources place one = ap (λ v. v.items) w.sources-is in
          let reading : IsSourceReading told stem one = holds-there (IsSourceReading told stem) sources place one within is inv.reading in
          let has : HasPassed told stem end depth one one = inl (above, refl) in
          let passed : HavePassed told stem end depth (take (place + 1) first) (take (place + 1) (set sources place one)) =
          passed-there told stem end depth first sources place one one within inv.as_many inv.rest is inv.passed has in
          record {
            passed = subst (λ (xs : List Source). HavePassed told stem end depth (take (place + 1) first) (take (place + 1) xs)) (sym items) passed;
            as_many = ap length items ∙ (length-set sources place one ∙ inv.as_many);
            rest = ap (λ (xs : List Source). drop (place + 1) xs) items ∙ same-behind sources first place one inv.rest;
            reading = subst (AreReading told stem) (sym items) (All-set (IsSourceReading told stem) sources place one reading inv.reading);
            frame = subst (OnlyReads g.F.Shelf c.args.files.now) (sym w.files-is) inv.frame;
          }
    ]
