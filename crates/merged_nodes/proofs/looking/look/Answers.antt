-- One more log is looked at, or did not come down.
use Rattle.std.proofs.Common.{◌≡◌, ◌∙◌, ◌<◌, ◌≤◌, ◌+◌, ℕ, List, Bool, Option, drop, get_or, length, map, set, take, refl, sym, ap, subst, arith}
use Rattle.std.proofs.lemmas.List.{length-set}
use Rattle.std.proofs.lemmas.List.Elements.{All-set}
use Rattle.stn_edge.specs.Files.{FileMap}
use Rattle.store_frames.specs.Frames.{OnlyReads}
use Rattle.row_relax.specs.View.{view_of}
use Rattle.log_nodes.specs.laws.Seen.{seen}
use Rattle.merged_nodes.specs.declared.looking.Looked.{Looked}
use Rattle.merged_nodes.specs.declared.sources.Source.{Source}
use Rattle.merged_nodes.specs.laws.Looked.{AreReading, HasLooked, HasLookedAt, IsSourceReading, MayRead}
use Rattle.log_parts.proofs.Frames.{reads-none, reads-then}
use Rattle.merged_nodes.proofs.Places.{same-behind, same-there}
use Rattle.merged_nodes.proofs.Stands.{holds-there, looked-away, looked-from, looked-none, looked-same, looked-there}
use Rattle.merged_nodes.proofs.looking.look.Goals.{then-source-depth+in_ok-look_at+else-not-branch, else-source-depth}
use Rattle.merged_nodes.proofs.looking.look.Goals as goal

pub loop-place-init : goal.loop-place-init
loop-place-init g c = record {
  looked = looked-none c.args.merging.rows.now (seen c.args.area.now) (g.F.Shelf.files c.args.files.now) c.args.merging.stem.now c.args.depth;
  as_many = refl;
  rest = refl;
  reading = c.requires.reading;
  as_before = refl;
  frame = reads-none g.F.Shelf c.args.files.now;
}

pub look_at-requires-clause-allowed : goal.look_at-requires-clause-allowed
look_at-requires-clause-allowed g c =
    let inv = c.loop-place.invariant in
    let stem = c.args.merging.stem.now in
    let one = c.index_mut-source.result.now in
    let first = c.args.sources.now.items in
    let sources = c.loop-place.sources.items in
    let place = c.loop-place.place in
    let within : place < length first = omega (arith, c.loop-place-test.true, c.len-place-end.ensures) in
    let own : MayRead (g.F.Shelf.may_read c.args.files.now) stem one = holds-there (MayRead (g.F.Shelf.may_read c.args.files.now) stem) first place one within (c.index_mut-source.ensures.value ∙ same-there sources first place one inv.rest) c.requires.allowed in
    subst (λ (may : List ℕ → Bool). MayRead may stem one) (sym inv.frame.readable) own

pub look_at-requires-clause-reading : goal.look_at-requires-clause-reading
look_at-requires-clause-reading g c =
    let inv = c.loop-place.invariant in
    let stem = c.args.merging.stem.now in
    let one = c.index_mut-source.result.now in
    let sources = c.loop-place.sources.items in
    let within : c.loop-place.place < length sources = omega (arith, c.loop-place-test.true, c.len-place-end.ensures, inv.as_many) in
    let own : IsSourceReading (g.F.Shelf.files c.args.files.now) stem one = holds-there (IsSourceReading (g.F.Shelf.files c.args.files.now) stem) sources c.loop-place.place one within c.index_mut-source.ensures.value inv.reading in
    subst (λ (files : Option FileMap). IsSourceReading files stem one) (sym inv.frame.same) own

pub loop-place-preserved : goal.loop-place-preserved
loop-place-preserved g c =
    let inv = c.loop-place.invariant in
    let rows = c.args.merging.rows.now in
    let view = seen c.args.area.now in
    let told = g.F.Shelf.files c.args.files.now in
    let now = g.F.Shelf.files c.loop-place.files in
    let stem = c.args.merging.stem.now in
    let depth = c.args.depth in
    let one = c.index_mut-source.result.now in
    let first = c.args.sources.now.items in
    let sources = c.loop-place.sources.items in
    let place = c.loop-place.place in
    let old = c.loop-place.looked in
    let within : place < length sources = omega (arith, c.loop-place-test.true, c.len-place-end.ensures, inv.as_many) in
    let is : one ≡ get_or sources place one = c.index_mut-source.ensures.value in
    elim c.if-source-depth.branch [
      | then-source-depth+in_ok-look_at+else-not-branch w ↦
          let moved : Source = record one { depth = depth } in
          let later = w.look_at.new.source in
          let new = w.look_at.new.looked in
          let ok = w.in_ok-look_at.ensures in
          let whole = w.if-not-branch.false in
          let down : depth ≤ one.depth = omega (arith, w.if-source-depth.true) in
          let items : c.if-source-depth.sources.items ≡ set sources place later = ap (λ v. v.items) w.sources-is in
          let has : HasLookedAt rows view told stem depth moved later old new =
          looked-same rows (map view_of c.args.area.now) (map view_of c.loop-place.area) told now stem depth moved later old new inv.as_before inv.frame.same (ok.looked whole) in
          let looked : HasLooked rows view told stem depth (take (place + 1) first) (take (place + 1) (set sources place later)) new =
          looked-there rows view told stem depth first sources place one later old new within inv.as_many inv.rest is inv.looked (looked-from rows view told stem depth one moved later old new refl refl refl down has) in
          let reading : IsSourceReading told stem later = subst (λ (files : Option FileMap). IsSourceReading files stem later) inv.frame.same (ok.reading whole) in
          record {
            looked = subst (λ (l : Looked). HasLooked rows view told stem depth (take (place + 1) first) (take (place + 1) c.if-source-depth.sources.items) l) (sym w.looked-is)
                (subst (λ (xs : List Source). HasLooked rows view told stem depth (take (place + 1) first) (take (place + 1) xs) new) (sym items) looked);
            as_many = ap length items ∙ (length-set sources place later ∙ inv.as_many);
            rest = ap (λ (xs : List Source). drop (place + 1) xs) items ∙ same-behind sources first place later inv.rest;
            reading = subst (AreReading told stem) (sym items) (All-set (IsSourceReading told stem) sources place later reading inv.reading);
            as_before = ap (map view_of) w.area-is ∙ (ok.as_before whole ∙ inv.as_before);
            frame = subst (OnlyReads g.F.Shelf c.args.files.now) (sym w.files-is) (reads-then g.F.Shelf c.args.files.now c.loop-place.files w.look_at.new.files inv.frame ok.frame);
          }
      | else-source-depth w ↦
          let above : one.depth < depth = omega (arith, w.if-source-depth.false) in
          let items : c.if-source-depth.sources.items ≡ set sources place one = ap (λ v. v.items) w.sources-is in
          let looked : HasLooked rows view told stem depth (take (place + 1) first) (take (place + 1) (set sources place one)) old =
          looked-there rows view told stem depth first sources place one one old old within inv.as_many inv.rest is inv.looked (looked-away rows view told stem depth one old above) in
          let reading : IsSourceReading told stem one = holds-there (IsSourceReading told stem) sources place one within is inv.reading in
          record {
            looked = subst (λ (l : Looked). HasLooked rows view told stem depth (take (place + 1) first) (take (place + 1) c.if-source-depth.sources.items) l) (sym w.looked-is)
                (subst (λ (xs : List Source). HasLooked rows view told stem depth (take (place + 1) first) (take (place + 1) xs) old) (sym items) looked);
            as_many = ap length items ∙ (length-set sources place one ∙ inv.as_many);
            rest = ap (λ (xs : List Source). drop (place + 1) xs) items ∙ same-behind sources first place one inv.rest;
            reading = subst (AreReading told stem) (sym items) (All-set (IsSourceReading told stem) sources place one reading inv.reading);
            as_before = ap (map view_of) w.area-is ∙ inv.as_before;
            frame = subst (OnlyReads g.F.Shelf c.args.files.now) (sym w.files-is) inv.frame;
          }
    ]
