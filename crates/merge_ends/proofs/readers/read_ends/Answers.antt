-- One more log has ended.
use Rattle.std.proofs.Common.{◌≡◌, ◌∙◌, ◌<◌, ◌≤◌, ℕ, Bool, List, Option, get_or, length, subst, sym, arith}
use Rattle.std.specs.Prelude.{All, IsTrue}
use Rattle.std.proofs.lemmas.List.{length-set, take_all}
use Rattle.std.proofs.lemmas.List.Elements.{All-more}
use Rattle.stn_edge.specs.Files.{FileMap}
use Rattle.proof_log.specs.LogNames.{log_name}
use Rattle.log_nodes.specs.Reading.{EndsClean, IsReading}
use Rattle.merged_nodes.specs.declared.sources.Source.{Source}
use Rattle.log_parts.proofs.Frames.{reads-then}
use Rattle.merge_ends.proofs.SourcesBegun.{rest-more, same-here}
use Rattle.merge_ends.proofs.readers.read_ends.Goals as goal

pub read_end-requires-clause-allowed : goal.read_end-requires-clause-allowed
read_end-requires-clause-allowed g c =
    let inv = c.loop-place.invariant in
    let stem = c.args.stem.now in
    let own = c.args.sources.now.items in
    let place = c.loop-place.place in
    let source = c.index_mut-source.result.now in
    let many = inv.as_many in
    let lt : place < length own = omega (arith, c.loop-place-test.true, c.len-place-end.ensures, c.args.sources.now.ok.0) in
    let here : source ≡ get_or own place source = c.index_mut-source.ensures.value ∙ same-here c.loop-place.sources.items own place source inv.rest in
    let name : c.as_str.result.now ≡ log_name stem source.number = c.as_str.ensures.value ∙ c.in_ok-name.ensures in
    let may = subst (λ (s : Source). IsTrue (g.F.Shelf.may_read c.args.files.now (log_name stem s.number))) (sym here) (c.requires.allowed place source lt) in
    let named = subst (λ (n : List ℕ). IsTrue (g.F.Shelf.may_read c.args.files.now n)) (sym name) may in
    subst (λ (can : List ℕ → Bool). IsTrue (can c.as_str.result.now)) (sym inv.frame.readable) named

pub read_end-requires-clause-reading : goal.read_end-requires-clause-reading
read_end-requires-clause-reading g c =
    let inv = c.loop-place.invariant in
    let stem = c.args.stem.now in
    let own = c.args.sources.now.items in
    let place = c.loop-place.place in
    let source = c.index_mut-source.result.now in
    let old = g.F.Shelf.files c.args.files.now in
    let lt : place < length own = omega (arith, c.loop-place-test.true, c.len-place-end.ensures, c.args.sources.now.ok.0) in
    let here : source ≡ get_or own place source = c.index_mut-source.ensures.value ∙ same-here c.loop-place.sources.items own place source inv.rest in
    let name : c.as_str.result.now ≡ log_name stem source.number = c.as_str.ensures.value ∙ c.in_ok-name.ensures in
    let reading = subst (λ (s : Source). IsReading old (log_name stem s.number) s.reader) (sym here) (c.requires.reading place source lt) in
    let named = subst (λ (n : List ℕ). IsReading old n source.reader) (sym name) reading in
    subst (λ (told : Option FileMap). IsReading told c.as_str.result.now source.reader) (sym inv.frame.same) named

pub loop-place-preserved : goal.loop-place-preserved
loop-place-preserved g c =
    let inv = c.loop-place.invariant in
    let stem = c.args.stem.now in
    let own = c.args.sources.now.items in
    let place = c.loop-place.place in
    let source = c.index_mut-source.result.now in
    let old = g.F.Shelf.files c.args.files.now in
    let many = inv.as_many in
    let lt : place < length own = omega (arith, c.loop-place-test.true, c.len-place-end.ensures, c.args.sources.now.ok.0) in
    let lt_now : place < length c.loop-place.sources.items = omega (arith, lt, many) in
    let here : source ≡ get_or own place source = c.index_mut-source.ensures.value ∙ same-here c.loop-place.sources.items own place source inv.rest in
    let name : c.as_str.result.now ≡ log_name stem source.number = c.as_str.ensures.value ∙ c.in_ok-name.ensures in
    let ok = c.in_ok-read_end.ensures in
    let end = ok.end c.if-not-branch.false in
    let told = subst (λ (files : Option FileMap). EndsClean files c.as_str.result.now source.reader) inv.frame.same end in
    let named = subst (λ (n : List ℕ). EndsClean old n source.reader) name told in
    let ends = λ (s : Source). EndsClean old (log_name stem s.number) s.reader in
    record {
      ended = All-more ends own place source lt inv.ended (subst (λ (s : Source). EndsClean old (log_name stem s.number) s.reader) here named);
      as_many = length-set _ _ _ ∙ inv.as_many;
      rest = rest-more c.loop-place.sources.items own place _ source lt_now lt inv.rest;
      frame = reads-then g.F.Shelf c.args.files.now c.loop-place.files c.read_end.new.files inv.frame
          (record { same = ok.same; readable = ok.readable; writable = ok.writable; later = ok.later; no_write = ok.no_write });
    }

pub returns-clause-ended : goal.returns-clause-ended
returns-clause-ended g c = λ whole.
    let stem = c.args.stem.now in
    let own = c.args.sources.now.items in
    let old = g.F.Shelf.files c.args.files.now in
    let past : length own ≤ c.loop-place.place = omega (arith, c.loop-place-test.false, c.len-place-end.ensures, c.args.sources.now.ok.0) in
    subst (All (λ (s : Source). EndsClean old (log_name stem s.number) s.reader)) (take_all c.loop-place.place own past) c.loop-place.invariant.ended
