-- The merged log is begun, takes the merged proof, and is ended with its claim.
use Rattle.std.proofs.Common.{◌≡◌, ◌∙◌, ℕ, Bool, List, Option, ap, subst, sym}
use Rattle.std.specs.Prelude.{IfSome, IsTrue}
use Rattle.stn_edge.specs.Files.{OthersStay}
use Rattle.proof_log.specs.LogNames.{log_name}
use Rattle.proof_tree.specs.declared.capped.Capped.{Capped}
use Rattle.row_relax.specs.RowProofs.{RowItem}
use Rattle.sum_slots.specs.declared.sum.Sum.{Sum}
use Rattle.valid_log.specs.SumTexts.{larger_claim}
use Rattle.log_parts.specs.Heads.{joined_version}
use Rattle.log_parts.specs.laws.Copying.{HasItems, IsFinished, name_of}
use Rattle.log_merging.specs.laws.Written.{HasMergedWhole, HasWritten}
use Rattle.log_merging.proofs.Begun.{answer-then, begun-apart, begun-may-read, begun-reading, has-written}
use Rattle.log_merging.proofs.writing.write_merged.Goals as goal

pub merge_whole-requires-clause-may_read : goal.merge_whole-requires-clause-may_read
merge_whole-requires-clause-may_read g c =
    let stem = c.args.stem.now in
    let work = c.args.work in
    begun-may-read (g.F.Shelf.may_read c.begin_log.new.files) stem work.fronts.now work.order.now c.in_ok-sources.sources.items c.in_ok-sources.ensures c.requires.order
    (λ number lt. subst (λ (may : List ℕ → Bool). IsTrue (may (log_name stem number))) (sym c.in_ok-writer.ensures.readable) (c.requires.may_read number lt))

pub merge_whole-requires-clause-apart : goal.merge_whole-requires-clause-apart
merge_whole-requires-clause-apart g c =
    let work = c.args.work in
    begun-apart c.args.out.now (name_of c.in_ok-writer.writer) c.args.stem.now work.fronts.now work.order.now c.in_ok-sources.sources.items c.in_ok-sources.ensures c.requires.order c.in_ok-writer.ensures.named c.requires.apart

pub merge_whole-requires-clause-reading : goal.merge_whole-requires-clause-reading
merge_whole-requires-clause-reading g c =
    let work = c.args.work in
    begun-reading (g.F.Shelf.files c.begin_log.new.files) c.args.stem.now work.fronts.now work.order.now c.in_ok-sources.sources.items c.in_ok-sources.ensures c.requires.order

pub returns-in-Some-claim_with_cap-clause-written : goal.returns-in-Some-claim_with_cap-clause-written
returns-in-Some-claim_with_cap-clause-written g c =
    let work = c.args.work in
    let best = c.args.best in
    let stem = c.args.stem.now in
    let out = c.args.out.now in
    let old = g.F.Shelf.files c.args.files.now in
    let begun = g.F.Shelf.files c.begin_log.new.files in
    let new = g.F.Shelf.files c.merge_whole.new.files in
    let last = g.F.Shelf.files c.end_log.new.files in
    let before = c.in_ok-sources.sources.items in
    let writer = c.in_ok-writer.writer in
    let later = c.merge_whole.new.writer in
    let cap = c.in-Some.cap in
    let claim = c.in-Some-claim_with_cap.claim in
    let sums = c.as_slice-in-Some-claim_with_cap.result.now in
    let larger = larger_claim sums claim in
    let profit = c.profit_of.result in
    let version = c.joined_version-version.result in
    let named = c.in_ok-writer.ensures.named in
    let whole = subst (λ (o : Option Capped). IfSome o (HasMergedWhole work.first.now.rows profit begun new stem before writer later)) c.in-Some.is c.in_ok-cap.ensures.merged in
    let others = subst (λ (name : List ℕ). OthersStay name begun new) named c.in_ok-cap.ensures.frame.others in
    answer-then c.end_log.result (λ own. (own ≡ claim) × ((front : List ℕ) (items : List RowItem) → HasItems front later new items → IsFinished front (name_of later) items larger last)) (HasWritten work best stem out old last)
    (λ own is. subst (HasWritten work best stem out old last) (sym is.0)
    (has-written work best claim profit stem out old begun new last before writer later cap larger version c.requires.order c.requires.apart c.in_ok-writer.ensures.others others c.in_ok-sources.ensures (c.in_ok-cap.ensures.named ∙ named) c.profit_of.ensures
    (c.joined_version-version.ensures ∙ ap (joined_version work.newest) c.as_slice.ensures) c.in_ok-writer.ensures.begun whole c.in-Some-claim_with_cap.ensures (ap (λ (s : List Sum). larger_claim s claim) c.as_slice-in-Some-claim_with_cap.ensures) is.1)) c.end_log.ensures.ended
