-- The logs are put in order, and the merged log is written and checked.
use Rattle.std.proofs.Common.{◌<◌, ℕ, List, ap, length, refl, subst, sym, arith}
use Rattle.std.specs.Prelude.{All, IfSome}
use Rattle.stn_edge.specs.Files.{file_of}
use Rattle.proof_log.specs.declared.claim.Claim.{Claim}
use Rattle.log_nodes.specs.declared.front.Front.{Front}
use Rattle.log_parts.specs.PartLogs.{logs_of}
use Rattle.merge_ends.specs.MergedClaims.{IsOrder}
use Rattle.log_merging.specs.MergedLogs.{IsMergedLog}
use Rattle.log_merging.proofs.Begun.{answer-then}
use Rattle.log_merging.proofs.Mergings.{merged-checked, order-within}
use Rattle.log_merging.proofs.merges.merge_logs.Goals as goal

pub in_order-requires : goal.in_order-requires
in_order-requires g c =
    let claims = c.requires.known.claims in
    let few = c.requires.few.1 in
    let is = ap length c.as_slice.ensures.value in
    omega (arith, claims, few, is)

pub write_checked-requires-clause-order : goal.write_checked-requires-clause-order
write_checked-requires-clause-order g c =
    let logs = c.args.logs in
    let ordered = subst (λ (claims : List Claim). IsOrder claims c.in_ok-order.order.items) c.as_slice.ensures.value c.in_ok-order.ensures in
    let all = order-within logs.claims.items c.in_ok-order.order.items (length logs.fronts.items) c.requires.known.claims ordered in
    let here = subst (λ (order : List ℕ). All (λ number. number < length logs.fronts.items) order) (sym c.as_slice-3.ensures.value) all in
    subst (λ (fronts : List Front). All (λ number. number < length fronts) c.as_slice-3.result.now) (sym c.as_slice-2.ensures.value) here

pub returns-clause-merged : goal.returns-clause-merged
returns-clause-merged g c =
    let logs = c.args.logs in
    let order = c.in_ok-order.order.items in
    let plant = c.args.plant.now in
    let stem = c.args.stem.now in
    let out = c.args.out.now in
    let old = g.F.Shelf.files c.args.files.now in
    let new = g.F.Shelf.files c.write_checked.new.files in
    let ordered = subst (λ (claims : List Claim). IsOrder claims order) c.as_slice.ensures.value c.in_ok-order.ensures in
    answer-then c.write_checked.result _ (λ own. IfSome old (λ m. IfSome new (λ n. IsMergedLog plant (length logs.fronts.items) (logs_of m stem) own (file_of n out))))
    (λ own has. merged-checked _ c.joined.result own stem out old new plant (length logs.fronts.items) logs order refl refl c.as_slice-2.ensures.value c.as_slice-3.ensures.value c.requires.checked c.requires.known c.joined.ensures.joined ordered has) c.write_checked.ensures.checked
