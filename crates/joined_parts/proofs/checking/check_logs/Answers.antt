-- One more valid log, or the first that is refused.
use Rattle.std.proofs.Common.{◌≡◌, ◌∙◌, ℕ, ◌+◌, ◌^◌, IfSome, length, ap, arith, refl, subst}
use Rattle.std.proofs.lemmas.List.{length_push}
use Rattle.log_parts.proofs.PartsChecked.{one_more, one_more_said, first_bad}
use Rattle.log_parts.specs.PartLogs.{logs_of}
use Rattle.log_parts.specs.laws.Checked.{AreNewest, HaveClaims, head_limits}
use Rattle.log_parts.proofs.Versions.{AreKnown, both_known, known_all, known_more, may_join, older_more}
use Rattle.joined_parts.proofs.checking.check_logs.Goals as goal

pub returns-in-Bad-clause-checked : goal.returns-in-Bad-clause-checked
returns-in-Bad-clause-checked g c =
    let inv = c.loop-part.invariant in
    first_bad c.args.plant.now c.args.levels c.loop-part.part c.args.stem.now c.args.first c.args.first.declared (g.F.Shelf.files c.args.files.now) (g.F.Shelf.files c.loop-part.files) c.loop-part.heads.items c.loop-part.claims.items c.in_ok-version.field-0
    c.in-Bad.defect inv.same inv.counted (omega (arith, c.loop-part-test.true, c.part_count-part-end.ensures)) refl c.in-Bad.is c.requires.first inv.checked c.in_ok-version.ensures.checked

pub loop-part-preserved : goal.loop-part-preserved
loop-part-preserved g c =
    let inv = c.loop-part.invariant in
    let plant = c.args.plant.now in
    let levels = c.args.levels in
    let stem = c.args.stem.now in
    let declared = c.args.first.declared in
    let told = g.F.Shelf.files c.args.files.now in
    let now = g.F.Shelf.files c.loop-part.files in
    let said = c.in_ok-version.field-0 in
    let version = c.in-Valid.version in
    let bytes = c.in-Valid.bytes in
    let claim = c.in-Valid.claim in
    let pushed_head = c.in_ok-push_head-in-Valid.ensures in
    let pushed = c.in_ok-push_claim-in-Valid.ensures in
    let newer = c.is_newest-newest-in-Valid.ensures in
    record {
      counted = ap length pushed ∙ length_push c.loop-part.claims.items claim ∙ ap (λ (n : ℕ). n + 1) inv.counted;
      heads_counted = ap length pushed_head ∙ length_push c.loop-part.heads.items bytes ∙ ap (λ (n : ℕ). n + 1) inv.heads_counted;
      checked = one_more plant levels c.loop-part.part stem declared told now c.loop-part.heads.items c.push_head.new.heads.items c.loop-part.claims.items c.push_claim.new.claims.items said version bytes claim inv.same inv.heads_counted inv.counted
          pushed_head pushed c.in-Valid.is inv.checked c.in_ok-version.ensures.checked;
      known = known_more plant levels c.loop-part.part stem declared told now said version bytes claim c.args.first.version c.loop-part.newest c.is_newest-newest-in-Valid.result inv.same c.in-Valid.is c.in_ok-version.ensures.checked newer inv.known;
      older = λ none. inv.older (older_more version c.loop-part.newest c.is_newest-newest-in-Valid.result newer none);
      said = one_more_said plant levels c.loop-part.part c.loop-part.claims.items c.push_claim.new.claims.items said version bytes claim inv.counted pushed c.in-Valid.is inv.said c.in_ok-version.ensures.says;
      same = c.in_ok-version.ensures.frame.same ∙ inv.same;
      readable = c.in_ok-version.ensures.frame.readable ∙ inv.readable;
      writable = c.in_ok-version.ensures.frame.writable ∙ inv.writable;
      no_write = c.in_ok-version.ensures.frame.no_write ∙ inv.no_write;
      later = omega (arith, c.in_ok-version.ensures.frame.later, inv.later);
    }

pub returns-clause-checked : goal.returns-clause-checked
returns-clause-checked g c =
    let inv = c.loop-part.invariant in
    let plant = c.args.plant.now in
    let levels = c.args.levels in
    let stem = c.args.stem.now in
    let told = g.F.Shelf.files c.args.files.now in
    let end : c.loop-part.part ≡ 2 ^ levels = omega (arith, c.loop-part-test.false, c.part_count-part-end.ensures) in
    let known = subst (λ (n : ℕ). IfSome told (λ m. AreKnown (logs_of m stem) n c.args.first.version c.loop-part.newest)) end inv.known in
    both_known told (λ m. HaveClaims plant levels (logs_of m stem) c.args.first.declared c.loop-part.heads.items c.loop-part.claims.items) (λ m. AreNewest (logs_of m stem) (2 ^ levels) c.loop-part.newest) inv.checked
    (known_all plant levels stem told c.args.first c.loop-part.newest c.requires.first known)

pub returns-clause-says : goal.returns-clause-says
returns-clause-says g c =
    let inv = c.loop-part.invariant in
    let end : c.loop-part.part ≡ 2 ^ c.args.levels = omega (arith, c.loop-part-test.false, c.part_count-part-end.ensures) in
    record {
      all_claims = inv.counted ∙ end;
      all_heads = inv.heads_counted ∙ end;
      may = may_join c.args.plant.now (head_limits c.args.plant.now c.args.levels) c.args.first.version c.args.first.declared c.loop-part.newest c.requires.kept.may inv.older;
      limits_are = c.requires.kept.limits_are;
      each = inv.said;
    }
