-- The polished certificate is row-wise best, since its cap is still over the best.
use Rattle.std.proofs.Common.{◌≡◌, true, ap, sym, ◌∙◌}
use Rattle.row_kit.specs.Area.{present}
use Rattle.dual_bound.specs.Cap.{cert_cap}
use Rattle.branch_tree.specs.Compared.{is_over}
use Rattle.branch_tree.specs.laws.Grounds.{program_of}
use Rattle.branch_tree.proofs.Caps.{polished}
use Rattle.branch_tree.proofs.judging.settle_or_split.Goals as goal

pub returns-clause-verdict : goal.returns-clause-verdict
returns-clause-verdict c =
    let program = program_of c.args.ground.now in
    let domains = present c.args.area.now in
    let over : is_over (cert_cap program domains c.polish.new.cert) c.args.best ≡ true = ap (λ cap. is_over cap c.args.best) (sym c.cap.ensures.cap) ∙ sym c.exceeds.ensures ∙ c.if-not-exceeds.false in (
      polished program domains c.args.cert c.polish.new.cert c.args.best c.requires.no_higher c.requires.over c.polish.ensures.scale c.polish.ensures.total c.in_ok-polish.ensures.best over,
      c.pick_left-pick.ensures.parted,
      over,
      c.pick_left-pick.ensures.floor,
    )
