-- A cap that says more is within what the other was within.
use Rattle.std.proofs.Common.{◌≡◌, true, ap, sym, ◌∙◌}
use Rattle.row_kit.specs.Area.{present}
use Rattle.dual_bound.specs.Cap.{cert_cap}
use Rattle.branch_tree.specs.laws.Ends.{says_more}
use Rattle.branch_tree.proofs.Caps.{says_more-within}
use Rattle.branch_tree.proofs.judging.lower.Goals as goal

pub returns-then-says_more : goal.returns-then-says_more
returns-then-says_more c =
    let program = c.args.program.now in
    let domains = present c.args.area.now in
    let more : says_more c.cap.result c.cap-in-Some.result ≡ true = sym c.says_more.ensures ∙ c.if-says_more.true in
    let caps : says_more (cert_cap program domains c.in-Some.other) (cert_cap program domains c.args.one) ≡ true =
    ap (λ cap. says_more cap (cert_cap program domains c.args.one)) (sym c.cap.ensures.cap) ∙ ap (says_more c.cap.result) (sym c.cap-in-Some.ensures.cap) ∙ more in
    says_more-within _ _ _ caps c.requires.no_higher
