-- The best of three is worth as much as each.
use Rattle.std.proofs.Common.{◌≡◌, sym, ap, ◌∙◌, subst}
use Rattle.std.specs.Prelude.{IfSome, ◌≤ℤ◌}
use Rattle.std.specs.Option.{IsSomeAnd}
use Rattle.row_kit.specs.Area.{present}
use Rattle.row_relax.specs.Choices.{settled_in}
use Rattle.branch_tree.specs.Compared.{better_of}
use Rattle.branch_tree.specs.laws.Ends.{Reaches}
use Rattle.branch_tree.specs.laws.Grounds.{rows_of}
use Rattle.branch_tree.proofs.Best.{better-first, better-second, own-third, reaches-better}
use Rattle.branch_tree.proofs.found.found_at.Goals as goal

pub returns-clause-own : goal.returns-clause-own
returns-clause-own g c =
    let is : c.better-2.result ≡ better_of (better_of c.args.own c.in_ok-only.only) c.in_ok-hinted.hinted = c.better-2.ensures ∙ ap (λ mid. better_of mid c.in_ok-hinted.hinted) c.better.ensures in
    subst (λ best. IfSome c.args.own (λ f. IsSomeAnd best (λ b. f.value ≤ℤ b.value))) (sym is) (own-third c.args.own c.in_ok-only.only c.in_ok-hinted.hinted)

pub returns-clause-only : goal.returns-clause-only
returns-clause-only g c = λ all.
    let cap = settled_in (rows_of c.args.ground.now) (present c.args.area.now) in
    let is : c.better-2.result ≡ better_of (better_of c.args.own c.in_ok-only.only) c.in_ok-hinted.hinted = c.better-2.ensures ∙ ap (λ mid. better_of mid c.in_ok-hinted.hinted) c.better.ensures in
    let mid = reaches-better cap c.in_ok-only.only (better_of c.args.own c.in_ok-only.only) (better-second c.args.own c.in_ok-only.only) (c.in_ok-only.ensures.only all) in
    subst (Reaches cap) (sym is) (reaches-better cap (better_of c.args.own c.in_ok-only.only) (better_of (better_of c.args.own c.in_ok-only.only) c.in_ok-hinted.hinted) (better-first (better_of c.args.own c.in_ok-only.only) c.in_ok-hinted.hinted) mid)
