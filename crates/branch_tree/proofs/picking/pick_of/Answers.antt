-- The slot's domain is split where it may be, and the other domains have values.
use Rattle.std.proofs.Common.{ap, arith, ◌∙◌, subst}
use Rattle.std.proofs.lemmas.Bool.Decides.{nat_tests}
use Rattle.std.proofs.lemmas.List.Elements.{All-set}
use Rattle.row_kit.specs.Area.{present}
use Rattle.row_kit.specs.Domain.{IsOpen, domain_at, over, shared, up_to}
use Rattle.branch_tree.specs.Splits.{split_value}
use Rattle.branch_tree.specs.laws.Picks.{IsAllowed}
use Rattle.branch_tree.proofs.Picked.{as_advised}
use Rattle.branch_tree.proofs.picking.pick_of.Goals as goal

pub returns-clause-parted : goal.returns-clause-parted
returns-clause-parted c =
    let domains = present c.args.area.now in
    let slot = c.slot_of-slot.result.0 in
    let value = c.value_of.result in
    let allowed = subst (λ domain. IsAllowed domain value) c.domain.ensures.value c.value_of.ensures.allowed in
    record {
      slot = c.slot_of-slot.ensures.two.0;
      value = λ less. c.value_of.ensures.given (grind (arith, nat_tests)) ∙ ap split_value c.domain.ensures.value;
      fewer = allowed.fewer;
      left = All-set IsOpen domains slot (shared (domain_at domains slot) (up_to value)) allowed.left c.requires.each_open;
      right = All-set IsOpen domains slot (shared (domain_at domains slot) (over value)) allowed.right c.requires.each_open;
    }

pub returns-clause-own : goal.returns-clause-own
returns-clause-own c =
    as_advised c.args.given (present c.args.area.now) c.args.slot c.args.max c.args.floor c.slot_of-slot.result c.domain.result c.value_of.result
    c.slot_of-slot.ensures.own c.domain.ensures.value c.value_of.ensures.own
