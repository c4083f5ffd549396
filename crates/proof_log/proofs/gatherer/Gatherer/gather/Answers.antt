-- What the line has made of the group, by its three forms.
use Rattle.std.proofs.Common.{◌≡◌, refl, ◌+◌, ◌<◌, ◌^◌, sym, ap, ◌∙◌, arith}
use Rattle.proof_log.specs.declared.group.Piece.TheVariants.{Item, Claim}
use Rattle.proof_log.specs.declared.group.Grown.TheVariants.{More, Whole}
use Rattle.proof_log.specs.Gathering.{followed}
use Rattle.proof_log.proofs.Gathers.{may_follow, made_more, made_item, made_claim}
use Rattle.proof_log.proofs.gatherer.Gatherer.gather.Goals as goal

pub grow-requires : goal.grow-requires
grow-requires c =
    let g = c.args.self.now in
    let from = c.requires.comes in
    let rows : g.limits.rows < 2 ^ 32 = omega (arith, c.fits-self) in
    let slots : g.limits.slots < 2 ^ 32 = omega (arith, c.fits-self) in
    may_follow from.0 from.1 from.2 from.3 c.args.line g (record { comes = from.4; body = c.requires.body; few_rows = rows; few_slots = slots })

pub returns-in-More-clause-made : goal.returns-in-More-clause-made
returns-in-More-clause-made c before lines items claim comes =
    let g = c.args.self.now in
    let is : More c.in-More.group ≡ followed g.limits.points g.group c.args.line = sym c.in-More.is ∙ c.in_ok-group.ensures.grown in
    rw c.grow.ensures.same
    (made_more before lines items claim c.args.line g c.in-More.group
    (record { comes = comes; body = c.requires.body; few_rows = omega (arith, c.fits-self); few_slots = omega (arith, c.fits-self) }) is)

pub returns-in-Whole-Item-clause-made : goal.returns-in-Whole-Item-clause-made
returns-in-Whole-Item-clause-made c before lines items claim comes =
    let g = c.args.self.now in
    let is : Whole (Item c.in-Whole-Item.item) ≡ followed g.limits.points g.group c.args.line = ap Whole (sym c.in-Whole-Item.field-0-is) ∙ (sym c.in-Whole-Item.is ∙ c.in_ok-group.ensures.grown) in
    rw c.grow.ensures.same
    (made_item before lines items claim c.args.line g c.in-Whole-Item.item (g.number + 1)
    (record { comes = comes; body = c.requires.body; few_rows = omega (arith, c.fits-self); few_slots = omega (arith, c.fits-self) }) is refl)

pub returns-in-Whole-Claim-clause-made : goal.returns-in-Whole-Claim-clause-made
returns-in-Whole-Claim-clause-made c before lines items claim comes =
    let g = c.args.self.now in
    let is : Whole (Claim c.in-Whole-Claim.claim) ≡ followed g.limits.points g.group c.args.line = ap Whole (sym c.in-Whole-Claim.field-0-is) ∙ (sym c.in-Whole-Claim.is ∙ c.in_ok-group.ensures.grown) in
    rw c.grow.ensures.same
    (made_claim before lines items claim c.args.line g c.in-Whole-Claim.claim
    (record { comes = comes; body = c.requires.body; few_rows = omega (arith, c.fits-self); few_slots = omega (arith, c.fits-self) }) is)
