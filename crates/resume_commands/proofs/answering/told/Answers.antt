-- The reply of a claim's answer tells the claim.
use Rattle.resume_commands.proofs.Telling.{named-printed, tells-if}
use Rattle.resume_commands.proofs.answering.told.Goals as goal

pub answered-requires : goal.answered-requires
answered-requires c = named-printed c.args.plant.now c.in_ok-said.said c.in_ok-said.ensures.writable

pub returns : goal.returns
returns c =
    let is = c.in_ok-said.ensures in
    tells-if c.args.plant.now c.args.claim.now c.args.boxes c.in_ok-said.said c.answered.result c.requires.sound is.of_claim is.writable is.few c.in_money.ensures c.in_bits.ensures c.answered.ensures
