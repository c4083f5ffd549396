-- One more of the same.
use Rattle.std.proofs.Common.{◌<◌, length, arith}
use Rattle.setup_slots.specs.Larger.{setup_domain}
use Rattle.setup_slots.specs.declared.setup.SetupSlot.TheVariants.{First}
use Rattle.setup_slots.proofs.Growing.{constant-more}
use Rattle.setup_slots.proofs.tags.add_domains.Goals as goal

pub loop-slot-preserved : goal.loop-slot-preserved
loop-slot-preserved c =
    let less : c.loop-slot._slot-index < length c.args.setups.now = omega (arith, c.loop-slot-test.true) in
    constant-more (setup_domain) c.args.setups.now (First 0) c.loop-slot._slot-index c.args.root.now c.loop-slot.root c.push.new.self less c.loop-slot.invariant (c.in_ok-push.ensures.ok)
