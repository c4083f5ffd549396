use Rattle.std.proofs.Common.{arith}
use Rattle.std.specs.HashMap.{get_by_text}
use Rattle.plant_text.proofs.Places.{goes_on, same_places}
use Rattle.plant_text.proofs.numbers.Numbers.of.Goals as goal

pub loop-place-preserved : goal.loop-place-preserved
loop-place-preserved c =
    let value = c.index-items-place.result in
    goes_on c.args.items.now c.loop-place.place value (get_by_text c.loop-place.places) (get_by_text c.note.new.places) c.loop-place-test.true c.loop-place.invariant (rw (← c.index-items-place.is) (rw (← c.name_in.ensures) c.in_ok-note.ensures))

pub returns : goal.returns
returns c = same_places c.args.items.now c.loop-place.place (get_by_text c.loop-place.places) (omega arith) c.loop-place.invariant
