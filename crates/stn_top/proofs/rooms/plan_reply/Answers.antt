-- Each command's work comes to what its call promises.
use Rattle.command_words.specs.Words.{Simulating, Rolling}
use Rattle.stn_top.proofs.DoneLemmas.{only_read}
use Rattle.stn_top.proofs.rooms.plan_reply.Goals as goal

pub returns-in-Simulate-clause-done : goal.returns-in-Simulate-clause-done
returns-in-Simulate-clause-done g c =
    rw c.in-Simulate.is (only_read (Simulating c.in-Simulate.usage c.in-Simulate.plant.now c.in-Simulate.plan.now) (g.F.Shelf.files c.args.files.now) (g.F.Shelf.files c.simulate_file.new.files) (g.F.Shelf.read_faults c.args.files.now) (g.F.Shelf.read_faults c.simulate_file.new.files)
    (g.F.Shelf.write_faults c.args.files.now) (g.F.Shelf.write_faults c.simulate_file.new.files) c.simulate_file.result
    c.simulate_file.ensures.answer c.simulate_file.ensures.fault c.simulate_file.ensures.unwritten c.simulate_file.ensures.kept.same c.simulate_file.ensures.kept.later c.simulate_file.ensures.kept.no_write)

pub returns-in-Roll-clause-done : goal.returns-in-Roll-clause-done
returns-in-Roll-clause-done g c =
    rw c.in-Roll.is (only_read (Rolling c.in-Roll.plant.now c.in-Roll.plan.now c.in-Roll.period.number c.in-Roll.rest) (g.F.Shelf.files c.args.files.now) (g.F.Shelf.files c.roll_file.new.files) (g.F.Shelf.read_faults c.args.files.now) (g.F.Shelf.read_faults c.roll_file.new.files)
    (g.F.Shelf.write_faults c.args.files.now) (g.F.Shelf.write_faults c.roll_file.new.files) c.roll_file.result
    c.roll_file.ensures.answer c.roll_file.ensures.fault c.roll_file.ensures.unwritten c.roll_file.ensures.kept.same c.roll_file.ensures.kept.later c.roll_file.ensures.kept.no_write)
