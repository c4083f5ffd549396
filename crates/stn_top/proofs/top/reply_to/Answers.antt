-- Each command's work comes to what its call promises.
use Rattle.command_words.specs.Words.{Printing}
use Rattle.stn_top.proofs.DoneLemmas.{demonstrated, only_read}
use Rattle.stn_top.proofs.top.reply_to.Goals as goal

pub returns-in-Print-clause-done : goal.returns-in-Print-clause-done
returns-in-Print-clause-done g c =
    rw c.in-Print.is (only_read (Printing c.in-Print.usage c.in-Print.plant.now) (g.F.Shelf.files c.args.files.now) (g.F.Shelf.files c.print_file.new.files) (g.F.Shelf.read_faults c.args.files.now) (g.F.Shelf.read_faults c.print_file.new.files)
    (g.F.Shelf.write_faults c.args.files.now) (g.F.Shelf.write_faults c.print_file.new.files) c.print_file.result
    c.print_file.ensures.answer c.print_file.ensures.fault c.print_file.ensures.unwritten c.print_file.ensures.kept.same c.print_file.ensures.kept.later c.print_file.ensures.kept.no_write)

pub returns-in-Demo-clause-done : goal.returns-in-Demo-clause-done
returns-in-Demo-clause-done g c =
    rw c.in-Demo.is (demonstrated c.in-Demo.seed (g.F.Shelf.files c.args.files.now) (g.F.Shelf.read_faults c.args.files.now) (g.F.Shelf.write_faults c.args.files.now) c.demonstrate.result
    c.demonstrate.ensures.answer c.demonstrate.ensures.no_read c.demonstrate.ensures.no_write)
