use Rattle.std.proofs.Common.{sym, subst, arith}
use Rattle.sum_lines.specs.Walk.{IsAfter}
use Rattle.setup_lines.proofs.Lines.{text-nil}
use Rattle.setup_lines.proofs.reading.read_setups.Goals as goal

pub read_units-requires-clause-passed : goal.read_units-requires-clause-passed
read_units-requires-clause-passed g c =
    let files = g.F.Shelf.files c.args.files.now in
    let name = c.args.name.now in
    record {
      line = omega (arith, c.in_ok-walk.ensures.line);
      after = subst (λ t. IsAfter files name c.args.head.bytes t c.in_ok-walk.walk) (sym text-nil) (c.in_ok-walk.ensures.after files name);
    }
