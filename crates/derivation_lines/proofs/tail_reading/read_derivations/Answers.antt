use Rattle.std.proofs.Common.{sym, subst, arith}
use Rattle.sum_lines.specs.Walk.{IsAfter}
use Rattle.derivation_lines.proofs.LineTexts.{lines_text-nil}
use Rattle.derivation_lines.proofs.tail_reading.read_derivations.Goals as goal

pub read_tail-requires-clause-passed : goal.read_tail-requires-clause-passed
read_tail-requires-clause-passed g c =
    let files = g.F.Shelf.files c.args.files.now in
    let name = c.args.name.now in
    record {
      line = omega (arith, c.in_ok-walk.ensures.line);
      after = subst (λ t. IsAfter files name c.args.head.now.bytes t c.in_ok-walk.walk) (sym lines_text-nil) (c.in_ok-walk.ensures.after files name);
    }
