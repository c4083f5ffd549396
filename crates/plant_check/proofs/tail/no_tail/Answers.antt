-- No line and no byte is added.
use Rattle.std.proofs.Common.{◌≡◌, ◌+◌, [], length, ap, arith}
use Rattle.derivation_lines.specs.Tail.{lines_of, tail_text}
use Rattle.derivation_lines.proofs.LineTexts.{lines_text-nil}
use Rattle.plant_check.proofs.tail.no_tail.Goals as goal

pub returns : goal.returns
returns c =
    let head = c.args.head.now in
    let count : head.count ≡ head.count + length (lines_of []) = omega arith in
    let bytes : head.bytes ≡ head.bytes + length (tail_text []) = omega (arith, ap length lines_text-nil) in
    λ i. record { derivations = c.new.ensures i; lines = c.new-2.ensures i; count = count i; bytes = bytes i }
