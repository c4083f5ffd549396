use Rattle.std.proofs.Common.{subst, sym, arith}
use Rattle.text_words.specs.Numbers.{IsPlain}
use Rattle.text_words.proofs.Printed.{IsPlain-decimal}
use Rattle.text_words.proofs.read.read_digits.Goals as goal

pub returns-else-is_plain : goal.returns-else-is_plain
returns-else-is_plain c = λ n small printed. let plain = c.is_plain.ensures.1 (subst IsPlain (sym printed) (IsPlain-decimal n (omega arith))) in cc
