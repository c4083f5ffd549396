use Rattle.std.proofs.Common.{subst, sym, arith}
use Rattle.std.specs.Str.{IsUtf8}
use Rattle.text_words.proofs.Printed.{IsNumberBelow-parse, IsUtf8-decimal}
use Rattle.text_words.proofs.read.parse_plain.Goals as goal

pub returns-in-Ok : goal.returns-in-Ok
returns-in-Ok c =
    IsNumberBelow-parse c.args.word.now c.in-Ok.text.now c.parse.result c.ok.result c.requires c.in-Ok.ensures.cases.0 c.parse.ensures.value.0 c.ok.ensures.value

pub returns-in-Err : goal.returns-in-Err
returns-in-Err c = λ n small printed. c.in-Err.ensures.cases.0 (subst IsUtf8 (sym printed) (IsUtf8-decimal n (omega arith)))
