use Rattle.std.proofs.Common.{sym, ◌∙◌}
use Rattle.command_words.proofs.ShareWords.{no_share}
use Rattle.command_words.proofs.resume_words.share_of.Goals as goal

pub returns-in-None-read_number : goal.returns-in-None-read_number
returns-in-None-read_number c =
    let said = c.in-Some.ensures.printed in
    no_share c.args.number.now c.args.shares.now c.in-Some.count said.0 (sym c.as_bytes.ensures.value ∙ said.1) (λ n below is. c.in-None-read_number.ensures.printed n below (c.as_bytes-in-Some.ensures.value ∙ is))
