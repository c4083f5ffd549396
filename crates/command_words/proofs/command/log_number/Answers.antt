-- The name is that of a log exactly where its parts are those of one.
use Rattle.std.proofs.Common.{◌∙◌, refl, sym, arith}
use Rattle.std.proofs.lemmas.Bool.{false≢true}
use Rattle.command_words.proofs.LogWords.{parts_of, number_after}
use Rattle.command_words.proofs.command.log_number.Goals as goal
use Rattle.command_words.proofs.command.log_number.Goals.{then-name-at-via-then-name-at, then-name-at-via-else-name-at+then-not-same_bytes, then-name-at-via-else-name-at+else-not-same_bytes+then-name-at-ne46}

pub returns-then-name-at : goal.returns-then-name-at
returns-then-name-at c = λ g below is.
    let parts = parts_of c.as_bytes-name.result.now c.args.stem.now g (c.as_bytes-name.ensures.value ∙ is) in
    elim c.then-name-at.branch [
      | then-name-at-via-then-name-at w ↦ (let longer = parts.longer in omega (arith, longer, w.if-name-at.true))
      | then-name-at-via-else-name-at+then-not-same_bytes w ↦ false≢true (w.if-not-same_bytes.ensures.1 (parts.front ∙ sym w.as_bytes.ensures.value))
      | then-name-at-via-else-name-at+else-not-same_bytes+then-name-at-ne46 w ↦ w.if-name-at-ne46.true parts.dot
    ]

pub returns : goal.returns
returns c =
    number_after c.args.file.now c.as_bytes-name.result.now c.args.stem.now c.args.limit c.read_number.result c.as_bytes-name.ensures.value c.if-name-at.false
    (c.if-not-same_bytes.ensures.0 refl ∙ c.as_bytes.ensures.value) c.if-name-at-ne46.false c.read_number.ensures.printed
