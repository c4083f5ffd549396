use Rattle.part_commands.specs.Parting.{digit_words}
use Rattle.part_commands.proofs.Ranges.{digit_more}
use Rattle.part_commands.proofs.parting.digit_words.Goals as goal

pub loop-place-init : goal.loop-place-init
unfolding digit_words
loop-place-init c = c.new-text.ensures.items

pub loop-place-preserved : goal.loop-place-preserved
loop-place-preserved c =
    let more = digit_more c.args.levels.number c.args.part c.loop-place.place in
    let word = c.digit.ensures in
    cc (more, word, c.digit_word-word.ensures, c.as_bytes.ensures.value, c.in_ok-extend_from_slice.ensures.items, c.loop-place.invariant)
