use Rattle.std.proofs.Common.{◌≡◌, string_bytes, ◌∙◌}
use Rattle.plant_make.proofs.Texts.{text_puts}
use Rattle.plant_make.proofs.print.put_plant.Goals as goal

pub returns-clause-ok : goal.returns-clause-ok
returns-clause-ok c =
    let bytes : c.as_bytes.result.now ≡ string_bytes c.in_ok-text.text = c.as_bytes.ensures.value ∙ c.as_str.ensures.value in
    let parsed = rw (← bytes) at c.in_ok-text.ensures.parsed in
    let unmarked = rw (← bytes) at c.in_ok-text.ensures.unmarked in
    let utf8 = rw (← c.as_bytes.ensures.value) at c.as_str.utf8 in
    text_puts c.args.plant.now c.as_bytes.result.now c.args.into.now.items c.extend_from_slice.new.self.items c.requires utf8 parsed unmarked c.in_ok-extend_from_slice.ensures.items
