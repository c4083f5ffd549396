use Rattle.std.proofs.Common.{◌≤◌, length, refl, arith}
use Rattle.std.proofs.lemmas.Bool.{le-leb}
use Rattle.std.proofs.lemmas.Str.{is_utf8-from_IsUtf8}
use Rattle.stn_model.specs.Labels.{is_label}
use Rattle.plant_text.proofs.labels.is_label.Goals as goal

pub returns : goal.returns
unfolding is_label
returns c =
    let some : 1 ≤ length c.args.text.now = grind arith in
    let few : length c.args.text.now ≤ 64 = grind arith in
    rw (le-leb 1 (length c.args.text.now) some, le-leb (length c.args.text.now) 64 few, is_utf8-from_IsUtf8 _ c.utf8.text, c.has_unwritable.ensures) refl
