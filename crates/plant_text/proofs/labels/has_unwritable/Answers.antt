use Rattle.std.proofs.Common.{sym, ◌∙◌, ◌≡◌, chars, [], ap}
use Rattle.std.specs.Str.Iter.{chars_rest}
use Rattle.std.proofs.lemmas.List.{nil_from_length}
use Rattle.std.proofs.lemmas.Str.{IsUtf8-past_char, chars_past_char, chars-nil}
use Rattle.plant_text.proofs.labels.has_unwritable.Goals as goal

pub returns-then-is_unwritable : goal.returns-then-is_unwritable
returns-then-is_unwritable c =
    let held = c.loop-character.invariant in
    let step = chars_past_char _ _ c.in-Some.character held.0 c.in-Some.ensures.steps.0 in
    let found = sym c.is_unwritable.ensures ∙ c.if-is_unwritable.true in
    rw (step, found) at held.1

pub loop-character-preserved : goal.loop-character-preserved
loop-character-preserved c =
    let held = c.loop-character.invariant in
    let parts = c.in-Some.ensures.steps.0 in
    let passed = sym c.is_unwritable.ensures ∙ c.if-is_unwritable.false in
    (IsUtf8-past_char _ _ c.in-Some.character held.0 parts, rw (chars_past_char _ _ c.in-Some.character held.0 parts, passed) at held.1)

pub returns : goal.returns
returns c =
    let none : chars (chars_rest c.loop-character.character-iterator) ≡ [] = ap chars (nil_from_length _ c.in-None.ensures.steps.0.0) ∙ chars-nil in
    rw none at c.loop-character.invariant.1
