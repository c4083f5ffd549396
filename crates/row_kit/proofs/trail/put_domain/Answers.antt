-- A change leaves one mark more, and room for the changes that can still come.
use Rattle.std.proofs.Common.{◌≡◌, ◌<◌, ◌∙◌, ap, sym, false, true, vec_capacity, arith}
use Rattle.std.proofs.lemmas.List.{get_or_read}
use Rattle.row_kit.specs.Area.{is_same}
use Rattle.row_kit.specs.Domain.{count_of, domain_at, no_values}
use Rattle.row_kit.proofs.Histories.{history_after, with_domain_changed, with_domain_kept, room_to_push, sound_pushed}
use Rattle.row_kit.proofs.trail.put_domain.Goals as goal

pub push_reserved-requires : goal.push_reserved-requires
push_reserved-requires c =
    let ds = c.args.domains.now.items in
    let e = get_or_read ds c.args.slot c.index.result.now c.requires.slot c.index.ensures no_values in
    let other : is_same (domain_at ds c.args.slot) c.args.next ≡ false = ap (λ d. is_same d c.args.next) (sym e) ∙ sym c.is_same.ensures ∙ c.if-not-is_same.true in
    let room = room_to_push ds c.args.trail.now.items (vec_capacity c.args.trail.now) c.args.slot c.requires.sound.leaves_room c.requires.slot (omega (arith, c.requires.fewer other)) in
    omega (arith, c.args.trail.now.ok.0)

pub returns-then-not-is_same-clause-sound : goal.returns-then-not-is_same-clause-sound
returns-then-not-is_same-clause-sound c =
    let ds = c.args.domains.now.items in
    let cs = c.args.trail.now.items in
    let e = get_or_read ds c.args.slot c.index.result.now c.requires.slot c.index.ensures no_values in
    let other : is_same (domain_at ds c.args.slot) c.args.next ≡ false = ap (λ d. is_same d c.args.next) (sym e) ∙ sym c.is_same.ensures ∙ c.if-not-is_same.true in
    let less : count_of c.args.next < count_of c.index.result.now = omega (arith, c.requires.fewer other, ap count_of e) in
    let sound = sound_pushed ds cs (vec_capacity c.args.trail.now) c.args.slot c.index.result.now c.args.next c.requires.sound c.requires.slot e c.requires.normal less in
    rw (c.push_reserved.ensures.items, c.push_reserved.ensures.capacity) sound

pub returns-then-not-is_same-clause-marks : goal.returns-then-not-is_same-clause-marks
returns-then-not-is_same-clause-marks c =
    let ds = c.args.domains.now.items in
    let cs = c.args.trail.now.items in
    let e = get_or_read ds c.args.slot c.index.result.now c.requires.slot c.index.ensures no_values in
    let other : is_same (domain_at ds c.args.slot) c.args.next ≡ false = ap (λ d. is_same d c.args.next) (sym e) ∙ sym c.is_same.ensures ∙ c.if-not-is_same.true in
    rw c.push_reserved.ensures.items
    (history_after ds cs c.args.slot c.index.result.now c.args.next e ∙ sym (with_domain_changed ds cs c.args.slot c.args.next c.requires.slot other))

pub returns-else-not-is_same-clause-marks : goal.returns-else-not-is_same-clause-marks
returns-else-not-is_same-clause-marks c =
    let ds = c.args.domains.now.items in
    let e = get_or_read ds c.args.slot c.index.result.now c.requires.slot c.index.ensures no_values in
    let same : is_same (domain_at ds c.args.slot) c.args.next ≡ true = ap (λ d. is_same d c.args.next) (sym e) ∙ sym c.is_same.ensures ∙ c.if-not-is_same.false in
    sym (with_domain_kept ds c.args.trail.now.items c.args.slot c.args.next c.requires.slot same)
