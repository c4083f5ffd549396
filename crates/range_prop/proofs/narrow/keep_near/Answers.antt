-- The value that counts least stays, and all others stay that count little more.
use Rattle.std.proofs.Common.{◌≡◌, ◌∙◌, ◌≤◌, ℕ, ℤ, not, List, sym, ap, subst, arith, pos, ◌+ℤ◌, ◌≤ℤ◌, to_z, of_z}
use Rattle.std.specs.Prelude.{int_le}
use Rattle.std.proofs.lemmas.Int.{ints}
use Rattle.row_kit.specs.declared.domain.Domain.{Domain}
use Rattle.row_kit.specs.Domain.{Holds, IsNormal, domain_at, values_of}
use Rattle.row_kit.specs.Area.{is_same, present, with_domain}
use Rattle.row_kit.specs.Row.{counted}
use Rattle.range_prop.specs.Cut.{kept_of, least, least_counted}
use Rattle.range_prop.proofs.Kept.{kept_all, kept_normal}
use Rattle.range_prop.proofs.Least.{held_open, least_below, least_held, least_reached}
use Rattle.range_prop.proofs.Multiples.{le_true}
use Rattle.range_prop.proofs.Trails.{domain-with_domain, with_domain_same}
use Rattle.range_prop.proofs.narrow.keep_near.Goals as goal
use mir.Syntax.{w128}

below : (x most slack l least' : ℤ) → x ≤ℤ most → most ≤ℤ (slack +ℤ l) → l ≡ least' → x ≤ℤ (slack +ℤ least')
below x most slack l least' h k e = omega (arith, ints)

pub returns-then-spread-room-clause-near : goal.returns-then-spread-room-clause-near
returns-then-spread-room-clause-near c = λ v held.
    let e = c.args.entry.now in
    let ds = present c.args.area.now in
    let least' = c.spread_of-spread.ensures.least ∙ ap (λ (d : Domain). least (counted e) (values_of d)) c.domain.ensures.value in
    let most = c.spread_of-spread.ensures.most v (subst (λ (d : Domain). Holds d v) (sym c.domain.ensures.value) held) in
    let within : c.spread_of-spread.result.most ≤ℤ (c.args.slack.now +ℤ c.spread_of-spread.result.least) =
    grind (arith, ints, c.spread_of-spread.ensures.small, c.requires.small) in
    below (counted e v) c.spread_of-spread.result.most c.args.slack.now c.spread_of-spread.result.least (least_counted ds e) most within least'

pub returns-then-spread-room-clause-marks : goal.returns-then-spread-room-clause-marks
returns-then-spread-room-clause-marks c =
    let e = c.args.entry.now in
    let marks = c.args.area.now in
    let ds = present marks in
    let d = domain_at ds e.slot in
    let room = c.args.slack.now +ℤ least_counted ds e in
    let normal' : IsNormal d = subst IsNormal c.domain.ensures.value c.domain.ensures.normal in
    sym (ap (with_domain marks e.slot) (kept_all (λ v. int_le (counted e v) room) d normal' (λ v held. le_true (counted e v) room (returns-then-spread-room-clause-near c v held))) ∙ with_domain_same marks e.slot c.requires.slot)

abbrev room : goal.After-keep_allowed → ℤ
room c = to_z w128 (of_z w128 (to_z w128 (of_z w128 c.args.slack.now) +ℤ to_z w128 (of_z w128 c.spread_of-spread.result.least)))

room_is : (c : goal.After-keep_allowed) → room c ≡ c.args.slack.now +ℤ least_counted (present c.args.area.now) c.args.entry.now
room_is c =
    let exact : room c ≡ c.args.slack.now +ℤ c.spread_of-spread.result.least = omega (arith, ints, c.spread_of-spread.ensures.small, c.requires.small) in
    exact ∙ ap (λ (x : ℤ). c.args.slack.now +ℤ x) (c.spread_of-spread.ensures.least ∙ ap (λ (d : Domain). least (counted c.args.entry.now) (values_of d)) c.domain.ensures.value)

abbrev was : goal.After-keep_allowed → Domain
was c = domain_at (present c.args.area.now) c.args.entry.now.slot

pub returns-clause-marks : goal.returns-clause-marks
returns-clause-marks c =
    c.keep_allowed.ensures.marks
    ∙ ap (λ (x : ℤ). with_domain c.args.area.now c.args.entry.now.slot (kept_of (λ v. int_le (counted c.args.entry.now v) x) (was c))) (room_is c)

pub returns-clause-shrank : goal.returns-clause-shrank
returns-clause-shrank c =
    let e = c.args.entry.now in
    let marks = c.args.area.now in
    let kept = kept_of (λ (v : ℕ). int_le (counted e v) (room c)) (was c) in
    let now' : domain_at (present c.keep_allowed.new.area) e.slot ≡ kept = ap (λ (m : List (List Domain)). domain_at (present m) e.slot) c.keep_allowed.ensures.marks ∙ domain-with_domain marks e.slot kept c.requires.slot in
    c.keep_allowed.ensures.shrank ∙ ap (λ (d : Domain). not (is_same (was c) d)) (sym now')

pub returns-clause-near : goal.returns-clause-near
returns-clause-near c = λ v held. subst (λ (x : ℤ). counted c.args.entry.now v ≤ℤ x) (room_is c) ((c.keep_allowed.ensures.values v).0 held).1

-- the value that counts least
abbrev best : (c : goal.After-keep_allowed) → (w : ℕ) × Holds (was c) w × (counted c.args.entry.now w ≡ least_counted (present c.args.area.now) c.args.entry.now)
best c = least_reached (counted c.args.entry.now) (was c) (subst IsNormal c.domain.ensures.value c.domain.ensures.normal).positive c.requires.open_

at_most : (x l slack : ℤ) → x ≡ l → pos 0 ≤ℤ slack → x ≤ℤ (slack +ℤ l)
at_most x l slack e h = omega (arith, ints)

best_stays : (c : goal.After-keep_allowed) → Holds (domain_at (present c.keep_allowed.new.area) c.args.entry.now.slot) (best c).0
best_stays c =
    let e = c.args.entry.now in
    let l = least_counted (present c.args.area.now) e in
    let low = at_most (counted e (best c).0) l c.args.slack.now (best c).2 c.requires.least in
    (c.keep_allowed.ensures.values (best c).0).1 ((best c).1, subst (λ (x : ℤ). counted e (best c).0 ≤ℤ x) (sym (room_is c)) low)

pub returns-clause-open_ : goal.returns-clause-open_
returns-clause-open_ c = held_open (domain_at (present c.keep_allowed.new.area) c.args.entry.now.slot) (best c).0 (best_stays c)

pub returns-clause-least : goal.returns-clause-least
returns-clause-least c =
    let e = c.args.entry.now in
    let d = domain_at (present c.keep_allowed.new.area) e.slot in
    let l = least_counted (present c.args.area.now) e in
    let normal' = subst IsNormal c.domain.ensures.value c.domain.ensures.normal in
    let now' : d ≡ kept_of (λ (v : ℕ). int_le (counted e v) (room c)) (was c) = ap (λ (m : List (List Domain)). domain_at (present m) e.slot) c.keep_allowed.ensures.marks ∙ domain-with_domain c.args.area.now e.slot (kept_of (λ (v : ℕ). int_le (counted e v) (room c)) (was c)) c.requires.slot in
    let low = subst (λ (x : Domain). 1 ≤ x.lo) (sym now') (kept_normal (λ (v : ℕ). int_le (counted e v) (room c)) (was c) normal').positive in
    least_held (counted e) d l (best c).0 low (best_stays c) (best c).2 (λ v held. least_below (counted e) (was c) v ((c.keep_allowed.ensures.values v).0 held).0)
