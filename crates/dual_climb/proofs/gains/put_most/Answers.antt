-- One slot more has its most.
use Rattle.std.proofs.Common.{◌≡◌, ◌∙◌, ◌<◌, ◌≤◌, ◌^◌, ℕ, length, get_or, set, sym, ap, subst, ⊎_elim, ℤ, pos, to_z, of_z, unsigned_abs, arith}
use mir.Syntax.{w128}
use Rattle.std.proofs.lemmas.Bool.{cases_lt}
use Rattle.std.proofs.lemmas.List.{get_or-set_same, get_or-set_other, length-set}
use Rattle.std.proofs.lemmas.List.Elements.{All-set}
use Rattle.row_kit.specs.Area.{present}
use Rattle.row_kit.specs.declared.domain.Domain.{Domain}
use Rattle.row_kit.specs.Domain.{domain_at, values_of}
use Rattle.dual_bound.specs.Line.{line_at, slot_line}
use Rattle.dual_bound.specs.Total.{greatest}
use Rattle.dual_climb.proofs.Gained.{exact_most}
use Rattle.dual_climb.proofs.gains.put_most.Goals as goal

pub loop-slot-init : goal.loop-slot-init
loop-slot-init c = record {
  slots = c.requires.places;
  small = c.requires.small;
  each = λ slot lt. absurd (omega arith);
}

pub loop-slot-preserved : goal.loop-slot-preserved
loop-slot-preserved c =
    let k = c.loop-slot.slot in
    let most = c.loop-slot.most in
    let inv = c.loop-slot.invariant in
    let ds = present c.args.area.now in
    let lines = c.args.lines.now in
    let g = c.greatest_in.result in
    let x = to_z w128 (of_z w128 g) in
    let top : k < length ds = omega (arith, c.loop-slot-test.true, c.slot_count-slot-end.ensures.count) in
    let is : g ≡ greatest (line_at (slot_line lines k)) (values_of (domain_at ds k)) =
    c.greatest_in.ensures.value ∙ ap (λ (d : Domain). greatest (line_at (slot_line lines k)) (values_of d)) c.domain.ensures.value in
    record {
      slots = length-set most k x ∙ inv.slots;
      small = All-set (λ (x : ℤ). unsigned_abs x ≤ 2 ^ 103) most k x (subst (λ (y : ℤ). unsigned_abs y ≤ 2 ^ 103) (sym (exact_most g c.greatest_in.ensures.small)) c.greatest_in.ensures.small) inv.small;
      each = λ slot lt.
          ⊎_elim
          (λ (low : slot < k). get_or-set_other most k slot x (pos 0) (λ q. absurd (omega arith)) ∙ inv.each slot low)
          (λ (high : k ≤ slot).
          let here : slot ≡ k = omega arith in
          ap (λ (s : ℕ). get_or (set most k x) s (pos 0)) here
          ∙ get_or-set_same most k x (pos 0) (omega (arith, inv.slots))
          ∙ exact_most g c.greatest_in.ensures.small
          ∙ is
          ∙ ap (λ (s : ℕ). greatest (line_at (slot_line lines s)) (values_of (domain_at ds s))) (sym here))
          (cases_lt slot k);
    }
