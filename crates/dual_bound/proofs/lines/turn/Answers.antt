-- One line more is turned.
use Rattle.std.proofs.Common.{◌≡◌, ◌∙◌, ◌<◌, ℕ, length, set, sym, ap, neg_ℤ, ⊎_elim, arith}
use Rattle.std.proofs.lemmas.Bool.{cases_eq}
use Rattle.std.proofs.lemmas.List.{get_or-set_same, get_or-set_other}
use Rattle.std.proofs.lemmas.List.Elements.{All-set}
use Rattle.dual_bound.specs.declared.line.Line.{Line}
use Rattle.dual_bound.specs.Line.{line_at, slot_line, IsWithin}
use Rattle.dual_bound.proofs.LineSums.{no_line}
use Rattle.dual_bound.proofs.lines.turn.Goals as goal

pub loop-line-preserved : goal.loop-line-preserved
loop-line-preserved c =
    let i = c.loop-line.line-index in
    let lines = c.loop-line.lines in
    let r = c.opposite.result in
    let lt : i < length lines = omega (arith, c.loop-line-test.true, c.loop-line.auto.lines) in
    record {
      turned = λ slot v h. ⊎_elim
          (λ (here : slot ≡ i).
          ap (λ (s : ℕ). line_at (slot_line (set lines i r) s) v) here
          ∙ ap (λ (l : Line). line_at l v) (get_or-set_same lines i r no_line lt)
          ∙ c.opposite.ensures.value v
          ∙ ap (λ (l : Line). neg_ℤ (line_at l v)) (c.loop-line.invariant.same i (omega arith))
          ∙ ap (λ (s : ℕ). neg_ℤ (line_at (slot_line c.args.lines.now s) v)) (sym here))
          (λ (apart : slot ≡ i → ⊥).
          ap (λ (l : Line). line_at l v) (get_or-set_other lines i slot r no_line apart) ∙ c.loop-line.invariant.turned slot v (omega (arith, h, apart)))
          (cases_eq slot i);
      same = λ slot h. get_or-set_other lines i slot r no_line (λ (e : slot ≡ i). absurd (omega arith)) ∙ c.loop-line.invariant.same slot (omega arith);
      within = λ most h.
          let before = c.loop-line.invariant.within most h in
          All-set (IsWithin most) lines i r (c.opposite.ensures.within most (before i no_line lt)) before;
    }
