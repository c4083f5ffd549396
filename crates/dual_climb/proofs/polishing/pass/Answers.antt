-- A row that changes takes so much off the total, and one that does not is best.
use Rattle.std.proofs.Common.{◌≡◌, ◌∙◌, ◌+◌, ◌<◌, ℕ, List, Some, sym, subst, ◌⊎◌, arith, ℤ, pos, ◌+ℤ◌, ◌≤ℤ◌}
use Rattle.std.proofs.lemmas.Int.{ints}
use Rattle.std.proofs.lemmas.Bool.{false≢true}
use Rattle.row_kit.specs.Area.{present}
use Rattle.dual_bound.specs.declared.cert.Mult.{Mult}
use Rattle.dual_bound.specs.Cap.{scaled_cap}
use Rattle.dual_climb.specs.Factors.{cert_of}
use Rattle.dual_climb.specs.Polished.{IsReached}
use Rattle.dual_climb.specs.RowBest.{BestBy}
use Rattle.dual_climb.proofs.Lowered.{lowered_more}
use Rattle.dual_climb.proofs.Passes.{each_or, one_more}
use Rattle.dual_climb.proofs.polishing.pass.Goals as goal
use Rattle.dual_climb.proofs.polishing.pass.Goals.{then-improve, else-improve}

lower : (new old first : ℤ) (n : ℕ) → (new +ℤ pos n) ≤ℤ old → old ≤ℤ first → (new +ℤ pos n) ≤ℤ first
lower new old first n h k = omega (arith, ints)

under : (new first : ℤ) (n : ℕ) → (new +ℤ pos n) ≤ℤ first → new ≤ℤ first
under new first n h = omega (arith, ints)

pub loop-number-preserved : goal.loop-number-preserved
loop-number-preserved c =
    let p = c.args.program.now in
    let ds = present c.args.area.now in
    let scale = c.args.scale in
    let fall = c.args.least_fall in
    let new = c.improve.new.held in
    let old = c.loop-number.held in
    let inv = c.loop-number.invariant in
    let changes = lowered_more fall p ds scale c.args.held.now.mults.items old.mults.items new.mults.items inv.changes c.improve.ensures.changes in
    elim c.if-improve.branch [
      | then-improve w ↦
          let fell = lower new.total old.total c.args.held.now.total fall (c.improve.ensures.fell w.if-improve.true) inv.never in
          record {
            held = c.improve.ensures.held;
            never = under new.total c.args.held.now.total fall fell;
            fell = λ _. fell;
            changes = changes;
            same = λ e. absurd (false≢true (sym e ∙ w.changed-is));
            best = λ e. absurd (false≢true (sym e ∙ w.changed-is));
          }
      | else-improve w ↦
          let same = c.improve.ensures.same w.if-improve.false in
          let here = c.improve.ensures.best w.if-improve.false in
          record {
            held = c.improve.ensures.held;
            never = subst (λ (x : ℤ). x ≤ℤ c.args.held.now.total) (sym same.1) inv.never;
            changes = changes;
            fell = λ e. subst (λ (x : ℤ). (x +ℤ pos fall) ≤ℤ c.args.held.now.total) (sym same.1) (inv.fell (sym w.changed-is ∙ e));
            same = λ e. same.0 ∙ inv.same (sym w.changed-is ∙ e);
            best = λ e.
                subst (λ (ms : List Mult). (row : ℕ) → row < c.loop-number.number + 1 → BestBy fall p ds (cert_of scale ms) row ⊎ IsReached c.args.stop (scaled_cap scale (Some new.total))) (sym same.0)
                (subst (λ (x : ℤ). (row : ℕ) → row < c.loop-number.number + 1 → BestBy fall p ds (cert_of scale old.mults.items) row ⊎ IsReached c.args.stop (scaled_cap scale (Some x))) (sym same.1)
                (one_more (BestBy fall p ds (cert_of scale old.mults.items)) (IsReached c.args.stop (scaled_cap scale (Some old.total))) c.loop-number.number (inv.best (sym w.changed-is ∙ e)) here));
          }
    ]

pub returns-clause-best : goal.returns-clause-best
returns-clause-best c = λ e.
    let p = c.args.program.now in
    let fall = c.args.least_fall in
    let held = c.loop-number.held in
    let all : c.loop-number.number ≡ c.len-number-end.result = omega (arith, c.loop-number-test.false, c.loop-number.auto.number-end) in
    subst (λ (n : ℕ). ((row : ℕ) → row < n → BestBy fall p (present c.args.area.now) (cert_of c.args.scale held.mults.items) row) ⊎ IsReached c.args.stop (scaled_cap c.args.scale (Some held.total))) (all ∙ c.len-number-end.ensures)
    (each_or (BestBy fall p (present c.args.area.now) (cert_of c.args.scale held.mults.items)) (IsReached c.args.stop (scaled_cap c.args.scale (Some held.total))) c.loop-number.number (c.loop-number.invariant.best e))
