-- One row more waits, and those before it still do.
use Rattle.std.proofs.Common.{◌≡◌, ◌∙◌, ℕ, Bool, true, List, take, subst, arith}
use Rattle.std.proofs.lemmas.List.{take_all}
use Rattle.std.proofs.lemmas.List.Elements.{All-more}
use Rattle.range_prop.specs.laws.Queue.{AreAwake, waits}
use Rattle.range_prop.proofs.Rounds.{AreAwake-kept}
use Rattle.range_prop.proofs.waking.wake_rows.Goals as goal

abbrev IsAwake : List Bool → ℕ → ℕ → Type 0
IsAwake waiting cutter row = (row ≡ cutter → ⊥) → waits waiting row ≡ true

pub loop-row-preserved : goal.loop-row-preserved
loop-row-preserved c =
    let old = c.loop-row.queue.waiting.items in
    let new' = c.wake_other.new.queue.waiting.items in
    let rows = c.args.rows.now in
    let i = c.loop-row.row-index in
    record {
      count = c.wake_other.ensures.count ∙ c.loop-row.invariant.count;
      kept = λ row h. c.wake_other.ensures.kept row (c.loop-row.invariant.kept row h);
      woken = All-more (IsAwake new' c.args.cutter) rows i 0 c.loop-row-test.true
          (AreAwake-kept old new' c.args.cutter (take i rows) c.wake_other.ensures.kept c.loop-row.invariant.woken)
          c.in_ok-wake_other.ensures.woken;
    }

pub returns-clause-woken : goal.returns-clause-woken
returns-clause-woken c =
    subst (AreAwake c.loop-row.queue.waiting.items c.args.cutter) (take_all c.loop-row.row-index c.args.rows.now (omega (arith, c.loop-row-test.false))) c.loop-row.invariant.woken
