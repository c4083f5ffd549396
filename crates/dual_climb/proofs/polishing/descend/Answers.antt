-- A pass that changes something lowers the total.
use Rattle.std.proofs.Common.{ℕ, ◌<◌, ◌^◌, ℤ, pos, ◌+ℤ◌, ◌≤ℤ◌, subst, sym, unsigned_abs, arith}
use Rattle.row_kit.specs.Area.{present}
use Rattle.std.proofs.lemmas.Bool.{false≢true}
use Rattle.std.proofs.lemmas.Int.{ints}
use Rattle.dual_climb.proofs.Lowered.{lowered_more}
use Rattle.dual_climb.proofs.Small.{total_small}
use Rattle.dual_climb.proofs.Steps.{falls_far}
use Rattle.dual_climb.proofs.polishing.descend.Goals as goal

pub loop-changed-smaller : goal.loop-changed-smaller
loop-changed-smaller c =
    let p = c.args.program.now in
    let held = c.pass.new.held in
    let small = total_small p (present c.args.area.now) c.args.scale held.mults.items c.requires.area.most c.pass.ensures.held.gained.full c.requires.area.few_rows c.requires.area.normal c.requires.area.slots in
    falls_far held.total c.loop-changed.held.total c.args.scale (c.pass.ensures.fell c.loop-changed-test.true) c.requires.scale
    (subst (λ (x : ℤ). unsigned_abs x < 2 ^ 117) (sym c.pass.ensures.held.is_total) small)

under : (new old first : ℤ) (n : ℕ) → (new +ℤ pos n) ≤ℤ old → old ≤ℤ first → (new +ℤ pos n) ≤ℤ first
under new old first n h k = omega (arith, ints)

at_most : (new first : ℤ) (n : ℕ) → (new +ℤ pos n) ≤ℤ first → new ≤ℤ first
at_most new first n h = omega (arith, ints)

pub loop-changed-preserved : goal.loop-changed-preserved
loop-changed-preserved c =
    let new = c.pass.new.held in
    let old = c.loop-changed.held in
    let inv = c.loop-changed.invariant in
    let fell = under new.total old.total c.args.held.now.total c.args.scale (c.pass.ensures.fell c.loop-changed-test.true) inv.never in
    record {
      held = c.pass.ensures.held;
      never = at_most new.total c.args.held.now.total c.args.scale fell;
      fell = λ _. fell;
      same = λ e. absurd (false≢true (sym e));
      changes = lowered_more c.args.scale c.args.program.now (present c.args.area.now) c.args.scale c.args.held.now.mults.items old.mults.items new.mults.items inv.changes c.pass.ensures.changes;
    }
