-- One more sum is declared and shown.
use Rattle.std.proofs.Common.{◌++◌, [], ◌∷◌, length, ap, refl, arith}
use Rattle.std.proofs.lemmas.List.Elements.{All-push, All-same}
use Rattle.std.proofs.lemmas.List.{length-append}
use Rattle.sum_slots.specs.Shown.{IsShown}
use Rattle.sum_slots.specs.Sum.{IsDeclared}
use Rattle.sum_choice.proofs.admitting.admitted.Goals as goal

pub loop-sum-preserved-then-is_admitted : goal.loop-sum-preserved-then-is_admitted
loop-sum-preserved-then-is_admitted c =
    let program = c.args.program.now in
    let ranges = c.args.ranges.now in
    let sums = c.loop-sum.sums in
    let sum = c.in-Some.sum in
    let inv = c.loop-sum.invariant in
    let more = c.in_ok-push.ensures.ok in
    let declared = All-push (IsDeclared (length program.root)) sums sum inv.declared (c.if-is_admitted.ensures.declared refl) in
    let shown = All-push (IsShown program ranges) sums sum inv.shown (c.if-is_admitted.ensures.shown refl) in
    record {
      declared = All-same (IsDeclared (length program.root)) c.push.new.self (sums ++ sum ∷ []) more declared;
      shown = All-same (IsShown program ranges) c.push.new.self (sums ++ sum ∷ []) more shown;
      room = omega (arith, c.if-len-room.true, c.len.ensures, ap length more, length-append sums (sum ∷ []));
    }
