-- Each turn takes the newest change back, and the last one leaves as many as the mark says.
use Rattle.std.proofs.Common.{◌≡◌, ◌+◌, ◌≤◌, ◌∙◌, ◌++◌, ◌∷◌, [], List, ap, sym, subst, length, take, vec_capacity, arith}
use Rattle.std.proofs.lemmas.List.{length-set, length_push}
use Rattle.row_kit.specs.declared.former.Former.{Former}
use Rattle.row_kit.specs.Area.{history, IsSound}
use Rattle.row_kit.proofs.Histories.{sound_popped, take_popped, take_whole}
use Rattle.row_kit.proofs.trail.undo_to.Goals as goal

pub loop-trail-preserved-in-Some : goal.loop-trail-preserved-in-Some
loop-trail-preserved-in-Some c =
    let ds = c.loop-trail.domains.items in
    let cs = c.pop.new.self.items in
    let change = c.in-Some.change in
    let room = vec_capacity c.loop-trail.trail in
    let split : c.loop-trail.trail.items ≡ cs ++ change ∷ [] = c.in-Some.ensures.items in
    let before : IsSound ds (cs ++ change ∷ []) room = subst (λ (t : List Former). IsSound ds t room) split c.loop-trail.invariant.sound in
    let after = sound_popped ds cs room change before in
    let left : c.args.mark ≤ length cs = omega (arith, c.loop-trail.trail.ok.0, ap length split, length_push cs change) in
    record {
      sound = rw c.pop.ensures.capacity after.1;
      left = omega (arith, c.pop.new.self.ok.0);
      marks = sym (take_popped ds cs change c.args.mark left) ∙ ap (λ (t : List Former). take (c.args.mark + 1) (history ds t)) (sym split) ∙ c.loop-trail.invariant.marks;
      slots = length-set ds change.slot change.domain ∙ c.loop-trail.invariant.slots;
    }

pub returns-clause-marks : goal.returns-clause-marks
returns-clause-marks c =
    sym (take_whole c.loop-trail.domains.items c.loop-trail.trail.items c.args.mark (omega (arith, c.loop-trail.trail.ok.0)))
    ∙ c.loop-trail.invariant.marks
