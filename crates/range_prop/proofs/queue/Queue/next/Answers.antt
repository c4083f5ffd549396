-- What is left of the queue.
use Rattle.std.proofs.Common.{◌≡◌, ◌<◌, ◌∷◌, ℕ, length, subst, false, sym}
use Rattle.std.specs.List.{All}
use Rattle.std.proofs.lemmas.List.{length-set}
use Rattle.std.proofs.lemmas.List.Elements.{All-head, All-tail}
use Rattle.range_prop.proofs.Queues.{left_held, left_few}
use Rattle.range_prop.proofs.queue.Queue.next.Goals as goal

pub invariant_of-self-in-Some : goal.invariant_of-self-in-Some
invariant_of-self-in-Some c =
    let q = c.args.self.now in
    let rest = c.pop_front.new.self.items in
    let row = c.in-Some.row in
    let is : q.rows.items ≡ row ∷ rest = c.in-Some.ensures.items in
    let all = subst (All (λ (r : ℕ). r < length q.waiting.items)) is q.named in
    let lt : row < length q.waiting.items = All-head (λ (r : ℕ). r < length q.waiting.items) row rest all in
    record {
      held = left_held q.rows.items rest q.waiting.items row is lt q.held;
      named = subst (λ (n : ℕ). All (λ (r : ℕ). r < n) rest) (sym (length-set q.waiting.items row false)) (All-tail (λ (r : ℕ). r < length q.waiting.items) row rest all);
      few = left_few q.rows.items rest q.waiting.items row is lt q.few;
    }
