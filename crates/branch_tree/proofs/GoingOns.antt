-- Searches that go on at boxes of a proof that stands.
use Rattle.std.proofs.Common.{◌≡◌, ◌∙◌, ℕ, ◌+◌, length, Option, None, ap, sym, subst, false}
use Rattle.std.specs.Prelude.{IfSome}
use Rattle.std.proofs.lemmas.Bool.{ltb-false}
use Rattle.dual_bound.specs.declared.cert.Cert.{Cert}
use Rattle.row_kit.specs.declared.found.Found.{Found}
use Rattle.proof_tree.specs.Views.{View}
use Rattle.row_relax.specs.declared.rows.Rows.{Rows}
use Rattle.row_relax.specs.View.{Fits}
use Rattle.branch_tree.specs.declared.going_on.GoingOn.{GoingOn}
use Rattle.branch_tree.specs.declared.reached.Ground.{Ground}
use Rattle.branch_tree.specs.Deep.{is_deep}
use Rattle.branch_tree.specs.Justified.{IsGroup}
use Rattle.branch_tree.specs.laws.Ends.{view_splits}
use Rattle.branch_tree.specs.laws.Going.{CanGoOn}
use Rattle.branch_tree.specs.laws.Grounds.{IsAmong, IsGround, StandsIn, choices_at, program_of, rows_of}

-- a search that can go on stands in a box that fits and is not too deep, whatever certificate is at hand
pub going-stands : (most : ℕ) (rows : Rows) (going : GoingOn) (view : View) (depth : ℕ) (held : Option Cert) → CanGoOn most rows going → Fits (program_of going.ground) view → is_deep going.ground.most depth view ≡ false
    → StandsIn going.ground view (record going.reached { depth = depth; changed = None; held = held })
going-stands most rows going view depth held can fits deep = record {
  indexed = can.indexed;
  fits = fits;
  places = can.places;
  deep = ltb-false going.ground.most (depth + view_splits view) deep;
  room = tt;
  own = subst (λ (o : Option Found). IfSome o (λ found. IsGroup (choices_at going.ground) found × IsAmong (rows_of going.ground) view found.point)) (sym can.none) tt;
}

-- and can go on afterwards
pub going-goes : (most : ℕ) (rows : Rows) (old new : GoingOn) → new.ground ≡ old.ground → length new.reached.point.items ≡ length old.reached.point.items → new.reached.own ≡ None → CanGoOn most rows old → CanGoOn most rows new
going-goes most rows old new ground places none can = record {
  limited = ap (λ (g : Ground). g.most) ground ∙ can.limited;
  over = ap (λ (g : Ground). g.rows.now) ground ∙ can.over;
  indexed = subst IsGround (sym ground) can.indexed;
  places = places ∙ can.places ∙ sym (ap (λ (g : Ground). length (program_of g).root) ground);
  none = none;
}
