-- Stands in specs/ since the law that `Rows` keeps stands on it; no public clause cites it.
-- Domains and the views that show them.
use Rattle.std.proofs.Common.{◌≡◌, Bool, true, false, cond, eqb, List, [], ◌∷◌, length, refl, sym, ap, ◌∙◌, subst, Some}
use Rattle.std.specs.List.{All}
use Rattle.row_kit.specs.declared.domain.Domain.{Domain}
use Rattle.row_kit.specs.declared.program.Program.{Program}
use Rattle.row_kit.specs.Domain.{IsNormal}
use Rattle.proof_tree.specs.Views.{View}
use Rattle.row_relax.specs.Steps.{shown_if}
use Rattle.row_relax.specs.View.{Fits, domains_of, view_of}

bit_back : (b : Bool) → eqb (cond b 1 0) 1 ≡ b
bit_back true = refl
bit_back false = refl

-- a view shows the domains that it is of
pub domains_of-view_of : (ds : List Domain) → domains_of (view_of ds) ≡ ds
domains_of-view_of [] = refl
domains_of-view_of (d ∷ ds) =
    ap (λ (b : Bool). record { zero = b; lo = d.lo; hi = d.hi } ∷ domains_of (view_of ds)) (bit_back d.zero) ∙ ap (λ (xs : List Domain). d ∷ xs) (domains_of-view_of ds)

-- the view of normal domains, one for each slot, fits
pub fits_of : (program : Program) (ds : List Domain) → length ds ≡ length program.root → All IsNormal ds → Fits program (view_of ds)
fits_of program ds slots normal' = record {
  shown = ap view_of (sym (domains_of-view_of ds));
  slots = ap length (domains_of-view_of ds) ∙ slots;
  normal = subst (All IsNormal) (sym (domains_of-view_of ds)) normal';
}

pub shown_there : (there : Bool) (ds : List Domain) (w : View) → shown_if there ds ≡ Some w → (there ≡ true) × (view_of ds ≡ w)
shown_there true ds w e = (refl, cc)
shown_there false ds w e = absurd (cc)

-- the domains of a view that a step leads to
pub domains_there : (there : Bool) (ds : List Domain) (w : View) → shown_if there ds ≡ Some w → domains_of w ≡ ds
domains_there there ds w e = ap domains_of (sym (shown_there there ds w e).1) ∙ domains_of-view_of ds
