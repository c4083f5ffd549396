-- Marks of an area that is walked, and what they show again afterwards.
use Rattle.std.proofs.Common.{◌≡◌, ◌∙◌, ℕ, ◌+◌, ◌<◌, ◌≤◌, List, length, take, Option, Some, refl, sym, ap, subst, arith, Bool, true, false}
use Rattle.std.proofs.Math.Seq.{take-length}
use Rattle.std.proofs.lemmas.List.{length-take, take-take}
use Rattle.std.proofs.lemmas.Bool.{false≢true}
use Rattle.proof_tree.specs.Views.{KeepsViews, MovesTo, View, present}
use Rattle.dual_bound.specs.declared.cert.Cert.{Cert}
use Rattle.row_relax.specs.declared.pick.RowPick.{RowPick}
use Rattle.log_nodes.specs.declared.node.Ending.{Ending}
use Rattle.log_nodes.specs.declared.node.Ending.TheVariants.{Empty, Dual, Point, Pending, Split}
use Rattle.row_kit.specs.declared.program.Program.{Program}
use Rattle.row_relax.specs.View.{Fits}
use Rattle.log_nodes.specs.laws.Nodes.{IsLeafEnd}
use Rattle.log_nodes.specs.laws.Seen.{StandsBelow}

-- a call that answered yes led where it may lead
pub moved-there : (next : Option View) (old new : List View) (answer : Bool) → answer ≡ true → MovesTo next old new answer → (next ≡ Some (present new)) × KeepsViews old new
moved-there next old new true is moves = moves
moved-there next old new false is moves = absurd (false≢true is)

-- views that keep others are no fewer
pub kept-length : (old new : List View) → KeepsViews old new → length old ≤ length new
kept-length old new keeps = omega (arith, length-take (length old) new, ap length keeps)

-- a mark of the views before is one of those that keep them
pub mark-within : (old mid new : List View) (mark : ℕ) → mark + 1 ≡ length old → KeepsViews old mid → new ≡ mid → mark < length new
mark-within old mid new mark is keeps same = omega (arith, is, kept-length old mid keeps, ap length same)

-- what is shown after going back to it
pub back-there : (old mid new back : List View) (mark : ℕ) → mark + 1 ≡ length old → KeepsViews old mid → new ≡ mid → back ≡ take (mark + 1) new → back ≡ old
back-there old mid new back mark is keeps same went = went ∙ ap (take (mark + 1)) same ∙ ap (λ (n : ℕ). take n mid) is ∙ keeps

-- an end that is no split splits nothing
pub leaf-end : (end : Ending) → ((pick : RowPick) (cert : Cert) → end ≡ Split pick cert → ⊥) → IsLeafEnd end
leaf-end Empty other = tt
leaf-end (Dual cert) other = tt
leaf-end Point other = tt
leaf-end (Pending cert) other = tt
leaf-end (Split pick cert) other = absurd (other pick cert refl)

-- so of a mark before another
pub keeps-on : (old mid later : List View) → KeepsViews old mid → KeepsViews mid later → KeepsViews old later
keeps-on old mid later first second =
    let few = kept-length old mid first in
    sym (take-take (length old) (length mid) later few) ∙ ap (take (length old)) second ∙ first

pub mark-within-before : (old mid later new : List View) (mark : ℕ) → mark + 1 ≡ length old → KeepsViews old mid → KeepsViews mid later → new ≡ later → mark < length new
mark-within-before old mid later new mark is first second same = mark-within old later new mark is (keeps-on old mid later first second) same

pub back-before : (old mid later new back : List View) (mark : ℕ) → mark + 1 ≡ length old → KeepsViews old mid → KeepsViews mid later → new ≡ later → back ≡ take (mark + 1) new → back ≡ old
back-before old mid later new back mark is first second same went = back-there old later new back mark is (keeps-on old mid later first second) same went

-- what stands below views that stand below others
pub below-then : {program : Program} {old mid later : List View} → KeepsViews old mid → StandsBelow program mid later → StandsBelow program old later
below-then {program} {old} {mid} {later} first second = record { keeps = keeps-on old mid later first second.keeps; fits = second.fits }

-- views that are as before stand there
pub below-same : {program : Program} {old new : List View} → new ≡ old → Fits program (present old) → StandsBelow program old new
below-same {program} {old} same fits = subst (StandsBelow program old) (sym same) (record { keeps = take-length old; fits = fits })

-- a mark of the views before is one of those below them
pub below-within : {program : Program} {old new : List View} {mark : ℕ} → mark + 1 ≡ length old → StandsBelow program old new → mark < length new
below-within {program} {old} {new} is below = omega (arith, is, kept-length old new below.keeps)

-- what is shown after going back to it
pub below-back : {program : Program} {old new back : List View} (mark : ℕ) → mark + 1 ≡ length old → StandsBelow program old new → back ≡ take (mark + 1) new → back ≡ old
below-back {program} {old} {new} mark is below went = went ∙ ap (λ (n : ℕ). take n new) is ∙ below.keeps
