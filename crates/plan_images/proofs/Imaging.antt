-- Images, and what makes them.
use Rattle.std.proofs.Common.{◌≡◌, ℕ, List, length, refl, sym, ap, ap₂, ◌∙◌, subst, arith, ℤ, pos, ◌+ℤ◌, ◌-ℤ◌, ◌≤ℤ◌}
use Rattle.std.specs.List.{All}
use Rattle.std.proofs.lemmas.Int.{ints}
use Rattle.std.proofs.lemmas.List.Elements.{All-append}
use Rattle.row_kit.specs.declared.domain.Domain.{Domain}
use Rattle.row_kit.specs.declared.program.Program.{Program}
use Rattle.row_kit.specs.declared.row.Entry.{Entry}
use Rattle.row_kit.specs.declared.row.Row.{Row}
use Rattle.row_kit.specs.Change.{changeovers}
use Rattle.row_kit.specs.Point.{IsLawful, LiesIn, value_of, worth_of}
use Rattle.row_kit.specs.Row.{IsKept, entries_sum}
use Rattle.sum_slots.specs.declared.sum.Sum.{Sum}
use Rattle.sum_slots.specs.Larger.{IsWithSums, completed, given_of}
use Rattle.sum_slots.specs.Law.{IsSameWithSums}
use Rattle.sum_slots.specs.Shown.{AreRanges, IsShown}
use Rattle.sum_slots.specs.Sum.{IsDeclared}
use Rattle.sum_slots.proofs.Sameness.{law}
use Rattle.derivations.specs.declared.derivation.Derivation.{Derivation}
use Rattle.derivations.specs.Growth.{AreShown}
use Rattle.derivations.specs.Larger.{IsWithDerivations, begun}
use Rattle.derivations.proofs.Holding.{holds}
use Rattle.derivations.proofs.Shares.{met-holds}
use Rattle.plan_images.specs.Extensions.{Extends, IsWithRows}
use Rattle.plan_images.specs.Images.{IsImage, IsRelaxation, Relaxes}
use Rattle.plan_images.specs.Law.{DerivationsExtend, SumsExtend}
use Rattle.plan_images.specs.Told.{ReadsAs}

less_costs : (value : ℤ) (n : ℕ) (earned : ℤ) → earned ≤ℤ (value -ℤ pos n) → earned ≤ℤ value
less_costs value n earned le = omega (arith, ints, le)

-- a lawful point is an image of what earns at most its worth
pub worth-image : (program : Program) (earned : ℤ) (point : List ℕ) → IsLawful program point → earned ≤ℤ worth_of program point → IsImage program (worth_of program) earned point
worth-image program earned point lawful le = record {
  lawful = lawful;
  value = less_costs (value_of program point) (changeovers program.changes program.tags point) earned le;
  said = le;
}

-- what extends a relaxation is one
pub composed : {X : Type 0} (admits : X → Type 0) (earned : X → ℤ) (given larger : Program) (alone larger_alone : List ℕ → ℤ)
    → IsRelaxation admits earned given alone → Extends given alone larger larger_alone → IsRelaxation admits earned larger larger_alone
composed admits earned given larger alone larger_alone first second = record {
  image = λ x. second.image (first.image x);
  is = λ x admitted. second.is (first.image x) (earned x) (first.is x admitted);
}

-- a relaxation of some plans is one of fewer
pub fewer : {X : Type 0} (admits others : X → Type 0) (earned : X → ℤ) (program : Program) (alone : List ℕ → ℤ) → ((x : X) → others x → admits x) → IsRelaxation admits earned program alone → IsRelaxation others earned program alone
fewer admits others earned program alone among first = record { image = first.image; is = λ x other. first.is x (among x other) }

same_worth : (a : ℤ) → a ≤ℤ a
same_worth a = omega (arith, ints)

-- a lawful point is an image of what earns its worth
pub own-image : (program : Program) (point : List ℕ) → IsLawful program point → IsImage program (worth_of program) (worth_of program point) point
own-image program point lawful = worth-image program (worth_of program point) point lawful (same_worth (worth_of program point))

-- a program is a relaxation of its own lawful points
pub itself-relaxes : (program : Program) → IsRelaxation (IsLawful program) (worth_of program) program (worth_of program)
itself-relaxes program = record { image = λ point. point; is = own-image program }

-- ---- rows

-- a relaxation stays one where rows are added that each image keeps, and the root is narrowed to domains in which it lies
pub with-rows : {X : Type 0} (admits : X → Type 0) (earned : X → ℤ) (given larger : Program) (alone : List ℕ → ℤ) (more : List Row) (domains : List Domain) (is : IsRelaxation admits earned given alone)
    → ((x : X) → admits x → All (IsKept (is.image x)) more × LiesIn domains (is.image x)) → IsWithRows given more domains larger → IsRelaxation admits earned larger alone
with-rows admits earned given larger alone more domains is keep added = record { image = is.image; is = λ x admitted. in_larger (is.image x) (earned x) (is.is x admitted) (keep x admitted) }
  where
    in_larger : (point : List ℕ) (amount : ℤ) → IsImage given alone amount point → All (IsKept point) more × LiesIn domains point → IsImage larger alone amount point
    in_larger point amount image kept = record {
      lawful = record {
        lies = subst (λ (ds : List Domain). LiesIn ds point) (sym added.root) (met-holds given.root domains point image.lawful.lies kept.1);
        keeps = subst (All (IsKept point)) (sym added.rows) (All-append (IsKept point) given.rows more image.lawful.keeps kept.0);
      };
      value = subst (λ (v : ℤ). amount ≤ℤ v) (ap₂ (λ (base : ℤ) (es : List Entry). base +ℤ entries_sum es point) (sym added.base) (sym added.profit)) image.value;
      said = image.said;
    }

-- ---- the same points

-- Two programs have the same points under two names: a lawful point of each stands for one of the other that is worth the same, and going there and back gives the point.
pub record HaveSamePoints (one other : Program) (there back : List ℕ → List ℕ) : Type 0 where
  pub there_is : ReadsAs one (IsLawful other) (worth_of other) there
  pub back_is : ReadsAs other (IsLawful one) (worth_of one) back
  pub there_back : (point : List ℕ) → IsLawful one point → back (there point) ≡ point
  pub back_there : (point : List ℕ) → IsLawful other point → there (back point) ≡ point

-- so the other extends it
same-extend : (one other : Program) (there back : List ℕ → List ℕ) → HaveSamePoints one other there back → Extends one (worth_of one) other (worth_of other)
same-extend one other there back same = record {
  image = there;
  is = λ point earned image.
      let is = same.there_is point image.lawful in
      worth-image other earned (there point) is.0 (subst (λ (worth : ℤ). earned ≤ℤ worth) (sym is.1) image.said);
}

-- and is a relaxation of whatever it is one of
pub same-relaxes : {X : Type 0} (admits : X → Type 0) (earned : X → ℤ) (one other : Program) (there back : List ℕ → List ℕ) → HaveSamePoints one other there back → Relaxes admits earned one → Relaxes admits earned other
same-relaxes admits earned one other there back same first = composed admits earned one other (worth_of one) (worth_of other) first (same-extend one other there back same)

-- ---- sums

-- a program with sums has the points of the one without them: completed by the values of the sums there, and cut back here
pub sums-points : (given larger : Program) (sums : List Sum) → IsSameWithSums given sums larger → HaveSamePoints given larger (completed sums) (given_of given)
sums-points given larger sums same = record {
  there_is = λ point lawful.
      let own = sym (same.given point lawful) in
      ((same.points (completed sums point)).1 (subst (IsLawful given) own lawful, ap (completed sums) own), same.worth point lawful);
  back_is = λ point lawful.
      let is = (same.points point).0 lawful in
      (is.0, sym (same.worth (given_of given point) is.0) ∙ ap (worth_of larger) (sym is.1));
  there_back = same.given;
  back_there = λ point lawful. sym ((same.points point).0 lawful).1;
}

-- so it has where each sum is shown
pub shown-points : (given larger : Program) (ranges : List Domain) (sums : List Sum) → AreRanges given ranges → All (IsDeclared (length given.root)) sums → All (IsShown given ranges) sums
    → IsWithSums given ranges sums larger → HaveSamePoints given larger (completed sums) (given_of given)
shown-points given larger ranges sums wide declared shown enlarged = sums-points given larger sums (law given larger ranges sums wide declared shown enlarged)

-- so sums that are shown extend a program
pub shown-extend : SumsExtend
shown-extend given larger ranges sums wide declared shown enlarged =
    same-extend given larger (completed sums) (given_of given) (shown-points given larger ranges sums wide declared shown enlarged)

-- ---- derivations

-- a program with derivations that are shown has the points of the one without them, under their own names
pub derived-points : (given larger : Program) (domains : List Domain) (derivations : List Derivation) → AreRanges given domains → AreShown (begun given domains) derivations → IsWithDerivations given domains derivations larger
    → HaveSamePoints given larger (λ point. point) (λ point. point)
derived-points given larger domains derivations wide shown enlarged =
    let same = holds given larger domains derivations wide.same_length wide.normal wide.hold shown enlarged in record {
      there_is = λ point lawful. ((same.points point).1 lawful, same.worth point);
      back_is = λ point lawful. ((same.points point).0 lawful, sym (same.worth point));
      there_back = λ point lawful. refl;
      back_there = λ point lawful. refl;
    }

-- so derivations that are shown extend a program
pub derived-extend : DerivationsExtend
derived-extend given larger domains derivations wide shown enlarged =
    same-extend given larger (λ point. point) (λ point. point) (derived-points given larger domains derivations wide shown enlarged)
