-- By what points are judged: rows with choices and without.
use Rattle.std.proofs.Common.{◌≡◌, ℕ, ℤ, ◌≤ℤ◌, ◌-ℤ◌, pos, List, length, take, Option, Some, None, unwrap_or, refl, sym, ap, ◌∙◌, subst, arith}
use Rattle.std.specs.Int.{int_min}
use Rattle.std.specs.List.{All}
use Rattle.std.proofs.lemmas.Int.{int_min_is, ints}
use Rattle.std.proofs.lemmas.List.{take_all}
use Rattle.row_kit.specs.declared.domain.Domain.{Domain}
use Rattle.row_kit.specs.declared.program.Program.{Program}
use Rattle.row_kit.specs.Change.{changeovers}
use Rattle.row_kit.specs.Point.{IsLawful, LiesIn, value_of, worth_of}
use Rattle.proof_tree.specs.declared.capped.Capped.{Capped}
use Rattle.proof_tree.specs.declared.capped.Capped.TheVariants.{AtMost, NoPoint, Bad}
use Rattle.proof_tree.specs.Cap.{Bounds}
use Rattle.row_relax.specs.declared.rows.Rows.{Rows}
use Rattle.row_relax.specs.Choices.{HaveImages, IsImageIn, IsLawfulIn, IsLawfulWith, choices_of, plain, settled_in, settled_with, steps_of, worth_in, worth_with}
use Rattle.row_relax.specs.Settle.{settled}
use Rattle.row_relax.specs.Steps.{row_steps}

-- rows without choices are those of their program, and so are their calls
pub plain-rows : (rows : Rows) → rows.choices ≡ None → rows ≡ plain rows.program
plain-rows rows none = let with' : Option Program → Rows = λ choices. record { program = rows.program; choices = choices } in ap with' none

pub plain-steps : (program : Program) → steps_of (plain program) ≡ row_steps program
unfolding row_steps
plain-steps program = refl

-- domains settle by their first ones, as many as points have slots
first-settled_with : (program : Program) (choices : Option Program) (ds : List Domain) → length ds ≡ length program.root
    → settled (unwrap_or choices program) (take (length (unwrap_or choices program).root) ds) ≡ settled_with program choices ds
first-settled_with program None ds slots = ap (settled program) (take_all (length program.root) ds (omega (arith, slots)))
first-settled_with program (Some choices) ds slots = refl

pub first-settled : (rows : Rows) (ds : List Domain) → length ds ≡ length rows.program.root → settled (choices_of rows) (take (length (choices_of rows).root) ds) ≡ settled_in rows ds
first-settled rows ds slots = first-settled_with rows.program rows.choices ds slots

-- where points are judged by the program of the rows, each is its own image
less : (value : ℤ) (n : ℕ) → (value -ℤ pos n) ≤ℤ value
less value n = omega (arith, ints)

own-image : (program : Program) (point : List ℕ) → IsLawful program point → IsImageIn (plain program) point point
own-image program point lawful = record {
  first = take_all (length program.root) point (omega (arith, lawful.lies.same_length));
  lawful = lawful;
  value = less (value_of program point) (changeovers program.changes program.tags point);
}

pub plain-images : (rows : Rows) → rows.choices ≡ None → HaveImages rows
plain-images rows none = subst HaveImages (sym (plain-rows rows none)) (λ point lawful. (point, own-image rows.program point lawful))

-- an image is lawful, and worth as much as its point
lesser_least : (a b c : ℤ) → c ≤ℤ a → c ≤ℤ b → c ≤ℤ int_min a b
lesser_least a b c first second = omega (arith, ints, int_min_is a b)

image-worth_with : (program : Program) (choices : Option Program) (point image : List ℕ) → IsLawful (unwrap_or choices program) point → take (length (unwrap_or choices program).root) image ≡ point → IsLawful program image
    → worth_of (unwrap_or choices program) point ≤ℤ value_of program image → IsLawfulWith program choices image × (worth_of (unwrap_or choices program) point ≤ℤ worth_with program choices image)
image-worth_with program None point image lawful first there value =
    let same : image ≡ point = sym (take_all (length program.root) image (omega (arith, there.lies.same_length))) ∙ first in
    (there, at_most (worth_of program point) (worth_of program image) (ap (worth_of program) (sym same)))
  where
    at_most : (a b : ℤ) → a ≡ b → a ≤ℤ b
    at_most a b same = omega (arith, ints, same)
image-worth_with program (Some choices) point image lawful first there value =
    let own = subst (IsLawful choices) (sym first) lawful in (
      (there, own),
      lesser_least (value_of program image) (worth_of choices (take (length choices.root) image)) (worth_of choices point) value (at_most (worth_of choices point) (worth_of choices (take (length choices.root) image)) (ap (worth_of choices) (sym first))),
    )
  where
    at_most : (a b : ℤ) → a ≡ b → a ≤ℤ b
    at_most a b same = omega (arith, ints, same)

pub image-worth : (rows : Rows) (point image : List ℕ) → IsLawful (choices_of rows) point → IsImageIn rows point image → IsLawfulIn rows image × (worth_of (choices_of rows) point ≤ℤ worth_in rows image)
image-worth rows point image lawful is = image-worth_with rows.program rows.choices point image lawful is.first is.lawful is.value

-- so what bounds the rows bounds every lawful point
within : (a b c : ℤ) → a ≤ℤ b → b ≤ℤ c → a ≤ℤ c
within a b c low high = omega (arith, ints)

pub choices-bounds : (rows : Rows) → HaveImages rows → (cap : Capped) → Bounds (LiesIn rows.program.root) (IsLawfulIn rows) (worth_in rows) cap → Bounds (LiesIn (choices_of rows).root) (IsLawful (choices_of rows)) (worth_of (choices_of rows)) cap
choices-bounds rows images (AtMost n) bound = λ point lies lawful.
    let image = images point lawful in
    let is = image-worth rows point image.0 lawful image.1 in
    within (worth_of (choices_of rows) point) (worth_in rows image.0) n is.1 (bound image.0 image.1.lawful.lies is.0)
choices-bounds rows images NoPoint bound = λ point lies lawful.
    let image = images point lawful in
    bound image.0 image.1.lawful.lies (image-worth rows point image.0 lawful image.1).0
choices-bounds rows images Bad bound = tt
