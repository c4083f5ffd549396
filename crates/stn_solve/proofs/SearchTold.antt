-- What is told of searches over a part's own program, and over the rows with what a head declares.
use Rattle.std.proofs.Common.{◌≡◌, ℕ, true, false, ◌≤◌, length, ap₂, ◌∙◌, refl, subst, inl, inr, List, Option, None, IfSome}
use Rattle.std.specs.List.{All}
use Rattle.std.proofs.lemmas.Bool.{lt-ltb}
use Rattle.stn_model.specs.declared.plant.Plant.{Plant}
use Rattle.stn_model.specs.Points.{depth_limit}
use Rattle.stn_model.specs.Sound.{Sound}
use Rattle.time_grid.specs.Slots.{slots}
use Rattle.row_kit.specs.declared.domain.Domain.{Domain}
use Rattle.row_kit.specs.declared.found.Found.{Found}
use Rattle.row_kit.specs.declared.program.Program.{Program}
use Rattle.row_kit.specs.Domain.{IsOpen}
use Rattle.row_kit.specs.Points.{points_of}
use Rattle.row_set.specs.Parts.{IsPartOf}
use Rattle.row_relax.specs.declared.rows.Rows.{Rows}
use Rattle.row_relax.specs.Choices.{HaveImages, plain}
use Rattle.row_relax.specs.RowProofs.{RowTree}
use Rattle.row_relax.proofs.Choosing.{plain-rows}
use Rattle.sum_slots.specs.Shown.{AreRanges}
use Rattle.sum_choice.specs.Headed.{is_headed}
use Rattle.sum_choice.proofs.PointsLeft.{headed-many}
use Rattle.branch_tree.specs.declared.ended.Ended.{Ended}
use Rattle.plan_told.specs.Ended.{IsEnding, IsSearchOf}
use Rattle.plan_told.specs.Given.{IsGivenEnded, given_end, least_found}
use Rattle.plan_told.specs.Law.{IsToldByHead}
use Rattle.plan_told.specs.Telling.{IsTold}
use Rattle.plan_told.specs.declared.telling.Told.{Told}
use Rattle.plan_told.proofs.Completing.{claim-bytes}
use Rattle.plan_told.proofs.HeadImages.{head-images}
use Rattle.plan_told.proofs.PlainTold.{IsToldRight, best-places, told-right}
use Rattle.plan_told.proofs.ToldByHead.{given-places, told-by_head}
use Rattle.head_choice.specs.declared.heading.Headed.{Headed}
use Rattle.head_choice.specs.Heading.{IsHeaded}
use Rattle.stn_solve.specs.laws.Telling.{CanBeTold}

-- a search over rows whose points are judged by their own program is one over that program
pub as-plain : (most : ℕ) (rows : Rows) (given budget : ℕ) (ended : Ended) (tree : RowTree) → rows.choices ≡ None → IsSearchOf most rows false given budget ended tree → IsSearchOf most (plain rows.program) false given budget ended tree
as-plain most rows given budget ended tree none of = subst (λ (r : Rows). IsSearchOf most r false given budget ended tree) (plain-rows rows none) of

-- over a part's own program nothing but a search comes to an end: each slot of its root has a value
pub plain-search : (most : ℕ) (plant : Plant) (rows : Rows) (given budget : ℕ) (ended : Ended) (tree : RowTree) → rows.choices ≡ None → IsPartOf plant rows.program → IsEnding most rows false given budget ended tree → IsSearchOf most (plain rows.program) false given budget ended tree
plain-search most plant rows given budget ended tree none is (inl of) = as-plain most rows given budget ended tree none of
plain-search most plant rows given budget ended tree none is (inr of) = absurd (of.bare is.each_open)

-- a search is one by other names of the most splits and of the number from which on slots are sums
from-given : (program : Program) (most limit given own budget : ℕ) (tree : RowTree) (ended : Ended) → most ≡ limit → given ≡ own → IsSearchOf most (plain program) false given budget ended tree → IsSearchOf limit (plain program) false own budget ended tree
from-given program most limit given own budget tree ended deep is of =
    subst (λ (n : ℕ). IsSearchOf limit (plain program) false n budget ended tree) is (subst (λ (n : ℕ). IsSearchOf n (plain program) false given budget ended tree) deep of)

module _ (plant : Plant) (part : Program) (most given budget : ℕ) (tree : RowTree) (ended : Ended) (sound : Sound plant) (is : IsPartOf plant part) (deep : most ≡ depth_limit plant) (same : given ≡ length part.root)
    (of : IsSearchOf most (plain part) false given budget ended tree) where
  -- its best point has a value for each slot of the plant
  pub plain-places : IfSome ended.best (λ found. length found.point ≡ length (slots plant))
  plain-places = best-places plant part sound is false budget tree ended (from-given part most (depth_limit plant) given (length part.root) budget tree ended deep same of).search

  -- what is told of it is right
  pub plain-right : (told : Told) → IsTold plant ended told → IsToldRight plant part budget tree told
  plain-right told says = told-right plant part sound is budget tree ended (from-given part most (depth_limit plant) given (length part.root) budget tree ended deep same of) told says

module _ (plant : Plant) (part : Program) (judged : List Domain) (headed : Headed) (least : Option Found) (budget : ℕ) (tree : RowTree) (ended own : Ended) (sound : Sound plant) (is : IsPartOf plant part) (ranges : AreRanges part judged) (with_head : IsHeaded plant part judged headed) (least_is : least ≡ least_found part)
    (some : 1 ≤ budget) (of : IsEnding (depth_limit plant) headed.rows true headed.given budget ended tree) (as_given : own ≡ given_end headed.given least ended) where
  -- what the search ended with is as of the part
  own_is : IsGivenEnded part ended own
  own_is = as_given ∙ ap₂ (λ (slots : ℕ) (point : Option Found). given_end slots point ended) with_head.given least_is

  -- it is a search in which the slots after the part's are sums and setups
  own_of : IsEnding (depth_limit plant) headed.rows true (length part.root) budget ended tree
  own_of = subst (λ (n : ℕ). IsEnding (depth_limit plant) headed.rows true n budget ended tree) with_head.given of

  -- its best point has a value for each slot of the plant
  pub headed-places : IfSome own.best (λ found. length found.point ≡ length (slots plant))
  headed-places = given-places {floors = true} {budget = budget} plant part headed.rows judged headed.sums with_head.units with_head.derivations tree ended own sound is ranges with_head.can some own_of own_is

  -- what is told of it is right
  pub headed-right : is_headed part 0 ≡ true → budget ≤ 100000 → (told : Told) → IsTold plant own told → IsToldByHead plant part judged headed.sums with_head.units with_head.derivations budget tree told
  headed-right many few told says =
      told-by_head plant part headed.rows judged headed.sums with_head.units with_head.derivations true budget tree ended own told sound is ranges with_head.can (headed-many part 0 is.each_open many) some few own_of own_is says

-- a part that has a head by its later slots has many points in all
pub headed-whole : (part : Program) (levels : ℕ) → All IsOpen part.root → is_headed part levels ≡ true → is_headed part 0 ≡ true
unfolding is_headed
headed-whole part levels each has = lt-ltb 50000 (points_of part.root) (headed-many part levels each has)

-- each lawful point has an image among the rows of a head
pub headed-images : (plant : Plant) (part : Program) (judged : List Domain) (headed : Headed) → Sound plant → IsPartOf plant part → AreRanges part judged → IsHeaded plant part judged headed → HaveImages headed.rows
headed-images plant part judged headed sound is ranges with_head = head-images plant part headed.rows judged headed.sums with_head.units with_head.derivations sound is ranges with_head.can

-- whatever a search over the rows of a head ends with, it can be told
pub can-be-told : (plant : Plant) (part : Program) (judged : List Domain) (headed : Headed) (least : Option Found) (budget : ℕ) → Sound plant → IsPartOf plant part → AreRanges part judged → IsHeaded plant part judged headed → least ≡ least_found part
    → 1 ≤ budget → is_headed part 0 ≡ true → budget ≤ 100000 → CanBeTold plant headed least budget
can-be-told plant part judged headed least budget sound is ranges with_head least_is some many few = record {
  places = λ ended tree of. headed-places plant part judged headed least budget tree ended (given_end headed.given least ended) sound is ranges with_head least_is some of refl;
  bytes = λ ended tree told of says.
      let right = headed-right plant part judged headed least budget tree ended (given_end headed.given least ended) sound is ranges with_head least_is some of refl many few told says in
      claim-bytes plant part headed.rows judged headed.sums with_head.units with_head.derivations ranges with_head.can told.claim right.point;
}
