-- The loose cap of a proof bounds the worth of every lawful point, whatever rows the proof was made for.
use Rattle.std.proofs.Common.{◌≡◌, ℤ, Bool, true, false, cond, List, [], ◌∷◌, length, take, Option, Some, None, refl, ◌≤ℤ◌, arith}
use Rattle.std.specs.Prelude.{unwrap_or, int_lt}
use Rattle.std.specs.Int.{int_min}
use Rattle.std.specs.Int.Signed.{≤ℤ_refl}
use Rattle.std.proofs.lemmas.Int.{int_min_is, ints}
use Rattle.row_kit.specs.declared.program.Program.{Program}
use Rattle.row_kit.specs.Point.{IsLawful, value_of, worth_of}
use Rattle.range_prop.specs.declared.row_cut.RowCut.{RowCut}
use Rattle.dual_bound.specs.declared.cert.Cert.{Cert}
use Rattle.proof_tree.specs.declared.capped.Capped.{Capped}
use Rattle.proof_tree.specs.declared.capped.Capped.TheVariants.{AtMost, NoPoint, Bad}
use Rattle.proof_tree.specs.Cap.{Bounds}
use Rattle.proof_tree.specs.Tree.{Leaf, no_point, dual, one_point, pending, leaf, split, leaf_cap, split_cap}
use Rattle.proof_tree.specs.Views.{View, Point}
use Rattle.row_relax.specs.declared.rows.Rows.{Rows}
use Rattle.row_relax.specs.Choices.{IsLawfulIn, IsLawfulWith, settle_of, steps_of, worth_in, worth_with}
use Rattle.row_relax.specs.RowProofs.{RowTree}
use Rattle.row_relax.specs.Steps.{row_steps}
use Rattle.row_relax.specs.View.{Fits, IsIn}
use Rattle.row_relax.specs.laws.Laws.{steps_sound}
use Rattle.plan_images.specs.Boxes.{SettlesBy}
use Rattle.plan_images.specs.Caps.{Allows}
use Rattle.plan_images.specs.Images.{IsImage}
use Rattle.plan_images.proofs.Allowing.{allows-each, allows-one}
use Rattle.plan_images.proofs.Imaging.{own-image}
use Rattle.plan_images.proofs.Losing.{Lies, cert-allows, cut-lies, lawful-kept, leaf-allows, split-allows}
use Rattle.what_if.specs.Loose.{after_all, after_cut, certified, lesser, loose_cap, loosened, no_mults, or_else, within}

allows_or_else : (own other : Capped) (earned : ℤ) → Allows own earned → Allows other earned → Allows (or_else own other) earned
allows_or_else Bad other earned first second = second
allows_or_else NoPoint other earned first second = first
allows_or_else (AtMost n) other earned first second = first

-- the lesser of two numbers is no less than what both are no less than
pub allows_min : (m n earned : ℤ) → earned ≤ℤ m → earned ≤ℤ n → earned ≤ℤ int_min m n
allows_min m n earned first second = by_lt (int_lt n m)
  where
    by_lt : (lt : Bool) → earned ≤ℤ cond lt n m
    by_lt true = second
    by_lt false = first

-- the lesser of two caps allows what both allow
allows_lesser : (a b : Capped) (earned : ℤ) → Allows a earned → Allows b earned → Allows (lesser a b) earned
allows_lesser Bad b earned first second = second
allows_lesser NoPoint b earned first second = first
allows_lesser (AtMost m) Bad earned first second = first
allows_lesser (AtMost m) NoPoint earned first second = second
allows_lesser (AtMost m) (AtMost n) earned first second = allows_min m n earned first second

-- ---- points as images of their own

-- what a lawful point of rows is worth is at most its value
first_lawful : (program : Program) (choices : Option Program) (p : Point) → IsLawfulWith program choices p → IsLawful program p
first_lawful program None p lawful = lawful
first_lawful program (Some choices) p lawful = lawful.0

worth_within : (program : Program) (choices : Option Program) (p : Point) → IsLawful program p → worth_with program choices p ≤ℤ value_of program p
worth_within program None p lawful = (own-image program p lawful).value
worth_within program (Some choices) p lawful = min_first (value_of program p) (worth_of choices (take (length choices.root) p))
  where
    min_first : (a b : ℤ) → int_min a b ≤ℤ a
    min_first a b = omega (arith, ints, int_min_is a b)

-- what is said of each point is what one of them is worth
abbrev said : Rows → Point → Point → ℤ
said rows p q = worth_in rows p

-- so it is an image of what is worth so much, where nothing is said of it alone
worth-image : (rows : Rows) (p : Point) → IsLawfulIn rows p → IsImage rows.program (said rows p) (worth_in rows p) p
worth-image rows p lawful = let own = first_lawful rows.program rows.choices p lawful in record {
  lawful = own;
  value = worth_within rows.program rows.choices p own;
  said = ≤ℤ_refl (worth_in rows p);
}

-- what settles no box
abbrev unsettled : View → Capped
unsettled v = Bad

module _ (rows : Rows) (p : Point) (lawful : IsLawfulIn rows p) where
  image : IsImage rows.program (said rows p) (worth_in rows p) p
  image = worth-image rows p lawful

  settles : SettlesBy rows.program unsettled (said rows p)
  settles v point fits lies lawful' = tt

  -- a cut keeps the point, and one that is not there changes nothing
  after_cut-lies : (v : View) (cut : RowCut) → Lies rows.program p v → Lies rows.program p (after_cut rows.program v cut)
  after_cut-lies v cut at = by_step ((row_steps rows.program).cut v cut) refl
    where
      by_step : (next : Option View) → (row_steps rows.program).cut v cut ≡ next → Lies rows.program p (unwrap_or next v)
      by_step None is = at
      by_step (Some w) is = cut-lies rows.program p v w cut image.lawful at is

  after_all-lies : (cuts : List RowCut) (v : View) → Lies rows.program p v → Lies rows.program p (after_all rows.program v cuts)
  after_all-lies [] v at = at
  after_all-lies (cut ∷ cuts) v at = after_all-lies cuts (after_cut rows.program v cut) (after_cut-lies v cut at)

  -- what certificates give, and what ends do
  certs-allow : (v : View) (cert : Cert) → Lies rows.program p v → Allows ((row_steps rows.program).cap v cert) (worth_in rows p)
  certs-allow v cert at = cert-allows rows.program (said rows p) unsettled settles (worth_in rows p) p image v cert at

  ends-allow : (v : View) (end : Leaf Cert) → Lies rows.program p v → Allows (leaf_cap (steps_of rows) v end) (worth_in rows p)
  ends-allow v no_point at = leaf-allows rows.program (said rows p) unsettled settles (worth_in rows p) p image v no_point at
  ends-allow v (dual cert) at = certs-allow v cert at
  ends-allow v one_point at = allows-one (IsIn v) (IsLawfulIn rows) (worth_in rows) (settle_of rows v) ((steps_sound rows).settles v at.fits) p at.lies lawful
  ends-allow v (pending cert) at = certs-allow v cert at

  -- what stands in the place of an end's cap
  loosened-allows : (v : View) (own : Capped) → Lies rows.program p v → Allows own (worth_in rows p) → Allows (loosened rows.program v own) (worth_in rows p)
  loosened-allows v own at is = by_empty ((row_steps rows.program).empty v) refl
    where
      by_empty : (empty : Bool) → (row_steps rows.program).empty v ≡ empty → Allows (cond empty NoPoint (or_else own ((row_steps rows.program).cap v no_mults))) (worth_in rows p)
      by_empty true e = (lawful-kept rows.program p image.lawful).some v at.fits e at.lies
      by_empty false e = allows_or_else own ((row_steps rows.program).cap v no_mults) (worth_in rows p) is (certs-allow v no_mults at)

  -- what a split gives
  within-allows : (capped : Bool) (v : View) (cert : Cert) (parts : Capped) → Lies rows.program p v → Allows parts (worth_in rows p) → Allows (within capped rows.program v cert parts) (worth_in rows p)
  within-allows false v cert parts at is = is
  within-allows true v cert parts at is =
      allows_lesser (certified rows.program v cert) parts (worth_in rows p) (allows_or_else ((row_steps rows.program).cap v cert) ((row_steps rows.program).cap v no_mults) (worth_in rows p) (certs-allow v cert at) (certs-allow v no_mults at)) is

  -- the loose cap allows what the point is worth
  loose-allows : (capped : Bool) (tree : RowTree) (v : View) → Lies rows.program p v → Allows (loose_cap capped rows v tree) (worth_in rows p)
  loose-allows capped (leaf cuts found end) v at =
      let w = after_all rows.program v cuts in
      let there = after_all-lies cuts v at in
      loosened-allows w (leaf_cap (steps_of rows) w end) there (ends-allow w end there)
  loose-allows capped (split cuts found pick cert a b) v at =
      let w = after_all rows.program v cuts in
      let there = after_all-lies cuts v at in
      let first : View → Capped = λ x. loose_cap capped rows x a in
      let second : View → Capped = λ x. loose_cap capped rows x b in
      let rest = (row_steps rows.program).trim w pick cert in
      let parts = split_cap (steps_of rows) w pick cert first second in
      loosened-allows w (within capped rows.program w cert parts) there
      (within-allows capped w cert parts there
      (split-allows rows.program (said rows p) unsettled settles (worth_in rows p) p image w pick cert first second there (loose-allows capped a) (loose-allows capped b) ((row_steps rows.program).left rest pick) refl ((row_steps rows.program).right rest pick) refl))

-- the loose cap bounds the worth of every lawful point
pub loose_cap-bounds : (capped : Bool) (rows : Rows) (tree : RowTree) (v : View) → Fits rows.program v → Bounds (IsIn v) (IsLawfulIn rows) (worth_in rows) (loose_cap capped rows v tree)
loose_cap-bounds capped rows tree v fit =
    allows-each (IsIn v) (IsLawfulIn rows) (worth_in rows) (loose_cap capped rows v tree)
    (λ p lies lawful. loose-allows rows p lawful capped tree v (record { fits = fit; lies = lies }))
