-- Lemmas on caps.
use Rattle.std.proofs.Common.{◌≡◌, ◌≢◌, ℤ, ◌≤ℤ◌, ◌⊎◌, Option, Some, None, refl, arith, ⊎_elim}
use Rattle.std.specs.Int.{int_max}
use Rattle.std.proofs.lemmas.Int.{ints, clamps}
use Rattle.proof_tree.specs.declared.capped.Capped.{Capped}
use Rattle.proof_tree.specs.declared.capped.Capped.TheVariants.{AtMost, NoPoint, Bad}
use Rattle.proof_tree.specs.Cap.{Bounds, IsWithinFloor, greater, floor_cap}
use Rattle.proof_tree.specs.Views.{Point}

-- a floor gives no cap to what has none
pub floor-bad : (floor : Option ℤ) → greater (floor_cap floor) Bad ≡ Bad
floor-bad None = refl
floor-bad (Some n) = refl

-- and takes none away
pub floor-not_bad : (floor : Option ℤ) (cap : Capped) → cap ≢ Bad → greater (floor_cap floor) cap ≢ Bad
floor-not_bad None cap not_bad is = not_bad is
floor-not_bad (Some n) Bad not_bad is = not_bad is
floor-not_bad (Some n) NoPoint not_bad is = cc
floor-not_bad (Some n) (AtMost m) not_bad is = cc

-- what is at most one of two numbers is at most the greater of them
int_max-left : (x a b : ℤ) → x ≤ℤ a → x ≤ℤ int_max a b
int_max-left x a b h = omega (arith, ints, clamps)

int_max-right : (x a b : ℤ) → x ≤ℤ b → x ≤ℤ int_max a b
int_max-right x a b h = omega (arith, ints, clamps)

-- the greater of two caps is a cap of what either caps
pub Bounds-greater : (P Q R L : Point → Type 0) (worth : Point → ℤ) (a b : Capped) → ((p : Point) → R p → L p → P p ⊎ Q p) → Bounds P L worth a → Bounds Q L worth b → Bounds R L worth (greater a b)
Bounds-greater P Q R L worth Bad b either first second = tt
Bounds-greater P Q R L worth NoPoint (AtMost n) either first second = λ p r l. ⊎_elim (λ x. absurd (first p x l)) (λ x. second p x l) (either p r l)
Bounds-greater P Q R L worth NoPoint NoPoint either first second = λ p r l. ⊎_elim (λ x. first p x l) (λ x. second p x l) (either p r l)
Bounds-greater P Q R L worth NoPoint Bad either first second = tt
Bounds-greater P Q R L worth (AtMost m) Bad either first second = tt
Bounds-greater P Q R L worth (AtMost m) NoPoint either first second = λ p r l. ⊎_elim (λ x. first p x l) (λ x. absurd (second p x l)) (either p r l)
Bounds-greater P Q R L worth (AtMost m) (AtMost n) either first second =
    λ p r l. ⊎_elim (λ x. int_max-left (worth p) m n (first p x l)) (λ x. int_max-right (worth p) m n (second p x l)) (either p r l)

-- the cap of a floor is one of what it takes away
pub floor-bounds : (L : Point → Type 0) (worth : Point → ℤ) (floor : Option ℤ) → Bounds (λ p. IsWithinFloor floor (worth p)) L worth (floor_cap floor)
floor-bounds L worth None = λ p within. absurd within
floor-bounds L worth (Some n) = λ p within lawful. within
