-- What caps allow.
use Rattle.std.proofs.Common.{◌≢◌, ℤ, ◌≤ℤ◌, ◌⊎◌, refl, arith, inl, inr}
use Rattle.std.specs.Prelude.{◌<ℤ◌}
use Rattle.std.specs.Int.{int_max}
use Rattle.std.proofs.lemmas.Int.{ints, clamps}
use Rattle.proof_tree.specs.declared.capped.Capped.{Capped}
use Rattle.proof_tree.specs.declared.capped.Capped.TheVariants.{AtMost, NoPoint, Bad}
use Rattle.proof_tree.specs.Cap.{Bounds, greater}
use Rattle.proof_tree.specs.Views.{Point}
use Rattle.plan_images.specs.Caps.{Allows, AllowsPoint, Caps, AllowsMore}

-- what allows so much allows less
pub allows-less : (cap : Capped) (low high : ℤ) → low ≤ℤ high → Allows cap high → Allows cap low
allows-less (AtMost n) low high less is = omega (arith, ints, less, is)
allows-less NoPoint low high less is = is
allows-less Bad low high less is = tt

max_left : (x a b : ℤ) → x ≤ℤ a → x ≤ℤ int_max a b
max_left x a b h = omega (arith, ints, clamps)

max_right : (x a b : ℤ) → x ≤ℤ b → x ≤ℤ int_max a b
max_right x a b h = omega (arith, ints, clamps)

-- the greater of two caps allows what either allows
pub allows-left : (a b : Capped) (earned : ℤ) → Allows a earned → Allows (greater a b) earned
allows-left Bad b earned is = tt
allows-left NoPoint b earned is = absurd is
allows-left (AtMost m) Bad earned is = tt
allows-left (AtMost m) NoPoint earned is = is
allows-left (AtMost m) (AtMost n) earned is = max_left earned m n is

pub allows-right : (a b : Capped) (earned : ℤ) → Allows b earned → Allows (greater a b) earned
allows-right Bad b earned is = tt
allows-right NoPoint b earned is = is
allows-right (AtMost m) Bad earned is = tt
allows-right (AtMost m) NoPoint earned is = absurd is
allows-right (AtMost m) (AtMost n) earned is = max_right earned m n is

-- two parts of which one is not there have no cap
pub allows-half : (a : Capped) (earned : ℤ) → Allows (greater a Bad) earned
allows-half Bad earned = tt
allows-half NoPoint earned = tt
allows-half (AtMost m) earned = tt

-- a cap that bounds the worths of points allows that of each, and the other way round
pub allows-one : (P L : Point → Type 0) (worth : Point → ℤ) (cap : Capped) → Bounds P L worth cap → (p : Point) → P p → L p → Allows cap (worth p)
allows-one P L worth (AtMost n) bound p is lawful = bound p is lawful
allows-one P L worth NoPoint bound p is lawful = bound p is lawful
allows-one P L worth Bad bound p is lawful = tt

pub allows-each : (P L : Point → Type 0) (worth : Point → ℤ) (cap : Capped) → ((p : Point) → P p → L p → Allows cap (worth p)) → Bounds P L worth cap
allows-each P L worth (AtMost n) each = each
allows-each P L worth NoPoint each = each
allows-each P L worth Bad each = tt

-- what a cap allows is at most what it is not above
pub allowed-most : (cap : Capped) (most earned : ℤ) → cap ≢ Bad → (¬ AllowsMore cap most) → Allows cap earned → earned ≤ℤ most
allowed-most (AtMost n) most earned real not is = not_above n most earned not is
  where
    not_above : (a b c : ℤ) → (¬ (b <ℤ a)) → c ≤ℤ a → c ≤ℤ b
    not_above a b c not le = grind (arith, ints, not, le)
allowed-most NoPoint most earned real not is = absurd is
allowed-most Bad most earned real not is = absurd (real refl)

-- a cap that allows something allows a point
pub allowed-point : (cap : Capped) (earned : ℤ) → cap ≢ Bad → Allows cap earned → AllowsPoint cap
allowed-point (AtMost n) earned real is = tt
allowed-point NoPoint earned real is = absurd is
allowed-point Bad earned real is = absurd (real refl)

-- a number is at most another, or greater
floor_or : (floor earned : ℤ) → (earned ≤ℤ floor) ⊎ (floor <ℤ earned)
floor_or floor earned = grind (arith, ints)

-- what a cap allows of things that earn more than a number, the greater of both allows of all
pub floored : {X : Type 0} (admits : X → Type 0) (earned : X → ℤ) (floor : ℤ) (cap : Capped) → Caps (λ x. admits x × (floor <ℤ earned x)) earned cap → Caps admits earned (greater (AtMost floor) cap)
floored admits earned floor cap caps x is = by (floor_or floor (earned x))
  where
    by : (earned x ≤ℤ floor) ⊎ (floor <ℤ earned x) → Allows (greater (AtMost floor) cap) (earned x)
    by (inl low) = allows-left (AtMost floor) cap (earned x) low
    by (inr high) = allows-right (AtMost floor) cap (earned x) (caps x (is, high))
