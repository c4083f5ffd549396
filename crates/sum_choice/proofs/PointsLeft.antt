-- How many points are left of later slots.
use Rattle.std.proofs.Common.{◌≡◌, ◌∙◌, ℕ, zero, suc, ◌*◌, ◌<◌, ◌≤◌, min, true, ltb, List, [], ◌∷◌, drop, ap, sym, ⊎_elim, arith}
use Rattle.std.specs.List.{All}
use Rattle.std.proofs.Math.Nat.{mul-le-mul, mul-le-mul_right}
use Rattle.std.proofs.lemmas.Bool.{cases_lt, lt-ltb, ltb-true}
use Rattle.std.proofs.lemmas.List.Elements.{All-head, All-tail}
use Rattle.row_kit.specs.declared.domain.Domain.{Domain}
use Rattle.row_kit.specs.declared.program.Program.{Program}
use Rattle.row_kit.specs.Domain.{IsOpen, count_of}
use Rattle.row_kit.specs.Points.{points_of}
use Rattle.sum_choice.specs.Headed.{is_headed}

-- a product of which one factor was cut down to a greatest number is the same where that number is the greatest for it too
least_times : (most product rest : ℕ) → min (min product most * rest) most ≡ min (product * rest) most
least_times most product zero = omega arith
least_times most product (suc rest) =
    ⊎_elim (λ (over : most < product).
    let is : min product most ≡ most = omega (arith, over) in
    let some : most * 1 ≤ most * suc rest = mul-le-mul (omega arith) (omega arith) in
    let more : most * suc rest ≤ product * suc rest = mul-le-mul (omega (arith, over)) (omega arith) in
    ap (λ (n : ℕ). min (n * suc rest) most) is ∙ omega (arith, some, more))
    (λ (under : product ≤ most).
    let is : min product most ≡ product = omega (arith, under) in
    ap (λ (n : ℕ). min (n * suc rest) most) is)
    (cases_lt most product)

-- a domain more: the product so far, cut down to a greatest number, leaves the later points as they are
pub points-step : (most count next whole : ℕ) (d : Domain) (later : List Domain) → next ≡ min (count * count_of d) most → min (count * (count_of d * points_of later)) most ≡ whole → min (next * points_of later) most ≡ whole
points-step most count next whole d later is before =
    let same : (count * count_of d) * points_of later ≡ count * (count_of d * points_of later) = grind arith in
    ap (λ (n : ℕ). min (n * points_of later) most) is ∙ least_times most (count * count_of d) (points_of later) ∙ ap (λ (n : ℕ). min n most) same ∙ before

-- a number is above a smaller one than the greatest also where it was cut down to that
pub test-least : (test most n : ℕ) → test < most → ltb test (min n most) ≡ ltb test n
test-least test most n below =
    ⊎_elim (λ (over : most < n). lt-ltb test (min n most) (omega (arith, below, over)) ∙ sym (lt-ltb test n (omega (arith, below, over))))
    (λ (under : n ≤ most). ap (ltb test) (omega (arith, under)))
    (cases_lt most n)

-- to take domains away that have values leaves no more points
pub points-drop : (n : ℕ) (ds : List Domain) → All IsOpen ds → points_of (drop n ds) ≤ points_of ds
points-drop zero ds all = omega arith
points-drop (suc n) [] all = omega arith
points-drop (suc n) (d ∷ ds) all =
    let some : 1 * points_of ds ≤ count_of d * points_of ds = mul-le-mul_right (points_of ds) (All-head IsOpen d ds all) in
    omega (arith, points-drop n ds (All-tail IsOpen d ds all), some)

-- a part whose log has a head has more than 50,000 points
pub headed-many : (part : Program) (levels : ℕ) → All IsOpen part.root → is_headed part levels ≡ true → 50000 < points_of part.root
unfolding is_headed
headed-many part levels all has =
    let left = ltb-true 50000 (points_of (drop levels part.root)) has in
    omega (arith, left, points-drop levels part.root all)
