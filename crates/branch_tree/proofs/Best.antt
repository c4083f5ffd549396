-- The best of found points, and the caps that it closes.
use Rattle.std.proofs.Common.{◌≡◌, ◌≢◌, ℕ, ap, Bool, true, false, cond, List, [], ◌∷◌, ◌++◌, Option, Some, None, option_to_list, refl, sym, ◌∙◌, subst, arith, append-nil}
use Rattle.std.specs.Prelude.{ℤ, ◌≤ℤ◌, ◌<ℤ◌, int_lt, IfSome, MatchOption}
use Rattle.std.specs.Int.{int_max}
use Rattle.std.specs.List.{All, Contains}
use Rattle.std.specs.Option.{IsSomeAnd, option_map}
use Rattle.std.proofs.lemmas.Int.{ints, clamps}
use Rattle.std.proofs.lemmas.List.Elements.{All-contains, All-nil, All-push, All-weaker, Contains-append_left, Contains-append_right}
use Rattle.row_kit.specs.declared.found.Found.{Found}
use Rattle.row_kit.specs.declared.program.Program.{Program}
use Rattle.row_kit.specs.Point.{IsLawful, worth_of}
use Rattle.proof_tree.specs.declared.capped.Capped.{Capped}
use Rattle.proof_tree.specs.declared.capped.Capped.TheVariants.{AtMost, NoPoint, Bad}
use Rattle.proof_tree.specs.Cap.{greater}
use Rattle.branch_tree.specs.Justified.{IsAbove, IsGroup, IsReached}
use Rattle.branch_tree.specs.Searched.{IsBest, IsWorth}
use Rattle.branch_tree.specs.laws.Grounds.{IsOffered}
use Rattle.branch_tree.specs.Compared.{better_of, is_over}
use Rattle.branch_tree.specs.laws.Ends.{ClosedBy, Reaches}

-- a point that stands last among others is one of them
pub Contains-last : {X : Type 0} (xs : List X) (x : X) → Contains (xs ++ x ∷ []) x
Contains-last xs x = Contains-append_right xs (x ∷ []) x (0, omega arith, refl)

-- among no points none is the best, and one point is the best of itself
pub IsBest-itself : (best : Option Found) → IsBest best (option_to_list best)
IsBest-itself None = refl
IsBest-itself (Some b) = ((0, omega arith, refl), All-push (λ f. f.value ≤ℤ b.value) [] b (All-nil (λ f. f.value ≤ℤ b.value)) (omega (arith, ints)))

-- the better of the best and one more is the best with that one
pub IsBest-more : (best found : Option Found) (fs : List Found) → IsBest best fs → IsBest (better_of best found) (fs ++ option_to_list found)
IsBest-more None None fs is = append-nil fs ∙ is
IsBest-more None (Some f) fs is = subst (λ xs. IsBest (Some f) (xs ++ f ∷ [])) (sym is) (IsBest-itself (Some f))
IsBest-more (Some b) None fs is = subst (IsBest (Some b)) (sym (append-nil fs)) is
IsBest-more (Some b) (Some f) fs is = at (int_lt b.value f.value) refl
  where
    at : (less : Bool) → int_lt b.value f.value ≡ less → IsBest (cond less (Some f) (Some b)) (fs ++ f ∷ [])
    at true more = (Contains-last fs f, All-push (λ g. g.value ≤ℤ f.value) fs f (All-weaker (λ g. g.value ≤ℤ b.value) (λ g. g.value ≤ℤ f.value) (λ g low. let more' : b.value <ℤ f.value = grind (arith, ints) in omega (arith, ints)) fs is.1) (omega (arith, ints)))
    at false less = (Contains-append_left fs (f ∷ []) b is.0, All-push (λ g. g.value ≤ℤ b.value) fs f is.1 (grind (arith, ints)))

-- the better of two is worth as much as each
pub better-first : (one other : Option Found) → IfSome one (λ f. IsSomeAnd (better_of one other) (λ b. f.value ≤ℤ b.value))
better-first None other = tt
better-first (Some a) None = omega (arith, ints)
better-first (Some a) (Some b) = at (int_lt a.value b.value) refl
  where
    at : (less : Bool) → int_lt a.value b.value ≡ less → IsSomeAnd (cond less (Some b) (Some a)) (λ c. a.value ≤ℤ c.value)
    at true more = grind (arith, ints)
    at false less = omega (arith, ints)

pub better-second : (one other : Option Found) → IfSome other (λ f. IsSomeAnd (better_of one other) (λ b. f.value ≤ℤ b.value))
better-second one None = tt
better-second None (Some b) = omega (arith, ints)
better-second (Some a) (Some b) = at (int_lt a.value b.value) refl
  where
    at : (less : Bool) → int_lt a.value b.value ≡ less → IsSomeAnd (cond less (Some b) (Some a)) (λ c. b.value ≤ℤ c.value)
    at true more = omega (arith, ints)
    at false less = grind (arith, ints)

-- a fact of both is one of the better
pub better-keeps : (P : Found → Type 0) (one other : Option Found) → IfSome one P → IfSome other P → IfSome (better_of one other) P
better-keeps P None other first second = second
better-keeps P (Some a) None first second = first
better-keeps P (Some a) (Some b) first second = at (int_lt a.value b.value)
  where
    at : (less : Bool) → IfSome (cond less (Some b) (Some a)) P
    at true = second
    at false = first

-- what is worth as much as something that is worth as much
pub reaches-better : (cap : Capped) (one other : Option Found) → IfSome one (λ f. IsSomeAnd other (λ b. f.value ≤ℤ b.value)) → Reaches cap one → Reaches cap other
reaches-better Bad one other more is = is
reaches-better NoPoint one other more is = is
reaches-better (AtMost n) None other more is = absurd is
reaches-better (AtMost n) (Some f) None more is = absurd more
reaches-better (AtMost n) (Some f) (Some b) more is = omega (arith, ints)

-- a cap that is reached leaves nothing above
pub reached-closed : (cap : Capped) (found : Option Found) (fs : List Found) → Reaches cap found → ClosedBy cap (fs ++ option_to_list found)
reached-closed Bad found fs is = is
reached-closed NoPoint found fs is = is
reached-closed (AtMost n) None fs is = absurd is
reached-closed (AtMost n) (Some f) fs is = (f, Contains-last fs f, is)

-- a cap that leaves nothing above some points leaves nothing above these and others
pub ClosedBy-left : (cap : Capped) (fs gs : List Found) → ClosedBy cap fs → ClosedBy cap (fs ++ gs)
ClosedBy-left Bad fs gs is = is
ClosedBy-left NoPoint fs gs is = is
ClosedBy-left (AtMost n) fs gs is = (is.0, Contains-append_left fs gs is.0 is.1, is.2)

-- so does the greater of two
pub ClosedBy-greater : (one other : Capped) (fs : List Found) → ClosedBy one fs → ClosedBy other fs → ClosedBy (greater one other) fs
ClosedBy-greater Bad other fs first second = absurd first
ClosedBy-greater NoPoint other fs first second = second
ClosedBy-greater (AtMost m) Bad fs first second = absurd second
ClosedBy-greater (AtMost m) NoPoint fs first second = first
ClosedBy-greater (AtMost m) (AtMost n) fs first second = at (int_lt m n) refl
  where
    at : (less : Bool) → int_lt m n ≡ less → ClosedBy (greater (AtMost m) (AtMost n)) fs
    at true more = (second.0, second.1, grind (arith, ints, clamps, second.2))
    at false less = (first.0, first.1, grind (arith, ints, clamps, first.2))

-- in a row of three it is all the same which two come first
pub greater_assoc : (one two three : Capped) → greater one (greater two three) ≡ greater (greater one two) three
greater_assoc Bad two three = refl
greater_assoc NoPoint two three = refl
greater_assoc (AtMost m) Bad three = refl
greater_assoc (AtMost m) NoPoint three = refl
greater_assoc (AtMost m) (AtMost n) Bad = refl
greater_assoc (AtMost m) (AtMost n) NoPoint = refl
greater_assoc (AtMost m) (AtMost n) (AtMost k) = ap AtMost (max_three m n k)
  where
    max_three : (m n k : ℤ) → int_max m (int_max n k) ≡ int_max (int_max m n) k
    max_three m n k = grind (arith, ints, clamps)

-- what a cap is over: it leaves nothing above the best, or it is above each
pub not_over-closed : (cap : Capped) (best : Option Found) (fs : List Found) → IsBest best fs → is_over cap (option_map (λ f. f.value) best) ≡ false → ClosedBy cap fs
not_over-closed Bad best fs is over = cc
not_over-closed NoPoint best fs is over = tt
not_over-closed (AtMost n) None fs is over = cc
not_over-closed (AtMost n) (Some b) fs is over = (b, is.0, grind (arith, ints))

pub over-above : (cap : Capped) (best : Option Found) (fs : List Found) → cap ≢ Bad → IsBest best fs → is_over cap (option_map (λ f. f.value) best) ≡ true → IsAbove cap fs
over-above Bad best fs some is over = absurd (some refl)
over-above NoPoint best fs some is over = cc
over-above (AtMost n) None fs some is over = subst (All (λ f. f.value <ℤ n)) (sym is) (All-nil (λ f. f.value <ℤ n))
over-above (AtMost n) (Some b) fs some is over =
    let more : b.value <ℤ n = grind (arith, ints) in
    All-weaker (λ f. f.value ≤ℤ b.value) (λ f. f.value <ℤ n) (λ f low. omega (arith, ints, more)) fs is.1

-- a closed cap is not over the best
pub closed-not_over : (cap : Capped) (best : Option Found) (fs : List Found) → IsBest best fs → ClosedBy cap fs → is_over cap (option_map (λ f. f.value) best) ≡ false
closed-not_over Bad best fs is closed = absurd closed
closed-not_over NoPoint best fs is closed = refl
closed-not_over (AtMost n) None fs is closed = absurd (none fs closed.0 is closed.1)
  where
    none : (xs : List Found) (x : Found) → xs ≡ [] → Contains xs x → ⊥
    none [] x same (k, less, at) = omega arith
    none (y ∷ ys) x same there = cc
closed-not_over (AtMost n) (Some b) fs is closed =
    let low : closed.0.value ≤ℤ b.value = All-contains (λ f. f.value ≤ℤ b.value) fs closed.0 is.1 closed.1 in
    let at_most : n ≤ℤ closed.0.value = closed.2 in
    grind (arith, ints)

-- a point of one's own is among three of which the best is taken
pub own-third : (own other last : Option Found) → IfSome own (λ f. IsSomeAnd (better_of (better_of own other) last) (λ b. f.value ≤ℤ b.value))
own-third None other last = tt
own-third (Some f) other last = at (better_of (Some f) other) (better-first (Some f) other)
  where
    at : (mid : Option Found) → IsSomeAnd mid (λ b. f.value ≤ℤ b.value) → IsSomeAnd (better_of mid last) (λ b. f.value ≤ℤ b.value)
    at None low = absurd low
    at (Some g) low = over (better_of (Some g) last) (better-first (Some g) last)
      where
        over : (best : Option Found) → IsSomeAnd best (λ b. g.value ≤ℤ b.value) → IsSomeAnd best (λ b. f.value ≤ℤ b.value)
        over None more = absurd more
        over (Some b) more = omega (arith, ints, low, more)

-- a point that is worth as much as one's own is found, and the best is worth as much
pub own-best : (own found best : Option Found) → IfSome own (λ f. IsSomeAnd found (λ g. f.value ≤ℤ g.value)) → IfSome own (λ f. IsSomeAnd (better_of best found) (λ b. f.value ≤ℤ b.value))
own-best None found best more = tt
own-best (Some f) None best more = absurd more
own-best (Some f) (Some g) best more = over (better_of best (Some g)) (better-second best (Some g))
  where
    over : (top : Option Found) → IsSomeAnd top (λ b. g.value ≤ℤ b.value) → IsSomeAnd top (λ b. f.value ≤ℤ b.value)
    over None low = absurd low
    over (Some b) low = omega (arith, ints, low, more)

-- what is closed or above by the best of some points is so by the best of others that have the same best
pub closed-same : (cap : Capped) (best : Option Found) (fs gs : List Found) → IsBest best fs → IsBest best gs → ClosedBy cap fs → ClosedBy cap gs
closed-same cap best fs gs is other closed = not_over-closed cap best gs other (closed-not_over cap best fs is closed)

-- so is a floor reached
pub reached-same : (floor : Option ℤ) (best : Option Found) (fs gs : List Found) → IsBest best fs → IsBest best gs → IsReached floor fs → IsReached floor gs
reached-same None best fs gs is other reached = tt
reached-same (Some floor) best fs gs is other reached = closed-same (AtMost floor) best fs gs is other reached

pub above-same : (cap : Capped) (best : Option Found) (fs gs : List Found) → IsBest best fs → IsBest best gs → IsAbove cap fs → IsAbove cap gs
above-same Bad best fs gs is other above = above
above-same NoPoint best fs gs is other above = above
above-same (AtMost n) None fs gs is other above = subst (All (λ f. f.value <ℤ n)) (sym other) (All-nil (λ f. f.value <ℤ n))
above-same (AtMost n) (Some b) fs gs is other above =
    let more : b.value <ℤ n = All-contains (λ f. f.value <ℤ n) fs b above is.0 in
    All-weaker (λ f. f.value ≤ℤ b.value) (λ f. f.value <ℤ n) (λ f low. omega (arith, ints, more)) gs other.1

-- ---- the start of a search

-- a point that was tested is worth what its found point is
tested-worth : (program : Program) (point : List ℕ) (found best : Option Found) → MatchOption found (¬ IsLawful program point) (λ f. IsGroup program f × (f.point ≡ point))
    → IfSome found (λ f. IsSomeAnd best (λ b. f.value ≤ℤ b.value)) → IsWorth program point best
tested-worth program point None best is low lawful = absurd (is lawful)
tested-worth program point (Some f) None is low lawful = low
tested-worth program point (Some f) (Some b) is low lawful = subst (λ z. z ≤ℤ b.value) (is.0.worth ∙ ap (worth_of program) is.1) low

-- and its found point is lawful
tested-group : (program : Program) (point : List ℕ) (found : Option Found) → MatchOption found (¬ IsLawful program point) (λ f. IsGroup program f × (f.point ≡ point)) → IfSome found (IsGroup program)
tested-group program point None is = tt
tested-group program point (Some f) is = is.0

-- so the better of two points is one to be offered
pub offered : (program : Program) (least start : List ℕ) (given own best : Option Found) → best ≡ better_of given own
    → MatchOption given (¬ IsLawful program start) (λ f. IsGroup program f × (f.point ≡ start)) → MatchOption own (¬ IsLawful program least) (λ f. IsGroup program f × (f.point ≡ least))
    → IsOffered program least start best
offered program least start given own best is first second = subst (IsOffered program least start) (sym is) (record {
  group = better-keeps (IsGroup program) given own (tested-group program start given first) (tested-group program least own second);
  least = tested-worth program least own (better_of given own) second (better-second given own);
  given = tested-worth program start given (better_of given own) first (better-first given own);
})
