-- The starts of a point, one slot at a time, and which start comes next.
use Rattle.std.proofs.Common.{◌≡◌, ℕ, ◌+◌, ◌<◌, ◌≤◌, min, Bool, true, false, not, ◌&&◌, ◌||◌, cond, eqb, leb, ltb, List, [], ◌∷◌, length, get_or, drop, refl, ap, ◌∙◌, arith}
use Rattle.std.specs.List.{sum_by, list_any}
use Rattle.std.proofs.lemmas.List.{drop_more, drop_all}
use Rattle.std.proofs.lemmas.List.Sums.{sum_by-le}
use Rattle.std.proofs.lemmas.Bool.{cond-true, cond-false, eq-eqb, ne_eqb}
use Rattle.std.proofs.lemmas.Bool.Decides.{nat_tests}
use Rattle.row_kit.specs.declared.row.Change.{Change}
use Rattle.row_kit.specs.declared.row.Tag.{Tag}
use Rattle.row_kit.specs.Change.{started, is_after, is_between, comes_next, listed_cost, pair_cost, costs_after}
use Rattle.row_kit.specs.laws.Next.{least_after}

-- the starts from a slot on, where the slot is not started, and where it is
pub started_skip : (tags : List Tag) (point : List ℕ) (i : ℕ) → i < length tags → length point ≡ length tags → get_or point i 0 ≡ 0 → (d : Tag) → started (drop i tags) (drop i point) ≡ started (drop (i + 1) tags) (drop (i + 1) point)
started_skip tags point i lt same e d =
    let rest = started (drop (i + 1) tags) (drop (i + 1) point) in
    ap (λ (ts : List Tag). started ts (drop i point)) (drop_more tags i d lt)
    ∙ ap (started (get_or tags i d ∷ drop (i + 1) tags)) (drop_more point i 0 (omega arith))
    ∙ cond-true (eqb (get_or point i 0) 0) rest (get_or tags i d ∷ rest) (eq-eqb (get_or point i 0) 0 e)

pub started_take : (tags : List Tag) (point : List ℕ) (i : ℕ) → i < length tags → length point ≡ length tags → (get_or point i 0 ≡ 0 → ⊥) → (d : Tag) → started (drop i tags) (drop i point) ≡ get_or tags i d ∷ started (drop (i + 1) tags) (drop (i + 1) point)
started_take tags point i lt same ne d =
    let rest = started (drop (i + 1) tags) (drop (i + 1) point) in
    ap (λ (ts : List Tag). started ts (drop i point)) (drop_more tags i d lt)
    ∙ ap (started (get_or tags i d ∷ drop (i + 1) tags)) (drop_more point i 0 (omega arith))
    ∙ cond-false (eqb (get_or point i 0) 0) rest (get_or tags i d ∷ rest) (ne_eqb (get_or point i 0) 0 ne)

pub started_none : (tags : List Tag) (point : List ℕ) (i : ℕ) → length tags ≤ i → started (drop i tags) (drop i point) ≡ []
started_none tags point i h = ap (λ (ts : List Tag). started ts (drop i point)) (drop_all i tags h)

least_step : (t : Bool) (m n : ℕ) → n ≤ 4294967296 → cond t (min m n) n ≤ 4294967296
least_step true m n h = omega arith
least_step false m n h = h

pub least_after-le : (starts : List Tag) (a : Tag) → least_after starts a ≤ 4294967296
least_after-le [] a = omega arith
least_after-le (b ∷ bs) a = least_step (is_after a b) b.place (least_after bs a) (least_after-le bs a)

between_step : (t : Bool) (m n p : ℕ) (r : Bool) → r ≡ ltb n p → ((t && ltb m p) || r) ≡ ltb (cond t (min m n) n) p
between_step true m n p r e = grind (arith, nat_tests)
between_step false m n p r e = e

-- a start of the lane lies strictly between a and b where the next place is below b's
any_between : (starts : List Tag) (a b : Tag) → b.place ≤ 4294967296 → list_any (is_between a b) starts ≡ ltb (least_after starts a) b.place
any_between [] a b h = grind (arith, nat_tests)
any_between (c ∷ cs) a b h = between_step (is_after a c) c.place (least_after cs a) b.place (list_any (is_between a b) cs) (any_between cs a b h)

not_below : (m n : ℕ) → not (ltb m n) ≡ leb n m
not_below m n = grind (arith, nat_tests)

-- what a pair costs, by the next place
pub pair_cost_is : (changes : List Change) (starts : List Tag) (a b : Tag) → b.place ≤ 4294967296 → pair_cost changes starts a b ≡ cond (is_after a b && leb b.place (least_after starts a)) (listed_cost changes a.lane a.kind b.kind) 0
pair_cost_is changes starts a b h =
    ap (λ (t : Bool). cond (is_after a b && t) (listed_cost changes a.lane a.kind b.kind) 0)
    (ap not (any_between starts a b h) ∙ not_below (least_after starts a) b.place)

pub cond_zero : (t : Bool) → (let none : ℕ = cond t 0 0 in none ≡ 0)
cond_zero true = refl
cond_zero false = refl

sum_zero : (f : Tag → ℕ) → ((x : Tag) → f x ≡ 0) → (xs : List Tag) → sum_by f xs ≡ 0
sum_zero f h xs = omega (arith, sum_by-le f 0 xs (λ k d lt. omega (arith, h (get_or xs k d))))

-- where no change is listed, no changeover costs anything
pub nothing_listed : (starts : List Tag) (a : Tag) → costs_after [] starts a ≡ 0
nothing_listed starts a = sum_zero (pair_cost [] starts a) (λ (b : Tag). cond_zero (comes_next starts a b)) starts

-- a tag for a place where there is none
abbrev pub no_tag : Tag
no_tag = record { lane = 0; place = 0; kind = 0; opening = 0 }

-- the least so far and the least of the rest, one start further
pub least_moves : (t : Bool) (place next rest : ℕ) → min (cond t (min place next) next) rest ≡ min next (cond t (min place rest) rest)
least_moves true place next rest = omega arith
least_moves false place next rest = refl

pub least_small : (t : Bool) (place next : ℕ) → next ≤ 4294967296 → cond t (min place next) next ≤ 4294967296
least_small true place next h = omega arith
least_small false place next h = h
