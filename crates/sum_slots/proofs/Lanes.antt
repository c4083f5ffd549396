-- Slots in a lane of their own, all at one place, add nothing to what changeovers cost.
use Rattle.std.proofs.Common.{◌≡◌, ℕ, ◌+◌, Bool, true, false, not, ◌&&◌, ◌||◌, cond, eqb, ltb, List, [], ◌∷◌, ◌++◌, length, map, get_or, refl, sym, ap, ap₂, ◌∙◌, arith}
use Rattle.std.specs.List.{All, list_any, sum_by}
use Rattle.std.proofs.lemmas.Bool.{ne_eqb}
use Rattle.std.proofs.lemmas.List.Elements.{All-append, All-cons, All-head, All-nil, All-tail, All-weaker}
use Rattle.std.proofs.lemmas.List.Folds.{list_any-append, list_any_none}
use Rattle.std.proofs.lemmas.List.Sums.{sum_by-append, sum_by-cons}
use Rattle.row_kit.specs.declared.row.Change.{Change}
use Rattle.row_kit.specs.declared.row.Tag.{Tag}
use Rattle.row_kit.specs.Change.{changeovers, comes_first, costs_after, costs_of, is_after, is_between, listed_cost, opening_cost, pair_cost, started}
use Rattle.row_kit.proofs.Starts.{cond_zero}
use Rattle.sum_slots.specs.Larger.{sum_tag}

-- the starts of two parts of a point are those of the first, then those of the second
started-append : (tags more : List Tag) (point vs : List ℕ) → length point ≡ length tags → started (tags ++ more) (point ++ vs) ≡ started tags point ++ started more vs
started-append [] more [] vs same = refl
started-append [] more (v ∷ point) vs same = absurd (omega arith)
started-append (t ∷ tags) more [] vs same = absurd (omega arith)
started-append (t ∷ tags) more (v ∷ point) vs same =
    let rest = started-append tags more point vs (omega arith) in
    elim (eqb v 0) as (λ b. cond b (started (tags ++ more) (point ++ vs)) (t ∷ started (tags ++ more) (point ++ vs)) ≡ cond b (started tags point) (t ∷ started tags point) ++ started more vs) [
      | true ↦ rest
      | false ↦ ap (λ ts. t ∷ ts) rest
    ]

-- what holds of every tag holds of the starts'
pub All-started : (P : Tag → Type 0) (tags : List Tag) (point : List ℕ) → All P tags → All P (started tags point)
All-started P [] point all = All-nil P
All-started P (t ∷ tags) [] all = All-nil P
All-started P (t ∷ tags) (v ∷ point) all =
    let rest = All-started P tags point (All-tail P t tags all) in
    elim (eqb v 0) as (λ b. All P (cond b (started tags point) (t ∷ started tags point))) [
      | true ↦ rest
      | false ↦ All-cons P t (started tags point) (All-head P t tags all) rest
    ]

-- sums of what agrees on every item agree
sum_by-same : {X : Type 0} (f g : X → ℕ) (xs : List X) → All (λ x. f x ≡ g x) xs → sum_by f xs ≡ sum_by g xs
sum_by-same f g [] all = refl
sum_by-same f g (x ∷ xs) all =
    omega (arith, sum_by-cons f x xs, sum_by-cons g x xs, All-head (λ y. f y ≡ g y) x xs all, sum_by-same f g xs (All-tail (λ y. f y ≡ g y) x xs all))

sum_by-zero : {X : Type 0} (f : X → ℕ) (xs : List X) → All (λ x. f x ≡ 0) xs → sum_by f xs ≡ 0
sum_by-zero f [] all = refl
sum_by-zero f (x ∷ xs) all =
    omega (arith, sum_by-cons f x xs, All-head (λ y. f y ≡ 0) x xs all, sum_by-zero f xs (All-tail (λ y. f y ≡ 0) x xs all))

-- items that fail a test don't matter to whether some item passes it
any_without : (p : Tag → Bool) (xs ys : List Tag) → All (λ y. p y ≡ false) ys → list_any p (xs ++ ys) ≡ list_any p xs
any_without p xs ys all = list_any-append p xs ys ∙ ap (λ b. list_any p xs || b) (list_any_none p ys all) ∙ or_false (list_any p xs)
  where
    or_false : (b : Bool) → (b || false) ≡ b
    or_false true = refl
    or_false false = refl

-- a tag stands elsewhere than in a lane
abbrev pub IsElsewhere : ℕ → Tag → Type 0
IsElsewhere lane tag = tag.lane ≡ lane → ⊥

other_lane : (a b : Tag) → (b.lane ≡ a.lane → ⊥) → is_after a b ≡ false
other_lane a b apart = ap (λ t. t && ltb a.place b.place) (ne_eqb b.lane a.lane apart)

-- a pair of starts that is in no order costs nothing
no_pair : (changes : List Change) (starts : List Tag) (a b : Tag) → is_after a b ≡ false → pair_cost changes starts a b ≡ 0
no_pair changes starts a b e = ap (λ t. cond (t && not (list_any (is_between a b) starts)) (listed_cost changes a.lane a.kind b.kind) 0) e

-- a pair of starts costs the same where others that are not after the first are added
same_pair : (changes : List Change) (starts more : List Tag) (a b : Tag) → All (λ c. is_after a c ≡ false) more → pair_cost changes (starts ++ more) a b ≡ pair_cost changes starts a b
same_pair changes starts more a b all =
    let none : All (λ c. is_between a b c ≡ false) more = All-weaker (λ c. is_after a c ≡ false) (λ c. is_between a b c ≡ false) (λ c e. ap (λ t. t && ltb c.place b.place) e) more all in
    ap (λ t. cond (is_after a b && not t) (listed_cost changes a.lane a.kind b.kind) 0) (any_without (is_between a b) starts more none)

-- so do all pairs from one start
same_costs : (changes : List Change) (starts more : List Tag) (a : Tag) → All (λ c. is_after a c ≡ false) more → costs_after changes (starts ++ more) a ≡ costs_after changes starts a
same_costs changes starts more a all =
    let f = pair_cost changes (starts ++ more) a in
    let old = sum_by-same f (pair_cost changes starts a) starts (λ k d lt. same_pair changes starts more a (get_or starts k d) all) in
    let new = sum_by-zero f more (All-weaker (λ c. is_after a c ≡ false) (λ c. f c ≡ 0) (λ c e. no_pair changes (starts ++ more) a c e) more all) in
    omega (arith, sum_by-append f starts more, old, new)

no_costs : (changes : List Change) (starts more : List Tag) (a : Tag) → All (λ c. is_after a c ≡ false) (starts ++ more) → costs_after changes (starts ++ more) a ≡ 0
no_costs changes starts more a all =
    sum_by-zero (pair_cost changes (starts ++ more) a) (starts ++ more)
    (All-weaker (λ c. is_after a c ≡ false) (λ c. pair_cost changes (starts ++ more) a c ≡ 0) (λ c e. no_pair changes (starts ++ more) a c e) (starts ++ more) all)

-- a start opens its lane at the same cost where others that are not before it are added
same_opening : (starts more : List Tag) (a : Tag) → All (λ c. is_after c a ≡ false) more → opening_cost (starts ++ more) a ≡ opening_cost starts a
same_opening starts more a all = ap (λ t. cond (not t) a.opening 0) (any_without (λ c. is_after c a) starts more all)

-- the slot of a sum opens its lane at no cost
no_opening : (starts : List Tag) (lane : ℕ) (a : Tag) → a ≡ sum_tag lane → opening_cost starts a ≡ 0
no_opening starts lane a e = ap (opening_cost starts) e ∙ cond_zero (comes_first starts (sum_tag lane))

-- starts elsewhere, with starts of one lane at one place, cost what they do alone
same_starts : (changes : List Change) (lane : ℕ) (starts more : List Tag) → All (IsElsewhere lane) starts → All (λ t. t ≡ sum_tag lane) more →
    sum_by (costs_of changes (starts ++ more)) (starts ++ more) ≡ sum_by (costs_of changes starts) starts
same_starts changes lane starts more away here =
    let f = costs_of changes (starts ++ more) in
    let old = sum_by-same f (costs_of changes starts) starts (λ k d lt.
    ap₂ (λ (m n : ℕ). m + n) (same_costs changes starts more (get_or starts k d) (All-weaker (λ t. t ≡ sum_tag lane) (λ c. is_after (get_or starts k d) c ≡ false) (λ c e.
    other_lane (get_or starts k d) c (λ same. away k d lt (sym same ∙ ap (λ (t : Tag). t.lane) e))) more here))
    (same_opening starts more (get_or starts k d) (All-weaker (λ t. t ≡ sum_tag lane) (λ c. is_after c (get_or starts k d) ≡ false) (λ c e.
    other_lane c (get_or starts k d) (λ same. away k d lt (same ∙ ap (λ (t : Tag). t.lane) e))) more here))) in
    let new = sum_by-zero f more (All-weaker (λ t. t ≡ sum_tag lane) (λ t. f t ≡ 0) (λ t e.
    ap₂ (λ (m n : ℕ). m + n) (no_costs changes starts more t (All-append (λ c. is_after t c ≡ false) starts more
    (All-weaker (IsElsewhere lane) (λ c. is_after t c ≡ false) (λ c apart. other_lane t c (λ same. apart (same ∙ ap (λ (x : Tag). x.lane) e))) starts away)
    (All-weaker (λ c. c ≡ sum_tag lane) (λ c. is_after t c ≡ false) (λ c is. ap₂ is_after e is ∙ never (eqb lane lane)) more here)))
    (no_opening (starts ++ more) lane t e)) more here) in
    omega (arith, sum_by-append f starts more, old, new)
  where
    never : (t : Bool) → (t && false) ≡ false
    never true = refl
    never false = refl

-- changeovers cost the same with slots in a lane of their own after all others
pub changeovers-with_lane : {X : Type 0} (changes : List Change) (tags : List Tag) (lane : ℕ) (xs : List X) (point vs : List ℕ) → All (IsElsewhere lane) tags → length point ≡ length tags →
    changeovers changes (tags ++ map (λ x. sum_tag lane) xs) (point ++ vs) ≡ changeovers changes tags point
changeovers-with_lane {X = X} changes tags lane xs point vs away same =
    let more = map (λ x. sum_tag lane) xs in
    ap (λ starts. sum_by (costs_of changes starts) starts) (started-append tags more point vs same)
    ∙ same_starts changes lane (started tags point) (started more vs) (All-started (IsElsewhere lane) tags point away) (All-started (λ t. t ≡ sum_tag lane) more vs (all_tags xs))
  where
    all_tags : (ys : List X) → All (λ t. t ≡ sum_tag lane) (map (λ y. sum_tag lane) ys)
    all_tags [] = All-nil (λ t. t ≡ sum_tag lane)
    all_tags (y ∷ ys) = All-cons (λ t. t ≡ sum_tag lane) (sum_tag lane) (map (λ z. sum_tag lane) ys) refl (all_tags ys)
