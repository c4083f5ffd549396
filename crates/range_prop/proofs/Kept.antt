-- What a test leaves of a domain.
use Rattle.std.proofs.Common.{◌≡◌, ℕ, zero, suc, ◌+◌, ◌-◌, ◌<◌, ◌≤◌, min, max, Bool, true, false, ◌&&◌, cond, leb, List, [], ◌∷◌, length, get_or, refl, sym, ap, ◌∙◌, subst, ◌⊎◌, ⊎_elim, inl, inr, arith}
use Rattle.std.specs.List.{All, filter, range_with_len}
use Rattle.std.proofs.lemmas.Bool.{cases_lt, cases_eq, cond-true, cond-false, false≢true}
use Rattle.std.proofs.lemmas.Bool.Decides.{nat_tests}
use Rattle.std.proofs.lemmas.List.FromFn.{length-range_with_len, get_or-range_with_len}
use Rattle.std.proofs.lemmas.List.Elements.{All-filter, filter_passes, filter_agree}
use Rattle.row_kit.specs.declared.domain.Domain.{Domain}
use Rattle.row_kit.specs.Domain.{Holds, IsNormal, count_of, normal, shared}
use Rattle.row_kit.specs.Area.{is_same}
use Rattle.range_prop.specs.Cut.{kept_of}

-- the numbers of a range that pass a test
abbrev passing : (ℕ → Bool) → ℕ → ℕ → List ℕ
passing test lo n = filter test (range_with_len lo n)

-- the last number of a list, and 0 where there is none
abbrev last_of : List ℕ → ℕ
last_of xs = get_or xs (length xs - 1) 0

range_within : (lo n : ℕ) → All (λ x. (lo ≤ x) × (x < lo + n)) (range_with_len lo n)
range_within lo n k d lt =
    let short : k < n = omega (arith, length-range_with_len lo n) in
    let e = get_or-range_with_len lo n k d short in
    (omega (arith, e), omega (arith, e))

passing_within : (test : ℕ → Bool) (lo n : ℕ) → All (λ x. (lo ≤ x) × (x < lo + n)) (passing test lo n)
passing_within test lo n = All-filter test (λ x. (lo ≤ x) × (x < lo + n)) (range_with_len lo n) (range_within lo n)

-- the first that passes is at most each that passes
first_step : (test : ℕ → Bool) (lo v : ℕ) (ys : List ℕ) (b : Bool) → test lo ≡ b → lo ≤ v → test v ≡ true → (lo + 1 ≤ v → get_or ys 0 1 ≤ v) → get_or (cond b (lo ∷ ys) ys) 0 1 ≤ v
first_step test lo v ys true e h pass rest = h
first_step test lo v ys false e h pass rest =
    ⊎_elim
    (λ (same : lo ≡ v). absurd (false≢true (sym e ∙ ap test same ∙ pass)))
    (λ (apart : lo ≡ v → ⊥). rest (omega arith))
    (cases_eq lo v)

pub first_le : (test : ℕ → Bool) (n lo v : ℕ) → lo ≤ v → v < lo + n → test v ≡ true → get_or (passing test lo n) 0 1 ≤ v
first_le test zero lo v low high pass = absurd (omega arith)
first_le test (suc n) lo v low high pass =
    first_step test lo v (passing test (lo + 1) n) (test lo) refl low pass (λ h. first_le test n (lo + 1) v h (omega arith) pass)

last_cons : (x : ℕ) (ys : List ℕ) → 0 < length ys → last_of (x ∷ ys) ≡ last_of ys
last_cons x [] h = absurd (omega arith)
last_cons x (y ∷ ys) h =
    let e : suc (suc (length ys)) - 1 ≡ suc (suc (length ys) - 1) = omega arith in
    ap (λ (k : ℕ). get_or (x ∷ (y ∷ ys)) k 0) e

-- each that passes is at most the last that passes
last_step : (test : ℕ → Bool) (lo v : ℕ) (ys : List ℕ) (b : Bool) → test lo ≡ b → lo ≤ v → 1 ≤ v → test v ≡ true → All (λ x. lo + 1 ≤ x) ys → (lo + 1 ≤ v → v ≤ last_of ys) → v ≤ last_of (cond b (lo ∷ ys) ys)
last_step test lo v ys true e h some pass above rest =
    ⊎_elim
    (λ (more : 0 < length ys).
    let last = last_cons lo ys more in
    ⊎_elim
    (λ (below : lo < v). omega (arith, last, rest (omega arith)))
    (λ (at : v ≤ lo). omega (arith, last, above (length ys - 1) 0 (omega arith)))
    (cases_lt lo v))
    (λ (none : length ys ≤ 0).
    let only : last_of (lo ∷ ys) ≡ lo = ap (λ (k : ℕ). get_or (lo ∷ ys) k 0) (let zero' : length (lo ∷ ys) - 1 ≡ 0 = omega arith in zero') in
    ⊎_elim
    (λ (below : lo < v). omega (arith, rest (omega arith), past ys none))
    (λ (at : v ≤ lo). omega (arith, only))
    (cases_lt lo v))
    (cases_lt 0 (length ys))
  where
    past : (ys : List ℕ) → length ys ≤ 0 → last_of ys ≡ 0
    past [] h = refl
    past (y ∷ ys) h = absurd (omega arith)
last_step test lo v ys false e h some pass above rest =
    ⊎_elim
    (λ (same : lo ≡ v). absurd (false≢true (sym e ∙ ap test same ∙ pass)))
    (λ (apart : lo ≡ v → ⊥). rest (omega arith))
    (cases_eq lo v)

pub le_last : (test : ℕ → Bool) (n lo v : ℕ) → 1 ≤ v → lo ≤ v → v < lo + n → test v ≡ true → v ≤ last_of (passing test lo n)
le_last test zero lo v some low high pass = absurd (omega arith)
le_last test (suc n) lo v some low high pass =
    last_step test lo v (passing test (lo + 1) n) (test lo) refl low some pass (λ k d lt. (passing_within test (lo + 1) n k d lt).0) (λ h. le_last test n (lo + 1) v some h (omega arith) pass)

-- the number of values of a domain's range, and that the range ends there
abbrev width : Domain → ℕ
width d = d.hi + 1 - d.lo

in_width : (d : Domain) (v : ℕ) → d.lo ≤ v → v ≤ d.hi → v < d.lo + width d
in_width d v low high = omega arith

in_bounds : (d : Domain) (v : ℕ) → v < d.lo + width d → d.lo ≤ v → v ≤ d.hi
in_bounds d v lt low = omega arith

both_true : (a b : Bool) → a ≡ true → b ≡ true → (a && b) ≡ true
both_true a b e h = grind (arith, nat_tests)

first_true : (a b : Bool) → (a && b) ≡ true → a ≡ true
first_true true b h = refl
first_true false b h = h

-- a value that passes is kept
pub kept_holds : (test : ℕ → Bool) (d : Domain) (v : ℕ) → 1 ≤ d.lo → Holds d v → test v ≡ true → Holds (kept_of test d) v
unfolding kept_of
kept_holds test d v low h pass = record {
  at_zero = λ e. both_true d.zero (test 0) (h.at_zero e) (ap test (sym e) ∙ pass);
  above_zero = λ some.
      let range = h.above_zero some in
      let lt = in_width d v range.0 range.1 in
      (first_le test (width d) d.lo v range.0 lt pass, le_last test (width d) d.lo v (omega arith) range.0 lt pass);
}

-- nothing passes: the kept domain holds no value of 1 or more
none_kept : (xs : List ℕ) → length xs ≤ 0 → (get_or xs 0 1 ≡ 1) × (last_of xs ≡ 0)
none_kept [] h = (refl, refl)
none_kept (x ∷ xs) h = absurd (omega arith)

-- something passes: the first and the last lie in the range, and pass
some_kept : (test : ℕ → Bool) (d : Domain) → 1 ≤ d.lo → 0 < length (passing test d.lo (width d)) → (d.lo ≤ get_or (passing test d.lo (width d)) 0 1) × (last_of (passing test d.lo (width d)) ≤ d.hi) × (get_or (passing test d.lo (width d)) 0 1 ≤ last_of (passing test d.lo (width d)))
some_kept test d low some =
    let xs = passing test d.lo (width d) in
    let first = passing_within test d.lo (width d) 0 1 some in
    let lt : length xs - 1 < length xs = omega arith in
    let last = passing_within test d.lo (width d) (length xs - 1) 0 lt in
    let pass = filter_passes test (range_with_len d.lo (width d)) (length xs - 1) 0 lt in
    (first.0, in_bounds d (last_of xs) last.1 last.0, first_le test (width d) d.lo (last_of xs) last.0 last.1 pass)

-- what is kept was there
pub kept_within : (test : ℕ → Bool) (d : Domain) (v : ℕ) → 1 ≤ d.lo → Holds (kept_of test d) v → Holds d v
unfolding kept_of
kept_within test d v low h = record {
  at_zero = λ e. first_true d.zero (test 0) (h.at_zero e);
  above_zero = λ some.
      let range = h.above_zero some in
      ⊎_elim
      (λ (more : 0 < length (passing test d.lo (width d))).
      let ends = some_kept test d low more in (omega (arith, ends.0, range.0), omega (arith, ends.1, range.1)))
      (λ (none : length (passing test d.lo (width d)) ≤ 0).
      let ends = none_kept (passing test d.lo (width d)) none in absurd (omega (arith, ends.0, ends.1, range.0, range.1)))
      (cases_lt 0 (length (passing test d.lo (width d))));
}

-- what is kept of a normal domain is normal
pub kept_normal : (test : ℕ → Bool) (d : Domain) → IsNormal d → IsNormal (kept_of test d)
unfolding kept_of
kept_normal test d normal' =
    ⊎_elim
    (λ (more : 0 < length (passing test d.lo (width d))).
    let ends = some_kept test d normal'.positive more in
    record { positive = omega (arith, ends.0, normal'.positive); byte = omega (arith, ends.1, normal'.byte); bare = λ less. absurd (omega (arith, ends.2, less)) })
    (λ (none : length (passing test d.lo (width d)) ≤ 0).
    let ends = none_kept (passing test d.lo (width d)) none in
    record { positive = omega (arith, ends.0); byte = omega (arith, ends.1); bare = λ less. (ends.0, ends.1) })
    (cases_lt 0 (length (passing test d.lo (width d))))

same_range : (a b m n : ℕ) → m ≡ n → (0 < n → a ≡ b) → range_with_len a m ≡ range_with_len b n
same_range a b m zero e h = ap (range_with_len a) e
same_range a b m (suc n) e h = ap (range_with_len a) e ∙ ap (λ (x : ℕ). range_with_len x (suc n)) (h (omega arith))

pub passing_range : (test : ℕ → Bool) (a b n lo : ℕ) → ((v : ℕ) → lo ≤ v → v < lo + n → test v ≡ (leb a v && leb v b)) → passing test lo n ≡ range_with_len (max lo a) (min (b + 1) (lo + n) - max lo a)
passing_range test a b zero lo agree = same_range (max lo a) (max lo a) 0 (min (b + 1) (lo + 0) - max lo a) (omega arith) (λ h. refl)
passing_range test a b (suc n) lo agree =
    let rest = passing_range test a b n (lo + 1) (λ v low high. agree v (omega arith) (omega arith)) in
    step (test lo) (agree lo (omega arith) (omega arith)) (passing test (lo + 1) n) rest
  where
    step : (t : Bool) → t ≡ (leb a lo && leb lo b) → (ys : List ℕ) → ys ≡ range_with_len (max (lo + 1) a) (min (b + 1) (lo + 1 + n) - max (lo + 1) a) → cond t (lo ∷ ys) ys ≡ range_with_len (max lo a) (min (b + 1) (lo + suc n) - max lo a)
    step true e ys is =
        let low : a ≤ lo = grind (arith, nat_tests) in
        let high : lo ≤ b = grind (arith, nat_tests) in
        ap (λ (zs : List ℕ). lo ∷ zs) (is ∙ same_range (max (lo + 1) a) (lo + 1) (min (b + 1) (lo + 1 + n) - max (lo + 1) a) (min (b + 1) (lo + 1 + n) - (lo + 1)) (omega arith) (λ h. omega arith))
        ∙ same_range lo (max lo a) (suc (min (b + 1) (lo + 1 + n) - (lo + 1))) (min (b + 1) (lo + suc n) - max lo a) (omega arith) (λ h. omega arith)
    step false e ys is =
        let out : (lo < a) ⊎ (b < lo) = outside a b lo e in
        is ∙ same_range (max (lo + 1) a) (max lo a) (min (b + 1) (lo + 1 + n) - max (lo + 1) a) (min (b + 1) (lo + suc n) - max lo a)
        (⊎_elim (λ (h : lo < a). omega arith) (λ (h : b < lo). omega arith) out)
        (λ some. ⊎_elim (λ (h : lo < a). omega arith) (λ (h : b < lo). absurd (omega arith)) out)
      where
        outside : (a b lo : ℕ) → false ≡ (leb a lo && leb lo b) → (lo < a) ⊎ (b < lo)
        outside a b lo e =
            ⊎_elim (λ (h : lo < a). inl h)
            (λ (h : a ≤ lo). ⊎_elim (λ (k : b < lo). inr k) (λ (k : lo ≤ b). absurd (grind (arith, nat_tests))) (cases_lt b lo))
            (cases_lt lo a)

abbrev domain_of : Bool → ℕ → ℕ → Domain
domain_of z l h = record { zero = z; lo = l; hi = h }

same_domain : (y z : Bool) (l m h k : ℕ) → y ≡ z → l ≡ m → h ≡ k → domain_of y l h ≡ domain_of z m k
same_domain y z l m h k e f g = cc

-- what two domains share, where they share a value of 1 or more, and where they don't
shared_some : (y z : Bool) (l h a b : ℕ) → max l a ≤ min h b → shared (domain_of y l h) (normal z a b) ≡ domain_of (y && z) (max l a) (min h b)
shared_some y z l h a b le =
    let ab : leb a b ≡ true = grind (arith, nat_tests) in
    let meet : leb (max l a) (min h b) ≡ true = grind (arith, nat_tests) in
    ap (shared (domain_of y l h)) (cond-true (leb a b) (domain_of z a b) (domain_of z 1 0) ab)
    ∙ cond-true (leb (max l a) (min h b)) (domain_of (y && z) (max l a) (min h b)) (domain_of (y && z) 1 0) meet

shared_none : (y z : Bool) (l h a b : ℕ) → 1 ≤ l → min h b < max l a → shared (domain_of y l h) (normal z a b) ≡ domain_of (y && z) 1 0
shared_none y z l h a b low lt =
    ⊎_elim
    (λ (le : a ≤ b).
    let ab : leb a b ≡ true = grind (arith, nat_tests) in
    let part : leb (max l a) (min h b) ≡ false = grind (arith, nat_tests) in
    ap (shared (domain_of y l h)) (cond-true (leb a b) (domain_of z a b) (domain_of z 1 0) ab)
    ∙ cond-false (leb (max l a) (min h b)) (domain_of (y && z) (max l a) (min h b)) (domain_of (y && z) 1 0) part)
    (λ (less : b < a).
    let ab : leb a b ≡ false = grind (arith, nat_tests) in
    let part : leb (max l 1) (min h 0) ≡ false = grind (arith, nat_tests) in
    ap (shared (domain_of y l h)) (cond-false (leb a b) (domain_of z a b) (domain_of z 1 0) ab)
    ∙ cond-false (leb (max l 1) (min h 0)) (domain_of (y && z) (max l 1) (min h 0)) (domain_of (y && z) 1 0) part)
    (≤_or_less a b)
  where
    ≤_or_less : (a b : ℕ) → (a ≤ b) ⊎ (b < a)
    ≤_or_less a b = ⊎_elim (λ (h : b < a). inr h) (λ (h : a ≤ b). inl h) (cases_lt b a)

-- a test that passes from one number to another leaves what the domain shares with those
pub kept_shared : (test : ℕ → Bool) (d : Domain) (a b : ℕ) → IsNormal d → ((v : ℕ) → d.lo ≤ v → v ≤ d.hi → test v ≡ (leb a v && leb v b)) → kept_of test d ≡ shared d (normal (test 0) a b)
unfolding kept_of
kept_shared test d a b normal' agree =
    let xs = passing test d.lo (width d) in
    let m = min (b + 1) (d.lo + width d) - max d.lo a in
    let range : xs ≡ range_with_len (max d.lo a) m = passing_range test a b (width d) d.lo (λ v low high. agree v low (in_bounds d v high low)) in
    let many : length xs ≡ m = ap length range ∙ length-range_with_len (max d.lo a) m in
    let end : d.lo + width d ≡ d.hi + 1 = ends d normal' in
    ⊎_elim
    (λ (none : min d.hi b < max d.lo a).
    let bare = none_kept xs (omega arith) in
    same_domain (d.zero && test 0) (d.zero && test 0) (get_or xs 0 1) 1 (last_of xs) 0 refl bare.0 bare.1
    ∙ sym (shared_none d.zero (test 0) d.lo d.hi a b normal'.positive none))
    (λ (some : max d.lo a ≤ min d.hi b).
    let first : get_or xs 0 1 ≡ max d.lo a = ap (λ (ys : List ℕ). get_or ys 0 1) range ∙ get_or-range_with_len (max d.lo a) m 0 1 (omega arith) ∙ omega arith in
    let last : last_of xs ≡ min d.hi b =
    ap (λ (k : ℕ). get_or xs k 0) (let e : length xs - 1 ≡ m - 1 = omega arith in e) ∙ ap (λ (ys : List ℕ). get_or ys (m - 1) 0) range ∙ get_or-range_with_len (max d.lo a) m (m - 1) 0 (omega arith) ∙ omega arith in
    same_domain (d.zero && test 0) (d.zero && test 0) (get_or xs 0 1) (max d.lo a) (last_of xs) (min d.hi b) refl first last
    ∙ sym (shared_some d.zero (test 0) d.lo d.hi a b some))
    (cases_lt (min d.hi b) (max d.lo a))
  where
    ends : (d : Domain) → IsNormal d → d.lo + width d ≡ d.hi + 1
    ends d normal' = ⊎_elim (λ (h : d.hi < d.lo). let z = normal'.bare h in omega (arith, z.0, z.1)) (λ (h : d.lo ≤ d.hi). omega arith) (cases_lt d.hi d.lo)

-- where all values pass, all are kept
pub kept_all : (test : ℕ → Bool) (d : Domain) → IsNormal d → ((v : ℕ) → Holds d v → test v ≡ true) → kept_of test d ≡ d
kept_all test d normal' all =
    let agree = λ (v : ℕ) (low : d.lo ≤ v) (high : v ≤ d.hi). all v (record { at_zero = λ e. absurd (omega (arith, normal'.positive)); above_zero = λ _. (low, high) }) ∙ sym (within d.lo d.hi v low high) in
    let zero' : (d.zero && test 0) ≡ d.zero = same_zero d.zero (test 0) (λ e. all 0 (record { at_zero = λ _. e; above_zero = λ p. absurd (omega arith) })) in
    kept_shared test d d.lo d.hi normal' agree
    ∙ ⊎_elim
    (λ (bare : d.hi < d.lo).
    shared_none d.zero (test 0) d.lo d.hi d.lo d.hi normal'.positive (omega arith)
    ∙ same_domain (d.zero && test 0) d.zero 1 d.lo 0 d.hi zero' (sym (normal'.bare bare).0) (sym (normal'.bare bare).1))
    (λ (full : d.lo ≤ d.hi).
    shared_some d.zero (test 0) d.lo d.hi d.lo d.hi (omega arith)
    ∙ same_domain (d.zero && test 0) d.zero (max d.lo d.lo) d.lo (min d.hi d.hi) d.hi zero' (omega arith) (omega arith))
    (cases_lt d.hi d.lo)
  where
    within : (a b v : ℕ) → a ≤ v → v ≤ b → (leb a v && leb v b) ≡ true
    within a b v low high = grind (arith, nat_tests)

    same_zero : (y z : Bool) → (y ≡ true → z ≡ true) → (y && z) ≡ y
    same_zero true z h = h refl
    same_zero false z h = refl

-- where a test passes from one number to another, what is kept passes
pub kept_passes : (test : ℕ → Bool) (d : Domain) (a b v : ℕ) → IsNormal d → ((v : ℕ) → d.lo ≤ v → v ≤ d.hi → test v ≡ (leb a v && leb v b)) → Holds (kept_of test d) v → test v ≡ true
kept_passes test d a b v normal' agree held =
    let e = kept_shared test d a b normal' agree in
    ⊎_elim
    (λ (zero' : v ≡ 0). ap test zero' ∙ second_true d.zero (test 0) (sym (shared-zero d.zero (test 0) d.lo d.hi a b) ∙ ap (λ (x : Domain). x.zero) (sym e) ∙ held.at_zero zero'))
    (λ (apart : v ≡ 0 → ⊥).
    let some : 0 < v = positive v apart in
    let was = (kept_within test d v normal'.positive held).above_zero some in
    let range = held.above_zero some in
    let low : (shared d (normal (test 0) a b)).lo ≤ v = subst (λ (x : Domain). x.lo ≤ v) e range.0 in
    let high : v ≤ (shared d (normal (test 0) a b)).hi = subst (λ (x : Domain). v ≤ x.hi) e range.1 in
    let between = shared_between d.zero (test 0) d.lo d.hi a b v normal'.positive some low high in
    agree v was.0 was.1 ∙ both_true (leb a v) (leb v b) (le_leb a v between.0) (le_leb v b between.1))
    (cases_eq v 0)
  where
    second_true : (y z : Bool) → (y && z) ≡ true → z ≡ true
    second_true true z h = h
    second_true false z h = absurd (false≢true h)

    positive : (v : ℕ) → (v ≡ 0 → ⊥) → 0 < v
    positive v h = omega (arith, h)

    le_leb : (m n : ℕ) → m ≤ n → leb m n ≡ true
    le_leb m n h = grind (arith, nat_tests)

    shared-zero : (y z : Bool) (l h a b : ℕ) → (shared (domain_of y l h) (normal z a b)).zero ≡ (y && z)
    shared-zero y z l h a b = grind (arith, nat_tests)

    shared_between : (y z : Bool) (l h a b v : ℕ) → 1 ≤ l → 0 < v → (shared (domain_of y l h) (normal z a b)).lo ≤ v → v ≤ (shared (domain_of y l h) (normal z a b)).hi → (a ≤ v) × (v ≤ b)
    shared_between y z l h a b v one some low high =
        ⊎_elim
        (λ (none : min h b < max l a). let e = shared_none y z l h a b one none in absurd (omega (arith, some, high, ap (λ (x : Domain). x.hi) e)))
        (λ (more : max l a ≤ min h b). let e = shared_some y z l h a b more in (omega (arith, low, ap (λ (x : Domain). x.lo) e), omega (arith, high, ap (λ (x : Domain). x.hi) e)))
        (cases_lt (min h b) (max l a))

-- two tests that agree keep the same
pub kept_same : (test other : ℕ → Bool) (d : Domain) → ((v : ℕ) → test v ≡ other v) → kept_of test d ≡ kept_of other d
unfolding kept_of
kept_same test other d agree =
    let e = filter_agree test other agree (range_with_len d.lo (width d)) in
    same_domain (d.zero && test 0) (d.zero && other 0) (get_or (passing test d.lo (width d)) 0 1) (get_or (passing other d.lo (width d)) 0 1) (last_of (passing test d.lo (width d))) (last_of (passing other d.lo (width d)))
    (ap (λ (b : Bool). d.zero && b) (agree 0)) (ap (λ (xs : List ℕ). get_or xs 0 1) e) (ap last_of e)

-- where what is kept is another domain, it holds fewer values
fewer_some : (y t : Bool) (l h m k : ℕ) → l ≤ m → m ≤ k → k ≤ h → is_same (domain_of y l h) (domain_of (y && t) m k) ≡ false → count_of (domain_of (y && t) m k) < count_of (domain_of y l h)
fewer_some true true l h m k a b c e = grind (arith, nat_tests)
fewer_some true false l h m k a b c e = grind (arith, nat_tests)
fewer_some false t l h m k a b c e = grind (arith, nat_tests)

fewer_none : (y t : Bool) (l h : ℕ) → 1 ≤ l → (h < l → (l ≡ 1) × (h ≡ 0)) → is_same (domain_of y l h) (domain_of (y && t) 1 0) ≡ false → count_of (domain_of (y && t) 1 0) < count_of (domain_of y l h)
fewer_none true true l h a bare e = grind (arith, nat_tests)
fewer_none true false l h a bare e = grind (arith, nat_tests)
fewer_none false t l h a bare e = grind (arith, nat_tests)

pub kept_fewer : (test : ℕ → Bool) (d : Domain) → IsNormal d → is_same d (kept_of test d) ≡ false → count_of (kept_of test d) < count_of d
unfolding kept_of
kept_fewer test d normal' other =
    let xs = passing test d.lo (width d) in
    ⊎_elim
    (λ (more : 0 < length xs).
    let ends = some_kept test d normal'.positive more in
    fewer_some d.zero (test 0) d.lo d.hi (get_or xs 0 1) (last_of xs) ends.0 ends.2 ends.1 other)
    (λ (none : length xs ≤ 0).
    let ends = none_kept xs none in
    let e = same_domain (d.zero && test 0) (d.zero && test 0) (get_or xs 0 1) 1 (last_of xs) 0 refl ends.0 ends.1 in
    let less = fewer_none d.zero (test 0) d.lo d.hi normal'.positive normal'.bare (ap (is_same d) (sym e) ∙ other) in
    omega (arith, less, ap count_of e))
    (cases_lt 0 (length xs))

-- where no value passes, none is kept
pub kept_none : (test : ℕ → Bool) (d : Domain) → IsNormal d → ((v : ℕ) → Holds d v → test v ≡ false) → count_of (kept_of test d) ≡ 0
kept_none test d normal' none =
    let agree = λ (v : ℕ) (low : d.lo ≤ v) (high : v ≤ d.hi). none v (record { at_zero = λ e. absurd (omega (arith, normal'.positive)); above_zero = λ _. (low, high) }) ∙ sym (never v) in
    let zero' : (d.zero && test 0) ≡ false = not_zero d.zero (test 0) (λ e. none 0 (record { at_zero = λ _. e; above_zero = λ p. absurd (omega arith) })) in
    ap count_of (kept_shared test d 1 0 normal' agree ∙ shared_none d.zero (test 0) d.lo d.hi 1 0 normal'.positive (omega (arith, normal'.positive)) ∙ same_domain (d.zero && test 0) false 1 1 0 0 zero' refl refl)
  where
    never : (v : ℕ) → (leb 1 v && leb v 0) ≡ false
    never v = grind (arith, nat_tests)

    not_zero : (y z : Bool) → (y ≡ true → z ≡ false) → (y && z) ≡ false
    not_zero true z h = h refl
    not_zero false z h = refl
