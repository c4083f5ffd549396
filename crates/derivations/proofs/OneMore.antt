-- Growing by one derivation more.
use Rattle.std.proofs.Common.{◌≡◌, ℕ, ◌+◌, ◌≤◌, ◌<◌, List, [], ◌∷◌, ◌++◌, length, take, drop, get_or, refl, sym, ap, ◌∙◌, subst, add-one, arith}
use Rattle.std.proofs.Math.Seq.{drop-cons}
use Rattle.std.proofs.lemmas.List.{length-take-le, take-append-drop}
use Rattle.row_kit.specs.declared.domain.Domain.{Domain}
use Rattle.row_kit.specs.declared.program.Program.{Program}
use Rattle.derivations.specs.declared.derivation.Derivation.{Derivation}
use Rattle.derivations.specs.declared.derivation.Derivation.TheVariants as derivation
use Rattle.derivations.specs.Growth.{AreShown, Growth, IsShownDerivation, after, after_all, rows_of}
use Rattle.derivations.specs.Grown.{IsFirstUnshown}
use Rattle.derivations.specs.Larger.{begun}
use Rattle.derivations.specs.laws.Growing.{HasGrownBy, HasSameRest}

-- derivations one after another lead as far as all of them together
pub after_all-append : (g : Growth) (xs ys : List Derivation) → after_all g (xs ++ ys) ≡ after_all (after_all g xs) ys
after_all-append g [] ys = refl
after_all-append g (x ∷ xs) ys = after_all-append (after g x) xs ys

-- and are shown together
pub shown-append : (g : Growth) (xs ys : List Derivation) → AreShown g xs → AreShown (after_all g xs) ys → AreShown g (xs ++ ys)
shown-append g [] ys first then' = then'
shown-append g (x ∷ xs) ys first then' = (first.0, shown-append (after g x) xs ys first.1 then')

-- as many rows as both have
pub rows_of-append : (xs ys : List Derivation) → rows_of (xs ++ ys) ≡ rows_of xs + rows_of ys
rows_of-append [] ys = omega arith
rows_of-append (derivation.Cut cut ∷ xs) ys = rows_of-append xs ys
rows_of-append (derivation.Row row ∷ xs) ys = omega (arith, rows_of-append xs ys)

-- there are no more rows than derivations
pub rows-few : (ds : List Derivation) → rows_of ds ≤ length ds
rows-few [] = omega arith
rows-few (derivation.Cut cut ∷ ds) = omega (arith, rows-few ds)
rows-few (derivation.Row row ∷ ds) = omega (arith, rows-few ds)

-- all else stays the same
pub rest-trans : (a b c : Program) → HasSameRest a b → HasSameRest b c → HasSameRest a c
rest-trans a b c one other = record {
  profit = other.profit ∙ one.profit;
  base = other.base ∙ one.base;
  tags = other.tags ∙ one.tags;
  changes = other.changes ∙ one.changes;
}

pub rest-own : (a : Program) → HasSameRest a a
rest-own a = record { profit = refl; base = refl; tags = refl; changes = refl }

-- before any derivation a program is itself
pub grown-none : (p : Program) (ds : List Domain) → HasGrownBy p ds [] ds p
grown-none p ds = record { shown = tt; growth = refl; slots = refl; count = omega arith; root = refl; rest = rest-own p }

-- and after one more it has grown by all of them
pub grown-more : (p q r : Program) (ds es fs : List Domain) (xs ys : List Derivation) → HasGrownBy p ds xs es q → HasGrownBy q es ys fs r → HasGrownBy p ds (xs ++ ys) fs r
grown-more p q r ds es fs xs ys one other = record {
  shown = shown-append (begun p ds) xs ys one.shown (subst (λ (g : Growth). AreShown g ys) one.growth other.shown);
  growth = other.growth ∙ ap (λ (g : Growth). after_all g ys) one.growth ∙ sym (after_all-append (begun p ds) xs ys);
  slots = other.slots ∙ one.slots;
  count = omega (arith, one.count, other.count, rows_of-append xs ys);
  root = other.root ∙ one.root;
  rest = rest-trans p q r one.rest other.rest;
}

-- derivations are those before a place, the one there, and those after it
pub split-at : (ds : List Derivation) (k : ℕ) (d : Derivation) → k < length ds → ds ≡ take k ds ++ get_or ds k d ∷ drop (k + 1) ds
split-at ds k d lt = sym (take-append-drop k ds) ∙ ap (λ (xs : List Derivation). take k ds ++ xs) (drop-cons ds k d lt) ∙ ap (λ (n : ℕ). take k ds ++ get_or ds k d ∷ drop n ds) (sym (add-one k))

-- those before a place and the one there have no more rows than all
pub rows-within : (ds : List Derivation) (k : ℕ) (d : Derivation) → k < length ds → rows_of (take k ds) + rows_of (get_or ds k d ∷ []) ≤ rows_of ds
rows-within ds k d lt =
    let x = get_or ds k d in
    let rest = drop (k + 1) ds in
    let all : rows_of ds ≡ rows_of (take k ds) + rows_of (x ∷ rest) = ap rows_of (split-at ds k d lt) ∙ rows_of-append (take k ds) (x ∷ rest) in
    let one : rows_of (x ∷ rest) ≡ rows_of (x ∷ []) + rows_of rest = rows_of-append (x ∷ []) rest in
    omega arith

-- the derivation that is not shown after those before it is the first
pub first-unshown : (p q : Program) (ds es : List Domain) (all : List Derivation) (k : ℕ) (d : Derivation) → k < length all → HasGrownBy p ds (take k all) es q → d ≡ get_or all k d → ¬ IsShownDerivation (begun q es) d → IsFirstUnshown (begun p ds) all k
first-unshown p q ds es all k d lt so_far is unshown = record {
  before = take k all;
  derivation = d;
  later = drop (k + 1) all;
  listed = split-at all k d lt ∙ ap (λ (x : Derivation). take k all ++ x ∷ drop (k + 1) all) (sym is);
  shown = so_far.shown;
  unshown = subst (λ (g : Growth). ¬ IsShownDerivation g d) so_far.growth unshown;
  stands = sym (length-take-le k all (omega arith));
}
