-- Derivations that are looked at anew.
use Rattle.std.proofs.Common.{◌≡◌, ℕ, ◌<◌, List, [], ◌∷◌, ◌++◌, length, refl, sym, ap, ◌∙◌, subst, inl, inr, arith}
use Rattle.std.specs.List.{All}
use Rattle.std.proofs.lemmas.List.{length-set}
use Rattle.std.proofs.lemmas.List.Elements.{All-nil, All-push}
use Rattle.row_kit.specs.declared.domain.Domain.{Domain}
use Rattle.row_kit.specs.declared.row.Entry.{Entry}
use Rattle.row_kit.specs.declared.program.Program.{Program}
use Rattle.row_kit.specs.declared.row.Row.{Row}
use Rattle.row_kit.specs.Row.{IsKept, no_row, row_at}
use Rattle.range_prop.specs.Cut.{cut_domain}
use Rattle.derivations.specs.declared.derivation.Derivation.{Derivation}
use Rattle.derivations.specs.declared.derivation.Derivation.TheVariants as derivation
use Rattle.derivations.specs.Anew.{IsGrownAnew, IsNext, past}
use Rattle.derived_rows.specs.Shown.{derived_row}
use Rattle.derivations.specs.Growth.{AreShown, Growth, IsShownDerivation, after, after_all}
use Rattle.derivations.specs.Larger.{IsGrownTo, begun}
use Rattle.derivations.specs.Law.{AnewHold, ShownStand}
use Rattle.derivations.specs.laws.Growing.{HasGrownAnew}
use Rattle.derivations.proofs.Holding.{StandsIn, all-left, grown-same, stands-after}
use Rattle.derivations.proofs.OneMore.{rest-own, rest-trans, rows_of-append}

-- ---- one after another

-- derivations lead on
anew-append : (g h k : Growth) (xs ys : List Derivation) → IsGrownAnew g xs h → IsGrownAnew h ys k → IsGrownAnew g (xs ++ ys) k
anew-append g h k [] ys first then' = subst (λ (x : Growth). IsGrownAnew x ys k) first then'
anew-append g h k (x ∷ xs) ys first then' = (first.0, (first.1.0, anew-append first.0 h k xs ys first.1.1 then'))

-- before any derivation a program is itself
pub anew-none : (p : Program) (ds : List Domain) → HasGrownAnew p ds [] ds p
anew-none p ds = record { anew = refl; slots = refl; count = omega arith; root = refl; rest = rest-own p }

-- and after more it has grown by all of them
pub anew-more : (p q r : Program) (ds es fs : List Domain) (xs ys : List Derivation) → HasGrownAnew p ds xs es q → HasGrownAnew q es ys fs r → HasGrownAnew p ds (xs ++ ys) fs r
anew-more p q r ds es fs xs ys one other = record {
  anew = anew-append (begun p ds) (begun q es) (begun r fs) xs ys one.anew other.anew;
  slots = other.slots ∙ one.slots;
  count = omega (arith, one.count, other.count, rows_of-append xs ys);
  root = other.root ∙ one.root;
  rest = rest-trans p q r one.rest other.rest;
}

-- ---- what stays

-- a row that says nothing is kept by every point
no_row-kept : (point : List ℕ) → IsKept point no_row
no_row-kept point = omega arith

-- a point stands in the growth past a derivation
stands-past : (point : List ℕ) (g : Growth) (d : Derivation) → StandsIn point g → StandsIn point (past g d)
stands-past point g (derivation.Cut cut) stands = stands
stands-past point g (derivation.Row derived) stands = record {
  named = All-push (λ (row : Row). All (λ (e : Entry). e.slot < length g.domains) row.entries) g.rows no_row stands.named (All-nil (λ (e : Entry). e.slot < length g.domains));
  normal = stands.normal;
  lies = stands.lies;
  keeps = All-push (IsKept point) g.rows no_row stands.keeps (no_row-kept point);
}

stands-next : (point : List ℕ) (g h : Growth) (d : Derivation) → IsNext g d h → StandsIn point g → StandsIn point h
stands-next point g h d (inl shown) stands = subst (StandsIn point) (sym shown.1) (stands-after point g d shown.0 stands)
stands-next point g h d (inr unshown) stands = subst (StandsIn point) (sym unshown.1) (stands-past point g d stands)

stands-anew : (point : List ℕ) (g h : Growth) (ds : List Derivation) → IsGrownAnew g ds h → StandsIn point g → StandsIn point h
stands-anew point g h [] anew stands = subst (StandsIn point) (sym anew) stands
stands-anew point g h (d ∷ ds) anew stands = stands-anew point anew.0 h ds anew.1.1 (stands-next point g anew.0 d anew.1.0 stands)

-- what keeps the rows afterwards keeps those before
kept-next : (point : List ℕ) (g h : Growth) (d : Derivation) → IsNext g d h → All (IsKept point) h.rows → All (IsKept point) g.rows
kept-next point g h (derivation.Cut cut) (inl shown) kept = subst (λ (x : Growth). All (IsKept point) x.rows) shown.1 kept
kept-next point g h (derivation.Cut cut) (inr unshown) kept = subst (λ (x : Growth). All (IsKept point) x.rows) unshown.1 kept
kept-next point g h (derivation.Row derived) (inl shown) kept =
    all-left (IsKept point) g.rows (derived_row g.rows derived ∷ []) (subst (λ (x : Growth). All (IsKept point) x.rows) shown.1 kept)
kept-next point g h (derivation.Row derived) (inr unshown) kept =
    all-left (IsKept point) g.rows (no_row ∷ []) (subst (λ (x : Growth). All (IsKept point) x.rows) unshown.1 kept)

kept-anew : (point : List ℕ) (g h : Growth) (ds : List Derivation) → IsGrownAnew g ds h → All (IsKept point) h.rows → All (IsKept point) g.rows
kept-anew point g h [] anew kept = subst (λ (x : Growth). All (IsKept point) x.rows) anew kept
kept-anew point g h (d ∷ ds) anew kept = kept-next point g anew.0 d anew.1.0 (kept-anew point anew.0 h ds anew.1.1 kept)

-- there are as many domains afterwards
slots-next : (g h : Growth) (d : Derivation) → IsNext g d h → length h.domains ≡ length g.domains
slots-next g h (derivation.Cut cut) (inl shown) =
    ap (λ (x : Growth). length x.domains) shown.1 ∙ length-set g.domains cut.slot (cut_domain (row_at g.rows cut.row) cut.slot g.domains)
slots-next g h (derivation.Cut cut) (inr unshown) = ap (λ (x : Growth). length x.domains) unshown.1
slots-next g h (derivation.Row derived) (inl shown) = ap (λ (x : Growth). length x.domains) shown.1
slots-next g h (derivation.Row derived) (inr unshown) = ap (λ (x : Growth). length x.domains) unshown.1

slots-anew : (g h : Growth) (ds : List Derivation) → IsGrownAnew g ds h → length h.domains ≡ length g.domains
slots-anew g h [] anew = ap (λ (x : Growth). length x.domains) anew
slots-anew g h (d ∷ ds) anew = slots-anew anew.0 h ds anew.1.1 ∙ slots-next g anew.0 d anew.1.0

-- derivations that are looked at anew change neither the lawful points nor what they are worth
pub anew-holds : AnewHold
anew-holds program larger domains derivations same normal within with' =
    let g = begun program domains in
    grown-same program larger domains with'.growth same normal within (slots-anew g with'.growth derivations with'.anew)
    (λ point stands. stands-anew point g with'.growth derivations with'.anew stands) (λ point kept. kept-anew point g with'.growth derivations with'.anew kept) with'.grown

-- ---- where each is shown

next-shown : (g h : Growth) (d : Derivation) → IsShownDerivation g d → IsNext g d h → h ≡ after g d
next-shown g h d is (inl shown) = shown.1
next-shown g h d is (inr unshown) = absurd (unshown.0 is)

anew-after_all : (g h : Growth) (ds : List Derivation) → AreShown g ds → IsGrownAnew g ds h → h ≡ after_all g ds
anew-after_all g h [] shown anew = anew
anew-after_all g h (d ∷ ds) shown anew =
    let one = next-shown g anew.0 d shown.0 anew.1.0 in
    anew-after_all (after g d) h ds shown.1 (subst (λ (x : Growth). IsGrownAnew x ds h) one anew.1.1)

-- they lead to the program with them
pub shown-stand : ShownStand
shown-stand program larger domains derivations shown with' =
    subst (λ (g : Growth). IsGrownTo program g larger) (anew-after_all (begun program domains) with'.growth derivations shown with'.anew) with'.grown
