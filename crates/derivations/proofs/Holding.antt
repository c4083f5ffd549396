-- A program with derivations has the same lawful points, of the same worth.
use Rattle.std.proofs.Common.{◌≡◌, ℕ, ◌<◌, List, [], ◌∷◌, ◌++◌, length, refl, sym, ap, ◌∙◌, subst, arith, ℤ, pos, ◌-ℤ◌, ◌+ℤ◌}
use Rattle.std.specs.List.{All}
use Rattle.std.proofs.lemmas.List.{length-set, get_or_append_left, length-append}
use Rattle.std.proofs.lemmas.List.Elements.{All-push, All-set}
use Rattle.row_kit.specs.declared.domain.Domain.{Domain}
use Rattle.row_kit.specs.declared.program.Program.{Program}
use Rattle.row_kit.specs.declared.row.Change.{Change}
use Rattle.row_kit.specs.declared.row.Entry.{Entry}
use Rattle.row_kit.specs.declared.row.Row.{Row}
use Rattle.row_kit.specs.declared.row.Tag.{Tag}
use Rattle.row_kit.specs.Change.{changeovers}
use Rattle.row_kit.specs.Domain.{IsNormal, no_values}
use Rattle.row_kit.specs.Point.{IsLawful, LiesIn, worth_of}
use Rattle.row_kit.specs.Row.{IsKept, entries_sum, no_row, row_at}
use Rattle.range_prop.specs.Cut.{cut_domain}
use Rattle.range_prop.proofs.CutLaws.{cut_keeps, cut_normal}
use Rattle.derived_rows.specs.Shown.{derived_row}
use Rattle.derived_rows.proofs.Held.{held}
use Rattle.derivations.specs.declared.derivation.Derivation.{Derivation}
use Rattle.derivations.specs.declared.derivation.Derivation.TheVariants as derivation
use Rattle.derivations.specs.Growth.{AreShown, Growth, IsShownDerivation, after, after_all}
use Rattle.derivations.specs.Larger.{IsGrownTo, begun}
use Rattle.derivations.specs.Law.{DerivationsHold, IsSame}
use Rattle.derivations.proofs.Shares.{met-holds, met-within}

-- each entry of the rows names a slot
abbrev pub AreNamed : List Row → ℕ → Type 0
AreNamed rows slots = All (λ row. All (λ (e : Entry). e.slot < slots) row.entries) rows

-- a point stands in a growth: it lies in the domains, which are normal, and keeps the rows, which name slots
pub record StandsIn (point : List ℕ) (growth : Growth) : Type 0 where
  pub named : AreNamed growth.rows (length growth.domains)
  pub normal : All IsNormal growth.domains
  pub lies : LiesIn growth.domains point
  pub keeps : All (IsKept point) growth.rows

-- it stands in the growth after a derivation that is shown
pub stands-after : (point : List ℕ) (g : Growth) (d : Derivation) → IsShownDerivation g d → StandsIn point g → StandsIn point (after g d)
stands-after point g (derivation.Cut cut) shown stands =
    let row = row_at g.rows cut.row in
    let ds = g.domains in
    let left = cut_domain row cut.slot ds in
    let here = stands.normal cut.slot no_values shown.1 in record {
      named = subst (AreNamed g.rows) (sym (length-set ds cut.slot left)) stands.named;
      normal = All-set IsNormal ds cut.slot left (cut_normal row cut.slot ds here) stands.normal;
      lies = cut_keeps row cut.slot ds point shown.1 here (stands.named cut.row no_row shown.0) stands.lies (stands.keeps cut.row no_row shown.0);
      keeps = stands.keeps;
    }
stands-after point g (derivation.Row derived) shown stands = record {
  named = All-push (λ (row : Row). All (λ (e : Entry). e.slot < length g.domains) row.entries) g.rows (derived_row g.rows derived) stands.named shown.declared.entries.named;
  normal = stands.normal;
  lies = stands.lies;
  keeps = All-push (IsKept point) g.rows (derived_row g.rows derived) stands.keeps (held g.rows g.domains derived shown point stands.lies stands.keeps);
}

-- and after all of them
stands-after_all : (point : List ℕ) (g : Growth) (ds : List Derivation) → AreShown g ds → StandsIn point g → StandsIn point (after_all g ds)
stands-after_all point g [] shown stands = stands
stands-after_all point g (d ∷ ds) shown stands = stands-after_all point (after g d) ds shown.1 (stands-after point g d shown.0 stands)

-- what holds of each of more holds of each of fewer
pub all-left : (P : Row → Type 0) (xs ys : List Row) → All P (xs ++ ys) → All P xs
all-left P xs ys all k d h = subst P (get_or_append_left xs ys d k h) (all k d (omega (arith, length-append xs ys)))

-- a point that keeps the rows afterwards keeps those before
kept-before : (point : List ℕ) (g : Growth) (ds : List Derivation) → All (IsKept point) (after_all g ds).rows → All (IsKept point) g.rows
kept-before point g [] kept = kept
kept-before point g (derivation.Cut cut ∷ ds) kept = kept-before point (after g (derivation.Cut cut)) ds kept
kept-before point g (derivation.Row derived ∷ ds) kept =
    all-left (IsKept point) g.rows (derived_row g.rows derived ∷ []) (kept-before point (after g (derivation.Row derived)) ds kept)

-- there are as many domains afterwards
pub slots-after_all : (g : Growth) (ds : List Derivation) → length (after_all g ds).domains ≡ length g.domains
slots-after_all g [] = refl
slots-after_all g (derivation.Cut cut ∷ ds) =
    slots-after_all (after g (derivation.Cut cut)) ds ∙ length-set g.domains cut.slot (cut_domain (row_at g.rows cut.row) cut.slot g.domains)
slots-after_all g (derivation.Row derived ∷ ds) = slots-after_all (after g (derivation.Row derived)) ds

-- a program that has grown has the same lawful points, of the same worth, where these stand in the growth, and what keeps its rows keeps those before
pub grown-same : (program larger : Program) (domains : List Domain) (g : Growth) → length domains ≡ length program.root → All IsNormal domains → ((point : List ℕ) → LiesIn program.root point → LiesIn domains point)
    → length g.domains ≡ length domains → ((point : List ℕ) → StandsIn point (begun program domains) → StandsIn point g) → ((point : List ℕ) → All (IsKept point) g.rows → All (IsKept point) program.rows)
    → IsGrownTo program g larger → IsSame program larger
grown-same program larger domains g same normal within slots stay kept with' = record {
  points = λ point. (back point, there point);
  worth = worth;
}
  where
    worth : (point : List ℕ) → worth_of larger point ≡ worth_of program point
    worth point =
        ap (λ (x : List Entry). (larger.base +ℤ entries_sum x point) -ℤ pos (changeovers larger.changes larger.tags point)) with'.profit
        ∙ ap (λ (x : ℤ). (x +ℤ entries_sum program.profit point) -ℤ pos (changeovers larger.changes larger.tags point)) with'.base
        ∙ ap (λ (x : List Tag). (program.base +ℤ entries_sum program.profit point) -ℤ pos (changeovers larger.changes x point)) with'.tags
        ∙ ap (λ (x : List Change). (program.base +ℤ entries_sum program.profit point) -ℤ pos (changeovers x program.tags point)) with'.changes

    begins : (point : List ℕ) → IsLawful program point → StandsIn point (begun program domains)
    begins point lawful = record {
      named = subst (AreNamed program.rows) (sym same) (λ k d h. (program.rows_bounded k d h).entries.named);
      normal = normal;
      lies = within point lawful.lies;
      keeps = lawful.keeps;
    }

    there : (point : List ℕ) → IsLawful program point → IsLawful larger point
    there point lawful =
        let stands = stay point (begins point lawful) in record {
          lies = subst (λ (ds : List Domain). LiesIn ds point) (sym with'.root) (met-holds program.root g.domains point lawful.lies stands.lies);
          keeps = subst (All (IsKept point)) (sym with'.rows) stands.keeps;
        }

    back : (point : List ℕ) → IsLawful larger point → IsLawful program point
    back point lawful = record {
      lies = met-within program.root g.domains point (slots ∙ same) (subst (λ (ds : List Domain). LiesIn ds point) with'.root lawful.lies);
      keeps = kept point (subst (All (IsKept point)) with'.rows lawful.keeps);
    }

-- derivations change neither the lawful points nor what they are worth
pub holds : DerivationsHold
holds program larger domains derivations same normal within shown with' =
    let g = begun program domains in
    grown-same program larger domains (after_all g derivations) same normal within (slots-after_all g derivations)
    (λ point stands. stands-after_all point g derivations shown stands) (λ point kept. kept-before point g derivations kept) with'
