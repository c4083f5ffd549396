-- The views of an area, by its domains at each mark.
use Rattle.std.proofs.Common.{◌≡◌, ℕ, ◌-◌, ◌<◌, ◌≤◌, Bool, true, false, List, [], length, map, get_or, set, take, refl, sym, ap, ◌∙◌, subst, ⊎_elim, arith, Some}
use Rattle.std.specs.List.{All}
use Rattle.std.proofs.lemmas.Bool.{cases_lt}
use Rattle.std.proofs.lemmas.List.{get_or-map, get_or_past, length-map, take-map}
use Rattle.row_kit.specs.declared.domain.Domain.{Domain}
use Rattle.row_kit.specs.declared.program.Program.{Program}
use Rattle.row_kit.specs.Area.{present, with_domain}
use Rattle.row_kit.specs.Domain.{IsNormal}
use Rattle.row_kit.proofs.Marks.{present-with_domain, take-with_domain}
use Rattle.proof_tree.specs.Views.{KeepsViews, MovesTo, present as shown}
use Rattle.row_relax.specs.laws.Shown.{domains_of-view_of, fits_of}
use Rattle.row_relax.specs.Steps.{shown_if}
use Rattle.row_relax.specs.View.{Fits, domains_of, view_of}

at_mark : (marks : List (List Domain)) (k : ℕ) → get_or (map view_of marks) k [] ≡ view_of (get_or marks k [])
at_mark marks k =
    ⊎_elim
    (λ (in' : k < length marks). get_or-map view_of marks k [] [] in')
    (λ (past : length marks ≤ k). get_or_past (map view_of marks) k [] (omega (arith, past, length-map marks view_of)) ∙ sym (ap view_of (get_or_past marks k [] past)))
    (cases_lt k (length marks))

-- the last view is that of the present domains
pub shown-views : (marks : List (List Domain)) → shown (map view_of marks) ≡ view_of (present marks)
shown-views marks =
    let e : length (map view_of marks) - 1 ≡ length marks - 1 = omega (arith, length-map marks view_of) in
    ap (λ (k : ℕ). get_or (map view_of marks) k []) e ∙ at_mark marks (length marks - 1)

pub domains-views : (marks : List (List Domain)) → domains_of (shown (map view_of marks)) ≡ present marks
domains-views marks = ap domains_of (shown-views marks) ∙ domains_of-view_of (present marks)

-- an area that fits has a normal domain for each slot, and the other way round
pub fits_slots : (program : Program) (marks : List (List Domain)) → Fits program (shown (map view_of marks)) → length (present marks) ≡ length program.root
fits_slots program marks fit = ap length (sym (domains-views marks)) ∙ fit.slots

pub fits_normal : (program : Program) (marks : List (List Domain)) → Fits program (shown (map view_of marks)) → All IsNormal (present marks)
fits_normal program marks fit = subst (All IsNormal) (domains-views marks) fit.normal

pub fits_now : (program : Program) (marks : List (List Domain)) → length (present marks) ≡ length program.root → All IsNormal (present marks) → Fits program (shown (map view_of marks))
fits_now program marks slots normal' = subst (Fits program) (sym (shown-views marks)) (fits_of program (present marks) slots normal')

-- the views at the first marks
pub take-views : (n : ℕ) (marks new : List (List Domain)) → new ≡ take n marks → map view_of new ≡ take n (map view_of marks)
take-views n marks new e = ap (map view_of) e ∙ sym (take-map view_of n marks)

-- marks that stay have views that stay
pub keeps_views : (marks new : List (List Domain)) → take (length marks) new ≡ marks → KeepsViews (map view_of marks) (map view_of new)
keeps_views marks new e =
    ap (λ (n : ℕ). take n (map view_of new)) (length-map marks view_of)
    ∙ take-map view_of (length marks) new
    ∙ ap (map view_of) e

keeps : (marks : List (List Domain)) (slot : ℕ) (d : Domain) → KeepsViews (map view_of marks) (map view_of (with_domain marks slot d))
keeps marks slot d = keeps_views marks (with_domain marks slot d) (take-with_domain marks slot d)

-- a step that gives a slot a domain leads to its view
pub moves_there : (marks new : List (List Domain)) (slot : ℕ) (d : Domain) (there : Bool) → there ≡ true → slot < length (present marks) → new ≡ with_domain marks slot d → MovesTo (shown_if there (set (present marks) slot d)) (map view_of marks) (map view_of new) true
moves_there marks new slot d there is lt led =
    let at = ap (λ (m : List (List Domain)). shown (map view_of m)) led ∙ shown-views (with_domain marks slot d) ∙ ap view_of (present-with_domain marks slot d lt) in (
      ap (λ (t : Bool). shown_if t (set (present marks) slot d)) is ∙ ap Some (sym at),
      subst (λ (m : List (List Domain)). KeepsViews (map view_of marks) (map view_of m)) (sym led) (keeps marks slot d),
    )

-- a step that names nothing leads nowhere
pub moves_nowhere : (marks : List (List Domain)) (ds : List Domain) (there : Bool) → there ≡ false → MovesTo (shown_if there ds) (map view_of marks) (map view_of marks) false
moves_nowhere marks ds there is = (ap (λ (t : Bool). shown_if t ds) is, refl)
