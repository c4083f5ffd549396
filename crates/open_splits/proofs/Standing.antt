-- Areas that stand in open splits.
use Rattle.std.proofs.Common.{◌≡◌, ◌∙◌, ℕ, ◌+◌, ◌<◌, ◌≤◌, List, [], ◌∷◌, length, take, Option, None, Some, refl, sym, ap, subst, arith}
use Rattle.std.specs.Prelude.{IfSome, IsSomeAnd}
use Rattle.std.proofs.lemmas.List.{length-take, take-take}
use Rattle.row_kit.specs.declared.program.Program.{Program}
use Rattle.proof_tree.specs.Views.{KeepsViews, View}
use Rattle.log_nodes.proofs.Walking.{kept-length, keeps-on}
use Rattle.open_splits.specs.declared.splits.OpenSplit.{OpenSplit}
use Rattle.open_splits.specs.laws.Opened.{HasOpened, StandsIn}

-- what is so of that which there is
pub at-some : {X : Type 0} (P : X → Type 0) {o : Option X} {x : X} → o ≡ Some x → IfSome o P → P x
at-some {X} P is has = subst (λ (told : Option X). IfSome told P) is has

-- what is there, and so
pub at-left : {G : Type 0} (left : Option G) (P : G → Type 0) → IsSomeAnd left P → (x : G) × ((left ≡ Some x) × P x)
at-left None P none = absurd none
at-left (Some x) P is = (x, (refl, is))

-- what is so of a split where it was opened
pub opened-so : {K G : Type 0} (opened : Option (OpenSplit K G)) (P Q R T : OpenSplit K G → Type 0) → IfSome opened P → IfSome opened Q → IfSome opened R → ((split : OpenSplit K G) → P split → Q split → R split → T split) → IfSome opened T
opened-so None P Q R T one two three follows = tt
opened-so (Some split) P Q R T one two three follows = follows split one two three

-- views that keep others show the same at each of their marks
pub same-front : (views wide : List View) (mark : ℕ) → mark < length views → KeepsViews views wide → take (mark + 1) wide ≡ take (mark + 1) views
same-front views wide mark within keeps =
    let few : mark + 1 ≤ length views = omega (arith, within) in
    sym (take-take (mark + 1) (length views) wide few) ∙ ap (take (mark + 1)) keeps

-- the views up to a mark are so many
pub front-length : (views : List View) (mark : ℕ) → mark < length views → length (take (mark + 1) views) ≡ mark + 1
front-length views mark within = omega (arith, within, length-take (mark + 1) views)

-- all views keep those up to a mark
pub keeps-front : (views : List View) (mark : ℕ) → mark < length views → KeepsViews (take (mark + 1) views) views
keeps-front views mark within = ap (λ (n : ℕ). take n views) (front-length views mark within)

-- below views that go on from those up to a mark, the mark shows the same
pub front-back : (views wide : List View) (mark : ℕ) → mark < length views → KeepsViews (take (mark + 1) views) wide → take (mark + 1) wide ≡ take (mark + 1) views
front-back views wide mark within keeps = sym (ap (λ (n : ℕ). take n wide) (front-length views mark within)) ∙ keeps

-- and it is one of theirs
pub front-within : (views wide : List View) (mark : ℕ) → mark < length views → KeepsViews (take (mark + 1) views) wide → mark < length wide
front-within views wide mark within keeps = omega (arith, front-length views mark within, kept-length (take (mark + 1) views) wide keeps)

-- further below the area stands in the same splits
pub stands-further : {K G : Type 0} (begun : List View) (splits : List (OpenSplit K G)) (views wide : List View) → KeepsViews views wide → StandsIn begun splits views → StandsIn begun splits wide
stands-further begun [] views wide further stands = keeps-on begun views wide stands further
stands-further begun (split ∷ splits) views wide further stands =
    let within : split.mark < length wide = omega (arith, stands.0, kept-length views wide further) in
    (within, subst (StandsIn begun splits) (sym (same-front views wide split.mark stands.0 further)) stands.1)

-- what a split divides is what the area shows at its mark
pub opened-front : {K G : Type 0} {program : Program} {depth : ℕ} {divided new : List View} {split : OpenSplit K G} → HasOpened program depth divided new split → take (split.mark + 1) new ≡ divided
opened-front {K} {G} {program} {depth} {divided} {new} opened = ap (λ (n : ℕ). take n new) opened.mark ∙ opened.keeps

-- a split was opened
pub opened-stands : {K G : Type 0} {program : Program} {depth : ℕ} (begun : List View) (splits : List (OpenSplit K G)) (old divided new : List View) (split : OpenSplit K G) → KeepsViews old divided → HasOpened program depth divided new split → StandsIn begun splits old → StandsIn begun (split ∷ splits) new
opened-stands begun splits old divided new split keeps opened stands =
    let within : split.mark < length new = omega (arith, opened.mark, kept-length divided new opened.keeps) in
    (within, subst (StandsIn begun splits) (sym (opened-front opened)) (stands-further begun splits old divided keeps stands))

-- the area went back to what the innermost open split divides, and further down from there: the split is open no more
pub right-stands : {K G : Type 0} (begun : List View) (split : OpenSplit K G) (splits : List (OpenSplit K G)) (views wide : List View) → KeepsViews (take (split.mark + 1) views) wide → StandsIn begun (split ∷ splits) views → StandsIn begun splits wide
right-stands begun split splits views wide keeps stands = stands-further begun splits (take (split.mark + 1) views) wide keeps stands.1

-- so it did, and the split is kept open
pub turned-stands : {K G : Type 0} (begun : List View) (split turned : OpenSplit K G) (splits : List (OpenSplit K G)) (views wide : List View) → turned.mark ≡ split.mark → KeepsViews (take (split.mark + 1) views) wide → StandsIn begun (split ∷ splits) views → StandsIn begun (turned ∷ splits) wide
turned-stands begun split turned splits views wide same keeps stands = subst (λ (mark : ℕ). (mark < length wide) × StandsIn begun splits (take (mark + 1) wide)) (sym same)
    (front-within views wide split.mark stands.0 keeps, subst (StandsIn begun splits) (sym (front-back views wide split.mark stands.0 keeps)) stands.1)

-- the innermost open split is closed, and the area is where it was
pub closed-stands : {K G : Type 0} (begun : List View) (split : OpenSplit K G) (splits : List (OpenSplit K G)) (views : List View) → StandsIn begun (split ∷ splits) views → StandsIn begun splits views
closed-stands begun split splits views stands = stands-further begun splits (take (split.mark + 1) views) views (keeps-front views split.mark stands.0) stands.1
