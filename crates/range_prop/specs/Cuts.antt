-- Cuts made one after another, and when no more are to be made.
use Rattle.std.specs.Prelude.{◌≡◌, ℕ, ◌<◌, ◌⊎◌, true, false, List, [], ◌∷◌, ◌++◌, length, ◌+ℤ◌, ◌≤ℤ◌, ⊤}
use Rattle.std.specs.List.{All, Any}
use Rattle.row_kit.specs.Point.{LiesIn}
use Rattle.row_kit.specs.Row.{IsKept, entry_at, row_at}
use Rattle.row_kit.specs.declared.domain.Domain.{Domain}
use Rattle.row_kit.specs.declared.row.Row.{Row}
use Rattle.row_kit.specs.Area.{present, with_domain}
use Rattle.row_kit.specs.Domain.{domain_at, Holds, IsBare}
use Rattle.range_prop.specs.declared.row_cut.RowCut.{RowCut}
use Rattle.range_prop.specs.Cut.{cut_domain, least_others, shrinks}
use Rattle.range_prop.specs.Index.{HasEntry}

-- the marks after a cut
abbrev pub after_cut : List Row → RowCut → List (List Domain) → List (List Domain)
after_cut rows cut marks = with_domain marks cut.slot (cut_domain (row_at rows cut.row) cut.slot (present marks))

-- the marks after cuts, made one after another
abbrev pub after_cuts : List Row → List RowCut → List (List Domain) → List (List Domain)
after_cuts rows [] marks = marks
after_cuts rows (cut ∷ cuts) marks = after_cuts rows cuts (after_cut rows cut marks)

-- a cut names a row and a slot that are there, and shrinks the domain of the slot
pub record IsMade (rows : List Row) (cut : RowCut) (domains : List Domain) : Type 0 where
  pub row : cut.row < length rows
  pub slot : cut.slot < length domains
  pub less : shrinks (row_at rows cut.row) cut.slot domains ≡ true

-- each of the cuts is made after those before it
abbrev pub AreMade : List Row → List RowCut → List (List Domain) → Type 0
AreMade rows [] marks = ⊤
AreMade rows (cut ∷ cuts) marks = IsMade rows cut (present marks) × AreMade rows cuts (after_cut rows cut marks)

-- a list has grown by cuts that, made in this order, lead from the old marks to the new ones, and each shrinks a domain
pub record HasCut (rows : List Row) (old new : List (List Domain)) (before after : List RowCut) : Type 0 where
  pub made : List RowCut
  pub listed : after ≡ before ++ made
  pub led : new ≡ after_cuts rows made old
  pub each : AreMade rows made old

-- no cut of a row shrinks a domain
abbrev pub IsStill : List Domain → Row → Type 0
IsStill domains row = (slot : ℕ) → slot < length domains → shrinks row slot domains ≡ false

-- no more cuts are to be made: some domain is empty, or no cut of any row at any slot shrinks a domain
abbrev pub AreDone : List Row → List Domain → Type 0
AreDone rows domains = Any IsBare domains ⊎ All (IsStill domains) rows

-- a row has room for each value of each slot
abbrev pub HasRoom : List Domain → Row → Type 0
HasRoom domains row = (slot value : ℕ) → slot < length domains → Holds (domain_at domains slot) value
    → (entry_at row.entries slot value +ℤ least_others row.entries slot domains) ≤ℤ row.limit

-- each point of the old domains that keeps every row lies in the new ones
abbrev pub KeepPoints : List Row → List Domain → List Domain → Type 0
KeepPoints rows old new = (point : List ℕ) → LiesIn old point → All (IsKept point) rows → LiesIn new point

-- some domain is empty, or each row has room for each value of each slot
abbrev pub HaveRoom : List Row → List Domain → Type 0
HaveRoom rows domains = Any IsBare domains ⊎ All (HasRoom domains) rows

-- each row without an entry of these slots has room for each value of each slot
abbrev pub HaveRoomBut : List Row → List ℕ → List Domain → Type 0
HaveRoomBut rows slots domains =
    (number : ℕ) → number < length rows → All (λ slot. ¬ HasEntry (row_at rows number).entries slot) slots
    → HasRoom domains (row_at rows number)
