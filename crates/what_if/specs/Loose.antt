-- The cap that a proof still gives where the rows are no longer those that it was made for.
use Rattle.std.specs.Prelude.{◌≡◌, ℤ, ⊤, Bool, true, false, if◌then◌else◌, List, [], map, Option, Some, None, unwrap_or, fold}
use Rattle.std.specs.Int.{int_min}
use Rattle.row_kit.specs.declared.domain.Domain.{Domain}
use Rattle.row_kit.specs.declared.program.Program.{Program}
use Rattle.range_prop.specs.declared.row_cut.RowCut.{RowCut}
use Rattle.dual_bound.specs.declared.cert.Cert.{Cert}
use Rattle.proof_tree.specs.declared.capped.Capped.{Capped}
use Rattle.proof_tree.specs.declared.capped.Capped.TheVariants.{AtMost, NoPoint, Bad}
use Rattle.proof_tree.specs.Tree.{leaf, split, leaf_cap, split_cap}
use Rattle.proof_tree.specs.Views.{View, present}
use Rattle.plan_images.specs.Caps.{Allows}
use Rattle.row_relax.specs.declared.rows.Rows.{Rows}
use Rattle.row_relax.specs.Choices.{steps_of}
use Rattle.row_relax.specs.RowProofs.{RowTree}
use Rattle.row_relax.specs.Steps.{row_steps}
use Rattle.row_relax.specs.View.{view_of}

-- what an area shows at its own mark
abbrev pub shown : List (List Domain) → View
shown marks = present (map view_of marks)

-- the view after a cut; a cut of a row or a slot that is not there changes nothing
abbrev pub after_cut : Program → View → RowCut → View
after_cut program v cut = unwrap_or ((row_steps program).cut v cut) v

-- the view after cuts, made one after another
abbrev pub after_all : Program → View → List RowCut → View
after_all program v cuts = fold (after_cut program) v cuts

-- the certificate of scale 1 without multipliers
abbrev pub no_mults : Cert
no_mults = record { scale = 1; mults = [] }

-- a cap that is defined, else another one
abbrev pub or_else : Capped → Capped → Capped
or_else Bad other = other
or_else NoPoint other = NoPoint
or_else (AtMost n) other = AtMost n

-- what an end gives over a view: no point where some domain is empty, else its own cap where that is defined, else the cap of scale 1 without multipliers
abbrev pub loosened : Program → View → Capped → Capped
loosened program v own = if (row_steps program).empty v then NoPoint else or_else own ((row_steps program).cap v no_mults)

-- the lesser of two caps that are defined, and else the one that is
abbrev pub lesser : Capped → Capped → Capped
lesser Bad other = other
lesser NoPoint other = NoPoint
lesser (AtMost a) Bad = AtMost a
lesser (AtMost a) NoPoint = NoPoint
lesser (AtMost a) (AtMost b) = AtMost (int_min a b)

-- the cap of a certificate over a view, and that of scale 1 without multipliers where it has none
abbrev pub certified : Program → View → Cert → Capped
certified program v cert = or_else ((row_steps program).cap v cert) ((row_steps program).cap v no_mults)

-- what a split gives whose floor and two parts give this: where splits have caps of their own, the lesser of that and the cap of its certificate
abbrev pub within : Bool → Program → View → Cert → Capped → Capped
within false program v cert parts = parts
within true program v cert parts = lesser (certified program v cert) parts

-- the loose cap of a proof over a view: what its end gives after its cuts, where a split has the greatest of its floor's and of its two parts' loose caps, the parts being those of what it has not forgotten, and where splits have caps of their own no more than that of its certificate
abbrev pub loose_cap : Bool → Rows → View → RowTree → Capped
loose_cap capped rows v (leaf cuts found end) =
    loosened rows.program (after_all rows.program v cuts) (leaf_cap (steps_of rows) (after_all rows.program v cuts) end)
loose_cap capped rows v (split cuts found pick cert a b) =
    loosened rows.program (after_all rows.program v cuts)
    (within capped rows.program (after_all rows.program v cuts) cert
    (split_cap (steps_of rows) (after_all rows.program v cuts) pick cert (λ x. loose_cap capped rows x a) (λ x. loose_cap capped rows x b)))

-- a number as a cap: none says that there is no point
abbrev pub as_cap : Option ℤ → Capped
as_cap None = NoPoint
as_cap (Some n) = AtMost n

-- a number, none of which says that there is no point, is at most a cap
abbrev pub IsAtMost : Option ℤ → Capped → Type 0
IsAtMost None cap = ⊤
IsAtMost (Some n) cap = Allows cap n

-- points are judged by the program of the rows itself, where splits have no caps of their own
abbrev pub IsPlainBelow : Bool → Rows → Type 0
IsPlainBelow capped rows = capped ≡ false → rows.choices ≡ None

-- a number answers to the own cap of a proof: it is that, and where splits have caps of their own it is at most that
abbrev pub StandsForCap : Bool → Option ℤ → Capped → Type 0
StandsForCap false number own = as_cap number ≡ own
StandsForCap true number own = IsAtMost number own
