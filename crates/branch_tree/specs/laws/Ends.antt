-- How the nodes of a search end, and what its choices are. Only clauses of private functions cite it.
use Rattle.std.specs.Prelude.{◌≡◌, ◌≢◌, ℕ, ◌^◌, ◌<◌, Bool, true, false, List, length, take, Option, Some, IfSome, ℤ, ◌≤ℤ◌, int_lt, unsigned_abs, ⊤}
use Rattle.std.specs.List.{Contains, sum_by}
use Rattle.std.specs.Option.{IsSomeAnd}
use Rattle.row_kit.specs.declared.domain.Domain.{Domain}
use Rattle.row_kit.specs.declared.found.Found.{Found}
use Rattle.row_kit.specs.declared.program.Program.{Program}
use Rattle.dual_bound.specs.declared.cert.Cert.{Cert}
use Rattle.dual_bound.specs.Cap.{cert_cap}
use Rattle.proof_tree.specs.declared.capped.Capped.{Capped}
use Rattle.proof_tree.specs.declared.capped.Capped.TheVariants.{AtMost, NoPoint, Bad}
use Rattle.proof_tree.specs.declared.item.Item.TheVariants.{Empty, Dual, Point, Split}
use Rattle.proof_tree.specs.Nodes.{NodeEnd, closed, parted}
use Rattle.proof_tree.specs.Tree.{no_point, dual, one_point, pending}
use Rattle.proof_tree.specs.Views.{View}
use Rattle.row_relax.specs.declared.pick.RowPick.{RowPick}
use Rattle.row_relax.specs.declared.rows.Rows.{Rows}
use Rattle.row_relax.specs.Choices.{choices_of, steps_of}
use Rattle.row_relax.specs.Settle.{are_single}
use Rattle.row_relax.specs.Steps.{row_steps}
use Rattle.row_relax.specs.View.{Fits, domains_of}
use Rattle.branch_tree.specs.Compared.{is_over}
use Rattle.branch_tree.specs.Justified.{RowNode, IsGroup, IsPolished, IsParted, HasCause, IsLeftOpen, found_up_to, left_by}
use Rattle.row_relax.specs.RowProofs.{RowItem}
use Rattle.branch_tree.specs.Splits.{splits_of}

-- a cap that leaves nothing above these found points: one of them is worth as much, or there is no point
abbrev pub ClosedBy : Capped → List Found → Type 0
ClosedBy (AtMost cap) found = (f : Found) × Contains found f × (cap ≤ℤ f.value)
ClosedBy NoPoint found = ⊤
ClosedBy Bad found = ⊥

-- how a counted node ends, over its view after its cuts and with the found points up to it
abbrev pub EndDone : Rows → ℕ → View → List Found → NodeEnd Cert RowPick → Type 0
EndDone rows given view found (closed no_point) = (steps_of rows).empty view ≡ true
EndDone rows given view found (closed (dual cert)) = ClosedBy ((steps_of rows).cap view cert) found
EndDone rows given view found (closed one_point) = ClosedBy ((steps_of rows).settle view) found
EndDone rows given view found (closed (pending cert)) = ⊥
EndDone rows given view found (parted pick cert) = HasCause rows.program given (domains_of view) found pick cert

-- a node that is left open has points, and a cap
pub record OpenDone (program : Program) (node : RowNode) (cert : Cert) : Type 0 where
  pub left_open : IsLeftOpen node cert
  pub some : (row_steps program).empty node.view ≡ false
  pub capped : (row_steps program).cap node.view cert ≢ Bad

-- how a node ends
abbrev pub NodeEndDone : Rows → ℕ → RowNode → NodeEnd Cert RowPick → Type 0
NodeEndDone rows given node (closed (pending cert)) = OpenDone rows.program node cert
NodeEndDone rows given node (closed no_point) = EndDone rows given node.view (found_up_to node) (closed no_point)
NodeEndDone rows given node (closed (dual cert)) = EndDone rows given node.view (found_up_to node) (closed (dual cert))
NodeEndDone rows given node (closed one_point) = EndDone rows given node.view (found_up_to node) (closed one_point)
NodeEndDone rows given node (parted pick cert) = EndDone rows given node.view (found_up_to node) (parted pick cert)

-- a node of a search
pub record NodeDone (rows : Rows) (given : ℕ) (node : RowNode) : Type 0 where
  pub group : IfSome node.found (IsGroup (choices_of rows))
  pub fits : Fits rows.program node.view
  pub end : NodeEndDone rows given node node.end

-- an item ends a counted node so
abbrev pub ItemEnds : Rows → ℕ → View → List Found → RowItem → Type 0
ItemEnds rows given view found Empty = EndDone rows given view found (closed no_point)
ItemEnds rows given view found (Dual cert) = EndDone rows given view found (closed (dual cert))
ItemEnds rows given view found Point = EndDone rows given view found (closed one_point)
ItemEnds rows given view found (Split pick cert) = EndDone rows given view found (parted pick cert)
ItemEnds rows given view found _ = ⊥

-- a cap says more than another: that there is no point, or a lesser number
abbrev pub says_more : Capped → Capped → Bool
says_more NoPoint (AtMost most) = true
says_more (AtMost cap) (AtMost most) = int_lt cap most
says_more _ _ = false

-- what may be the floor of a split: the best worth, where splits may have floors and it has at most 30 digits
abbrev pub IsFloor : Bool → Option ℤ → ℤ → Type 0
IsFloor floors best floor = (floors ≡ true) × (best ≡ Some floor) × (unsigned_abs floor < 10 ^ 30)

-- each slot that points have has one value
abbrev pub is_chosen : Rows → List Domain → Bool
is_chosen rows domains = are_single (take (length (choices_of rows).root) domains)

-- what is judged of a box with points: a certificate leaves nothing above the best worth, each slot that points have has one value, or it is to be split, with no floor but what may be one
abbrev pub IsBoxVerdict : Rows → Bool → ℕ → List Domain → Option ℤ → RowItem → Type 0
IsBoxVerdict rows floors given domains best (Dual cert) = is_over (cert_cap rows.program domains cert) best ≡ false
IsBoxVerdict rows floors given domains best Point = is_chosen rows domains ≡ true
IsBoxVerdict rows floors given domains best (Split pick cert) =
    IsPolished rows.program domains cert × IsParted given (left_by rows.program domains cert pick.floor) pick × (is_over (cert_cap rows.program domains cert) best ≡ true)
    × IfSome pick.floor (IsFloor floors best)
IsBoxVerdict rows floors given domains best _ = ⊥

-- a found point is there that is worth as much as a cap says, where it says a number
abbrev pub Reaches : Capped → Option Found → Type 0
Reaches (AtMost cap) found = IsSomeAnd found (λ f. cap ≤ℤ f.value)
Reaches NoPoint found = ⊤
Reaches Bad found = ⊥

-- how many splits can stand one below another in a view
abbrev pub view_splits : View → ℕ
view_splits view = sum_by splits_of (domains_of view)
