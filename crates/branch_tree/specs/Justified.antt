-- When no box of a proof over rows was split without cause.
use Rattle.std.specs.Prelude.{◌≡◌, ℕ, ◌<◌, ◌≤◌, List, [], ◌++◌, length, Option, Some, None, option_to_list, IfSome, IsSome, ℤ, ◌≤ℤ◌, ◌<ℤ◌, ⊤}
use Rattle.std.specs.List.{All, Contains}
use Rattle.row_kit.specs.declared.domain.Domain.{Domain}
use Rattle.row_kit.specs.declared.found.Found.{Found}
use Rattle.row_kit.specs.declared.program.Program.{Program}
use Rattle.row_kit.specs.Domain.{IsOpen, domain_at, over, up_to}
use Rattle.row_kit.specs.Point.{IsLawful, worth_of}
use Rattle.range_prop.specs.declared.row_cut.RowCut.{RowCut}
use Rattle.range_prop.specs.Cuts.{IsStill}
use Rattle.dual_bound.specs.declared.cert.Cert.{Cert}
use Rattle.dual_bound.specs.Cap.{cert_cap}
use Rattle.dual_bound.specs.Total.{total_at}
use Rattle.dual_bound.specs.Trimmed.{trimmed}
use Rattle.dual_climb.specs.RowBest.{RowBest}
use Rattle.dual_bound.specs.Plain.{IsNoWorseThanPlain}
use Rattle.proof_tree.specs.declared.capped.Capped.{Capped}
use Rattle.proof_tree.specs.declared.capped.Capped.TheVariants.{AtMost}
use Rattle.proof_tree.specs.Nodes.{Node, NodeEnd, closed, parted, EachNode}
use Rattle.proof_tree.specs.Tree.{pending}
use Rattle.row_relax.specs.declared.pick.RowPick.{RowPick}
use Rattle.row_relax.specs.declared.rows.Rows.{Rows}
use Rattle.row_relax.specs.Choices.{choices_of, steps_of}
use Rattle.row_relax.specs.Steps.{kept_at}
use Rattle.row_relax.specs.View.{domains_of, view_of}
use Rattle.row_relax.specs.RowProofs.{RowTree}
use Rattle.branch_tree.specs.Splits.{PartsLess, split_value}

-- a node of it where it stands
abbrev pub RowNode : Type 0
RowNode = Node RowCut Cert RowPick Found

-- a found point is lawful, and stands with its worth
pub record IsGroup (program : Program) (found : Found) : Type 0 where
  pub lawful : IsLawful program found.point
  pub worth : found.value ≡ worth_of program found.point

-- the found points up to a node: those before it in prefix order, and its own
abbrev pub found_up_to : RowNode → List Found
found_up_to node = node.before ++ option_to_list node.found

-- a cap is a number above the worth of each of these found points
abbrev pub IsAbove : Capped → List Found → Type 0
IsAbove (AtMost cap) found = All (λ f. f.value <ℤ cap) found
IsAbove _ found = ⊥

-- a certificate of scale 1 or more, whose cap is not above that of scale 1 without multipliers; where there are no more than 50,000 rows, no change of a single factor lowers its total by the scale or more
pub record IsPolished (program : Program) (domains : List Domain) (cert : Cert) : Type 0 where
  pub scale : 1 ≤ cert.scale
  pub total : IsSome (total_at program domains cert)
  pub row_best : RowBest program domains cert
  pub no_higher : IsNoWorseThanPlain program domains cert

-- A pick splits the domain of a slot: at its split value where the slot's number is below `given`, and a later slot, which is a sum's, at any value.
-- Both parts of the domain can be split less often than it, and neither part of the box has an empty domain.
pub record IsParted (given : ℕ) (domains : List Domain) (pick : RowPick) : Type 0 where
  pub slot : pick.slot < length domains
  pub value : pick.slot < given → pick.max ≡ split_value (domain_at domains pick.slot)
  pub fewer : PartsLess (domain_at domains pick.slot) pick.max
  pub left : All IsOpen (kept_at domains pick.slot (up_to pick.max))
  pub right : All IsOpen (kept_at domains pick.slot (over pick.max))

-- the domains that a split shares out between its parts: those that its floor leaves, by the certificate; all, where it has none
abbrev pub left_by : Program → List Domain → Cert → Option ℤ → List Domain
left_by program domains cert None = domains
left_by program domains cert (Some floor) = trimmed program domains cert floor

-- a floor, where there is one, is at most the worth of one of these found points
abbrev pub IsReached : Option ℤ → List Found → Type 0
IsReached None found = ⊤
IsReached (Some floor) found = (f : Found) × Contains found f × (floor ≤ℤ f.value)

-- what a split needs, over the domains after the cuts of its node and the found points up to it
pub record HasCause (program : Program) (given : ℕ) (domains : List Domain) (found : List Found) (pick : RowPick) (cert : Cert) : Type 0 where
  -- no cut of any row at any slot shrinks a domain
  pub exhausted : All (IsStill domains) program.rows
  pub polished : IsPolished program domains cert
  -- the cap of the certificate is above the worth of each of the found points
  pub above : IsAbove (cert_cap program domains cert) found
  pub reached : IsReached pick.floor found
  -- it divides what its floor leaves
  pub parted : IsParted given (left_by program domains cert pick.floor) pick

-- a node that is left open has no cuts and no found point, and holds the certificate of its parent
pub record IsLeftOpen (node : RowNode) (cert : Cert) : Type 0 where
  pub held : node.parent ≡ Some cert
  pub cuts : node.cuts ≡ []
  pub found : node.found ≡ None

-- the end of a node is justified: a split has cause, and an open end is one that was left open
abbrev pub EndIsJustified : Program → ℕ → RowNode → NodeEnd Cert RowPick → Type 0
EndIsJustified program given node (parted pick cert) = HasCause program given (domains_of node.view) (found_up_to node) pick cert
EndIsJustified program given node (closed (pending cert)) = IsLeftOpen node cert
EndIsJustified program given node (closed end) = ⊤

-- a node is justified where its end is, and its found point is lawful and stands with its worth
pub record NodeIsJustified (rows : Rows) (given : ℕ) (node : RowNode) : Type 0 where
  pub group : IfSome node.found (IsGroup (choices_of rows))
  pub end : EndIsJustified rows.program given node node.end

-- a proof is justified where each of its nodes is, over the root; slots from the number `given` on are sums
abbrev pub IsJustified : Rows → ℕ → RowTree → Type 0
IsJustified rows given tree = EachNode (NodeIsJustified rows given) (steps_of rows) None [] (view_of rows.program.root) tree
