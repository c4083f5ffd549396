-- Which ends of a proof are open, and which of them may be searched on.
use Rattle.std.specs.Prelude.{ℕ, ℤ, ◌%◌, ◌==◌, Bool, true, false, int_lt, Option, Some, None}
use Rattle.proof_tree.specs.declared.capped.Capped.{Capped}
use Rattle.proof_tree.specs.declared.capped.Capped.TheVariants.{AtMost, NoPoint, Bad}
use Rattle.proof_tree.specs.Relaxation.{Steps}
use Rattle.proof_tree.specs.Tree.{Leaf, no_point, dual, one_point, pending}
use Rattle.proof_tree.specs.Views.{View}
use Rattle.log_nodes.specs.declared.pair.Share.{Share}

-- a cap leaves its end open: it is a number above a profit; any number, where there is no profit
abbrev pub leaves_open : Option ℤ → Capped → Bool
leaves_open profit NoPoint = false
leaves_open profit Bad = false
leaves_open None (AtMost cap) = true
leaves_open (Some profit) (AtMost cap) = int_lt profit cap

-- an end is open over a view: it has a certificate, whose cap leaves it open
abbrev pub is_open : {U C P : Type 0} → Steps U C P → Option ℤ → View → Leaf C → Bool
is_open s profit v no_point = false
is_open s profit v one_point = false
is_open s profit v (dual cert) = leaves_open profit (s.cap v cert)
is_open s profit v (pending cert) = leaves_open profit (s.cap v cert)

-- the numbers of a share: those that leave its rest; all, where there are no shares
abbrev pub in_share : Option Share → ℕ → Bool
in_share None n = true
in_share (Some share) n = n % share.shares == share.rest
