-- What a split forgets by its floor, and what it leaves to its parts.
use Rattle.std.proofs.Common.{◌≡◌, ℕ, suc, ◌+◌, ◌≤◌, Bool, true, false, cond, List, [], ◌∷◌, length, Option, Some, None, ℤ, refl, sym, subst, arith}
use Rattle.std.specs.Prelude.{IfSome}
use Rattle.std.specs.List.{All, sum_by}
use Rattle.std.proofs.lemmas.List.Sums.{sum_by-cons}
use Rattle.row_kit.specs.declared.domain.Domain.{Domain}
use Rattle.row_kit.specs.declared.found.Found.{Found}
use Rattle.row_kit.specs.declared.program.Program.{Program}
use Rattle.row_kit.specs.Domain.{IsNormal}
use Rattle.range_prop.specs.Cuts.{HaveRoom}
use Rattle.dual_bound.specs.declared.cert.Cert.{Cert}
use Rattle.dual_bound.specs.Total.{has_total}
use Rattle.dual_bound.specs.Trimmed.{each_passing, may_exceed, passing, trimmed}
use Rattle.dual_bound.proofs.Floors.{trimmed_length, trimmed_normal}
use Rattle.dual_bound.proofs.Passing.{passing_normal, passing_within}
use Rattle.proof_tree.specs.Cap.{floor_cap}
use Rattle.proof_tree.specs.Views.{View}
use Rattle.row_relax.specs.declared.pick.RowPick.{RowPick}
use Rattle.row_relax.specs.Steps.{floor_by, row_steps, view_by}
use Rattle.row_relax.specs.View.{Fits, domains_of, points_in}
use Rattle.row_relax.specs.laws.Laws.{rows_sound}
use Rattle.row_relax.specs.laws.Shown.{domains_of-view_of}
use Rattle.row_relax.proofs.PointCounts.{points-trim}
use Rattle.branch_tree.specs.Justified.{HasCause, IsParted, IsReached, left_by}
use Rattle.branch_tree.specs.Splits.{splits_of}
use Rattle.branch_tree.specs.laws.Ends.{ClosedBy, view_splits}
use Rattle.branch_tree.specs.laws.Grounds.{slot_alone}
use Rattle.branch_tree.proofs.Depths.{splits_le}

-- the domains that a split leaves
pub trim_domains : (program : Program) (v : View) (pick : RowPick) (cert : Cert) → domains_of ((row_steps program).trim v pick cert) ≡ left_by program (domains_of v) cert pick.floor
unfolding row_steps
trim_domains program v pick cert = by_floor pick.floor
  where
    by_floor : (floor : Option ℤ) → domains_of (view_by program v cert floor) ≡ left_by program (domains_of v) cert floor
    by_floor None = refl
    by_floor (Some floor) = domains_of-view_of (trimmed program (domains_of v) cert floor)

-- they are as many, and normal
pub left_length : (program : Program) (ds : List Domain) (cert : Cert) (floor : Option ℤ) → length (left_by program ds cert floor) ≡ length ds
left_length program ds cert None = refl
left_length program ds cert (Some floor) = trimmed_length program ds cert floor

pub left_normal : (program : Program) (ds : List Domain) (cert : Cert) (floor : Option ℤ) → All IsNormal ds → All IsNormal (left_by program ds cert floor)
left_normal program ds cert None n = n
left_normal program ds cert (Some floor) n = trimmed_normal program ds cert floor n

-- tests add no splits
splits-passing : (test : ℕ → ℕ → Bool) (i : ℕ) (ds : List Domain) → All IsNormal ds → sum_by splits_of (each_passing test i ds) ≤ sum_by splits_of ds
splits-passing test i [] n = omega arith
splits-passing test i (d ∷ ds) n =
    let first : IsNormal d = n 0 d (omega arith) in
    let one = splits_le (passing (test i) d) d (passing_normal (test i) d first) (λ v held. passing_within (test i) d v first.positive held) in
    let later = splits-passing test (i + 1) ds (λ k x lt. n (suc k) x (omega arith)) in
    omega (arith, sum_by-cons splits_of (passing (test i) d) (each_passing test (i + 1) ds), sum_by-cons splits_of d ds, one, later)

-- and neither does a floor
splits-trimmed : (program : Program) (ds : List Domain) (cert : Cert) (floor : ℤ) → All IsNormal ds → sum_by splits_of (trimmed program ds cert floor) ≤ sum_by splits_of ds
unfolding trimmed
splits-trimmed program ds cert floor n = step (has_total program ds cert)
  where
    step : (b : Bool) → sum_by splits_of (cond b (each_passing (may_exceed program ds cert floor) 0 ds) ds) ≤ sum_by splits_of ds
    step true = splits-passing (may_exceed program ds cert floor) 0 ds n
    step false = omega arith

splits-left_by : (program : Program) (ds : List Domain) (cert : Cert) (floor : Option ℤ) → All IsNormal ds → sum_by splits_of (left_by program ds cert floor) ≤ sum_by splits_of ds
splits-left_by program ds cert None n = omega arith
splits-left_by program ds cert (Some floor) n = splits-trimmed program ds cert floor n

-- what a split leaves to its parts: a view that fits, with no more points and no more splits
pub record IsLeftTo (program : Program) (v t : View) : Type 0 where
  pub fits : Fits program t
  pub points : points_in t ≤ points_in v
  pub splits : view_splits t ≤ view_splits v

pub left_to : (program : Program) (v : View) (pick : RowPick) (cert : Cert) → Fits program v → IsLeftTo program v ((row_steps program).trim v pick cert)
left_to program v pick cert fit = record {
  fits = (rows_sound program).trim_fits v pick cert fit;
  points = points-trim program v pick cert fit;
  splits = subst (λ (ds : List Domain). sum_by splits_of ds ≤ view_splits v) (sym (trim_domains program v pick cert)) (splits-left_by program (domains_of v) cert pick.floor fit.normal);
}

-- it may be divided there
pub parted_there : {given : ℕ} {found : List Found} (program : Program) (v : View) (pick : RowPick) (cert : Cert) → HasCause program given (domains_of v) found pick cert → IsParted given (domains_of ((row_steps program).trim v pick cert)) pick
parted_there {given} {found} program v pick cert cause = subst (λ (ds : List Domain). IsParted given ds pick) (sym (trim_domains program v pick cert)) cause.parted

-- a floor that is reached leaves nothing above the found points
pub floor_closed : (program : Program) (v : View) (pick : RowPick) (cert : Cert) (found : List Found) → IsReached pick.floor found → ClosedBy (floor_cap ((row_steps program).floor v pick cert)) found
unfolding row_steps
floor_closed program v pick cert found reached = by_floor pick.floor reached
  where
    by_floor : (floor : Option ℤ) → IsReached floor found → ClosedBy (floor_cap (floor_by program (domains_of v) cert floor)) found
    by_floor None is = tt
    by_floor (Some floor) is = by_total (has_total program (domains_of v) cert)
      where
        by_total : (b : Bool) → ClosedBy (floor_cap (cond b (Some floor) None)) found
        by_total true = is
        by_total false = tt

-- where a split has no floor, each row has room in what it leaves, as before
pub room_left : (program : Program) (v : View) (pick : RowPick) (cert : Cert) → HaveRoom program.rows (domains_of v) → IfSome (slot_alone pick.floor pick.slot) (λ slot. HaveRoom program.rows (domains_of ((row_steps program).trim v pick cert)))
unfolding row_steps
room_left program v pick cert room = by_floor pick.floor
  where
    by_floor : (floor : Option ℤ) → IfSome (slot_alone floor pick.slot) (λ slot. HaveRoom program.rows (domains_of (view_by program v cert floor)))
    by_floor None = room
    by_floor (Some floor) = tt
