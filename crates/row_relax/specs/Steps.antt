-- What the calls answer on a view, and the view that they lead to.
use Rattle.std.specs.Prelude.{nat_lt, Bool, ◌&&◌, if◌then◌else◌, List, length, Option, Some, None, ℤ}
use Rattle.std.specs.List.{list_any}
use Rattle.row_kit.specs.Row.{row_at}
use Rattle.row_kit.specs.declared.domain.Domain.{Domain}
use Rattle.row_kit.specs.declared.program.Program.{Program}
use Rattle.row_kit.specs.Domain.{over, up_to}
pub use Rattle.row_kit.specs.Points.{kept_at}
use Rattle.range_prop.specs.declared.row_cut.RowCut.{RowCut}
use Rattle.range_prop.specs.Cut.{cut_domains, is_bare}
use Rattle.dual_bound.specs.declared.cert.Cert.{Cert}
use Rattle.dual_bound.specs.Cap.{cert_cap}
use Rattle.dual_bound.specs.Total.{has_total}
use Rattle.dual_bound.specs.Trimmed.{trimmed}
use Rattle.proof_tree.specs.Relaxation.{Steps}
use Rattle.proof_tree.specs.Views.{View}
use Rattle.row_relax.specs.declared.pick.RowPick.{RowPick}
use Rattle.row_relax.specs.Settle.{settled}
use Rattle.row_relax.specs.View.{domains_of, view_of}

-- the view of domains, where what leads to them is there
abbrev pub shown_if : Bool → List Domain → Option View
shown_if there domains = if there then Some (view_of domains) else None

-- the floor that counts: none where the certificate has no total over the domains
abbrev pub floor_by : Program → List Domain → Cert → Option ℤ → Option ℤ
floor_by program domains cert None = None
floor_by program domains cert (Some floor) = if has_total program domains cert then Some floor else None

-- the view that a floor leaves
abbrev pub view_by : Program → View → Cert → Option ℤ → View
view_by program view cert None = view
view_by program view cert (Some floor) = view_of (trimmed program (domains_of view) cert floor)

-- the calls: a cut names a row and a slot, a pick a slot; left of a pick are the values up to its max, right of it those above; its floor, where it has one, leaves what the certificate says
unfoldable pub row_steps : Program → Steps RowCut Cert RowPick
row_steps program = record {
  cut = λ view cut. let ds = domains_of view in
      shown_if (nat_lt cut.row (length program.rows) && nat_lt cut.slot (length ds)) (cut_domains (row_at program.rows cut.row) cut.slot ds);
  left = λ view pick. let ds = domains_of view in shown_if (nat_lt pick.slot (length ds)) (kept_at ds pick.slot (up_to pick.max));
  right = λ view pick. let ds = domains_of view in shown_if (nat_lt pick.slot (length ds)) (kept_at ds pick.slot (over pick.max));
  empty = λ view. list_any is_bare (domains_of view);
  cap = λ view cert. cert_cap program (domains_of view) cert;
  settle = λ view. settled program (domains_of view);
  floor = λ view pick cert. floor_by program (domains_of view) cert pick.floor;
  trim = λ view pick cert. view_by program view cert pick.floor;
}
