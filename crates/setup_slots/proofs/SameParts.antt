-- Programs of the same parts.
use Rattle.std.proofs.Common.{◌≡◌, ◌≤◌, List, length, sym, subst}
use Rattle.std.specs.Prelude.{unsigned_abs}
use Rattle.std.specs.List.{All}
use Rattle.std.proofs.Props.{props}
use mathlib.Core.HLevel.{is_prop→PathP}
use Rattle.row_kit.specs.declared.domain.Domain.{Domain}
use Rattle.row_kit.specs.declared.program.Program.{Program}
use Rattle.row_kit.specs.declared.row.Change.{Change}
use Rattle.row_kit.specs.declared.row.Entry.{Entry}
use Rattle.row_kit.specs.declared.row.Row.{Row}
use Rattle.row_kit.specs.declared.row.Tag.{Tag}
use Rattle.row_kit.specs.Bounds.{AreBounded, IsBoundedChange, IsBoundedRow, IsBoundedTag, KeepsBounds}
use Rattle.row_kit.specs.Domain.{IsNormal}

-- programs with the same parts are the same
pub same-program : (a b : Program) → a.rows ≡ b.rows → a.profit ≡ b.profit → a.base ≡ b.base → a.root ≡ b.root → a.tags ≡ b.tags → a.changes ≡ b.changes → a ≡ b
same-program a b rows profit base root tags changes = λ i. record {
  rows = rows i;
  profit = profit i;
  base = base i;
  root = root i;
  tags = tags i;
  changes = changes i;
  few_slots = is_prop→PathP (λ j. length (root j) ≤ 4096) (λ j. hlevel props) a.few_slots b.few_slots i;
  root_normal = is_prop→PathP (λ j. All IsNormal (root j)) (λ j. hlevel props) a.root_normal b.root_normal i;
  few_rows = is_prop→PathP (λ j. length (rows j) ≤ 400000) (λ j. hlevel props) a.few_rows b.few_rows i;
  rows_bounded = is_prop→PathP (λ j. All (IsBoundedRow (length (root j))) (rows j)) (λ j. hlevel props) a.rows_bounded b.rows_bounded i;
  profit_bounded = is_prop→PathP (λ j. AreBounded (length (root j)) 2000000000000000 (profit j)) (λ j. hlevel props) a.profit_bounded b.profit_bounded i;
  base_bounded = is_prop→PathP (λ j. unsigned_abs (base j) ≤ 10000000000000000000000) (λ j. hlevel props) a.base_bounded b.base_bounded i;
  one_tag = is_prop→PathP (λ j. length (tags j) ≡ length (root j)) (λ j. hlevel props) a.one_tag b.one_tag i;
  costs_bounded = is_prop→PathP (λ j. All IsBoundedChange (changes j)) (λ j. hlevel props) a.costs_bounded b.costs_bounded i;
  openings_bounded = is_prop→PathP (λ j. All IsBoundedTag (tags j)) (λ j. hlevel props) a.openings_bounded b.openings_bounded i;
}

own_bounds : (program : Program) → KeepsBounds program.rows program.profit program.base program.root program.tags program.changes
own_bounds program = record {
  few_slots = program.few_slots;
  root_normal = program.root_normal;
  few_rows = program.few_rows;
  rows_bounded = program.rows_bounded;
  profit_bounded = program.profit_bounded;
  base_bounded = program.base_bounded;
  one_tag = program.one_tag;
  costs_bounded = program.costs_bounded;
  openings_bounded = program.openings_bounded;
}

-- parts that are a program's keep its bounds
pub same-bounds : (program : Program) (rows : List Row) (profit : List Entry) (root : List Domain) (tags : List Tag) (changes : List Change) → rows ≡ program.rows → profit ≡ program.profit → root ≡ program.root → tags ≡ program.tags
    → changes ≡ program.changes → KeepsBounds rows profit program.base root tags changes
same-bounds program rows profit root tags changes same_rows same_profit same_root same_tags same_changes =
    let one = subst (λ (rs : List Row). KeepsBounds rs program.profit program.base program.root program.tags program.changes) (sym same_rows) (own_bounds program) in
    let two = subst (λ (es : List Entry). KeepsBounds rows es program.base program.root program.tags program.changes) (sym same_profit) one in
    let three = subst (λ (ds : List Domain). KeepsBounds rows profit program.base ds program.tags program.changes) (sym same_root) two in
    let four = subst (λ (ts : List Tag). KeepsBounds rows profit program.base root ts program.changes) (sym same_tags) three in
    subst (λ (cs : List Change). KeepsBounds rows profit program.base root tags cs) (sym same_changes) four
