use Rattle.std.proofs.Common.{◌≡◌, ℕ, ◌≤◌, ◌-◌, ◌++◌, List, length, map, None}
use Rattle.sum_lines.specs.declared.line.HeadLine.{HeadLine}
use Rattle.sum_lines.specs.Head.{AreTerms, last_slot, term_line}
use Rattle.sum_lines.specs.laws.Walk.{HasPassed}
use Rattle.sum_lines.proofs.terms.read_terms.Given as goal

-- the terms were read so far, and the shelf is as it was but for its count of read faults
abbrev pub invariant-terms : goal.invariant-terms
invariant-terms g l = record {
  same : g.F.Shelf.files l.files ≡ g.F.Shelf.files l.initial.files;
  readable : g.F.Shelf.may_read l.files ≡ g.F.Shelf.may_read l.initial.files;
  writable : g.F.Shelf.may_write l.files ≡ g.F.Shelf.may_write l.initial.files;
  no_write : g.F.Shelf.write_faults l.files ≡ g.F.Shelf.write_faults l.initial.files;
  later : g.F.Shelf.read_faults l.initial.files ≤ g.F.Shelf.read_faults l.files;
  few : length l.terms ≤ l.count;
  above : l.above ≡ last_slot None l.terms;
  are : AreTerms l.slots l.terms;
  goes : (version : ℕ) (lines : List HeadLine) → HasPassed (g.F.Shelf.files l.initial.files) l.name version lines l.initial.walk → HasPassed (g.F.Shelf.files l.initial.files) l.name version (lines ++ map term_line l.terms) l.walk;
}

abbrev pub decreases-terms : goal.decreases-terms
decreases-terms g l = l.count - length l.terms
