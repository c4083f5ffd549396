use Rattle.std.proofs.Common.{◌≡◌, ℕ, [], ◌∷◌, ◌++◌, List, arith, length, length-append, map, sym, subst, ap, ◌∙◌, None, Option, Err}
use Rattle.stn_edge.specs.Files.{FileMap}
use Rattle.sum_lines.specs.Head.{AreTerms, last_slot, term_line}
use Rattle.sum_lines.specs.declared.halt.Halt.TheVariants as halt
use Rattle.sum_lines.specs.declared.line.HeadLine.{HeadLine}
use Rattle.sum_lines.specs.laws.Walk.{HasBadTerm, HasPassed, IsTermAbove}
use Rattle.sum_lines.proofs.TermLines.{last_slot-more, passed_more, terms_more}
use Rattle.sum_lines.proofs.terms.read_terms.Goals as goal

pub terms-preserved : goal.terms-preserved
terms-preserved g c =
    let is = c.in_ok-push-in-Ok.ensures.ok in
    let files = g.F.Shelf.files c.args.files.now in
    let name = c.args.name.now in
    let terms = c.terms.terms in
    let term = c.in-Ok.term in
    record {
      same = cc;
      readable = cc;
      writable = cc;
      no_write = cc;
      later = omega arith;
      few = omega (arith, ap length is, length-append terms (term ∷ []));
      above = sym (ap (last_slot None) is ∙ last_slot-more None terms term);
      are = subst (AreTerms c.args.slots) (sym is) (terms_more c.args.slots terms term c.terms.invariant.are (subst (λ a. IsTermAbove c.args.slots a term) c.terms.invariant.above c.in-Ok.ensures.term));
      goes = λ version lines passed. let goes = subst (λ (f : Option FileMap). (v : ℕ) (ls : List HeadLine) → HasPassed f name v ls c.terms.walk → HasPassed f name v (ls ++ term_line term ∷ []) c.next_term.new.walk) c.terms.invariant.same c.in-Ok.ensures.goes in
          subst (λ ts. HasPassed files name version (lines ++ map term_line ts) c.next_term.new.walk) (sym is) (passed_more files name version lines terms term c.next_term.new.walk (goes version (lines ++ map term_line terms) (c.terms.invariant.goes version lines passed)));
    }

pub returns-in-Err-clause-bad : goal.returns-in-Err-clause-bad
returns-in-Err-clause-bad g c defect is version lines passed =
    let files = g.F.Shelf.files c.args.files.now in
    let name = c.args.name.now in
    let own : c.in-Err.halt ≡ halt.Bad defect = cc in
    let at = lines ++ map term_line c.terms.terms in
    let there = subst (λ (f : Option FileMap). HasPassed f name version at c.terms.walk) (sym c.terms.invariant.same) (c.terms.invariant.goes version lines passed) in
    let bad = c.in-Err.ensures.bad defect (ap Err own) version at there in
    let here = subst (λ (f : Option FileMap). HasBadTerm f name version c.args.slots c.terms.above at defect) c.terms.invariant.same bad in
    record {
      terms = c.terms.terms;
      are = c.terms.invariant.are;
      fewer = omega arith;
      bad = subst (λ a. HasBadTerm files name version c.args.slots a at defect) c.terms.invariant.above here;
    }
