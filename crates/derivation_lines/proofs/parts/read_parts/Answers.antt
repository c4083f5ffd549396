use Rattle.std.proofs.Common.{◌≡◌, [], ◌∷◌, ◌++◌, ℕ, List, Option, Err, ap, sym, subst, ◌∙◌, arith, append_assoc}
use Rattle.stn_edge.specs.Files.{FileMap}
use Rattle.sum_lines.specs.declared.halt.Halt.TheVariants as halt
use Rattle.derivation_lines.specs.declared.line.TailLine.{TailLine}
use Rattle.derivation_lines.specs.Front.{IsFilling, next_part}
use Rattle.derivation_lines.specs.Tail.{ArePartsKept, part_lines}
use Rattle.derivation_lines.specs.laws.Parts.{HasBadPart, HasHead, piece_line}
use Rattle.derivation_lines.specs.laws.Walk.{HasPassed}
use Rattle.derivation_lines.proofs.PartLines.{piece_filling, piece_head, piece_kept, piece_lines}
use Rattle.derivation_lines.proofs.parts.read_parts.Goals as goal

pub next_piece-requires-clause-passed : goal.next_piece-requires-clause-passed
next_piece-requires-clause-passed g c =
    let name = c.args.name.now in
    let p = c.requires.passed in
    let lines = p.2 ++ part_lines c.parts.derived in
    (p.0, p.1, lines, subst (λ (f : Option FileMap). HasPassed f name p.0 p.1 lines c.parts.walk) (sym c.parts.invariant.same) (c.parts.invariant.goes p.0 p.1 p.2 p.3))

pub parts-preserved : goal.parts-preserved
parts-preserved g c =
    let i = c.parts.invariant in
    let files = g.F.Shelf.files c.args.files.now in
    let name = c.args.name.now in
    let derived = c.parts.derived in
    let counts = c.args.counts.now in
    let slots = c.args.reach.slots in
    let rows = c.args.reach.rows in
    let piece = c.in-Ok.piece in
    let next = c.in-Ok.ensures.piece in
    let is = c.in_ok-add_piece-in-Ok.ensures.ok in
    let fewer = c.is_short.ensures.0 c.parts-test.true in
    record {
      same = cc;
      readable = cc;
      writable = cc;
      no_write = cc;
      later = omega arith;
      kept = subst (ArePartsKept slots rows) (sym is) (piece_kept slots rows derived counts piece i.kept next);
      filling = subst (λ d. IsFilling d counts) (sym is) (piece_filling slots rows derived counts piece i.filling fewer next);
      head = subst (HasHead c.args.derived.now) (sym is) (piece_head c.args.derived.now derived piece i.head);
      goes = λ start number lines passed.
          let goes = subst (λ (f : Option FileMap). (s n : ℕ) (ls : List TailLine) → HasPassed f name s n ls c.parts.walk → HasPassed f name s n (ls ++ piece_line piece ∷ []) c.next_piece.new.walk) i.same c.in-Ok.ensures.goes in
          let same = append_assoc lines (part_lines derived) (piece_line piece ∷ []) ∙ ap (λ w. lines ++ w) (sym (piece_lines slots rows derived counts piece i.filling next)) in
          subst (λ d. HasPassed files name start number (lines ++ part_lines d) c.next_piece.new.walk) (sym is)
          (subst (λ ls. HasPassed files name start number ls c.next_piece.new.walk) same (goes start number (lines ++ part_lines derived) (i.goes start number lines passed)));
    }

pub returns-in-Err-clause-bad : goal.returns-in-Err-clause-bad
returns-in-Err-clause-bad g c defect is start number lines passed =
    let i = c.parts.invariant in
    let name = c.args.name.now in
    let derived = c.parts.derived in
    let own : c.in-Err.halt ≡ halt.Bad defect = cc in
    let at = lines ++ part_lines derived in
    let there = subst (λ (f : Option FileMap). HasPassed f name start number at c.parts.walk) (sym i.same) (i.goes start number lines passed) in
    let bad = c.in-Err.ensures.bad defect (ap Err own) start number at there in
    record {
      parts = derived;
      head = i.head;
      kept = i.kept;
      filling = i.filling;
      fewer = c.is_short.ensures.0 c.parts-test.true;
      bad = subst (λ (f : Option FileMap). HasBadPart f name start number c.args.reach.slots c.args.reach.rows derived (next_part derived c.args.counts.now) at defect) i.same bad;
    }
