-- The log has come to its end without a defect, or its first was read; else the reader has read one part more.
use Rattle.std.proofs.Common.{◌≡◌, ◌∙◌, ℕ, List, [], ◌∷◌, ◌++◌, Option, None, Some, IfSome, refl, subst, arith}
use Rattle.stn_edge.specs.Files.{FileMap, file_of}
use Rattle.log_lines.specs.declared.grammar.Limits.{Limits}
use Rattle.log_lines.specs.TextDefect.{log_text_defect}
use Rattle.row_relax.specs.RowProofs.{RowItem}
use Rattle.proof_log.specs.declared.claim.Claim.{Claim}
use Rattle.proof_log.specs.Behind.{behind}
use Rattle.proof_log.specs.LogReading.{IsClean, IsPartAfter}
use Rattle.proof_log.proofs.scan.first_defect.Goals as goal
use Rattle.proof_log.proofs.scan.first_defect.Goals.{in-Item, in-Claim}

-- a log without a defect has none
no_defect : (told : Option FileMap) (name : List ℕ) (version head : ℕ) (limits : Limits) (own : ℕ) (items : List RowItem) (made : Claim) → IfSome told (λ m. IsClean limits (behind version head (file_of m name)) own items made)
    → IfSome told (λ m. log_text_defect limits (behind version head (file_of m name)) ≡ None)
no_defect None name version head limits own items made is = tt
no_defect (Some m) name version head limits own items made is = is.clean

pub parts-init : goal.parts-init
parts-init g c = record {
  same = refl;
  readable = refl;
  writable = refl;
  no_write = refl;
  later = omega arith;
  read = ([], None, c.in_ok-reader.ensures (g.F.Shelf.files c.args.files.now) c.args.name.now);
}

pub returns-in-End-clause-defect : goal.returns-in-End-clause-defect
returns-in-End-clause-defect g c =
    let inv = c.parts.invariant in
    let read = inv.read in
    let told = g.F.Shelf.files c.parts.files in
    let part = subst (IsPartAfter told c.args.name.now c.args.version c.args.head c.args.limits read.0 read.1 c.next.new.self) c.in-End.is (c.in_ok-next.ensures.part c.args.version c.args.head c.args.limits read.0 read.1 read.2) in
    subst (λ t. IfSome t (λ m. log_text_defect c.args.limits (behind c.args.version c.args.head (file_of m c.args.name.now)) ≡ None)) inv.same
    (no_defect told c.args.name.now c.args.version c.args.head c.args.limits c.in-End.version read.0 part.1.0 part.1.2)

pub returns-in-Bad-clause-defect : goal.returns-in-Bad-clause-defect
returns-in-Bad-clause-defect g c =
    let inv = c.parts.invariant in
    let read = inv.read in
    let told = g.F.Shelf.files c.parts.files in
    subst (λ t. IfSome t (λ m. log_text_defect c.args.limits (behind c.args.version c.args.head (file_of m c.args.name.now)) ≡ Some (c.in-Bad.defect.line, c.in-Bad.defect.kind))) inv.same
    (subst (IsPartAfter told c.args.name.now c.args.version c.args.head c.args.limits read.0 read.1 c.next.new.self) c.in-Bad.is (c.in_ok-next.ensures.part c.args.version c.args.head c.args.limits read.0 read.1 read.2))

pub parts-preserved : goal.parts-preserved
parts-preserved g c =
    let inv = c.parts.invariant in
    let read = inv.read in
    let still = c.in_ok-next.ensures.frame.same in
    let told = g.F.Shelf.files c.parts.files in
    let part = c.in_ok-next.ensures.part c.args.version c.args.head c.args.limits read.0 read.1 read.2 in
    record {
      same = still ∙ inv.same;
      readable = c.in_ok-next.ensures.frame.readable ∙ inv.readable;
      writable = c.in_ok-next.ensures.frame.writable ∙ inv.writable;
      no_write = c.in_ok-next.ensures.frame.no_write ∙ inv.no_write;
      later = omega (arith, inv.later, c.in_ok-next.ensures.frame.later);
      read = elim c.match-branch-3.branch [
        | in-Item w ↦
            let own = subst (IsPartAfter told c.args.name.now c.args.version c.args.head c.args.limits read.0 read.1 c.next.new.self) w.in-Item.is part in
            rw still (read.0 ++ w.in-Item.item ∷ [], None, own.4)
        | in-Claim w ↦
            let own = subst (IsPartAfter told c.args.name.now c.args.version c.args.head c.args.limits read.0 read.1 c.next.new.self) w.in-Claim.is part in
            rw still (read.0, Some w.in-Claim.claim, own.3)
      ];
    }
