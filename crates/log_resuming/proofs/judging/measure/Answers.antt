-- Both logs were read side by side.
use Rattle.std.proofs.Common.{Option, subst}
use Rattle.std.specs.Prelude.{IfSome}
use Rattle.stn_edge.specs.Files.{file_of}
use Rattle.log_growth.specs.declared.counts.Growth.{Growth}
use Rattle.log_growth.specs.Logs.{AreGrown}
use Rattle.log_resuming.proofs.Judgements.{measured}
use Rattle.log_resuming.proofs.judging.measure.Goals as goal

pub returns-in-Some-clause-measured : goal.returns-in-Some-clause-measured
returns-in-Some-clause-measured g c =
    let told = g.F.Shelf.files c.args.files.now in
    let name = c.args.going.log.now in
    let out = c.args.going.out.now in
    let log = c.args.opened.now in
    let right = c.is_right.ensures in
    let yes = c.if-is_right.true in
    let are = subst (λ (o : Option Growth). IfSome o (λ own. IfSome told (λ m. AreGrown c.args.most log.rows c.profit_of.result c.args.going.share c.front_of-log.result c.front_of-out.result (file_of m name) (file_of m out) own))) c.in-Some.is c.in_ok-growth.ensures.grown in
    measured c.args.most told name out c.args.going.budget c.args.going.share log c.args.head.now c.args.claims.old.now c.args.claims.new.now c.in-Some.growth (rw (c.profit_of.ensures, c.front_of-log.ensures, c.front_of-out.ensures) at are) (right.within yes) (right.exactly yes) (right.profit yes) (right.cap yes)
